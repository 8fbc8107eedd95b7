-- The plain view of the marks that code holds.
use Rattle.std.specs.Prelude.{List, map, reverse, option_map}
use Rattle.pawn_tree.specs.View.{expr_view, dim_view, init_view}
use Rattle.names_rules.specs.Mark as plain
use Rattle.names_rules.specs.Mark.{Mark}
use Rattle.names_sight.specs.declared.mark.Use as held_use
use Rattle.names_sight.specs.declared.mark.Sort as held_sort
use Rattle.names_sight.specs.declared.mark.Sort.TheVariants as sort
use Rattle.names_sight.specs.declared.mark.Declaration as held_declaration
use Rattle.names_sight.specs.declared.mark.Mark as held
use Rattle.names_sight.specs.declared.mark.Mark.TheVariants as mark

-- an occurrence of a name
abbrev pub use_view : held_use.Use → plain.Use
use_view x = record { name = x.name.now; token = x.token; place = x.place }

-- what a declaration declares
abbrev pub sort_view : held_sort.Sort → plain.Sort
sort_view (sort.Variable dims init) =
    plain.Variable (map dim_view dims.now) (option_map init_view init.now)
sort_view (sort.Parameter dims) = plain.Parameter (map dim_view dims.now)
sort_view (sort.Constant value) = plain.Constant (expr_view value.now)
sort_view sort.First = plain.First
sort_view (sort.Next last) = plain.Next last.now
sort_view (sort.Label last count) = plain.Label last.now count

-- the name with its tag and sort, and whether it stands outside all functions
abbrev pub declaration_view : held_declaration.Declaration → plain.Declaration
declaration_view x = record {
  name = x.name.now;
  place = x.place;
  tag = option_map (λ tag. tag.now) x.tag;
  outside = x.outside;
  sort = sort_view x.sort;
}

-- where blocks begin and end, and tags, occurrences and declarations
abbrev pub mark_view : held.Mark → Mark
mark_view mark.Opens = plain.Opens
mark_view mark.Closes = plain.Closes
mark_view (mark.Mentions tag) = plain.Mentions tag.now
mark_view (mark.Uses x) = plain.Uses (use_view x)
mark_view (mark.Declares x) = plain.Declares (declaration_view x)

-- the marks of a list, the latest first
abbrev pub marks_view : List held.Mark → List Mark
marks_view marks = map mark_view (reverse marks)
