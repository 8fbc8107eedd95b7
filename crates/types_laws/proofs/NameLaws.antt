-- The names of a program that stands.
use Rattle.std.proofs.Common.{◌≡◌, ◌+◌, ◌≤◌, List, [], ◌∷◌, ◌++◌, refl, sym, subst, arith}
use Rattle.std.specs.Prelude.{length, map, IsSorted}
use Rattle.std.specs.Ordering.{nat_cmp}
use Rattle.std.specs.Cmp.Lexicographic.{slice_cmp}
use Rattle.pawn_tree.specs.declared.declaration.HeadName.{HeadName}
use Rattle.pawn_tree.specs.declared.declaration.HeadName.TheVariants as called
use Rattle.pawn_tree.specs.Declarations.{Variables, Constant, Enum, Native, Forward, Function, Tree}
use Rattle.pawn_meaning.specs.Program.{Public, Program}
use Rattle.pawn_meaning.specs.ProgramNames.{IsName, names_of, HasNames}
use Rattle.names_rules.specs.TreeMarks.{tree_marks}
use Rattle.types_rules.specs.Groups.{written}
use Rattle.types_rules.specs.Headings.{headings, public_name}
use Rattle.types_rules.specs.Paths.{heads}
use Rattle.types_rules.specs.Sources.{Source, Stated, name_of, source_of, all_stated, around_of}
use Rattle.types_rules.specs.Sources.{without_heads, beginning}
use Rattle.types_rules.specs.Programs.{natives, program_of}
use Rattle.types_rules.specs.Publics.{publics}
use Rattle.types_laws.specs.SortedPublics.{PublicsAreSorted}
use Rattle.types_laws.proofs.Facts.{each_append, each_all}
use Rattle.types_laws.proofs.LimitLaws.{program_done}
use Rattle.types_laws.specs.NamedPrograms.{ProgramsHaveNames, TagsAreFew}
use Rattle.types_laws.proofs.Sizes.{upto_all, sizes_append, sizes_sum}
use Rattle.types_laws.proofs.TreeCounts.{own_sizes, tree_counts, tree_named}
use Rattle.types_laws.proofs.TagNames.{tag_names, tags_size, tags_named, tags_count}
use Rattle.types_laws.proofs.FunctionNames.{written_sizes, public_names, publics_named}
use Rattle.types_laws.proofs.FunctionNames.{publics_size}
use Rattle.types_laws.proofs.NativeNames.{heading_sizes, all_plain, headings_named, natives_size}
use Rattle.types_laws.proofs.NativeNames.{natives_named}

name_size : (name : HeadName) → length (name_of name) ≤ length (public_name name)
name_size (called.Name name) = omega arith
name_size (called.Operator at sign) = omega arith

-- natives and bodies are heads
heads_split : (tree : Tree)
    → written_sizes (written tree) + heading_sizes (headings tree) ≤ own_sizes tree
heads_split [] = omega arith
heads_split (Variables at of ∷ more) = omega (arith, heads_split more)
heads_split (Constant at of ∷ more) = omega (arith, heads_split more)
heads_split (Enum at name items ∷ more) = omega (arith, heads_split more)
heads_split (Native at head ∷ more) = omega (arith, heads_split more, name_size head.name)
heads_split (Forward at is_public head ∷ more) = omega (arith, heads_split more)
heads_split (Function at of ∷ more) = omega (arith, heads_split more)

pub programs_named : PublicsAreSorted → ProgramsHaveNames
programs_named sorted_law ts tree dynamic program warnings tokens parse typed_is =
    let d = program_done tree dynamic program warnings typed_is in
    let source : Source = source_of tree in
    let all : List Stated = all_stated source tree in
    let it : Program = program_of source all (tree_marks tree) dynamic d.it in
    let same : program ≡ it = d.is in
    let sorted =
    subst (λ (p : Program). IsSorted (slice_cmp nat_cmp)
    (map (λ (item : Public). item.name) p.publics))
    same (sorted_law tree dynamic program warnings typed_is) in
    let counts = tree_counts ts tokens.named tree parse.spells in
    let named = tree_named ts tokens.named tree parse.spells in
    let plain =
    (all_plain source (around_of source tree) (beginning source) tree).of d.it d.stands in
    let own = heads (without_heads source) (beginning source) tree in
    let native_names = natives_named source (headings tree) own (headings_named tree plain named) in
    let public_are = publics_named source source.tags source.fallback tree refl named in
    let tag_are = tags_named (tree_marks tree) 0 source.tags counts.named in
    subst HasNames (sym same) (record {
      names = each_all IsName (names_of it)
          (each_append IsName (natives source all)
          (public_names (publics source) ++ tag_names it.tags)
          native_names
          (each_append IsName (public_names (publics source))
          (tag_names it.tags) public_are tag_are));
      bytes = omega (
        arith,
        sizes_sum (names_of it),
        sizes_append (natives source all) (public_names (publics source) ++ tag_names it.tags),
        sizes_append (public_names (publics source)) (tag_names it.tags),
        natives_size source (headings tree) own,
        publics_size source source.tags source.fallback tree refl,
        tags_size (tree_marks tree),
        heads_split tree,
        counts.fits,
        upto_all ts (length ts),
        tokens.bytes,
      );
      sorted = sorted;
    })

pub tags_few : TagsAreFew
tags_few ts tree tokens parse =
    let counts = tree_counts ts tokens.named tree parse.spells in
    omega (
      arith,
      tags_count (tree_marks tree) counts.named,
      counts.fits,
      upto_all ts (length ts),
      tokens.bytes,
    )
