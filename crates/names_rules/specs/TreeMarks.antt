-- The marks of a tree. Functions are no marks, since they are known everywhere. The parameters of a
-- function are a block around its body (Language Guide, "Functions").
use Rattle.std.specs.Prelude.{ℕ, suc, true, false, List, [], ◌∷◌, Option, Some, None}
use Rattle.pawn_cells.specs.declared.place.Place.{Place}
use Rattle.pawn_tree.specs.declared.name.Name.{Name}
use Rattle.pawn_tree.specs.Expressions.{Expr}
use Rattle.pawn_tree.specs.Declarations.{Item, Param, Plain, Rest, Head, Decl, Variables, Constant}
use Rattle.pawn_tree.specs.Declarations.{Enum, Native, Forward, Function, Tree}
use Rattle.names_rules.specs.Mark as mark
use Rattle.names_rules.specs.Mark.{Mark, Opens, Closes, Declares, Sort}
use Rattle.names_rules.specs.Lists.{all_marks, maybe_marks}
use Rattle.names_rules.specs.ExpressionMarks.{expr_marks}
use Rattle.names_rules.specs.VariableMarks.{tag_marks, dim_marks, var_marks}
use Rattle.names_rules.specs.StatementMarks.{constant_marks, stmt_marks}

-- ---- enumerations

-- a constant of an enumeration: its value where it has one, and the constant before it
abbrev pub item_sort : Option Expr → Option Name → Sort
item_sort (Some value) last = mark.Constant value
item_sort None None = mark.First
item_sort None (Some last) = mark.Next last.bytes

-- of a constant of an enumeration, which is declared behind its value
abbrev pub item_marks : Place → Option Name → Option Name → Item → List Mark → List Mark
item_marks place tag last x before =
    Declares (record {
      name = x.name;
      place = place;
      tag = tag;
      outside = true;
      sort = item_sort x.value last;
    })
    ∷ maybe_marks expr_marks x.value before

-- the name of an enumeration, behind so many constants
abbrev pub label_marks : Place → Option Name → Option Name → ℕ → List Mark → List Mark
label_marks place None last count before = before
label_marks place (Some name) None count before = before
label_marks place (Some name) (Some last) count before =
    Declares (record {
      name = name;
      place = place;
      tag = Some name;
      outside = true;
      sort = mark.Label last.bytes count;
    })
    ∷ before

-- the constants that are left, behind the last one of so many, and then the enumeration's name
abbrev pub items_marks : Place → Option Name → Option Name → ℕ → List Item → List Mark → List Mark
items_marks place name last count [] before = label_marks place name last count before
items_marks place name last count (x ∷ xs) before =
    items_marks place name (Some x.name) (suc count) xs (item_marks place name last x before)

-- ---- functions

-- a parameter has the first of its tags
abbrev pub first_tag : List Name → Option Name
first_tag [] = None
first_tag (tag ∷ tags) = Some tag

-- of a parameter, which is declared behind its default
abbrev pub param_marks : Place → Param → List Mark → List Mark
param_marks place (Plain constant reference tags name dims value) before =
    Declares (record {
      name = name;
      place = place;
      tag = first_tag tags;
      outside = false;
      sort = mark.Parameter dims;
    })
    ∷ maybe_marks expr_marks value (all_marks dim_marks dims (all_marks tag_marks tags before))
param_marks place (Rest at tags) before = all_marks tag_marks tags before

-- a head, whose parameters begin a block
abbrev pub head_marks : Place → Head → List Mark → List Mark
head_marks place x before =
    all_marks (param_marks place) x.params (Opens ∷ maybe_marks tag_marks x.tag before)

-- ---- the whole

-- of a declaration: a head is a block, which ends behind the body if it has one
abbrev pub decl_marks : Decl → List Mark → List Mark
decl_marks (Variables at x) before = all_marks (var_marks at.place true) x.vars before
decl_marks (Constant at x) before = constant_marks at.place true x before
decl_marks (Enum at name items) before =
    items_marks at.place name None 0 items (maybe_marks tag_marks name before)
decl_marks (Native at x) before = Closes ∷ head_marks at.place x before
decl_marks (Forward at is_public x) before = Closes ∷ head_marks at.place x before
decl_marks (Function at x) before = Closes ∷ stmt_marks x.body (head_marks at.place x.head before)

-- of all declarations of a source
abbrev pub tree_marks : Tree → List Mark
tree_marks tree = all_marks decl_marks tree []
