-- The marks of variables: a declaration ends behind its first value.
use Rattle.std.specs.Prelude.{Bool, List, ◌∷◌}
use Rattle.pawn_cells.specs.declared.place.Place.{Place}
use Rattle.pawn_tree.specs.declared.name.Name.{Name}
use Rattle.pawn_tree.specs.Variables.{Dim, Open, Cells, Chars, Init, Inits, Value, Braces, no_inits}
use Rattle.pawn_tree.specs.Variables.{then_init, Var}
use Rattle.names_rules.specs.Mark.{Mark, Mentions, Declares, Variable}
use Rattle.names_rules.specs.Lists.{all_marks, maybe_marks}
use Rattle.names_rules.specs.ExpressionMarks.{expr_marks}

-- a tag that is written is mentioned
abbrev pub tag_marks : Name → List Mark → List Mark
tag_marks tag before = Mentions tag.bytes ∷ before

-- of a dimension's expression
abbrev pub dim_marks : Dim → List Mark → List Mark
dim_marks Open before = before
dim_marks (Cells x) before = expr_marks x before
dim_marks (Chars x) before = expr_marks x before

abbrev mutual
  -- of a first value
  pub init_marks : Init → List Mark → List Mark
  init_marks (Value x) before = expr_marks x before
  init_marks (Braces at xs rest) before = inits_marks xs before

  -- of the values in braces
  pub inits_marks : Inits → List Mark → List Mark
  inits_marks no_inits before = before
  inits_marks (then_init x xs) before = inits_marks xs (init_marks x before)

-- the parts of a variable
abbrev pub var_parts : Var → List Mark → List Mark
var_parts x before =
    maybe_marks init_marks x.init (all_marks dim_marks x.dims (maybe_marks tag_marks x.tag before))

-- a variable of a node at a place, outside all functions or in one
abbrev pub var_marks : Place → Bool → Var → List Mark → List Mark
var_marks place outside x before =
    Declares (record {
      name = x.name;
      place = place;
      tag = x.tag;
      outside = outside;
      sort = Variable x.dims x.init;
    })
    ∷ var_parts x before
