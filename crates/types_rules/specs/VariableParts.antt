-- The expressions in a variable, each judged by itself. A declaration is judged only where they
-- have no fault.
use Rattle.std.specs.Prelude.{List, [], ◌∷◌, Option, None, Some}
use Rattle.pawn_tree.specs.Expressions.{Expr}
use Rattle.pawn_tree.specs.Variables.{Dim, Open, Cells, Chars, Init, Value, Braces, Inits, no_inits}
use Rattle.pawn_tree.specs.Variables.{then_init, Var}
use Rattle.names_rules.specs.Verdict.{Verdict, Stands, after, both}
use Rattle.types_rules.specs.Around.{Around}
use Rattle.types_rules.specs.Scope.{Scope}
use Rattle.types_rules.specs.Expressions.{expr}

-- nothing more than that a part stands
pub data Judged : Type 0 where
  judged : Judged

-- two parts
abbrev pub with_part : Verdict Judged → Verdict Judged → Verdict Judged
with_part first second = both first second (λ x y. Stands judged)

-- all parts of a list
abbrev pub all_parts : {A : Type 0} → (A → Verdict Judged) → List A → Verdict Judged
all_parts part [] = Stands judged
all_parts part (x ∷ more) = with_part (part x) (all_parts part more)

-- a part that may be left out
abbrev pub maybe_judged : {A : Type 0} → (A → Verdict Judged) → Option A → Verdict Judged
maybe_judged part None = Stands judged
maybe_judged part (Some x) = part x

module _ (cx : Around) (scope : Scope) where
  -- whether an expression stands doesn't hang on the objects before it
  abbrev pub expr_part : Expr → Verdict Judged
  expr_part e = after (expr cx scope 0 e) (λ x. Stands judged)

  -- the expression in the brackets, if there is one
  abbrev pub dim_part : Dim → Verdict Judged
  dim_part Open = Stands judged
  dim_part (Cells e) = expr_part e
  dim_part (Chars e) = expr_part e

  abbrev mutual
    -- the expressions in a first value
    pub init_part : Init → Verdict Judged
    init_part (Value e) = expr_part e
    init_part (Braces at xs goes_on) = init_parts xs

    -- of values in braces
    pub init_parts : Inits → Verdict Judged
    init_parts no_inits = Stands judged
    init_parts (then_init x xs) = with_part (init_part x) (init_parts xs)

  -- sizes and values of a variable
  abbrev pub var_part : Var → Verdict Judged
  var_part x = with_part (all_parts dim_part x.dims) (maybe_judged init_part x.init)
