-- The values of a `switch` (Language Guide, "Statements"): constants and ranges, none of which
-- stands twice.
use Rattle.std.specs.Prelude.{ℕ, ℤ, List, [], ◌∷◌, ◌++◌, Bool, false, ◌&&◌, ◌||◌, if◌then◌else◌}
use Rattle.std.specs.Prelude.{int_lt, int_le, Option, None, Some}
use Rattle.std.specs.List.{list_any}
use Rattle.pawn_tree.specs.declared.name.At.{At}
use Rattle.pawn_tree.specs.Statements.{Range}
use Rattle.pawn_tree.specs.Expressions.{Expr}
use Rattle.types_rules.specs.declared.fault.TheConstants.{CASE_TWICE}
use Rattle.names_rules.specs.Verdict.{Verdict, Stands, after, both}
use Rattle.types_rules.specs.Rule.{broken}
use Rattle.types_rules.specs.Typed.{Typed}
use Rattle.types_rules.specs.Around.{Around}
use Rattle.types_rules.specs.Scope.{Scope}
use Rattle.types_rules.specs.Expressions.{expr}
use Rattle.types_rules.specs.Constants.{Constant, constant_rule, constant_warned}

-- ranges from a least to a greatest value, and what they warn of
pub record Labels : Type 0 where
  pub ranges : List (ℤ × ℤ)
  pub warned : List At

-- two ranges have a value in common
abbrev pub meet : ℤ × ℤ → ℤ × ℤ → Bool
meet x y = int_le x.0 y.1 && int_le y.0 x.1

-- some value stands twice
abbrev pub has_twice : List (ℤ × ℤ) → Bool
has_twice [] = false
has_twice (range ∷ more) = list_any (meet range) more || has_twice more

-- a range ends below its start
abbrev pub is_empty : ℤ × ℤ → Bool
is_empty range = int_lt range.1 range.0

-- the ranges of all cases of a `switch`
abbrev pub apart : At → List (ℤ × ℤ) → Verdict (List (ℤ × ℤ))
apart at ranges =
    if list_any is_empty ranges || has_twice ranges then broken CASE_TWICE at else Stands ranges

-- the ends of a range: a single value has one
pub record Ends : Type 0 where
  pub first : Typed
  pub last : Option Typed

module _ (cx : Around) (scope : Scope) where
  -- the end of a range, which a single value has none of
  abbrev pub last_part : Option Expr → Verdict (Option Typed)
  last_part None = Stands None
  last_part (Some e) = after (expr cx scope 0 e) (λ x. Stands (Some x))

  -- the expressions that a value or range of a case is made of
  abbrev pub ends : Range → Verdict Ends
  ends range =
      both (expr cx scope 0 range.first) (last_part range.last)
      (λ x y. Stands (record { first = x; last = y }))

-- each end is tested against the value that is switched on, which has this tag
module _ (cx : Around) (at : At) (tag : ℕ) where
  -- a single value, a range from and to itself
  abbrev pub one_value : Constant → Labels
  one_value it = record { ranges = (it.value, it.value) ∷ []; warned = constant_warned cx tag it }

  -- a range by its ends
  abbrev pub two_values : Constant → Constant → Labels
  two_values x y =
      record {
        ranges = (x.value, y.value) ∷ [];
        warned = constant_warned cx tag x ++ constant_warned cx tag y;
      }

  -- the value or range of a case, each end a constant expression
  abbrev pub label_by : Typed → Option Typed → Verdict Labels
  label_by first None = after (constant_rule at first) (λ x. Stands (one_value x))
  label_by first (Some last) =
      both (constant_rule at first) (constant_rule at last) (λ x y. Stands (two_values x y))

  -- the values of a case
  unfoldable pub labels : List Ends → Verdict Labels
  labels [] = Stands (record { ranges = []; warned = [] })
  labels (range ∷ more) =
      both (label_by range.first range.last) (labels more) (λ x y.
      Stands (record { ranges = x.ranges ++ y.ranges; warned = x.warned ++ y.warned }))
