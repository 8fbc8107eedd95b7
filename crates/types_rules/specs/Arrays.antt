-- An array variable: its sizes, of which the first may come from its values, and its first cells.
use Rattle.std.specs.Prelude.{ℕ, ◌+◌, ℤ, List, [], ◌∷◌, ◌++◌, length, true, false, Option, None}
use Rattle.std.specs.Prelude.{Some}
use Rattle.pawn_tree.specs.declared.name.At.{At}
use Rattle.pawn_tree.specs.Variables.{Dim, Init, Value, Braces, Inits, no_inits, then_init}
use Rattle.types_rules.specs.declared.fault.TheConstants.{CONSTANT_NEEDED, SIZES_DIFFER}
use Rattle.names_rules.specs.Verdict.{Verdict, Stands, after}
use Rattle.types_rules.specs.Rule.{broken}
use Rattle.types_rules.specs.Around.{Around}
use Rattle.types_rules.specs.Scope.{Scope}
use Rattle.types_rules.specs.Expressions.{expr}
use Rattle.types_rules.specs.Sizes.{dimensions, within}
use Rattle.types_rules.specs.FirstValues.{literal_in, cells_or_zeros}

-- the sizes of an array, and what they warn of
pub record Shaped : Type 0 where
  pub sizes : List ℕ
  pub warned : List At

-- an array with its first cells, and what its sizes and values warn of, in token order
pub record ArrayValue : Type 0 where
  pub sizes : List ℕ
  pub cells : List ℤ
  pub warned : List At

-- how many values a list has
abbrev pub count : Inits → ℕ
count no_inits = 0
count (then_init x xs) = 1 + count xs

module _ (cx : Around) (scope : Scope) (at : At) where
  -- ---- the first size from the values

  -- a text gives the size of one dimension alone
  abbrev pub text_size : List ℕ → Option (List ℤ) → Verdict ℕ
  text_size inner None = broken CONSTANT_NEEDED at
  text_size [] (Some values) = Stands (length values)
  text_size (size ∷ inner) (Some values) = broken SIZES_DIFFER at

  -- a list does where it doesn't go on
  abbrev pub size_from : List ℕ → Init → Verdict ℕ
  size_from inner (Value e) = after (expr cx scope 0 e) (λ x. text_size inner (literal_in x x.form))
  size_from inner (Braces braces xs true) = broken CONSTANT_NEEDED at
  size_from inner (Braces braces xs false) = Stands (count xs)

  -- the first size: the one given, else that of the first values
  abbrev pub first_size : List ℕ → Option ℕ → Option Init → Verdict ℕ
  first_size inner (Some size) init = Stands size
  first_size inner None None = broken CONSTANT_NEEDED at
  first_size inner None (Some init) = size_from inner init

  -- ---- the whole

  -- the sizes of an array with these dimensions and values
  abbrev pub shaped : Dim → List Dim → Option Init → Verdict Shaped
  shaped dim dims init =
      after (dimensions cx scope at dim dims) (λ it.
      after (first_size it.inner it.first init) (λ first.
      after (within at (first ∷ it.inner))
      (λ sizes. Stands (record { sizes = sizes; warned = it.warned }))))

  -- an array of a tag with these dimensions and values
  abbrev pub array_value : ℕ → Dim → List Dim → Option Init → Verdict ArrayValue
  array_value tag dim dims init =
      after (shaped dim dims init) (λ it.
      after (cells_or_zeros cx scope at tag it.sizes init) (λ values.
      Stands (record {
        sizes = it.sizes;
        cells = values.cells;
        warned = it.warned ++ values.warned;
      })))
