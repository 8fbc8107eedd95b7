-- The sizes of what is declared with dimensions (Language Guide, "Arrays"), the outermost first.
use Rattle.std.specs.Prelude.{ℕ, suc, ℤ, pos, ◌+ℤ◌, true, false, List, [], ◌∷◌, map, Option, Some}
use Rattle.std.specs.Prelude.{None}
use Rattle.pawn_cells.specs.declared.place.Place.{Place}
use Rattle.pawn_cells.specs.Cells.{floor_quotient}
use Rattle.pawn_tree.specs.Expressions.{Expr, Text, Paren, Tagged}
use Rattle.pawn_tree.specs.Variables.{Dim, Open, Cells, Chars, Init, Inits, Value, Braces, no_inits}
use Rattle.pawn_tree.specs.Variables.{then_init}
use Rattle.names_rules.specs.Verdict.{Verdict, Stands, after}
use Rattle.names_rules.specs.Known.{Known}
use Rattle.names_rules.specs.Around.{Around}
use Rattle.names_rules.specs.Worth.{worth, not_constant, text_cells}

-- how many values stand in braces
abbrev pub init_count : Inits → ℕ
init_count no_inits = 0
init_count (then_init x xs) = suc (init_count xs)

module _ (around : Around) (place : Place) (means : List ℕ → Option Known) where
  -- a size that a constant expression gives
  abbrev pub constant_size : Expr → Verdict ℤ
  constant_size x = after (worth around place means x) (λ size. Stands size.value)

  -- a size in characters is that of the cells that hold them
  abbrev pub character_size : Expr → Verdict ℤ
  character_size x =
      after (constant_size x) (λ size. Stands (floor_quotient (size +ℤ pos 3) (pos 4)))

  -- a size that has to be given
  abbrev pub dim_size : Dim → Verdict ℤ
  dim_size Open = not_constant around place
  dim_size (Cells x) = constant_size x
  dim_size (Chars x) = character_size x

  -- ---- variables

  -- a text gives its cells, also in parentheses and behind a tag
  abbrev pub expr_gives : Expr → Verdict ℤ
  expr_gives (Text at bytes packed) = Stands (pos (text_cells bytes packed))
  expr_gives (Paren at x) = expr_gives x
  expr_gives (Tagged at tag x) = expr_gives x
  expr_gives _ = not_constant around place

  -- a list gives the count of its values, but none that goes on
  abbrev pub init_gives : Init → Verdict ℤ
  init_gives (Value x) = expr_gives x
  init_gives (Braces at xs true) = not_constant around place
  init_gives (Braces at xs false) = Stands (pos (init_count xs))

  -- a first size that isn't written: that of the first value
  abbrev pub given_size : Option Init → Verdict ℤ
  given_size None = not_constant around place
  given_size (Some init) = init_gives init

  -- the first size may be left out where a value gives it
  abbrev pub first_size : Dim → Option Init → Verdict ℤ
  first_size Open init = given_size init
  first_size (Cells x) init = constant_size x
  first_size (Chars x) init = character_size x

  -- the sizes of a variable, none for one cell
  abbrev pub variable_sizes : List Dim → Option Init → List (Verdict ℤ)
  variable_sizes [] init = []
  variable_sizes (dim ∷ dims) init = first_size dim init ∷ map dim_size dims

  -- ---- parameters

  -- the first size of an open array is 0
  abbrev pub open_size : Dim → Verdict ℤ
  open_size Open = Stands (pos 0)
  open_size (Cells x) = constant_size x
  open_size (Chars x) = character_size x

  -- the sizes of a parameter, of which the first one may be unknown
  abbrev pub parameter_sizes : List Dim → List (Verdict ℤ)
  parameter_sizes [] = []
  parameter_sizes (dim ∷ dims) = open_size dim ∷ map dim_size dims
