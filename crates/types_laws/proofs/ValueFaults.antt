-- Constants, sizes and first values break only with a fault where nothing that a name means is
-- unknown.
use Rattle.std.proofs.Common.{◌*◌, ℕ, zero, suc, ℤ, pos, negsuc, List, [], ◌∷◌, Bool, true, false}
use Rattle.std.proofs.Common.{Option, None, Some}
use Rattle.pawn_arrays.specs.Sizes.{elements_in}
use Rattle.pawn_tree.specs.declared.name.At.{At}
use Rattle.pawn_tree.specs.Expressions.{Expr}
use Rattle.pawn_tree.specs.Variables.{Dim, Open, Cells, Chars, Init, Value, Braces, Inits, no_inits}
use Rattle.pawn_tree.specs.Variables.{then_init}
use Rattle.names_rules.specs.Verdict.{Verdict}
use Rattle.types_rules.specs.Typed.{Typed}
use Rattle.types_rules.specs.Around.{Around}
use Rattle.types_rules.specs.Scope.{Scope}
use Rattle.types_rules.specs.Constants as constants
use Rattle.types_rules.specs.Sizes.{Dimension, positive_size, dimension, inner_with, inner}
use Rattle.types_rules.specs.Sizes.{dimensions, within, Inner}
use Rattle.types_rules.specs.FirstValues as values
use Rattle.types_rules.specs.FirstValues.{filled, literal_in, text_by, text, whole_value}
use Rattle.types_rules.specs.FirstValues.{value_cell, cell_of_list, cells_of_list, unless_goes_on}
use Rattle.types_rules.specs.FirstValues.{listed, parts, first_cells, rows, cells_or_zeros}
use Rattle.types_rules.specs.Arrays.{text_size, size_from, first_size, shaped, array_value}
use Rattle.types_rules.specs.Cells.{static_rule, static_value, local_value}
use Rattle.types_laws.proofs.Blames.{Blames, stood, blamed, when, blames_after, blames_both}
use Rattle.types_laws.proofs.PathLaws.{AllMeant}
use Rattle.types_laws.proofs.RuleFaults.{IsKnown, cell_blames}
use Rattle.types_laws.proofs.CallFaults.{expr_blames}

-- ---- constants

constant_by_blames : (at : At) (x : Typed) (v : Option ℤ) → Blames (constants.constant_by at x v)
constant_by_blames at x None = blamed _ _
constant_by_blames at x (Some v) = stood _

pub constant_rule_blames : (at : At) (x : Typed) → Blames (constants.constant_rule at x)
unfolding constants.constant_rule
constant_rule_blames at x = constant_by_blames at x x.value

positive_size_blames : (at : At) (v : ℤ) (warned : List At) → Blames (positive_size at v warned)
positive_size_blames at (pos zero) warned = blamed _ _
positive_size_blames at (pos (suc n)) warned = stood _
positive_size_blames at (negsuc n) warned = blamed _ _

filled_blames : (at : At) (size : ℕ) (goes_on : Bool) (it : values.First)
    → Blames (filled at size goes_on it)
filled_blames at size goes_on it = when _ (stood _) (blamed _ _)

pub within_blames : (at : At) (sizes : List ℕ) → Blames (within at sizes)
within_blames at sizes = when _ (stood _) (blamed _ _)

module _ (cx : Around) (path : Scope) (known : AllMeant IsKnown path) (at : At) where
  pub constant_blames : (e : Expr) → Blames (constants.constant cx path at e)
  constant_blames e =
      blames_after (expr_blames cx path known 0 e) (λ x s. constant_rule_blames at x)

  -- ---- sizes

  dimension_blames : (dim : Dim) → Blames (dimension cx path at dim)
  dimension_blames Open = stood _
  dimension_blames (Cells e) =
      blames_after (constant_blames e) (λ it s. positive_size_blames at it.value it.warned)
  dimension_blames (Chars e) =
      blames_after (constant_blames e) (λ it s. positive_size_blames at _ it.warned)

  inner_with_blames : (it : Dimension) (size : Option ℕ) (more : Inner)
      → Blames (inner_with cx path at it size more)
  inner_with_blames it None more = blamed _ _
  inner_with_blames it (Some size) more = stood _

  inner_blames : (dims : List Dim) → Blames (inner cx path at dims)
  inner_blames [] = stood _
  inner_blames (dim ∷ dims) =
      blames_both (dimension_blames dim) (λ it s. inner_blames dims)
      (λ it more s t. inner_with_blames it it.size more)

  pub dimensions_blame : (dim : Dim) (dims : List Dim) → Blames (dimensions cx path at dim dims)
  dimensions_blame dim dims =
      when _ (blames_both (dimension_blames dim) (λ it s. inner_blames dims)
      (λ it more s t. stood _)) (blamed _ _)

  -- ---- arrays

  text_size_blames : (sizes : List ℕ) (it : Option (List ℤ))
      → Blames (text_size cx path at sizes it)
  text_size_blames sizes None = blamed _ _
  text_size_blames [] (Some cells) = stood _
  text_size_blames (size ∷ sizes) (Some cells) = blamed _ _

  size_from_blames : (sizes : List ℕ) (init : Init) → Blames (size_from cx path at sizes init)
  size_from_blames sizes (Value e) =
      blames_after (expr_blames cx path known 0 e)
      (λ x s. text_size_blames sizes (literal_in x x.form))
  size_from_blames sizes (Braces braces xs true) = blamed _ _
  size_from_blames sizes (Braces braces xs false) = stood _

  first_size_blames : (sizes : List ℕ) (first : Option ℕ) (init : Option Init)
      → Blames (first_size cx path at sizes first init)
  first_size_blames sizes (Some size) init = stood _
  first_size_blames sizes None None = blamed _ _
  first_size_blames sizes None (Some init) = size_from_blames sizes init

  shaped_blames : (dim : Dim) (dims : List Dim) (init : Option Init)
      → Blames (shaped cx path at dim dims init)
  shaped_blames dim dims init =
      blames_after (dimensions_blame dim dims) (λ it s.
      blames_after (first_size_blames it.inner it.first init) (λ first t.
      blames_after (within_blames at (first ∷ it.inner)) (λ sizes u. stood _)))

  -- ---- first values

  module _ (tag : ℕ) where
    text_by_blames : (size : ℕ) (x : Typed) (it : Option (List ℤ))
        → Blames (text_by cx path at tag size x it)
    text_by_blames size x None = blamed _ _
    text_by_blames size x (Some cells) = filled_blames at size false _

    whole_blames : (sizes : List ℕ) (e : Expr) → Blames (whole_value cx path at tag sizes e)
    whole_blames [] e = blamed _ _
    whole_blames (size ∷ []) e =
        blames_after (expr_blames cx path known 0 e)
        (λ x s. text_by_blames size x (literal_in x x.form))
    whole_blames (size ∷ next ∷ sizes) e = blamed _ _

    cell_of_list_blames : (init : Init) → Blames (cell_of_list cx path at tag init)
    cell_of_list_blames (Value e) = blames_after (constant_blames e) (λ it s. stood _)
    cell_of_list_blames (Braces braces xs goes_on) = blamed _ _

    cells_of_list_blame : (xs : Inits) → Blames (cells_of_list cx path at tag xs)
    cells_of_list_blame no_inits = stood _
    cells_of_list_blame (then_init x xs) =
        blames_both (cell_of_list_blames x) (λ v s. cells_of_list_blame xs)
        (λ v more s t. stood _)

    goes_on_blames : (goes_on : Bool) (w : Verdict values.First) → Blames w
        → Blames (unless_goes_on cx path at tag goes_on w)
    goes_on_blames true w h = blamed _ _
    goes_on_blames false w h = h

    listed_blames : (sizes : List ℕ) (xs : Inits) (goes_on : Bool) (w : Verdict values.First)
        → Blames w → Blames (listed cx path at tag sizes xs goes_on w)
    listed_blames [] xs goes_on w h = blamed _ _
    listed_blames (size ∷ []) xs goes_on w h =
        blames_after (cells_of_list_blame xs) (λ it s. filled_blames at size goes_on it)
    listed_blames (size ∷ next ∷ sizes) xs goes_on w h =
        goes_on_blames goes_on _
        (blames_after h (λ it s. filled_blames at (size * elements_in (next ∷ sizes)) false it))

    mutual
      first_cells_blame : (sizes : List ℕ) (init : Init)
          → Blames (first_cells cx path at tag sizes init)
      first_cells_blame sizes (Value e) = whole_blames sizes e
      first_cells_blame sizes (Braces braces xs goes_on) =
          listed_blames sizes xs goes_on (rows cx path at tag (parts cx path at tag sizes) xs)
          (rows_blame (parts cx path at tag sizes) xs)

      rows_blame : (sizes : List ℕ) (xs : Inits) → Blames (rows cx path at tag sizes xs)
      rows_blame sizes no_inits = stood _
      rows_blame sizes (then_init x xs) =
          blames_both (first_cells_blame sizes x) (λ v s. rows_blame sizes xs)
          (λ v more s t. stood _)

    cells_or_blame : (sizes : List ℕ) (init : Option Init)
        → Blames (cells_or_zeros cx path at tag sizes init)
    cells_or_blame sizes None = stood _
    cells_or_blame sizes (Some init) = first_cells_blame sizes init

    pub array_value_blames : (dim : Dim) (dims : List Dim) (init : Option Init)
        → Blames (array_value cx path at tag dim dims init)
    array_value_blames dim dims init =
        blames_after (shaped_blames dim dims init) (λ it s.
        blames_after (cells_or_blame it.sizes init) (λ cells t. stood _))

    -- ---- one cell

    static_rule_blames : (x : Typed) → Blames (static_rule cx at tag x)
    static_rule_blames x =
        blames_after (cell_blames at x) (λ c s.
        blames_after (constant_rule_blames at x) (λ it t. stood _))

    pub static_blames : (init : Option Init) → Blames (static_value cx path at tag init)
    static_blames None = stood _
    static_blames (Some (Value e)) =
        blames_after (expr_blames cx path known 0 e) (λ x s. static_rule_blames x)
    static_blames (Some (Braces braces xs goes_on)) = blamed _ _

    pub local_value_blames : (before : ℕ) (init : Option Init)
        → Blames (local_value cx path before at tag init)
    local_value_blames before None = stood _
    local_value_blames before (Some (Value e)) =
        blames_after (expr_blames cx path known before e)
        (λ x s. blames_after (cell_blames at x) (λ c t. stood _))
    local_value_blames before (Some (Braces braces xs goes_on)) = blamed _ _
