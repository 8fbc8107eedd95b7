-- Sizes and first values that stand are good: sizes are 1 or more and within the limit, and there
-- are as many first cells as they say.
use Rattle.std.proofs.Common.{◌≡◌, ◌-◌, ◌*◌, ◌/◌, ◌^◌, ◌<◌, ◌≤◌, ℕ, zero, suc, ℤ, pos, negsuc, ◌+ℤ◌}
use Rattle.std.proofs.Common.{◌<ℤ◌, List, [], ◌∷◌, Bool, true, false, Option, None, Some, refl, sym}
use Rattle.std.proofs.Common.{ap, subst, arith}
use Rattle.std.specs.Prelude.{length, slice_get, nat_le}
use Rattle.std.proofs.lemmas.Bool.{leb-true}
use Rattle.std.proofs.lemmas.Int.{ints}
use Rattle.std.proofs.lemmas.List.{length-append, length-replicate}
use Rattle.pawn_cells.specs.Cells.{IsCell, floor_quotient}
use Rattle.pawn_arrays.specs.Sizes.{cells_of, cell_limit, elements_in}
use Rattle.pawn_tree.specs.declared.name.At.{At}
use Rattle.pawn_tree.specs.Expressions.{Expr}
use Rattle.pawn_tree.specs.Variables.{Dim, Open, Cells, Chars, Init, Value, Braces, Inits, no_inits}
use Rattle.pawn_tree.specs.Variables.{then_init}
use Rattle.pawn_meaning.specs.Program.{StaticObject}
use Rattle.pawn_meaning.specs.Valid.{AreSizes}
use Rattle.pawn_meaning.specs.Limits.{IsWithinArray}
use Rattle.names_rules.specs.Verdict.{Verdict}
use Rattle.types_rules.specs.Typed.{Typed, Form, cell}
use Rattle.types_rules.specs.Typed as typed
use Rattle.types_rules.specs.Around.{Around}
use Rattle.types_rules.specs.Scope.{Scope}
use Rattle.types_rules.proofs.VerdictLaws.{Holds, stands_itself, breaks_holds, holds_after}
use Rattle.types_rules.proofs.VerdictLaws.{holds_both, holds_all}
use Rattle.types_rules.specs.Constants as constants
use Rattle.types_rules.specs.Sizes.{Dimension, Inner, Dimensions, positive_size, cells_for}
use Rattle.types_rules.specs.Sizes.{dimension, inner_with, inner, dimensions, within}
use Rattle.types_rules.specs.FirstValues as values
use Rattle.types_rules.specs.FirstValues.{no_cells, last_of, step_of, further, missing, filled_to}
use Rattle.types_rules.specs.FirstValues.{filled, object_cells, literal_in, text_by, text}
use Rattle.types_rules.specs.FirstValues.{whole_value, value_cell, cell_of_list, cells_of_list}
use Rattle.types_rules.specs.FirstValues.{unless_goes_on, listed, parts, first_cells, rows}
use Rattle.types_rules.specs.FirstValues.{cells_or_zeros}
use Rattle.types_rules.specs.Arrays.{Shaped, ArrayValue, count, text_size, size_from, first_size}
use Rattle.types_rules.specs.Arrays.{shaped, array_value}
use Rattle.types_rules.specs.Cells.{static_rule, static_value}
use Rattle.types_rules.specs.Points.{extent_of}
use Rattle.types_laws.specs.Meant.{AreCells}
use Rattle.types_laws.specs.Objects.{Each, IsGoodObject}
use Rattle.types_laws.specs.Written.{IsWritten, IsAnyName, IsWrittenDim, IsConstantInit}
use Rattle.types_laws.specs.Written.{AreConstantInits, IsWrittenInit}
use Rattle.types_laws.specs.GoodArrays.{ArraysAreGood}
use Rattle.types_laws.specs.Plain.{IsValue, IsPlainPath, HasTags}
use Rattle.pawn_cells.proofs.CellLaws.{wrap_cell, small_cell}
use Rattle.types_laws.proofs.Facts.{holds_as, when_holds, each_append, each_all, all_each}
use Rattle.types_laws.proofs.Facts.{each_replicate}
use Rattle.types_laws.proofs.RuleValues.{HasText}
use Rattle.types_laws.proofs.ExpressionValues.{expr_plain}

-- ---- constants

pub record PlainConstant (it : constants.Constant) : Type 0 where
  pub value : IsCell it.value

constant_by_plain : (at : At) (x : Typed) (v : Option ℤ) → IsValue v
    → Holds PlainConstant (constants.constant_by at x v)
constant_by_plain at x None h = breaks_holds _ _
constant_by_plain at x (Some v) h = stands_itself _ _ (record { value = h })

pub constant_rule_plain : (at : At) (x : Typed) → IsValue x.value
    → Holds PlainConstant (constants.constant_rule at x)
unfolding constants.constant_rule
constant_rule_plain at x h = constant_by_plain at x x.value h

-- ---- sizes

pub record IsSize (size : ℕ) : Type 0 where
  pub least : 1 ≤ size
  pub cell : IsCell (pos size)

pub record GoodDimension (it : Dimension) : Type 0 where
  pub size : (n : ℕ) → it.size ≡ Some n → IsSize n

pub record GoodInner (n : ℕ) (it : Inner) : Type 0 where
  pub sizes : Each IsSize it.sizes
  pub count : length it.sizes ≡ n

pub record GoodDimensions (it : Dimensions) : Type 0 where
  pub first : (n : ℕ) → it.first ≡ Some n → 1 ≤ n
  pub inner : Each IsSize it.inner
  pub count : length it.inner ≤ 2

positive_size_good : (at : At) (v : ℤ) (warned : List At) → IsCell v
    → Holds GoodDimension (positive_size at v warned)
positive_size_good at (pos zero) warned h = breaks_holds _ _
positive_size_good at (pos (suc n)) warned h =
    stands_itself _ _ (record {
      size = λ m e. let same : suc n ≡ m = cc in
          subst IsSize same (record { least = omega arith; cell = h });
    })
positive_size_good at (negsuc n) warned h = breaks_holds _ _

-- so many characters, and three more, are as many cells or fewer
abbrev IsFew : ℤ → Type 0
IsFew (pos n) = n < 2 ^ 32
IsFew (negsuc n) = Unit {0}

few_by : (s : ℤ) → s <ℤ pos (2 ^ 32) → IsFew s
few_by (pos n) h = omega (arith, ints, h)
few_by (negsuc n) h = tt

quotient_good : (at : At) (s : ℤ) (warned : List At) → IsFew s
    → Holds GoodDimension (positive_size at (floor_quotient s (pos 4)) warned)
quotient_good at (pos n) warned h =
    positive_size_good at (pos (n / 4)) warned (small_cell (n / 4) (omega (arith, h)))
quotient_good at (negsuc n) warned h = breaks_holds _ _

chars_good : (at : At) (v : ℤ) (warned : List At) → IsCell v
    → Holds GoodDimension (positive_size at (cells_for v) warned)
chars_good at v warned h =
    quotient_good at (v +ℤ pos 3) warned (few_by (v +ℤ pos 3) (omega (arith, ints, h)))

-- ---- shapes

pub record GoodShape (sizes : List ℕ) : Type 0 where
  pub dims : AreSizes sizes
  pub within : IsWithinArray sizes
  pub reach : AreCells (extent_of sizes)

each_least : (sizes : List ℕ) → Each IsSize sizes → Each (λ size. 1 ≤ size) sizes
each_least [] h = tt
each_least (size ∷ more) h = (h.0.least, each_least more h.1)

pub each_at : {A : Type 0} (P : A → Type 0) (xs : List A) (i : ℕ) (x : A) → Each P xs
    → slice_get xs i ≡ Some x → P x
each_at P [] i x h e = absurd (let no : ⊥ = cc in no)
each_at P (y ∷ ys) zero x h e = let same : y ≡ x = cc in subst P same h.0
each_at P (y ∷ ys) (suc i) x h e = each_at P ys i x h.1 e

pub shape_good : (first : ℕ) (sizes : List ℕ) → 1 ≤ first → Each IsSize sizes → length sizes ≤ 2
    → cells_of (first ∷ sizes) ≤ cell_limit → GoodShape (first ∷ sizes)
shape_good first sizes h hs few most = record {
  dims = (omega arith, omega (arith, few));
  within = record {
    least = each_all (λ size. 1 ≤ size) (first ∷ sizes) (h, each_least sizes hs);
    most = most;
  };
  reach = record {
    first = small_cell first (omega (arith, most));
    inner = λ i size e. (each_at IsSize sizes i size hs e).cell;
  };
}

product_least : (a b : ℕ) → 1 ≤ a → 1 ≤ b → 1 ≤ a * b
product_least zero b h k = absurd (omega (arith, h))
product_least (suc a) zero h k = absurd (omega (arith, k))
product_least (suc a) (suc b) h k = omega arith

elements_least : (sizes : List ℕ) → Each (λ size. 1 ≤ size) sizes → 1 ≤ elements_in sizes
elements_least [] h = omega arith
elements_least (size ∷ more) h = product_least size _ h.0 (elements_least more h.1)

-- ---- the cells of a literal

pub record GoodText (vs : List ℤ) : Type 0 where
  pub least : 1 ≤ length vs
  pub cells : Each IsCell vs

object_good : (ls : List StaticObject) → 1 ≤ length ls → Each IsGoodObject ls
    → GoodText (object_cells ls)
object_good [] h k = absurd (omega (arith, h))
object_good (o ∷ more) h k =
    let some = elements_least o.sizes (all_each (λ size. 1 ≤ size) o.sizes k.0.within.least) in
    record {
      least = omega (arith, some, k.0.valid.count);
      cells = all_each IsCell o.first k.0.valid.cells;
    }

literal_good : (x : Typed) (form : Form) → HasText form x.literals → Each IsGoodObject x.literals
    → (cells : List ℤ) → literal_in x form ≡ Some cells → GoodText cells
literal_good x (typed.Value e) h k cells same = absurd (let no : ⊥ = cc in no)
literal_good x (typed.Place p fixed) h k cells same = absurd (let no : ⊥ = cc in no)
literal_good x (typed.Whole a reach fixed) h k cells same = absurd (let no : ⊥ = cc in no)
literal_good x (typed.Literal object size) h k cells same =
    let is : object_cells x.literals ≡ cells = cc in
    subst GoodText is (object_good x.literals h k)

-- ---- as many cells as a size says

pub record GoodCells (n : ℕ) (it : values.First) : Type 0 where
  pub count : length it.cells ≡ n
  pub cells : Each IsCell it.cells

pub record SomeCells (it : values.First) : Type 0 where
  pub cells : Each IsCell it.cells

further_count : (n : ℕ) (last step : ℤ) → length (further n last step) ≡ n
unfolding further
further_count zero last step = refl
further_count (suc n) last step = ap suc (further_count n _ step)

further_cells : (n : ℕ) (last step : ℤ) → Each IsCell (further n last step)
unfolding further
further_cells zero last step = tt
further_cells (suc n) last step = (wrap_cell _, further_cells n _ step)

missing_count : (goes_on : Bool) (vs : List ℤ) (n : ℕ) → length (missing goes_on vs n) ≡ n
missing_count false vs n = length-replicate n (pos 0)
missing_count true [] n = length-replicate n (pos 0)
missing_count true (v ∷ more) n = further_count n _ _

missing_cells : (goes_on : Bool) (vs : List ℤ) (n : ℕ) → Each IsCell (missing goes_on vs n)
missing_cells false vs n = each_replicate IsCell n (pos 0) (small_cell 0 (omega arith))
missing_cells true [] n = each_replicate IsCell n (pos 0) (small_cell 0 (omega arith))
missing_cells true (v ∷ more) n = further_cells n _ _

filled_good : (at : At) (size : ℕ) (goes_on : Bool) (it : values.First) → Each IsCell it.cells
    → Holds (GoodCells size) (filled at size goes_on it)
filled_good at size goes_on it h =
    when_holds (nat_le (length it.cells) size) (λ few.
    let most : length it.cells ≤ size = leb-true _ _ few in
    stands_itself _ _ (record {
      count = omega (
        arith,
        most,
        length-append it.cells (missing goes_on it.cells (size - length it.cells)),
        missing_count goes_on it.cells (size - length it.cells),
      );
      cells = each_append IsCell it.cells _ h
          (missing_cells goes_on it.cells (size - length it.cells));
    }))
    (breaks_holds _ _)

pub record AtLeast (n : ℕ) : Type 0 where
  pub least : 1 ≤ n

pub record GoodArray (it : ArrayValue) : Type 0 where
  pub shape : GoodShape it.sizes
  pub count : length it.cells ≡ elements_in it.sizes
  pub cells : Each IsCell it.cells

module _ (cx : Around) (tags : HasTags cx) (path : Scope) (known : IsPlainPath path) (at : At) where
  pub constant_plain : (Calls : List ℕ → Type 0) (e : Expr) → IsWritten Calls e
      → Holds PlainConstant (constants.constant cx path at e)
  constant_plain Calls e h =
      holds_after (expr_plain Calls cx tags path known 0 e h)
      (λ x p. constant_rule_plain at x p.value)

  dimension_good : (dim : Dim) → IsWrittenDim dim
      → Holds GoodDimension (dimension cx path at dim)
  dimension_good Open h =
      stands_itself _ _ (record { size = λ n e. let no : ⊥ = cc in absurd no })
  dimension_good (Cells e) h =
      holds_after (constant_plain IsAnyName e h)
      (λ it p. positive_size_good at it.value it.warned p.value)
  dimension_good (Chars e) h =
      holds_after (constant_plain IsAnyName e h)
      (λ it p. chars_good at it.value it.warned p.value)

  inner_with_good : (it : Dimension) (size : Option ℕ) (more : Inner) (n : ℕ)
      → ((m : ℕ) → size ≡ Some m → IsSize m) → GoodInner n more
      → Holds (GoodInner (suc n)) (inner_with cx path at it size more)
  inner_with_good it None more n k p = breaks_holds _ _
  inner_with_good it (Some size) more n k p =
      stands_itself _ _ (record { sizes = (k size refl, p.sizes); count = ap suc p.count })

  inner_good : (dims : List Dim) → Each IsWrittenDim dims
      → Holds (GoodInner (length dims)) (inner cx path at dims)
  inner_good [] h = stands_itself _ _ (record { sizes = tt; count = refl })
  inner_good (dim ∷ dims) h =
      holds_both (dimension_good dim h.0) (inner_good dims h.1)
      (λ it more p q. inner_with_good it it.size more (length dims) p.size q)

  pub dimensions_good : (dim : Dim) (dims : List Dim) → IsWrittenDim dim → Each IsWrittenDim dims
      → Holds GoodDimensions (dimensions cx path at dim dims)
  dimensions_good dim dims h hs =
      when_holds (nat_le (length dims) 2) (λ few.
      let most : length dims ≤ 2 = leb-true _ _ few in
      holds_both (dimension_good dim h) (inner_good dims hs) (λ it more p q.
      stands_itself _ _ (record {
        first = λ n e. (p.size n e).least;
        inner = q.sizes;
        count = omega (arith, q.count, most);
      })))
      (breaks_holds _ _)

  -- ---- the first size

  text_size_good : (sizes : List ℕ) (it : Option (List ℤ))
      → ((cells : List ℤ) → it ≡ Some cells → GoodText cells)
      → Holds AtLeast (text_size cx path at sizes it)
  text_size_good sizes None k = breaks_holds _ _
  text_size_good [] (Some cells) k = stands_itself _ _ (record { least = (k cells refl).least })
  text_size_good (size ∷ sizes) (Some cells) k = breaks_holds _ _

  count_least : (xs : Inits) → ¬ (xs ≡ no_inits) → 1 ≤ count xs
  count_least no_inits h = absurd (h refl)
  count_least (then_init x xs) h = omega arith

  size_from_good : (Calls : List ℕ → Type 0) (sizes : List ℕ) (init : Init)
      → IsWrittenInit Calls (Some init) → Holds AtLeast (size_from cx path at sizes init)
  size_from_good Calls sizes (Value e) h =
      holds_after (expr_plain Calls cx tags path known 0 e h) (λ x p.
      text_size_good sizes (literal_in x x.form) (literal_good x x.form p.text p.objects))
  size_from_good Calls sizes (Braces braces xs true) h = breaks_holds _ _
  size_from_good Calls sizes (Braces braces xs false) h =
      stands_itself _ _ (record { least = count_least xs h.0 })

  first_size_good : (Calls : List ℕ → Type 0) (sizes : List ℕ) (first : Option ℕ)
      (init : Option Init) → IsWrittenInit Calls init → ((n : ℕ) → first ≡ Some n → 1 ≤ n)
      → Holds AtLeast (first_size cx path at sizes first init)
  first_size_good Calls sizes (Some size) init h k =
      stands_itself _ _ (record { least = k size refl })
  first_size_good Calls sizes None None h k = breaks_holds _ _
  first_size_good Calls sizes None (Some init) h k = size_from_good Calls sizes init h

  pub record Within (first : ℕ) (sizes : List ℕ) (it : List ℕ) : Type 0 where
    pub same : it ≡ first ∷ sizes
    pub most : cells_of (first ∷ sizes) ≤ cell_limit

  pub within_most : (first : ℕ) (sizes : List ℕ)
      → Holds (Within first sizes) (within at (first ∷ sizes))
  within_most first sizes =
      when_holds (nat_le (cells_of (first ∷ sizes)) cell_limit)
      (λ few. stands_itself _ _ (record { same = refl; most = leb-true _ _ few }))
      (breaks_holds _ _)

  pub record GoodShaped (it : Shaped) : Type 0 where
    pub shape : GoodShape it.sizes

  pub shaped_good : (Calls : List ℕ → Type 0) (dim : Dim) (dims : List Dim) (init : Option Init)
      → IsWrittenDim dim → Each IsWrittenDim dims → IsWrittenInit Calls init
      → Holds GoodShaped (shaped cx path at dim dims init)
  shaped_good Calls dim dims init h hs k =
      holds_after (dimensions_good dim dims h hs) (λ it p.
      holds_after (first_size_good Calls it.inner it.first init k p.first) (λ first q.
      holds_after (within_most first it.inner) (λ sizes r.
      stands_itself _ _ (record {
        shape = subst GoodShape (sym r.same)
            (shape_good first it.inner q.least p.inner p.count r.most);
      }))))

  -- ---- first values

  module _ (tag : ℕ) where
    text_by_good : (size : ℕ) (x : Typed) (it : Option (List ℤ))
        → ((cells : List ℤ) → it ≡ Some cells → GoodText cells)
        → Holds (GoodCells size) (text_by cx path at tag size x it)
    text_by_good size x None k = breaks_holds _ _
    text_by_good size x (Some cells) k = filled_good at size false _ (k cells refl).cells

    -- one dimension has as many elements as its size
    line : {it : values.First} (size : ℕ) → GoodCells size it
        → GoodCells (elements_in (size ∷ [])) it
    line size p = record { count = omega (arith, p.count); cells = p.cells }

    whole_good : (Calls : List ℕ → Type 0) (sizes : List ℕ) (e : Expr) → IsWritten Calls e
        → Holds (GoodCells (elements_in sizes)) (whole_value cx path at tag sizes e)
    whole_good Calls [] e h = breaks_holds _ _
    whole_good Calls (size ∷ []) e h =
        holds_as (holds_after (expr_plain Calls cx tags path known 0 e h) (λ x p.
        text_by_good size x (literal_in x x.form) (literal_good x x.form p.text p.objects)))
        (λ it p. line size p)
    whole_good Calls (size ∷ next ∷ sizes) e h = breaks_holds _ _

    cell_of_list_good : (init : Init) → IsConstantInit init
        → Holds SomeCells (cell_of_list cx path at tag init)
    cell_of_list_good (Value e) h =
        holds_after (constant_plain IsAnyName e h)
        (λ it p. stands_itself _ _ (record { cells = (p.value, tt) }))
    cell_of_list_good (Braces braces xs goes_on) h = breaks_holds _ _

    cells_of_list_good : (xs : Inits) → AreConstantInits xs
        → Holds SomeCells (cells_of_list cx path at tag xs)
    cells_of_list_good no_inits h = stands_itself _ no_cells (record { cells = tt })
    cells_of_list_good (then_init x xs) h =
        holds_both (cell_of_list_good x h.0) (cells_of_list_good xs h.1) (λ v more p q.
        stands_itself _ _ (record {
          cells = each_append IsCell v.cells more.cells p.cells
              q.cells;
        }))

    goes_on_good : (goes_on : Bool) (n : ℕ) (w : Verdict values.First) → Holds (GoodCells n) w
        → Holds (GoodCells n) (unless_goes_on cx path at tag goes_on w)
    goes_on_good true n w h = breaks_holds _ _
    goes_on_good false n w h = h

    listed_good : (sizes : List ℕ) (xs : Inits) (goes_on : Bool) (w : Verdict values.First)
        → AreConstantInits xs → Holds SomeCells w
        → Holds (GoodCells (elements_in sizes)) (listed cx path at tag sizes xs goes_on w)
    listed_good [] xs goes_on w h k = breaks_holds _ _
    listed_good (size ∷ []) xs goes_on w h k =
        holds_as (holds_after (cells_of_list_good xs h)
        (λ it p. filled_good at size goes_on it p.cells)) (λ it p. line size p)
    listed_good (size ∷ next ∷ sizes) xs goes_on w h k =
        goes_on_good goes_on _ _ (holds_after k
        (λ it p. filled_good at (size * elements_in (next ∷ sizes)) false it p.cells))

    mutual
      first_cells_good : (sizes : List ℕ) (init : Init) → IsConstantInit init
          → Holds (GoodCells (elements_in sizes)) (first_cells cx path at tag sizes init)
      first_cells_good sizes (Value e) h = whole_good IsAnyName sizes e h
      first_cells_good sizes (Braces braces xs goes_on) h =
          listed_good sizes xs goes_on (rows cx path at tag (parts cx path at tag sizes) xs) h.1
          (rows_good (parts cx path at tag sizes) xs h.1)

      rows_good : (sizes : List ℕ) (xs : Inits) → AreConstantInits xs
          → Holds SomeCells (rows cx path at tag sizes xs)
      rows_good sizes no_inits h = stands_itself _ no_cells (record { cells = tt })
      rows_good sizes (then_init x xs) h =
          holds_both (first_cells_good sizes x h.0) (rows_good sizes xs h.1) (λ v more p q.
          stands_itself _ _
          (record { cells = each_append IsCell v.cells more.cells p.cells q.cells }))

    init_good : (Calls : List ℕ → Type 0) (sizes : List ℕ) (init : Init)
        → IsWrittenInit Calls (Some init)
        → Holds (GoodCells (elements_in sizes)) (first_cells cx path at tag sizes init)
    init_good Calls sizes (Value e) h = whole_good Calls sizes e h
    init_good Calls sizes (Braces braces xs goes_on) h =
        first_cells_good sizes (Braces braces xs goes_on) h

    cells_good : (Calls : List ℕ → Type 0) (sizes : List ℕ) (init : Option Init)
        → IsWrittenInit Calls init
        → Holds (GoodCells (elements_in sizes)) (cells_or_zeros cx path at tag sizes init)
    cells_good Calls sizes None h =
        stands_itself _ _ (record {
          count = length-replicate (elements_in sizes) (pos 0);
          cells = each_replicate IsCell (elements_in sizes) (pos 0) (small_cell 0 (omega arith));
        })
    cells_good Calls sizes (Some init) h = init_good Calls sizes init h

    pub array_value_good : (Calls : List ℕ → Type 0) (dim : Dim) (dims : List Dim)
        (init : Option Init) → IsWrittenDim dim → Each IsWrittenDim dims
        → IsWrittenInit Calls init → Holds GoodArray (array_value cx path at tag dim dims init)
    array_value_good Calls dim dims init h hs k =
        holds_after (shaped_good Calls dim dims init h hs k) (λ it p.
        holds_after (cells_good Calls it.sizes init k) (λ cells q.
        stands_itself _ _ (record { shape = p.shape; count = q.count; cells = q.cells })))

    -- ---- one cell

    static_rule_good : (x : Typed) → IsValue x.value
        → Holds (GoodCells 1) (static_rule cx at tag x)
    static_rule_good x h =
        holds_after (holds_all (cell at x)) (λ c t.
        holds_after (constant_rule_plain at x h)
        (λ it p. stands_itself _ _ (record { count = refl; cells = (p.value, tt) })))

    pub static_good : (Calls : List ℕ → Type 0) (init : Option Init) → IsWrittenInit Calls init
        → Holds (GoodCells 1) (static_value cx path at tag init)
    static_good Calls None h =
        stands_itself _ _ (record { count = refl; cells = (small_cell 0 (omega arith), tt) })
    static_good Calls (Some (Value e)) h =
        holds_after (expr_plain Calls cx tags path known 0 e h)
        (λ x p. static_rule_good x p.value)
    static_good Calls (Some (Braces braces xs goes_on)) h = breaks_holds _ _

pub array_object : (it : ArrayValue) (constant : Bool) → GoodArray it
    → IsGoodObject (record { sizes = it.sizes; constant = constant; first = it.cells })
array_object it constant p = record {
  valid = record {
    sizes = p.shape.dims;
    count = p.count;
    cells = each_all IsCell it.cells p.cells;
  };
  within = p.shape.within;
}

pub cell_object : (it : values.First) (constant : Bool) → GoodCells 1 it
    → IsGoodObject (record { sizes = 1 ∷ []; constant = constant; first = it.cells })
cell_object it constant p = record {
  valid = record {
    sizes = (omega arith, omega arith);
    count = omega (arith, p.count);
    cells = each_all IsCell it.cells p.cells;
  };
  within = record {
    least = each_all (λ size. 1 ≤ size) (1 ∷ []) (omega arith, tt);
    most = omega arith;
  };
}

pub arrays_good : ArraysAreGood
arrays_good cx path at tag dim dims init it constant tags known h hs k e =
    array_object it constant
    ((array_value_good cx tags path known at tag IsAnyName dim dims init h hs k).of it e)
