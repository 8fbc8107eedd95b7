-- Facts of cells, tags, lists and objects.
use Rattle.std.proofs.Common.{◌≡◌, ◌<◌, ℕ, zero, suc, ℤ, List, [], ◌∷◌, ◌++◌}
use Rattle.std.proofs.Common.{Bool, true, false, Option, None, Some, refl, subst, cond}
use Rattle.std.specs.Prelude.{if◌then◌else◌, length, replicate, option_map, position, nat_lt}
use Rattle.std.specs.List.{position_or_len, All}
use Rattle.std.proofs.lemmas.List.Elements.{All-nil, All-cons, All-head, All-tail}
use Rattle.std.proofs.lemmas.Bool.{ltb-true}
use Rattle.pawn_cells.specs.Cells.{IsCell, is_zero}
use Rattle.pawn_cells.specs.Cells as cells
use Rattle.pawn_cells.specs.Operators.{prefix, binary, logical}
use Rattle.pawn_cells.specs.declared.operator.Prefix.{Prefix}
use Rattle.pawn_cells.specs.declared.operator.Prefix.TheVariants as before
use Rattle.pawn_cells.specs.declared.operator.Operator.{Operator}
use Rattle.pawn_cells.specs.declared.operator.Operator.TheVariants as between
use Rattle.pawn_cells.specs.declared.operator.Logical.{Logical}
use Rattle.pawn_cells.specs.declared.operator.Logical.TheVariants as logic
use Rattle.pawn_cells.proofs.CellLaws.{wrap_cell, cell_of_cell, shr_cell, truth_cell, floor_rem_cell}
use Rattle.names_rules.specs.Verdict.{Verdict}
use Rattle.types_rules.specs.Operators.{value_of_both}
use Rattle.types_rules.proofs.VerdictLaws.{Holds}
use Rattle.types_laws.specs.Objects.{Each}
use Rattle.types_laws.specs.Plain.{IsValue}

-- ---- verdicts

pub if_holds : {A : Type 0} {P : A → Type 0} (b : Bool) {v w : Verdict A} → Holds P v → Holds P w
    → Holds P (if b then v else w)
if_holds true h k = h
if_holds false h k = k

pub when_holds : {A : Type 0} {P : A → Type 0} (b : Bool) {v w : Verdict A}
    → (b ≡ true → Holds P v) → Holds P w → Holds P (if b then v else w)
when_holds true h k = h refl
when_holds false h k = k

pub holds_and : {A : Type 0} {P Q : A → Type 0} {w : Verdict A} → Holds P w → Holds Q w
    → Holds (λ x. P x × Q x) w
holds_and h k = record { of = λ x e. (h.of x e, k.of x e) }

pub holds_as : {A : Type 0} {P Q : A → Type 0} {w : Verdict A} → Holds P w
    → ((x : A) → P x → Q x) → Holds Q w
holds_as h k = record { of = λ x e. k x (h.of x e) }

-- ---- lists

pub each_append : {A : Type 0} (P : A → Type 0) (xs ys : List A) → Each P xs → Each P ys
    → Each P (xs ++ ys)
each_append P [] ys h k = k
each_append P (x ∷ xs) ys h k = (h.0, each_append P xs ys h.1 k)

pub each_all : {A : Type 0} (P : A → Type 0) (xs : List A) → Each P xs → All P xs
each_all P [] h = All-nil P
each_all P (x ∷ xs) h = All-cons P x xs h.0 (each_all P xs h.1)

pub all_each : {A : Type 0} (P : A → Type 0) (xs : List A) → All P xs → Each P xs
all_each P [] h = tt
all_each P (x ∷ xs) h = (All-head P x xs h, all_each P xs (All-tail P x xs h))

-- ---- cells

pub prefix_cell : (o : Prefix) (y : ℤ) → IsCell (prefix o y)
prefix_cell before.Not y = truth_cell (is_zero y)
prefix_cell before.Invert y = cell_of_cell _
prefix_cell before.Negate y = wrap_cell _

unless_zero_value : (c : Bool) (z : ℤ) → (c ≡ false → IsCell z)
    → IsValue (if c then None else Some z)
unless_zero_value true z k = tt
unless_zero_value false z k = k refl

pub binary_value : (o : Operator) (a b : ℤ) → IsCell a → IsCell b → IsValue (binary o a b)
unfolding binary
binary_value between.Multiply a b p q = wrap_cell _
binary_value between.Divide a b p q = unless_zero_value (is_zero b) _ (λ e. wrap_cell _)
binary_value between.Remainder a b p q =
    unless_zero_value (is_zero b) _ (λ e. floor_rem_cell a b p q e)
binary_value between.Add a b p q = wrap_cell _
binary_value between.Subtract a b p q = wrap_cell _
binary_value between.ShiftLeft a b p q = cell_of_cell _
binary_value between.ShiftRight a b p q = shr_cell a b p
binary_value between.ShiftUnsigned a b p q = cell_of_cell _
binary_value between.And a b p q = cell_of_cell _
binary_value between.Xor a b p q = cell_of_cell _
binary_value between.Or a b p q = cell_of_cell _
binary_value between.Equal a b p q = truth_cell _
binary_value between.NotEqual a b p q = truth_cell _

pub logical_cell : (o : Logical) (a b : ℤ) → IsCell (logical o a b)
logical_cell logic.And a b = truth_cell _
logical_cell logic.Or a b = truth_cell _

pub both_value : (make : ℤ → ℤ → Option ℤ) (x y : Option ℤ)
    → ((a b : ℤ) → IsCell a → IsCell b → IsValue (make a b)) → IsValue x → IsValue y
    → IsValue (value_of_both make x y)
both_value make None y k p q = tt
both_value make (Some a) None k p q = tt
both_value make (Some a) (Some b) k p q = k a b p q

pub mapped_value : (make : ℤ → ℤ) (x : Option ℤ) → ((a : ℤ) → IsCell (make a))
    → IsValue (option_map make x)
mapped_value make None k = tt
mapped_value make (Some a) k = k a

-- ---- positions

position_by : {A : Type 0} (p : A → Bool) (xs : List A) (i : ℕ) (b : Bool)
    → nat_lt (position_or_len p xs) (length xs) ≡ b
    → cond b (Some (position_or_len p xs)) None ≡ Some i → i < length xs
position_by p xs i true h e =
    let same : position_or_len p xs ≡ i = cc in
    subst (λ (n : ℕ). n < length xs) same (ltb-true (position_or_len p xs) (length xs) h)
position_by p xs i false h e = absurd (let no : ⊥ = cc in no)

pub position_within : {A : Type 0} (p : A → Bool) (xs : List A) (i : ℕ) → position p xs ≡ Some i
    → i < length xs
position_within p xs i e =
    position_by p xs i (nat_lt (position_or_len p xs) (length xs)) refl e

pub each_one : {A : Type 0} (P : A → Type 0) (x : A) → P x → Each P (x ∷ [])
each_one P x h = (h, tt)

pub each_replicate : {A : Type 0} (P : A → Type 0) (n : ℕ) (x : A) → P x → Each P (replicate n x)
each_replicate P zero x h = tt
each_replicate P (suc n) x h = (h, each_replicate P n x h)
