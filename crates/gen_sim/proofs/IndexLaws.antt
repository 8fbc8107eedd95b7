-- An index in PRI is tested, where the code knows the size; what scopes say of sizes, and what
-- holds of them.
use Rattle.std.proofs.Common.{◌≡◌, ◌+◌, ◌-◌, ◌*◌, ◌^◌, ◌<◌, ◌≤◌, ℕ, zero, suc, ℤ, pos, negsuc, List}
use Rattle.std.proofs.Common.{[], ◌∷◌, ◌++◌, Option, None, Some, Bool, true, false, length, nat_lt}
use Rattle.std.proofs.Common.{slice_get, refl, sym, ap, subst, ◌∙◌, arith, le-ltb}
use Rattle.pawn_meaning.specs.Program.{Array, SlotArray, ParamArray, Row, From, Slot, ScalarSlot}
use Rattle.pawn_meaning.specs.Program.{ReferenceSlot, ArraySlot, OpenSlot, StaticObject}
use Rattle.pawn_meaning.specs.Program as node
use Rattle.pawn_meaning.specs.Scope.{Scope, Extent, extent, known_extent, open_extent}
use Rattle.pawn_meaning.specs.Scope.{object_extent, slot_extent, param_extent, row_extent}
use Rattle.pawn_meaning.specs.Scope.{rest_extent}
use Rattle.pawn_meaning.specs.Memory.{Reference}
use Rattle.pawn_meaning.specs.World.{World}
use Rattle.pawn_meaning.specs.Run.{Run, then_do}
use Rattle.pawn_meaning.specs.References.{is_known, index_in, index}
use Rattle.amx_ops.specs.declared.op.Op.TheVariants as op
use Rattle.amx_ops.specs.Instructions.{fetched}
use Rattle.amx_ops.specs.Written.{read_as}
use Rattle.amx_ops.specs.Moves.{Config, move}
use Rattle.gen_sim.proofs.Sim.{size_is}
use Rattle.gen_sim.specs.View.{View}
use Rattle.gen_sim.specs.Stands.{With}
use Rattle.gen_sim.specs.Site.{Site, DoesAt}
use Rattle.gen_sim.specs.Items.{Item, item_cells, past, with}
use Rattle.gen_sim.specs.Results.{Reaches}
use Rattle.gen_sim.proofs.StepLaws.{index_does, errs}
use Rattle.gen_sim.specs.Lies.{Lies}
use Rattle.gen_sim.specs.SimpleCode.{taking}
use Rattle.gen_sim.proofs.ItemSteps.{next_lies, item_sets, one_item}
use Rattle.gen_sim.proofs.ArrayNodes.{inside}
use Rattle.gen_sim.specs.IndexCode.{bounds_code, in_characters}

-- ---- sizes that are known

-- the code knows a size exactly where the node says so
abbrev pub Knows : Option ℕ → Bool → Type 0
Knows None known = known ≡ false
Knows (Some n) known = known ≡ true

-- and it is the world's
abbrev pub IsSize : Option ℕ → ℕ → Type 0
IsSize None size = Unit {0}
IsSize (Some n) size = size ≡ n

of_known : (sizes : List ℕ) (whole : Extent) → known_extent sizes ≡ Some whole
    → Knows whole.first true
of_known [] whole e = cc
of_known (n ∷ inner) whole e =
    subst (λ (z : Extent). Knows z.first true)
    (inside (record { first = Some n; inner = inner }) whole e) refl

of_open : (inner : List ℕ) (whole : Extent) → Some (open_extent inner) ≡ Some whole
    → Knows whole.first false
of_open inner whole e =
    subst (λ (z : Extent). Knows z.first false) (inside (open_extent inner) whole e) refl

of_object : (o : Option StaticObject) (whole : Extent) → object_extent o ≡ Some whole
    → Knows whole.first true
of_object None whole e = cc
of_object (Some object) whole e = of_known object.sizes whole e

of_slot : (o : Option Slot) (whole : Extent) → slot_extent o ≡ Some whole → Knows whole.first true
of_slot None whole e = cc
of_slot (Some ScalarSlot) whole e = cc
of_slot (Some ReferenceSlot) whole e = cc
of_slot (Some (ArraySlot sizes)) whole e = of_known sizes whole e
of_slot (Some (OpenSlot inner)) whole e = cc

of_param : (o : Option Slot) (known : Bool) (whole : Extent) → param_extent o known ≡ Some whole
    → Knows whole.first known
of_param None known whole e = cc
of_param (Some ScalarSlot) known whole e = cc
of_param (Some ReferenceSlot) known whole e = cc
of_param (Some (ArraySlot sizes)) true whole e = of_known sizes whole e
of_param (Some (ArraySlot sizes)) false whole e = cc
of_param (Some (OpenSlot inner)) true whole e = cc
of_param (Some (OpenSlot inner)) false whole e = of_open inner whole e

of_row : (o : Option Extent) (whole : Extent) → row_extent o ≡ Some whole → Knows whole.first true
of_row None whole e = cc
of_row (Some outer) whole e = of_known outer.inner whole e

of_rest : (o : Option Extent) (whole : Extent) → rest_extent o ≡ Some whole
    → Knows whole.first false
of_rest None whole e = cc
of_rest (Some outer) whole e = of_open outer.inner whole e

pub knows : (scope : Scope) (a : Array) (whole : Extent) → extent scope a ≡ Some whole
    → Knows whole.first (is_known a)
knows scope (node.Object o) whole e = of_object (slice_get scope.program.objects o) whole e
knows scope (SlotArray s) whole e = of_slot (slice_get scope.slots s) whole e
knows scope (ParamArray s known) whole e = of_param (slice_get scope.slots s) known whole e
knows scope (Row a i) whole e = of_row (extent scope a) whole e
knows scope (From a i) whole e = of_rest (extent scope a) whole e

-- how far a reference reaches
pub record Sized (whole : Extent) (r : Reference) : Type 0 where
  pub size : ℕ
  pub sizes_are : r.sizes ≡ size ∷ whole.inner
  pub is_size : IsSize whole.first size

sized_by : (first : Option ℕ) (inner : List ℕ) (r : Reference) → Reaches first inner r
    → (size : ℕ) × (r.sizes ≡ size ∷ inner) × IsSize first size
sized_by None inner r h = (h.0, h.1, tt)
sized_by (Some n) inner r h = (n, h, refl)

pub sized : (whole : Extent) (r : Reference) → Reaches whole.first whole.inner r → Sized whole r
sized whole r h =
    let s = sized_by whole.first whole.inner r h in
    record { size = s.0; sizes_are = s.1; is_size = s.2 }

pub characters_known : (first : Option ℕ) (known : Bool) → Knows first known
    → Knows (in_characters first) known
characters_known None known k = k
characters_known (Some n) known k = k

pub characters_size : (first : Option ℕ) (size : ℕ) → IsSize first size
    → IsSize (in_characters first) (4 * size)
characters_size None size k = tt
characters_size (Some n) size k = ap (λ m. 4 * m) k

-- ---- the test

none_below : (v : ℤ) → index_in 0 v ≡ None
none_below (pos i) = let e : nat_lt i 0 ≡ false = le-ltb _ _ (omega arith) in rw e refl
none_below (negsuc i) = refl

-- an index in PRI, below a size that the world knows
module _ (x : Site) {A : Type 0} {Q : A → World → Config → Type 0}
    (js : List Item) {v : View} {pending : List ℤ} {p : ℕ} {w : World} {c : Config}
    (size : ℕ) (small : size ≤ 2 ^ 31) (go : ℕ → Run A) (y : ℤ)
    (a : With x.program x.room v pending p y w c) where
  none_by : Lies x p (bounds_code (Some 0) ++ js) → size ≡ 0
      → DoesAt x (length (item_cells (bounds_code (Some 0) ++ js))) w c
      (then_do (index true size y w) go) Q
  none_by l e =
      let none : index_in size y ≡ None = ap (λ n. index_in n y) e ∙ none_below y in
      rw none (item_sets x (with op.ConstPri (pos 1)) a.stands l (pos 1) c.state.alt refl
      (λ t b m n. one_item x (with op.Bounds (pos 0)) js w
      (errs x b (length (item_cells js)) (with op.Bounds (pos 0))
      (next_lies x p (taking op.ConstPri (pos 1)) (taking op.Bounds (pos 0) ∷ js) l).lie.0
      (pos 4) (rw m refl))))

  tested_by : (n : ℕ) → Lies x p (bounds_code (Some (suc n)) ++ js) → size ≡ suc n
      → ((j : ℕ) → j < size → (t : Config) → With x.program x.room v pending (p + 8) (pos j) w t
      → DoesAt x (length (item_cells js)) w t (go j w) Q)
      → DoesAt x (length (item_cells (bounds_code (Some (suc n)) ++ js))) w c
      (then_do (index true size y w) go) Q
  tested_by n l e next =
      let less : suc n - 1 ≡ n = omega arith in
      let first =
      subst (λ k. fetched x.amx.code p ≡ Some (read_as (with op.Bounds (pos k))))
      (sym less) l.lie.0 in
      one_item x (with op.Bounds (pos n)) js w
      (index_does x (length (item_cells js)) size go true (suc n) y
      (λ t. (e, omega arith, omega (arith, e, small))) a first next)

  open_by : Lies x p js → ((j : ℕ) → j < size → (t : Config)
      → With x.program x.room v pending p (pos j) w t
      → DoesAt x (length (item_cells js)) w t (go j w) Q)
      → DoesAt x (length (item_cells js)) w c (then_do (index false size y w) go) Q
  open_by l next =
      size_is (move x.amx x.script) (length x.amx.code) x.room (omega arith)
      (index_does x (length (item_cells js)) size go false 0 y (λ t. absurd (no t)) a tt next)
    where
      no : false ≡ true → ⊥
      no t = cc

  -- by what the code knows
  pub bounds_do : (first : Option ℕ) (known : Bool) → Knows first known → IsSize first size
      → Lies x p (bounds_code first ++ js)
      → ((j : ℕ) → j < size → (t : Config)
      → With x.program x.room v pending (past p (bounds_code first)) (pos j) w t
      → DoesAt x (length (item_cells js)) w t (go j w) Q)
      → DoesAt x (length (item_cells (bounds_code first ++ js))) w c
      (then_do (index known size y w) go) Q
  bounds_do None true k s l next = cc
  bounds_do None false k s l next = open_by l next
  bounds_do (Some zero) true k s l next = none_by l s
  bounds_do (Some zero) false k s l next = cc
  bounds_do (Some (suc n)) true k s l next = tested_by n l s next
  bounds_do (Some (suc n)) false k s l next = cc
