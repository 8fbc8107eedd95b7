-- What one instruction pushes: two cells without a fault and without a call.
use Rattle.std.proofs.Common.{◌≡◌, ◌+◌, ◌*◌, ◌≤◌, ℕ, ℤ, pos, List, [], ◌∷◌, Option, None, Some}
use Rattle.std.proofs.Common.{◌+ℤ◌, refl, arith}
use Rattle.pawn_meaning.specs.Program.{Scalar, Global, Own, Through, Element, Char, Array, Object}
use Rattle.pawn_meaning.specs.Program.{SlotArray, ParamArray, Row, From, Expr, Read}
use Rattle.pawn_meaning.specs.Scope.{Scope, extent}
use Rattle.pawn_meaning.specs.Fold.{fold}
use Rattle.amx_ops.specs.declared.op.Op.{Op}
use Rattle.amx_ops.specs.declared.op.Op.TheVariants as op
use Rattle.gen_sim.specs.Items.{Item}
use Rattle.gen_sim.specs.SimpleCode.{alone, taking}
use Rattle.gen_sim.specs.DirectCode.{Direct, constant_index, element_of, direct_of}
use Rattle.gen_sim.specs.OperandCode.{Right, Known, Placed, Waiting, right_by, read_place}
use Rattle.gen_sim.specs.PushCode.{cell_push, right_push, value_push, place_push, array_push}
use Rattle.gen_sim.specs.PushCode.{pushed_by, left_by}
use Rattle.gen_sim.specs.PlaceItems.{object_address, slot_offset}
use Rattle.gen_sim.proofs.ItemLaws.{count-append}
use Rattle.gen_laws.specs.Fine.{IsFine, AreClosed}
use Rattle.gen_laws.specs.Called.{AreCalled}
use Rattle.gen_laws.proofs.FineLaws.{Nowhere}
use Rattle.gen_laws.proofs.FineItems.{any_fine, push_pri}
use Rattle.gen_laws.proofs.Shapes.{own_closed, part_closed}
use Rattle.gen_laws.proofs.CalledItems.{both_called}
use Rattle.gen_laws.proofs.Counts.{count}

-- something holds of the instruction, where there is one
abbrev Pushes : (Item → Type 0) → Option (Op × ℤ) → Type 0
Pushes P None = Unit {0}
Pushes P (Some it) = P (taking it.0 it.1)

-- it holds of each instruction with an operand that pushes
record OfPushes (P : Item → Type 0) : Type 0 where
  known : (v : ℤ) → P (taking op.PushC v)
  cell : (v : ℤ) → P (taking op.Push v)
  slot : (v : ℤ) → P (taking op.PushS v)
  address : (v : ℤ) → P (taking op.PushAdr v)

module _ (P : Item → Type 0) (h : OfPushes P) (scope : Scope) where
  abbrev PushesCell : Option Direct → Type 0
  PushesCell None = Unit {0}
  PushesCell (Some d) = Pushes P (cell_push d d.pushes)

  element_pushes : (a : Array) (i : Option ℕ) → PushesCell (element_of scope a i)
  element_pushes a None = tt
  element_pushes (Object o) (Some i) = h.cell (object_address scope.program o +ℤ pos (4 * i))
  element_pushes (SlotArray s) (Some i) = h.slot (slot_offset scope s +ℤ pos (4 * i))
  element_pushes (ParamArray s known) (Some i) = tt
  element_pushes (Row b index) (Some i) = tt
  element_pushes (From b index) (Some i) = tt

  direct_pushes : (p : Scalar) → PushesCell (direct_of scope p)
  direct_pushes (Global o) = h.cell (object_address scope.program o)
  direct_pushes (Own s) = h.slot (slot_offset scope s)
  direct_pushes (Through s) = tt
  direct_pushes (Element a e) = element_pushes a (constant_index (extent scope a) (fold e))
  direct_pushes (Char a e) = tt

  read_pushes : (e : Expr) → PushesCell (read_place scope e)
  read_pushes (Read p) = direct_pushes p
  read_pushes e = tt

  right_pushes : (k : Option ℤ) (o : Option Direct) → PushesCell o
      → Pushes P (right_push (right_by k o))
  right_pushes (Some v) o g = h.known v
  right_pushes None (Some d) g = g
  right_pushes None None g = tt

  value_pushes : (e : Expr) → Pushes P (value_push scope e)
  value_pushes e = right_pushes (fold e) (read_place scope e) (read_pushes e)

  place_pushes : (p : Scalar) → Pushes P (place_push scope p)
  place_pushes (Global o) = h.known (object_address scope.program o)
  place_pushes (Own s) = h.address (slot_offset scope s)
  place_pushes (Through s) = h.slot (pos (12 + 4 * s))
  place_pushes (Element a e) = tt
  place_pushes (Char a e) = tt

  array_pushes : (a : Array) → Pushes P (array_push scope a)
  array_pushes (Object o) = h.known (object_address scope.program o)
  array_pushes (SlotArray s) = h.address (slot_offset scope s)
  array_pushes (ParamArray s known) = h.slot (pos (12 + 4 * s))
  array_pushes (Row a e) = tt
  array_pushes (From a e) = tt

-- ---- cells

abbrev IsTwo : Item → Type 0
IsTwo it = count (it ∷ []) ≡ 2

two_cells : OfPushes IsTwo
two_cells = record { known = λ v. refl; cell = λ v. refl; slot = λ v. refl; address = λ v. refl }

pushed_count : (push : Option (Op × ℤ)) → Pushes IsTwo push → (part : List Item)
    → count (pushed_by push part) ≤ count part + 2
pushed_count None h part = omega (arith, count-append part (alone op.PushPri ∷ []))
pushed_count (Some it) h part = omega (arith, h)

left_by_count : (how : Right) (push : Option (Op × ℤ)) → Pushes IsTwo push → (left : List Item)
    → count (left_by how push left) ≤ count left + 2
left_by_count (Known v) push h left = omega arith
left_by_count (Placed d) push h left = omega arith
left_by_count Waiting push h left = pushed_count push h left

module _ (scope : Scope) where
  pub value_push_count : (e : Expr) (part : List Item)
      → count (pushed_by (value_push scope e) part) ≤ count part + 2
  value_push_count e part =
      pushed_count (value_push scope e) (value_pushes IsTwo two_cells scope e) part

  pub left_count : (how : Right) (e : Expr) (left : List Item)
      → count (left_by how (value_push scope e) left) ≤ count left + 2
  left_count how e left =
      left_by_count how (value_push scope e) (value_pushes IsTwo two_cells scope e) left

  pub place_push_count : (p : Scalar) (part : List Item)
      → count (pushed_by (place_push scope p) part) ≤ count part + 2
  place_push_count p part =
      pushed_count (place_push scope p) (place_pushes IsTwo two_cells scope p) part

  pub array_push_count : (a : Array) (part : List Item)
      → count (pushed_by (array_push scope a) part) ≤ count part + 2
  array_push_count a part =
      pushed_count (array_push scope a) (array_pushes IsTwo two_cells scope a) part

-- ---- no fault

module _ (natives : ℕ) where
  abbrev IsFinePush : Item → Type 0
  IsFinePush it = IsFine natives Nowhere it

  fine_pushes : OfPushes IsFinePush
  fine_pushes = record {
    known = λ v. any_fine natives Nowhere op.PushC v refl refl;
    cell = λ v. any_fine natives Nowhere op.Push v refl refl;
    slot = λ v. any_fine natives Nowhere op.PushS v refl refl;
    address = λ v. any_fine natives Nowhere op.PushAdr v refl refl;
  }

  pushed_closed : (begin : ℕ) (push : Option (Op × ℤ)) → Pushes IsFinePush push
      → (part : List Item) → AreClosed natives begin part
      → AreClosed natives begin (pushed_by push part)
  pushed_closed begin None h part g =
      part_closed natives begin part (alone op.PushPri ∷ []) g (push_pri natives Nowhere, tt)
  pushed_closed begin (Some it) h part g =
      own_closed natives begin (taking it.0 it.1 ∷ []) (h, tt)

  module _ (scope : Scope) (begin : ℕ) where
    pub value_push_closed : (e : Expr) (part : List Item) → AreClosed natives begin part
        → AreClosed natives begin (pushed_by (value_push scope e) part)
    value_push_closed e =
        pushed_closed begin (value_push scope e) (value_pushes IsFinePush fine_pushes scope e)

    pub left_closed : (how : Right) (e : Expr) (left : List Item) → AreClosed natives begin left
        → AreClosed natives begin (left_by how (value_push scope e) left)
    left_closed (Known v) e left h = h
    left_closed (Placed d) e left h = h
    left_closed Waiting e left h = value_push_closed e left h

    pub place_push_closed : (p : Scalar) (part : List Item) → AreClosed natives begin part
        → AreClosed natives begin (pushed_by (place_push scope p) part)
    place_push_closed p =
        pushed_closed begin (place_push scope p) (place_pushes IsFinePush fine_pushes scope p)

    pub array_push_closed : (a : Array) (part : List Item) → AreClosed natives begin part
        → AreClosed natives begin (pushed_by (array_push scope a) part)
    array_push_closed a =
        pushed_closed begin (array_push scope a) (array_pushes IsFinePush fine_pushes scope a)

-- ---- calls

pub pushed_called : (C : ℕ → Type 0) (push : Option (Op × ℤ)) (part : List Item)
    → AreCalled C part → AreCalled C (pushed_by push part)
pushed_called C None part h = both_called C part (alone op.PushPri ∷ []) h tt
pushed_called C (Some it) part h = tt

pub left_called : (C : ℕ → Type 0) (how : Right) (push : Option (Op × ℤ)) (left : List Item)
    → AreCalled C left → AreCalled C (left_by how push left)
left_called C (Known v) push left h = h
left_called C (Placed d) push left h = h
left_called C Waiting push left h = pushed_called C push left h
