-- Parts of items: what starts in a part starts in the whole, and what is fine stays so.
use Rattle.std.proofs.Common.{◌+◌, ◌*◌, inl, inr, ℕ, ℤ, List, [], ◌∷◌, ◌++◌, refl, sym, subst}
use Rattle.amx_ops.specs.declared.table.Operand.{Operand}
use Rattle.amx_ops.specs.declared.table.Operand.TheVariants as operand
use Rattle.amx_ops.specs.Table.{operand_of}
use Rattle.gen_sim.specs.Items.{Item, Plain, CallOf, size, past, AreWritten}
use Rattle.gen_laws.specs.Fine.{LeadsBy, IsFine, AreFine, StartsAt, AreClosed}

-- ---- starts

pub starts_here : (begin : ℕ) (items : List Item) → StartsAt begin items begin
starts_here begin [] = refl
starts_here begin (it ∷ items) = inl refl

pub starts_end : (begin : ℕ) (items : List Item) → StartsAt begin items (past begin items)
starts_end begin [] = refl
starts_end begin (it ∷ items) = inr (starts_end (begin + 4 * size it) items)

pub starts_first : (begin : ℕ) (is js : List Item) (at : ℕ) → StartsAt begin is at
    → StartsAt begin (is ++ js) at
starts_first begin [] js at h = subst (λ z. StartsAt begin js z) (sym h) (starts_here begin js)
starts_first begin (it ∷ is) js at (inl h) = inl h
starts_first begin (it ∷ is) js at (inr h) = inr (starts_first (begin + 4 * size it) is js at h)

pub starts_rest : (begin : ℕ) (is js : List Item) (at : ℕ) → StartsAt (past begin is) js at
    → StartsAt begin (is ++ js) at
starts_rest begin [] js at h = h
starts_rest begin (it ∷ is) js at h = inr (starts_rest (begin + 4 * size it) is js at h)

-- ---- fine items

leads_wider : (S T : ℕ → Type 0) → ((at : ℕ) → S at → T at) → (kind : Operand) (v : ℤ)
    → LeadsBy S kind v → LeadsBy T kind v
leads_wider S T f operand.Target v h = (h.0, h.1, f h.0 h.2)
leads_wider S T f operand.Relative v h = h
leads_wider S T f operand.CaseTable v h = h
leads_wider S T f operand.Cases v h = h
leads_wider S T f operand.Nothing v h = h
leads_wider S T f operand.AnyCell v h = h
leads_wider S T f operand.ByteCount v h = h
leads_wider S T f operand.Register v h = h
leads_wider S T f operand.SetRegister v h = h
leads_wider S T f operand.Multiple v h = h
leads_wider S T f operand.Length v h = h
leads_wider S T f operand.CellsLength v h = h
leads_wider S T f operand.NativeNumber v h = h

pub fine_wider : (natives : ℕ) (S T : ℕ → Type 0) → ((at : ℕ) → S at → T at) → (items : List Item)
    → AreFine natives S items → AreFine natives T items
fine_wider natives S T f [] h = tt
fine_wider natives S T f (Plain it ∷ items) h = (
  (h.0.0, h.0.1, h.0.2, leads_wider S T f (operand_of it.op) it.operand h.0.3),
  fine_wider natives S T f items h.1,
)
fine_wider natives S T f (CallOf g ∷ items) h = (tt, fine_wider natives S T f items h.1)

pub fine_both : (natives : ℕ) (T : ℕ → Type 0) (is js : List Item) → AreFine natives T is
    → AreFine natives T js → AreFine natives T (is ++ js)
fine_both natives T [] js h g = g
fine_both natives T (it ∷ is) js h g = (h.0, fine_both natives T is js h.1 g)

-- they lead nowhere
abbrev pub Nowhere : ℕ → Type 0
Nowhere at = ⊥

pub anywhere : (natives : ℕ) (T : ℕ → Type 0) (items : List Item) → AreFine natives Nowhere items
    → AreFine natives T items
anywhere natives T items h = fine_wider natives Nowhere T (λ at z. absurd z) items h

-- a first part, and what stands behind it
pub closed_both : (natives begin : ℕ) (is js : List Item) → AreClosed natives begin is
    → AreClosed natives (past begin is) js → AreClosed natives begin (is ++ js)
closed_both natives begin is js h g =
    fine_both natives (StartsAt begin (is ++ js)) is js
    (fine_wider natives (StartsAt begin is) (StartsAt begin (is ++ js))
    (λ at z. starts_first begin is js at z) is h)
    (fine_wider natives (StartsAt (past begin is) js) (StartsAt begin (is ++ js))
    (λ at z. starts_rest begin is js at z) js g)

pub closed_next : (natives begin : ℕ) (it : Item) (items : List Item)
    → IsFine natives (StartsAt begin (it ∷ items)) it
    → AreClosed natives (begin + 4 * size it) items
    → AreClosed natives begin (it ∷ items)
closed_next natives begin it items h g = (
  h,
  fine_wider natives (StartsAt (begin + 4 * size it) items) (StartsAt begin (it ∷ items))
      (λ at z. inr z) items g,
)

-- and one that leads nowhere in front
pub closed_after : (natives begin : ℕ) (is js : List Item) → AreFine natives Nowhere is
    → AreClosed natives (past begin is) js → AreClosed natives begin (is ++ js)
closed_after natives begin is js h g =
    closed_both natives begin is js (anywhere natives (StartsAt begin is) is h) g

pub are_written : (natives : ℕ) (T : ℕ → Type 0) (items : List Item) → AreFine natives T items
    → AreWritten items
are_written natives T [] h = tt
are_written natives T (Plain it ∷ items) h = (h.0.0, h.0.1, are_written natives T items h.1)
are_written natives T (CallOf f ∷ items) h = ((tt, refl), tt, are_written natives T items h.1)
