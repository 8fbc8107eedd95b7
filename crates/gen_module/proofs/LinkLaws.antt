-- Cells that wait, led one after another, make the code with its functions' addresses.
use Rattle.std.proofs.Common.{◌≡◌, ◌+◌, ◌≤◌, ℕ, zero, suc, ℤ, pos, List, [], ◌∷◌, ◌++◌, length}
use Rattle.std.proofs.Common.{slice_set, refl, sym, ap, subst, ◌∙◌, arith, append_assoc}
use Rattle.std.proofs.Common.{length-append}
use Rattle.amx_ops.specs.declared.op.Op.TheVariants as op
use Rattle.amx_ops.specs.Written.{cells_of}
use Rattle.gen_sim.specs.Items.{Item, Plain, CallOf, with, size, cells_with, item_cells, waits_from}
use Rattle.gen_expr.specs.Built.{Built, with_items}
use Rattle.gen_module.specs.Linked.{linked_with, AreIn, nothing}

-- ---- what waits in items

pub waits_in : (at n : ℕ) (items : List Item) → at + length (item_cells items) ≤ n
    → AreIn n (waits_from at items)
waits_in at n [] h = tt
waits_in at n (Plain it ∷ items) h =
    waits_in (at + size (Plain it)) n items
    (omega (arith, h, length-append (cells_of it) (item_cells items)))
waits_in at n (CallOf f ∷ items) h =
    let both = length-append (cells_of (with op.Call (pos 0))) (item_cells items) in
    (omega (arith, h, both), waits_in (at + size (CallOf f)) n items (omega (arith, h, both)))

set_behind : (before : List ℤ) (x y z : ℤ) (rest : List ℤ) (i : ℕ) → i ≡ length before + 1
    → slice_set (before ++ x ∷ y ∷ rest) i z ≡ before ++ x ∷ z ∷ rest
set_behind [] x y z rest zero e = absurd (omega (arith, e))
set_behind [] x y z rest (suc zero) e = refl
set_behind [] x y z rest (suc (suc i)) e = absurd (omega (arith, e))
set_behind (b ∷ before) x y z rest zero e = absurd (omega (arith, e))
set_behind (b ∷ before) x y z rest (suc i) e =
    ap (λ l. b ∷ l) (set_behind before x y z rest i (omega (arith, e)))

pub linked_items : (entry : ℕ → ℕ) (before : List ℤ) (at : ℕ) (items : List Item)
    → at ≡ length before
    → linked_with entry (waits_from at items) (before ++ item_cells items)
    ≡ before ++ cells_with entry items
linked_items entry before at [] e = refl
linked_items entry before at (Plain it ∷ items) e =
    ap (λ l. linked_with entry (waits_from (at + size (Plain it)) items) l)
    (sym (append_assoc before (cells_of it) (item_cells items)))
    ∙ linked_items entry (before ++ cells_of it) (at + size (Plain it)) items
    (omega (arith, e, length-append before (cells_of it)))
    ∙ append_assoc before (cells_of it) (cells_with entry items)
linked_items entry before at (CallOf f ∷ items) e =
    let call = cells_of (with op.Call (pos (entry f))) in
    ap (λ l. linked_with entry (waits_from (at + size (CallOf f)) items) l)
    (set_behind before _ _ (pos (entry f)) (item_cells items) (at + 1) (omega (arith, e))
    ∙ sym (append_assoc before call (item_cells items)))
    ∙ linked_items entry (before ++ call) (at + size (CallOf f)) items
    (omega (arith, e, length-append before call))
    ∙ append_assoc before call (cells_with entry items)

-- ---- code that was appended to nothing

pub waits_are_in : (b : Built) (items : List Item) (code : List ℤ) (waits : List (ℕ × ℕ))
    → b ≡ with_items items nothing → code ≡ b.code → waits ≡ b.waits
    → AreIn (length code) waits
waits_are_in b items code waits is same all =
    let count : length code ≡ length (item_cells items) =
    ap length (same ∙ ap (λ (x : Built). x.code) is) in
    let found : waits ≡ waits_from 0 items = all ∙ ap (λ (x : Built). x.waits) is in
    subst (λ l. AreIn (length code) l) (sym found)
    (waits_in 0 (length code) items (omega (arith, count)))

pub linked_done : (b : Built) (items : List Item) (entry : ℕ → ℕ) (code : List ℤ)
    (waits : List (ℕ × ℕ)) (done : List ℤ) → b ≡ with_items items nothing
    → code ≡ b.code → waits ≡ b.waits → done ≡ linked_with entry waits code
    → done ≡ cells_with entry items
linked_done b items entry code waits done is same all led =
    led ∙ ap (λ l. linked_with entry l code) (all ∙ ap (λ (x : Built). x.waits) is)
    ∙ ap (λ l. linked_with entry (waits_from 0 items) l) (same ∙ ap (λ (x : Built). x.code) is)
    ∙ linked_items entry [] 0 items refl
