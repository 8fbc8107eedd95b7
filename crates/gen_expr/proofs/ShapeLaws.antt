-- The shapes of code, part by part.
use Rattle.std.proofs.Common.{◌≡◌, ◌-◌, ◌*◌, ◌<◌, ℕ, ℤ, pos, neg_ℤ, suc, zero, List, [], ◌∷◌}
use Rattle.std.proofs.Common.{◌++◌, Some, ap, ◌∙◌, arith, append_assoc, append-nil}
use Rattle.pawn_meaning.specs.Program.{Scalar}
use Rattle.amx_ops.specs.declared.op.Op.TheVariants as op
use Rattle.gen_sim.specs.Items.{Item}
use Rattle.gen_sim.specs.SimpleCode.{alone, taking, waiting_code}
use Rattle.gen_sim.specs.AccessCode.{load_code, store_code, changed_code}
use Rattle.gen_sim.specs.IndexCode.{bounds_code}
use Rattle.gen_sim.specs.CallCode.{give_back_code}
use Rattle.gen_expr.specs.Built.{Built, with_items}
use Rattle.gen_expr.specs.Opened.{opened_code}
use Rattle.gen_expr.proofs.GrowLaws.{then_grow}

-- two parts, and what is done behind them
pub waiting_grows : (b m r : Built) (x y tail : List Item) → m ≡ with_items (waiting_code x y []) b
    → r ≡ with_items tail m
    → r ≡ with_items (waiting_code x y tail) b
waiting_grows b m r x y tail e f =
    let shape : waiting_code x y [] ++ tail ≡ waiting_code x y tail =
    append_assoc x (alone op.PushPri ∷ (y ++ [])) tail
    ∙ ap (λ l. x ++ (alone op.PushPri ∷ (l ++ tail))) (append-nil y) in
    then_grow b m r (waiting_code x y []) tail e f ∙ ap (λ l. with_items l b) shape

-- the new value is made, and stored
pub changed_grows : (b m n r : Built) (p : Scalar) (change : List Item)
    → m ≡ with_items (opened_code p) b
    → n ≡ with_items change m → r ≡ with_items (alone op.PopAlt ∷ store_code p) n
    → r ≡ with_items (alone op.PopAlt ∷ changed_code p change) b
changed_grows b m n r p change e f g =
    let last = alone op.PopAlt ∷ store_code p in
    let shape : (opened_code p ++ change) ++ last ≡ alone op.PopAlt ∷ changed_code p change =
    append_assoc (opened_code p) change last
    ∙ ap (λ l. alone op.PopAlt ∷ alone op.PushAlt ∷ alone op.Xchg ∷ l)
    (append_assoc (load_code p) (alone op.Xchg ∷ []) (change ++ last)) in
    then_grow b n r (opened_code p ++ change) last (then_grow b m n (opened_code p) change e f) g
    ∙ ap (λ l. with_items l b) shape

-- the test of an index below a size that isn't 0
pub bounds_grow : (b r : Built) (n : ℕ) (v : ℤ) → 0 < n → v ≡ pos (n - 1)
    → r ≡ with_items (taking op.Bounds v ∷ []) b
    → r ≡ with_items (bounds_code (Some n)) b
bounds_grow b r zero v p e f = absurd (omega (arith, p))
bounds_grow b r (suc k) v p e f =
    let last : v ≡ pos k = e ∙ ap pos (omega arith) in
    f ∙ ap (λ x. with_items (taking op.Bounds x ∷ []) b) last

-- cells that are given back, where there are some
pub give_back_grows : (b r : Built) (n : ℕ) (v : ℤ) → 0 < n → v ≡ neg_ℤ (pos (4 * n))
    → r ≡ with_items (taking op.Heap v ∷ []) b
    → r ≡ with_items (give_back_code n) b
give_back_grows b r zero v p e f = absurd (omega (arith, p))
give_back_grows b r (suc k) v p e f = f ∙ ap (λ x. with_items (taking op.Heap x ∷ []) b) e
