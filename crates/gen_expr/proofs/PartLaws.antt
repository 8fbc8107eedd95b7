-- Parts of a node, of which each begins where the one before it ends.
use Rattle.std.proofs.Common.{◌≡◌, ◌+◌, ◌*◌, ◌≤◌, ℕ, List, ◌∷◌, ◌++◌, length, ap, ◌∙◌, arith}
use Rattle.std.proofs.Common.{length-append}
use Rattle.amx_ops.specs.declared.op.Op.TheVariants as op
use Rattle.gen_sim.specs.Items.{Item, item_cells, past}
use Rattle.gen_sim.specs.SimpleCode.{alone, waiting_code}
use Rattle.gen_expr.specs.Built.{Built, with_items}
use Rattle.gen_expr.proofs.GrowLaws.{then_grow, next_at}

-- no cell is lost
pub keeps_cells : (b m : Built) (is : List Item) → m ≡ with_items is b
    → length b.code ≤ length m.code
keeps_cells b m is e =
    let same : length m.code ≡ length (b.code ++ item_cells is) =
    ap (λ (x : Built). length x.code) e in
    omega (arith, length-append b.code (item_cells is))

-- a first part, and what its end leads to
pub behind : (b m r : Built) (first : List Item) (rest : ℕ → List Item) → m ≡ with_items first b
    → r ≡ with_items (rest (4 * length m.code)) m
    → r ≡ with_items (first ++ rest (past (4 * length b.code) first)) b
behind b m r first rest e f =
    then_grow b m r first (rest (past (4 * length b.code) first)) e
    (f ∙ ap (λ q. with_items (rest q) m) (next_at b m first e))

-- a first part, a second one while the first one's value waits, and what is done with both
pub waiting_done : (b m n r : Built) (first tail : List Item) (second : ℕ → List Item)
    → m ≡ with_items first b
    → n ≡ with_items (alone op.PushPri ∷ second (4 * length m.code + 4)) m → r ≡ with_items tail n
    → r ≡ with_items (waiting_code first (second (past (4 * length b.code) first + 4)) tail) b
waiting_done b m n r first tail second e f g =
    behind b m r first (λ q. alone op.PushPri ∷ (second (q + 4) ++ tail)) e
    (then_grow m n r (alone op.PushPri ∷ second (4 * length m.code + 4)) tail f g)
