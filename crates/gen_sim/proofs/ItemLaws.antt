-- Items one behind another: where they lie, and how many cells they take.
use Rattle.std.proofs.Common.{◌≡◌, ◌+◌, ◌*◌, ℕ, List, [], ◌∷◌, ◌++◌, length, refl, sym, ap, ◌∙◌}
use Rattle.std.proofs.Common.{arith, append_assoc, length-append}
use Rattle.gen_sim.specs.Site.{Site}
use Rattle.gen_sim.specs.Items.{Item, placed_in, size, cells_with, item_cells, past, LieIn}
use Rattle.amx_ops.specs.Written.{cells_of}

pub lie_first : (x : Site) (p : ℕ) (is js : List Item) → LieIn x p (is ++ js) → LieIn x p is
lie_first x p [] js l = tt
lie_first x p (i ∷ is) js l = (l.0, l.1, l.2, lie_first x (p + 4 * size i) is js l.3)

pub lie_rest : (x : Site) (p : ℕ) (is js : List Item) → LieIn x p (is ++ js)
    → LieIn x (past p is) js
lie_rest x p [] js l = l
lie_rest x p (i ∷ is) js l = lie_rest x (p + 4 * size i) is js l.3

pub past-append : (p : ℕ) (is js : List Item) → past p (is ++ js) ≡ past (past p is) js
past-append p [] js = refl
past-append p (i ∷ is) js = past-append (p + 4 * size i) is js

pub cells-append : (entry : ℕ → ℕ) (is js : List Item)
    → cells_with entry (is ++ js) ≡ cells_with entry is ++ cells_with entry js
cells-append entry [] js = refl
cells-append entry (i ∷ is) js =
    ap (λ l. cells_of (placed_in entry i) ++ l) (cells-append entry is js)
    ∙ sym (append_assoc (cells_of (placed_in entry i)) (cells_with entry is) (cells_with entry js))

pub count-append : (is js : List Item)
    → length (item_cells (is ++ js)) ≡ length (item_cells is) + length (item_cells js)
count-append is js =
    ap length (cells-append (λ f. 0) is js) ∙ length-append (item_cells is) (item_cells js)

-- the end is as many cells on
pub past_is : (p : ℕ) (is : List Item) → past p is ≡ p + 4 * length (item_cells is)
past_is p [] = omega arith
past_is p (i ∷ is) =
    omega (
      arith,
      past_is (p + 4 * size i) is,
      length-append (cells_of (placed_in (λ f. 0) i)) (item_cells is),
    )
