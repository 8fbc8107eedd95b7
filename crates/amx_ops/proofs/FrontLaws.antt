-- What stands at the front of some cells, and what is read behind it.
use Rattle.std.proofs.Common.{◌≡◌, ◌+◌, ◌-◌, ◌*◌, ◌≤◌, ℕ, zero, suc, ℤ, List, [], ◌∷◌, Some}
use Rattle.std.proofs.Common.{length, drop, sym, ap, ◌∙◌, arith}
use Rattle.amx_ops.specs.declared.instr.Instr.{Instr}
use Rattle.amx_ops.specs.Instructions.{Placed, placed_from, placed_by, front}

abbrev pub placed_one : ℕ → Instr → Placed
placed_one at i = record { at = at; instr = i }

passed_over : (at k : ℕ) (cells : List ℤ) → k ≤ length cells
    → placed_from at k cells ≡ placed_from (at + 4 * k) 0 (drop k cells)
passed_over at zero cells h = ap (λ a. placed_from a 0 cells) (omega arith)
passed_over at (suc k) [] h = absurd (omega (arith, h))
passed_over at (suc k) (cell ∷ cells) h =
    passed_over (at + 4) k cells (omega (arith, h))
    ∙ ap (λ a. placed_from a 0 (drop k cells)) (omega arith)

-- the instruction at the front, and those behind it
pub placed_front : (at : ℕ) (i : Instr) (cells : List ℤ) → front cells ≡ Some i → 1 ≤ i.cells
    → i.cells ≤ length cells
    → placed_from at 0 cells ≡ placed_one at i
    ∷ placed_from (at + 4 * i.cells) 0 (drop i.cells cells)
placed_front at i [] e more within = absurd (omega (arith, more, within))
placed_front at i (cell ∷ cells) e more within =
    let k = i.cells - 1 in
    let up : i.cells ≡ suc k = omega (arith, more) in
    let rest : placed_from (at + 4) k cells
    ≡ placed_from (at + 4 * i.cells) 0 (drop i.cells (cell ∷ cells)) =
    passed_over (at + 4) k cells (omega (arith, within, up))
    ∙ ap (λ a. placed_from a 0 (drop k cells)) (omega (arith, up))
    ∙ ap (λ n. placed_from (at + 4 * i.cells) 0 (drop n (cell ∷ cells))) (sym up) in
    ap (λ o. placed_by at o (λ i. placed_from (at + 4) (i.cells - 1) cells)) e
    ∙ ap (λ its. placed_one at i ∷ its) rest
