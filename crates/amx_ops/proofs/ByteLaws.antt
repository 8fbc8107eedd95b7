-- Lists of the same cells, and the bytes of their cells.
use Rattle.std.proofs.Common.{◌≡◌, ◌+◌, ◌-◌, ◌*◌, ◌/◌, ◌%◌, ◌<◌, ℕ, suc, ℤ, pos, List, [], ◌∷◌}
use Rattle.std.proofs.Common.{length, get_or, refl, ap, ◌∙◌, arith}
use Rattle.pawn_cells.specs.Cells.{char_at}
use Rattle.amx_ops.specs.Access.{byte_at}

pub same_cells : (xs ys : List ℤ) → length xs ≡ length ys
    → ((i : ℕ) → i < length xs → get_or xs i (pos 0) ≡ get_or ys i (pos 0)) → xs ≡ ys
same_cells [] [] e same = refl
same_cells [] (y ∷ ys) e same = absurd (omega (arith, e))
same_cells (x ∷ xs) [] e same = absurd (omega (arith, e))
same_cells (x ∷ xs) (y ∷ ys) e same =
    ap (λ z. z ∷ xs) (same 0 (omega arith))
    ∙ ap (λ zs. y ∷ zs) (same_cells xs ys (omega (arith, e))
    (λ i h. same (suc i) (omega (arith, h))))

pub byte_is : (cells : List ℤ) (i j : ℕ) → j < 4
    → byte_at cells (4 * i + j) ≡ char_at (get_or cells i (pos 0)) (3 - j)
byte_is cells i j h =
    let place : (4 * i + j) / 4 ≡ i = omega (arith, h) in
    let rest : (4 * i + j) % 4 ≡ j = omega (arith, h) in
    ap (λ p. char_at (get_or cells p (pos 0)) (3 - (4 * i + j) % 4)) place
    ∙ ap (λ r. char_at (get_or cells i (pos 0)) (3 - r)) rest
