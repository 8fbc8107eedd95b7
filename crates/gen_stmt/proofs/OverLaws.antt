-- Cells that are written one behind another.
use Rattle.std.proofs.Common.{◌≡◌, ◌+◌, ℕ, ℤ, List, [], ◌∷◌, ◌++◌, length, length-set, refl, sym}
use Rattle.std.proofs.Common.{ap, ◌∙◌, arith, append_assoc, length-append}
use Rattle.std.proofs.Math.Seq.{set-append_seam}
use Rattle.gen_expr.specs.Built.{Built}
use Rattle.gen_expr.specs.Filled.{filled}
use Rattle.gen_stmt.specs.Over.{over}

pub over_cells : (at : ℕ) (vs : List ℤ) (b : Built) → length (over at vs b).code ≡ length b.code
over_cells at [] b = refl
over_cells at (v ∷ vs) b = over_cells (at + 1) vs (filled at v b) ∙ length-set b.code at v

pub over_waits : (at : ℕ) (vs : List ℤ) (b : Built) → (over at vs b).waits ≡ b.waits
over_waits at [] b = refl
over_waits at (v ∷ vs) b = over_waits (at + 1) vs (filled at v b)

pub over_append : (at : ℕ) (xs ys : List ℤ) (b : Built)
    → over at (xs ++ ys) b ≡ over (at + length xs) ys (over at xs b)
over_append at [] ys b = ap (λ n. over n ys b) (omega arith)
over_append at (x ∷ xs) ys b =
    over_append (at + 1) xs ys (filled at x b)
    ∙ ap (λ n. over n ys (over (at + 1) xs (filled at x b))) (omega arith)

-- cells in the place of as many others
pub over_others : (before olds news after : List ℤ) (waits : List (ℕ × ℕ))
    → length olds ≡ length news
    → over (length before) news (record { code = before ++ (olds ++ after); waits = waits })
    ≡ record { code = before ++ (news ++ after); waits = waits }
over_others before [] [] after waits e = refl
over_others before [] (v ∷ news) after waits e = absurd (omega (arith, e))
over_others before (w ∷ olds) [] after waits e = absurd (omega (arith, e))
over_others before (w ∷ olds) (v ∷ news) after waits e =
    let next = before ++ v ∷ [] in
    ap (λ (l : List ℤ). over (length before + 1) news (record { code = l; waits = waits }))
    (set-append_seam before w (olds ++ after) v
    ∙ sym (append_assoc before (v ∷ []) (olds ++ after)))
    ∙ ap (λ n. over n news (record { code = next ++ (olds ++ after); waits = waits }))
    (sym (length-append before (v ∷ [])))
    ∙ over_others next olds news after waits (omega (arith, e))
    ∙ ap (λ (l : List ℤ). record { code = l; waits = waits })
    (append_assoc before (v ∷ []) (news ++ after))
