-- Cells that are written one after another, and what stands behind the links of a chain.
use Rattle.std.proofs.Common.{◌≡◌, ◌+◌, ◌*◌, ◌<◌, ℕ, zero, suc, ℤ, pos, List, [], ◌∷◌, length, drop}
use Rattle.std.proofs.Common.{get_or, add-one, length-set, refl, sym, ap, subst, ◌∙◌, arith}
use Rattle.std.proofs.Math.Seq.{drop-cons}
use Rattle.amx_ops.specs.declared.op.Op.TheVariants as op
use Rattle.gen_sim.specs.SimpleCode.{alone, taking}
use Rattle.gen_sim.specs.JumpCode.{truth_code}
use Rattle.gen_sim.specs.ChainCode.{fail_at, chain_end_code}
use Rattle.gen_expr.specs.Built.{Built, with_items}
use Rattle.gen_expr.specs.Filled.{filled}
use Rattle.gen_expr.proofs.GrowLaws.{then_grow}
use Rattle.gen_expr.specs.Holes.{all_filled, AreIn, ended_by}

-- from a number on
rest_is : (holes : List ℕ) (i at : ℕ) → i < length holes → at ≡ get_or holes i at
    → drop i holes ≡ at ∷ drop (i + 1) holes
rest_is holes i at within is =
    drop-cons holes i at within ∙ ap (λ x. x ∷ drop (suc i) holes) (sym is)
    ∙ ap (λ k. at ∷ drop k holes) (sym (add-one i))

pub fill_more : (holes : List ℕ) (i at : ℕ) (to : ℤ) (b : Built) → i < length holes
    → at ≡ get_or holes i at
    → all_filled (drop i holes) to b ≡ all_filled (drop (i + 1) holes) to (filled at to b)
fill_more holes i at to b within is = ap (λ l. all_filled l to b) (rest_is holes i at within is)

none_left : (holes : List ℕ) (n : ℕ) → n ≡ length holes → drop n holes ≡ []
none_left [] zero e = refl
none_left [] (suc n) e = refl
none_left (at ∷ holes) zero e = absurd (omega (arith, e))
none_left (at ∷ holes) (suc n) e = none_left holes n (omega (arith, e))

pub none_filled : (holes : List ℕ) (i : ℕ) (to : ℤ) (b : Built) → i ≡ length holes
    → all_filled (drop i holes) to b ≡ b
none_filled holes i to b e = ap (λ l. all_filled l to b) (none_left holes i e)

pub in_more : (holes : List ℕ) (i at n : ℕ) → i < length holes → at ≡ get_or holes i at
    → AreIn n (drop i holes)
    → (at < n) × AreIn n (drop (i + 1) holes)
in_more holes i at n within is all = subst (λ l. AreIn n l) (rest_is holes i at within is) all

-- a cell that is written is no cell more
pub filled_cells : (at : ℕ) (to : ℤ) (b : Built) → length (filled at to b).code ≡ length b.code
filled_cells at to b = length-set b.code at to

-- behind the links
pub ended_done : (holes : List ℕ) (b made jumped failed r : Built) (fail end : ℤ) → 0 < length holes
    → fail ≡ pos (4 * length b.code + 16) → end ≡ pos (4 * length b.code + 20)
    → made ≡ with_items truth_code b
    → jumped ≡ with_items (taking op.Jump end ∷ []) made
    → failed ≡ with_items (alone op.PopAlt ∷ []) jumped
    → r ≡ all_filled holes fail failed → r ≡ ended_by holes b
ended_done [] b made jumped failed r fail end some ef ee em ej et er = absurd (omega (arith, some))
ended_done (at ∷ holes) b made jumped failed r fail end some ef ee em ej et er =
    let q = 4 * length b.code in
    let fail_is : fail ≡ pos (fail_at q) = ef ∙ ap pos (omega arith) in
    let end_is : end ≡ pos (fail_at q + 4) = ee ∙ ap pos (omega arith) in
    let whole : failed ≡ with_items
    (alone op.Not ∷ alone op.Not ∷ taking op.Jump end ∷ alone op.PopAlt ∷ []) b =
    then_grow b jumped failed (alone op.Not ∷ alone op.Not ∷ taking op.Jump end ∷ [])
    (alone op.PopAlt ∷ [])
    (then_grow b made jumped truth_code (taking op.Jump end ∷ []) em ej) et in
    let ends : failed ≡ with_items (chain_end_code q) b =
    whole ∙ ap (λ z. with_items (alone op.Not ∷ alone op.Not ∷ taking op.Jump z ∷ alone op.PopAlt
    ∷ []) b) end_is in
    er ∙ ap (λ z. all_filled (at ∷ holes) z failed) fail_is
    ∙ ap (λ (z : Built). all_filled (at ∷ holes) (pos (fail_at q)) z) ends
