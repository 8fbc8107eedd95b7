use Rattle.std.proofs.Common.{inl, inr, ◌≡◌, ℕ, ◌+◌, ◌<◌, length, List, arith, subst, ◌∙◌}
use Rattle.std.specs.Prelude.{get_or}
use Rattle.std.proofs.lemmas.Bool.{cases_lt}
use Rattle.std.proofs.lemmas.List.{get_or_default}
use Rattle.pawn_pre.specs.declared.line.Line.{Line}
use Rattle.pawn_front.specs.Good.{AreBytes}
use Rattle.pawn_front.proofs.good.are_byte_lines.Goals as goal

-- what holds of those before and of this one holds of those before the next
more : (lines : List Line) (i : ℕ) (it : Line) → i < length lines → it ≡ get_or lines i it
    → AreBytes it.bytes
    → ((k : ℕ) (d : Line) → k < i → AreBytes (get_or lines k d).bytes)
    → (k : ℕ) (d : Line) → k < i + 1 → AreBytes (get_or lines k d).bytes
more lines i it there is bytes before k d h = elim (cases_lt k i) [
  | inl less ↦ before k d less
  | inr most ↦
      let same : i ≡ k = omega (arith, h, most) in
      subst (λ (n : ℕ). AreBytes (get_or lines n d).bytes) same
      (subst (λ (line : Line). AreBytes line.bytes) (is ∙ get_or_default lines i it d there) bytes)
]

pub loop-line-preserved : goal.loop-line-preserved
loop-line-preserved c =
    more _ c.loop-line.line-index c.line-item.result c.loop-line-test.true c.line-item.is
    (subst AreBytes c.as_slice.ensures c.are_bytes.ensures) c.loop-line.invariant

pub returns : goal.returns
returns c = λ k d h. c.loop-line.invariant k d (omega arith)
