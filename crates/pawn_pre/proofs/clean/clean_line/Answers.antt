use Rattle.std.proofs.Common.{◌≡◌, [], drop, ap, ◌∙◌, arith}
use Rattle.std.proofs.lemmas.Grind.{common_steps}
use Rattle.pawn_pre.specs.Scan.{before}
use Rattle.pawn_pre.proofs.CommentLaws.{closed_is_clean}
use Rattle.pawn_pre.proofs.clean.clean_line.Goals as goal

pub returns-clause-bytes : goal.returns-clause-bytes
unfolding before
returns-clause-bytes c =
    let none : drop c.loop-byte.byte-index c.args.line.now ≡ [] = grind (arith, common_steps) in
    c.in_ok-goes_on.ensures.bytes
    ∙ ap (λ cleaned. cleaned.bytes)
    (closed_is_clean _ _ _ c.loop-byte.mode c.args.was_open none c.loop-byte.invariant)

pub returns-clause-unclosed : goal.returns-clause-unclosed
unfolding before
returns-clause-unclosed c =
    let none : drop c.loop-byte.byte-index c.args.line.now ≡ [] = grind (arith, common_steps) in
    c.in_ok-goes_on.ensures.unclosed
    ∙ ap (λ cleaned. cleaned.unclosed)
    (closed_is_clean _ _ _ c.loop-byte.mode c.args.was_open none c.loop-byte.invariant)
