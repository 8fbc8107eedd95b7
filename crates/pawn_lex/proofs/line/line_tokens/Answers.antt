use Rattle.std.proofs.Common.{◌≡◌, ◌==◌, ◌&&◌, not, length, ap, ◌∙◌}
use Rattle.pawn_token.specs.Kinds.{blanks}
use Rattle.pawn_lex.proofs.LineLaws.{line_step, line_shorter, touch_then, touch_else}
use Rattle.pawn_lex.proofs.line.line_tokens.Goals as goal
use Rattle.pawn_lex.proofs.line.line_tokens.Goals.{then-not-first, else-not-first}

pub loop-blanks-smaller : goal.loop-blanks-smaller
loop-blanks-smaller c =
    line_shorter c.args.line.now c.loop-blanks.rest.now c.split.result.1.now c.in_ok-kind.kind
    c.in_ok-kind.after.now
    c.split.ensures.rest c.in_ok-kind.ensures.answer

pub loop-blanks-preserved : goal.loop-blanks-preserved
loop-blanks-preserved c =
    let n = length (blanks c.loop-blanks.rest.now) in
    let counted = ap (λ bytes. length bytes == 0) c.split.ensures.front in
    let touch : c.if-not-first.touches ≡ (not c.loop-blanks.first && (n == 0)) =
    elim c.if-not-first.branch [
      | then-not-first w ↦
          touch_then c.loop-blanks.first c.if-not-first.touches w.is_empty-touches.result n
          w.if-not-first.true w.touches-is
          (w.is_empty-touches.ensures ∙ counted)
      | else-not-first w ↦ touch_else c.loop-blanks.first c.if-not-first.touches n
          w.if-not-first.false w.touches-is
    ] in
    line_step c.args.line.now c.args.list.now c.loop-blanks.list c.push.new.self c.loop-blanks.first
    c.if-not-first.touches
    c.loop-blanks.rest.now c.split.result.1.now c.in_ok-kind.kind c.in_ok-kind.after.now
    c.loop-blanks.invariant
    c.split.ensures.rest c.in_ok-kind.ensures.answer touch c.in_ok-push.ensures.ok
