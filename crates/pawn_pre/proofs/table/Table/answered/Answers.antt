use Rattle.std.proofs.Common.{◌≡◌, ◌+◌, ◌-◌, drop, length, arith}
use Rattle.pawn_pre.proofs.AnswerLaws.{next_bytes, kept_byte, answered_name}
use Rattle.pawn_pre.proofs.table.Table.answered.Goals as goal

pub loop-i-preserved-in-Some : goal.loop-i-preserved-in-Some
loop-i-preserved-in-Some c =
    let cut = next_bytes c.args.bytes.now c.loop-i.i (grind arith) in
    let first : c.loop-i.left ≡ 0 = grind arith in
    let so_far = rw (cut, first) at c.loop-i.invariant in
    let found =
    rw (c.in-Some.is, c.begins_whole_name-begins.ensures, c.split_at.ensures.back, cut) at
    c.defined_at.ensures in
    let len : length c.split_at.result.1.now - 1 ≡ length (drop (c.loop-i.i + 1) c.args.bytes.now) =
    rw (c.split_at.ensures.back, cut) (omega arith) in
    rw (
      c.in_ok-push-in-Some.ensures.ok,
      c.digit.ensures,
      c.after-quote.ensures,
      c.is_in-joined.ensures,
      c.saturating_sub-left.ensures,
      len,
    )
    (answered_name c.loop-i.out _ c.args.self.now c.args.control c.loop-i.quote c.loop-i.joined _ _
    _ found so_far)

pub loop-i-preserved : goal.loop-i-preserved
loop-i-preserved c =
    let cut = next_bytes c.args.bytes.now c.loop-i.i (grind arith) in
    let first : c.loop-i.left ≡ 0 = grind arith in
    let so_far = rw (cut, first) at c.loop-i.invariant in
    let found =
    rw (c.in-None.is, c.begins_whole_name-begins.ensures, c.split_at.ensures.back, cut) at
    c.defined_at.ensures in
    rw (c.in_ok-push-in-None.ensures.ok, c.after-quote.ensures, c.is_in-joined.ensures, first)
    (kept_byte c.loop-i.out _ c.args.self.now c.args.control c.loop-i.quote c.loop-i.joined _ _
    found so_far)
