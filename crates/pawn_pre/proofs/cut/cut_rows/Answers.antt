use Rattle.std.proofs.Common.{◌≡◌, length, sym, ◌∙◌, true, false, inl, inr, [], arith}
use Rattle.std.proofs.lemmas.Bool.{eqb-true}
use Rattle.std.proofs.lemmas.List.{append-nil}
use Rattle.std.proofs.lemmas.Grind.{common_steps}
use Rattle.std.specs.Str.Lines.{lines}
use Rattle.pawn_pre.specs.Joined.{glued, joined, rows_of, is_last, goes_on}
use Rattle.pawn_pre.proofs.JoinedLaws.{joined_on, joined_row, glued_none, lines_none}
use Rattle.pawn_pre.proofs.JoinedLaws.{last_exactly}
use Rattle.pawn_pre.proofs.cut.cut_rows.Goals as goal
use Rattle.pawn_pre.proofs.cut.cut_rows.Goals.{else-is_continued-via-then-is_continued+else-not-is_empty}
use Rattle.pawn_pre.proofs.cut.cut_rows.Goals.{else-is_continued-via-else-is_continued}

pub loop-rest-init : goal.loop-rest-init
unfolding rows_of
loop-rest-init c = (grind (arith, common_steps, glued_none), omega arith)

pub loop-rest-preserved-then-not-is_empty : goal.loop-rest-preserved-then-not-is_empty
loop-rest-preserved-then-not-is_empty c =
    let on : goes_on c.next_line.result.0.now ≡ true = cc in
    let more : is_last (lines c.next_line.result.1.now) ≡ false =
    last_exactly c.next_line.result.1.now ∙ sym c.is_empty-then-is_continued.ensures
    ∙ grind (arith, c.if-not-is_empty.true) in
    let e =
    joined_on c.loop-rest.rows.items c.loop-rest.start c.loop-rest.number c.loop-rest.front
    c.next_line.result.0.now (lines c.next_line.result.1.now) on more in (
      cc (
        c.in_ok-append.ensures.ok,
        c.split_at.ensures.front,
        c.next_line.ensures.lines,
        c.loop-rest.invariant.0,
      ),
      omega arith,
    )

pub loop-rest-preserved : goal.loop-rest-preserved
loop-rest-preserved c =
    let e =
    joined_row c.loop-rest.rows.items c.loop-rest.start c.loop-rest.number c.loop-rest.front
    c.next_line.result.0.now (lines c.next_line.result.1.now)
    (elim c.else-is_continued.branch [
      | else-is_continued-via-then-is_continued+else-not-is_empty w ↦
          inl (last_exactly c.next_line.result.1.now ∙ sym w.is_empty-then-is_continued.ensures
          ∙ w.if-not-is_empty.false)
      | else-is_continued-via-else-is_continued w ↦ inr
          (sym c.is_continued.ensures ∙ w.if-is_continued.false)
    ]) in (
      cc (
        c.in_ok-append-2.ensures.ok,
        c.in_ok-push_back.ensures.items,
        c.next_line.ensures.lines,
        c.loop-rest.invariant.0,
        c.new-front-in-loop-rest.ensures,
      ),
      omega arith,
    )

pub returns : goal.returns
unfolding glued joined
returns c =
    let is_empty : length c.loop-rest.rest.now ≡ 0 =
    eqb-true _ _ (sym c.is_empty.ensures ∙ c.loop-rest-test.false) in
    let none : lines c.loop-rest.rest.now ≡ [] = lines_none c.loop-rest.rest.now is_empty in
    let whole = rw none at c.loop-rest.invariant.0 in
    sym (append-nil _) ∙ whole
