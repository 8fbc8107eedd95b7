use Rattle.std.proofs.Common.{ap, sym, subst}
use Rattle.pawn_pre.specs.Sound.{IsSoundStack}
use Rattle.pawn_pre.specs.Level.{Level}
use Rattle.pawn_pre.proofs.BoundLaws.{told_leaves, row_sound, kept_page, acted_page}
use Rattle.pawn_pre.proofs.RemainingLaws.{kept_line, acted_line, included}
use Rattle.pawn_pre.proofs.walk.Walk.turn.Goals as goal

pub returns-in-None-clause-bounds : goal.returns-in-None-clause-bounds
returns-in-None-clause-bounds g c = λ k.
    let old =
    row_sound _ c.take_row.new.self (ap (λ (t : Level). t.file) c.take_row.ensures.rest)
    (subst IsSoundStack (sym c.self.view_is) k) in
    told_leaves (record c.args.self.now { names = _ }) _ _ _ _ c.line_answer.ensures
    (kept_page _ c.keep-done.new.self _ _ _ old c.keep-done.ensures)

pub returns-in-Include-clause-bounds : goal.returns-in-Include-clause-bounds
returns-in-Include-clause-bounds g c = λ k.
    c.include.ensures.bounds
    (row_sound _ c.take_row.new.self (ap (λ (t : Level). t.file) c.take_row.ensures.rest)
    (subst IsSoundStack (sym c.self.view_is) k))

pub returns-in-TryInclude-clause-bounds : goal.returns-in-TryInclude-clause-bounds
returns-in-TryInclude-clause-bounds g c = λ k.
    c.include-in-TryInclude.ensures.bounds
    (row_sound _ c.take_row.new.self (ap (λ (t : Level). t.file) c.take_row.ensures.rest)
    (subst IsSoundStack (sym c.self.view_is) k))

pub returns-clause-bounds : goal.returns-clause-bounds
returns-clause-bounds g c = λ k.
    let old =
    row_sound _ c.take_row.new.self (ap (λ (t : Level). t.file) c.take_row.ensures.rest)
    (subst IsSoundStack (sym c.self.view_is) k) in
    told_leaves (record c.args.self.now { names = _ }) _ _ _ _ c.line_answer-in-Define.ensures
    (acted_page _ c.act-done.new.self _ _ _ _ old c.act-done.ensures)

pub returns-in-None-clause-falls : goal.returns-in-None-clause-falls
returns-in-None-clause-falls g c = rw (← c.self.view_is)
    (kept_line _ c.take_row.new.self c.in-Some.row c.in-Some.ensures.row c.take_row.ensures.rest
    c.keep-done.new.self _ _ _ _ _ _ c.keep-done.ensures c.line_answer.ensures)

pub returns-in-Include-clause-falls : goal.returns-in-Include-clause-falls
returns-in-Include-clause-falls g c = rw (← c.self.view_is)
    (included _ c.take_row.new.self c.in-Some.row c.in-Some.ensures.row c.take_row.ensures.rest _ _
    c.include.ensures.falls)

pub returns-in-TryInclude-clause-falls : goal.returns-in-TryInclude-clause-falls
returns-in-TryInclude-clause-falls g c = rw (← c.self.view_is)
    (included _ c.take_row.new.self c.in-Some.row c.in-Some.ensures.row c.take_row.ensures.rest _ _
    c.include-in-TryInclude.ensures.falls)

pub returns-clause-falls : goal.returns-clause-falls
returns-clause-falls g c = rw (← c.self.view_is)
    (acted_line _ c.take_row.new.self c.in-Some.row c.in-Some.ensures.row c.take_row.ensures.rest
    c.act-done.new.self _ _ _ _ _ _ _ c.act-done.ensures c.line_answer-in-Define.ensures)
