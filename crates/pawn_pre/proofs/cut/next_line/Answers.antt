use Rattle.std.proofs.Common.{sym, ◌∙◌}
use Rattle.pawn_pre.proofs.JoinedLaws.{first_line, last_line}
use Rattle.pawn_pre.proofs.cut.next_line.Goals as goal

pub returns-in_default-clause-lines : goal.returns-in_default-clause-lines
returns-in_default-clause-lines c =
    last_line c.args.bytes.now c.requires (sym c.line_end.ensures ∙ c.in_default.is)

pub returns-clause-lines : goal.returns-clause-lines
returns-clause-lines c =
    let e = first_line c.args.bytes.now c.in-Some.end (sym c.in-Some.ensures) in
    cc
