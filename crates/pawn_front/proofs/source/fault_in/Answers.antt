use Rattle.pawn_front.specs.Faults.{Breaks}
use Rattle.pawn_front.proofs.CompileLaws.{refuses_lines}
use Rattle.pawn_front.proofs.source.fault_in.Goals as goal

pub returns-in-Source : goal.returns-in-Source
returns-in-Source c =
    let breaks : Breaks c.args.lines.now c.in-Source.kind c.in-Source.place =
    rw c.in-Source.is at c.requires in
    refuses_lines c.args.lines.now c.in-Source.kind c.in-Source.place c.refusal.result breaks
    c.refusal.ensures
