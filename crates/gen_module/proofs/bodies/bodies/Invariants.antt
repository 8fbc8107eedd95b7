use Rattle.std.proofs.Common.{map}
use Rattle.pawn_meaning.specs.View.{slot_view}
use Rattle.gen_module.specs.Source.{program_of}
use Rattle.gen_module.proofs.FunctionRows.{body_part}
use Rattle.gen_module.proofs.RowLaws.{Row}
use Rattle.gen_module.proofs.bodies.bodies.Given as goal

abbrev pub invariant-loop-one : goal.invariant-loop-one
invariant-loop-one l =
    Row (body_part (program_of l.source) (map slot_view l.params)) l.bodies l.fn.b l.grown
    l.one-index l.starts.items
