use Rattle.std.proofs.Common.{◌∙◌, ap, length, arith}
use Rattle.std.proofs.Common.{[], map}
use Rattle.pawn_meaning.specs.Program.{Function}
use Rattle.pawn_meaning.specs.View.{program_view, function_view, body_view}
use Rattle.pawn_meaning.specs.declared.program.Function as held
use Rattle.pawn_usage.specs.Called.{called_by_bodies}
use Rattle.pawn_usage.proofs.GraphLaws.{mapped_ends, map_map}
use Rattle.pawn_usage.proofs.graph.called_by_each.Goals as goal

pub returns : goal.returns
returns c =
    mapped_ends
    (λ (it : held.Function). called_by_bodies (program_view c.args.program.now)
    (map body_view it.bodies)) [] c.args.program.now.functions c.loop-i.i c.loop-i.each
    (rw c.as_slice-functions.ensures at c.loop-i.invariant)
    (omega (arith, ap length c.as_slice-functions.ensures))
    ∙ map_map (λ (it : Function). called_by_bodies (program_view c.args.program.now) it.bodies)
    function_view c.args.program.now.functions
