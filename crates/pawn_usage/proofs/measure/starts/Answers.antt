use Rattle.std.proofs.Common.{◌∙◌, ap, length, arith}
use Rattle.std.proofs.Common.{◌++◌}
use Rattle.pawn_meaning.specs.Program.{Public}
use Rattle.pawn_meaning.specs.View.{public_view}
use Rattle.pawn_meaning.specs.declared.program.Public as held
use Rattle.pawn_usage.specs.Called.{at_most_one}
use Rattle.pawn_usage.proofs.GraphLaws.{mapped_ends, map_map}
use Rattle.pawn_usage.proofs.measure.starts.Goals as goal

pub returns : goal.returns
returns c =
    mapped_ends (λ (it : held.Public). it.function) (at_most_one c.args.program.now.entry)
    c.args.program.now.publics c.loop-i.i c.loop-i.starts
    (rw c.as_slice-publics.ensures at c.loop-i.invariant)
    (omega (arith, ap length c.as_slice-publics.ensures))
    ∙ ap (λ xs. at_most_one c.args.program.now.entry ++ xs)
    (map_map (λ (item : Public). item.function) public_view c.args.program.now.publics)
