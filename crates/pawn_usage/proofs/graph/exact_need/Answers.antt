use Rattle.std.proofs.Common.{◌≡◌, subst, Some, slice_get, arith}
use Rattle.std.proofs.Common.{map}
use Rattle.pawn_meaning.specs.Need.{need}
use Rattle.pawn_meaning.specs.Capped.{capped}
use Rattle.pawn_meaning.specs.View.{function_view}
use Rattle.pawn_usage.proofs.GraphLaws.{exact_needs}
use Rattle.pawn_usage.proofs.graph.exact_need.Goals as goal

pub returns : goal.returns
returns c =
    let same : c.in-Ok.number ≡ c.args.index = omega arith in
    exact_needs (map function_view c.args.program.now.functions) c.args.index c.need-cells.result
    (subst (λ i. slice_get
    (map (λ it. capped (need it)) (map function_view c.args.program.now.functions)) i
    ≡ Some c.need-cells.result) same c.need-cells.ensures)
    (λ e. c.if-cells.false e)
