use Rattle.std.proofs.Common.{◌≡◌, length}
use Rattle.check_nodes.specs.CodeView.{code_view}
use Rattle.names_rules.specs.Verdict.{Stands}
use Rattle.types_rules.specs.Typed.{cell}
use Rattle.check_nodes.specs.ContextView.{around_view}
use Rattle.check_nodes.specs.TypedView.{typed_view}
use Rattle.check_nodes.specs.Begun.{begun_view}
use Rattle.check_nodes.proofs.ChainLaws.{LinksSoFar}
use Rattle.check_nodes.proofs.chains.chain.Given as goal

abbrev pub invariant-loop-it : goal.invariant-loop-it
invariant-loop-it l =
    (cell l.at (typed_view l.fn.x) ≡ Stands (code_view l.first))
    × LinksSoFar (around_view l.cx) l.at (typed_view l.fn.x) l.fn.links.items (length l.yielded)
    (begun_view l.done)
