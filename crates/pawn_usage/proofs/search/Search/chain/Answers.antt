use Rattle.std.proofs.Common.{◌∙◌, sym}
use Rattle.pawn_usage.specs.IsGraph.{plain}
use Rattle.pawn_usage.proofs.SearchLaws.{following_more, following_ends}
use Rattle.pawn_usage.proofs.search.Search.chain.Goals as goal

pub loop-next-preserved : goal.loop-next-preserved
loop-next-preserved c =
    rw c.in_ok-push-2.ensures.ok (following_more (plain c.args.graph.now)
    c.args.self.now.marks.items c.requires.search c.args.start c.loop-next.chain c.loop-next.last
    c.in-Some.next c.loop-next.invariant (sym c.next.ensures ∙ c.in-Some.is))

pub returns : goal.returns
returns c = (
  c.loop-next.invariant.is_chain,
  following_ends (plain c.args.graph.now) c.args.self.now.marks.items c.requires.search c.args.start
      c.loop-next.chain c.loop-next.last c.loop-next.invariant
      (sym c.next.ensures ∙ c.in_default.is),
)
