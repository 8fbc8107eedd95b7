use Rattle.pawn_usage.specs.IsGraph.{plain}
use Rattle.pawn_usage.proofs.SearchLaws.{start_there, bounded}
use Rattle.pawn_usage.proofs.measure.bound.Goals as goal

pub chain-requires-clause-start : goal.chain-requires-clause-start
chain-requires-clause-start c =
    start_there (plain c.args.graph.now) c.args.search.now c.args.starts.now
    c.greatest-greatest.result c.requires.starts c.requires.start c.requires.explored
    c.greatest-greatest.ensures

pub returns : goal.returns
returns c =
    bounded (plain c.args.graph.now) c.args.search.now c.args.starts.now c.in_ok-chain.chain
    c.greatest-greatest.result c.cells.result c.requires.starts c.requires.explored
    c.greatest-greatest.ensures c.in_ok-chain.ensures.0 c.in_ok-chain.ensures.1 c.cells.ensures
