use Rattle.amx_block.proofs.ExpandLaws.{expanded_in}
use Rattle.amx_block.proofs.block.Block.expand_from_end.Goals as goal

pub returns : goal.returns
returns c =
    let f = c.self.inside in
    let e = c.expand_pieces.ensures in
    rw (← c.self.view_is)
    (expanded_in f.code f.store c.args.len f.cells.items c.expand_pieces.new.cells.items
    c.self.invariant.within e.size e.expanded)
