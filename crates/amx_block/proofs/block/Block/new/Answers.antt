use Rattle.amx_block.proofs.BlockLaws.{all_zero}
use Rattle.amx_block.proofs.block.Block.new.Goals as goal

pub returns : goal.returns
returns c =
    rw (c.in_ok-cells.ensures.items_if_clones_equal (λ y e. e))
    (all_zero c.args.code c.args.store c.args.room)
