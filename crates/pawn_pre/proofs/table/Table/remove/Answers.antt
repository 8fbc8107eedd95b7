use Rattle.std.proofs.Common.{ap, ◌∙◌}
use Rattle.std.specs.FinMap.{remove}
use Rattle.pawn_pre.proofs.ByteKeys.{removed}
use Rattle.pawn_pre.proofs.table.Table.remove.Goals as goal

pub returns : goal.returns
returns c =
    removed (λ key. key.items) _ _ c.args.name.now c.swap_remove-old.ensures.updates.1
    c.swap_remove-old.ensures.updates.3
    ∙ ap (λ rules. remove rules c.args.name.now) c.self.view_is
