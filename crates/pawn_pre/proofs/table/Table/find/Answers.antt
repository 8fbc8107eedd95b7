use Rattle.std.proofs.Common.{ap, sym, ◌∙◌}
use Rattle.std.specs.FinMap.{get}
use Rattle.pawn_pre.proofs.ByteKeys.{find_lookup}
use Rattle.pawn_pre.proofs.table.Table.find.Goals as goal

pub returns : goal.returns
returns c =
    c.get.ensures.value
    ∙ sym (find_lookup (λ key. key.items) _ c.args.name.now)
    ∙ ap (λ rules. get rules c.args.name.now) c.self.view_is
