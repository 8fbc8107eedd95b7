use Rattle.std.proofs.Common.{ap, ◌∙◌}
use Rattle.std.specs.FinMap.{insert}
use Rattle.pawn_pre.proofs.ByteKeys.{inserted}
use Rattle.pawn_pre.proofs.table.Table.insert.Goals as goal

pub returns-clause-ok : goal.returns-clause-ok
returns-clause-ok c =
    inserted (λ key. key.items) _ _ c.args.name.items c.args.rule c.in-Ok.ensures.updates.1
    c.in-Ok.ensures.updates.3
    ∙ ap (λ rules. insert rules c.args.name.items c.args.rule) c.self.view_is
