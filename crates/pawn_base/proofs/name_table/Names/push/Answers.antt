use Rattle.pawn_base.proofs.KeyLaws.{pushed}
use Rattle.pawn_base.proofs.name_table.Names.push.Goals as goal

pub returns-clause-ok : goal.returns-clause-ok
returns-clause-ok c =
    pushed (λ key. key.items) _ _ c.in_ok-key.key _ _ c.in_ok-key.ensures.items c.self.view_is
    c.requires c.in-Ok.ensures.keys
