use Rattle.std.proofs.Common.{ap, ◌∙◌}
use Rattle.pawn_base.specs.Among.{is_among}
use Rattle.pawn_base.proofs.KeyLaws.{among_map}
use Rattle.pawn_base.proofs.name_table.Names.contains.Goals as goal

pub returns : goal.returns
returns c =
    c.contains.ensures ∙ among_map (λ key. key.items) c.args.name.now _
    ∙ ap (is_among c.args.name.now) c.self.view_is
