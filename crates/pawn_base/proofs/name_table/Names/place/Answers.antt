use Rattle.std.proofs.Common.{ap, ◌∙◌, position}
use Rattle.std.specs.Str.{bytes_eq}
use Rattle.pawn_base.proofs.KeyLaws.{place_map}
use Rattle.pawn_base.proofs.name_table.Names.place.Goals as goal

pub returns : goal.returns
returns c =
    c.get_index_of.ensures.index ∙ place_map (λ key. key.items) c.args.name.now _
    ∙ ap (position (bytes_eq c.args.name.now)) c.self.view_is
