use Rattle.std.proofs.Common.{[], ap, ◌∙◌}
use Rattle.pawn_base.specs.Among.{is_among}
use Rattle.check_source.specs.Adds.{bytes_of}
use Rattle.check_source.proofs.CalledLaws.{among_all}
use Rattle.check_source.proofs.called.Called.contains.Goals as goal

pub returns : goal.returns
returns c =
    c.contains.ensures ∙ ap (is_among c.args.name.now) c.self.invariant
    ∙ among_all c.args.name.now [] (bytes_of c.self.inside.list)
    ∙ ap (is_among c.args.name.now) c.self.view_is
