use Rattle.std.specs.Fmt.{digits}
use Rattle.pawn_cli.proofs.texts.tell_version.Goals as goal

pub returns : goal.returns
unfolding digits
returns g c = record {
  told = c.say.result;
  written = c.say.ensures;
  is = c.told.ensures;
}
