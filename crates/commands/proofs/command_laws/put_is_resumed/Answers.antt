use Rattle.commands.proofs.PutImageLaws.{put_is_resumed}
use Rattle.commands.proofs.command_laws.put_is_resumed.Goals as goal

pub returns : goal.returns
returns g c = put_is_resumed _
