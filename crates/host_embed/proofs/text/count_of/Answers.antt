use Rattle.std.proofs.Common.{sym}
use Rattle.host_embed.proofs.TextLaws.{spread_length}
use Rattle.host_embed.proofs.text.count_of.Goals as goal

pub returns-then-packed : goal.returns-then-packed
returns-then-packed c = rw c.if-packed.true (sym (spread_length c.args.cells.now))
