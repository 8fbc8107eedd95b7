use Rattle.host_embed.specs.Texts.{spread}
use Rattle.host_embed.proofs.TextLaws.{Left}
use Rattle.host_embed.proofs.text.zero_place.Given as goal

abbrev pub invariant-loop-index : goal.invariant-loop-index
invariant-loop-index l = Left (spread l.packed l.cells) l.index
