use Rattle.std.proofs.Common.{◌≡◌, ◌++◌, take, drop}
use Rattle.host_embed.specs.Texts.{spread}
use Rattle.host_embed.proofs.text.copy_characters.Given as goal

abbrev pub invariant-loop-index : goal.invariant-loop-index
invariant-loop-index l =
    l.out ≡ take l.index (spread l.packed l.cells) ++ drop l.index l.initial.out
