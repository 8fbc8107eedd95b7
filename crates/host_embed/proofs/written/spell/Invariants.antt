use Rattle.std.proofs.Common.{◌≡◌, length, take, drop}
use Rattle.host_embed.specs.Written.{AreBytesFrom}
use Rattle.host_embed.proofs.written.spell.Given as goal

abbrev pub invariant-loop-index : goal.invariant-loop-index
invariant-loop-index l = record {
  size : length l.part ≡ length l.initial.part;
  rest : drop l.index l.part ≡ drop l.index l.initial.part;
  bytes : AreBytesFrom l.packed l.text 0 (take l.index l.part);
}
