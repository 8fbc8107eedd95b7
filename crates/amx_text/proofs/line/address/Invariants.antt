use Rattle.std.proofs.Common.{◌≡◌, ◌-◌, ◌++◌, drop, length}
use Rattle.amx_text.specs.Lines.{hexadecimal, address_text}
use Rattle.amx_text.proofs.line.address.Given as goal

abbrev pub invariant-loop-place : goal.invariant-loop-place
invariant-loop-place l = record {
  done : hexadecimal (8 - l.place) l.rest ++ drop (8 - l.place) l.digits ≡ address_text l.at;
  size : length l.digits ≡ 8;
}
