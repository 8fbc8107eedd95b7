use Rattle.std.proofs.Common.{◌≡◌, ◌<◌, drop}
use Rattle.std.specs.Str.Parse.{digits_value, digits_value_after}
use Rattle.pawn_token.proofs.number.value.Given as goal

abbrev pub invariant-loop-byte : goal.invariant-loop-byte
invariant-loop-byte l = record {
  so_far : digits_value_after l.base l.sum (drop l.byte-index l.digits)
      ≡ digits_value l.base l.digits;
  small : l.sum < l.limit;
}
