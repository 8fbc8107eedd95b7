use Rattle.std.proofs.Common.{◌≡◌, take, length}
use Rattle.host_run.specs.Writes.{addresses_of}
use Rattle.host_run.proofs.writes.read_addresses.Given as goal

abbrev pub invariant-loop-index : goal.invariant-loop-index
invariant-loop-index l = record {
  read : take l.index l.reserved ≡ addresses_of l.machine.state (take l.index l.writes);
  reserved : length l.reserved ≡ length l.initial.reserved;
}
