use Rattle.std.proofs.Common.{◌≡◌, ◌+◌, drop}
use Rattle.amx_ops.specs.Writable.{names_size}
use Rattle.amx_format.proofs.writer.names_size_of.Given as goal

abbrev pub invariant-loop-record : goal.invariant-loop-record
invariant-loop-record l = l.size + names_size (drop l.record-index l.records) ≡ names_size l.records
