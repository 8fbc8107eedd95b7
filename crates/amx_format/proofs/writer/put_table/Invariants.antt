use Rattle.std.proofs.Common.{◌≡◌, ◌+◌, ◌++◌, drop, take}
use Rattle.amx_ops.specs.Writable.{names_size}
use Rattle.amx_format.specs.Layout.{table}
use Rattle.amx_format.specs.Ranges.{AddressesFit}
use Rattle.amx_format.proofs.writer.put_table.Given as goal

abbrev pub invariant-loop-record : goal.invariant-loop-record
invariant-loop-record l =
    (l.out ++ table l.place (drop l.record-index l.records)
    ≡ l.initial.out ++ table l.first l.records)
    × (l.place + names_size (drop l.record-index l.records) ≡ l.first + names_size l.records)
    × AddressesFit (take l.record-index l.records)
