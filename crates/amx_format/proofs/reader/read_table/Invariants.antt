use Rattle.std.proofs.Common.{◌≡◌, ◌+◌, ◌-◌, ◌*◌, ◌/◌, ◌++◌}
use Rattle.amx_format.specs.Records.{records_at, table_at}
use Rattle.amx_format.proofs.reader.read_table.Given as goal

abbrev pub invariant-loop-index : goal.invariant-loop-index
invariant-loop-index l =
    l.records ++ records_at l.bytes (l.first + 8 * l.index) ((l.past - l.first) / 8 - l.index)
    ≡ table_at l.bytes l.first l.past
