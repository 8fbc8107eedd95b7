use Rattle.std.proofs.Common.{◌≡◌, ◌++◌, drop}
use Rattle.amx_format.specs.Layout.{names}
use Rattle.amx_format.proofs.writer.put_names.Given as goal

abbrev pub invariant-loop-record : goal.invariant-loop-record
invariant-loop-record l =
    l.out ++ names (drop l.record-index l.records) ≡ l.initial.out ++ names l.records
