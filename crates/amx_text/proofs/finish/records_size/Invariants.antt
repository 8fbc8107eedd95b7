use Rattle.std.proofs.Common.{◌≡◌, ◌-◌, ◌^◌, min, take}
use Rattle.amx_text.proofs.FoundLaws.{records_size}
use Rattle.amx_text.proofs.finish.records_size.Given as goal

abbrev pub invariant-loop-record : goal.invariant-loop-record
invariant-loop-record l =
    l.size ≡ min (records_size (take l.record-index l.records)) (2 ^ 64 - 1)
