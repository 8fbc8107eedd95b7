use Rattle.std.proofs.Common.{◌≡◌, map, take}
use Rattle.gen_agrees.specs.Shape.{native_record}
use Rattle.gen_module.proofs.records.natives.Given as goal

abbrev pub invariant-loop-name : goal.invariant-loop-name
invariant-loop-name l = l.records ≡ map native_record (take l.name-index l.names)
