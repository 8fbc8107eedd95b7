use Rattle.std.proofs.Common.{◌≡◌, map, take}
use Rattle.gen_module.specs.Records.{tag_record}
use Rattle.gen_module.proofs.records.tags.Given as goal

abbrev pub invariant-loop-tag : goal.invariant-loop-tag
invariant-loop-tag l = l.records ≡ map tag_record (take l.tag-index l.tags)
