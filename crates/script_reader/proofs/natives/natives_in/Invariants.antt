use Rattle.std.proofs.Common.{◌≡◌, []}
use Rattle.script_reader.specs.Natives.{native_step, names_of}
use Rattle.script_reader.proofs.ItemLaws.{Followed}
use Rattle.script_reader.proofs.natives.natives_in.Given as goal

abbrev pub invariant-loop-item : goal.invariant-loop-item
invariant-loop-item l =
    Followed native_step [] l.items l.item-index l.done × (l.names ≡ names_of l.done)
