use Rattle.std.proofs.Common.{◌≡◌, ℕ, length, drop}
use Rattle.gen_module.specs.Starts.{Finds}
use Rattle.gen_module.specs.Linked.{linked_with, AreIn}
use Rattle.gen_module.proofs.links.led.Given as goal

abbrev pub invariant-loop-wait : goal.invariant-loop-wait
invariant-loop-wait l = record {
  led : (entry : ℕ → ℕ) → Finds entry l.entries
      → linked_with entry (drop l.wait-index l.waits) l.all ≡ linked_with entry l.waits l.fn.code;
  within : AreIn (length l.all) (drop l.wait-index l.waits);
}
