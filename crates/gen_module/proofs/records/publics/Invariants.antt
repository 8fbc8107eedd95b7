use Rattle.std.proofs.Common.{◌≡◌, ℕ, map, take}
use Rattle.gen_module.specs.Starts.{Finds}
use Rattle.gen_module.specs.Records.{public_record}
use Rattle.gen_module.proofs.records.publics.Given as goal

abbrev pub invariant-loop-public : goal.invariant-loop-public
invariant-loop-public l =
    (entry : ℕ → ℕ) → Finds entry l.entries
    → l.records ≡ map (public_record entry) (take l.public-index l.publics)
