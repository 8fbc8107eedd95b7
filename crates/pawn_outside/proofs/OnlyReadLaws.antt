-- Calls that only read, one behind another.
use Rattle.std.proofs.Common.{◌≡◌, ◌∙◌, ℕ, Option, refl, ap}
use Rattle.pawn_outside.specs.Held.{Held}
use Rattle.pawn_outside.specs.OnlyRead.{OnlyRead}
use Rattle.pawn_outside.specs.Rose.{risen}

module _ {F : Type 0} {held : F → Option Held} {faults : F → ℕ} {never_fails : F → Type 0} where
  -- no call yet
  pub read_nothing : (files : F) → OnlyRead held faults never_fails files files ⊥
  read_nothing files = record {
    same = refl;
    steady = λ none. refl;
    cause = λ never. absurd never;
    unfailing = λ never. (never, λ fails. fails);
  }

  -- another answer, which is a fault where this one is and nowhere else
  pub read_as : {old new : F} {First Fails : Type 0} → (Fails → First) → (First → Fails)
      → OnlyRead held faults never_fails old new First
      → OnlyRead held faults never_fails old new Fails
  read_as f back it = record {
    same = it.same;
    steady = λ none. it.steady (λ first. none (back first));
    cause = λ fails. it.cause (f fails);
    unfailing = λ never. ((it.unfailing never).0, λ fails. (it.unfailing never).1 (f fails));
  }

  -- a call behind another that was good
  pub read_then : {old mid new : F} {Fails : Type 0}
      → OnlyRead held faults never_fails old mid ⊥
      → OnlyRead held faults never_fails mid new Fails
      → OnlyRead held faults never_fails old new Fails
  read_then first second = record {
    same = second.same ∙ first.same;
    steady = λ none. second.steady none ∙ first.steady (λ never. never);
    cause = λ fails. second.cause fails ∙ ap risen (first.steady (λ never. never));
    unfailing = λ never. second.unfailing (first.unfailing never).0;
  }
