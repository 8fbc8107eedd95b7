-- What is known of a statement beside its own validity: the slots that it makes are new, and the
-- program is valid.
use Rattle.std.specs.Prelude.{◌≡◌, ◌^◌, ◌<◌, ℕ, List, All, Any, length}
use Rattle.pawn_meaning.specs.Program.{Slot, Automaton, Program}
use Rattle.pawn_meaning.specs.Scope.{Scope, IsMade}
use Rattle.pawn_meaning.specs.Valid.{IsSlot, IsValid}
use Rattle.gen_sim.specs.Fits.{AreOnce}

-- slots that weren't made before, each of them once
pub record Fresh (scope : Scope) (slots : List ℕ) : Type 0 where
  pub new : (s : ℕ) → Any (λ made. made ≡ s) slots → ¬ (IsMade scope s)
  pub once : AreOnce slots

-- a valid program, whose states cells can number, and the slots of a valid body
pub record Ready (program : Program) (slots : List Slot) : Type 0 where
  pub valid : IsValid program
  pub few : All (λ (it : Automaton). length it.states < 2 ^ 31) program.automata
  pub slots_are : All IsSlot slots
