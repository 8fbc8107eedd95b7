-- How code answers a list of faults: Ok only where there is none, else with one of them. Want of
-- memory is free.
use Rattle.std.specs.Prelude.{◌≡◌, List, [], Result, Ok, Err}
use Rattle.names_rules.specs.Verdict.{Fault}
use Rattle.pawn_verdict.specs.Answers.{Fails}
use Rattle.pawn_verdict.specs.declared.fault.CheckFault.{CheckFault}

-- by the answer
abbrev pub Told : List Fault → Result (Unit {0}) CheckFault → Type 0
Told faults (Ok done) = faults ≡ []
Told faults (Err fault) = Fails faults fault

-- the answer is told of these faults
pub record Finds (faults : List Fault) (result : Result (Unit {0}) CheckFault) : Type 0 where
  pub told : Told faults result
