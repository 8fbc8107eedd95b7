-- How code answers a verdict: with what stands, or with one of its faults. Want of memory is free.
use Rattle.std.specs.Prelude.{◌≡◌, List, Result, Ok, Err}
use Rattle.std.specs.List.{Contains}
use Rattle.names_rules.specs.Verdict.{Verdict, Stands, Fault, faults_of}
use Rattle.pawn_verdict.specs.declared.fault.CheckFault.{CheckFault}
use Rattle.pawn_verdict.specs.declared.fault.CheckFault.TheVariants.{Source, Memory}

-- faults that allow this answer: one of them at its place
abbrev pub Causes : List Fault → CheckFault → Type 0
Causes faults (Source kind place) = Contains faults (record { kind = kind; place = place })
Causes faults Memory = Unit {0}

-- one of these faults is answered, or memory is short
pub record Fails (faults : List Fault) (fault : CheckFault) : Type 0 where
  pub cause : Causes faults fault

-- `view` is what a definition sees of what code gives
abbrev pub Answers : {A B : Type 0} → (B → A) → Verdict A → Result B CheckFault → Type 0
Answers view verdict (Ok x) = verdict ≡ Stands (view x)
Answers view verdict (Err fault) = Fails (faults_of verdict) fault
