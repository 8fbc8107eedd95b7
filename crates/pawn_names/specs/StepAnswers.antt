-- What the parts of a step answer.
use Rattle.std.specs.Prelude.{◌≡◌, ℕ, List, [], Option, Some, None, Result, Ok, Err}
use Rattle.names_rules.specs.Verdict.{Fault}
use Rattle.names_rules.specs.Known.{Known}
use Rattle.names_rules.specs.Mark.{Use}
use Rattle.names_rules.specs.Faults.{use_faults}
use Rattle.pawn_verdict.specs.declared.fault.CheckFault.{CheckFault}
use Rattle.pawn_verdict.specs.Answers.{Fails}

-- a test is passed where there are no faults, and else one of them is answered
abbrev pub Passes : {A : Type 0} → List Fault → Result A CheckFault → Type 0
Passes faults (Ok done) = faults ≡ []
Passes faults (Err fault) = Fails faults fault

-- the token in what is known of a name
abbrev pub IsTokenOf : Option Known → Option ℕ → Type 0
IsTokenOf None token = ⊥
IsTokenOf (Some known) token = known.token ≡ token

-- the token of the declaration that an occurrence means, or its fault
abbrev pub AnswersToken : Use → Option Known → Result (Option ℕ) CheckFault → Type 0
AnswersToken it known (Ok token) = IsTokenOf known token
AnswersToken it known (Err fault) = Fails (use_faults it known) fault
