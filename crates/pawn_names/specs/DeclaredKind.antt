-- What code finds a declaration to declare: what it keeps is narrower. A constant that has no
-- value is refused at once, a size that has none only where it is asked for.
use Rattle.std.specs.Prelude.{Result, Ok, Err}
use Rattle.names_rules.specs.Known.{Kind}
use Rattle.names_rules.specs.Faults.{value_faults}
use Rattle.names_sight.specs.declared.known.Kind as held
use Rattle.pawn_verdict.specs.declared.fault.CheckFault.{CheckFault}
use Rattle.pawn_verdict.specs.Answers.{Fails}
use Rattle.names_sight.specs.Narrower.{NarrowerKind}
use Rattle.names_sight.specs.Views.{kind_view}

-- an answer agrees with what is declared
abbrev pub AnswersKind : Kind → Result held.Kind CheckFault → Type 0
AnswersKind kind (Ok found) = NarrowerKind (kind_view found) kind
AnswersKind kind (Err fault) = Fails (value_faults kind) fault
