-- How code tells of a part inside: what stands, or that the part falls. A fault is one of the
-- part's.
use Rattle.std.specs.Prelude.{◌≡◌, [], Option, None, Some, Result, Ok, Err}
use Rattle.names_rules.specs.Verdict.{Verdict, Stands, Breaks, faults_of}
use Rattle.pawn_verdict.specs.Answers.{Fails}
use Rattle.pawn_verdict.specs.declared.fault.CheckFault.{CheckFault}
use Rattle.pawn_verdict.specs.declared.fault.CheckFault.TheVariants as check
use Rattle.check_nodes.specs.declared.fault.PartFault.{PartFault}
use Rattle.check_nodes.specs.declared.fault.PartFault.TheVariants as part

-- the verdict that is told
abbrev pub told : {A B : Type 0} → (B → A) → Option B → Verdict A
told view (Some x) = Stands (view x)
told view None = Breaks []

-- `view` is what a definition sees of what code gives
abbrev pub Tells : {A B : Type 0} → (B → A) → Verdict A → Result (Option B) CheckFault → Type 0
Tells view verdict (Ok it) = verdict ≡ told view it
Tells view verdict (Err fault) = Fails (faults_of verdict) fault

-- what a part answers, as it is told
abbrev pub told_part : {T : Type 0} → Result T PartFault → Result (Option T) CheckFault
told_part (Ok it) = Ok (Some it)
told_part (Err part.Fallen) = Ok None
told_part (Err (part.Source kind place)) = Err (check.Source kind place)
told_part (Err part.Memory) = Err check.Memory

-- what is told, as a part answers it
abbrev pub answer_of : {T : Type 0} → Result (Option T) CheckFault → Result T PartFault
answer_of (Ok (Some it)) = Ok it
answer_of (Ok None) = Err part.Fallen
answer_of (Err (check.Source kind place)) = Err (part.Source kind place)
answer_of (Err check.Memory) = Err part.Memory
