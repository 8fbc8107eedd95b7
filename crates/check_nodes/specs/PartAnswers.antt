-- How code answers the verdict of a part: with what stands, with one of its faults, or that it
-- falls without a fault of its own. Want of memory is free.
use Rattle.std.specs.Prelude.{◌≡◌, [], Result, Ok, Err}
use Rattle.std.specs.List.{Contains}
use Rattle.names_rules.specs.Verdict.{Verdict, Stands, Breaks, faults_of}
use Rattle.pawn_verdict.specs.declared.fault.CheckFault.{CheckFault}
use Rattle.pawn_verdict.specs.declared.fault.CheckFault.TheVariants as check
use Rattle.check_nodes.specs.declared.fault.PartFault.{PartFault}
use Rattle.check_nodes.specs.declared.fault.PartFault.TheVariants.{Source, Fallen, Memory}

-- what each answer says of the verdict
abbrev pub PartCauses : {A : Type 0} → Verdict A → PartFault → Type 0
PartCauses verdict (Source kind place) =
    Contains (faults_of verdict) (record { kind = kind; place = place })
PartCauses verdict Fallen = verdict ≡ Breaks []
PartCauses verdict Memory = Unit {0}

-- one of its faults is answered, or that it has none and doesn't stand, or memory is short
pub record FailsPart {A : Type 0} (verdict : Verdict A) (fault : PartFault) : Type 0 where
  pub cause : PartCauses verdict fault

-- `view` is what a definition sees of what code gives
abbrev pub PartAnswers : {A B : Type 0} → (B → A) → Verdict A → Result B PartFault → Type 0
PartAnswers view verdict (Ok x) = verdict ≡ Stands (view x)
PartAnswers view verdict (Err fault) = FailsPart verdict fault

-- what holds where all of the part was judged, so that it stands or falls
abbrev pub Judged : {B : Type 0} → Result B PartFault → Type 0 → Type 0
Judged (Ok x) holds = holds
Judged (Err Fallen) holds = holds
Judged (Err (Source kind place)) holds = Unit {0}
Judged (Err Memory) holds = Unit {0}

-- a fault of the source, or want of memory, as that of a part
abbrev pub part_of : CheckFault → PartFault
part_of (check.Source kind place) = Source kind place
part_of check.Memory = Memory
