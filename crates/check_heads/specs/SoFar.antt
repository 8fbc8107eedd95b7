-- A list whose elements have a verdict each: what is known behind some of them. One that falls
-- leaves those behind it to be judged.
use Rattle.std.specs.Prelude.{◌≡◌, [], Bool, true, false, Result, Ok, Err}
use Rattle.std.specs.List.{Contains}
use Rattle.names_rules.specs.Verdict.{Verdict, Stands, Breaks, both, faults_of}
use Rattle.types_rules.specs.VariableParts.{Judged, judged}
use Rattle.types_rules.specs.Params as plain
use Rattle.check_nodes.specs.declared.fault.PartFault.{PartFault}
use Rattle.check_nodes.specs.declared.fault.PartFault.TheVariants.{Source, Fallen, Memory}
use Rattle.check_heads.specs.declared.passes.Progress.{Progress}
use Rattle.check_heads.specs.HeadedView.{headed_view}

-- what stands so far, or that something fell
abbrev pub so_far : {A : Type 0} → Bool → A → Verdict A
so_far false done = Stands done
so_far true done = Breaks []

-- verdicts one behind the other
abbrev pub joined : {A : Type 0} → (A → A → A) → Verdict A → Verdict A → Verdict A
joined behind v w = both v w (λ x y. Stands (behind x y))

-- a verdict with that of one more element is this one
pub record IsBehind {A : Type 0} (behind : A → A → A) (before this now : Verdict A) : Type 0 where
  pub same : (rest : Verdict A)
      → joined behind before (joined behind this rest) ≡ joined behind now rest

-- what the answer of an element that isn't passed over says
abbrev pub BreakCauses : {A : Type 0} → Verdict A → PartFault → Type 0
BreakCauses this (Source kind place) =
    Contains (faults_of this) (record { kind = kind; place = place })
BreakCauses this Fallen = ⊥
BreakCauses this Memory = Unit {0}

-- an element with a fault, or memory is short
pub record IsBroken {A : Type 0} (this : Verdict A) (fault : PartFault) : Type 0 where
  pub cause : BreakCauses this fault

-- behind one more element, which stands or falls
abbrev pub GoesOn : {A B : Type 0} → (A → A → A) → (B → Verdict A) → Verdict A → Verdict A
    → Result B PartFault → Type 0
GoesOn behind view before this (Ok now) = IsBehind behind before this (view now)
GoesOn behind view before this (Err fault) = IsBroken this fault

-- what holds unless memory was short
abbrev pub UnlessMemory : {B : Type 0} → Result B PartFault → Type 0 → Type 0
UnlessMemory (Ok x) holds = holds
UnlessMemory (Err Fallen) holds = holds
UnlessMemory (Err (Source kind place)) holds = holds
UnlessMemory (Err Memory) holds = Unit {0}

-- ---- parts that are only judged

-- two parts that stand, one behind the other
abbrev pub judged_behind : Judged → Judged → Judged
judged_behind x y = judged

-- whether one fell
abbrev pub parts_view : Bool → Verdict Judged
parts_view fell = so_far fell judged

-- ---- parameters

-- the parameters so far, or that one fell
abbrev pub progress_view : Progress → Verdict plain.Headed
progress_view it = so_far it.fell (headed_view it.done)
