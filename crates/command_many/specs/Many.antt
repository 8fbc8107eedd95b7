-- `many PLAN`: what it answers and writes, over the files that it reads. It puts nothing.
use Rattle.std.specs.Prelude.{◌≡◌, ◌⊎◌, ℕ, List, Option, Result, Ok, Err}
use Rattle.pawn_outside.specs.Held.{Held}
use Rattle.command_parts.specs.declared.status.Status.{Status}
use Rattle.command_parts.specs.declared.status.Status.TheVariants as status
use Rattle.command_parts.specs.declared.stop.Stop.{Stop}
use Rattle.command_parts.specs.declared.stop.Stop.TheVariants.{BadPlan, NoMemory}
use Rattle.command_parts.specs.Told.{Told, Says, Writes, TellsStop, status_told}
use Rattle.command_parts.specs.Unread.{IsRead, Unread}
use Rattle.host_many.specs.Own.{Guest}
use Rattle.host_many.specs.Serves.{served_text}
use Rattle.host_many.specs.declared.turn.Turn.{Turn}
use Rattle.host_plan.specs.Breaks.{BreaksAt}
use Rattle.host_plan.specs.Plans.{Spells}
use Rattle.host_plan.specs.declared.plan.Plan.{Plan}
use Rattle.command_many.specs.declared.plans.ReadyPlan.{ReadyPlan}
use Rattle.command_many.specs.declared.plans.TheConstants.{PLAN_LIMIT}
use Rattle.command_many.specs.Machines.{AreMachines, NoMachines}

-- ---- the plan

-- a text that is held under a name, not too long, spells it
abbrev pub IsPlanNamed : Option Held → List ℕ → Plan → Type 0
IsPlanNamed held name plan = IsRead held name PLAN_LIMIT (λ text. Spells text plan)

-- it isn't read, or breaks the form of plans at a line
pub data NoPlan (held : Option Held) (name : List ℕ) : Stop → Type 0 where
  unread : (stop : Stop) → Unread held name PLAN_LIMIT stop → NoPlan held name stop
  breaks : (line : ℕ) → IsRead held name PLAN_LIMIT (λ text. BreaksAt text line)
      → NoPlan held name (BadPlan line)
  no_memory : NoPlan held name NoMemory

-- ---- before the first event

-- its machines are made behind a good plan
pub data NoEvents (held : Option Held) (name : List ℕ) (stop : Stop) : Type 0 where
  no_plan : NoPlan held name stop → NoEvents held name stop
  no_machine : (plan : Plan) → IsPlanNamed held name plan → NoMachines held plan.machines stop
      → NoEvents held name stop

-- it is stopped there, and the line of the first cause is told
pub record StopsBefore {S : Type 0} (writes : Writes S) (name : List ℕ) (held : Option Held)
    (old new : S) (answer : Status) : Type 0 where
  pub stop : Stop
  pub comes : NoEvents held name stop
  pub tells : TellsStop stop writes old new answer

-- ---- the events

-- the lines that the machines print over the events were written, or a front of them
pub record TellsEvents {S : Type 0} (guests : List Guest) (events : List Turn) (says : Says S)
    (old new : S) (answer : Status) : Type 0 where
  pub told : Told
  pub written : says old new (served_text guests events) told
  pub is : answer ≡ status_told status.Ok told

-- the plan is good, each of its machines was made, and its events are done
pub record DoesEvents {S : Type 0} (writes : Writes S) (name : List ℕ) (held : Option Held)
    (old new : S) (answer : Status) : Type 0 where
  pub plan : Plan
  pub good : IsPlanNamed held name plan
  pub guests : List Guest
  pub made : AreMachines held plan.machines guests
  pub tells : TellsEvents guests plan.events writes.says old new answer

-- ---- the whole command

-- the files are as they were
pub record ServesPlan {S : Type 0} (writes : Writes S) (name : List ℕ) (held after : Option Held)
    (old new : S) (answer : Status) : Type 0 where
  pub kept : after ≡ held
  pub does : StopsBefore writes name held old new answer ⊎ DoesEvents writes name held old new answer

-- ---- what the calls answer

-- bytes that are no plan, or want of memory
abbrev pub IsPlanOf : List ℕ → Result Plan Stop → Type 0
IsPlanOf text (Ok plan) = Spells text plan
IsPlanOf text (Err stop) =
    (stop ≡ NoMemory) ⊎ ((line : ℕ) × BreaksAt text line × (stop ≡ BadPlan line))

-- a good plan, and its machines
pub record IsReadyPlan (held : Option Held) (name : List ℕ) (ready : ReadyPlan) : Type 0 where
  pub plan : Plan
  pub good : IsPlanNamed held name plan
  pub events : ready.events ≡ plan.events
  pub made : AreMachines held plan.machines ready.host

-- or what keeps it from its first event
abbrev pub IsReady : Option Held → List ℕ → Result ReadyPlan Stop → Type 0
IsReady held name (Ok ready) = IsReadyPlan held name ready
IsReady held name (Err stop) = NoEvents held name stop
