-- The plan of a command, its machines and its events, and what stops the command before them.
use Rattle.std.proofs.Common.{◌≡◌, ◌≢◌, ◌∙◌, ◌<◌, ◌≤◌, ℕ, List, Option, Some, Err}
use Rattle.std.proofs.Common.{inl, inr, sym, subst, length, All}
use Rattle.std.proofs.lemmas.List.Elements.{All-weaker}
use Rattle.pawn_outside.specs.Held.{Held, Tells}
use Rattle.command_parts.specs.declared.status.Status.{Status}
use Rattle.command_parts.specs.declared.status.Status.TheVariants as status
use Rattle.command_parts.specs.declared.stop.Stop.{Stop}
use Rattle.command_parts.specs.declared.stop.Stop.TheVariants.{FileFault}
use Rattle.command_parts.specs.Told.{Says, Writes, TellsStop, status_told, steadily}
use Rattle.command_parts.proofs.FaultCountLaws.{told_other}
use Rattle.host_many.specs.Own.{Guest}
use Rattle.host_many.specs.Serves.{HasMachines, machine_of, served_text}
use Rattle.host_many.specs.TurnsSo.{told_of}
use Rattle.host_many.specs.declared.served.Served.{Served}
use Rattle.host_many.specs.declared.turn.Turn.{Turn}
use Rattle.host_plan.specs.Breaks.{BreaksAt}
use Rattle.host_plan.specs.Plans.{IsEventFor}
use Rattle.host_plan.specs.declared.plan.MachineFiles.{MachineFiles}
use Rattle.host_plan.specs.declared.plan.Plan.{Plan}
use Rattle.host_plan.proofs.NextLaws.{has_machine}
use Rattle.command_many.specs.declared.plans.ReadyPlan.{ReadyPlan}
use Rattle.command_many.specs.declared.plans.TheConstants.{PLAN_LIMIT}
use Rattle.command_many.specs.Machines.{AreMachines, NoMachines}
use Rattle.command_many.specs.Many.{IsPlanNamed, IsPlanOf, IsReadyPlan, NoEvents}
use Rattle.command_many.specs.Many.{NoPlan, ServesPlan, TellsEvents, no_machine}
use Rattle.command_many.specs.Many.{breaks, no_memory}
use Rattle.command_many.proofs.MachineLaws.{count_machines}

-- each event has a machine
have_machines : (count : ℕ) (turns : List Turn) → All (IsEventFor count) turns
    → HasMachines count turns
have_machines count turns h =
    All-weaker (IsEventFor count) (λ turn. machine_of turn < count) (has_machine count) turns h

pub ready_machines : {held : Option Held} {name : List ℕ} {ready : ReadyPlan}
    → IsReadyPlan held name ready → HasMachines (length ready.host) ready.events
ready_machines {held} {name} {ready} it =
    let count : length ready.host ≡ length it.plan.machines =
    count_machines held it.plan.machines ready.host it.made in
    let P : List Turn → Type 0 = λ turns. HasMachines (length ready.host) turns in
    let Q : ℕ → Type 0 = λ n. HasMachines n it.plan.events in
    subst P (sym it.events)
    (subst Q (sym count)
    (have_machines (length it.plan.machines) it.plan.events it.good.is.plan_is.events))

-- bytes that aren't a plan stop the command
pub plan_stops : {held : Option Held} {name bytes lent : List ℕ} {stop : Stop}
    → Tells held name (Some bytes) × (length bytes ≤ PLAN_LIMIT) → lent ≡ bytes
    → IsPlanOf lent (Err stop) → NoPlan held name stop
plan_stops {held} {name} {bytes} {lent} {stop} tells same (inl memory) =
    let P : Stop → Type 0 = NoPlan held name in subst P (sym memory) no_memory
plan_stops {held} {name} {bytes} {lent} {stop} tells same (inr (line, broken, is)) =
    let P : Stop → Type 0 = NoPlan held name in
    let Q : List ℕ → Type 0 = λ text. BreaksAt text line in
    subst P (sym is)
    (breaks line
    (record { bytes = bytes; tells = tells.0; within = tells.1; is = subst Q same broken }))

module _ {held mid : Option Held} {name : List ℕ} (plan : Plan) (same : mid ≡ held)
    (good : IsPlanNamed held name plan) where
  -- a machine behind a good plan isn't made
  pub machine_stops : {files : List MachineFiles} {stop : Stop} → files ≡ plan.machines
      → NoMachines mid files stop → NoEvents held name stop
  machine_stops {files} {stop} e none =
      let P : Option Held → Type 0 = λ h. NoMachines h plan.machines stop in
      let Q : List MachineFiles → Type 0 = λ it. NoMachines mid it stop in
      no_machine plan good (subst P same (subst Q e none))

  -- all are
  pub plan_ready : {files : List MachineFiles} (ready : ReadyPlan) → files ≡ plan.machines
      → AreMachines mid files ready.host → ready.events ≡ plan.events
      → IsReadyPlan held name ready
  plan_ready {files} ready e made events =
      let P : Option Held → Type 0 = λ h. AreMachines h plan.machines ready.host in
      let Q : List MachineFiles → Type 0 = λ it. AreMachines mid it ready.host in
      record { plan = plan; good = good; events = events; made = subst P same (subst Q e made) }

pub plan_no_fault : {text : List ℕ} {stop : Stop} → IsPlanOf text (Err stop) → stop ≢ FileFault
plan_no_fault (inl memory) e = absurd (cc (memory, e))
plan_no_fault (inr (line, broken, is)) e = absurd (cc (is, e))

module _ {S : Type 0} {writes : Writes S} {name : List ℕ} {held after : Option Held} {old new : S}
    {answer : Status} where
  pub serves_stopped : (stop : Stop) → NoEvents held name stop → after ≡ held
      → TellsStop stop writes old new answer → ServesPlan writes name held after old new answer
  serves_stopped stop comes kept tells =
      record { kept = kept; does = inl (record { stop = stop; comes = comes; tells = tells }) }

  pub serves_ready : (ready : ReadyPlan) → IsReadyPlan held name ready → after ≡ held
      → TellsEvents ready.host ready.events writes.says old new answer
      → ServesPlan writes name held after old new answer
  serves_ready ready it kept tells =
      let P : List Turn → Type 0 =
      λ turns. TellsEvents ready.host turns writes.says old new answer in
      record {
        kept = kept;
        does = inr (record {
          plan = it.plan;
          good = it.good;
          guests = ready.host;
          made = it.made;
          tells = subst P it.events tells;
        });
      }

pub events_no_fault : {S : Type 0} {guests : List Guest} {events : List Turn} {says : Says S}
    {old new : S} {answer : Status} → TellsEvents guests events says old new answer
    → answer ≢ status.FileFault
events_no_fault it = λ e. told_other status.Ok it.told (λ f. absurd (cc f)) (sym it.is ∙ e)

-- the lines of all events were written, or a front of them
pub tells_events : {S : Type 0} {says : Says S} {guests : List Guest} {events lent : List Turn}
    {old new : S} (served : Served) (answer : Status) → lent ≡ events
    → says old new (served_text guests lent) (told_of served)
    → answer ≡ status_told status.Ok (told_of served)
    → TellsEvents guests events says old new answer
tells_events {S} {says} {guests} {events} {lent} {old} {new} served answer same written is =
    let P : List Turn → Type 0 =
    λ turns. says old new (served_text guests turns) (told_of served) in
    record { told = told_of served; written = subst P same written; is = is }

-- beside a count of faults that stays as it is
pub events_steadily : {S : Type 0} {says : Says S} {guests : List Guest} {events : List Turn}
    {old new : S} {answer : Status} {m n : ℕ} → n ≡ m
    → TellsEvents guests events says old new answer
    → TellsEvents guests events (steadily says) (old, m) (new, n) answer
events_steadily same it = record { told = it.told; written = (it.written, same); is = it.is }
