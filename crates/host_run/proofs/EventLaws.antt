-- What a machine that came to an event has done: the move behind the event, and how many steps.
use Rattle.std.proofs.Common.{◌≡◌, ◌+◌, ◌-◌, ◌<◌, ◌≤◌, ℕ, ℤ, Bool, true, false, List, Option, None}
use Rattle.std.proofs.Common.{Some, refl, sym, ap, ◌∙◌, arith}
use Rattle.host_script.specs.declared.script.Script.{Script}
use Rattle.host_script.specs.declared.event.Event.{Event as Shown}
use Rattle.host_script.specs.NativeCall.{Called, Ends_there, Answers, native_call}
use Rattle.amx_ops.specs.declared.amx.Amx.{Amx}
use Rattle.amx_ops.specs.Table.{is_number}
use Rattle.amx_ops.specs.State.{State, Errs}
use Rattle.amx_ops.specs.Moves.{move, moved, arguments}
use Rattle.amx_ops.specs.Moves as moves
use Rattle.amx_machine.specs.Machine.{Machine}
use Rattle.amx_machine.specs.declared.event.Event.{Event}
use Rattle.amx_machine.specs.declared.event.Event.TheVariants as event
use Rattle.host_run.specs.declared.end.SessionEnd.{SessionEnd}
use Rattle.host_run.specs.Advance.{turned_by}
use Rattle.host_run.specs.Reached.{placed, IsLast, Reached}

-- ---- the move behind an event

abbrev pub IsStep : Event → Type 0
IsStep event.Going = ⊥
IsStep (event.Native number) = Unit {0}
IsStep (event.Halt code pri alt) = Unit {0}
IsStep (event.Error code) = Unit {0}

pub steps_if : (e : Event) (given : Option SessionEnd) (g : SessionEnd)
    → (e ≡ event.Going → given ≡ None) → given ≡ Some g → IsStep e
steps_if event.Going given g h is = absurd (cc (h refl, is))
steps_if (event.Native number) given g h is = tt
steps_if (event.Halt code pri alt) given g h is = tt
steps_if (event.Error code) given g h is = tt

module _ (amx : Amx) (script : Script) where
  answered_any : (called : Called ℕ) (s mid : State) (position : ℕ) (events : List Shown)
      → moves.answered called s (placed mid position events)
      ≡ moves.answered called s (placed s position events)
  answered_any (Ends_there trap at) s mid position events = refl
  answered_any (Answers it result at puts) s mid position events = refl

  asked_any : (name : List ℕ) (o : Option (List ℤ)) (s mid : State) (position : ℕ)
      (events : List Shown)
      → moves.asked script name o s (placed mid position events)
      ≡ moves.asked script name o s (placed s position events)
  asked_any name None s mid position events = refl
  asked_any name (Some values) s mid position events =
      answered_any (native_call script (moves.look s) name values position) s mid position events

  halted_any : (v : ℤ) (a b d : Bool) (s mid : State) (position : ℕ) (events : List Shown)
      → moves.halted_by v a b d s (placed mid position events)
      ≡ moves.halted_by v a b d s (placed s position events)
  halted_any v true b d s mid position events = refl
  halted_any v false true d s mid position events = refl
  halted_any v false false true s mid position events = refl
  halted_any v false false false s mid position events = refl

  -- from the state before it or the one behind it
  pub move_is : (e : Event) (bound : ℕ) (mid : State) (passed count : ℕ) (s : State) (position : ℕ)
      (events : List Shown) → IsStep e
      → IsLast e amx bound mid passed count s
      → move amx script (placed mid position events)
      ≡ moved amx script (placed s position events) (turned_by e s)
  move_is event.Going bound mid passed count s position events h last = absurd h
  move_is (event.Native number) bound mid passed count s position events h last =
      ap (moved amx script (placed mid position events)) last.2
      ∙ asked_any (moves.name_of amx.natives number) (arguments s) s mid position events
  move_is (event.Halt code pri alt) bound mid passed count s position events h last =
      ap (moved amx script (placed mid position events)) last.2
      ∙ halted_any code (is_number 0 code) (is_number 1 code)
      (is_number 12 code) s mid position events
  move_is (event.Error code) bound mid passed count s position events h last =
      ap (moved amx script (placed mid position events)) last.2
      ∙ ap (λ x. moved amx script (placed x position events) (Errs code)) (sym last.3)

pub counted : (e : Event) (amx : Amx) (bound : ℕ) (mid : State) (passed count : ℕ) (s : State)
    → IsStep e → IsLast e amx bound mid passed count s → (count ≡ passed + 1) × (passed < bound)
counted event.Going amx bound mid passed count s h last = absurd h
counted (event.Native number) amx bound mid passed count s h last = (last.0, last.1)
counted (event.Halt code pri alt) amx bound mid passed count s h last = (last.0, last.1)
counted (event.Error code) amx bound mid passed count s h last = (last.0, last.1)

-- ---- how many steps

-- so many steps were counted, within the bound
counts : (e : Event) (amx : Amx) (bound : ℕ) (mid : State) (passed count : ℕ) (s : State)
    → 1 ≤ bound → IsLast e amx bound mid passed count s
    → (1 ≤ count) × (count ≤ bound)
counts event.Going amx bound mid passed count s some last =
    (omega (arith, some, last.0, last.1), omega (arith, last.0, last.1))
counts (event.Native number) amx bound mid passed count s some last =
    (omega (arith, last.0), omega (arith, last.0, last.1))
counts (event.Halt code pri alt) amx bound mid passed count s some last =
    (omega (arith, last.0), omega (arith, last.0, last.1))
counts (event.Error code) amx bound mid passed count s some last =
    (omega (arith, last.0), omega (arith, last.0, last.1))

-- of the steps that are left
pub counted_within : (bound done : ℕ) (old new : Machine) (count : ℕ) (e : Event) → done < bound
    → Reached (bound - done) old count e new
    → (done + count ≤ bound) × (bound - (done + count) < bound - done)
counted_within bound done old new count e less r =
    let is =
    counts e old.amx (bound - done) r.mid r.passed count new.state (omega (arith, less)) r.last in
    (omega (arith, is.1, less), omega (arith, is.0, less))
