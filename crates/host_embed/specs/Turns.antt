-- What calls on a machine come to: each is done where the mode allows it, and else refused with
-- nothing changed.
use Rattle.std.specs.Prelude.{◌≡◌, ℕ, ℤ, Result, Ok, Err}
use Rattle.amx_ops.specs.State.{swept}
use Rattle.amx_machine.specs.declared.event.Event.{Event}
use Rattle.amx_machine.specs.declared.mode.Mode.TheVariants as mode
use Rattle.amx_machine.specs.Machine.{Machine, IsSteady}
use Rattle.amx_machine.specs.Runs.{ran}
use Rattle.host_embed.specs.declared.refusal.Refusal.{Refusal}
use Rattle.host_embed.specs.declared.refusal.Refusal.TheVariants as refusal
use Rattle.host_embed.specs.Held.{Held, with_machine}

-- the mode doesn't allow it, and nothing is changed
abbrev pub IsRefused : Type 0 → Held → Refusal → Held → Type 0
IsRefused allowed old r new = ¬ allowed × (r ≡ refusal.Mode) × (new ≡ old)

-- a call that makes this machine where the mode allows it
abbrev pub Turns : {T : Type 0} → Type 0 → Machine → Held → Result T Refusal → Held → Type 0
Turns allowed made old (Ok t) new = allowed × (new ≡ with_machine old made)
Turns allowed made old (Err r) new = IsRefused allowed old r new

-- so many steps, up to the first event other than going on
abbrev pub RunsSo : Held → ℕ → Result (ℕ × Event) Refusal → Held → Type 0
RunsSo old n (Ok r) new =
    IsSteady old.machine.mode
    × (record { steps = r.0; event = r.1; machine = new.machine } ≡ ran n old.machine)
    × (new ≡ with_machine old new.machine)
RunsSo old n (Err r) new = IsRefused (IsSteady old.machine.mode) old r new

-- ---- a native that is waited for

-- it waits for one
abbrev pub IsWaiting : Machine → Type 0
IsWaiting m = m.mode ≡ mode.Waiting

-- a native answered: PRI alone is the answer
abbrev pub answered : ℤ → Machine → Machine
answered v m = record m { state = record m.state { pri = v }; mode = mode.Running }

-- an error in its place, which ends the machine
abbrev pub failed : ℤ → Machine → Machine
failed code m = record m { mode = mode.Failed code }

-- answered, and at a sleep
abbrev pub parked : ℤ → Machine → Machine
parked v m = record m { state = swept (record m.state { pri = v }); mode = mode.Asleep }
