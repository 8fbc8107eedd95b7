-- A start of an idle machine: there is no entry, or no room, or it runs.
use Rattle.std.proofs.Common.{◌≡◌, ◌≤◌, ◌∙◌, ℕ, ℤ, pos, List, [], Option, None, Some, Err, Result}
use Rattle.std.proofs.Common.{option_and_then, length, codes, refl, sym, ap, subst, arith}
use Rattle.amx_ops.specs.State.{State}
use Rattle.amx_ops.specs.Trace.{start_at}
use Rattle.amx_machine.specs.Machine.{Machine, IsIdle}
use Rattle.amx_machine.specs.Starts.{StartsSo, address_by, error_of}
use Rattle.amx_machine.specs.Starts as machine
use Rattle.amx_machine.specs.declared.mode.Mode.{Mode}
use Rattle.amx_machine.specs.declared.mode.Mode.TheVariants as mode
use Rattle.amx_machine.specs.declared.start.StartFault.{StartFault}
use Rattle.amx_machine.specs.declared.start.StartFault.TheVariants as fault
use Rattle.host_script.specs.declared.script.Script.{Script}
use Rattle.host_script.specs.declared.event.End.TheVariants as end
use Rattle.host_script.specs.Text.{end_text}
use Rattle.host_run.specs.Entry.{address_named}
use Rattle.host_many.specs.declared.standing.Standing.TheVariants.{Idle, Runs, Over}
use Rattle.host_many.specs.Guests.{standing_at, standing_of, guest_of}
use Rattle.host_many.specs.Own.{Guest, begun_by, entered_at, silent, started, tells}

pub idle_standing : (m : Mode) → IsIdle m → standing_of m ≡ Idle
idle_standing mode.Loaded h = refl
idle_standing mode.Running h = absurd h
idle_standing mode.Asleep h = absurd h
idle_standing mode.Waiting h = absurd h
idle_standing (mode.Halted code) h = ap standing_at h
idle_standing (mode.Failed code) h = absurd h

module _ (m : Machine) (name : List ℕ) (idle : IsIdle m.mode) (script : Script) (position : ℕ) where
  abbrev guest : Guest
  guest = guest_of m script position

  is_idle : started name guest.standing guest ≡ entered_at guest (address_named m.amx name)
  is_idle = ap (λ standing. started name standing guest) (idle_standing m.mode idle)

  pub no_entry : address_named m.amx name ≡ None
      → started name guest.standing guest ≡ tells (codes "no entry\n") guest
  no_entry none = is_idle ∙ ap (entered_at guest) none

  module _ (address number : ℤ) (named : address_named m.amx name ≡ Some address)
      (numbered : address_by m.amx number ≡ Some address) where
    starts_there : machine.started m number [] ≡ start_at m.amx address [] m.state
    starts_there = ap (option_and_then (λ a. start_at m.amx a [] m.state)) numbered

    pub begins : (found : Option State) → machine.started m number [] ≡ found
        → started name guest.standing guest ≡ begun_by guest found
    begins found is =
        is_idle ∙ ap (entered_at guest) named ∙ ap (begun_by guest) (sym starts_there ∙ is)

    pub no_room : (why : StartFault) (new : Machine)
        → StartsSo {T = Unit {0}} m number [] (Err why) new
        → started name guest.standing guest ≡ tells (end_text (end.Error (error_of why))) guest
    no_room fault.Index new h = absurd (cc (numbered, h.0))
    no_room fault.Stack new h = begins None h.1

    pub stays : (why : StartFault) (new : Machine)
        → StartsSo {T = Unit {0}} m number [] (Err why) new → new ≡ m
    stays fault.Index new h = h.1
    stays fault.Stack new h = h.2

pub some_error : (code : ℤ) → 1 ≤ length (end_text (end.Error code))
some_error code = omega arith
