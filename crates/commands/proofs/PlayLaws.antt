-- A machine that is ready, its start, and the trace from there on.
use Rattle.std.proofs.Common.{◌≡◌, ◌∙◌, ℕ, pos, negsuc, [], Option, None, Some, Err, replicate}
use Rattle.std.proofs.Common.{option_and_then, refl, sym, ap, subst}
use Rattle.host_script.specs.declared.script.Script.{Script}
use Rattle.host_script.specs.declared.event.End.{End}
use Rattle.amx_ops.specs.declared.amx.Amx.{Amx}
use Rattle.amx_ops.specs.State.{State}
use Rattle.amx_ops.specs.Moves.{Config}
use Rattle.amx_ops.specs.Runs.{Traced}
use Rattle.amx_ops.specs.Trace.{Main, address_of, loaded, trace_by, start_at}
use Rattle.amx_machine.specs.Machine.{Machine, IsIdle, first}
use Rattle.amx_machine.specs.Starts.{StartsSo, started, error_of}
use Rattle.amx_machine.specs.declared.mode.Mode.TheVariants as mode
use Rattle.amx_machine.specs.declared.start.StartFault.{StartFault}
use Rattle.amx_machine.specs.declared.start.StartFault.TheVariants as fault
use Rattle.host_run.specs.Stands.{IsAwake}
use Rattle.host_run.specs.Trace.{trace_on}
use Rattle.commands.specs.Played.{trace_of}

pub idle : (m : Machine) → m ≡ first m.amx → IsIdle m.mode
idle m is = let P : Machine → Type 0 = λ it. IsIdle it.mode in subst P (sym is) tt

pub awake : (m : Machine) → m.mode ≡ mode.Running → IsAwake m.mode
awake m e = subst IsAwake (sym e) tt

module _ (old : Machine) (is_first : old ≡ first old.amx)
    (main : address_of old.amx Main ≡ Some old.amx.entry) where
  abbrev starts_at : Machine → Option State
  starts_at m = start_at old.amx old.amx.entry [] m.state

  pub at_main : started old (negsuc 0) [] ≡ starts_at (first old.amx)
  at_main =
      ap (λ o. option_and_then (λ address. start_at old.amx address [] old.state) o) main
      ∙ ap starts_at is_first

  module _ (script : Script) (steps sleeps : ℕ) where
    abbrev by : Option State → Traced Config End
    by o = trace_by old.amx script (loaded old.amx old.amx.room) o steps (replicate sleeps steps)

    -- behind its start
    pub goes_on : (new : Machine) → started old (negsuc 0) [] ≡ Some new.state → new.amx ≡ old.amx
        → trace_of old.amx script steps sleeps ≡ trace_on script new steps sleeps
    goes_on new e same =
        let P : Amx → Type 0 =
        λ a. trace_of old.amx script steps sleeps
        ≡ trace_on script (record new { amx = a }) steps sleeps in
        subst P (sym same) (ap by (sym at_main ∙ e))

    -- without a start it is error 3
    pub fails : started old (negsuc 0) [] ≡ None → trace_of old.amx script steps sleeps ≡ by None
    fails e = ap by (sym at_main ∙ e)

    pub no_room : (f : StartFault) (new : Machine)
        → StartsSo {T = Unit {0}} old (negsuc 0) [] (Err f) new
        → (started old (negsuc 0) [] ≡ None) × (error_of f ≡ pos 3)
    no_room fault.Index new it = absurd (cc (main, it.0))
    no_room fault.Stack new it = (it.1, refl)
