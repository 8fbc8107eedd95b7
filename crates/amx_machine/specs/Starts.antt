-- Starts of a machine at main or a public.
use Rattle.std.specs.Prelude.{◌≡◌, zero, suc, ℤ, pos, negsuc, List, Option, None, Some, is_some}
use Rattle.std.specs.Prelude.{IsTrue, option_and_then, Result, Ok, Err}
use Rattle.amx_ops.specs.declared.amx.Amx.{Amx}
use Rattle.amx_ops.specs.State.{State}
use Rattle.amx_ops.specs.Trace.{Entry, Main, Public, address_of, start_at}
use Rattle.amx_machine.specs.declared.mode.Mode.TheVariants as mode
use Rattle.amx_machine.specs.declared.start.StartFault.{StartFault}
use Rattle.amx_machine.specs.declared.start.StartFault.TheVariants as fault
use Rattle.amx_machine.specs.Machine.{Machine}

-- -1 is main, and a number from 0 on is a public
abbrev pub entry_of : ℤ → Option Entry
entry_of (pos n) = Some (Public n)
entry_of (negsuc zero) = Some Main
entry_of (negsuc (suc n)) = None

-- the address of an entry by its number
abbrev pub address_by : Amx → ℤ → Option ℤ
address_by amx number = option_and_then (address_of amx) (entry_of number)

-- the state then, where there is such an entry and its pushes find room
abbrev pub started : Machine → ℤ → List ℤ → Option State
started m number arguments =
    option_and_then (λ address. start_at m.amx address arguments m.state) (address_by m.amx number)

-- a start leaves it running; without the entry, or else without room, it is as it was
abbrev pub StartsSo : {T : Type 0} → Machine → ℤ → List ℤ → Result T StartFault → Machine → Type 0
StartsSo old number arguments (Ok t) new =
    (started old number arguments ≡ Some new.state) × (new.amx ≡ old.amx)
    × (new.mode ≡ mode.Running)
StartsSo old number arguments (Err fault.Index) new =
    (address_by old.amx number ≡ None) × (new ≡ old)
StartsSo old number arguments (Err fault.Stack) new =
    IsTrue (is_some (address_by old.amx number)) × (started old number arguments ≡ None)
    × (new ≡ old)

-- the AMX error of a fault
abbrev pub error_of : StartFault → ℤ
error_of fault.Index = pos 20
error_of fault.Stack = pos 3
