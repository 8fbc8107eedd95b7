-- Where a run begins: at main for its own name, else at the first public with the name.
use Rattle.std.specs.Prelude.{◌≡◌, ℕ, ℤ, List, Option, None, Some, bytes_eq, option_map}
use Rattle.std.specs.Prelude.{option_and_then, if◌then◌else◌}
use Rattle.std.specs.List.{position_from}
use Rattle.amx_ops.specs.declared.amx.Amx.{Amx}
use Rattle.amx_ops.specs.declared.amx.Record.{Record}
use Rattle.amx_ops.specs.Trace.{Entry, Main, Public, address_of}
use Rattle.amx_machine.specs.Starts.{address_by}
use Rattle.host_run.specs.declared.entry.TheConstants.{MAIN}

-- the number of the first public with a name
abbrev pub public_named : List Record → List ℕ → Option ℕ
public_named publics name = position_from (λ (it : Record). bytes_eq it.name name) 0 publics

-- a public whose name is main's is never meant
abbrev pub entry_named : Amx → List ℕ → Option Entry
entry_named amx name =
    if bytes_eq name MAIN then Some Main
    else option_map Public (public_named amx.publics name)

-- its address; none where there is no main, or no such public
abbrev pub address_named : Amx → List ℕ → Option ℤ
address_named amx name = option_and_then (address_of amx) (entry_named amx name)

-- the number of an entry that is there, or none
abbrev pub IsEntryOf : Amx → List ℕ → Option ℤ → Type 0
IsEntryOf amx name None = address_named amx name ≡ None
IsEntryOf amx name (Some number) =
    (address : ℤ) × (address_named amx name ≡ Some address) × (address_by amx number ≡ Some address)
