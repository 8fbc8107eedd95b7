-- A machine that is added to a host, or why it isn't.
use Rattle.std.specs.Prelude.{◌≡◌, ◌++◌, ℕ, List, [], ◌∷◌, None, Some, Result, Ok, Err, length}
use Rattle.host_script.specs.declared.script.Script.{Script}
use Rattle.amx_ops.specs.declared.amx.Amx.{Amx}
use Rattle.host_run.specs.Bound.{unserved}
use Rattle.host_many.specs.declared.host.AddFault.{AddFault}
use Rattle.host_many.specs.declared.host.AddFault.TheVariants.{Unregistered, Memory}
use Rattle.host_many.specs.Own.{Guest}
use Rattle.host_many.specs.Guests.{new_guest}

-- why none is made; only want of memory is free
abbrev pub NotAdded : Amx → Script → AddFault → Type 0
NotAdded amx script (Unregistered number) = unserved script amx.natives ≡ Some number
NotAdded amx script Memory = Unit {0}

-- its natives are served, and it was loaded
abbrev pub IsAdded : Amx → Script → Guest → Type 0
IsAdded amx script guest =
    (unserved script amx.natives ≡ None) × (guest ≡ new_guest amx script)

-- a machine by its file and its script
abbrev pub IsGuestOf : Amx → Script → Result Guest AddFault → Type 0
IsGuestOf amx script (Ok guest) = IsAdded amx script guest
IsGuestOf amx script (Err fault) = NotAdded amx script fault

-- it stands behind those that were there, and has their count as its number
abbrev pub Adds : Amx → Script → List Guest → Result ℕ AddFault → List Guest → Type 0
Adds amx script old (Ok number) new =
    (unserved script amx.natives ≡ None) × (number ≡ length old)
    × (new ≡ old ++ new_guest amx script ∷ [])
Adds amx script old (Err fault) new = NotAdded amx script fault × (new ≡ old)
