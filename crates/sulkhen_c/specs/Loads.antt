-- Files that C loads.
use Rattle.std.specs.Prelude.{◌≡◌, ℕ, ℤ, pos, List, Option, Result, Ok, Err}
use Rattle.host_embed.specs.declared.load_fault.LoadFault.{LoadFault}
use Rattle.host_embed.specs.Held.{Held}
use Rattle.host_embed.specs.Loads.{LoadsInto, number_of, place_of}

-- 0 for a machine, and else the number of the fault
abbrev pub code_of : {T : Type 0} → Result T LoadFault → ℤ
code_of (Ok t) = pos 0
code_of (Err fault) = number_of fault

-- what is left at the place of a fault
abbrev pub place_told : {T : Type 0} → Result T LoadFault → ℤ → ℤ
place_told (Ok t) old = old
place_told (Err fault) old = place_of fault

-- a machine stands in the slot, or the fault is told with its place
abbrev pub LoadsFor : List ℕ → Option Held → ℤ → Option Held → ℤ → ℤ → Type 0
LoadsFor bytes old code new place place' =
    (answer : Result (Unit {0}) LoadFault) × LoadsInto bytes old answer new
    × (code ≡ code_of answer) × (place' ≡ place_told answer place)
