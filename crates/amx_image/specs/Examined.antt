-- What the tests of an image come to.
use Rattle.std.specs.Prelude.{◌≡◌, ◌+◌, ℕ, List, Option, Some, None, Result, Ok, Err}
use Rattle.amx_image.specs.declared.fault.ImageFault.{ImageFault}
use Rattle.amx_image.specs.declared.version.Version.{Version}
use Rattle.amx_image.specs.declared.version.Version.TheVariants.{Whole, Live}
use Rattle.amx_image.specs.declared.place.TheConstants.{CELLS}
use Rattle.amx_image.specs.Faults.{version_in}

-- a fault is told, or there is none
abbrev pub Tells : {T : Type 0} → Option ImageFault → Result T ImageFault → Type 0
Tells found (Ok t) = found ≡ None
Tells found (Err fault) = found ≡ Some fault

-- the version is that of the bytes
abbrev pub IsVersionOf : List ℕ → Result Version ImageFault → Type 0
IsVersionOf bytes (Ok version) = version_in bytes ≡ Some version
IsVersionOf bytes (Err fault) = Unit {0}

-- where the cells of the stack stand
abbrev pub stack_place : Version → ℕ → ℕ → ℕ
stack_place Whole hea stk = CELLS + stk
stack_place Live hea stk = CELLS + hea
