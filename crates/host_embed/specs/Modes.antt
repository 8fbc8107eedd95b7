-- The numbers by which C sees modes.
use Rattle.std.specs.Prelude.{ℤ, pos}
use Rattle.amx_machine.specs.declared.mode.Mode.{Mode}
use Rattle.amx_machine.specs.declared.mode.Mode.TheVariants as mode

-- the number of a mode
abbrev pub number_of : Mode → ℤ
number_of mode.Loaded = pos 0
number_of mode.Running = pos 1
number_of mode.Asleep = pos 2
number_of mode.Waiting = pos 3
number_of (mode.Halted code) = pos 4
number_of (mode.Failed code) = pos 5
