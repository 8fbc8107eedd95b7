-- How great a need can be: in a program within the limits that of a function is its number of
-- parameters, 3, and at most the limits on locals and on the weight.
use Rattle.std.specs.Prelude.{◌≡◌, ◌+◌, ◌≤◌, ℕ, Some, length, slice_get}
use Rattle.pawn_meaning.specs.Program.{Function, Program}
use Rattle.pawn_meaning.specs.declared.program_limits.TheConstants.{LOCALS_LIMIT, WEIGHT_LIMIT}
use Rattle.pawn_meaning.specs.Limits.{IsWithinLimits}
use Rattle.pawn_meaning.specs.Need.{need}

-- so of each function, by its number
abbrev pub NeedIsSmall : Type 0
NeedIsSmall = (program : Program) (f : ℕ) (function : Function) → IsWithinLimits program
    → slice_get program.functions f ≡ Some function
    → need function ≤ length function.params + 3 + LOCALS_LIMIT + WEIGHT_LIMIT
