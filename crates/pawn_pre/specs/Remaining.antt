-- What remains of a stack of open files: each step leaves less, so the walk ends, for the proof
-- alone.
use Rattle.std.specs.Prelude.{ℕ, ◌+◌, ◌-◌, ◌*◌, ◌^◌, ◌<◌, List, [], ◌∷◌, length, Bool, true}
use Rattle.std.specs.Prelude.{false, Result, Ok, Err}
use Rattle.pawn_pre.specs.declared.fault.PreFault.{PreFault}
use Rattle.pawn_pre.specs.Level.{Level}
use Rattle.pawn_pre.specs.Walk.{Stack}

-- the lines that are left of the files below, and their ends
unfoldable pub waiting : List Level → ℕ
waiting [] = 0
waiting (file ∷ below) = 1 + length file.rows + waiting below

-- a file has fewer than 2 ^ 25 lines, and no more than 2 ^ 64 are begun
unfoldable pub remaining : Stack → ℕ
remaining s =
    (2 ^ 64 - length s.names) * 2 ^ 25 + (length s.work.top.rows + waiting s.below)

-- where the walk goes on, less than this remains
abbrev pub FallsBelow : ℕ → Result Bool PreFault → Stack → Type 0
FallsBelow most (Ok true) new = remaining new < most
FallsBelow most (Ok false) new = Unit {0}
FallsBelow most (Err refused) new = Unit {0}
