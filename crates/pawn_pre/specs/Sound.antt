-- What holds of the walk's lines on the way, for the proof alone.
use Rattle.std.specs.Prelude.{◌≡◌, ◌<◌, ◌≤◌, ℕ, length, All, Bool, true, false, Result, Ok, Err}
use Rattle.pawn_pre.specs.declared.fault.PreFault.{PreFault}
use Rattle.pawn_pre.specs.declared.line.TheConstants.{MOST_BYTES}
use Rattle.pawn_pre.specs.declared.work.Work.{Work}
use Rattle.pawn_pre.specs.Bounds.{bytes_of, ArePlaced, IsBounded}
use Rattle.pawn_pre.specs.Level.{Level}
use Rattle.pawn_pre.specs.Walk.{Stack, stack_lines}

-- what holds of lines, of what is settled with so many files begun
pub record IsSound (files : ℕ) (w : Work) : Type 0 where
  pub counted : w.size ≡ bytes_of w.lines
  pub small : w.size ≤ MOST_BYTES
  pub placed : ArePlaced files w.lines
  pub named : w.top.file < files

-- and of a stack
pub record IsSoundStack (p : Stack) : Type 0 where
  pub work : IsSound (length p.names) p.work
  pub below : All (λ (file : Level). file.file < length p.names) p.below

-- what a step leaves
abbrev pub Leaves : Result Bool PreFault → Stack → Type 0
Leaves (Ok true) new = IsSoundStack new
Leaves (Ok false) new = IsBounded (stack_lines new)
Leaves (Err refused) new = Unit {0}
