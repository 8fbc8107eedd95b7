-- What the preprocessor answers.
use Rattle.std.specs.Prelude.{ℕ, List, Result, Ok, Err}
use Rattle.pawn_outside.specs.Held.{Held}
use Rattle.pawn_pre.specs.declared.fault.PreFault.{PreFault}
use Rattle.pawn_pre.specs.declared.fault.PreFault.TheVariants as fault
use Rattle.pawn_pre.specs.declared.line.Lines.{Lines}
use Rattle.pawn_pre.specs.Outcome.{Whole, Fault, Long, NotHeld}
use Rattle.pawn_pre.specs.Page.{Comes}

-- each answer is what the source comes to; a failure of the files and want of memory are free
abbrev pub Answers : Held → List ℕ → Result Lines PreFault → Type 0
Answers map name (Ok lines) = Comes map name (Whole lines)
Answers map name (Err (fault.Source kind place file)) = Comes map name (Fault kind place file)
Answers map name (Err fault.NoSource) = Comes map name NotHeld
Answers map name (Err (fault.TooLarge file)) = Comes map name (Long file)
Answers map name (Err fault.Files) = Unit {0}
Answers map name (Err fault.Memory) = Unit {0}
