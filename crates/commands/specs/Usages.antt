-- `usage SRC`: what it answers and writes, over the files that it reads.
use Rattle.std.specs.Prelude.{◌≡◌, ◌⊎◌, ◌++◌, ℕ, List, Option, Result, Ok, Err}
use Rattle.pawn_outside.specs.Held.{Held}
use Rattle.pawn_meaning.specs.View.{program_view}
use Rattle.pawn_front.specs.declared.sourced.Sourced.{Sourced}
use Rattle.pawn_front.specs.Sourced.{IsSourced}
use Rattle.pawn_usage.specs.IsUsage.{IsUsage}
use Rattle.command_parts.specs.declared.status.Status.{Status}
use Rattle.command_parts.specs.declared.status.Status.TheVariants as status
use Rattle.command_parts.specs.declared.stop.Stop.{Stop}
use Rattle.command_parts.specs.declared.stop.Stop.TheVariants.{NoMemory}
use Rattle.command_parts.specs.Told.{Told, Writes, status_told}
use Rattle.commands.specs.declared.usages.Used.{Used}
use Rattle.commands.specs.Lines.{warning_lines}
use Rattle.commands.specs.Made.{NoSource}
use Rattle.commands.specs.Runs.{IsStopped}
use Rattle.commands.specs.UsageText.{usage_text}

-- the program that the source means, and the use of the stack by its calls
pub record IsUsed (held : Option Held) (src : List ℕ) (it : Used) : Type 0 where
  pub sourced : IsSourced held src it.sourced
  pub usage : IsUsage (program_view it.sourced.program) it.usage

-- its warnings, and behind them its use
abbrev pub used_text : Used → List ℕ
used_text it = warning_lines it.sourced.warnings ++ usage_text it.sourced.names it.usage

-- they were written, or a front of them; nothing is put
pub record TellsUsed {S : Type 0} (writes : Writes S) (src : List ℕ) (held after : Option Held)
    (old new : S) (answer : Status) : Type 0 where
  pub it : Used
  pub is : IsUsed held src it
  pub kept : after ≡ held
  pub told : Told
  pub written : writes.says old new (used_text it) told
  pub ends : answer ≡ status_told status.Ok told

-- or the source has no program
abbrev pub Usages : {S : Type 0} → Writes S → List ℕ → Option Held → Option Held → S → S → Status
    → Type 0
Usages writes src held after old new answer =
    IsStopped writes (NoSource held src) held after old new answer
    ⊎ TellsUsed writes src held after old new answer

-- ---- what the calls answer

-- the use of a source, or why there is none
abbrev pub Uses : Option Held → List ℕ → Result Used Stop → Type 0
Uses held src (Ok it) = IsUsed held src it
Uses held src (Err stop) = NoSource held src stop

-- the use of a program; want of memory alone is free
abbrev pub Measures : Sourced → Result Used Stop → Type 0
Measures sourced (Ok it) =
    (it.sourced ≡ sourced) × IsUsage (program_view sourced.program) it.usage
Measures sourced (Err stop) = stop ≡ NoMemory
