-- What a command does of good files, and what stops it.
use Rattle.std.proofs.Common.{◌≡◌, ℕ, ℤ, List, Option, None, Some, inl, inr, refl, subst}
use Rattle.pawn_outside.specs.Held.{Held}
use Rattle.command_parts.specs.declared.status.Status.{Status}
use Rattle.command_parts.specs.declared.stop.Stop.{Stop}
use Rattle.command_parts.specs.declared.stop.Stop.TheVariants.{NoEntry}
use Rattle.command_parts.specs.Unread.{IsStopOf}
use Rattle.amx_format.specs.Limits.{IsWithinLimits}
use Rattle.amx_format.proofs.LimitLaws.{within_limits}
use Rattle.command_parts.specs.declared.program.Program.{Program}
use Rattle.command_parts.specs.Program.{IsProgram, NoProgram}
use Rattle.command_parts.specs.Told.{Writes, TellsStop}
use Rattle.command_parts.specs.declared.command.RunWords.{RunWords}
use Rattle.host_run.specs.Entry.{address_named, IsEntryOf}
use Rattle.commands.specs.Prepared.{Unserved, no_native}
use Rattle.commands.specs.Runs.{RunsProgram, Runs}
use Rattle.commands.proofs.PreparedLaws.{entry_missing}

pub within : (held : Option Held) (amx script : List ℕ) (program : Program)
    → IsProgram held amx script program → IsWithinLimits program.file
within held amx script program good =
    within_limits good.file.bytes program.file good.file.is.valid.file

module _ {S : Type 0} {writes : Writes S} {old new : S} where
  pub stops_unread : (words : RunWords) (held after : Option Held) (amx script : List ℕ)
      (stop : Stop) (answer : Status) → amx ≡ words.amx
      → script ≡ words.script → NoProgram held amx script stop → after ≡ held
      → TellsStop stop writes old new answer
      → Runs writes words held after old new answer
  stops_unread words held after amx script stop answer a b none kept tells =
      let P : List ℕ → Type 0 = λ n. NoProgram held n words.script stop in
      let Q : List ℕ → Type 0 = λ n. NoProgram held amx n stop in
      inl (record { stop = stop; comes = subst P a (subst Q b none); kept = kept; tells = tells })

  pub runs_good : (words : RunWords) (held mid after : Option Held) (begun : S)
      (amx script : List ℕ) (program : Program) (answer : Status) → amx ≡ words.amx
      → script ≡ words.script → IsProgram held amx script program → mid ≡ held → begun ≡ old
      → RunsProgram writes program words mid after begun new answer
      → Runs writes words held after old new answer
  runs_good words held mid after begun amx script program answer a b good same from runs =
      let P : List ℕ → Type 0 = λ n. IsProgram held n words.script program in
      let Q : List ℕ → Type 0 = λ n. IsProgram held amx n program in
      let R : Option Held → Type 0 =
      λ h. RunsProgram writes program words h after begun new answer in
      let T : S → Type 0 = λ s. RunsProgram writes program words held after s new answer in
      inr (record {
        program = program;
        good = subst P a (subst Q b good);
        runs = subst T from (subst R same runs);
      })

  pub stops_at_entry : (program : Program) (words : RunWords) (held : Option Held) (stop : Stop)
      (answer : Status)
      → address_named program.file words.entry ≡ None → IsStopOf (NoEntry words.entry) stop
      → TellsStop stop writes old new answer
      → RunsProgram writes program words held held old new answer
  stops_at_entry program words held stop answer none is tells =
      inl (record {
        stop = stop;
        comes = entry_missing program words.entry stop none is;
        kept = refl;
        tells = tells;
      })

  pub stops_at_native : (program : Program) (words : RunWords) (held : Option Held) (number : ℤ)
      (stop : Stop) (answer : Status)
      → IsEntryOf program.file words.entry (Some number) → Unserved program stop
      → TellsStop stop writes old new answer
      → RunsProgram writes program words held held old new answer
  stops_at_native program words held number stop answer there none tells =
      inl (record {
        stop = stop;
        comes = no_native there.0 stop there.1 none;
        kept = refl;
        tells = tells;
      })
