-- What `sample` does, from its source to its counts.
use Rattle.std.proofs.Common.{◌≡◌, ◌≢◌, ◌∙◌, inl, inr, ℕ, List, Option, Ok, Err, length}
use Rattle.std.proofs.Common.{refl, sym, ap, subst}
use Rattle.pawn_outside.specs.Held.{Held, with_put}
use Rattle.host_script.specs.declared.script.Script.{Script}
use Rattle.host_script.specs.Script.{plain}
use Rattle.host_script.proofs.PlainLaws.{plain_is_script}
use Rattle.amx_ops.specs.declared.amx.Amx.{Amx}
use Rattle.pawn_front.specs.declared.compiled.Compiled.{Compiled}
use Rattle.command_parts.specs.declared.command.SampleWords.{SampleWords}
use Rattle.command_parts.specs.declared.options.TheConstants.{DEFAULT_STEPS}
use Rattle.command_parts.specs.declared.status.Status.{Status}
use Rattle.command_parts.specs.declared.status.Status.TheVariants as status
use Rattle.command_parts.specs.declared.stop.Stop.{Stop}
use Rattle.command_parts.specs.declared.stop.Stop.TheVariants.{NoMemory}
use Rattle.command_parts.specs.Put.{NotPut}
use Rattle.command_parts.specs.Told.{Says, Writes, TellsLine, TellsStop}
use Rattle.command_parts.specs.ValidFile.{IsValidFile, IsValidFileOf}
use Rattle.command_parts.proofs.FaultCountLaws.{stop_no_fault, told_other}
use Rattle.commands.specs.Counted.{TellsCounted}
use Rattle.commands.specs.Played.{trace_of}
use Rattle.commands.specs.ReadyFile.{IsReadyFile, NotReady, wants_memory}
use Rattle.commands.specs.Samples.{IsSample, MakesSample, NoSample, RunsSample, Samples}
use Rattle.commands.specs.Samples.{ran, stopped}
use Rattle.commands.specs.declared.ready_file.ReadyFile.{ReadyFile}
use Rattle.commands.proofs.FileLaws.{meant}
use Rattle.commands.proofs.FileReadyLaws.{file_of, ready_no_fault}
use Rattle.commands.proofs.GoFileLaws.{status_no_fault}
use Rattle.commands.proofs.MadeLaws.{made_valid, only_memory, same_file}

module _ {S : Type 0} {says : Says S} {old new : S} where
  -- ---- its run

  pub sample_no_fault : (amx : Amx) (answer : Status) → RunsSample says amx old new answer
      → answer ≢ status.FileFault
  sample_no_fault amx answer (stopped stop none tells) =
      stop_no_fault stop answer (ready_no_fault none) tells
  sample_no_fault amx answer (ran main tells) =
      λ e. told_other _ tells.told (status_no_fault _) (sym tells.is ∙ e)

  pub not_ready : (amx : Amx) (script : Script) (stop : Stop) (answer : Status) → script ≡ plain
      → NotReady amx script stop → TellsLine stop says old new answer
      → RunsSample says amx old new answer
  not_ready amx script stop answer e none tells =
      stopped stop (subst (λ (s : Script). NotReady amx s stop) e none) tells

  pub no_script : (amx : Amx) (stop : Stop) (answer : Status) → stop ≡ NoMemory
      → TellsLine stop says old new answer → RunsSample says amx old new answer
  no_script amx stop answer e tells =
      stopped stop (subst (NotReady amx plain) (sym e) wants_memory) tells

  pub runs_ready : (amx : Amx) (script : Script) (ready : ReadyFile) (cells : ℕ) (answer : Status)
      → script ≡ plain → IsReadyFile amx script ready → cells ≡ length amx.code
      → TellsCounted says cells (trace_of ready.machine.amx script DEFAULT_STEPS 0) old new answer
      → RunsSample says amx old new answer
  runs_ready amx script ready cells answer e is same tells =
      let P : ℕ → Type 0 =
      λ n. TellsCounted says n (trace_of ready.machine.amx script DEFAULT_STEPS 0) old new
      answer in
      let Q : Script → Type 0 =
      λ s. TellsCounted says (length amx.code) (trace_of ready.machine.amx s DEFAULT_STEPS 0) old
      new answer in
      let R : Amx → Type 0 =
      λ a. TellsCounted says (length amx.code) (trace_of a plain DEFAULT_STEPS 0) old new
      answer in
      ran is.main (subst R (file_of amx script ready is) (subst Q e (subst P same tells)))

  -- ---- of bytes that are a valid file

  pub sample_unread : (bytes : List ℕ) (stop : Stop) (answer : Status)
      → IsValidFileOf bytes (Err stop) → TellsLine stop says old new answer
      → (amx : Amx) → IsValidFile bytes amx → RunsSample says amx old new answer
  sample_unread bytes stop answer none tells amx valid =
      no_script amx stop answer (only_memory amx valid stop none) tells

  pub sample_read : (bytes : List ℕ) (read : Amx) (answer : Status)
      → IsValidFileOf bytes (Ok read) → RunsSample says read old new answer
      → (amx : Amx) → IsValidFile bytes amx → RunsSample says amx old new answer
  sample_read bytes read answer is runs amx valid =
      subst (λ (a : Amx). RunsSample says a old new answer) (same_file amx valid read is) runs

module _ {S : Type 0} {writes : Writes S} {old new : S} where
  -- ---- the put

  pub sample_unput : (name bytes : List ℕ) (held after : Option Held) (stop : Stop)
      (answer : Status) → NotPut held after name stop → TellsStop stop writes old new answer
      → MakesSample writes name bytes held after old new answer
  sample_unput name bytes held after stop answer none tells =
      λ amx valid. inl (record { stop = stop; comes = none; tells = tells })

  pub sample_put : (name bytes lent : List ℕ) (held after : Option Held) (answer : Status)
      → lent ≡ bytes → after ≡ with_put held name lent
      → ((amx : Amx) → IsValidFile lent amx → RunsSample writes.says amx old new answer)
      → MakesSample writes name bytes held after old new answer
  sample_put name bytes lent held after answer same kept runs =
      let P : List ℕ → Type 0 =
      λ b. (amx : Amx) → IsValidFile b amx → RunsSample writes.says amx old new answer in
      λ amx valid. inr (record {
        kept = kept ∙ ap (λ b. with_put held name b) same;
        runs = subst P same runs amx valid;
      })

  -- ---- the whole command

  pub samples_nothing : (words : SampleWords) (held after : Option Held) (stop : Stop)
      (answer : Status) → NoSample words.functions stop → after ≡ held
      → TellsStop stop writes old new answer → Samples writes words held after old new answer
  samples_nothing words held after stop answer none kept tells =
      inl (record { stop = stop; comes = none; kept = kept; tells = tells })

  pub samples_good : (words : SampleWords) (held after : Option Held) (name : List ℕ)
      (it : Compiled) (answer : Status) → name ≡ words.amx → IsSample words.functions it
      → MakesSample writes name it.bytes held after old new answer
      → Samples writes words held after old new answer
  samples_good words held after name it answer e made makes =
      let P : List ℕ → Type 0 =
      λ n. MakesSample writes n it.bytes held after old new answer in
      let has = made.has in
      inr (record {
        it = it;
        made = made;
        meant = λ f main.
            meant made.program has.amx has.agrees f main DEFAULT_STEPS 0 plain plain_is_script refl;
        puts = (subst P e makes) has.amx (made_valid has);
      })
