-- A source that is good is compiled, put and run, but for a fault of the files or want of memory.
use Rattle.std.proofs.Common.{◌≡◌, ◌⊎◌, ◌∙◌, ℕ, List, Option, None, Some, inl, inr, refl, sym, ap}
use Rattle.std.proofs.Common.{subst}
use Rattle.pawn_outside.specs.Held.{Held}
use Rattle.host_script.specs.declared.script.Script.{Script}
use Rattle.amx_ops.specs.declared.amx.Amx.{Amx}
use Rattle.amx_ops.specs.Trace.{Main, address_of}
use Rattle.pawn_meaning.specs.Program.{Program}
use Rattle.pawn_front.proofs.SourceLaws.{a_source_has_one_program}
use Rattle.gen_agrees.specs.Agrees.{Serves}
use Rattle.command_parts.specs.declared.status.Status.{Status}
use Rattle.command_parts.specs.declared.stop.Stop.{Stop}
use Rattle.command_parts.specs.declared.stop.Stop.TheVariants.{NoMemory}
use Rattle.command_parts.specs.ScriptFile.{IsScriptOf}
use Rattle.command_parts.specs.Told.{Says, Writes, TellsLine}
use Rattle.commands.specs.Runs.{IsStopped}
use Rattle.command_parts.specs.declared.command.GoWords.{GoWords}
use Rattle.commands.specs.PutFile.{Unput}
use Rattle.commands.specs.Lines.{warning_lines}
use Rattle.commands.specs.Goes.{Goes, GoesGood, NotGood, RunsPut, behind}
use Rattle.commands.specs.Natives.{HasNatives}
use Rattle.commands.specs.ReadyFile.{NotReady, no_main, no_native, wants_memory}
use Rattle.commands.specs.Served.{AreServed, unregistered, no_memory}
use Rattle.commands.specs.RunsFile.{RunsFile, TellsRun, stopped, ran}
use Rattle.commands.proofs.FileLaws.{main_address}
use Rattle.commands.specs.Good.{IsFree}
use Rattle.commands.specs.GoodGo.{IsServedSource, IsGone, GoodIsGone}
use Rattle.commands.proofs.DoneLaws.{freely}
use Rattle.commands.proofs.GoodLaws.{same_bytes, same_script}
use Rattle.commands.proofs.ServedNativeLaws.{bound}
use Rattle.commands.proofs.SourceGoLaws.{good_sources}

module _ (map : Held) where
  -- the script that is read is the one that is held
  one_script : (name : Option (List ℕ)) (script read : Script) → HasNatives (Some map) name script
      → HasNatives (Some map) name read → read ≡ script
  one_script None script read is that = that ∙ sym is
  one_script (Some name) script read is that =
      let P : List ℕ → Type 0 = λ b. IsScriptOf b read in
      same_script is.bytes script read is.is (subst P (same_bytes map name is that) that.is)

only_memory : (amx : Amx) (script : Script) (stop : Stop) → address_of amx Main ≡ Some amx.entry
    → AreServed amx script → NotReady amx script stop
    → stop ≡ NoMemory
only_memory amx script stop main served (no_main none) = absurd (cc (main, none))
only_memory amx script stop main served (no_native cause there (unregistered number first)) =
    absurd (cc (served, first))
only_memory amx script stop main served (no_native cause there no_memory) = refl
only_memory amx script stop main served wants_memory = refl

module _ {S : Type 0} (says : Says S) (old new : S) (answer : Status) where
  runs : (amx : Amx) (script : Script) (words : GoWords) → address_of amx Main ≡ Some amx.entry
      → AreServed amx script
      → RunsFile says amx script words old new answer
      → TellsLine NoMemory says old new answer
      ⊎ TellsRun says amx script words old new answer
  runs amx script words main served (ran there has tells) = inr tells
  runs amx script words main served (stopped stop none tells) =
      let P : Stop → Type 0 = λ s. TellsLine s says old new answer in
      inl (subst P (only_memory amx script stop main served none) tells)

module _ {S : Type 0} (writes : Writes S) (old new : S) (answer : Status) (map : Held)
    (after : Option Held) (words : GoWords) (script : Script)
    (source : IsServedSource map words.src script)
    (natives : HasNatives (Some map) words.script script) where
  free : (stop : Stop) → NotGood (Some map) words stop → IsFree stop
  free stop none =
      good_sources.read map words source.program source.warnings script stop source.means
      natives none

  put : (it : GoesGood writes words (Some map) after old new answer)
      → Unput writes words.amx (Some map) after old new answer
      ⊎ RunsPut writes words it.good.made.has.amx it.prepared (Some map) after old new answer
      → IsGone writes words (Some map) after old new answer
  put it (inl unput) = record { it = it; comes = inl unput }
  put it (inr is) =
      let made = it.good.made in
      let has = made.has in
      let same : source.program ≡ made.program =
      (a_source_has_one_program map words.src source.program made.program source.warnings
      it.prepared.compiled.warnings source.means made.means).0 in
      let entry : made.program.entry ≡ Some source.main =
      sym (ap (λ (p : Program). p.entry) same) ∙ source.entry in
      let P : Program → Type 0 = λ p. Serves script p.natives in
      let e = one_script map words.script script it.prepared.script natives it.good.natives in
      let Q : Script → Type 0 = λ s. AreServed has.amx s in
      let served =
      subst Q (sym e) (bound script has.amx.natives made.program.natives
      has.agrees.shape.natives (subst P same source.serves)) in
      record {
        it = it;
        comes = inr (
          is.kept,
          runs (behind (warning_lines it.prepared.compiled.warnings) writes.says) old new answer
              has.amx it.prepared.script words
              (main_address made.program has.amx has.agrees source.main entry) served is.runs,
        );
      }

  go : Goes writes words (Some map) after old new answer
      → IsStopped writes IsFree (Some map) after old new answer
      ⊎ IsGone writes words (Some map) after old new answer
  go (inl early) = inl (freely free early)
  go (inr it) = inr (put it it.puts)

pub good_is_gone : {S : Type 0} (writes : Writes S) → GoodIsGone writes
good_is_gone writes = record {
  done =
      λ map after words script old new answer source natives it. go writes old new answer map after
      words script source natives it;
}
