-- What `go` does of good files, and what stops it.
use Rattle.std.proofs.Common.{◌≡◌, ◌≢◌, ◌∙◌, inl, inr, ℕ, List, Option, Ok, Err}
use Rattle.std.proofs.Common.{refl, sym, ap, ap₂, subst}
use Rattle.pawn_outside.specs.declared.fault.SinkFault.{SinkFault}
use Rattle.pawn_outside.specs.Held.{Held, with_put}
use Rattle.pawn_outside.specs.Said.{Said}
use Rattle.pawn_outside.proofs.SaidLaws.{said_as, said_then, said_cut}
use Rattle.host_script.specs.Ranges.{IsScript}
use Rattle.host_script.specs.declared.script.Script.{Script}
use Rattle.host_script.specs.declared.event.End.{End}
use Rattle.host_script.specs.declared.event.End.TheVariants as run_end
use Rattle.amx_ops.specs.declared.amx.Amx.{Amx}
use Rattle.amx_ops.specs.Runs.{Stop as RunStop, Steps, Asleep, Over_by}
use Rattle.amx_format.specs.declared.encoding.Encoding.TheVariants.{Plain}
use Rattle.pawn_front.specs.declared.compiled.Compiled.{Compiled}
use Rattle.pawn_front.specs.declared.compiled.Warning.{Warning}
use Rattle.pawn_front.specs.Compiled.{IsCompiled}
use Rattle.command_parts.specs.declared.status.Status.{Status}
use Rattle.command_parts.specs.declared.status.Status.TheVariants as status
use Rattle.command_parts.specs.declared.stop.Stop.{Stop}
use Rattle.command_parts.specs.declared.stop.Stop.TheVariants.{NoMemory}
use Rattle.command_parts.specs.Stop.{line_of}
use Rattle.command_parts.specs.ValidFile.{IsValidFileOf, IsValidFile}
use Rattle.command_parts.specs.Put.{NotPut}
use Rattle.command_parts.specs.Told.{Says, Writes, TellsLine, TellsStop}
use Rattle.command_parts.proofs.FaultCountLaws.{stop_no_fault, told_other}
use Rattle.commands.specs.Finishes.{run_text, status_of_end, status_of_stop}
use Rattle.commands.specs.declared.goes.Prepared.{Prepared}
use Rattle.command_parts.specs.declared.command.GoWords.{GoWords}
use Rattle.commands.specs.Lines.{warning_lines}
use Rattle.commands.specs.Made.{NoSource}
use Rattle.commands.specs.Goes.{IsGood, NotGood, no_source, no_natives, behind, Prepares, Makes}
use Rattle.commands.specs.Goes.{Goes}
use Rattle.commands.specs.Natives.{HasNatives, LacksNatives}
use Rattle.commands.specs.Played.{trace_of}
use Rattle.commands.specs.ReadyFile.{wants_memory}
use Rattle.commands.specs.RunsFile.{RunsFile, stopped, ran}
use Rattle.commands.proofs.FileLaws.{meant}
use Rattle.commands.proofs.MadeLaws.{made_valid, only_memory, same_file}
use Rattle.commands.proofs.FileReadyLaws.{ready_no_fault}
use Rattle.commands.proofs.UsedLaws.{used_behind}

-- ---- its files

module _ (held : Option Held) (words : GoWords) where
  pub source_missing : (src : List ℕ) (stop : Stop) → src ≡ words.src → NoSource held src stop
      → NotGood held words stop
  source_missing src stop e none =
      let P : List ℕ → Type 0 = λ n. NoSource held n stop in no_source (subst P e none)

  pub natives_missing : (mid : Option Held) (src : List ℕ) (it : Compiled) (stop : Stop)
      → src ≡ words.src → IsCompiled held src Plain it
      → mid ≡ held → LacksNatives mid words.script stop → NotGood held words stop
  natives_missing mid src it stop e made same none =
      let P : List ℕ → Type 0 = λ n. IsCompiled held n Plain it in
      let Q : Option Held → Type 0 = λ h. LacksNatives h words.script stop in
      no_natives it (subst P e made) (subst Q same none)

  pub both_good : (mid : Option Held) (src : List ℕ) (it : Prepared) → src ≡ words.src
      → IsCompiled held src Plain it.compiled
      → mid ≡ held → HasNatives mid words.script it.script → Prepares held words (Ok it)
  both_good mid src it e made same natives =
      let P : List ℕ → Type 0 = λ n. IsCompiled held n Plain it.compiled in
      let Q : Option Held → Type 0 = λ h. HasNatives h words.script it.script in
      record { made = subst P e made; natives = subst Q same natives }

-- ---- its run

end_no_fault : (e : End) → status_of_end e ≢ status.FileFault
end_no_fault (run_end.Done value) = λ e. absurd (cc e)
end_no_fault (run_end.Exit value tag) = λ e. absurd (cc e)
end_no_fault (run_end.Error code) = λ e. absurd (cc e)
end_no_fault run_end.Stray = λ e. absurd (cc e)

pub status_no_fault : (s : RunStop End) → status_of_stop s ≢ status.FileFault
status_no_fault Steps = λ e. absurd (cc e)
status_no_fault Asleep = λ e. absurd (cc e)
status_no_fault (Over_by e) = end_no_fault e

module _ {S : Type 0} {says : Says S} {old new : S} where
  pub run_no_fault : (amx : Amx) (script : Script) (words : GoWords) (answer : Status)
      → RunsFile says amx script words old new answer
      → answer ≢ status.FileFault
  run_no_fault amx script words answer (stopped stop none tells) =
      stop_no_fault stop answer (ready_no_fault none) tells
  run_no_fault amx script words answer (ran main served tells) =
      λ e. told_other _ tells.told (status_no_fault _) (sym tells.is ∙ e)

  -- of bytes that are a valid file
  pub reads_none : (bytes lent : List ℕ) (script : Script) (words : GoWords) (stop : Stop)
      (answer : Status) → lent ≡ bytes → IsValidFileOf lent (Err stop)
      → TellsLine stop says old new answer → (amx : Amx) → IsValidFile bytes amx
      → RunsFile says amx script words old new answer
  reads_none bytes lent script words stop answer same none tells amx valid =
      let P : List ℕ → Type 0 = λ b. IsValidFileOf b (Err stop) in
      let Q : Stop → Type 0 = λ s. TellsLine s says old new answer in
      stopped NoMemory wants_memory (subst Q (only_memory amx valid stop (subst P same none)) tells)

  pub reads_same : (bytes lent : List ℕ) (script : Script) (words : GoWords) (read : Amx)
      (answer : Status) → lent ≡ bytes → IsValidFileOf lent (Ok read)
      → RunsFile says read script words old new answer → (amx : Amx)
      → IsValidFile bytes amx
      → RunsFile says amx script words old new answer
  reads_same bytes lent script words read answer same valid_read runs amx valid =
      let P : List ℕ → Type 0 = λ b. IsValidFileOf b (Ok read) in
      let Q : Amx → Type 0 = λ a. RunsFile says a script words old new answer in
      subst Q (same_file amx valid read (subst P same valid_read)) runs

module _ {S : Type 0} {writes : Writes S} {old new : S} where
  -- ---- the put

  pub makes_none : (words : GoWords) (it : Prepared) (held after : Option Held) (name : List ℕ)
      (stop : Stop) (answer : Status) → name ≡ words.amx
      → NotPut held after name stop → TellsStop stop writes old new answer
      → Makes writes words it held after old new answer
  makes_none words it held after name stop answer e none tells =
      let P : List ℕ → Type 0 = λ n. NotPut held after n stop in
      λ amx valid. inl (record { stop = stop; comes = subst P e none; tells = tells })

  pub makes_put : (words : GoWords) (it : Prepared) (held after : Option Held) (name lent : List ℕ)
      (answer : Status) → name ≡ words.amx
      → lent ≡ it.compiled.bytes → after ≡ with_put held name lent
      → ((amx : Amx) → IsValidFile it.compiled.bytes amx
      → RunsFile (behind (warning_lines it.compiled.warnings) writes.says) amx it.script words old
      new answer)
      → Makes writes words it held after old new answer
  makes_put words it held after name lent answer e same kept runs =
      λ amx valid. inr (record {
        kept = kept
            ∙ ap₂ (λ n b. with_put held n b) e same;
        runs = runs amx valid;
      })

  -- ---- the whole command

  pub goes_nowhere : (words : GoWords) (held after : Option Held) (stop : Stop) (answer : Status)
      → NotGood held words stop → after ≡ held
      → TellsStop stop writes old new answer → Goes writes words held after old new answer
  goes_nowhere words held after stop answer none kept tells =
      inl (record { stop = stop; comes = none; kept = kept; tells = tells })

  pub goes_good : (words : GoWords) (held mid after : Option Held) (begun : S) (it : Prepared)
      (answer : Status) → IsGood held words it → IsScript it.script
      → mid ≡ held → begun ≡ old → Makes writes words it mid after begun new answer
      → Goes writes words held after old new answer
  goes_good words held mid after begun it answer good keeps same from makes =
      let P : Option Held → Type 0 = λ h. Makes writes words it h after begun new answer in
      let Q : S → Type 0 = λ s. Makes writes words it held after s new answer in
      let has = good.made.has in
      inr (record {
        prepared = it;
        good = good;
        meant =
            λ f main served. meant good.made.program has.amx has.agrees f main words.steps
            words.sleeps it.script keeps served;
        puts = (subst Q from (subst P same makes)) has.amx (made_valid has);
      })

-- ---- behind the warnings

module _ {S : Type 0} {taken : S → Option (List ℕ)} {faults : S → ℕ} {has_room : S → ℕ → Type 0}
    {old new : S}
    (warnings lent : List Warning) (same : lent ≡ warnings) (script : Script)
    (words : GoWords) where
  -- a file that is run behind them
  pub runs_behind : {mid : S} (amx : Amx) (answer : Status)
      → Said taken faults has_room old mid (warning_lines lent) (Ok tt)
      → RunsFile (Said taken faults has_room) amx script words mid new answer
      → RunsFile (behind (warning_lines warnings) (Said taken faults has_room)) amx script words old new answer
  runs_behind amx answer told (stopped stop none tells) =
      let first = said_as (ap warning_lines same) told in
      stopped stop none (record {
        told = tells.told;
        written = said_then first tells.written;
        is = tells.is;
      })
  runs_behind amx answer told (ran main served tells) =
      let first = said_as (ap warning_lines same) told in
      let t = trace_of amx script words.steps words.sleeps in
      ran main served (record {
        told = tells.told;
        written =
            used_behind words.count t.steps new (run_text t.config t.stop) tells.told first
            tells.written;
        is = tells.is;
      })

  -- none is run where the sink failed
  pub runs_cut : (amx : Amx) (fault : SinkFault)
      → Said taken faults has_room old new (warning_lines lent) (Err fault)
      → RunsFile (behind (warning_lines warnings) (Said taken faults has_room)) amx script words old new status.SinkFault
  runs_cut amx fault told =
      let first = said_as (ap warning_lines same) told in
      stopped NoMemory wants_memory (record {
        told = Err fault;
        written = said_cut (line_of NoMemory) (Err fault) refl first;
        is = refl;
      })
