-- A call of `run` and the resumes behind it write one trace.
use Rattle.std.proofs.Common.{◌≡◌, ◌∙◌, ◌⊎◌, ◌++◌, ℕ, ℤ, List, [], ◌∷◌, Option, None, Some, inl, inr}
use Rattle.std.proofs.Common.{length, refl, sym, ap, subst, append-nil, append_assoc}
use Rattle.pawn_outside.specs.Held.{Held}
use Rattle.host_script.specs.Ranges.{IsScript}
use Rattle.host_script.specs.declared.event.End.{End}
use Rattle.amx_ops.specs.declared.amx.Amx.{Amx}
use Rattle.amx_ops.specs.Keeps.{IsRunnable}
use Rattle.amx_ops.specs.Moves.{Config}
use Rattle.amx_ops.specs.Runs.{Stop, Steps, Asleep, Over_by, Traced}
use Rattle.amx_ops.specs.State.{State}
use Rattle.amx_ops.specs.States.{IsState, IsRestorable}
use Rattle.amx_ops.specs.Trace.{loaded, start_at, trace_by}
use Rattle.amx_step.specs.Machine.{cell_count}
use Rattle.amx_image.specs.declared.version.Version.TheVariants.{Live}
use Rattle.amx_image.specs.Resumed.{begun, IsHandedOn, Written, written, behind}
use Rattle.amx_image.specs.Resumed.{Writes as WritesSegments}
use Rattle.amx_image.proofs.ResumeLaws.{kept}
use Rattle.gen_agrees.specs.Shape.{HasShape}
use Rattle.pawn_meaning.specs.Program.{Program as Source}
use Rattle.run_laws.specs.RestorableSleeps.{segment_of}
use Rattle.run_laws.proofs.SleepLaws.{sleeps_are_restorable_lem}
use Rattle.command_parts.specs.declared.program.Program.{Program}
use Rattle.command_parts.specs.declared.status.Status.TheVariants as status
use Rattle.command_parts.specs.Program.{IsProgram}
use Rattle.command_parts.specs.Told.{Writes}
use Rattle.host_run.specs.Entry.{address_named}
use Rattle.commands.specs.Finishes.{Finishes, run_text, stop_line, status_of_stop}
use Rattle.commands.specs.GoodImage.{HoldsImage}
use Rattle.commands.specs.Names.{Names, run_words, resume_words}
use Rattle.commands.specs.Prepared.{IsServed}
use Rattle.commands.specs.Good.{IsFree}
use Rattle.commands.specs.Resumes.{GoesOn, Resumes}
use Rattle.commands.specs.Runs.{IsStopped, RunsEntry, program_trace}
use Rattle.commands.specs.Unfailing.{IsUnfailing}
use Rattle.commands.proofs.DoneLaws.{good_is_resumed}
use Rattle.commands.proofs.FallLaws.{Fell, fell, not_free, wrote_all}
use Rattle.commands.proofs.PutImageLaws.{fell_program, fell_image, started_state}
use Rattle.commands.proofs.PutImageLaws.{started_count}
use Rattle.commands.proofs.RunLaws.{within}
use Rattle.pawn_laws.specs.Calls.{Call, AreResumes, WroteTogether, last_answer}
use Rattle.pawn_laws.specs.OneRun.{bounds_of, trace_over}

-- what is written, with the line of its end
abbrev text_of : Written → List ℕ
text_of all = all.lines ++ stop_line all.stop

-- ---- one file, whose last instruction is no sleep

module _ {S : Type 0} (writes : Writes S) (names : Names) (program : Program) (source : Source)
    (shape : HasShape source program.file) (runs : IsRunnable program.file)
    (script : IsScript program.script) (served : IsServed program) where
  abbrev file : Amx
  file = program.file

  abbrev made : ℕ → Config → Config
  made bound c = (segment_of file program.script bound c).config

  abbrev stop_at : ℕ → Config → Stop End
  stop_at bound c = (segment_of file program.script bound c).stop

  -- a call ended as its segment does
  abbrev EndsSo : Held → Call S → Config → Type 0
  EndsSo held call c =
      Finishes writes.says writes (Some held) (Some call.after) names.image program.digest
      (stop_at call.steps c) (made call.steps c) call.old call.new call.answer

  -- a segment and what is written from images behind it
  record IsWritten (c : Config) (call : Call S) (calls : List (Call S)) : Type 0 where
    all : Written
    segments : WritesSegments file program.script program.digest c call.steps (bounds_of calls) all
    together : WroteTogether writes (call ∷ calls) (text_of all)
    answer : last_answer call calls ≡ status_of_stop all.stop

  alone : (held : Held) (c : Config) (call : Call S) → IsUnfailing call.answer
      → EndsSo held call c → IsWritten c call []
  alone held c call none ends =
      let it = wrote_all ends none in
      record {
        all = written (made call.steps c) (stop_at call.steps c);
        segments = refl;
        together = (
          run_text (made call.steps c) (stop_at call.steps c),
          [],
          it.text,
          refl,
          sym (append-nil (run_text (made call.steps c) (stop_at call.steps c))),
        );
        answer = it.answer_is;
      }

  -- the text of a call that fell asleep, and of those behind it
  text_behind : (c : Config) (stop : Stop End) (rest : Written) → stop ≡ Asleep
      → text_of (behind c rest) ≡ run_text c stop ++ text_of rest
  text_behind c stop rest is =
      let lines = (written c stop).lines in
      append_assoc lines rest.lines (stop_line rest.stop)
      ∙ ap (λ l. l ++ text_of rest) (sym (append-nil lines) ∙ ap (λ s. lines ++ stop_line s) (sym is))

  -- the segments of the images, by why the first one stopped
  abbrev WritesBy : ℕ → List ℕ → Written → Config → Stop End → Stop End → Type 0
  WritesBy next bounds all d was stop = elim stop [
    | Steps ↦ all ≡ written d was
    | Asleep ↦
        (s : State) × (position : ℕ) × (rest : Written)
        × IsHandedOn file program.digest d s position
        × WritesSegments file program.script program.digest (begun s position) next bounds rest
        × (all ≡ behind d rest)
    | Over_by e ↦ all ≡ written d was
  ]

  module _ (held : Held) (is : IsProgram (Some held) names.amx names.script program) (c : Config)
      (state : IsState file c.state) (count : length c.state.cells ≡ cell_count file)
      (call : Call S) (none : IsUnfailing call.answer) (ends : EndsSo held call c)
      (asleep : call.answer ≡ status.Asleep) where
    abbrev d : Config
    d = made call.steps c

    it : Fell (Some held) (Some call.after) names.image program.digest (stop_at call.steps c) d
    it =
        fell (subst (λ a. Finishes writes.says writes (Some held) (Some call.after) names.image
        program.digest (stop_at call.steps c) d call.old call.new a) asleep ends)

    restorable : IsRestorable file d.state
    restorable =
        sleeps_are_restorable_lem.of_program source file program.script call.steps c shape
        (record { runnable = runs; script_is = script; state = state; asleep = it.is_asleep })

    program_next : IsProgram (Some call.after) names.amx names.script program
    program_next =
        fell_program writes held call.after names program is runs served call.steps c state count it

    image_next : HoldsImage call.after names.image program d.state d.position
    image_next =
        fell_image writes held call.after names program is runs served call.steps c state count it
        restorable

    handed : IsHandedOn file program.digest d d.state d.position
    handed = record {
      bytes = it.bytes;
      saved_as = Live;
      read_as = Live;
      saved_in = it.saved;
      read = it.saved;
      restorable = restorable;
    }

    joins : (next : Call S) (calls : List (Call S))
        → IsWritten (begun d.state d.position) next calls → IsWritten c call (next ∷ calls)
    joins next calls rest =
        let wrote = wrote_all ends none in
        record {
          all = behind d rest.all;
          segments =
              subst (WritesBy next.steps (bounds_of calls) (behind d rest.all) d
              (stop_at call.steps c)) (sym it.is_asleep)
              (d.state, d.position, rest.all, handed, rest.segments, refl);
          together = (
            run_text d (stop_at call.steps c),
            text_of rest.all,
            wrote.text,
            rest.together,
            text_behind d (stop_at call.steps c) rest.all it.is_asleep,
          );
          answer = rest.answer;
        }

    -- the next `resume` goes on from there
    next_ends : (next : Call S) → IsUnfailing next.answer
        → Resumes writes (resume_words names next.steps) (Some call.after) (Some next.after)
        next.old next.new next.answer
        → EndsSo call.after next (begun d.state d.position)
    next_ends next unfailing resumes =
        by ((good_is_resumed writes).done call.after (Some next.after)
        (resume_words names next.steps) program d.state d.position next.old next.new next.answer
        program_next image_next served resumes)
      where
        by : IsStopped writes IsFree (Some call.after) (Some next.after) next.old next.new
            next.answer
            ⊎ GoesOn writes program (resume_words names next.steps) d.state d.position
            (Some call.after) (Some next.after) next.old next.new next.answer
            → EndsSo call.after next (begun d.state d.position)
        by (inl stopped) = absurd (not_free stopped unfailing)
        by (inr goes) = goes.finishes

  -- a call from a configuration on, and the resumes behind it
  chain : (held : Held) → IsProgram (Some held) names.amx names.script program
      → (c : Config) → IsState file c.state → length c.state.cells ≡ cell_count file
      → (call : Call S) → IsUnfailing call.answer → EndsSo held call c
      → (calls : List (Call S)) → AreResumes writes names call.after call.answer calls
      → IsWritten c call calls
  chain held is c state count call none ends [] r = alone held c call none ends
  chain held is c state count call none ends (next ∷ calls) (asleep, resumes, unfailing, others) =
      let s = (made call.steps c).state in
      let position = (made call.steps c).position in
      let image = image_next held is c state count call none ends asleep in
      joins held is c state count call none ends asleep next calls
      (chain call.after (program_next held is c state count call none ends asleep)
      (begun s position) image.is.restorable.state image.is.count next unfailing
      (next_ends held is c state count call none ends asleep next unfailing resumes) calls others)

  -- ---- from an entry on

  module _ (held : Held) (is : IsProgram (Some held) names.amx names.script program)
      (entry : List ℕ) (address : ℤ) (there : address_named file entry ≡ Some address)
      (run : Call S) (resumes : List (Call S)) (none : IsUnfailing run.answer)
      (behind_it : AreResumes writes names run.after run.answer resumes) where
    abbrev traced_by : List ℕ → Option State → Traced Config End
    traced_by bounds o =
        trace_by file program.script (loaded file file.room) o run.steps bounds

    -- the text and the status of a trace
    pub record IsTold (t : Traced Config End) : Type 0 where
      pub together : WroteTogether writes (run ∷ resumes) (run_text t.config t.stop)
      pub answer : last_answer run resumes ≡ status_of_stop t.stop

    abbrev EndsAs : Traced Config End → Type 0
    EndsAs t =
        Finishes writes.says writes (Some held) (Some run.after) names.image program.digest t.stop
        t.config run.old run.new run.answer

    told_none : EndsAs (traced_by [] None) → (calls : List (Call S)) → calls ≡ resumes
        → AreResumes writes names run.after run.answer calls
        → IsTold (traced_by (bounds_of resumes) None)
    told_none ends [] same r =
        let it = wrote_all ends none in
        let t = traced_by [] None in
        let P : List (Call S) → Type 0 =
        λ calls. WroteTogether writes (run ∷ calls) (run_text t.config t.stop) in
        let Q : List (Call S) → Type 0 =
        λ calls. last_answer run calls ≡ status_of_stop t.stop in
        record {
          together =
              subst P same (
                run_text t.config t.stop,
                [],
                it.text,
                refl,
                sym (append-nil (run_text t.config t.stop)),
              );
          answer = subst Q same it.answer_is;
        }
    told_none ends (next ∷ calls) same (asleep, resumed, unfailing, others) =
        let t = traced_by [] None in
        let f =
        fell (subst (λ a. Finishes writes.says writes (Some held) (Some run.after) names.image
        program.digest t.stop t.config run.old run.new a) asleep ends) in
        absurd (cc (f.is_asleep))

    told_some : (s : State) → start_at file address [] (loaded file file.room) ≡ Some s
        → EndsAs (traced_by [] (Some s)) → IsTold (traced_by (bounds_of resumes) (Some s))
    told_some s started ends =
        let limits = within (Some held) names.amx names.script program is in
        let state = started_state file runs limits entry address there s started in
        let count = started_count file runs limits entry address there s started in
        let w = chain held is (begun s 0) state count run none ends resumes behind_it in
        let t = traced_by (bounds_of resumes) (Some s) in
        let same : w.all ≡ written t.config t.stop =
        kept.traces file program.script run.steps (bounds_of resumes) program.digest (begun s 0)
        w.all runs script state w.segments in
        let P : Written → Type 0 = λ all. WroteTogether writes (run ∷ resumes) (text_of all) in
        record {
          together = subst P same w.together;
          answer = w.answer ∙ ap (λ (all : Written). status_of_stop all.stop) same;
        }

    told_by : (o : Option State) → start_at file address [] (loaded file file.room) ≡ o
        → EndsAs (traced_by [] o) → IsTold (traced_by (bounds_of resumes) o)
    told_by None started ends = told_none ends resumes refl behind_it
    told_by (Some s) started ends = told_some s started ends

    pub told : RunsEntry writes program (run_words names run.steps entry) (Some held)
        (Some run.after) run.old run.new run.answer
        → IsTold (trace_over file program.script address run resumes)
    told it =
        let same : it.address ≡ address = cc (it.entry, there) in
        let P : ℤ → Type 0 = λ a. EndsAs (program_trace program a run.steps) in
        told_by (start_at file address [] (loaded file file.room)) refl (subst P same it.finishes)
