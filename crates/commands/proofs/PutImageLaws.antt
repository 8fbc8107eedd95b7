-- An image that a command put is taken by the next `resume`.
use Rattle.std.proofs.Common.{◌≡◌, ◌∙◌, ◌+◌, ◌*◌, ◌/◌, ◌≤◌, inl, inr, ℕ, ℤ, List, []}
use Rattle.std.proofs.Common.{Option, None, Some, Ok, Err, length, take, drop, replicate}
use Rattle.std.proofs.Common.{option_and_then, refl, pos, sym, ap, subst, arith, length-append}
use Rattle.std.proofs.Common.{length-drop}
use Rattle.std.proofs.lemmas.List.{length-take, length-replicate}
use Rattle.std.proofs.lemmas.List.Elements.{All-nil}
use Rattle.std.specs.FinMap.{get, insert}
use Rattle.pawn_cells.specs.Cells.{IsCell}
use Rattle.pawn_outside.specs.Held.{Held}
use Rattle.host_script.specs.Ranges.{IsScript}
use Rattle.host_script.specs.declared.script.Script.{Script}
use Rattle.host_script.specs.declared.event.End.{End}
use Rattle.amx_ops.specs.declared.amx.Amx.{Amx}
use Rattle.amx_ops.specs.Keeps.{IsRunnable}
use Rattle.amx_ops.specs.Moves.{Config}
use Rattle.amx_ops.specs.Runs.{Stop, Traced}
use Rattle.amx_ops.specs.State.{State}
use Rattle.amx_ops.specs.States.{IsState, IsRestorable}
use Rattle.amx_ops.specs.Trace.{address_of, loaded, start_at, begun, trace_by}
use Rattle.amx_ops.specs.Writable.{memory_limit}
use Rattle.amx_ops.proofs.KeepsLaws.{keeps_states}
use Rattle.amx_step.specs.Machine.{cell_count}
use Rattle.amx_format.specs.Limits.{IsWithinLimits}
use Rattle.amx_image.specs.declared.version.Version.TheVariants.{Live}
use Rattle.amx_image.specs.Image.{IsImage, stored}
use Rattle.script_reader.proofs.RangeLaws.{read_is_script}
use Rattle.run_laws.specs.RestorableSleeps.{segment_of, FallsAsleep}
use Rattle.run_laws.proofs.SizeLaws.{segment_sized}
use Rattle.run_laws.proofs.SleepLaws.{sleeps_are_restorable_lem}
use Rattle.command_parts.specs.declared.program.Program.{Program}
use Rattle.command_parts.specs.declared.status.Status.TheVariants as status
use Rattle.command_parts.specs.Program.{IsProgram}
use Rattle.command_parts.specs.ScriptFile.{IsScriptOf}
use Rattle.command_parts.specs.Told.{Told, Writes, status_told}
use Rattle.host_run.specs.Entry.{address_named, entry_named}
use Rattle.commands.specs.GoodImage.{HoldsImage}
use Rattle.commands.specs.Names.{Names, run_words, resume_words}
use Rattle.commands.specs.Prepared.{IsServed}
use Rattle.commands.specs.PutIsResumed.{GoesOnBehind, PutIsResumed}
use Rattle.commands.specs.Resumes.{GoesOn, Resumes, ResumesProgram, ResumesImage, ResumesState}
use Rattle.commands.specs.Restored.{IsImageOf}
use Rattle.commands.specs.Runs.{Runs, RunsEntry, RunsProgram, program_trace}
use Rattle.commands.proofs.DoneLaws.{good_is_resumed}
use Rattle.commands.proofs.FallLaws.{Fell, fell, stop_not_asleep}
use Rattle.commands.proofs.GoodLaws.{same, same_bytes}
use Rattle.commands.proofs.HeldLaws.{put_there, put_elsewhere}
use Rattle.commands.proofs.ImageLaws.{good_images}
use Rattle.commands.proofs.RunLaws.{within}
use Rattle.commands.proofs.SegmentReadyLaws.{started_sized}

-- ---- numbers

-- the live cells aren't more than all
live_few : (s : State) → s.hea ≤ s.stk → s.stk ≤ 4 * length s.cells
    → length (stored Live s) ≤ length s.cells
live_few s low high =
    omega (
      arith,
      length-append (take (s.hea / 4) s.cells) (drop (s.stk / 4) s.cells),
      length-take (s.hea / 4) s.cells,
      length-drop (s.stk / 4) s.cells,
    )

pub script_is : (bytes : List ℕ) (script : Script) → IsScriptOf bytes script → IsScript script
script_is bytes script it = read_is_script it.0 (Ok script) it.1.1

some_of : {A B : Type 0} (f : A → Option B) (o : Option A) (b : B) → option_and_then f o ≡ Some b
    → (a : A) × (o ≡ Some a) × (f a ≡ Some b)
some_of f None b e = absurd (cc e)
some_of f (Some a) b e = (a, refl, e)

-- ---- a state at a start

module _ (amx : Amx) (runs : IsRunnable amx) (limits : IsWithinLimits amx) (name : List ℕ)
    (address : ℤ) (there : address_named amx name ≡ Some address) (s : State)
    (started : start_at amx address [] (loaded amx amx.room) ≡ Some s) where
  pub started_state : IsState amx s
  started_state =
      let it = some_of (address_of amx) (entry_named amx name) address there in
      let fits : 4 * (length amx.store + amx.room) ≤ memory_limit = omega (arith, limits.memory) in
      keeps_states.starts amx it.0 [] (loaded amx amx.room) s runs (All-nil IsCell)
      (keeps_states.loads amx amx.room runs fits)
      (ap (option_and_then (λ a. start_at amx a [] (loaded amx amx.room))) it.2 ∙ started)

  pub started_count : length s.cells ≡ cell_count amx
  started_count =
      started_sized amx address (loaded amx amx.room) s started
      ∙ omega (
        arith,
        length-append amx.store (replicate amx.room (pos 0)),
        length-replicate amx.room (pos 0),
      )

-- ---- a segment that fell asleep, and whose image was put

module _ (held after : Held) (names : Names) (program : Program)
    (is : IsProgram (Some held) names.amx names.script program) where
  abbrev pub file : Amx
  file = program.file

  pub keeps : IsScript program.script
  keeps = script_is is.natives.bytes program.script is.natives.is

  module _ (bytes : List ℕ) (put : after ≡ insert held names.image bytes) where
    elsewhere : (other : List ℕ) → (names.image ≡ other → ⊥) → get after other ≡ get held other
    elsewhere other ne =
        ap (λ m. get m other) put ∙ put_elsewhere held names.image bytes other ne

    -- file and script are as they were
    pub program_after : IsProgram (Some after) names.amx names.script program
    program_after = record {
      file = record {
        bytes = is.file.bytes;
        tells = elsewhere names.amx names.not_amx ∙ is.file.tells;
        within = is.file.within;
        is = is.file.is;
      };
      natives = record {
        bytes = is.natives.bytes;
        tells = elsewhere names.script names.not_script ∙ is.natives.tells;
        within = is.natives.within;
        is = is.natives.is;
      };
    }

    -- and the image is held
    pub image_after : (bound : ℕ) (c : Config) → IsRunnable file → IsState file c.state
        → length c.state.cells ≡ cell_count file
        → (let d = (segment_of file program.script bound c).config in
        IsImage Live d.state d.position program.digest bytes → IsRestorable file d.state
        → HoldsImage after names.image program d.state d.position)
    image_after bound c runs state count image restorable =
        let d = (segment_of file program.script bound c).config in
        let few = live_few d.state restorable.state.order.1 restorable.state.order.2 in
        record {
          bytes = bytes;
          tells = ap (λ m. get m names.image) put ∙ put_there held names.image bytes;
          within = omega (arith, image.length_is, few, restorable.state.size);
          is = record {
            version = Live;
            image = image;
            restorable = restorable;
            count = segment_sized file program.script runs keeps bound 0 c state ∙ count;
          };
        }

-- ---- what a command answered that fell asleep

some_is : {A : Type 0} (a b : A) → Some a ≡ Some b → a ≡ b
some_is a b e = cc e

module _ {S : Type 0} (writes : Writes S) (held : Held) (after : Option Held) (names : Names)
    (program : Program) (is : IsProgram (Some held) names.amx names.script program) where
  entry_by : (words_entry : List ℕ) (steps : ℕ) (old new : S)
      → RunsProgram writes program (run_words names steps words_entry) (Some held) after old new
      status.Asleep
      → RunsEntry writes program (run_words names steps words_entry) (Some held) after old new
      status.Asleep
  entry_by entry steps old new (inl it) = absurd (stop_not_asleep it.stop it.tells)
  entry_by entry steps old new (inr it) = it

  -- `run` ran the program
  pub ran : (entry : List ℕ) (steps : ℕ) (old new : S)
      → Runs writes (run_words names steps entry) (Some held) after old new status.Asleep
      → RunsEntry writes program (run_words names steps entry) (Some held) after old new
      status.Asleep
  ran entry steps old new (inl it) = absurd (stop_not_asleep it.stop it.tells)
  ran entry steps old new (inr it) =
      let P : Program → Type 0 =
      λ p. RunsProgram writes p (run_words names steps entry) (Some held) after old new
      status.Asleep in
      entry_by entry steps old new
      (subst P (same held names.amx names.script program it.program is it.good) it.runs)

-- ---- the next `resume`

module _ {S : Type 0} (writes : Writes S) (held after : Held) (names : Names) (program : Program)
    (is : IsProgram (Some held) names.amx names.script program) (runs : IsRunnable program.file)
    (served : IsServed program) (bound : ℕ) (c : Config) (state : IsState program.file c.state)
    (count : length c.state.cells ≡ cell_count program.file) where
  abbrev pub made : Config
  made = (segment_of program.file program.script bound c).config

  abbrev pub stop : Stop End
  stop = (segment_of program.file program.script bound c).stop

  module _ (it : Fell (Some held) (Some after) names.image program.digest stop made) where
    abbrev put : after ≡ insert held names.image it.bytes
    put = some_is after (insert held names.image it.bytes) it.put

    pub fell_program : IsProgram (Some after) names.amx names.script program
    fell_program = program_after held after names program is it.bytes put

    falls : FallsAsleep program.file program.script bound c
    falls = record {
      runnable = runs;
      script_is = keeps held after names program is;
      state = state;
      asleep = it.is_asleep;
    }

    pub fell_image : IsRestorable program.file made.state
        → HoldsImage after names.image program made.state made.position
    fell_image restorable =
        image_after held after names program is it.bytes put bound c runs state count it.saved
        restorable

    pub goes_on_behind : GoesOnBehind writes program names made after
    goes_on_behind next end old new answer inside resumes =
        let restorable =
        sleeps_are_restorable_lem.restorable program.file program.script bound c falls inside in
        (good_is_resumed writes).done after end (resume_words names next) program made.state
        made.position old new answer fell_program (fell_image restorable) served resumes

-- ---- behind `run`

module _ {S : Type 0} (writes : Writes S) (held after : Held) (names : Names) (program : Program)
    (is : IsProgram (Some held) names.amx names.script program) (entry : List ℕ) (steps : ℕ)
    (address : ℤ) (there : address_named program.file entry ≡ Some address) (old new : S)
    (it : RunsEntry writes program (run_words names steps entry) (Some held) (Some after) old new
    status.Asleep) where
  abbrev traced_by : Option State → Traced Config End
  traced_by o =
      trace_by program.file program.script (loaded program.file program.file.room) o steps []

  behind_by : (o : Option State)
      → start_at program.file address [] (loaded program.file program.file.room) ≡ o
      → Fell (Some held) (Some after) names.image program.digest (traced_by o).stop
      (traced_by o).config
      → GoesOnBehind writes program names (traced_by o).config after
  behind_by None none f = absurd (cc (f.is_asleep))
  behind_by (Some s) started f =
      let limits = within (Some held) names.amx names.script program is in
      goes_on_behind writes held after names program is it.runnable it.served steps (begun s)
      (started_state program.file it.runnable limits entry address there s started)
      (started_count program.file it.runnable limits entry address there s started) f

  pub behind_run : GoesOnBehind writes program names (program_trace program address steps).config
      after
  behind_run =
      let same_address : it.address ≡ address = cc (it.entry, there) in
      let P : ℤ → Type 0 = λ a.
      (let trace = program_trace program a steps in Fell (Some held) (Some after) names.image
      program.digest trace.stop trace.config) in
      behind_by (start_at program.file address [] (loaded program.file program.file.room)) refl
      (subst P same_address (fell it.finishes))

-- ---- behind `resume`

image_awake : (told : Told) → status_told status.BadImage told ≡ status.Asleep → ⊥
image_awake (Ok done) e = absurd (cc e)
image_awake (Err fault) e = absurd (cc e)

module _ {S : Type 0} (writes : Writes S) (held : Held) (after : Option Held) (names : Names)
    (program : Program) (is : IsProgram (Some held) names.amx names.script program) (s : State)
    (position steps : ℕ) (image : HoldsImage held names.image program s position)
    (old new : S) where
  abbrev Goes : State → ℕ → Type 0
  Goes t q =
      GoesOn writes program (resume_words names steps) t q (Some held) after old new status.Asleep

  state_by : (t : State) (q : ℕ)
      → ResumesState writes program (resume_words names steps) t q (Some held) after old new
      status.Asleep
      → Goes t q
  state_by t q (inl it) = absurd (stop_not_asleep it.stop it.tells)
  state_by t q (inr it) = it

  image_by : (bytes : List ℕ) → IsImageOf program bytes s position
      → ((t : State) (q : ℕ) → IsImageOf program bytes t q → (t ≡ s) × (q ≡ position))
      → ResumesImage writes program (resume_words names steps) bytes (Some held) after old new
      status.Asleep
      → Goes s position
  image_by bytes is_image one (inl it) = absurd (stop_not_asleep it.stop it.tells)
  image_by bytes is_image one (inr (inl it)) = absurd (image_awake it.tells.told (sym it.tells.is))
  image_by bytes is_image one (inr (inr it)) =
      let same = one it.state it.position it.image in
      subst (Goes s) same.1
      (subst (λ t. Goes t it.position) same.0 (state_by it.state it.position it.resumes))

  program_by : ResumesProgram writes program (resume_words names steps) (Some held) after old new
      status.Asleep
      → Goes s position
  program_by (inl it) = absurd (stop_not_asleep it.stop it.tells)
  program_by (inr it) =
      let P : List ℕ → Type 0 =
      λ b. ResumesImage writes program (resume_words names steps) b (Some held) after old new
      status.Asleep in
      let one : (t : State) (q : ℕ) → IsImageOf program image.bytes t q → (t ≡ s) × (q ≡ position) =
      λ t q that. good_images.same held names.image program s t position q image
      (record { bytes = image.bytes; tells = image.tells; within = image.within; is = that }) in
      image_by image.bytes image.is one (subst P (same_bytes held names.image image it) it.is)

  -- `resume` went on from the image
  pub went_on : Resumes writes (resume_words names steps) (Some held) after old new status.Asleep
      → Goes s position
  went_on (inl it) = absurd (stop_not_asleep it.stop it.tells)
  went_on (inr it) =
      let P : Program → Type 0 =
      λ p. ResumesProgram writes p (resume_words names steps) (Some held) after old new
      status.Asleep in
      program_by (subst P (same held names.amx names.script program it.program is it.good)
      it.resumes)

pub put_is_resumed : {S : Type 0} (writes : Writes S) → PutIsResumed writes
put_is_resumed writes = record {
  behind_run = λ held after names program entry steps address old new is there it.
      behind_run writes held after names program is entry steps address there old new
      (ran writes held (Some after) names program is entry steps old new it);
  behind_resume = λ held after names program s position steps old new is image it.
      let goes = went_on writes held (Some after) names program is s position steps image old new it
      in
      goes_on_behind writes held after names program is goes.runnable goes.served steps
      (record { state = s; position = position; events = [] }) image.is.restorable.state
      image.is.count (fell goes.finishes);
}
