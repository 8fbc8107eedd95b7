-- A machine at the sleep of an image goes on as the segment from its state does.
use Rattle.std.proofs.Common.{◌≡◌, ◌≢◌, ◌≤◌, ◌∙◌, ℕ, List, [], Option, Some, inl, inr}
use Rattle.std.proofs.Common.{length, refl, sym, ap, subst, arith}
use Rattle.pawn_outside.specs.Held.{Held, Tells}
use Rattle.host_script.specs.declared.event.End.{End}
use Rattle.host_script.specs.Ranges.{IsScript}
use Rattle.host_script.specs.declared.script.Script.{Script}
use Rattle.amx_ops.specs.declared.amx.Amx.{Amx}
use Rattle.amx_ops.specs.Keeps.{IsRunnable}
use Rattle.amx_ops.specs.State.{State}
use Rattle.amx_ops.specs.States.{IsState, IsRestorable}
use Rattle.amx_ops.specs.Moves.{Config, move}
use Rattle.amx_ops.specs.Runs.{Segmented, segment}
use Rattle.amx_step.specs.Machine.{cell_count}
use Rattle.amx_machine.specs.Machine.{Machine, first}
use Rattle.amx_machine.specs.declared.mode.Mode.TheVariants as mode
use Rattle.host_run.specs.Bound.{bound_of}
use Rattle.host_run.specs.Segments.{segment_of}
use Rattle.host_run.specs.Stands.{IsAwake}
use Rattle.amx_image.specs.declared.fault.ImageFault.{ImageFault}
use Rattle.amx_image.specs.Faults.{first_fault}
use Rattle.amx_image.specs.Restored.{IsImageFor, HasNoImage}
use Rattle.command_parts.specs.declared.status.Status.{Status}
use Rattle.command_parts.specs.declared.stop.Stop.{Stop}
use Rattle.command_parts.specs.declared.stop.Stop.TheVariants.{FileFault}
use Rattle.command_parts.specs.Unread.{Unread}
use Rattle.command_parts.specs.declared.program.Program.{Program}
use Rattle.command_parts.specs.Program.{IsProgram, NoProgram}
use Rattle.command_parts.specs.Told.{Writes, TellsStop}
use Rattle.commands.specs.declared.ready_segment.ReadySegment.{ReadySegment}
use Rattle.commands.specs.Finishes.{Finishes}
use Rattle.commands.specs.Prepared.{CanRun, HasAll, Unserved}
use Rattle.commands.specs.ReadySegment.{IsReadySegment, place_of}
use Rattle.commands.specs.declared.resumes.TheConstants.{IMAGE_LIMIT}
use Rattle.command_parts.specs.declared.command.ResumeWords.{ResumeWords}
use Rattle.commands.specs.Restored.{IsImageOf, IsRestored}
use Rattle.commands.specs.Resumes.{segment_from, ResumesState, ResumesImage, ResumesProgram}
use Rattle.commands.specs.Resumes.{Resumes, wants_memory}
use Rattle.commands.specs.declared.wake.WakeFault.TheVariants as wake
use Rattle.commands.specs.Used.{with_used}
use Rattle.commands.specs.Wakes.{NotWoken}
use Rattle.commands.proofs.PreparedLaws.{unserved_no_fault}

module _ (program : Program) (m : Machine) (position : ℕ) (ready : ReadySegment)
    (has : HasAll program m position ready) (restored : IsRestored program.file m) where
  file_is : ready.machine.amx ≡ program.file
  file_is = ap (λ (it : Machine). it.amx) has.machine ∙ restored.file

  state_is : ready.machine.state ≡ m.state
  state_is = ap (λ (it : Machine). it.state) has.machine

  pub is_ready : CanRun program.file → IsScript program.script → IsReadySegment ready
  is_ready can script =
      let size : length ready.machine.state.cells ≡ length m.state.cells =
      ap (λ (s : State). length s.cells) state_is in
      let room = has.room in
      record {
        awake =
            subst IsAwake (sym (ap (λ (it : Machine). it.mode) has.machine ∙ restored.sleeps)) tt;
        script = subst IsScript (sym has.script) script;
        bound =
            has.bound ∙ ap (λ (amx : Amx). bound_of program.script amx.natives) (sym file_is)
            ∙ ap (λ script. bound_of script ready.machine.amx.natives) (sym has.script);
        runnable = subst IsRunnable (sym file_is) can.runnable;
        state =
            subst (λ s. IsState ready.machine.amx s) (sym state_is)
            (subst (λ amx. IsState amx m.state) (sym file_is) restored.state.state);
        room = omega (arith, size, room);
      }

  pub segment_is : (bound : ℕ) → segment_of program.script (place_of ready) bound
      ≡ segment_from program m.state position bound
  segment_is bound =
      let from : State → ℕ → Config = λ s p. record { state = s; position = p; events = [] } in
      ap (λ amx. segment (move amx program.script) bound 0 (from ready.machine.state ready.at))
      file_is
      ∙ ap (λ s. segment (move program.file program.script) bound 0 (from s ready.at)) state_is
      ∙ ap (λ p. segment (move program.file program.script) bound 0 (from m.state p))
      has.position_is

-- what is ready for a machine of the file is ready for the program
module _ (program : Program) (m : Machine) (file : m.amx ≡ program.file) where
  abbrev with_file : Amx → Program
  with_file amx = record { file = amx; digest = program.digest; script = program.script }

  pub has_all : {position : ℕ} {ready : ReadySegment} → HasAll (with_file m.amx) m position ready
      → HasAll program m position ready
  has_all {position} {ready} has = subst (λ amx. HasAll (with_file amx) m position ready) file has

  pub unserved : {stop : Stop} → Unserved (with_file m.amx) stop → Unserved program stop
  unserved {stop} none = subst (λ amx. Unserved (with_file amx) stop) file none

-- what bytes are for a machine that was loaded they are for its file
pub image_of : (program : Program) {bytes : List ℕ} {m : Machine} {s : State} {position : ℕ}
    → m ≡ first program.file → IsImageFor m.amx program.digest bytes s position
    → IsImageOf program bytes s position
image_of program {bytes} {m} {s} {position} e it =
    let P : Amx → Type 0 = λ amx. IsImageFor amx program.digest bytes s position in
    subst P (ap (λ (x : Machine). x.amx) e) it

pub none_of : (program : Program) {bytes : List ℕ} {m : Machine} {f : ImageFault}
    → m ≡ first program.file → HasNoImage m.amx program.digest bytes
    → first_fault m.amx (cell_count m.amx) program.digest bytes ≡ Some f
    → NotWoken program bytes (wake.Image f)
none_of program {bytes} {m} {f} e none at =
    let P : Amx → Type 0 = λ amx. HasNoImage amx program.digest bytes in
    let Q : Amx → Type 0 =
    λ amx. first_fault amx (cell_count amx) program.digest bytes ≡ Some f in
    let is = ap (λ (x : Machine). x.amx) e in (subst P is none, subst Q is at)

pub asleep_no_fault : {program : Program} {bytes : List ℕ} {stop : Stop}
    → NotWoken program bytes (wake.Stop stop) → stop ≢ FileFault
asleep_no_fault (inl wants_memory) = λ f. absurd (cc f)
asleep_no_fault (inr it) = unserved_no_fault it.unserved

pub restored_is : (amx : Amx) (digest bytes : List ℕ) (m n : Machine) (position : ℕ) → m ≡ first amx
    → IsImageFor m.amx digest bytes n.state position
    → n ≡ record m { state = n.state; mode = mode.Asleep } → IsRestored amx n
restored_is amx digest bytes m n position e it is = record {
  file = ap (λ (x : Machine). x.amx) is ∙ ap (λ (x : Machine). x.amx) e;
  state = subst (λ a. IsRestorable a n.state) (ap (λ (x : Machine). x.amx) e) it.restorable;
  sleeps = ap (λ (x : Machine). x.mode) is;
}

module _ {S : Type 0} {writes : Writes S} {old new : S} where
  pub goes_on : (program : Program) (words : ResumeWords) (m : Machine) (position : ℕ)
      (ready : ReadySegment) (image : List ℕ) (held after : Option Held)
      (answer : Status) → IsRunnable program.file → HasAll program m position ready
      → IsRestored program.file m → image ≡ words.image
      → (let made = segment_of ready.script (place_of ready) words.steps in
      Finishes (with_used words.count made.steps writes.says) writes held after image ready.digest
      made.stop made.config old new answer)
      → ResumesState writes program words m.state position held after old new answer
  goes_on program words m position ready image held after answer runs has restored named it =
      let P : Segmented Config End → Type 0 =
      λ made. Finishes (with_used words.count made.steps writes.says) writes held after words.image
      program.digest made.stop made.config old new answer in
      let Q : List ℕ → Type 0 = λ i.
      (let made = segment_of program.script (place_of ready) words.steps in
      Finishes (with_used words.count made.steps writes.says) writes held after i program.digest
      made.stop made.config old new answer) in
      let R : Script → Type 0 = λ script.
      (let made = segment_of script (place_of ready) words.steps in
      Finishes (with_used words.count made.steps writes.says) writes held after image ready.digest
      made.stop made.config old new answer) in
      let D : List ℕ → Type 0 = λ digest.
      (let made = segment_of program.script (place_of ready) words.steps in
      Finishes (with_used words.count made.steps writes.says) writes held after image digest
      made.stop made.config old new answer) in
      inr (record {
        runnable = runs;
        served = has.served;
        finishes =
            subst P (segment_is program m position ready has restored words.steps)
            (subst Q named (subst D has.digest (subst R has.script it)));
      })

  -- it isn't woken, and the line of the stop is told
  pub stays_asleep : (program : Program) (words : ResumeWords) (bytes : List ℕ) (stop : Stop)
      (held : Option Held) (answer : Status) → NotWoken program bytes (wake.Stop stop)
      → TellsStop stop writes old new answer
      → ResumesImage writes program words bytes held held old new answer
  stays_asleep program words bytes stop held answer (inl wants) tells =
      inl (record { stop = stop; comes = wants; kept = refl; tells = tells })
  stays_asleep program words bytes stop held answer (inr it) tells =
      inr (inr (record {
        state = it.state;
        position = it.position;
        image = it.image;
        resumes =
            inl (record { stop = stop; comes = it.unserved; kept = refl; tells = tells });
      }))

  pub reads : (program : Program) (words : ResumeWords) (name bytes lent : List ℕ)
      (held mid after : Option Held) (begun : S) (answer : Status)
      → name ≡ words.image → Tells held name (Some bytes) × (length bytes ≤ IMAGE_LIMIT)
      → lent ≡ bytes → mid ≡ held → begun ≡ old
      → ResumesImage writes program words lent mid after begun new answer
      → ResumesProgram writes program words held after old new answer
  reads program words name bytes lent held mid after begun answer named tells e same from it =
      let P : List ℕ → Type 0 = λ n. Tells held n (Some bytes) in
      let Q : List ℕ → Type 0 =
      λ b. ResumesImage writes program words b mid after begun new answer in
      let R : Option Held → Type 0 =
      λ h. ResumesImage writes program words bytes h after begun new answer in
      let T : S → Type 0 = λ s. ResumesImage writes program words bytes held after s new answer in
      inr (record {
        bytes = bytes;
        tells = subst P named tells.0;
        within = tells.1;
        is = subst T from (subst R same (subst Q e it));
      })

  pub stops_reading : (program : Program) (words : ResumeWords) (name : List ℕ)
      (held after : Option Held) (stop : Stop) (answer : Status)
      → name ≡ words.image → Unread held name IMAGE_LIMIT stop → after ≡ held
      → TellsStop stop writes old new answer
      → ResumesProgram writes program words held after old new answer
  stops_reading program words name held after stop answer named unread kept tells =
      let P : List ℕ → Type 0 = λ n. Unread held n IMAGE_LIMIT stop in
      inl (record { stop = stop; comes = subst P named unread; kept = kept; tells = tells })

  pub stops_unread : (words : ResumeWords) (held after : Option Held) (amx script : List ℕ)
      (stop : Stop) (answer : Status) → amx ≡ words.amx
      → script ≡ words.script → NoProgram held amx script stop → after ≡ held
      → TellsStop stop writes old new answer
      → Resumes writes words held after old new answer
  stops_unread words held after amx script stop answer a b none kept tells =
      let P : List ℕ → Type 0 = λ n. NoProgram held n words.script stop in
      let Q : List ℕ → Type 0 = λ n. NoProgram held amx n stop in
      inl (record { stop = stop; comes = subst P a (subst Q b none); kept = kept; tells = tells })

  pub resumes_good : (words : ResumeWords) (held mid after : Option Held) (begun : S)
      (amx script : List ℕ) (program : Program) (answer : Status)
      → amx ≡ words.amx → script ≡ words.script → IsProgram held amx script program
      → mid ≡ held → begun ≡ old
      → ResumesProgram writes program words mid after begun new answer
      → Resumes writes words held after old new answer
  resumes_good words held mid after begun amx script program answer a b good same from resumes =
      let P : List ℕ → Type 0 = λ n. IsProgram held n words.script program in
      let Q : List ℕ → Type 0 = λ n. IsProgram held amx n program in
      let R : Option Held → Type 0 =
      λ h. ResumesProgram writes program words h after begun new answer in
      let T : S → Type 0 = λ s. ResumesProgram writes program words held after s new answer in
      inr (record {
        program = program;
        good = subst P a (subst Q b good);
        resumes = subst T from (subst R same resumes);
      })
