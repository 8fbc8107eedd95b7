-- A command with good words is done, but for a fault of the files or want of memory.
use Rattle.std.proofs.Common.{◌≡◌, ◌⊎◌, ℕ, ℤ, List, Option, Some, inl, inr, subst}
use Rattle.pawn_outside.specs.Held.{Held}
use Rattle.amx_ops.specs.State.{State}
use Rattle.command_parts.specs.declared.status.Status.{Status}
use Rattle.command_parts.specs.declared.stop.Stop.{Stop}
use Rattle.command_parts.specs.declared.program.Program.{Program}
use Rattle.command_parts.specs.Program.{IsProgram}
use Rattle.command_parts.specs.Told.{Writes}
use Rattle.command_parts.specs.declared.command.RunWords.{RunWords}
use Rattle.host_run.specs.Entry.{address_named}
use Rattle.commands.specs.Prepared.{IsServed, Unserved}
use Rattle.commands.specs.Served.{unregistered}
use Rattle.commands.specs.Served as natives
use Rattle.commands.specs.Runs.{IsStopped, RunsEntry, RunsProgram, Runs}
use Rattle.command_parts.specs.declared.command.ResumeWords.{ResumeWords}
use Rattle.commands.specs.Resumes.{GoesOn, ResumesState, ResumesImage, ResumesProgram}
use Rattle.commands.specs.Resumes.{Resumes, WantsMemory, wants_memory}
use Rattle.commands.specs.Restored.{IsImageOf}
use Rattle.commands.specs.Good as good
use Rattle.commands.specs.Good.{IsFree}
use Rattle.commands.specs.GoodImage.{HoldsImage}
use Rattle.commands.specs.Done.{GoodIsRun, GoodIsResumed}
use Rattle.commands.proofs.GoodLaws.{files, same, starts, read_free, same_bytes}
use Rattle.commands.proofs.ImageLaws.{good_images}

module _ {S : Type 0} {writes : Writes S} {held after : Option Held} {old new : S}
    {answer : Status} where
  -- a stop by causes that are all free
  pub freely : {cause : Stop → Type 0} → ((stop : Stop) → cause stop → IsFree stop)
      → IsStopped writes cause held after old new answer
      → IsStopped writes IsFree held after old new answer
  freely f it =
      record { stop = it.stop; comes = f it.stop it.comes; kept = it.kept; tells = it.tells }

-- ---- run

module _ {S : Type 0} (writes : Writes S) (map : Held) (after : Option Held) (words : RunWords)
    (program : Program) (old new : S) (answer : Status) where
  abbrev IsRun : Type 0
  IsRun =
      IsStopped writes IsFree (Some map) after old new answer
      ⊎ RunsEntry writes program words (Some map) after old new answer

  program_run : (address : ℤ) → address_named program.file words.entry ≡ Some address
      → IsServed program
      → RunsProgram writes program words (Some map) after old new answer → IsRun
  program_run address there served (inl stopped) =
      inl (freely (λ stop none. starts program words.entry address stop there served none)
      stopped)
  program_run address there served (inr runs) = inr runs

  run : (address : ℤ) → IsProgram (Some map) words.amx words.script program
      → address_named program.file words.entry ≡ Some address
      → IsServed program → Runs writes words (Some map) after old new answer → IsRun
  run address is there served (inl stopped) =
      inl (freely (λ stop none. files map words.amx words.script program stop is none)
      stopped)
  run address is there served (inr it) =
      let P : Program → Type 0 = λ p. RunsProgram writes p words (Some map) after old new answer in
      program_run address there served
      (subst P (same map words.amx words.script program it.program is it.good) it.runs)

pub good_is_run : {S : Type 0} (writes : Writes S) → GoodIsRun writes
good_is_run writes = record {
  done =
      λ map after words program address old new answer is there served it. run writes map after
      words program old new answer address is there served it;
}

-- ---- resume

unserved_free : (program : Program) (stop : Stop) → IsServed program → Unserved program stop
    → IsFree stop
unserved_free program stop served (unregistered number first) = absurd (cc (served, first))
unserved_free program stop served natives.no_memory = good.no_memory

wants_free : (stop : Stop) → WantsMemory stop → IsFree stop
wants_free stop wants_memory = good.no_memory

module _ {S : Type 0} (writes : Writes S) (map : Held) (after : Option Held) (words : ResumeWords)
    (program : Program) (s : State) (position : ℕ)
    (old new : S) (answer : Status) where
  abbrev IsResumed : Type 0
  IsResumed =
      IsStopped writes IsFree (Some map) after old new answer
      ⊎ GoesOn writes program words s position (Some map) after old new answer

  from_state : IsServed program → ResumesState writes program words s position
      (Some map) after old new answer → IsResumed
  from_state served (inl stopped) =
      inl (freely (λ stop none. unserved_free program stop served none) stopped)
  from_state served (inr goes) = inr goes

  from_image : (bytes : List ℕ) → IsImageOf program bytes s position
      → ((t : State) (q : ℕ) → IsImageOf program bytes t q → (t ≡ s) × (q ≡ position))
      → IsServed program
      → ResumesImage writes program words bytes (Some map) after old new answer → IsResumed
  from_image bytes is one served (inl stopped) = inl (freely wants_free stopped)
  from_image bytes is one served (inr (inl refused)) =
      absurd (good_images.taken program bytes s position is refused.none)
  from_image bytes is one served (inr (inr there)) =
      let same = one there.state there.position there.image in
      let P : State → Type 0 =
      λ t. ResumesState writes program words t there.position
      (Some map) after old new answer in
      let Q : ℕ → Type 0 =
      λ q. ResumesState writes program words s q (Some map) after old new answer in
      from_state served (subst Q same.1 (subst P same.0 there.resumes))

  from_program : HoldsImage map words.image program s position → IsServed program
      → ResumesProgram writes program words (Some map) after old new answer → IsResumed
  from_program image served (inl stopped) =
      inl (freely (λ stop none. read_free map words.image _ stop image none) stopped)
  from_program image served (inr it) =
      let P : List ℕ → Type 0 =
      λ b. ResumesImage writes program words b (Some map) after old new answer in
      let one : (t : State) (q : ℕ) → IsImageOf program image.bytes t q → (t ≡ s) × (q ≡ position) =
      λ t q that. good_images.same map words.image program s t position q image
      (record { bytes = image.bytes; tells = image.tells; within = image.within; is = that }) in
      from_image image.bytes image.is one served
      (subst P (same_bytes map words.image image it) it.is)

  resume : IsProgram (Some map) words.amx words.script program
      → HoldsImage map words.image program s position → IsServed program
      → Resumes writes words (Some map) after old new answer → IsResumed
  resume is image served (inl stopped) =
      inl (freely (λ stop none. files map words.amx words.script program stop is none)
      stopped)
  resume is image served (inr it) =
      let P : Program → Type 0 =
      λ p. ResumesProgram writes p words (Some map) after old new answer in
      from_program image served (subst P
      (same map words.amx words.script program it.program is it.good) it.resumes)

pub good_is_resumed : {S : Type 0} (writes : Writes S) → GoodIsResumed writes
good_is_resumed writes = record {
  done = λ map after words program s position old new answer is image served it.
      resume writes map after words program s position old new answer is image served it;
}
