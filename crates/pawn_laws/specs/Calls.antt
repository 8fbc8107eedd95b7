-- A call of `run` and any number of calls of `resume` behind it, each over the files that the one
-- before left.
use Rattle.std.specs.Prelude.{◌≡◌, ◌++◌, ℕ, List, [], ◌∷◌, Some, Ok}
use Rattle.pawn_outside.specs.Held.{Held}
use Rattle.command_parts.specs.declared.status.Status.{Status}
use Rattle.command_parts.specs.declared.status.Status.TheVariants as status
use Rattle.command_parts.specs.Told.{Writes}
use Rattle.commands.specs.Names.{Names, run_words, resume_words}
use Rattle.commands.specs.Resumes.{Resumes}
use Rattle.commands.specs.Runs.{Runs}
use Rattle.commands.specs.Unfailing.{IsUnfailing}

-- how a call went: its bound on steps, the files behind it, what it wrote to before and behind it,
-- and its status
pub record Call (S : Type 0) : Type 0 where
  pub steps : ℕ
  pub after : Held
  pub old : S
  pub new : S
  pub answer : Status

-- ---- one behind the other

-- calls of `resume`, each behind a call with this status that left these files, and fell asleep
abbrev pub AreResumes : {S : Type 0} → Writes S → Names → Held → Status → List (Call S) → Type 0
AreResumes writes names held before [] = Unit {0}
AreResumes writes names held before (call ∷ calls) =
    (before ≡ status.Asleep)
    × Resumes writes (resume_words names call.steps) (Some held) (Some call.after) call.old
    call.new call.answer
    × IsUnfailing call.answer
    × AreResumes writes names call.after call.answer calls

-- a call of `run` from an entry, and those behind it
pub record AreCalls {S : Type 0} (writes : Writes S) (names : Names) (entry : List ℕ) (held : Held)
    (run : Call S) (resumes : List (Call S)) : Type 0 where
  pub runs : Runs writes (run_words names run.steps entry) (Some held) (Some run.after) run.old
      run.new run.answer
  pub unfailing : IsUnfailing run.answer
  pub are_resumes : AreResumes writes names run.after run.answer resumes

-- ---- what they come to

-- each wrote a text whole, and these together are a text
abbrev pub WroteTogether : {S : Type 0} → Writes S → List (Call S) → List ℕ → Type 0
WroteTogether writes [] all = all ≡ []
WroteTogether writes (call ∷ calls) all =
    (text : List ℕ) × (rest : List ℕ) × writes.says call.old call.new text (Ok tt)
    × WroteTogether writes calls rest
    × (all ≡ text ++ rest)

-- the status of the last one
abbrev pub last_answer : {S : Type 0} → Call S → List (Call S) → Status
last_answer run [] = run.answer
last_answer run (call ∷ calls) = last_answer call calls
