-- Where `compile` put the file of a source, it is valid, and its run with the resumes behind it is what
-- the source means.
use Rattle.std.proofs.Common.{◌≡◌, ◌∙◌, ◌⊎◌, inl, inr, ℕ, ℤ, List, Option, Some, Ok, Err}
use Rattle.std.proofs.Common.{refl, sym, ap, arith, codes}
use Rattle.std.specs.FinMap.{get, insert}
use Rattle.pawn_outside.specs.Held.{Held}
use Rattle.host_script.specs.Ranges.{IsScript}
use Rattle.host_script.specs.declared.script.Script.{Script}
use Rattle.pawn_meaning.specs.Program.{Program as Source}
use Rattle.pawn_meaning.specs.Told.{meaning}
use Rattle.amx_format.specs.declared.encoding.Encoding.{Encoding}
use Rattle.gen_agrees.specs.Agrees.{IsRoom}
use Rattle.run_laws.proofs.WholeLaws.{agreement_is_whole_lem}
use Rattle.pawn_front.specs.declared.compiled.Compiled.{Compiled}
use Rattle.pawn_front.specs.Compiled.{HasFile}
use Rattle.command_parts.specs.declared.command.CompileWords.{CompileWords}
use Rattle.command_parts.specs.declared.program.Program.{Program}
use Rattle.command_parts.specs.declared.read.TheConstants.{FILE_LIMIT}
use Rattle.command_parts.specs.declared.status.Status.{Status}
use Rattle.command_parts.specs.declared.status.Status.TheVariants as status
use Rattle.command_parts.specs.Program.{IsProgram, digest_of}
use Rattle.command_parts.specs.Told.{Told, Writes, status_told}
use Rattle.command_parts.specs.Unread.{IsRead}
use Rattle.command_parts.specs.ValidFile.{IsValidFile}
use Rattle.commands.specs.Compiles.{Compiles, CompilesGood, Puts, encoding_of}
use Rattle.host_run.specs.Entry.{address_named}
use Rattle.commands.specs.Good.{IsFree}
use Rattle.commands.specs.Names.{Names, run_words}
use Rattle.commands.specs.Prepared.{IsServed}
use Rattle.commands.specs.Runs.{IsStopped, RunsEntry}
use Rattle.commands.specs.Unfailing.{IsUnfailing}
use Rattle.commands.proofs.DoneLaws.{freely, good_is_run}
use Rattle.commands.proofs.FallLaws.{stop_not_ok, not_free}
use Rattle.commands.proofs.GoodLaws.{good_files}
use Rattle.commands.proofs.HeldLaws.{put_there}
use Rattle.commands.proofs.MadeLaws.{made_valid}
use Rattle.commands.proofs.PutImageLaws.{script_is}
use Rattle.commands.proofs.ServedNativeLaws.{bound}
use Rattle.pawn_cli.specs.ReadsFile.{Verifies}
use Rattle.pawn_laws.specs.Calls.{Call, AreCalls}
use Rattle.pawn_laws.specs.OneLaw.{SaysValid, CanStart, CompiledRunsAsItMeans}
use Rattle.pawn_laws.specs.OneRun.{IsOneRun, bounds_of}
use Rattle.pawn_laws.proofs.CallLaws.{told}
use Rattle.pawn_laws.proofs.EntryLaws.{entry_there}

-- ---- what `compile` put

module _ {S : Type 0} (writes : Writes S) (words : CompileWords) (before after : Held)
    (old new : S) where
  good_by : Compiles writes words (Some before) (Some after) old new status.Ok
      → CompilesGood writes words (Some before) (Some after) old new status.Ok
  good_by (inl it) = absurd (stop_not_ok it.stop it.tells)
  good_by (inr it) = it

  some_is : (a b : Held) → Some a ≡ Some b → a ≡ b
  some_is a b e = cc e

  put_by : (it : Compiled) → Puts writes it words.amx (Some before) (Some after) old new status.Ok
      → after ≡ insert before words.amx it.bytes
  put_by it (inl unput) = absurd (stop_not_ok unput.stop unput.tells)
  put_by it (inr put) = some_is after (insert before words.amx it.bytes) put.kept

-- a file of a source, as a name holds it
module _ {S : Type 0} (writes : Writes S) (source : Source) (encoding : Encoding)
    (bytes : List ℕ) (has : HasFile source encoding bytes) (held : Held) (name : List ℕ)
    (there : get held name ≡ Some bytes) where
  valid : IsValidFile bytes has.amx
  valid = made_valid has

  is_read : IsRead (Some held) name FILE_LIMIT (λ b. IsValidFile b has.amx)
  is_read = record {
    bytes = bytes;
    tells = there;
    within = omega (arith, has.small);
    is = valid;
  }

  -- ---- `verify`

  told_whole : (old new : S) (told : Told) (answer : Status)
      → writes.says old new (codes "valid\n") told → answer ≡ status_told status.Ok told
      → IsUnfailing answer → SaysValid writes old new answer
  told_whole old new (Ok done) answer wrote is none = record { text = wrote; is = is }
  told_whole old new (Err fault) answer wrote is none = absurd (none.sink is)

  verifies : (end : Option Held) (old new : S) (answer : Status)
      → Verifies writes name (Some held) end old new answer → IsUnfailing answer
      → SaysValid writes old new answer
  verifies end old new answer (inl stopped) none =
      absurd (not_free (freely (λ stop no. good_files.file held name has.amx stop is_read no)
      stopped) none)
  verifies end old new answer (inr it) none =
      told_whole old new it.told answer it.written it.is none

  -- ---- `run` and the resumes

  module _ (names : Names) (same_name : name ≡ names.amx) (script : Script) (entry : List ℕ)
      (function : ℕ) (start : CanStart source held names script entry function) where
    abbrev program : Program
    program = record { file = has.amx; digest = digest_of bytes; script = script }

    is_program : IsProgram (Some held) names.amx names.script program
    is_program = record {
      file = record {
        bytes = bytes;
        tells = ap (get held) (sym same_name) ∙ there;
        within = omega (arith, has.small);
        is = record { valid = valid; digest_is = refl };
      };
      natives = start.natives;
    }

    keeps : IsScript script
    keeps = script_is start.natives.bytes script start.natives.is

    served : IsServed program
    served =
        bound script has.amx.natives source.natives has.agrees.shape.natives start.serves

    room : IsRoom has.amx has.amx.room
    room = omega (arith, has.agrees.shape.writable.memory)

    module _ (run : Call S) (resumes : List (Call S))
        (calls : AreCalls writes names entry held run resumes) where
      ran : (address : ℤ) → address_named has.amx entry ≡ Some address
          → RunsEntry writes program (run_words names run.steps entry) (Some held)
          (Some run.after) run.old run.new run.answer
      ran address named =
          by ((good_is_run writes).done held (Some run.after) (run_words names run.steps entry)
          program address run.old run.new run.answer is_program named served calls.runs)
        where
          by : IsStopped writes IsFree (Some held) (Some run.after) run.old run.new run.answer
              ⊎ RunsEntry writes program (run_words names run.steps entry) (Some held)
              (Some run.after) run.old run.new run.answer
              → RunsEntry writes program (run_words names run.steps entry) (Some held)
              (Some run.after) run.old run.new run.answer
          by (inl stopped) = absurd (not_free stopped calls.unfailing)
          by (inr it) = it

      one_run : IsOneRun writes (meaning source script function) has.amx script entry run resumes
      one_run =
          let at = entry_there source has.amx has.agrees.shape entry function start.there in
          let it = ran at.address at.named in
          let whole =
          told writes names program source has.agrees.shape it.runnable keeps served held
          is_program entry at.address at.named run resumes calls.unfailing calls.are_resumes it in
          record {
            address = at.address;
            there = at.named;
            text = whole.together;
            answer = whole.answer;
            meant =
                agreement_is_whole_lem source has.amx has.agrees script has.amx.room at.entry
                function at.address run.steps (bounds_of resumes) keeps start.serves room
                at.function at.there;
          }

pub compiled_runs_as_it_means : {S : Type 0} (writes : Writes S) → CompiledRunsAsItMeans writes
compiled_runs_as_it_means writes words before after old new compiles =
    let good = good_by writes words before after old new compiles in
    let made = good.made in
    let put = put_by writes words before after old new good.it good.puts in
    let bytes = good.it.bytes in
    let there : get after words.amx ≡ Some bytes =
    ap (λ m. get m words.amx) put ∙ put_there before words.amx bytes in
    let encoding = encoding_of words.compact in
    record {
      program = made.program;
      warnings = good.it.warnings;
      means = made.means;
      amx = made.has.amx;
      file = is_read writes made.program encoding bytes made.has after words.amx there;
      verified = λ held name end old new answer holds it none.
          verifies writes made.program encoding bytes made.has held name (holds ∙ there) end old
          new answer it none;
      runs = λ held names script entry function run resumes holds start calls.
          one_run writes made.program encoding bytes made.has held names.amx (holds ∙ there) names
          refl script entry function start run resumes calls;
    }
