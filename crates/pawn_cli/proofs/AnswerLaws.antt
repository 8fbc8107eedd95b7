-- What stops a call: its words, or the file that it reads; and what a call tells of a valid file.
use Rattle.std.proofs.Common.{◌≡◌, ◌≢◌, ◌∙◌, inl, inr, ℕ, List as ListOf, Option, Ok, Err, refl}
use Rattle.std.proofs.Common.{sym, subst}
use Rattle.pawn_outside.specs.Held.{Held}
use Rattle.amx_ops.specs.declared.amx.Amx.{Amx}
use Rattle.command_parts.specs.declared.command.Command.{Command}
use Rattle.command_parts.specs.declared.status.Status.{Status}
use Rattle.command_parts.specs.declared.status.Status.TheVariants as status
use Rattle.command_parts.specs.declared.stop.Stop.{Stop}
use Rattle.command_parts.specs.declared.stop.Stop.TheVariants.{FileFault}
use Rattle.command_parts.specs.declared.command_words.WordsFault.{WordsFault}
use Rattle.command_parts.specs.declared.command_words.WordsFault.TheVariants as words
use Rattle.command_parts.specs.Reading.{Reads}
use Rattle.command_parts.specs.ValidFile.{IsValidRead}
use Rattle.command_parts.specs.Told.{Told, Says, Writes, TellsStop, status_told, steadily}
use Rattle.pawn_cli.specs.Answers.{Answers, NoCommand, bad_words, no_memory, words_stop}
use Rattle.pawn_cli.specs.ReadsFile.{ReadsFile}
use Rattle.pawn_cli.specs.Texts.{TellsText}
use Rattle.command_parts.proofs.FaultCountLaws.{told_other}

-- ---- words

no_command : (said : Option Command) (fault : WordsFault) (stop : Stop) → Reads said (Err fault)
    → stop ≡ words_stop fault → NoCommand said stop
no_command said words.Bad stop none e =
    let P : Stop → Type 0 = NoCommand said in subst P (sym e) (bad_words none)
no_command said words.Memory stop none e =
    let P : Stop → Type 0 = NoCommand said in subst P (sym e) no_memory

pub words_no_fault : (fault : WordsFault) (stop : Stop) → stop ≡ words_stop fault → stop ≢ FileFault
words_no_fault words.Bad stop e = λ f. absurd (cc (e, f))
words_no_fault words.Memory stop e = λ f. absurd (cc (e, f))

module _ {S : Type 0} {writes : Writes S} {held : Option Held} {old new : S} where
  pub answers_unread : (said : Option Command) (fault : WordsFault) (stop : Stop) (answer : Status)
      → Reads said (Err fault) → stop ≡ words_stop fault
      → TellsStop stop writes old new answer → Answers writes said held held old new answer
  answers_unread said fault stop answer none e tells =
      inl (record {
        stop = stop;
        comes = no_command said fault stop none e;
        kept = refl;
        tells = tells;
      })

-- ---- texts

pub text_no_fault : {S : Type 0} {says : Says S} {text : ListOf ℕ} {old new : S}
    {answer : Status} → TellsText text says old new answer → answer ≢ status.FileFault
text_no_fault it = λ e. told_other status.Ok it.told (λ f. absurd (cc f)) (sym it.is ∙ e)

-- beside a count of faults that stays as it is
pub text_steadily : {S : Type 0} {says : Says S} {text : ListOf ℕ} {old new : S}
    {answer : Status} {m n : ℕ} → n ≡ m → TellsText text says old new answer
    → TellsText text (steadily says) (old, m) (new, n) answer
text_steadily same it = record { told = it.told; written = (it.written, same); is = it.is }

-- ---- one file

module _ {S : Type 0} {writes : Writes S} {held after : Option Held} {old new : S}
    (text_of : Amx → ListOf ℕ) (name : ListOf ℕ) where
  pub reads_none : (stop : Stop) (answer : Status) → IsValidRead held name (Err stop) → after ≡ held
      → TellsStop stop writes old new answer
      → ReadsFile text_of writes name held after old new answer
  reads_none stop answer none kept tells =
      inl (record { stop = stop; comes = none; kept = kept; tells = tells })

  pub reads_one : (amx : Amx) (text : ListOf ℕ) (told : Told) (answer : Status)
      → IsValidRead held name (Ok amx) → after ≡ held → text ≡ text_of amx
      → writes.says old new text told → answer ≡ status_told status.Ok told
      → ReadsFile text_of writes name held after old new answer
  reads_one amx text told answer valid kept e written is =
      let P : ListOf ℕ → Type 0 = λ t. writes.says old new t told in
      inr (record {
        amx = amx;
        valid = valid;
        kept = kept;
        told = told;
        written = subst P e written;
        is = is;
      })
