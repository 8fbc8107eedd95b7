-- What a call of the program answers, writes and puts, by the command that its words are.
use Rattle.std.specs.Prelude.{◌≡◌, ◌⊎◌, Option, None, Some}
use Rattle.pawn_outside.specs.Held.{Held}
use Rattle.command_parts.specs.declared.command.Command.{Command}
use Rattle.command_parts.specs.declared.command.Command.TheVariants.{Compile, Verify, List, Run}
use Rattle.command_parts.specs.declared.command.Command.TheVariants.{Resume, Go, Assemble, Sample}
use Rattle.command_parts.specs.declared.command.Command.TheVariants.{Usage, Many}
use Rattle.command_parts.specs.declared.command.Command.TheVariants.{Sizes, Explain, Help, Version}
use Rattle.command_parts.specs.declared.status.Status.{Status}
use Rattle.command_parts.specs.declared.stop.Stop.{Stop}
use Rattle.command_parts.specs.declared.stop.Stop.TheVariants.{BadWords, NoMemory}
use Rattle.command_parts.specs.declared.command_words.WordsFault.{WordsFault}
use Rattle.command_parts.specs.declared.command_words.WordsFault.TheVariants as words
use Rattle.command_parts.specs.Told.{Writes}
use Rattle.commands.specs.Assembles.{Assembles}
use Rattle.commands.specs.Compiles.{Compiles}
use Rattle.commands.specs.Runs.{IsStopped, Runs}
use Rattle.commands.specs.Resumes.{Resumes}
use Rattle.commands.specs.Goes.{Goes}
use Rattle.commands.specs.Samples.{Samples}
use Rattle.commands.specs.Usages.{Usages}
use Rattle.command_many.specs.Many.{ServesPlan}
use Rattle.command_texts.specs.Explained.{explained}
use Rattle.command_texts.specs.Forms.{helped}
use Rattle.pawn_cli.specs.ReadsFile.{Verifies, Lists}
use Rattle.pawn_cli.specs.Sizes.{TellsSizesOf}
use Rattle.pawn_cli.specs.Texts.{Prints, version_text}

-- ---- words

-- what is told of words that are no command
abbrev pub words_stop : WordsFault → Stop
words_stop words.Bad = BadWords
words_stop words.Memory = NoMemory

-- they are none, or memory for the names among them was wanting
pub data NoCommand (said : Option Command) : Stop → Type 0 where
  bad_words : said ≡ None → NoCommand said BadWords
  no_memory : NoCommand said NoMemory

-- ---- the commands

-- what each command does
abbrev pub Does : {S : Type 0} → Writes S → Option Command → Option Held → Option Held → S → S
    → Status → Type 0
Does writes None held after old new answer = ⊥
Does writes (Some (Compile words)) held after old new answer =
    Compiles writes words held after old new answer
Does writes (Some (Assemble words)) held after old new answer =
    Assembles writes words held after old new answer
Does writes (Some (Verify amx)) held after old new answer =
    Verifies writes amx held after old new answer
Does writes (Some (List amx)) held after old new answer = Lists writes amx held after old new answer
Does writes (Some (Sizes amx)) held after old new answer =
    TellsSizesOf writes amx held after old new answer
Does writes (Some (Explain number)) held after old new answer =
    Prints (explained number) writes held after old new answer
Does writes (Some (Help word)) held after old new answer =
    Prints (helped word) writes held after old new answer
Does writes (Some Version) held after old new answer =
    Prints version_text writes held after old new answer
Does writes (Some (Run words)) held after old new answer =
    Runs writes words held after old new answer
Does writes (Some (Resume words)) held after old new answer =
    Resumes writes words held after old new answer
Does writes (Some (Go words)) held after old new answer =
    Goes writes words held after old new answer
Does writes (Some (Sample words)) held after old new answer =
    Samples writes words held after old new answer
Does writes (Some (Usage src)) held after old new answer =
    Usages writes src held after old new answer
Does writes (Some (Many plan)) held after old new answer =
    ServesPlan writes plan held after old new answer

-- a call is stopped by its words, or does what its command does
abbrev pub Answers : {S : Type 0} → Writes S → Option Command → Option Held → Option Held → S → S
    → Status → Type 0
Answers writes said held after old new answer =
    IsStopped writes (NoCommand said) held after old new answer
    ⊎ Does writes said held after old new answer
