-- `sizes AMX`: what it answers and writes, over the file that it reads.
use Rattle.std.specs.Prelude.{◌≡◌, ◌⊎◌, ◌+◌, ◌*◌, ◌++◌, ℕ, List, Option, codes, length}
use Rattle.std.specs.Fmt.{decimal}
use Rattle.pawn_outside.specs.Held.{Held}
use Rattle.amx_ops.specs.declared.amx.Amx.{Amx}
use Rattle.amx_format.specs.Header.{header_of}
use Rattle.command_parts.specs.declared.read.TheConstants.{FILE_LIMIT}
use Rattle.command_parts.specs.declared.status.Status.{Status}
use Rattle.command_parts.specs.declared.stop.Stop.{Stop}
use Rattle.command_parts.specs.declared.stop.Stop.TheVariants.{NoMemory}
use Rattle.command_parts.specs.Told.{Says, Writes, TellsLine}
use Rattle.command_parts.specs.Unread.{IsRead}
use Rattle.command_parts.specs.ValidFile.{Broken, IsValidFile, NoFile}
use Rattle.commands.specs.Runs.{IsStopped}
use Rattle.pawn_cli.specs.declared.file_sizes.FileSizes.{FileSizes}
use Rattle.pawn_cli.specs.Texts.{TellsText}

-- ---- the text

-- the bytes of the header with its tables and names, of the code and the data once their cells are
-- plain, of the room for heap and stack, and of all; and how many publics and natives there are
abbrev pub sizes_of : List ℕ → Amx → FileSizes
sizes_of bytes amx = record {
  header = (header_of bytes).cod;
  code = 4 * length amx.code;
  store = 4 * length amx.store;
  room = 4 * amx.room;
  total = (header_of bytes).cod + 4 * (length amx.code + length amx.store + amx.room);
  publics = length amx.publics;
  natives = length amx.natives;
}

-- a line for each
abbrev pub sizes_text : FileSizes → List ℕ
sizes_text it =
    codes "header " ++ (decimal it.header
    ++ (codes "\ncode " ++ (decimal it.code
    ++ (codes "\ndata " ++ (decimal it.store
    ++ (codes "\nroom " ++ (decimal it.room
    ++ (codes "\ntotal " ++ (decimal it.total
    ++ (codes "\npublics " ++ (decimal it.publics
    ++ (codes "\nnatives " ++ (decimal it.natives ++ codes "\n")))))))))))))

-- ---- the command

-- bytes are a valid file, and its sizes were written, or a front of them
pub record TellsSizes {S : Type 0} (says : Says S) (bytes : List ℕ) (old new : S)
    (answer : Status) : Type 0 where
  pub amx : Amx
  pub valid : IsValidFile bytes amx
  pub tells : TellsText (sizes_text (sizes_of bytes amx)) says old new answer

-- it is read and is valid
pub record Measures {S : Type 0} (writes : Writes S) (name : List ℕ) (held after : Option Held)
    (old new : S) (answer : Status) : Type 0 where
  pub file : IsRead held name FILE_LIMIT (λ bytes. TellsSizes writes.says bytes old new answer)
  pub kept : after ≡ held

-- or the line of the stop is told
abbrev pub TellsSizesOf : {S : Type 0} → Writes S → List ℕ → Option Held → Option Held → S → S
    → Status → Type 0
TellsSizesOf writes name held after old new answer =
    IsStopped writes (NoFile held name) held after old new answer
    ⊎ Measures writes name held after old new answer

-- ---- what the calls answer

-- bytes are no valid file, and the line of the stop is told
pub record TellsBroken {S : Type 0} (says : Says S) (bytes : List ℕ) (old new : S)
    (answer : Status) : Type 0 where
  pub stop : Stop
  pub broken : (stop ≡ NoMemory) ⊎ Broken bytes stop
  pub tells : TellsLine stop says old new answer

-- of bytes that were read
abbrev pub TellsBytes : {S : Type 0} → Says S → List ℕ → S → S → Status → Type 0
TellsBytes says bytes old new answer =
    TellsBroken says bytes old new answer ⊎ TellsSizes says bytes old new answer
