-- A valid file with its digest and a script, read by their names, and what keeps a command from
-- them.
use Rattle.std.specs.Prelude.{◌≡◌, ◌⊎◌, ℕ, List, Option, Result, Ok, Err, take}
use Rattle.sha2.specs.Sha256.{sha256}
use Rattle.pawn_outside.specs.Held.{Held}
use Rattle.amx_ops.specs.declared.amx.Amx.{Amx}
use Rattle.amx_format.specs.File.{IsFile}
use Rattle.amx_format.specs.Header.{header_of}
use Rattle.command_parts.specs.declared.stop.Stop.{Stop}
use Rattle.command_parts.specs.declared.stop.Stop.TheVariants.{NoMemory}
use Rattle.command_parts.specs.declared.read.TheConstants.{FILE_LIMIT}
use Rattle.command_parts.specs.Unread.{IsRead}
use Rattle.command_parts.specs.ValidFile.{IsValidFile, Broken, NoFile}
use Rattle.command_parts.specs.declared.program.Digested.{Digested}
use Rattle.command_parts.specs.declared.program.Program.{Program}
use Rattle.command_parts.specs.declared.program.ReadProgram.{ReadProgram}
use Rattle.command_parts.specs.ScriptFile.{IsScriptNamed, NoScript}

-- of so many bytes of a file as its header counts
abbrev pub digest_of : List ℕ → List ℕ
digest_of bytes = sha256 (take (header_of bytes).size bytes)

-- a valid file with its digest
pub record IsDigested (bytes : List ℕ) (amx : Amx) (digest : List ℕ) : Type 0 where
  pub valid : IsValidFile bytes amx
  pub digest_is : digest ≡ digest_of bytes

-- a file that is held under a name, not too long, is this one
abbrev pub IsFileNamed : Option Held → List ℕ → Amx → List ℕ → Type 0
IsFileNamed held name amx digest =
    IsRead held name FILE_LIMIT (λ bytes. IsDigested bytes amx digest)

-- the files of a command are good
pub record IsProgram (held : Option Held) (amx script : List ℕ) (it : Program) : Type 0 where
  pub file : IsFileNamed held amx it.file it.digest
  pub natives : IsScriptNamed held script it.script

-- a script is looked for behind a good file
pub data NoProgram (held : Option Held) (amx script : List ℕ) (stop : Stop) : Type 0 where
  no_file : NoFile held amx stop → NoProgram held amx script stop
  no_script : (file : Amx) (digest : List ℕ) → IsFileNamed held amx file digest
      → NoScript held script stop
      → NoProgram held amx script stop

-- ---- what the calls answer

-- the bytes are a valid file, or they are refused
abbrev pub IsDigestedOf : List ℕ → Result Digested Stop → Type 0
IsDigestedOf bytes (Ok it) = IsDigested bytes it.file it.digest
IsDigestedOf bytes (Err stop) = (stop ≡ NoMemory) ⊎ Broken bytes stop

-- the files are good, and these are the bytes of the one
pub record IsReadProgram (held : Option Held) (amx script : List ℕ) (it : ReadProgram) : Type 0
  where
    pub good : IsProgram held amx script it.program
    pub bytes : IsFile it.bytes it.program.file

-- behind a good file the script is read
abbrev pub IsProgramRead : Option Held → List ℕ → List ℕ → Result ReadProgram Stop → Type 0
IsProgramRead held amx script (Ok it) = IsReadProgram held amx script it
IsProgramRead held amx script (Err stop) = NoProgram held amx script stop
