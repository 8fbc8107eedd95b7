-- What is good is run: only a fault of the files or want of memory may stop a command at it.
use Rattle.std.specs.Prelude.{◌≡◌, ℕ, ℤ, List, Some}
use Rattle.pawn_outside.specs.Held.{Held}
use Rattle.amx_ops.specs.declared.amx.Amx.{Amx}
use Rattle.command_parts.specs.declared.stop.Stop.{Stop}
use Rattle.command_parts.specs.declared.stop.Stop.TheVariants.{FileFault, NoMemory}
use Rattle.command_parts.specs.declared.read.TheConstants.{FILE_LIMIT}
use Rattle.command_parts.specs.Unread.{IsRead}
use Rattle.command_parts.specs.ValidFile.{IsValidFile, NoFile}
use Rattle.command_parts.specs.declared.program.Program.{Program}
use Rattle.command_parts.specs.Program.{IsProgram, NoProgram}
use Rattle.host_run.specs.Entry.{address_named}
use Rattle.commands.specs.Prepared.{IsServed, NoStart}

-- a stop that what files hold has no part in
pub data IsFree : Stop → Type 0 where
  file_fault : IsFree FileFault
  no_memory : IsFree NoMemory

-- over files that tell what they hold
pub record GoodFilesAreRead : Type 0 where
  -- where a name holds a valid file
  pub file : (map : Held) (name : List ℕ) (amx : Amx) (stop : Stop)
      → IsRead (Some map) name FILE_LIMIT (λ bytes. IsValidFile bytes amx)
      → NoFile (Some map) name stop → IsFree stop
  -- where names hold a valid file and a script
  pub read : (map : Held) (amx script : List ℕ) (program : Program) (stop : Stop)
      → IsProgram (Some map) amx script program → NoProgram (Some map) amx script stop → IsFree stop
  -- and they are no other program
  pub same : (map : Held) (amx script : List ℕ) (program other : Program)
      → IsProgram (Some map) amx script program → IsProgram (Some map) amx script other
      → other ≡ program

-- an entry that is there and natives that are served stop no start
abbrev pub GoodProgramsStart : Type 0
GoodProgramsStart = (program : Program) (entry : List ℕ) (address : ℤ) (stop : Stop)
    → address_named program.file entry ≡ Some address → IsServed program
    → NoStart program entry stop → IsFree stop
