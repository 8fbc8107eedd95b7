-- `explain`, `help` and `version`: what they write. They read no file.
use Rattle.std.specs.Prelude.{◌≡◌, ◌++◌, ℕ, List, Option, codes}
use Rattle.std.specs.Fmt.{decimal}
use Rattle.pawn_outside.specs.Held.{Held}
use Rattle.amx_format.specs.declared.header.TheConstants.{FILE_VERSION}
use Rattle.amx_image.specs.declared.version.TheConstants.{LIVE}
use Rattle.command_parts.specs.declared.status.Status.{Status}
use Rattle.command_parts.specs.declared.status.Status.TheVariants as status
use Rattle.command_parts.specs.Told.{Told, Says, Writes, status_told}
use Rattle.pawn_cli.specs.declared.version.TheConstants.{PROGRAM, LANGUAGE}

-- a line for each version: of the program, of the language, of the files that are put, and of the
-- images
abbrev pub version_text : List ℕ
version_text =
    codes "sulkhen " ++ (PROGRAM ++ (codes "\nlanguage " ++ (LANGUAGE ++ (codes "\nfile "
    ++ (decimal FILE_VERSION ++ (codes "\nimage " ++ (decimal LIVE ++ codes "\n")))))))

-- a text was written, or a front of it
pub record TellsText {S : Type 0} (text : List ℕ) (says : Says S) (old new : S)
    (answer : Status) : Type 0 where
  pub told : Told
  pub written : says old new text told
  pub is : answer ≡ status_told status.Ok told

-- and what is held stayed as it was
abbrev pub Prints : {S : Type 0} → List ℕ → Writes S → Option Held → Option Held → S → S → Status
    → Type 0
Prints text writes held after old new answer =
    (after ≡ held) × TellsText text writes.says old new answer
