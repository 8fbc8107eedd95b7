-- What reading the plain words at the front of a command answers, whichever the command is.
use Rattle.std.specs.Prelude.{◌≡◌, ℕ, List, Option, Some, Result, Ok, Err}
use Rattle.command_parts.specs.declared.command.Command.{Command}
use Rattle.command_parts.specs.declared.command_words.ImageWords.{ImageWords}
use Rattle.command_parts.specs.declared.command_words.WordsFault.{WordsFault}
use Rattle.command_parts.specs.declared.options.Options.{Options}
use Rattle.command_parts.specs.Command.{named, alone, with_options}
use Rattle.command_parts.specs.Reading.{Reads}

-- one plain word and nothing behind it
abbrev pub IsOnlyName : List (List ℕ) → Result (List ℕ) WordsFault → Type 0
IsOnlyName words (Ok name) = (command : List ℕ → Command)
    → named (λ it. alone (command it)) words ≡ Some (command name)
IsOnlyName words (Err fault) = (command : List ℕ → Command)
    → Reads (named (λ it. alone (command it)) words) (Err fault)

-- a command by two plain words and those behind them
abbrev pub ByTwo : Type 0
ByTwo = List ℕ → List ℕ → List (List ℕ) → Option Command

-- two plain words, and those behind them
abbrev pub AreTwoNames : List (List ℕ) → List ℕ → List ℕ → List (List ℕ) → Type 0
AreTwoNames words first second rest = (command : ByTwo)
    → named (λ it. named (command it)) words ≡ command first second rest

-- there aren't two plain words
abbrev pub NoTwoNames : List (List ℕ) → WordsFault → Type 0
NoTwoNames words fault = (command : ByTwo)
    → Reads (named (λ it. named (command it)) words) (Err fault)

-- a command by three plain words and options
abbrev pub ByImage : Type 0
ByImage = List ℕ → List ℕ → List ℕ → Options → Option Command

-- three plain words, then options
abbrev pub AreImageWords : List (List ℕ) → Result ImageWords WordsFault → Type 0
AreImageWords words (Ok it) = (command : ByImage)
    → named (λ amx. named (λ script. named (λ image. with_options (command amx script image))))
    words
    ≡ command it.amx it.script it.image it.options
AreImageWords words (Err fault) = (command : ByImage)
    → Reads (named (λ amx. named (λ script. named (λ image.
    with_options (command amx script image)))) words) (Err fault)
