-- The words that are a command: its word, its plain words in order, then options in any order, each
-- at most once.
use Rattle.std.specs.Prelude.{◌==◌, ℕ, List, [], ◌∷◌, Bool, true, false, not, Option, None, Some, codes}
use Rattle.std.specs.Prelude.{take, bytes_eq, unwrap_or, is_some}
use Rattle.std.specs.Prelude.{option_map, option_and_then, if◌then◌else◌}
use Rattle.command_parts.specs.declared.command.Command.{Command}
use Rattle.command_parts.specs.declared.command.Command.TheVariants.{Compile, Verify, List as Lists}
use Rattle.command_parts.specs.declared.command.Command.TheVariants.{Run, Resume, Go, Assemble}
use Rattle.command_parts.specs.declared.command.Command.TheVariants.{Sample, Usage, Many}
use Rattle.command_parts.specs.declared.options.Options.{Options}
use Rattle.host_run.specs.declared.entry.TheConstants.{MAIN}
use Rattle.command_parts.specs.declared.options.TheConstants.{DEFAULT_STEPS, DEFAULT_SLEEPS}
use Rattle.command_parts.specs.declared.measure_words.TheConstants.{MOST_FUNCTIONS}
use Rattle.command_parts.specs.Options.{no_options, number_up_to, options_from}
use Rattle.command_parts.specs.declared.command.Command.TheVariants.{Sizes, Explain, Help, Version}
use Rattle.command_parts.specs.declared.asked_words.TheConstants.{MOST_NUMBER}
use Rattle.command_texts.specs.Explained.{is_explained}
use Rattle.command_texts.specs.Forms.{is_word}

-- it isn't empty and doesn't begin with two hyphens
unfoldable pub is_plain : List ℕ → Bool
is_plain [] = false
is_plain (byte ∷ bytes) = not (bytes_eq (take 2 (byte ∷ bytes)) (codes "--"))

-- a word, and those behind it
abbrev pub Front : Type 0
Front = List ℕ × List (List ℕ)

-- a plain word at the front
abbrev pub first_plain : List (List ℕ) → Option Front
first_plain [] = None
first_plain (word ∷ words) = if is_plain word then Some (word, words) else None

-- the same for one that may be left out
abbrev pub optional_plain : List (List ℕ) → Option (List ℕ) × List (List ℕ)
optional_plain [] = (None, [])
optional_plain (word ∷ words) = if is_plain word then (Some word, words) else (None, word ∷ words)

-- a command with a plain word at the front
abbrev pub named : (List ℕ → List (List ℕ) → Option Command) → List (List ℕ) → Option Command
named command words = option_and_then (λ (it : Front). command it.0 it.1) (first_plain words)

-- nothing more
abbrev pub alone : Command → List (List ℕ) → Option Command
alone command [] = Some command
alone command (word ∷ words) = None

-- a command with the options of these words
abbrev pub with_options : (Options → Option Command) → List (List ℕ) → Option Command
with_options command words = option_and_then command (options_from no_options words)

-- ---- one command each

-- the one option without a value
abbrev pub compact_word : List ℕ → Option Bool
compact_word word = if bytes_eq word (codes "--compact") then Some true else None

-- whether compact cells are asked for, by the words behind the plain ones
abbrev pub compact_of : List (List ℕ) → Option Bool
compact_of [] = Some false
compact_of (word ∷ []) = compact_word word
compact_of (word ∷ next ∷ words) = None

-- `compile`: a source, the file of its program, and whether its cells are compact
abbrev pub compile_of : List (List ℕ) → Option Command
compile_of words =
    named (λ src. named (λ amx more. option_map
    (λ compact. Compile (record { src = src; amx = amx; compact = compact }))
    (compact_of more))) words

-- `assemble`: a text, the file that is listed with it, and whether its cells are compact
abbrev pub assemble_of : List (List ℕ) → Option Command
assemble_of words =
    named (λ text. named (λ amx more. option_map
    (λ compact. Assemble (record { text = text; amx = amx; compact = compact }))
    (compact_of more))) words

-- `verify`: the file of a program
abbrev pub verify_of : List (List ℕ) → Option Command
verify_of words = named (λ amx. alone (Verify amx)) words

-- `list`: the file of a program
abbrev pub list_of : List (List ℕ) → Option Command
list_of words = named (λ amx. alone (Lists amx)) words

-- `sizes`: the file of a program
abbrev pub sizes_of : List (List ℕ) → Option Command
sizes_of words = named (λ amx. alone (Sizes amx)) words

-- a number that some row has
abbrev pub explain_on : Option ℕ → Option Command
explain_on None = None
explain_on (Some number) = if is_explained number then Some (Explain (Some number)) else None

-- `explain`: all numbers, or one that is printed
abbrev pub explain_of : List (List ℕ) → Option Command
explain_of [] = Some (Explain None)
explain_of (word ∷ []) = explain_on (number_up_to MOST_NUMBER word)
explain_of (word ∷ next ∷ words) = None

-- a word that some command has
abbrev pub help_on : List ℕ → Option Command
help_on word = if is_word word then Some (Help (Some word)) else None

-- `help`: all commands, or the one with a word
abbrev pub help_of : List (List ℕ) → Option Command
help_of [] = Some (Help None)
help_of (word ∷ []) = help_on word
help_of (word ∷ next ∷ words) = None

-- `version`
abbrev pub version_of : List (List ℕ) → Option Command
version_of words = alone Version words

-- a run of a program with a script and an image of memory, for so many steps, from an entry
abbrev pub run_with : List ℕ → List ℕ → List ℕ → Options → Option Command
run_with amx script image o =
    if is_some o.sleeps then None
    else Some (Run (record {
      amx = amx;
      script = script;
      image = image;
      steps = unwrap_or o.steps DEFAULT_STEPS;
      entry = unwrap_or o.entry MAIN;
      count = o.count;
    }))

-- `run`: a program, its script, and the image that it may fall asleep to, then options
abbrev pub run_of : List (List ℕ) → Option Command
run_of words =
    named (λ amx. named (λ script. named (λ image. with_options (run_with amx script image)))) words

-- a run that goes on from an image: it takes no entry, since the image holds where it stands
abbrev pub resume_with : List ℕ → List ℕ → List ℕ → Options → Option Command
resume_with amx script image o =
    if is_some o.sleeps then None
    else if is_some o.entry then None
    else Some (Resume (record {
      amx = amx;
      script = script;
      image = image;
      steps = unwrap_or o.steps DEFAULT_STEPS;
      count = o.count;
    }))

-- `resume`: a program, its script, and the image that it goes on from, then options
abbrev pub resume_of : List (List ℕ) → Option Command
resume_of words =
    named (λ amx. named (λ script. named (λ image. with_options (resume_with amx script image))))
    words

-- a source compiled and run from `main` on, over so many sleeps, with a script or without one
abbrev pub go_with : List ℕ → List ℕ → Option (List ℕ) → Options → Option Command
go_with src amx script o =
    if is_some o.entry then None
    else Some (Go (record {
      src = src;
      amx = amx;
      script = script;
      steps = unwrap_or o.steps DEFAULT_STEPS;
      sleeps = unwrap_or o.sleeps DEFAULT_SLEEPS;
      count = o.count;
    }))

-- `go`: a source, the file of its program, and perhaps a script, then options
abbrev pub go_of : List (List ℕ) → Option Command
go_of words = named (λ src. named (λ amx more.
    with_options (go_with src amx (optional_plain more).0) (optional_plain more).1)) words

-- `many`: a plan of machines and events
abbrev pub many_of : List (List ℕ) → Option Command
many_of words = named (λ plan. alone (Many plan)) words

-- ---- those that measure

-- a number that isn't 0
abbrev pub unless_zero : ℕ → Option ℕ
unless_zero n = if n == 0 then None else Some n

-- how many functions a sample is asked to have: from 1 to the most
abbrev pub functions_of : List ℕ → Option ℕ
functions_of word = option_and_then unless_zero (number_up_to MOST_FUNCTIONS word)

-- a sample of so many functions
abbrev pub sample_with : List ℕ → List ℕ → Option Command
sample_with number amx =
    option_map (λ n. Sample (record { functions = n; amx = amx })) (functions_of number)

-- `sample`: how many functions its source has, and the file of its program
abbrev pub sample_of : List (List ℕ) → Option Command
sample_of words =
    named (λ number. named (λ amx more. option_and_then (λ command. alone command more)
    (sample_with number amx))) words

-- `usage`: a source
abbrev pub usage_of : List (List ℕ) → Option Command
usage_of words = named (λ src. alone (Usage src)) words

-- one of them by its word
abbrev pub measure_by : List ℕ → List (List ℕ) → Option Command
measure_by word words =
    if bytes_eq word (codes "sample") then sample_of words
    else if bytes_eq word (codes "usage") then usage_of words
    else None

-- ---- by its word

-- the command by its own word and those behind it
abbrev pub command_by : List ℕ → List (List ℕ) → Option Command
command_by word words =
    if bytes_eq word (codes "verify") then verify_of words
    else if bytes_eq word (codes "list") then list_of words
    else if bytes_eq word (codes "run") then run_of words
    else if bytes_eq word (codes "resume") then resume_of words
    else if bytes_eq word (codes "go") then go_of words
    else if bytes_eq word (codes "compile") then compile_of words
    else if bytes_eq word (codes "assemble") then assemble_of words
    else if bytes_eq word (codes "many") then many_of words
    else measure_by word words

-- the same, with those that tell of texts and sizes
abbrev pub asked_by : List ℕ → List (List ℕ) → Option Command
asked_by word words =
    if bytes_eq word (codes "explain") then explain_of words
    else if bytes_eq word (codes "help") then help_of words
    else if bytes_eq word (codes "version") then version_of words
    else if bytes_eq word (codes "sizes") then sizes_of words
    else command_by word words

-- no command without a word
abbrev pub command_of : List (List ℕ) → Option Command
command_of [] = None
command_of (word ∷ words) = asked_by word words
