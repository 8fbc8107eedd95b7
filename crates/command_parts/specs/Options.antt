-- The options of commands, each a word that begins with two hyphens and a value; one has no value.
use Rattle.std.specs.Prelude.{◌&&◌, ℕ, List, [], ◌∷◌, Bool, true, false, Option, None, Some, codes}
use Rattle.std.specs.Prelude.{nat_le, bytes_eq}
use Rattle.std.specs.Prelude.{option_map, option_and_then, if◌then◌else◌}
use Rattle.std.specs.Fmt.{decimal}
use Rattle.std.specs.Str.Parse.{digits_value}
use Rattle.command_parts.specs.declared.options.Options.{Options}
use Rattle.command_parts.specs.declared.options.TheConstants.{MOST_STEPS, MOST_SLEEPS}

-- before any option is read
abbrev pub no_options : Options
no_options = record { steps = None; sleeps = None; entry = None; count = false }

-- the number that a word is the decimal form of, without a zero at its front, where it isn't above
-- a limit
abbrev pub number_up_to : ℕ → List ℕ → Option ℕ
number_up_to most word =
    if nat_le (digits_value 10 word) most && bytes_eq (decimal (digits_value 10 word)) word
    then Some (digits_value 10 word) else None

-- what is given once
abbrev pub once : {A B : Type 0} → Option A → Option B → Option B
once None given = given
once (Some before) given = None

-- the most steps between two sleeps
abbrev pub with_steps : List ℕ → Options → Option Options
with_steps value given = once given.steps
    (option_map (λ n. record given { steps = Some n }) (number_up_to MOST_STEPS value))

-- the most sleeps behind which a program goes on
abbrev pub with_sleeps : List ℕ → Options → Option Options
with_sleeps value given = once given.sleeps
    (option_map (λ n. record given { sleeps = Some n }) (number_up_to MOST_SLEEPS value))

-- its value is taken whatever it is
abbrev pub with_entry : List ℕ → Options → Option Options
with_entry value given = once given.entry (Some (record given { entry = Some value }))

-- one option more
unfoldable pub with_option : List ℕ → List ℕ → Options → Option Options
with_option flag value given =
    if bytes_eq flag (codes "--steps") then with_steps value given
    else if bytes_eq flag (codes "--sleeps") then with_sleeps value given
    else if bytes_eq flag (codes "--entry") then with_entry value given
    else None

-- steps are told
abbrev pub with_count : Options → Option Options
with_count given = if given.count then None else Some (record given { count = true })

-- the one option without a value
abbrev pub is_count : List ℕ → Bool
is_count word = bytes_eq word (codes "--count")

-- all options of these words, behind those that were given, and behind a flag whose value is first
-- among them, if there is one
abbrev pub options_behind : Option (List ℕ) → Options → List (List ℕ) → Option Options
options_behind None given [] = Some given
options_behind (Some flag) given [] = None
options_behind None given (word ∷ words) =
    if is_count word
    then option_and_then (λ more. options_behind None more words) (with_count given)
    else options_behind (Some word) given words
options_behind (Some flag) given (value ∷ words) =
    option_and_then (λ more. options_behind None more words) (with_option flag value given)

-- all options of these words, behind those that were given
abbrev pub options_from : Options → List (List ℕ) → Option Options
options_from given words = options_behind None given words
