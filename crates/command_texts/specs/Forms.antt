-- The commands, and what `help` tells of them.
use denote.Ref.{Bor}
use Rattle.std.specs.Prelude.{ℕ, List, [], ◌++◌, Bool, Option, None, Some, codes, map, find}
use Rattle.std.specs.Prelude.{is_some, bytes_eq, if◌then◌else◌}
use Rattle.std.specs.List.{flat_map}
use Rattle.command_texts.specs.declared.forms.TheConstants.{FORMS}

-- a command's word, its form, and what it does
pub record Form : Type 0 where
  pub word : List ℕ
  pub form : List ℕ
  pub does : List ℕ

-- a command as the code holds it
abbrev pub form_by : Bor (List ℕ) × Bor (List ℕ) × Bor (List ℕ) → Form
form_by it = record { word = it.0.now; form = it.1.now; does = it.2.now }

-- all of them
abbrev pub forms_by : List (Bor (List ℕ) × Bor (List ℕ) × Bor (List ℕ)) → List Form
forms_by forms = map form_by forms

-- a text of a constant
abbrev Text : Type 0
Text = record { now : List ℕ }

-- a command of a constant
abbrev form_of : Text × Text × Text → Form
form_of it = record { word = it.0.now; form = it.1.now; does = it.2.now }

-- all
unfoldable pub forms : List Form
forms = map form_of FORMS

-- ---- what is told

-- its form
abbrev pub line : Form → List ℕ
line it = it.form ++ codes "\n"

-- behind that what it does
abbrev pub form_whole : Form → List ℕ
form_whole it = it.form ++ (codes "\n  " ++ (it.does ++ codes "\n"))

-- the word is this one
abbrev pub has_word : List ℕ → Form → Bool
has_word word it = bytes_eq it.word word

-- what is told of a command: where a word is asked for, only of that with it
abbrev pub form_text : Option (List ℕ) → Form → List ℕ
form_text None it = line it
form_text (Some word) it = if has_word word it then form_whole it else []

-- of commands, one behind the other
abbrev pub forms_text : Option (List ℕ) → List Form → List ℕ
forms_text asked all = flat_map (form_text asked) all

-- of all
abbrev pub helped : Option (List ℕ) → List ℕ
helped asked = forms_text asked forms

-- some command has this word
abbrev pub is_word : List ℕ → Bool
is_word word = is_some (find (has_word word) forms)
