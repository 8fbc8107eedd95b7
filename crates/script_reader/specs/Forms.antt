-- The forms of a native's arguments: `cell`, `ref`, `text`, and `cells:` with a number in plain
-- decimal.
use Rattle.std.specs.Prelude.{ℕ, ◌+◌, ◌-◌, ◌*◌, Bool, true, ◌&&◌, ◌||◌, ◌==◌, not, List, [], ◌∷◌}
use Rattle.std.specs.Prelude.{◌++◌, codes, length, slice_index, take, drop, Option, Some, None}
use Rattle.std.specs.Prelude.{nat_le, nat_lt, bytes_eq, if◌then◌else◌}
use Rattle.serde_json.specs.Data.{Data}
use Rattle.serde_json.specs.Find.{as_str, as_array}
use Rattle.host_script.specs.declared.script.TheConstants.{CELL_LIMIT, FORM_LIMIT}
use Rattle.host_script.specs.declared.script.Form.{Form}
use Rattle.host_script.specs.declared.script.Form.TheVariants as form
use Rattle.script_reader.specs.declared.fault.Field.{Field}
use Rattle.script_reader.specs.declared.fault.Field.TheVariants as field
use Rattle.script_reader.specs.declared.fault.ScriptFault.TheVariants.{Shape}
use Rattle.script_reader.specs.Verdict.{Verdict, Stands, broken, after, each}
use Rattle.script_reader.specs.Rules.{typed, ranged, counted}

-- each byte is a decimal digit
abbrev pub all_digits : List ℕ → Bool
all_digits [] = true
all_digits (b ∷ bs) = (nat_le 48 b && nat_le b 57) && all_digits bs

-- digits, with no 0 before another
unfoldable pub is_plain : List ℕ → Bool
is_plain digits =
    nat_lt 0 (length digits) && (length digits == 1 || not (slice_index digits 0 == 48))
    && all_digits digits

-- the number that digits spell; one above the limit isn't told from others
abbrev pub count_of : ℕ → List ℕ → ℕ
count_of n [] = n
count_of n (d ∷ ds) = if nat_lt CELL_LIMIT n then n else count_of (n * 10 + (d - 48)) ds

-- the count of an array's cells, from 1 to the limit
unfoldable pub count_rule : Field → List ℕ → Verdict Form
count_rule at digits =
    if is_plain digits
    then ranged at (nat_le 1 (count_of 0 digits) && nat_le (count_of 0 digits) CELL_LIMIT)
    (form.Cells (count_of 0 digits))
    else broken (Shape at)

-- what stands behind `cells:`
unfoldable pub after_cells : List ℕ → Option (List ℕ)
after_cells text =
    if nat_le 6 (length text) && bytes_eq (take 6 text) (codes "cells:") then Some (drop 6 text)
    else None

-- a form by its text
unfoldable pub word_rule : Field → List ℕ → Verdict Form
word_rule at text =
    if bytes_eq text (codes "cell") then Stands form.Cell
    else if bytes_eq text (codes "ref") then Stands form.Ref
    else if bytes_eq text (codes "text") then Stands form.Text
    else typed at (count_rule at) (after_cells text)

-- a form is a string
unfoldable pub form_rule : Field → Data → Verdict Form
form_rule at d = typed at (word_rule at) (as_str d)

-- one form more
unfoldable pub form_step : List Form → Data → Verdict (List Form)
form_step done d = after (form_rule field.Forms d) (λ form. Stands (done ++ form ∷ []))

-- a list of forms, not too long
unfoldable pub forms_rule : Data → Verdict (List Form)
forms_rule d = typed field.Forms (counted field.Forms FORM_LIMIT (each form_step [])) (as_array d)
