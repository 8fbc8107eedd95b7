-- Rules for fields, whatever a script has there. A rule names the field that breaks it.
use Rattle.std.specs.Prelude.{ℕ, ℤ, pos, negsuc, Bool, true, false, ◌&&◌, ◌||◌, List, [], ◌∷◌}
use Rattle.std.specs.Prelude.{Option, Some, None, option_and_then, nat_le, int_le, bytes_eq}
use Rattle.std.specs.Prelude.{if◌then◌else◌, ⊤}
use Rattle.serde_json.specs.Data.{Num, Data, Items, Members, no_members, member}
use Rattle.serde_json.specs.Find.{as_bool, as_number, as_integer, as_u64, is_float}
use Rattle.serde_json.specs.Events.{items_len}
use Rattle.script_reader.specs.declared.fault.Field.{Field}
use Rattle.script_reader.specs.declared.fault.ScriptFault.TheVariants.{Shape, Range}
use Rattle.script_reader.specs.Verdict.{Verdict, Stands, broken, after}

-- ---- objects

-- a key is one of these
abbrev pub is_known : List (List ℕ) → List ℕ → Bool
is_known [] key = false
is_known (known ∷ others) key = bytes_eq known key || is_known others key

-- so is the key of each member
abbrev pub has_only : List (List ℕ) → Members → Bool
has_only known no_members = true
has_only known (member key d others) = is_known known key && has_only known others

-- an object with no other fields than these
abbrev pub fields_rule : Field → List (List ℕ) → Option Members → Verdict ⊤
fields_rule field known None = broken (Shape field)
fields_rule field known (Some members) =
    if has_only known members then Stands tt else broken (Shape field)

-- a field that is missing means something too
abbrev pub optional : {A : Type 0} → A → (Data → Verdict A) → Option Data → Verdict A
optional absent rule None = Stands absent
optional absent rule (Some d) = rule d

-- a field that means nothing where it is missing
abbrev pub some_rule : {A : Type 0} → (Data → Verdict A) → Data → Verdict (Option A)
some_rule rule d = after (rule d) (λ x. Stands (Some x))

-- a field that is missing breaks the whole object
abbrev pub required : {A : Type 0} → Field → (Data → Verdict A) → Option Data → Verdict A
required whole rule None = broken (Shape whole)
required whole rule (Some d) = rule d

-- ---- types and ranges

-- a rule for a value of the right type, if it is one
abbrev pub typed : {A B : Type 0} → Field → (A → Verdict B) → Option A → Verdict B
typed field rule None = broken (Shape field)
typed field rule (Some x) = rule x

-- a value of the right type, which may be out of its range
abbrev pub ranged : {A : Type 0} → Field → Bool → A → Verdict A
ranged field fits x = if fits then Stands x else broken (Range field)

-- a list of at most so many items
abbrev pub counted : {A : Type 0} → Field → ℕ → (Items → Verdict A) → Items → Verdict A
counted field most rule items =
    if nat_le (items_len items) most then rule items else broken (Range field)

-- true or false
unfoldable pub flag_rule : Field → Data → Verdict Bool
flag_rule field d = typed field (λ flag. Stands flag) (as_bool d)

-- ---- numbers that the reader of JSON holds as whole ones

-- from a least number to a greatest one
abbrev pub is_within : ℤ → ℤ → ℤ → Bool
is_within low high z = int_le low z && int_le z high

-- a whole number between two
unfoldable pub whole_rule : Field → ℤ → ℤ → Data → Verdict ℤ
whole_rule field low high d =
    typed field (λ z. ranged field (is_within low high z) z)
    (option_and_then as_integer (as_number d))

-- a number that fits a cell
abbrev pub cell_rule : Field → Data → Verdict ℤ
cell_rule field d = whole_rule field (negsuc 2147483647) (pos 2147483647) d

-- a number from 0, by what it is without sign and whether it is held as no whole number
abbrev pub natural_by : Field → ℕ → Option ℕ → Bool → Verdict ℕ
natural_by field high (Some n) _ = ranged field (nat_le n high) n
natural_by field high None true = broken (Shape field)
natural_by field high None false = broken (Range field)

-- a number by how the reader of JSON holds it
abbrev pub natural_of : Field → ℕ → Num → Verdict ℕ
natural_of field high n = natural_by field high (as_u64 n) (is_float n)

-- a number from 0 to a greatest one
unfoldable pub natural_rule : Field → ℕ → Data → Verdict ℕ
natural_rule field high d = typed field (natural_of field high) (as_number d)
