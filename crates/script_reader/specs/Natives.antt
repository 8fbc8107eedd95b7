-- The natives of a script, no name twice.
use Rattle.std.specs.Prelude.{ℕ, ℤ, Bool, ◌&&◌, List, [], ◌∷◌, ◌++◌, map, codes, length, Option}
use Rattle.std.specs.Prelude.{None, nat_le, nat_lt, if◌then◌else◌}
use Rattle.std.specs.List.{list_all}
use Rattle.serde_json.specs.Data.{Data}
use Rattle.serde_json.specs.Find.{get, as_str, as_array, as_object}
use Rattle.pawn_base.specs.Among.{is_among}
use Rattle.host_script.specs.declared.script.TheConstants.{NAME_LIMIT}
use Rattle.host_script.specs.declared.script.Native.{Native}
use Rattle.host_script.specs.declared.script.Form.{Form}
use Rattle.script_reader.specs.declared.fault.Field.TheVariants as field
use Rattle.script_reader.specs.declared.fault.ScriptFault.TheVariants.{Shape}
use Rattle.script_reader.specs.Verdict.{Verdict, Stands, broken, after, also, each}
use Rattle.script_reader.specs.Rules.{fields_rule, optional, some_rule, required, typed, ranged}
use Rattle.script_reader.specs.Rules.{cell_rule}
use Rattle.script_reader.specs.Forms.{form_rule, forms_rule}

-- so many bytes as a name may have
unfoldable pub is_name : List ℕ → Bool
is_name text =
    list_all (λ byte. nat_lt byte 256) text
    && (nat_le 1 (length text) && nat_le (length text) NAME_LIMIT)

-- a name is a string
unfoldable pub name_rule : Data → Verdict (List ℕ)
name_rule d = typed field.Name (λ text. ranged field.Name (is_name text) text) (as_str d)

-- what an entry may have; only the name must be there
abbrev pub native_fields : List (List ℕ)
native_fields = codes "name" ∷ codes "forms" ∷ codes "rest" ∷ codes "result" ∷ []

-- an entry of these parts
abbrev pub native_with : List ℕ → List Form → Option Form → Option ℤ → Native
native_with name forms rest result =
    record { name = name; forms = forms; rest = rest; result = result }

-- what is absent is no forms, no rest and no result
unfoldable pub native_rule : Data → Verdict Native
native_rule d =
    after (fields_rule field.Natives native_fields (as_object d)) (λ _.
    also (also (also (also (Stands native_with)
    (required field.Natives name_rule (get (codes "name") d)))
    (optional [] forms_rule (get (codes "forms") d)))
    (optional None (some_rule (form_rule field.Rest)) (get (codes "rest") d)))
    (optional None (some_rule (cell_rule field.Result)) (get (codes "result") d)))

-- in the order of their entries
abbrev pub names_of : List Native → List (List ℕ)
names_of natives = map (λ (native : Native). native.name) natives

-- a native whose name isn't among those before it
unfoldable pub added_rule : List Native → Native → Verdict (List Native)
added_rule done native =
    if is_among native.name (names_of done) then broken (Shape field.Name)
    else Stands (done ++ native ∷ [])

-- one native more
unfoldable pub native_step : List Native → Data → Verdict (List Native)
native_step done d = after (native_rule d) (added_rule done)

-- a list of natives
unfoldable pub natives_rule : Data → Verdict (List Native)
natives_rule d = typed field.Natives (each native_step []) (as_array d)
