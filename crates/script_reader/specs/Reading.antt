-- The script that bytes are, and what reading them answers.
use Rattle.std.specs.Prelude.{◌≡◌, ℕ, Bool, false, List, [], ◌∷◌, codes, Some, Option, None, IsUtf8}
use Rattle.std.specs.Prelude.{Result, Ok, Err}
use Rattle.serde_json.specs.Data.{Data}
use Rattle.serde_json.specs.Find.{get, as_object}
use Rattle.serde_json.specs.Read.{read}
use Rattle.host_script.specs.declared.script.Script.{Script}
use Rattle.host_script.specs.declared.script.Native.{Native}
use Rattle.host_script.specs.declared.script.Answer.{Answer}
use Rattle.script_reader.specs.declared.fault.Field.TheVariants as field
use Rattle.script_reader.specs.declared.fault.ScriptFault.{ScriptFault}
use Rattle.script_reader.specs.declared.fault.ScriptFault.TheVariants.{Json, Shape, Range, Memory}
use Rattle.script_reader.specs.Verdict.{Verdict, Stands, after, also, Fails}
use Rattle.script_reader.specs.Rules.{fields_rule, optional, flag_rule}
use Rattle.script_reader.specs.Natives.{natives_rule}
use Rattle.script_reader.specs.Replies.{answers_rule}

-- all parts together
abbrev pub script_with : Bool → List Native → List Answer → Script
script_with others natives answers =
    record { others = others; natives = natives; answers = answers }

-- the script that a JSON value means
unfoldable pub script_rule : Data → Verdict Script
script_rule d =
    after (fields_rule field.Script (codes "others" ∷ codes "natives" ∷ codes "answers" ∷ [])
    (as_object d)) (λ _.
    also (also (also (Stands script_with)
    (optional false (flag_rule field.Others) (get (codes "others") d)))
    (optional [] natives_rule (get (codes "natives") d)))
    (optional [] answers_rule (get (codes "answers") d)))

-- the library reads this value from the bytes
pub record IsJson (bytes : List ℕ) (d : Data) : Type 0 where
  pub utf8 : IsUtf8 bytes
  pub reads : read bytes ≡ Some d

-- a script where the value is one; no JSON where there is no value; else a field that breaks its
-- form, or want of memory
abbrev pub ReadsScript : List ℕ → Result Script ScriptFault → Type 0
ReadsScript bytes (Ok script) = (d : Data) × (IsJson bytes d × (script_rule d ≡ Stands script))
ReadsScript bytes (Err Json) = (d : Data) → IsJson bytes d → ⊥
ReadsScript bytes (Err (Shape field)) =
    (d : Data) × (IsJson bytes d × Fails (script_rule d) (Shape field))
ReadsScript bytes (Err (Range field)) =
    (d : Data) × (IsJson bytes d × Fails (script_rule d) (Range field))
ReadsScript bytes (Err Memory) = Unit {0}

-- ---- the numbers and names of refusals, as they are printed

-- none for want of memory, which isn't the script's fault
abbrev pub number_of : ScriptFault → Option ℕ
number_of Json = Some 130
number_of (Shape field) = Some 131
number_of (Range field) = Some 132
number_of Memory = None
