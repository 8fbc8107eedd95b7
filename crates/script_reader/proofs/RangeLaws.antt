-- A script that was read keeps its form.
use Rattle.std.proofs.Common.{◌≡◌, ◌≤◌, ℕ, zero, ℤ, pos, negsuc, suc, Bool, true, false, List, []}
use Rattle.std.proofs.Common.{◌∷◌, ◌++◌, length, Option, None, Some, Result, Ok, Err, arith}
use Rattle.std.proofs.Common.{true≢false, nat_le, w32, FitsSigned}
use Rattle.std.specs.Prelude.{◌≤ℤ◌, ◌&&◌, ⊤, option_and_then, All, IfSome, IfOk, codes, nat_eq}
use Rattle.std.specs.Prelude.{int_le, bytes_eq, if◌then◌else◌}
use Rattle.std.specs.List.{IsDistinct}
use Rattle.std.specs.Ordering.{int_eq}
use Rattle.std.specs.Cmp.Lexicographic.{pointwise}
use Rattle.std.proofs.lemmas.Bool.{leb-true}
use Rattle.std.proofs.lemmas.Float.{T_from_true}
use Rattle.std.proofs.lemmas.List.{map-append}
use Rattle.std.proofs.lemmas.List.Elements.{All-append}
use Rattle.serde_json.specs.Data.{Data}
use Rattle.serde_json.specs.Events.{items_len}
use Rattle.serde_json.specs.Find.{get, as_object, as_str, as_array, as_integer, as_number, as_u64}
use Rattle.serde_json.specs.Find.{is_float}
use Rattle.pawn_base.specs.Among.{is_among}
use Rattle.host_script.specs.declared.script.TheConstants.{CELL_LIMIT, FORM_LIMIT, ARGUMENT_LIMIT}
use Rattle.host_script.specs.declared.script.TheConstants.{ANSWER_LIMIT}
use Rattle.host_script.specs.declared.script.Script.{Script}
use Rattle.host_script.specs.declared.script.Native.{Native}
use Rattle.host_script.specs.declared.script.Form.{Form}
use Rattle.host_script.specs.declared.script.Form.TheVariants as form
use Rattle.host_script.specs.declared.script.Answer.{Answer}
use Rattle.host_script.specs.declared.script.Answer.TheVariants.{Error}
use Rattle.host_script.specs.declared.script.Write.{Write}
use Rattle.host_script.specs.Ranges.{IsName, IsNative, IsForm, IsWrite, IsAnswer, IsScript}
use Rattle.script_reader.specs.declared.fault.Field.{Field}
use Rattle.script_reader.specs.declared.fault.Field.TheVariants as field
use Rattle.script_reader.specs.declared.fault.ScriptFault.{ScriptFault}
use Rattle.script_reader.specs.declared.fault.ScriptFault.TheVariants.{Shape, Range}
use Rattle.script_reader.specs.Verdict.{Stands, broken, also, each, Follows}
use Rattle.script_reader.specs.Rules.{is_within, whole_rule, cell_rule, natural_rule, natural_by}
use Rattle.script_reader.specs.Rules.{fields_rule, optional, required, some_rule, ranged, typed}
use Rattle.script_reader.specs.Rules.{flag_rule}
use Rattle.script_reader.specs.Forms.{form_rule, forms_rule, form_step, word_rule, count_rule}
use Rattle.script_reader.specs.Forms.{count_of, is_plain, after_cells}
use Rattle.script_reader.specs.Natives.{is_name, name_rule, native_fields, native_with, native_rule}
use Rattle.script_reader.specs.Natives.{native_step, natives_rule, added_rule, names_of}
use Rattle.script_reader.specs.Replies.{cell_step, cells_rule, write_with, write_rule, write_step}
use Rattle.script_reader.specs.Replies.{writes_rule, error_rule, given_with, answer_by, answer_rule}
use Rattle.script_reader.specs.Replies.{answer_step, answers_rule}
use Rattle.script_reader.specs.Reading.{script_with, script_rule}
use Rattle.script_reader.proofs.HoldsLaws.{Holds, holds_is, holds_nothing, holds_weaker}
use Rattle.script_reader.proofs.HoldsLaws.{holds_after, holds_also, holds_else, holds_then}
use Rattle.script_reader.proofs.HoldsLaws.{holds_ranged, holds_typed, holds_optional}
use Rattle.script_reader.proofs.HoldsLaws.{holds_required, holds_some, holds_each, holds_elements}
use Rattle.script_reader.proofs.HoldsLaws.{no_elements}
use Rattle.script_reader.proofs.NameLaws.{both_true, is_name_tells, not_among, distinct_more}

-- ---- numbers

abbrev IsBetween : ℤ → ℤ → ℤ → Type 0
IsBetween low high z = is_within low high z ≡ true

whole_holds : (at : Field) (low high : ℤ) (d : Data)
    → Holds (IsBetween low high) (whole_rule at low high d)
unfolding whole_rule
whole_holds at low high d =
    holds_typed (IsBetween low high) at (λ z. ranged at (is_within low high z) z)
    (option_and_then as_integer (as_number d))
    (λ z. holds_ranged (IsBetween low high) at _ z (λ e. e))

cell_within : (z : ℤ) → is_within (negsuc 2147483647) (pos 2147483647) z ≡ true → FitsSigned w32 z
cell_within (pos n) e = let h = leb-true n 2147483647 e in omega arith
cell_within (negsuc n) e = let h = leb-true n 2147483647 (both_true _ _ e).0 in omega arith

cell_holds : (at : Field) (d : Data) → Holds (FitsSigned w32) (cell_rule at d)
cell_holds at d =
    holds_weaker (IsBetween (negsuc 2147483647) (pos 2147483647)) (FitsSigned w32)
    (cell_rule at d) cell_within (whole_holds at (negsuc 2147483647) (pos 2147483647) d)

-- ---- forms

count_holds : (at : Field) (digits : List ℕ) → Holds IsForm (count_rule at digits)
unfolding count_rule
count_holds at digits =
    let n = count_of 0 digits in
    holds_then IsForm (is_plain digits)
    (ranged at (nat_le 1 n && nat_le n CELL_LIMIT) (form.Cells n)) (broken (Shape at))
    (λ plain. holds_ranged IsForm at (nat_le 1 n && nat_le n CELL_LIMIT) (form.Cells n) (λ e.
    let b = both_true (nat_le 1 n) (nat_le n CELL_LIMIT) e in
    (leb-true 1 n b.0, leb-true n CELL_LIMIT b.1))) tt

form_holds : (at : Field) (d : Data) → Holds IsForm (form_rule at d)
unfolding form_rule word_rule
form_holds at d = holds_typed IsForm at (word_rule at) (as_str d) (λ text.
    let counted = typed at (count_rule at) (after_cells text) in
    let texts = if bytes_eq text (codes "text") then Stands form.Text else counted in
    let refs = if bytes_eq text (codes "ref") then Stands form.Ref else texts in
    holds_else IsForm (bytes_eq text (codes "cell")) (Stands form.Cell) refs tt (λ c.
    holds_else IsForm (bytes_eq text (codes "ref")) (Stands form.Ref) texts tt (λ r.
    holds_else IsForm (bytes_eq text (codes "text")) (Stands form.Text) counted tt (λ t.
    holds_typed IsForm at (count_rule at) (after_cells text) (count_holds at)))))

abbrev AreForms : List Form → Type 0
AreForms forms = All IsForm forms × (length forms ≤ FORM_LIMIT)

forms_hold : (d : Data) → Holds AreForms (forms_rule d)
unfolding forms_rule form_step
forms_hold d = holds_typed AreForms field.Forms _ (as_array d) (λ items.
    holds_then AreForms (nat_le (items_len items) FORM_LIMIT) (each form_step [] items)
    (broken (Range field.Forms))
    (λ few. holds_weaker (λ forms. All IsForm forms × (length forms ≡ items_len items)) AreForms
    (each form_step [] items)
    (λ forms grown. (grown.0, omega (arith, grown.1, leb-true (items_len items) FORM_LIMIT few)))
    (holds_elements IsForm (form_rule field.Forms) (form_holds field.Forms) items)) tt)

-- ---- natives

name_holds : (d : Data) → Holds IsName (name_rule d)
unfolding name_rule
name_holds d =
    holds_typed IsName field.Name (λ text. ranged field.Name (is_name text) text) (as_str d)
    (λ text. holds_ranged IsName field.Name (is_name text) text (is_name_tells text))

native_holds : (d : Data) → Holds IsNative (native_rule d)
unfolding native_rule
native_holds d =
    let Rest : Option Form → Type 0 = λ rest. IfSome rest IsForm in
    let Result : Option ℤ → Type 0 = λ result. IfSome result (FitsSigned w32) in
    let name = required field.Natives name_rule (get (codes "name") d) in
    let forms = optional [] forms_rule (get (codes "forms") d) in
    let rest = optional None (some_rule (form_rule field.Rest)) (get (codes "rest") d) in
    let result = optional None (some_rule (cell_rule field.Result)) (get (codes "result") d) in
    holds_after (λ x. ⊤) IsNative (fields_rule field.Natives native_fields (as_object d))
    (λ x. also (also (also (also (Stands native_with) name) forms) rest) result)
    (holds_nothing (fields_rule field.Natives native_fields (as_object d))) (λ x t.
    holds_also Result IsNative (also (also (also (Stands native_with) name) forms) rest) result
    (holds_also Rest (λ f. (z : Option ℤ) → Result z → IsNative (f z))
    (also (also (Stands native_with) name) forms) rest
    (holds_also AreForms (λ f. (r : Option Form) → Rest r → (z : Option ℤ) → Result z
    → IsNative (f r z)) (also (Stands native_with) name) forms
    (holds_also IsName (λ f. (fs : List Form) → AreForms fs → (r : Option Form) → Rest r
    → (z : Option ℤ) → Result z → IsNative (f fs r z)) (Stands native_with) name
    (λ n hn fs hf r hr z hz. record
    { name = hn; count = hf.1; forms = hf.0; rest = hr; result = hz })
    (holds_required IsName field.Natives name_rule (get (codes "name") d) name_holds))
    (holds_optional AreForms [] forms_rule (get (codes "forms") d)
    (no_elements IsForm, omega arith) forms_hold))
    (holds_optional Rest None (some_rule (form_rule field.Rest)) (get (codes "rest") d) tt
    (holds_some IsForm Rest (form_rule field.Rest) (λ x h. h) (form_holds field.Rest))))
    (holds_optional Result None (some_rule (cell_rule field.Result)) (get (codes "result") d) tt
    (holds_some (FitsSigned w32) Result (cell_rule field.Result) (λ x h. h)
    (cell_holds field.Result))))

abbrev AreNatives : List Native → Type 0
AreNatives natives = All IsNative natives × IsDistinct (pointwise nat_eq) (names_of natives)

one_native : (native : Native) → IsNative native → All IsNative (native ∷ [])
one_native native h zero d l = h
one_native native h (suc k) d l = absurd (omega (arith, l))

added_holds : (done : List Native) (native : Native) → AreNatives done → IsNative native
    → Holds AreNatives (added_rule done native)
unfolding added_rule
added_holds done native all is =
    holds_else AreNatives (is_among native.name (names_of done)) (broken (Shape field.Name))
    (Stands (done ++ native ∷ [])) tt (λ new. (
      All-append IsNative done (native ∷ []) all.0 (one_native native is),
      rw (map-append (λ (n : Native). n.name) done (native ∷ []))
          (distinct_more (pointwise nat_eq) (names_of done) native.name all.1
          (not_among native.name (names_of done) new)),
    ))

natives_hold : (d : Data) → Holds AreNatives (natives_rule d)
unfolding natives_rule native_step IsDistinct
natives_hold d = holds_typed AreNatives field.Natives (each native_step []) (as_array d) (λ items.
    holds_each AreNatives native_step
    (λ done item all. holds_after IsNative AreNatives (native_rule item) (added_rule done)
    (native_holds item) (λ native is. added_holds done native all is))
    [] items (no_elements IsNative, tt))

-- ---- answers

cells_hold : (d : Data) → Holds (All (FitsSigned w32)) (cells_rule d)
unfolding cells_rule cell_step
cells_hold d =
    holds_typed (All (FitsSigned w32)) field.Cells (each cell_step []) (as_array d) (λ items.
    holds_weaker (λ cells. All (FitsSigned w32) cells × (length cells ≡ items_len items))
    (All (FitsSigned w32)) (each cell_step [] items) (λ cells grown. grown.0)
    (holds_elements (FitsSigned w32) (cell_rule field.Cells) (cell_holds field.Cells) items))

natural_holds : (at : Field) (high : ℕ) (d : Data) → Holds (λ n. n ≤ high) (natural_rule at high d)
unfolding natural_rule
natural_holds at high d =
    holds_typed (λ n. n ≤ high) at _ (as_number d)
    (λ number. cases (as_u64 number) (is_float number)) where
      cases : (whole : Option ℕ) (float : Bool) → Holds (λ n. n ≤ high) (natural_by at high whole float)
      cases (Some n) float = holds_ranged (λ n. n ≤ high) at (nat_le n high) n (leb-true n high)
      cases None true = tt
      cases None false = tt

write_holds : (d : Data) → Holds IsWrite (write_rule d)
unfolding write_rule
write_holds d =
    let arg = required field.Writes (natural_rule field.Arg ARGUMENT_LIMIT) (get (codes "arg") d) in
    let cells = required field.Writes cells_rule (get (codes "cells") d) in
    holds_after (λ x. ⊤) IsWrite (fields_rule field.Writes (codes "arg" ∷ codes "cells" ∷ [])
    (as_object d)) (λ x. also (also (Stands write_with) arg) cells)
    (holds_nothing (fields_rule field.Writes (codes "arg" ∷ codes "cells" ∷ []) (as_object d)))
    (λ x t.
    holds_also (All (FitsSigned w32)) IsWrite (also (Stands write_with) arg) cells
    (holds_also (λ n. n ≤ ARGUMENT_LIMIT)
    (λ f. (cs : List ℤ) → All (FitsSigned w32) cs → IsWrite (f cs)) (Stands write_with) arg
    (λ n hn cs hc. record { arg = hn; cells = hc })
    (holds_required (λ n. n ≤ ARGUMENT_LIMIT) field.Writes (natural_rule field.Arg ARGUMENT_LIMIT)
    (get (codes "arg") d) (natural_holds field.Arg ARGUMENT_LIMIT)))
    (holds_required (All (FitsSigned w32)) field.Writes cells_rule
    (get (codes "cells") d) cells_hold))

writes_hold : (d : Data) → Holds (All IsWrite) (writes_rule d)
unfolding writes_rule write_step
writes_hold d = holds_typed (All IsWrite) field.Writes (each write_step []) (as_array d) (λ items.
    holds_weaker (λ writes. All IsWrite writes × (length writes ≡ items_len items)) (All IsWrite)
    (each write_step [] items) (λ writes grown. grown.0)
    (holds_elements IsWrite write_rule write_holds items))

error_within : (z : ℤ) → is_within (pos 2) (pos 127) z ≡ true → (pos 2 ≤ℤ z) × (z ≤ℤ pos 127)
error_within z e =
    let both = both_true (int_le (pos 2) z) (int_le z (pos 127)) e in (
      record { le = T_from_true (int_le (pos 2) z) both.0 },
      record { le = T_from_true (int_le z (pos 127)) both.1 },
    )

error_holds : (d : Data) → Holds IsAnswer (error_rule d)
unfolding error_rule
error_holds d =
    holds_after (IsBetween (pos 2) (pos 127)) IsAnswer
    (whole_rule field.Error (pos 2) (pos 127) d) _ (whole_holds field.Error (pos 2) (pos 127) d)
    (λ code within.
    let range = error_within code within in
    holds_else IsAnswer (int_eq code (pos 12)) (broken (Range field.Error)) (Stands (Error code)) tt
    (λ other.
    (range.0, range.1, λ same. absurd (true≢false (rw same at other)))))

answer_by_holds : (d : Data) (error : Option Data) → Holds IsAnswer (answer_by d error)
answer_by_holds d None =
    let result = optional (pos 0) (cell_rule field.Result) (get (codes "result") d) in
    let writes = optional [] writes_rule (get (codes "writes") d) in
    holds_also (All IsWrite) IsAnswer (also (Stands given_with) result) writes
    (holds_also (FitsSigned w32) (λ f. (ws : List Write) → All IsWrite ws → IsAnswer (f ws))
    (Stands given_with) result
    (λ z hz ws hw. (hz, hw))
    (holds_optional (FitsSigned w32) (pos 0) (cell_rule field.Result) (get (codes "result") d)
    (omega arith) (cell_holds field.Result)))
    (holds_optional (All IsWrite) [] writes_rule (get (codes "writes") d)
    (no_elements IsWrite) writes_hold)
answer_by_holds d (Some error) =
    let fields = fields_rule field.Error (codes "error" ∷ []) (as_object d) in
    holds_after (λ x. ⊤) IsAnswer fields (λ x. error_rule error) (holds_nothing fields)
    (λ x t. error_holds error)

answer_holds : (d : Data) → Holds IsAnswer (answer_rule d)
unfolding answer_rule
answer_holds d =
    let fields =
    fields_rule field.Answers (codes "result" ∷ codes "writes" ∷ codes "error" ∷ [])
    (as_object d) in
    holds_after (λ x. ⊤) IsAnswer fields (λ x. answer_by d (get (codes "error") d))
    (holds_nothing fields) (λ x t. answer_by_holds d (get (codes "error") d))

abbrev AreAnswers : List Answer → Type 0
AreAnswers answers = All IsAnswer answers × (length answers ≤ ANSWER_LIMIT)

answers_hold : (d : Data) → Holds AreAnswers (answers_rule d)
unfolding answers_rule answer_step
answers_hold d = holds_typed AreAnswers field.Answers _ (as_array d) (λ items.
    holds_then AreAnswers (nat_le (items_len items) ANSWER_LIMIT) (each answer_step [] items)
    (broken (Range field.Answers))
    (λ few. holds_weaker (λ answers. All IsAnswer answers × (length answers ≡ items_len items))
    AreAnswers (each answer_step [] items)
    (λ answers grown. (
      grown.0,
      omega
          (arith, grown.1, leb-true (items_len items) ANSWER_LIMIT few),
    ))
    (holds_elements IsAnswer answer_rule answer_holds items)) tt)

-- ---- the whole

script_holds : (d : Data) → Holds IsScript (script_rule d)
unfolding script_rule IsDistinct
script_holds d =
    let fields =
    fields_rule field.Script (codes "others" ∷ codes "natives" ∷ codes "answers" ∷ [])
    (as_object d) in
    let others = optional false (flag_rule field.Others) (get (codes "others") d) in
    let natives = optional [] natives_rule (get (codes "natives") d) in
    let answers = optional [] answers_rule (get (codes "answers") d) in
    holds_after (λ x. ⊤) IsScript fields
    (λ x. also (also (also (Stands script_with) others) natives) answers)
    (holds_nothing fields) (λ x t.
    holds_also AreAnswers IsScript (also (also (Stands script_with) others) natives) answers
    (holds_also AreNatives (λ f. (more : List Answer) → AreAnswers more → IsScript (f more))
    (also (Stands script_with) others) natives
    (holds_also (λ x. ⊤) (λ f. (ns : List Native) → AreNatives ns → (more : List Answer)
    → AreAnswers more → IsScript (f ns more)) (Stands script_with) others
    (λ o ho ns hn more ha. record { natives = hn.0; once = hn.1; answers = ha.0; count = ha.1 })
    (holds_nothing others))
    (holds_optional AreNatives [] natives_rule (get (codes "natives") d)
    (no_elements IsNative, tt) natives_hold))
    (holds_optional AreAnswers [] answers_rule (get (codes "answers") d)
    (no_elements IsAnswer, omega arith) answers_hold))

pub read_is_script : (d : Data) (result : Result Script ScriptFault)
    → Follows (script_rule d) result → IfOk result IsScript
read_is_script d (Ok script) reads = holds_is IsScript (script_rule d) script (script_holds d) reads
read_is_script d (Err fault) fails = tt
