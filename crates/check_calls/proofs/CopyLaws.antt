-- A copy by its source.
use Rattle.std.proofs.Common.{◌≡◌, ℕ, true, false, Result, refl, sym, subst}
use Rattle.pawn_tree.specs.declared.name.At.{At}
use Rattle.pawn_meaning.specs.Program as code
use Rattle.pawn_meaning.specs.Scope.{Extent}
use Rattle.names_rules.specs.Verdict.{Verdict, Stands, Breaks, after}
use Rattle.types_rules.specs.Around.{Around}
use Rattle.types_rules.specs.Typed.{Typed, Form, Value, Place, Whole, Literal, Held}
use Rattle.types_rules.specs.Assignments.{known_line, copied_cells, literal_cells, copied}
use Rattle.types_rules.specs.Assignments.{copy_from, assign_cell, assign_to, set_rule}
use Rattle.pawn_verdict.specs.declared.fault.CheckFault.{CheckFault}
use Rattle.pawn_verdict.specs.Answers.{Answers}
use Rattle.check_nodes.specs.declared.typed.Typed as held
use Rattle.check_nodes.specs.TypedView.{typed_view}
use Rattle.check_calls.specs.Source.{Source, with_cells, source_in, array_target, copy_rule}
use Rattle.check_calls.specs.Source.{is_array_form}

by_cells : (cx : Around) (at : At) (x y : Typed) (to from : code.Array) (cells : Verdict ℕ)
    → after cells (λ n. Stands (copied cx at x y to from n))
    ≡ after (with_cells from cells)
    (λ (it : Source). Stands (copied cx at x y to it.array it.cells))
by_cells cx at x y to from (Stands n) = refl
by_cells cx at x y to from (Breaks faults) = refl

copy_by_source : (cx : Around) (at : At) (x y : Typed) (to : code.Array) (extent : Extent)
    (form : Form) → copy_from cx at x y to extent form
    ≡ after (source_in at (known_line extent) form)
    (λ (it : Source). Stands (copied cx at x y to it.array it.cells))
copy_by_source cx at x y to extent (Value e) = refl
copy_by_source cx at x y to extent (Place p constant) = refl
copy_by_source cx at x y to extent (Whole from reach constant) =
    by_cells cx at x y to from (copied_cells at (known_line extent) (known_line reach))
copy_by_source cx at x y to extent (Literal object size) =
    by_cells cx at x y to (code.Object object) (literal_cells at (known_line extent) size)

by_target : (cx : Around) (at : At) (x y : Typed) (form : Form) → is_array_form form ≡ true
    → assign_to cx at x y form
    ≡ after (array_target at form)
    (λ (to : Held). after (source_in at (known_line to.extent) y.form)
    (λ (it : Source). Stands (copied cx at x y to.array it.array it.cells)))
by_target cx at x y (Value e) h = absurd (cc h)
by_target cx at x y (Place p constant) h = absurd (cc h)
by_target cx at x y (Whole a extent true) h = refl
by_target cx at x y (Whole a extent false) h = copy_by_source cx at x y a extent y.form
by_target cx at x y (Literal object cells) h = refl

set_is_copy : (cx : Around) (at : At) (x y : Typed) → is_array_form x.form ≡ true
    → set_rule cx at x y ≡ copy_rule cx at x y
unfolding set_rule
set_is_copy cx at x y h = by_target cx at x y x.form h

pub set_array : (cx : Around) (at : At) (x y : Typed) (result : Result held.Typed CheckFault)
    → is_array_form x.form ≡ true → Answers typed_view (copy_rule cx at x y) result
    → Answers typed_view (set_rule cx at x y) result
set_array cx at x y result h answered =
    let P : Verdict Typed → Type 0 = λ w. Answers typed_view w result in
    subst P (sym (set_is_copy cx at x y h)) answered

by_cell : (cx : Around) (at : At) (x y : Typed) (form : Form) → is_array_form form ≡ false
    → assign_to cx at x y form ≡ assign_cell cx at x y
by_cell cx at x y (Value e) h = refl
by_cell cx at x y (Place p constant) h = refl
by_cell cx at x y (Whole a extent constant) h = absurd (cc h)
by_cell cx at x y (Literal object cells) h = absurd (cc h)

set_is_one : (cx : Around) (at : At) (x y : Typed) → is_array_form x.form ≡ false
    → set_rule cx at x y ≡ assign_cell cx at x y
unfolding set_rule
set_is_one cx at x y h = by_cell cx at x y x.form h

pub set_cell : (cx : Around) (at : At) (x y : Typed) (result : Result held.Typed CheckFault)
    → is_array_form x.form ≡ false → Answers typed_view (assign_cell cx at x y) result
    → Answers typed_view (set_rule cx at x y) result
set_cell cx at x y result h answered =
    let P : Verdict Typed → Type 0 = λ w. Answers typed_view w result in
    subst P (sym (set_is_one cx at x y h)) answered
