-- Native calls with each form, writes and refusals, computed.
use Rattle.std.proofs.Common.{◌≡◌, ℕ, ℤ, pos, List, [], ◌∷◌, Some, None, codes, refl}
use Rattle.host_script.specs.declared.script.Form.{Form}
use Rattle.host_script.specs.declared.script.Form.TheVariants as form
use Rattle.host_script.specs.declared.script.Answer.{Answer}
use Rattle.host_script.specs.declared.script.Answer.TheVariants as answer
use Rattle.host_script.specs.declared.event.Seen.{Seen}
use Rattle.host_script.specs.declared.event.Seen.TheVariants as seen
use Rattle.host_script.specs.declared.event.Event.{Event}
use Rattle.host_script.specs.declared.event.Event.TheVariants as event
use Rattle.host_script.specs.declared.event.End.TheVariants as end
use Rattle.pawn_meaning.specs.Program as node
use Rattle.pawn_meaning.specs.Program.{Arg, Expr, Read, Stmt, StaticObject, Program, ScalarSlot}
use Rattle.pawn_meaning.specs.Program.{ArraySlot, OpenSlot}
use Rattle.pawn_meaning.specs.Run.{Outcome, Gives, Stops, More}
use Rattle.pawn_meaning.specs.Told.{whole, scene_of}
use Rattle.pawn_meaning.proofs.Programs.{args, function, program_of, array, n, own, p, p_shows}
use Rattle.pawn_meaning.proofs.Programs.{shown, Shown, script, shown_with, done, ends}

abbrev w : List Arg → Expr
w arguments = node.Native 1 (args arguments)

abbrev text : StaticObject
text = array (4 ∷ []) (pos 104 ∷ pos 101 ∷ pos 121 ∷ pos 0 ∷ [])

abbrev grid : StaticObject
grid = array (2 ∷ 2 ∷ []) (pos 1 ∷ pos 2 ∷ pos 3 ∷ pos 4 ∷ [])

abbrev main : List Stmt → Program
main ss =
    program_of (text ∷ grid ∷ []) (function [] (ScalarSlot ∷ []) (node.Local 0 (n 7) ∷ ss) ∷ []) []

-- main() { new x = 7; return w(..); }
abbrev asked : List Form → List Answer → List Arg → Shown
asked forms answers arguments =
    shown_with (script forms None answers) (main (node.Return (w arguments) ∷ [])) 0

abbrev w_shows : List Seen → ℤ → Event
w_shows sees result = event.Native (codes "w") sees result

-- ---- what is seen

as_cell : asked (form.Cell ∷ []) [] (node.Value (n 3) ∷ [])
    ≡ done (w_shows (seen.Cell (pos 3) ∷ []) (pos 0) ∷ []) (pos 0)
as_cell = refl

-- w(3, x) with the form ref for all: a value stands in a cell of its own
all_as_references : shown_with (script [] (Some form.Ref) [])
    (main (node.Return (w (node.Temp (n 3) ∷ node.Ref (node.Own 0) ∷ [])) ∷ [])) 0
    ≡ done (w_shows (seen.Ref (pos 3) ∷ seen.Ref (pos 7) ∷ []) (pos 0) ∷ []) (pos 0)
all_as_references = refl

as_text : asked (form.Text ∷ []) [] (node.Whole (node.Object 0) ∷ [])
    ≡ done (w_shows (seen.Text (pos 104 ∷ pos 101 ∷ pos 121 ∷ []) ∷ []) (pos 0) ∷ []) (pos 0)
as_text = refl

-- from the second character on
as_rest : asked (form.Text ∷ []) [] (node.Whole (node.From (node.Object 0) (n 1)) ∷ [])
    ≡ done (w_shows (seen.Text (pos 101 ∷ pos 121 ∷ []) ∷ []) (pos 0) ∷ []) (pos 0)
as_rest = refl

as_cells : asked (form.Cells 2 ∷ []) [] (node.Whole (node.Row (node.Object 1) (n 1)) ∷ [])
    ≡ done (w_shows (seen.Cells (pos 3 ∷ pos 4 ∷ []) ∷ []) (pos 0) ∷ []) (pos 0)
as_cells = refl

-- ---- what no form fits

value_as_reference : asked (form.Ref ∷ []) [] (node.Value (n 3) ∷ []) ≡ ends [] end.Stray
value_as_reference = refl

reference_as_cell : asked (form.Cell ∷ []) [] (node.Ref (node.Own 0) ∷ []) ≡ ends [] end.Stray
reference_as_cell = refl

-- the part of a reference to an element is one cell, and that of the rest from there on is more
beyond_a_cell : asked (form.Cells 2 ∷ []) [] (node.Ref (node.Element (node.Object 0) (n 0)) ∷ [])
    ≡ ends [] end.Stray
beyond_a_cell = refl

beyond_a_row : asked (form.Cells 3 ∷ []) [] (node.Whole (node.Row (node.Object 1) (n 0)) ∷ [])
    ≡ ends [] end.Stray
beyond_a_row = refl

two_dimensions : asked (form.Cells 1 ∷ []) [] (node.Whole (node.Object 1) ∷ []) ≡ ends [] end.Stray
two_dimensions = refl

no_end_of_text : asked (form.Text ∷ []) [] (node.Whole (node.Row (node.Object 1) (n 0)) ∷ [])
    ≡ ends [] end.Stray
no_end_of_text = refl

-- under the plain script each argument is seen as a cell
plain_array : shown (main (node.Return (w (node.Whole (node.Object 0) ∷ [])) ∷ [])) 0
    ≡ ends [] end.Stray
plain_array = refl

-- ---- what is answered

writes : asked (form.Ref ∷ [])
    (answer.Given (pos 5) (record { arg = 0; cells = pos 8 ∷ [] } ∷ []) ∷ [])
    (node.Ref (node.Own 0) ∷ [])
    ≡ done (w_shows (seen.Ref (pos 7) ∷ []) (pos 5) ∷ []) (pos 5)
writes = refl

-- the cell that was written, and a write to a temporary cell, which is lost
abbrev writes_two : Program
writes_two =
    main (node.Do (w (node.Ref (node.Own 0) ∷ node.Temp (own 0) ∷ [])) ∷ node.Return (own 0) ∷ [])

written : shown_with (script (form.Ref ∷ form.Ref ∷ []) None (answer.Given (pos 5)
    (record { arg = 1; cells = pos 9 ∷ [] } ∷ record { arg = 0; cells = pos 8 ∷ [] } ∷ []) ∷ []))
    writes_two 0
    ≡ done (w_shows (seen.Ref (pos 7) ∷ seen.Ref (pos 7) ∷ []) (pos 5) ∷ []) (pos 8)
written = refl

gives_error : asked (form.Cell ∷ []) (answer.Error (pos 7) ∷ []) (node.Value (n 3) ∷ [])
    ≡ ends [] (end.Error (pos 7))
gives_error = refl

forbidden_write : asked (form.Cell ∷ [])
    (answer.Given (pos 0) (record { arg = 0; cells = pos 1 ∷ [] } ∷ []) ∷ [])
    (node.Value (n 3) ∷ [])
    ≡ ends [] (end.Error (pos 10))
forbidden_write = refl

wrong_number : asked (form.Cell ∷ []) [] [] ≡ ends [] (end.Error (pos 10))
wrong_number = refl

-- the number is tested before the arguments are seen
number_first : asked (form.Ref ∷ []) [] (node.Value (n 3) ∷ node.Value (n 4) ∷ [])
    ≡ ends [] (end.Error (pos 10))
number_first = refl

-- ---- the script's position

abbrev position_of : Outcome ⊥ → ℕ
position_of (Gives a x) = elim a [ ]
position_of (Stops it x) = x.position
position_of (More x) = x.position

abbrev position : List Form → List Answer → List Arg → ℕ
position forms answers arguments =
    position_of (whole (scene_of (main (node.Return (w arguments) ∷ []))
    (script forms None answers) 0) 0)

error_is_taken : position (form.Cell ∷ []) (answer.Error (pos 7) ∷ []) (node.Value (n 3) ∷ []) ≡ 1
error_is_taken = refl

forbidden_write_is_taken : position (form.Cell ∷ [])
    (answer.Given (pos 0) (record { arg = 0; cells = [] } ∷ []) ∷ []) (node.Value (n 3) ∷ []) ≡ 1
forbidden_write_is_taken = refl

wrong_number_takes_none : position (form.Cell ∷ []) (answer.Given (pos 0) [] ∷ []) [] ≡ 0
wrong_number_takes_none = refl

unseen_takes_none : position (form.Ref ∷ []) (answer.Given (pos 0) [] ∷ [])
    (node.Value (n 3) ∷ []) ≡ 0
unseen_takes_none = refl

-- ---- defaults and named arguments are values by then

-- f(a, b = 5, c[], k = sizeof c) { p(a); p(b); p(k); } main() f(.c = "hey", .a = 1);
abbrev named : Program
named = program_of (text ∷ []) (
    function [] [] (node.Do (node.Call 1
    (args (node.Value (n 1) ∷ node.Value (n 5) ∷ node.Whole (node.Object 0) ∷ node.Value (n 4)
    ∷ []))) ∷ [])
    ∷ function (ScalarSlot ∷ ScalarSlot ∷ OpenSlot [] ∷ ScalarSlot ∷ [])
    (ScalarSlot ∷ ScalarSlot ∷ OpenSlot [] ∷ ScalarSlot ∷ []) (
    p (own 0) ∷ p (own 1) ∷ p (own 3) ∷ []) ∷ []) []

defaults : shown named 1 ≡ done (p_shows (pos 1) ∷ p_shows (pos 5) ∷ p_shows (pos 4) ∷ []) (pos 0)
defaults = refl
