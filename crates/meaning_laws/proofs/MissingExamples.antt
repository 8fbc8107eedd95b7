-- What is missing has the end that stands for it, and what stays stray stays so, computed: of programs
-- that aren't valid, but for the last ones.
use Rattle.std.proofs.Common.{◌≡◌, pos, List, [], ◌∷◌, None, refl, false}
use Rattle.host_script.specs.Script.{plain}
use Rattle.host_script.specs.declared.script.Form.TheVariants as form
use Rattle.host_script.specs.declared.script.Script.{Script}
use Rattle.host_script.specs.declared.event.End.TheVariants as end
use Rattle.host_script.specs.NativeCall.{Fault}
use Rattle.pawn_meaning.specs.Program as node
use Rattle.pawn_meaning.specs.Program.{Expr, Read, Slot, Stmt, StaticObject, Program, ScalarSlot}
use Rattle.pawn_meaning.specs.Program.{ReferenceSlot, ArraySlot, OpenSlot}
use Rattle.pawn_meaning.specs.Told.{Last, Ended, meaning}
use Rattle.pawn_meaning.proofs.Programs.{args, function, program_of, array, n, own, script}
use Rattle.meaning_laws.specs.MeaningWith.{meaning_with}

-- how main ends, with error 77 for what is missing
abbrev under : Script → Program → Last
under it program = (meaning_with (Fault (pos 77)) program it 0 1).last

abbrev missing : Last
missing = Ended (end.Error (pos 77))

-- and as it is
abbrev plainly : Program → Last
plainly program = (meaning program plain 0 1).last

abbrev stray : Last
stray = Ended end.Stray

abbrev three : StaticObject
three = array (3 ∷ []) (pos 4 ∷ pos 5 ∷ pos 6 ∷ [])

-- its sizes say more than it has
abbrev short : StaticObject
short = array (3 ∷ []) (pos 4 ∷ pos 5 ∷ [])

abbrev main : List Slot → List Stmt → Program
main slots ss = program_of (three ∷ short ∷ []) (function [] slots ss ∷ []) []

abbrev gives : List Slot → Expr → Program
gives slots e = main slots (node.Return e ∷ [])

-- ---- slots

-- a cell whose declaration wasn't reached
unmade : under plain (gives (ScalarSlot ∷ []) (own 0)) ≡ missing
unmade = refl

unmade_is_stray : plainly (gives (ScalarSlot ∷ []) (own 0)) ≡ stray
unmade_is_stray = refl

no_slot : under plain (main [] (node.Local 0 (n 7) ∷ [])) ≡ missing
no_slot = refl

no_reference : under plain (gives (ReferenceSlot ∷ []) (Read (node.Through 0))) ≡ missing
no_reference = refl

no_array : under plain (gives (ArraySlot (3 ∷ []) ∷ [])
    (Read (node.Element (node.SlotArray 0) (n 1)))) ≡ missing
no_array = refl

-- ---- places and sizes

past_the_cells : under plain (gives [] (Read (node.Element (node.Object 1) (n 2)))) ≡ missing
past_the_cells = refl

stored_past : under plain (gives [] (node.Assign (node.Element (node.Object 1) (n 2)) (n 9)))
    ≡ missing
stored_past = refl

copied_too_much : under plain (gives [] (node.Copy (node.Object 0) (node.Object 0) 4)) ≡ missing
copied_too_much = refl

character_by_reference : under plain (gives []
    (node.Native 0 (args (node.Ref (node.Char (node.Object 0) (n 1)) ∷ [])))) ≡ missing
character_by_reference = refl

seen_past : under (script (form.Cells 3 ∷ []) None [])
    (gives [] (node.Native 1 (args (node.Whole (node.Object 1) ∷ [])))) ≡ missing
seen_past = refl

-- ---- tables

no_object : under plain (gives [] (Read (node.Global 2))) ≡ missing
no_object = refl

no_function : under plain (gives [] (node.Call 1 (args []))) ≡ missing
no_function = refl

no_automaton : under plain (main [] (node.State 0 0 node.Absent ∷ [])) ≡ missing
no_automaton = refl

-- ---- what stays a stray access

-- f(x[]) return x[3]; main() return f(three)
open_outside : under plain (program_of (three ∷ []) (
    function [] [] (node.Return (node.Call 1 (args (node.Whole (node.Object 0) ∷ []))) ∷ [])
    ∷ function (OpenSlot [] ∷ []) (OpenSlot [] ∷ [])
    (node.Return (Read (node.Element (node.ParamArray 0 false) (n 3))) ∷ []) ∷ []) []) ≡ stray
open_outside = refl

value_by_reference : under (script (form.Ref ∷ []) None [])
    (gives [] (node.Native 1 (args (node.Value (n 3) ∷ [])))) ≡ stray
value_by_reference = refl

text_without_end : under (script (form.Text ∷ []) None [])
    (gives [] (node.Native 1 (args (node.Whole (node.Object 0) ∷ [])))) ≡ stray
text_without_end = refl

with_parameters : under plain (program_of [] (function (ScalarSlot ∷ []) (ScalarSlot ∷ [])
    (node.Return (own 0) ∷ []) ∷ []) []) ≡ stray
with_parameters = refl
