-- Arrays: indexes known and open, rows of two and three dimensions, characters, copies, computed.
use Rattle.std.proofs.Common.{◌≡◌, ℤ, pos, negsuc, List, [], ◌∷◌, false, true, refl}
use Rattle.std.specs.Int.{int_wrap}
use Rattle.host_script.specs.declared.event.End.TheVariants as end
use Rattle.pawn_cells.specs.declared.operator.Operator.TheVariants as operator
use Rattle.pawn_cells.specs.Operators.{binary}
use Rattle.pawn_meaning.specs.Program as node
use Rattle.pawn_meaning.specs.Program.{Array, Expr, Const, Read, Stmt, StaticObject, Program}
use Rattle.pawn_meaning.specs.Program.{ScalarSlot, ReferenceSlot, ArraySlot, OpenSlot}
use Rattle.pawn_meaning.proofs.Programs.{args, function, program_of, array, n, own, p, p_shows}
use Rattle.pawn_meaning.proofs.Programs.{shown, done, ends}

abbrev at : Array → Expr → Expr
at a e = Read (node.Element a e)

abbrev main : List StaticObject → List Stmt → Program
main objects ss = program_of objects (function [] [] ss ∷ []) []

abbrev three : StaticObject
three = array (3 ∷ []) (pos 4 ∷ pos 5 ∷ pos 6 ∷ [])

-- a[i] of a known size: error 4 outside, for negative indexes too
element : ℤ → Program
element i = main (three ∷ []) (node.Return (at (node.Object 0) (Const i)) ∷ [])

inside : shown (element (pos 2)) 0 ≡ done [] (pos 6)
unfolding element
inside = refl

above : shown (element (pos 3)) 0 ≡ ends [] (end.Error (pos 4))
unfolding element
above = refl

negative : shown (element (negsuc 0)) 0 ≡ ends [] (end.Error (pos 4))
unfolding element
negative = refl

-- f(x[]) return x[i]; main() return f(a); and f(a[1]), of which two cells are left
abbrev opened : Array → Expr → Program
opened a i = program_of (three ∷ []) (
    function [] [] (node.Return (node.Call 1 (args (node.Whole a ∷ []))) ∷ [])
    ∷ function (OpenSlot [] ∷ []) (OpenSlot [] ∷ [])
    (node.Return (at (node.ParamArray 0 false) i) ∷ []) ∷ []) []

open_inside : shown (opened (node.Object 0) (n 2)) 1 ≡ done [] (pos 6)
open_inside = refl

open_outside : shown (opened (node.Object 0) (n 3)) 1 ≡ ends [] end.Stray
open_outside = refl

rest_inside : shown (opened (node.From (node.Object 0) (n 1)) (n 1)) 1 ≡ done [] (pos 6)
rest_inside = refl

rest_outside : shown (opened (node.From (node.Object 0) (n 1)) (n 2)) 1 ≡ ends [] end.Stray
rest_outside = refl

from_outside : shown (opened (node.From (node.Object 0) (n 3)) (n 0)) 1
    ≡ ends [] (end.Error (pos 4))
from_outside = refl

-- f(x[]) { x[1] = 5; } writes into the array that main made
abbrev written : Program
written = program_of (three ∷ []) (
    function [] (ArraySlot (3 ∷ []) ∷ []) (
    node.LocalArray 0 0 ∷ node.Do (node.Call 1 (args (node.Whole (node.SlotArray 0) ∷ [])))
    ∷ p (at (node.SlotArray 0) (n 1)) ∷ node.Return (at (node.Object 0) (n 1)) ∷ [])
    ∷ function (OpenSlot [] ∷ []) (OpenSlot [] ∷ [])
    (node.Do (node.Assign (node.Element (node.ParamArray 0 false) (n 1)) (n 9)) ∷ []) ∷ []) []

by_reference : shown written 1 ≡ done (p_shows (pos 9) ∷ []) (pos 5)
by_reference = refl

-- a[2][3]; the first index is tested before the second has its value
abbrev grid : StaticObject
grid = array (2 ∷ 3 ∷ []) (pos 1 ∷ pos 2 ∷ pos 3 ∷ pos 4 ∷ pos 5 ∷ pos 6 ∷ [])

in_grid : shown (main (grid ∷ []) (p (at (node.Row (node.Object 0) (n 1)) (n 2)) ∷ [])) 0
    ≡ done (p_shows (pos 6) ∷ []) (pos 0)
in_grid = refl

row_tested_first : shown (main (grid ∷ [])
    (p (at (node.Row (node.Object 0) (n 2)) (node.Native 0 (args (node.Value (n 1) ∷ [])))) ∷ [])) 0
    ≡ ends [] (end.Error (pos 4))
row_tested_first = refl

-- a[2][2][3]; p(a[i][0][2]), and f(a[1]) for f(x[][3]) return x[1][1];
abbrev planes : StaticObject
planes = array (2 ∷ 2 ∷ 3 ∷ []) (
    pos 1 ∷ pos 2 ∷ pos 3 ∷ pos 4 ∷ pos 5 ∷ pos 6 ∷ pos 7 ∷ pos 8 ∷ pos 9 ∷ pos 10 ∷ pos 11
    ∷ pos 12 ∷ [])

abbrev three_dimensions : Program
three_dimensions = program_of (planes ∷ []) (
    function [] (ScalarSlot ∷ []) (
    node.Local 0 (n 1) ∷ p (at (node.Row (node.Row (node.Object 0) (own 0)) (n 0)) (n 2))
    ∷ node.Return (node.Call 1 (args (node.Whole (node.Row (node.Object 0) (n 1)) ∷ []))) ∷ [])
    ∷ function (OpenSlot (3 ∷ []) ∷ []) (OpenSlot (3 ∷ []) ∷ [])
    (node.Return (at (node.Row (node.ParamArray 0 false) (n 1)) (n 1)) ∷ []) ∷ []) []

in_planes : shown three_dimensions 1 ≡ done (p_shows (pos 9) ∷ []) (pos 11)
in_planes = refl

-- new s[] = !"abcd"; p(s{0}); p(s[0]);
abbrev packed : StaticObject
packed = array (2 ∷ []) (pos 1633837924 ∷ pos 0 ∷ [])

characters : shown (main (packed ∷ [])
    (p (Read (node.Char (node.Object 0) (n 0))) ∷ p (at (node.Object 0) (n 0)) ∷ [])) 0
    ≡ done (p_shows (pos 97) ∷ p_shows (pos 1633837924) ∷ []) (pos 0)
characters = refl

-- s{8} is outside the two cells
character_outside : shown (main (packed ∷ []) (p (Read (node.Char (node.Object 0) (n 8))) ∷ [])) 0
    ≡ ends [] (end.Error (pos 4))
character_outside = refl

-- p(s{1} = 300); p(s{1}); p(++s{3}) of a character 255 is 256, and keeps 0
abbrev bytes : StaticObject
bytes = array (1 ∷ []) (pos 255 ∷ [])

uncut : shown (main (bytes ∷ []) (
    p (node.Assign (node.Char (node.Object 0) (n 1)) (n 300))
    ∷ p (Read (node.Char (node.Object 0) (n 1)))
    ∷ p (node.Step (node.Char (node.Object 0) (n 3)) (pos 1) true)
    ∷ p (Read (node.Char (node.Object 0) (n 3))) ∷ [])) 0
    ≡ done (p_shows (pos 300) ∷ p_shows (pos 44) ∷ p_shows (pos 256) ∷ p_shows (pos 0) ∷ []) (pos 0)
unfolding int_wrap binary
uncut = refl

-- a copy gives 0, takes the literal's cells and leaves the rest
copied : shown (main (three ∷ array (2 ∷ []) (pos 8 ∷ pos 9 ∷ []) ∷ []) (
    p (node.Copy (node.Object 0) (node.Object 1) 2) ∷ p (at (node.Object 0) (n 1))
    ∷ p (at (node.Object 0) (n 2)) ∷ [])) 0
    ≡ done (p_shows (pos 0) ∷ p_shows (pos 9) ∷ p_shows (pos 6) ∷ []) (pos 0)
copied = refl

-- f(&x) { x = x + 1; } main() { f(a[1]); return a[1]; }
abbrev referred : Program
referred = program_of (three ∷ []) (
    function [] [] (node.Do (node.Call 1
    (args (node.Ref (node.Element (node.Object 0) (n 1)) ∷ [])))
    ∷ node.Return (at (node.Object 0) (n 1)) ∷ [])
    ∷ function (ReferenceSlot ∷ []) (ReferenceSlot ∷ []) (
    node.Do (node.Assign (node.Through 0) (node.Binary operator.Add (Read (node.Through 0)) (n 1)))
    ∷ []) ∷ []) []

through : shown referred 1 ≡ done [] (pos 6)
unfolding int_wrap binary
through = refl
