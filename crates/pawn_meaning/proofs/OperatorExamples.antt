-- User operators, conversions and automata, computed.
use Rattle.std.proofs.Common.{◌≡◌, ℕ, pos, List, [], ◌∷◌, Some, None, Option, false, true, codes}
use Rattle.std.proofs.Common.{refl}
use Rattle.std.specs.Int.{int_wrap}
use Rattle.host_script.specs.declared.event.End.TheVariants as end
use Rattle.pawn_cells.specs.declared.operator.Operator.TheVariants as operator
use Rattle.pawn_cells.specs.declared.operator.Comparison.TheVariants as comparison
use Rattle.pawn_cells.specs.Operators.{binary}
use Rattle.pawn_meaning.specs.Program as node
use Rattle.pawn_meaning.specs.Program.{Expr, Const, Perhaps, Absent, Present, Stmt, Body, Function}
use Rattle.pawn_meaning.specs.Program.{Automaton, Program, ScalarSlot, no_links, then_link}
use Rattle.pawn_meaning.specs.Told.{Ended, meaning}
use Rattle.host_script.specs.Script.{plain}
use Rattle.pawn_meaning.proofs.Programs.{block, args, function, program_of, cell, n, own, global, p}
use Rattle.pawn_meaning.proofs.Programs.{p_shows, shown, done}

-- ---- user operators

-- Fixed:f() { p(1); return Fixed:3; } g() { p(2); return 4; } and an operator that gives a * 10 + b
abbrev f_and_g : List Function
f_and_g =
    function [] [] (p (n 1) ∷ node.Return (n 3) ∷ [])
    ∷ function [] [] (p (n 2) ∷ node.Return (n 4) ∷ [])
    ∷ function (ScalarSlot ∷ ScalarSlot ∷ []) (ScalarSlot ∷ ScalarSlot ∷ []) (
    node.Return (node.Binary operator.Add (node.Binary operator.Multiply (own 0) (n 10)) (own 1))
    ∷ []) ∷ []

-- p(g() + f()): evaluated from left to right, and handed over exchanged
abbrev exchanged : Program
exchanged = program_of [] (function [] [] (
    p (node.Operate 3 (node.Call 2 (args [])) (node.Call 1 (args [])) true) ∷ []) ∷ f_and_g) []

evaluated_in_order : shown exchanged 3
    ≡ done (p_shows (pos 2) ∷ p_shows (pos 1) ∷ p_shows (pos 34) ∷ []) (pos 0)
unfolding int_wrap binary
evaluated_in_order = refl

-- x op= e by that operator, whose value a second function converts to its double; one link gives
-- what its operator gave, and of two links 1 or 0 comes
abbrev updated : Program
updated = program_of (cell (pos 2) ∷ []) (function [] [] (
    p (node.UpdateBy (node.Global 0) 1 false (n 5) (Some 2)) ∷ p (global 0)
    ∷ p (node.StepBy (node.Global 0) 2 false) ∷ p (global 0)
    ∷ p (node.Chain (n 1) (then_link comparison.Less (n 2) (Some 1) false no_links))
    ∷ p (node.Chain (n 1) (then_link comparison.Less (n 2) (Some 1) false
    (then_link comparison.Less (n 3) None false no_links))) ∷ [])
    ∷ function (ScalarSlot ∷ ScalarSlot ∷ []) (ScalarSlot ∷ ScalarSlot ∷ []) (
    node.Return (node.Binary operator.Add (node.Binary operator.Multiply (own 0) (n 10)) (own 1))
    ∷ [])
    ∷ function (ScalarSlot ∷ []) (ScalarSlot ∷ [])
    (node.Return (node.Binary operator.Add (own 0) (own 0)) ∷ []) ∷ []) []

converted : shown updated 9 ≡ done (
    p_shows (pos 50) ∷ p_shows (pos 50) ∷ p_shows (pos 50) ∷ p_shows (pos 100) ∷ p_shows (pos 12)
    ∷ p_shows (pos 1) ∷ []) (pos 0)
unfolding int_wrap binary
converted = refl

-- ---- automata

-- bodies for states of the automaton 0, and a fallback
abbrev routed : List (ℕ × ℕ) → Option ℕ → List (List Stmt) → Function
routed cases fallback bodies = record {
  params = [];
  tag = 0;
  dispatch = Some (record { automaton = 0; cases = cases; fallback = fallback });
  bodies = bodies_of bodies;
}
  where
    bodies_of : List (List Stmt) → List Body
    bodies_of [] = []
    bodies_of (ss ∷ others) = record { slots = []; stmt = block ss } ∷ bodies_of others

abbrev automaton : Option ℕ → Automaton
automaton enter = record { name = []; states = codes "on" ∷ codes "off" ∷ []; enter = enter }

-- entry() <on> { p(1); } main() { state on; state on; state (false) on; }
abbrev entering : Program
entering = program_of [] (function [] [] (
    node.State 0 0 Absent ∷ node.State 0 0 Absent ∷ node.State 0 0 (Present (n 0)) ∷ [])
    ∷ routed ((0, 0) ∷ []) None ((p (n 1) ∷ []) ∷ []) ∷ []) (automaton (Some 1) ∷ [])

enters_each_time : shown entering 2 ≡ done (p_shows (pos 1) ∷ p_shows (pos 1) ∷ []) (pos 0)
enters_each_time = refl

-- a state that the entry function doesn't serve takes no turn
abbrev unserved : Program
unserved = program_of [] (function [] [] (node.State 0 1 Absent ∷ p (n 2) ∷ [])
    ∷ routed ((0, 0) ∷ []) None ((p (n 1) ∷ []) ∷ []) ∷ []) (automaton (Some 1) ∷ [])

enters_nothing : shown unserved 0 ≡ done (p_shows (pos 2) ∷ []) (pos 0)
enters_nothing = refl

-- step() <on> { p(1); } main() { step(); }: error 13, with the turn used and the frame in the peak
abbrev stateless : Program
stateless = program_of [] (function [] [] (node.Do (node.Call 1 (args [])) ∷ [])
    ∷ routed ((0, 0) ∷ []) None ((p (n 1) ∷ []) ∷ []) ∷ []) (automaton None ∷ [])

no_body : meaning stateless plain 0 1
    ≡ record {
      entries = [];
      last = Ended (end.Error (pos 13));
      turns = 1;
      peak = 10;
      chains = (0 ∷ []) ∷ (1 ∷ 0 ∷ []) ∷ [];
    }
no_body = refl

-- f() <on> return 1; f() <> return 2; main() { new x = f(); state on; return 10 * x + f(); }
abbrev fallback : Program
fallback = program_of [] (function [] (ScalarSlot ∷ []) (
    node.Local 0 (node.Call 1 (args [])) ∷ node.State 0 0 Absent
    ∷ node.Return (node.Binary operator.Add (node.Binary operator.Multiply (n 10) (own 0))
    (node.Call 1 (args []))) ∷ [])
    ∷ routed ((0, 0) ∷ []) (Some 1) ((node.Return (n 1) ∷ []) ∷ (node.Return (n 2) ∷ []) ∷ []) ∷ [])
    (automaton None ∷ [])

falls_back : shown fallback 2 ≡ done [] (pos 21)
unfolding int_wrap binary
falls_back = refl
