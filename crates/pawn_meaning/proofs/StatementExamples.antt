-- Loops, `switch`, `sleep`, `exit` and `assert`, computed.
use Rattle.std.proofs.Common.{◌≡◌, ℕ, pos, [], ◌∷◌, None, false, refl}
use Rattle.std.specs.Int.{int_wrap}
use Rattle.host_script.specs.declared.event.Event.TheVariants as event
use Rattle.host_script.specs.declared.event.End.TheVariants as end
use Rattle.pawn_cells.specs.declared.operator.Operator.TheVariants as operator
use Rattle.pawn_cells.specs.declared.operator.Comparison.TheVariants as comparison
use Rattle.pawn_cells.specs.Operators.{binary}
use Rattle.pawn_meaning.specs.Program as node
use Rattle.pawn_meaning.specs.Program.{Expr, Const, Perhaps, Absent, Present, Stmt, Program}
use Rattle.pawn_meaning.specs.Program.{ScalarSlot, no_links, then_link, no_else, otherwise}
use Rattle.pawn_meaning.specs.Program.{no_cases, then_case}
use Rattle.pawn_meaning.specs.Told.{Cut}
use Rattle.pawn_meaning.proofs.Programs.{stmts, block, function, program_of, n, own, p, p_shows}
use Rattle.pawn_meaning.proofs.Programs.{shown, done, ends}

-- switch (e) { case 1, 3..5: p(1); default: p(2); }
abbrev switched : ℕ → Program
switched v = program_of [] (function [] [] (
    node.Switch (n v) (then_case ((pos 1, pos 1) ∷ (pos 3, pos 5) ∷ []) (p (n 1)) no_cases)
    (otherwise (p (n 2))) ∷ []) ∷ []) []

in_range : shown (switched 4) 0 ≡ done (p_shows (pos 1) ∷ []) (pos 0)
in_range = refl

in_none : shown (switched 2) 0 ≡ done (p_shows (pos 2) ∷ []) (pos 0)
in_none = refl

-- of two cases with one value the first holds, and a range that ends below its beginning has none
first_case : shown (program_of [] (function [] [] (
    node.Switch (n 1) (then_case ((pos 3, pos 0) ∷ []) (p (n 1))
    (then_case ((pos 1, pos 1) ∷ []) (p (n 2))
    (then_case ((pos 0, pos 9) ∷ []) (p (n 3)) no_cases))) no_else ∷ []) ∷ []) []) 0
    ≡ done (p_shows (pos 2) ∷ []) (pos 0)
first_case = refl

-- exit bool:5;    assert 0;
exits : shown (program_of [] (function [] [] (node.Exit (n 5) 1 ∷ []) ∷ []) []) 0
    ≡ ends [] (end.Exit (pos 5) (pos 1))
exits = refl

asserts : shown (program_of [] (function [] [] (node.Assert (n 0) ∷ []) ∷ []) []) 0
    ≡ ends [] (end.Error (pos 2))
asserts = refl

-- while (1) sleep 1;
abbrev sleeper : Program
sleeper = program_of [] (function [] [] (node.While (n 1) (node.Sleep (n 1) 0) ∷ []) ∷ []) []

sleeps : shown sleeper 2 ≡ record
    { events = event.Slept (pos 1) (pos 0) ∷ event.Slept (pos 1) (pos 0) ∷ []; last = Cut }
sleeps = refl

-- while (0) ; takes no turn, and do ; while (0); takes one
no_turn : shown (program_of [] (function [] [] (node.While (n 0) node.Empty ∷ []) ∷ []) []) 0
    ≡ done [] (pos 0)
no_turn = refl

abbrev once : Program
once = program_of [] (function [] [] (node.DoWhile node.Empty (n 0) ∷ []) ∷ []) []

one_turn_is_cut : shown once 0 ≡ record { events = []; last = Cut }
one_turn_is_cut = refl

one_turn : shown once 1 ≡ done [] (pos 0)
one_turn = refl

abbrev below : Expr → Expr → Expr
below a b = node.Chain a (then_link comparison.Less b None false no_links)

abbrev is : Expr → Expr → Expr
is a b = node.Binary operator.Equal a b

-- new s; for (new i = 0; i < 5; i++) { if (i == 2) continue; s += i; } return s;
abbrev summed : Stmt → Program
summed leaves = program_of [] (function [] (ScalarSlot ∷ ScalarSlot ∷ []) (
    node.Local 0 (n 0)
    ∷ node.For (stmts (node.Local 1 (n 0) ∷ [])) (Present (below (own 1) (n 5)))
    (Present (node.Step (node.Own 1) (pos 1) false))
    (block (node.If (is (own 1) (n 2)) leaves no_else
    ∷ node.Do (node.Update (node.Own 0) operator.Add (own 1)) ∷ []))
    ∷ node.Return (own 0) ∷ []) ∷ []) []

continued : shown (summed node.Continue) 5 ≡ done [] (pos 8)
unfolding int_wrap binary
continued = refl

broken : shown (summed node.Break) 5 ≡ done [] (pos 1)
unfolding int_wrap binary
broken = refl

-- while (1) { for (break; ; ) ; } is left by the break, which is the outer loop's
left_by_first : shown (program_of [] (function [] [] (
    node.While (n 1) (block (node.For (stmts (node.Break ∷ [])) Absent Absent node.Empty ∷ []))
    ∷ p (n 1) ∷ []) ∷ []) []) 1
    ≡ done (p_shows (pos 1) ∷ []) (pos 0)
left_by_first = refl

-- 1 || 1/0 is 1, and 0 && 1/0 is 0
lazy : shown (program_of [] (function [] [] (
    p (node.Or (n 1) (node.Binary operator.Divide (n 1) (n 0)))
    ∷ p (node.And (n 0) (node.Binary operator.Divide (n 1) (n 0)))
    ∷ p (node.And (n 5) (n 7)) ∷ p (node.Or (n 0) (n 7)) ∷ []) ∷ []) []) 0
    ≡ done (p_shows (pos 1) ∷ p_shows (pos 0) ∷ p_shows (pos 1) ∷ p_shows (pos 1) ∷ []) (pos 0)
lazy = refl
