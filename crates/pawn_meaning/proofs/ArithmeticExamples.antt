-- Division, wrapping, shifts, chains and the order of arguments, computed.
use Rattle.std.proofs.Common.{◌≡◌, pos, negsuc, [], ◌∷◌, None, false, true, refl}
use Rattle.std.specs.Int.{int_wrap}
use Rattle.host_script.specs.declared.event.End.TheVariants as end
use Rattle.pawn_cells.specs.declared.operator.Operator.TheVariants as operator
use Rattle.pawn_cells.specs.declared.operator.Prefix.TheVariants as prefix
use Rattle.pawn_cells.specs.declared.operator.Comparison.TheVariants as comparison
use Rattle.pawn_cells.specs.Operators.{binary}
use Rattle.pawn_meaning.specs.Program as node
use Rattle.pawn_meaning.specs.Program.{Expr, Const, Program, Function, ScalarSlot, no_links}
use Rattle.pawn_meaning.specs.Program.{then_link, no_else, otherwise}
use Rattle.pawn_meaning.specs.Told.{Cut}
use Rattle.pawn_meaning.proofs.Programs.{args, function, program_of, cell, n, minus, own, global, p}
use Rattle.pawn_meaning.proofs.Programs.{p_shows, shown, done, ends}

abbrev divided : Expr → Expr → Expr
divided a b = node.Binary operator.Divide a b

abbrev rest : Expr → Expr → Expr
rest a b = node.Binary operator.Remainder a b

-- new a = -7, b = 2, c = 7, d = -2; p(a / b); p(a % b); p(c / d); p(c % d); p(-7 / 2); p(-7 % 2);
-- ..
abbrev divisions : Program
divisions = program_of [] (function [] (ScalarSlot ∷ ScalarSlot ∷ ScalarSlot ∷ ScalarSlot ∷ []) (
    node.Local 0 (minus 7) ∷ node.Local 1 (n 2) ∷ node.Local 2 (n 7) ∷ node.Local 3 (minus 2)
    ∷ p (divided (own 0) (own 1)) ∷ p (rest (own 0) (own 1)) ∷ p (divided (own 2) (own 3))
    ∷ p (rest (own 2) (own 3))
    ∷ p (divided (minus 7) (n 2)) ∷ p (rest (minus 7) (n 2)) ∷ p (divided (n 7) (minus 2))
    ∷ p (rest (n 7) (minus 2))
    ∷ []) ∷ []) []

divisions_round_down : shown divisions 0 ≡ done (
    p_shows (negsuc 3) ∷ p_shows (pos 1) ∷ p_shows (negsuc 3) ∷ p_shows (negsuc 0)
    ∷ p_shows (negsuc 3) ∷ p_shows (pos 1) ∷ p_shows (negsuc 3) ∷ p_shows (negsuc 0) ∷ []) (pos 0)
unfolding int_wrap binary
divisions_round_down = refl

-- new z; p(cellmin / -1); p(1 << 32); p(1 / z);
abbrev edges : Program
edges = program_of [] (function [] (ScalarSlot ∷ []) (
    node.Local 0 (n 0) ∷ p (divided (Const (negsuc 0x7FFFFFFF)) (minus 1))
    ∷ p (node.Binary operator.ShiftLeft (n 1) (n 32)) ∷ p (divided (n 1) (own 0)) ∷ []) ∷ []) []

edges_wrap : shown edges 0 ≡ ends (p_shows (negsuc 0x7FFFFFFF) ∷ p_shows (pos 1) ∷ [])
    (end.Error (pos 11))
unfolding int_wrap binary
edges_wrap = refl

-- new n = 1; next() { return ++n; }
abbrev next : Function
next = function [] [] (node.Return (node.Step (node.Global 0) (pos 1) true) ∷ [])

-- main() { if (1 < next() < 5) p(n); else p(-n); }: the middle operand is evaluated once
abbrev chained : Program
chained = program_of (cell (pos 1) ∷ []) (function [] [] (
    node.If (node.Chain (n 1) (then_link comparison.Less (node.Call 1 (args [])) None false
    (then_link comparison.Less (n 5) None false no_links)))
    (p (global 0)) (otherwise (p (node.Unary prefix.Negate (global 0)))) ∷ []) ∷ next ∷ []) []

chain_evaluates_once : shown chained 1 ≡ done (p_shows (pos 2) ∷ []) (pos 0)
unfolding int_wrap binary
chain_evaluates_once = refl

-- two(a, b) { p(a); p(b); } main() two(next(), next());
abbrev two_arguments : Program
two_arguments = program_of (cell (pos 0) ∷ []) (
    function [] [] (node.Do (node.Call 2
    (args (node.Value (node.Call 1 (args [])) ∷ node.Value (node.Call 1 (args [])) ∷ []))) ∷ [])
    ∷ next ∷ function (ScalarSlot ∷ ScalarSlot ∷ []) (ScalarSlot ∷ ScalarSlot ∷ [])
    (p (own 0) ∷ p (own 1) ∷ []) ∷ []) []

last_argument_first : shown two_arguments 3 ≡ done (p_shows (pos 2) ∷ p_shows (pos 1) ∷ []) (pos 0)
unfolding int_wrap binary
last_argument_first = refl

-- with two turns the call of two doesn't begin, and its arguments were evaluated
third_turn_is_cut : shown two_arguments 2 ≡ record { events = []; last = Cut }
unfolding int_wrap binary
third_turn_is_cut = refl
