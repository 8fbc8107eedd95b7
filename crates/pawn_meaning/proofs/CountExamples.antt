-- Turns, peaks, needs, weights and folded values, computed.
use Rattle.std.proofs.Common.{◌≡◌, pos, [], ◌∷◌, Some, None, refl}
use Rattle.std.specs.Int.{int_wrap}
use Rattle.host_script.specs.Script.{plain}
use Rattle.host_script.specs.declared.event.End.TheVariants as end
use Rattle.pawn_cells.specs.declared.operator.Operator.TheVariants as operator
use Rattle.pawn_cells.specs.Operators.{binary}
use Rattle.pawn_meaning.specs.Program as node
use Rattle.pawn_meaning.specs.Program.{Expr, Const, Stmt, Function, Program, ScalarSlot, ArraySlot}
use Rattle.pawn_meaning.specs.Program.{no_else}
use Rattle.pawn_meaning.specs.Need.{need, locals}
use Rattle.pawn_meaning.specs.Weight.{weight, lean}
use Rattle.pawn_meaning.specs.Fold.{fold}
use Rattle.pawn_meaning.specs.Told.{Ended, Cut, meaning}
use Rattle.pawn_meaning.proofs.Programs.{block, args, function, program_of, n, own, p_shows, shown}

-- f(n) { if (n) return f(n - 1); return 0; } main() { return f(100); }, here with 2
abbrev f : Function
f = function (ScalarSlot ∷ []) (ScalarSlot ∷ []) (
    node.If (own 0) (node.Return (node.Call 1
    (args (node.Value (node.Binary operator.Subtract (own 0) (n 1)) ∷ [])))) no_else
    ∷ node.Return (n 0) ∷ [])

abbrev counted : Program
counted =
    program_of [] (function [] [] (node.Return (node.Call 1 (args (node.Value (n 2) ∷ []))) ∷ [])
    ∷ f ∷ []) []

need_of_f : need f ≡ 8
need_of_f = refl

-- main's 6, and three calls of f
deep : meaning counted plain 0 3 ≡ record {
  entries = [];
  last = Ended (end.Done (pos 0));
  turns = 3;
  peak = 30;
  chains = (0 ∷ []) ∷ (1 ∷ 0 ∷ []) ∷ (1 ∷ 1 ∷ 0 ∷ []) ∷ (1 ∷ 1 ∷ 1 ∷ 0 ∷ []) ∷ [];
}
unfolding int_wrap binary
deep = refl

-- where the third call would begin, its frame isn't counted
cut : meaning counted plain 0 2 ≡ record {
  entries = [];
  last = Cut;
  turns = 2;
  peak = 22;
  chains = (0 ∷ []) ∷ (1 ∷ 0 ∷ []) ∷ (1 ∷ 1 ∷ 0 ∷ []) ∷ [];
}
unfolding int_wrap binary
cut = refl

-- a main with a parameter is a stray access at once, and so is a function that isn't there
with_parameter : meaning counted plain 1 5
    ≡ record { entries = []; last = Ended end.Stray; turns = 0; peak = 0; chains = [] }
with_parameter = refl

no_function : meaning counted plain 2 5
    ≡ record { entries = []; last = Ended end.Stray; turns = 0; peak = 0; chains = [] }
no_function = refl

-- f(p(1)): the call's turn begins behind its argument
abbrev argument_first : Program
argument_first =
    program_of [] (function [] [] (node.Do
    (node.Call 1 (args (node.Value (node.Native 0 (args (node.Value (n 1) ∷ []))) ∷ []))) ∷ [])
    ∷ f ∷ []) []

shows_then_cut : shown argument_first 0 ≡ record { events = p_shows (pos 1) ∷ []; last = Cut }
shows_then_cut = refl

-- { { new a[10]; } new b[10]; }, and a[2][3] with its offsets
path : locals (ArraySlot (10 ∷ []) ∷ ArraySlot (10 ∷ []) ∷ [])
    (block (block (node.LocalArray 0 0 ∷ []) ∷ node.LocalArray 1 0 ∷ [])) ≡ 20
path = refl

offsets : locals (ArraySlot (2 ∷ 3 ∷ []) ∷ []) (block (node.LocalArray 0 0 ∷ [])) ≡ 8
offsets = refl

-- main() return 1 + 1 + 1 weighs two statements and five expressions; lean counts the sum as one
abbrev sum : Program
sum = program_of [] (function [] [] (
    node.Return (node.Binary operator.Add (node.Binary operator.Add (n 1) (n 1)) (n 1)) ∷ []) ∷ [])
    []

weight_of_sum : weight sum ≡ 280
weight_of_sum = refl

lean_of_sum : lean sum ≡ 120
unfolding int_wrap binary
lean_of_sum = refl

-- 1 || 1/0 folds, and 1/0 doesn't
abbrev by_zero : Expr
by_zero = node.Binary operator.Divide (n 1) (n 0)

or_folds : fold (node.Or (n 1) by_zero) ≡ Some (pos 1)
or_folds = refl

division_folds_not : fold by_zero ≡ None
unfolding int_wrap binary
division_folds_not = refl

-- with a variable in it nothing folds, needed or not
variable_folds_not : fold (node.Or (n 1) (own 0)) ≡ None
variable_folds_not = refl
