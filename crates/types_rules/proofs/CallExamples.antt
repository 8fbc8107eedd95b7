-- Expressions by computation: which rules they break, what they are, and what they warn of.
use Rattle.std.specs.Prelude.{◌≡◌, pos, negsuc, [], ◌∷◌, map, codes, true, false, None, Some, refl}
use Rattle.std.specs.Int.{int_wrap}
use Rattle.pawn_cells.specs.Operators as cells
use Rattle.pawn_cells.specs.declared.operator.Prefix.TheVariants as before
use Rattle.pawn_token.specs.declared.sign.Sign.TheVariants as sign
use Rattle.pawn_tree.specs.declared.expression.SizeofOperand.TheVariants as sized
use Rattle.pawn_tree.specs.Expressions as e
use Rattle.pawn_tree.specs.Expressions.{Expr}
use Rattle.pawn_meaning.specs.Program as code
use Rattle.types_rules.specs.Rule.{thread}
use Rattle.types_rules.specs.Typed as typed
use Rattle.types_rules.specs.Typed.{Form}
use Rattle.types_rules.specs.Tests.{sent}
use Rattle.types_rules.specs.Scope.{found}
use Rattle.types_rules.specs.NamesAndNumbers.{text_rule, sizeof_rule}
use Rattle.types_rules.specs.Operators.{operator_rule, logical_rule, comma_rule, negate_rule}
use Rattle.types_rules.specs.Chains.{links_code, links_warned, links_value, chain_rule}
use Rattle.types_rules.specs.Choices.{choice_rule}
use Rattle.types_rules.specs.Indexes.{index_rule, character_rule}
use Rattle.types_rules.specs.Assignments.{set_rule, step_rule}
use Rattle.types_rules.specs.Given.{plain_given, reference_given, array_given, rest_rule}
use Rattle.types_rules.specs.Defaults.{args_of}
use Rattle.types_rules.specs.Calls.{call_rule}
use Rattle.types_rules.proofs.Samples.{at, name, number, var, text, binary, index, call, kinds}
use Rattle.types_rules.proofs.Samples.{worth, form, warned}

abbrev x : Expr
x = var 1 (codes "x")

abbrev y : Expr
y = var 2 (codes "y")

abbrev k : Expr
k = var 1 (codes "k")

abbrev a : Expr
a = var 1 (codes "a")

abbrev m : Expr
m = var 1 (codes "m")

abbrev sets : Expr → Expr → Expr
sets l r = e.Assign (at 1) sign.Assign l r

-- ---- operators, names, indexes, assignments

-- `zz`, `f`, a forward's name, and a broken one, which has no fault of its own; `1 / 0`, `x / 0`
-- and `0 && 1 / 0`; `a[9]`, `a[1, 9]`, `o[9]`; `x[0]`, `m{0}`, `a + 1`; `k = 1`, `5 = 1`, `"ab" =
-- x`, `++a`, `a = 5`
refused : map kinds (
    var 1 (codes "zz") ∷ var 1 (codes "f") ∷ var 1 (codes "forward") ∷ var 1 (codes "broken")
    ∷ binary 1 sign.Slash (number 1 1) (number 3 0) ∷ binary 1 sign.Slash x (number 3 0)
    ∷ binary 1 sign.LogicalAnd (number 1 0) (binary 3 sign.Slash (number 3 1) (number 5 0))
    ∷ index 1 a (number 3 9) ∷ index 1 a (binary 3 sign.Comma (number 3 1) (number 5 9))
    ∷ index 1 (var 1 (codes "o")) (number 3 9)
    ∷ index 1 x (number 3 0) ∷ e.Character (at 1) m (number 3 0) ∷ binary 1 sign.Plus a (number 3 1)
    ∷ sets k (number 3 1) ∷ sets (number 1 5) (number 3 1) ∷ sets (text 1 (codes "ab")) x
    ∷ e.Prefix (at 1) sign.Increment a ∷ sets a (number 3 5) ∷ [])
    ≡ (50 ∷ []) ∷ (50 ∷ []) ∷ (50 ∷ []) ∷ [] ∷ (67 ∷ []) ∷ (67 ∷ []) ∷ (67 ∷ []) ∷ (56 ∷ [])
    ∷ (56 ∷ []) ∷ []
    ∷ (53 ∷ []) ∷ (54 ∷ []) ∷ (54 ∷ []) ∷ (52 ∷ []) ∷ (52 ∷ []) ∷ (52 ∷ []) ∷ (54 ∷ []) ∷ (54 ∷ [])
    ∷ []
unfolding text_rule found thread operator_rule logical_rule comma_rule index_rule character_rule
    set_rule step_rule cells.binary int_wrap
refused = refl

-- `-7`, `(3)`, `1 < 2 < 3`, `n ? 2 : 3`, `sizeof m[]`, `sizeof a`, `sizeof k`, `sizeof "ab"`, and
-- what isn't constant: `0 && x`
constants : map worth (
    e.Prefix (at 1) sign.Minus (number 2 7) ∷ e.Paren (at 1) (number 2 3)
    ∷ e.Chain (at 1) (number 1 1)
    (e.links (e.Compare sign.Less (number 3 2) ∷ e.Compare sign.Less (number 5 3) ∷ []))
    ∷ e.Choice (at 1) (var 1 (codes "n")) (number 3 2) (number 5 3)
    ∷ e.Sizeof (at 1) (sized.Name (name 2 (codes "m")) 1)
    ∷ e.Sizeof (at 1) (sized.Name (name 2 (codes "a")) 0)
    ∷ e.Sizeof (at 1) (sized.Name (name 2 (codes "k")) 0)
    ∷ e.Sizeof (at 1) (sized.Text (record { at = at 2; bytes = codes "ab"; packed = false }) 0)
    ∷ binary 1 sign.LogicalAnd (number 1 0) x ∷ [])
    ≡ Some (negsuc 6) ∷ Some (pos 3) ∷ Some (pos 1) ∷ Some (pos 2) ∷ Some (pos 3) ∷ Some (pos 3)
    ∷ Some (pos 1)
    ∷ Some (pos 3) ∷ None ∷ []
unfolding text_rule found negate_rule chain_rule links_code links_warned links_value choice_rule
    sizeof_rule logical_rule cells.chain_holds int_wrap
constants = refl

-- nothing is folded: `-7` is an operator on 7
unfolded : form (e.Prefix (at 1) sign.Minus (number 2 7))
    ≡ Some (typed.Value (code.Unary before.Negate (code.Const (pos 7))))
unfolding text_rule found negate_rule
unfolded = refl

-- a literal is the object that is counted so: `"ab"[1]` behind four objects
literal : form (index 1 (text 1 (codes "ab")) (number 3 1))
    ≡ Some (typed.Place (code.Element (code.Object 4) (code.Const (pos 1))) false)
unfolding text_rule found index_rule
literal = refl

-- a tag before an operand is transparent: `Fixed:x` is the place x
place : form (e.Tagged (at 1) (codes "Fixed") (var 2 (codes "x")))
    ≡ Some (typed.Place (code.Global 0) false)
unfolding text_rule found
place = refl

-- `x = y` and `x + y` warn at y; `y + x` is the user's operator, and `x + y` the same one
-- exchanged; `y - 1` warns at 1, `x = Fixed:1 - Fixed:2` at the first of its own
warnings : map warned (
    sets x y ∷ binary 1 sign.Minus x y ∷ binary 2 sign.Plus y (number 4 1)
    ∷ binary 1 sign.Plus (number 1 1) y
    ∷ binary 2 sign.Minus y (number 4 1)
    ∷ sets x (binary 3 sign.Minus (e.Tagged (at 3) (codes "Fixed") (number 4 1)) (number 6 2))
    ∷ [])
    ≡ (2 ∷ []) ∷ (2 ∷ []) ∷ [] ∷ [] ∷ (4 ∷ []) ∷ (3 ∷ 6 ∷ []) ∷ []
unfolding text_rule found set_rule sent operator_rule cells.binary int_wrap
warnings = refl

exchanged : form (binary 1 sign.Plus (number 1 1) y)
    ≡ Some (typed.Value (code.Operate 1 (code.Const (pos 1)) (code.Read (code.Own 0)) true))
unfolding text_rule found operator_rule
exchanged = refl

-- ---- calls

abbrev given : Expr → e.Arg
given it = e.Value it

-- `f()`, `f(1, 2, 3)`, `f(1, _, .q = 3)`, `f(.zz = 1)`, `x(1)`, `f(a)`, `g(1)`, `g(k)`, `h(x)`,
-- `h(m)`, `w(_)`
refused_calls : map kinds (
    call 1 (codes "f") []
    ∷ call 1 (codes "f") (given (number 3 1) ∷ given (number 5 2) ∷ given (number 7 3) ∷ [])
    ∷ call 1 (codes "f")
    (given (number 3 1) ∷ e.Default (at 5) ∷ e.Named (name 8 (codes "q")) (number 10 3) ∷ [])
    ∷ call 1 (codes "f") (e.Named (name 4 (codes "zz")) (number 6 1) ∷ [])
    ∷ call 1 (codes "x") (given (number 3 1) ∷ [])
    ∷ call 1 (codes "f") (given (var 3 (codes "a")) ∷ [])
    ∷ call 1 (codes "g") (given (number 3 1) ∷ [])
    ∷ call 1 (codes "g") (given (var 3 (codes "k")) ∷ [])
    ∷ call 1 (codes "h") (given (var 3 (codes "x")) ∷ [])
    ∷ call 1 (codes "h") (given (var 3 (codes "m")) ∷ [])
    ∷ call 1 (codes "w") (e.Default (at 3) ∷ []) ∷ [])
    ≡ (59 ∷ []) ∷ (61 ∷ []) ∷ (60 ∷ []) ∷ (50 ∷ []) ∷ (50 ∷ []) ∷ (58 ∷ []) ∷ (58 ∷ []) ∷ (58 ∷ [])
    ∷ (58 ∷ [])
    ∷ (55 ∷ []) ∷ (59 ∷ []) ∷ []
unfolding text_rule found thread call_rule args_of plain_given reference_given array_given
    rest_rule sent
refused_calls = refl

-- a call has no fault of its own above an argument that doesn't stand: `x(zz)`
parts_first : kinds (call 1 (codes "x") (given (var 3 (codes "zz")) ∷ [])) ≡ 50 ∷ []
unfolding found
parts_first = refl

-- `f(1)` takes the default
defaults : form (call 1 (codes "f") (given (number 3 1) ∷ []))
    ≡ Some (typed.Value (code.Call 0
    (code.then_arg (code.Value (code.Const (pos 1)))
    (code.then_arg (code.Value (code.Const (pos 2))) code.no_args))))
unfolding text_rule found thread call_rule args_of plain_given sent
defaults = refl

-- `h(a)` takes the size of a, and `h(a[1])` passes the rest of a from that element on, whose size
-- is 0
sizes : map form (
    call 1 (codes "h") (given (var 3 (codes "a")) ∷ [])
    ∷ call 1 (codes "h") (given (index 3 (var 3 (codes "a")) (number 5 1)) ∷ []) ∷ [])
    ≡ Some (typed.Value (code.Call 2
    (code.then_arg (code.Whole (code.Object 2))
    (code.then_arg (code.Value (code.Const (pos 3))) code.no_args))))
    ∷ Some (typed.Value (code.Call 2
    (code.then_arg (code.Whole (code.From (code.Object 2) (code.Const (pos 1))))
    (code.then_arg (code.Value (code.Const (pos 0))) code.no_args))))
    ∷ []
unfolding text_rule found thread call_rule args_of plain_given array_given index_rule sent
sizes = refl

-- `w(x, k, a, 3)`: a variable goes by reference, a constant one and a value in cells of their own
rest : form (call 1 (codes "w")
    (given (var 3 (codes "x")) ∷ given (var 5 (codes "k")) ∷ given (var 7 (codes "a"))
    ∷ given (number 9 3) ∷ []))
    ≡ Some (typed.Value (code.Native 0
    (code.then_arg (code.Ref (code.Global 0)) (code.then_arg (code.Temp (code.Read (code.Global 1)))
    (code.then_arg (code.Whole (code.Object 2))
    (code.then_arg (code.Temp (code.Const (pos 3))) code.no_args))))))
unfolding text_rule found thread call_rule args_of rest_rule
rest = refl
