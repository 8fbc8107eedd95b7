-- The code of a condition with its jumps: they lead to an address where its truth is as they say,
-- and it comes to its end where it isn't.
use Rattle.std.specs.Prelude.{◌+◌, ℕ, ℤ, pos, List, [], ◌∷◌, ◌++◌, Bool, true, false, not as no}
use Rattle.std.specs.Prelude.{Option, None, Some}
use Rattle.pawn_meaning.specs.Program.{Expr, Unary, And, Or, Perhaps, Absent, Present}
use Rattle.pawn_meaning.specs.Scope.{Scope}
use Rattle.pawn_meaning.specs.Fold.{fold}
use Rattle.gen_sim.specs.Items.{Item, past}
use Rattle.gen_sim.specs.SimpleCode.{const_code}
use Rattle.gen_sim.specs.JumpCode.{jump_to}
use Rattle.gen_sim.specs.TestCode.{Test, IsSet, test_op}
use Rattle.gen_sim.specs.Branch.{test_where, aim}
use Rattle.gen_laws.specs.ConditionCode.{prefix_items, test_of, test_items}

-- the jump that is taken where a test's truth is so
abbrev pub jump_where : (when : Bool) → Test → (to : ℕ) → Item
jump_where when t to = jump_to (test_op (test_where when t)) to

-- a condition by one test, and its jump
abbrev pub single_items : Scope → (when : Bool) → (to begin : ℕ) → Expr → List Item
single_items scope when to begin e =
    test_items scope begin e ++ jump_where when (test_of scope e) to ∷ []

-- two operands, each by where its jumps lead and where it begins: the left one decides at a truth
abbrev pub joint_items : (decides when : Bool) → (to begin : ℕ)
    → (left right : (to begin : ℕ) → List Item) → List Item
joint_items decides when to begin left right =
    let p = past begin (left 0 begin) in
    let second = right to p in
    left (aim decides when to (past p second)) begin ++ second

-- of what folds the value is tested, and not its operands
abbrev pub by_operands : Option ℤ → (operands whole : List Item) → List Item
by_operands None operands whole = operands
by_operands (Some v) operands whole = whole

-- each condition: `!` turns the truth, `&&` is decided where its left operand is false, and `||`
-- where it is true
abbrev pub jump_items : Scope → (when : Bool) → (to begin : ℕ) → Expr → List Item
jump_items scope when to begin (Unary o e) =
    prefix_items (fold (Unary o e)) o (jump_items scope (no when) to begin e)
    (single_items scope when to begin (Unary o e))
jump_items scope when to begin (And l r) =
    by_operands (fold (And l r))
    (joint_items false when to begin (λ t q. jump_items scope false t q l)
    (λ t q. jump_items scope when t q r)) (single_items scope when to begin (And l r))
jump_items scope when to begin (Or l r) =
    by_operands (fold (Or l r))
    (joint_items true when to begin (λ t q. jump_items scope true t q l)
    (λ t q. jump_items scope when t q r)) (single_items scope when to begin (Or l r))
jump_items scope when to begin e = single_items scope when to begin e

-- where it may be absent it is 1
abbrev pub perhaps_jumps : Scope → (when : Bool) → (to begin : ℕ) → Perhaps → List Item
perhaps_jumps scope when to begin Absent = const_code (pos 1) ++ jump_where when IsSet to ∷ []
perhaps_jumps scope when to begin (Present e) = jump_items scope when to begin e
