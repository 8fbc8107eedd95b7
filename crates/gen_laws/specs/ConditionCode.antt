-- The code of conditions: what stands before their jump, and the test that holds behind it where
-- the condition does.
use Rattle.std.specs.Prelude.{◌+◌, ℕ, ℤ, List, Option, None, Some}
use Rattle.pawn_cells.specs.declared.operator.Prefix.{Prefix}
use Rattle.pawn_cells.specs.declared.operator.Prefix.TheVariants as before
use Rattle.pawn_cells.specs.declared.operator.Operator.{Operator}
use Rattle.pawn_cells.specs.declared.operator.Operator.TheVariants as between
use Rattle.pawn_meaning.specs.Program.{Expr, Unary, Binary, Chain, Links, no_links, then_link}
use Rattle.pawn_meaning.specs.Scope.{Scope}
use Rattle.pawn_meaning.specs.Fold.{fold}
use Rattle.gen_sim.specs.Items.{Item, past}
use Rattle.gen_sim.specs.OperandCode.{right_of}
use Rattle.gen_sim.specs.TestCode.{Test, IsSet, AreSame, AreOther, opposite, link_test, zero_test}
use Rattle.gen_sim.specs.TestCode.{test_behind, test_code}
use Rattle.gen_laws.specs.ExprCode.{value_items}

-- the test of an operator on two operands, where it is one
abbrev pub operator_test : Operator → Option Test
operator_test between.Equal = Some AreSame
operator_test between.NotEqual = Some AreOther
operator_test o = None

-- and that of a chain's links, with the right operand: of one comparison by the machine
abbrev pub links_test : Links → Option (Test × Expr)
links_test (then_link o r None swapped no_links) = Some (link_test o, r)
links_test links = None

-- of what folds the value is tested, and not its operands
abbrev pub unless_folded : {A : Type 0} → Option ℤ → Option A → Option A
unless_folded None a = a
unless_folded (Some v) a = None

-- ---- two operands, of which a test holds

-- the test behind them, by how the right one is brought
abbrev pub pair_test : Scope → Test → (right : Expr) → Test
pair_test scope t r = test_behind (zero_test t (right_of scope r)) (right_of scope r) t

-- and their code
abbrev pub pair_items : Scope → ℕ → Test → (left right : Expr) → List Item
pair_items scope begin t l r =
    let left = value_items scope begin l in
    test_code (zero_test t (right_of scope r)) (right_of scope r) left
    (value_items scope (past begin left + 4) r)

-- the test of an operator on two operands, or that the value isn't 0
abbrev pub binary_test : Scope → Option Test → (right : Expr) → Test
binary_test scope None r = IsSet
binary_test scope (Some t) r = pair_test scope t r

-- and the code of the operands, or of the value
abbrev pub binary_items : Scope → ℕ → Option Test → (left right : Expr) → (value : List Item)
    → List Item
binary_items scope begin None l r value = value
binary_items scope begin (Some t) l r value = pair_items scope begin t l r

-- of a chain by the test of its one comparison, or by its value
abbrev pub chain_test : Scope → Option (Test × Expr) → Test
chain_test scope None = IsSet
chain_test scope (Some pair) = pair_test scope pair.0 pair.1

-- and its code
abbrev pub chain_code : Scope → ℕ → Option (Test × Expr) → (left : Expr) → (value : List Item)
    → List Item
chain_code scope begin None l value = value
chain_code scope begin (Some pair) l value = pair_items scope begin pair.0 l pair.1

-- ---- `!`

-- it turns the test of its operand; of another operator the value is tested
abbrev pub prefix_test : Option ℤ → Prefix → Test → Test
prefix_test None before.Not t = opposite t
prefix_test k o t = IsSet

-- and the code of its operand as a condition, or of the value
abbrev pub prefix_items : Option ℤ → Prefix → (condition value : List Item) → List Item
prefix_items None before.Not condition value = condition
prefix_items k o condition value = value

-- ---- each condition

-- `!`, `==`, `!=` and one comparison by the machine have a test of their own; of any other
-- condition it is that PRI isn't 0
abbrev pub test_of : Scope → Expr → Test
test_of scope (Unary o e) = prefix_test (fold (Unary o e)) o (test_of scope e)
test_of scope (Binary o l r) =
    binary_test scope (unless_folded (fold (Binary o l r)) (operator_test o)) r
test_of scope (Chain l links) =
    chain_test scope (unless_folded (fold (Chain l links)) (links_test links))
test_of scope e = IsSet

-- the items before the jump
abbrev pub test_items : Scope → ℕ → Expr → List Item
test_items scope begin (Unary o e) =
    prefix_items (fold (Unary o e)) o (test_items scope begin e)
    (value_items scope begin (Unary o e))
test_items scope begin (Binary o l r) =
    binary_items scope begin (unless_folded (fold (Binary o l r)) (operator_test o)) l r
    (value_items scope begin (Binary o l r))
test_items scope begin (Chain l links) =
    chain_code scope begin (unless_folded (fold (Chain l links)) (links_test links)) l
    (value_items scope begin (Chain l links))
test_items scope begin e = value_items scope begin e
