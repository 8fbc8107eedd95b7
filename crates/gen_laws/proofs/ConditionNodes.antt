-- The code of a condition: it does what it means, leads nowhere else, is light, and its calls are
-- those of a valid expression.
use Rattle.std.proofs.Common.{◌+◌, ◌≤◌, ℕ, ℤ, List, Option, None, Some, length}
use Rattle.std.proofs.Common.{arith, is_some}
use Rattle.pawn_cells.specs.declared.operator.Prefix.{Prefix}
use Rattle.pawn_cells.specs.declared.operator.Prefix.TheVariants as before
use Rattle.pawn_cells.specs.declared.operator.Operator.{Operator}
use Rattle.pawn_cells.specs.declared.operator.Operator.TheVariants as between
use Rattle.pawn_meaning.specs.Program.{Expr, Unary, Binary, Chain, Links, no_links, then_link}
use Rattle.pawn_meaning.specs.Program.{Slot}
use Rattle.pawn_meaning.specs.Scope.{Scope}
use Rattle.pawn_meaning.specs.ValidExprs.{IsValidExpr, Takes}
use Rattle.pawn_meaning.specs.Fold.{fold}
use Rattle.pawn_meaning.specs.Weight.{part, expr_weight, links_weight, folds}
use Rattle.pawn_meaning.specs.declared.program_limits.TheConstants.{NODE_WEIGHT}
use Rattle.gen_sim.specs.Items.{Item, past}
use Rattle.gen_sim.specs.Contract.{TestCode}
use Rattle.gen_sim.specs.OperandCode.{Right, right_of, bring_code}
use Rattle.gen_sim.specs.TestCode.{Test, IsSet, AreSame, AreOther, link_test, zero_test}
use Rattle.gen_sim.specs.TestCode.{test_code}
use Rattle.gen_sim.proofs.ItemLaws.{count-append}
use Rattle.gen_sim.proofs.TestNodes.{value_test, not_test, Two, Pairs, told_does, equal_pairs}
use Rattle.gen_sim.proofs.TestNodes.{differ_pairs, link_two, link_pairs}
use Rattle.gen_laws.specs.ExprCode.{value_items}
use Rattle.gen_laws.specs.ConditionCode.{operator_test, links_test, unless_folded, pair_test}
use Rattle.gen_laws.specs.ConditionCode.{pair_items, binary_test, binary_items, chain_test}
use Rattle.gen_laws.specs.ConditionCode.{chain_code, prefix_test, prefix_items, test_of, test_items}
use Rattle.gen_laws.specs.Fine.{AreClosed}
use Rattle.gen_laws.specs.Called.{AreCalled}
use Rattle.gen_laws.proofs.FineLaws.{closed_both}
use Rattle.gen_laws.proofs.ExprNodes.{value_does, comes}
use Rattle.gen_laws.proofs.ExprForms.{value_closed}
use Rattle.gen_laws.proofs.DirectShapes.{IsFineRight, right_fine, bring_closed}
use Rattle.gen_laws.proofs.Counts.{count, IsRightTwo, right_two, bring_count}
use Rattle.gen_laws.proofs.WeightLaws.{value_light}
use Rattle.gen_laws.proofs.CalledItems.{both_called, bring_called}
use Rattle.gen_laws.proofs.CalledExprs.{value_called}

-- ---- it does what it means

module _ (scope : Scope) where
  pair_does : (e l r : Expr) (t : Test) → Two t → Pairs e l r t → IsValidExpr scope l
      → IsValidExpr scope r → (begin : ℕ)
      → TestCode scope e (pair_test scope t r) begin (pair_items scope begin t l r)
  pair_does e l r t two pair h g begin =
      let left = value_items scope begin l in
      let q = past begin left + 4 in
      told_does scope begin e l r left (value_items scope q r) (value_does scope l h begin)
      (value_does scope r g q) t two pair (right_of scope r) (comes scope r g)

  -- where a value is told by itself
  plain_does : (e : Expr) → IsValidExpr scope e → (begin : ℕ)
      → TestCode scope e IsSet begin (value_items scope begin e)
  plain_does e h begin =
      value_test scope begin e (value_items scope begin e) (value_does scope e h begin)

  prefix_does : (k : Option ℤ) (o : Prefix) (e : Expr) → IsValidExpr scope (Unary o e)
      → (begin : ℕ) → TestCode scope e (test_of scope e) begin (test_items scope begin e)
      → TestCode scope (Unary o e) (prefix_test k o (test_of scope e)) begin
      (prefix_items k o (test_items scope begin e) (value_items scope begin (Unary o e)))
  prefix_does None before.Not e h begin part =
      not_test scope begin e (test_of scope e) (test_items scope begin e) part
  prefix_does k o e h begin part = plain_does (Unary o e) h begin

  binary_does : (k : Option ℤ) (o : Operator) (l r : Expr) → IsValidExpr scope (Binary o l r)
      → (begin : ℕ)
      → TestCode scope (Binary o l r)
      (binary_test scope (unless_folded k (operator_test o)) r) begin
      (binary_items scope begin (unless_folded k (operator_test o)) l r
      (value_items scope begin (Binary o l r)))
  binary_does None between.Equal l r h begin =
      pair_does (Binary between.Equal l r) l r AreSame tt (equal_pairs l r) h.0 h.1 begin
  binary_does None between.NotEqual l r h begin =
      pair_does (Binary between.NotEqual l r) l r AreOther tt (differ_pairs l r) h.0 h.1 begin
  binary_does k o l r h begin = plain_does (Binary o l r) h begin

  chain_does : (k : Option ℤ) (l : Expr) (links : Links) → IsValidExpr scope (Chain l links)
      → (begin : ℕ)
      → TestCode scope (Chain l links) (chain_test scope (unless_folded k (links_test links))) begin
      (chain_code scope begin (unless_folded k (links_test links)) l
      (value_items scope begin (Chain l links)))
  chain_does None l (then_link o r None swapped no_links) h begin =
      pair_does (Chain l (then_link o r None swapped no_links)) l r (link_test o) (link_two o)
      (link_pairs o l r swapped) h.1 h.2.1 begin
  chain_does k l links h begin = plain_does (Chain l links) h begin

  pub test_does : (e : Expr) → IsValidExpr scope e → (begin : ℕ)
      → TestCode scope e (test_of scope e) begin (test_items scope begin e)
  test_does (Unary o e) h begin =
      prefix_does (fold (Unary o e)) o e h begin (test_does e h begin)
  test_does (Binary o l r) h begin = binary_does (fold (Binary o l r)) o l r h begin
  test_does (Chain l links) h begin = chain_does (fold (Chain l links)) l links h begin
  test_does e h begin = plain_does e h begin

  -- ---- it leads to itself or to its end

  abbrev natives : ℕ
  natives = length scope.program.natives

  told_closed : (begin : ℕ) (zero : Option Test) (how : Right) → IsFineRight natives how
      → (left right : List Item) → AreClosed natives begin left
      → AreClosed natives (past begin left + 4) right
      → AreClosed natives begin (test_code zero how left right)
  told_closed begin None how t left right h g =
      closed_both natives begin left (bring_code how right) h
      (bring_closed natives (past begin left) how t right g)
  told_closed begin (Some u) how t left right h g = h

  pair_closed : (t : Test) (l r : Expr) → IsValidExpr scope l → IsValidExpr scope r → (begin : ℕ)
      → AreClosed natives begin (pair_items scope begin t l r)
  pair_closed t l r h g begin =
      let left = value_items scope begin l in
      let q = past begin left + 4 in
      told_closed begin (zero_test t (right_of scope r)) (right_of scope r)
      (right_fine natives scope r) left (value_items scope q r) (value_closed scope l h begin)
      (value_closed scope r g q)

  prefix_closed : (k : Option ℤ) (o : Prefix) (begin : ℕ) (condition value : List Item)
      → AreClosed natives begin condition → AreClosed natives begin value
      → AreClosed natives begin (prefix_items k o condition value)
  prefix_closed None before.Not begin condition value h g = h
  prefix_closed k o begin condition value h g = g

  binary_closed : (t : Option Test) (l r : Expr) → IsValidExpr scope l → IsValidExpr scope r
      → (begin : ℕ) (value : List Item) → AreClosed natives begin value
      → AreClosed natives begin (binary_items scope begin t l r value)
  binary_closed None l r h g begin value k = k
  binary_closed (Some t) l r h g begin value k = pair_closed t l r h g begin

  chain_closed : (k : Option ℤ) (l : Expr) (links : Links) → IsValidExpr scope (Chain l links)
      → (begin : ℕ) (value : List Item) → AreClosed natives begin value
      → AreClosed natives begin
      (chain_code scope begin (unless_folded k (links_test links)) l value)
  chain_closed None l (then_link o r None swapped no_links) h begin value g =
      pair_closed (link_test o) l r h.1 h.2.1 begin
  chain_closed k l links h begin value g = g

  pub test_closed : (e : Expr) → IsValidExpr scope e → (begin : ℕ)
      → AreClosed natives begin (test_items scope begin e)
  test_closed (Unary o e) h begin =
      prefix_closed (fold (Unary o e)) o begin (test_items scope begin e)
      (value_items scope begin (Unary o e)) (test_closed e h begin)
      (value_closed scope (Unary o e) h begin)
  test_closed (Binary o l r) h begin =
      binary_closed (unless_folded (fold (Binary o l r)) (operator_test o)) l r h.0 h.1 begin
      (value_items scope begin (Binary o l r)) (value_closed scope (Binary o l r) h begin)
  test_closed (Chain l links) h begin =
      chain_closed (fold (Chain l links)) l links h begin (value_items scope begin (Chain l links))
      (value_closed scope (Chain l links) h begin)
  test_closed e h begin = value_closed scope e h begin

  -- ---- it is within the expression's weight

  told_count : (zero : Option Test) (how : Right) → IsRightTwo how → (left right : List Item)
      → count (test_code zero how left right) ≤ count left + count right + 2
  told_count None how h left right =
      omega (arith, count-append left (bring_code how right), bring_count how h right)
  told_count (Some u) how h left right = omega arith

  pair_light : (t : Test) (l r : Expr) (begin : ℕ)
      → count (pair_items scope begin t l r) + 38 ≤ expr_weight folds l + expr_weight folds r
  pair_light t l r begin =
      let left = value_items scope begin l in
      let q = past begin left + 4 in
      omega (
        arith,
        told_count (zero_test t (right_of scope r)) (right_of scope r) (right_two scope r) left
            (value_items scope q r),
        value_light scope l begin,
        value_light scope r q,
      )

  prefix_light : (k : Option ℤ) (o : Prefix) (condition value : List Item) (w : ℕ)
      → count condition + 20 ≤ w → count value + 20 ≤ part (is_some k) (NODE_WEIGHT + w)
      → count (prefix_items k o condition value) + 20 ≤ part (is_some k) (NODE_WEIGHT + w)
  prefix_light None before.Not condition value w h g = omega (arith, h)
  prefix_light k o condition value w h g = g

  binary_light : (k : Option ℤ) (t : Option Test) (l r : Expr) (begin : ℕ) (value : List Item)
      → let w = NODE_WEIGHT + (expr_weight folds l + expr_weight folds r) in
      count value + 20 ≤ part (is_some k) w
      → count (binary_items scope begin (unless_folded k t) l r value) + 20 ≤ part (is_some k) w
  binary_light None (Some t) l r begin value h = omega (arith, pair_light t l r begin)
  binary_light k t l r begin value h = h

  chain_light : (k : Option ℤ) (l : Expr) (links : Links) (begin : ℕ) (value : List Item)
      → let w = NODE_WEIGHT + (expr_weight folds l + links_weight folds links) in
      count value + 20 ≤ part (is_some k) w
      → count (chain_code scope begin (unless_folded k (links_test links)) l value) + 20
      ≤ part (is_some k) w
  chain_light None l (then_link o r None swapped no_links) begin value h =
      omega (arith, pair_light (link_test o) l r begin)
  chain_light k l links begin value h = h

  pub test_light : (e : Expr) (begin : ℕ)
      → count (test_items scope begin e) + 20 ≤ expr_weight folds e
  test_light (Unary o e) begin =
      prefix_light (fold (Unary o e)) o (test_items scope begin e)
      (value_items scope begin (Unary o e)) (expr_weight folds e) (test_light e begin)
      (value_light scope (Unary o e) begin)
  test_light (Binary o l r) begin =
      binary_light (fold (Binary o l r)) (operator_test o) l r begin
      (value_items scope begin (Binary o l r)) (value_light scope (Binary o l r) begin)
  test_light (Chain l links) begin =
      chain_light (fold (Chain l links)) l links begin (value_items scope begin (Chain l links))
      (value_light scope (Chain l links) begin)
  test_light e begin = value_light scope e begin

-- ---- its calls

module _ (C : ℕ → Type 0) (scope : Scope)
    (known : (f : ℕ) (params : List Slot) → Takes scope.program f params → C f) where
  told_called : (zero : Option Test) (how : Right) (left right : List Item) → AreCalled C left
      → AreCalled C right → AreCalled C (test_code zero how left right)
  told_called None how left right h g =
      both_called C left (bring_code how right) h (bring_called C how right g)
  told_called (Some u) how left right h g = h

  pair_called : (t : Test) (l r : Expr) → IsValidExpr scope l → IsValidExpr scope r → (begin : ℕ)
      → AreCalled C (pair_items scope begin t l r)
  pair_called t l r h g begin =
      let left = value_items scope begin l in
      let q = past begin left + 4 in
      told_called (zero_test t (right_of scope r)) (right_of scope r) left (value_items scope q r)
      (value_called C scope known l h begin) (value_called C scope known r g q)

  prefix_called : (k : Option ℤ) (o : Prefix) (condition value : List Item)
      → AreCalled C condition → AreCalled C value → AreCalled C (prefix_items k o condition value)
  prefix_called None before.Not condition value h g = h
  prefix_called k o condition value h g = g

  binary_called : (t : Option Test) (l r : Expr) → IsValidExpr scope l → IsValidExpr scope r
      → (begin : ℕ) (value : List Item) → AreCalled C value
      → AreCalled C (binary_items scope begin t l r value)
  binary_called None l r h g begin value k = k
  binary_called (Some t) l r h g begin value k = pair_called t l r h g begin

  chain_called : (k : Option ℤ) (l : Expr) (links : Links) → IsValidExpr scope (Chain l links)
      → (begin : ℕ) (value : List Item) → AreCalled C value
      → AreCalled C (chain_code scope begin (unless_folded k (links_test links)) l value)
  chain_called None l (then_link o r None swapped no_links) h begin value g =
      pair_called (link_test o) l r h.1 h.2.1 begin
  chain_called k l links h begin value g = g

  pub test_called : (e : Expr) → IsValidExpr scope e → (begin : ℕ)
      → AreCalled C (test_items scope begin e)
  test_called (Unary o e) h begin =
      prefix_called (fold (Unary o e)) o (test_items scope begin e)
      (value_items scope begin (Unary o e)) (test_called e h begin)
      (value_called C scope known (Unary o e) h begin)
  test_called (Binary o l r) h begin =
      binary_called (unless_folded (fold (Binary o l r)) (operator_test o)) l r h.0 h.1 begin
      (value_items scope begin (Binary o l r)) (value_called C scope known (Binary o l r) h begin)
  test_called (Chain l links) h begin =
      chain_called (fold (Chain l links)) l links h begin (value_items scope begin (Chain l links))
      (value_called C scope known (Chain l links) h begin)
  test_called e h begin = value_called C scope known e h begin
