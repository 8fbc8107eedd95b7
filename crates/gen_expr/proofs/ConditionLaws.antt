-- Conditions of two operands, and chains of one link.
use Rattle.std.proofs.lemmas.Grind.{common_steps}
use Rattle.std.proofs.Common.{◌≡◌, ◌+◌, ◌*◌, ◌<◌, ◌==◌, ℕ, ℤ, List, [], ◌∷◌, Bool, true, false}
use Rattle.std.proofs.Common.{Option, None, Some, length, get_or, is_some}
use Rattle.std.proofs.Common.{refl, sym, ap, subst, ◌∙◌}
use Rattle.std.proofs.Common.{arith, Result, IfOk}
use Rattle.pawn_meaning.specs.Program.{Expr, Chain, Links, no_links, then_link}
use Rattle.pawn_meaning.specs.Scope.{Scope}
use Rattle.pawn_meaning.specs.Fold.{fold}
use Rattle.pawn_meaning.specs.View.{expr_view, links_view}
use Rattle.pawn_meaning.specs.declared.node.Link.{Link}
use Rattle.gen_sim.specs.Items.{Item, past}
use Rattle.gen_sim.specs.OperandCode.{Right, right_of, bring_code}
use Rattle.gen_sim.specs.TestCode.{Test, IsSet, link_test, zero_test, test_code}
use Rattle.gen_laws.specs.ExprCode.{value_items}
use Rattle.gen_laws.specs.ConditionCode.{links_test, unless_folded, pair_test, pair_items}
use Rattle.gen_laws.specs.ConditionCode.{chain_test, chain_code, test_of, test_items}
use Rattle.gen_expr.specs.Built.{Built, with_items}
use Rattle.gen_expr.specs.TestView.{test_view}
use Rattle.gen_expr.specs.declared.conditions.Test as held
use Rattle.gen_expr.proofs.GrowLaws.{then_grow, next_at}

-- ---- by other items, and by another test

pub code_as : {E : Type 0} (r : Result (Built × held.Test) E) (b : Built) (is js : List Item)
    → is ≡ js → IfOk r (λ x. x.0 ≡ with_items is b) → IfOk r (λ x. x.0 ≡ with_items js b)
code_as r b is js e f = subst (λ l. IfOk r (λ x. x.0 ≡ with_items l b)) e f

pub test_as : {E : Type 0} (r : Result (Built × held.Test) E) (t u : Test) → t ≡ u
    → IfOk r (λ x. test_view x.1 ≡ t) → IfOk r (λ x. test_view x.1 ≡ u)
test_as r t u e f = subst (λ l. IfOk r (λ x. test_view x.1 ≡ l)) e f

-- ---- two operands

pub pair_brought : (scope : Scope) (t : Test) (x y : Expr) (how : Right) (b l m : Built)
    → how ≡ right_of scope y → zero_test t how ≡ None
    → l ≡ with_items (value_items scope (4 * length b.code) x) b
    → m ≡ with_items (bring_code how (value_items scope (4 * length l.code + 4) y)) l
    → m ≡ with_items (pair_items scope (4 * length b.code) t x y) b
pair_brought scope t x y how b l m is none el em =
    let p = 4 * length b.code in
    let left = value_items scope p x in
    let right = value_items scope (past p left + 4) y in
    let there : m ≡ with_items (bring_code how right) l =
    em ∙ ap (λ q. with_items (bring_code how (value_items scope (q + 4) y)) l)
    (next_at b l left el) in
    then_grow b l m left (bring_code how right) el there
    ∙ ap (λ z. with_items (test_code z how left right) b) (sym none)
    ∙ ap (λ h. with_items (test_code (zero_test t h) h left right) b) is

-- ---- chains

none_is : (k : Option ℤ) → is_some k ≡ false → k ≡ None
none_is None h = refl
none_is (Some v) h = cc

module _ (scope : Scope) (p : ℕ) where
  pub chain_pair : (l r : Expr) (links : Links) (t : Test) → is_some (fold (Chain l links)) ≡ false
      → links_test links ≡ Some (t, r)
      → pair_items scope p t l r ≡ test_items scope p (Chain l links)
  chain_pair l r links t h e =
      sym (ap (λ k. chain_code scope p (unless_folded k (links_test links)) l
      (value_items scope p (Chain l links))) (none_is (fold (Chain l links)) h)
      ∙ ap (λ m. chain_code scope p m l (value_items scope p (Chain l links))) e)

  pub chain_told : (l r : Expr) (links : Links) (t : Test) → is_some (fold (Chain l links)) ≡ false
      → links_test links ≡ Some (t, r) → pair_test scope t r ≡ test_of scope (Chain l links)
  chain_told l r links t h e =
      sym (ap (λ k. chain_test scope (unless_folded k (links_test links)))
      (none_is (fold (Chain l links)) h)
      ∙ ap (λ m. chain_test scope m) e)

  pub chain_plain : (l : Expr) (links : Links) (k : Option ℤ) → is_some (links_test links) ≡ false
      → value_items scope p (Chain l links)
      ≡ chain_code scope p (unless_folded k (links_test links)) l
      (value_items scope p (Chain l links))
  chain_plain l links k h = by (links_test links) k h
    where
      by : (m : Option (Test × Expr)) (j : Option ℤ) → is_some m ≡ false
          → value_items scope p (Chain l links)
          ≡ chain_code scope p (unless_folded j m) l (value_items scope p (Chain l links))
      by None None g = refl
      by None (Some v) g = refl
      by (Some pair) j g = cc

  pub chain_set : (l : Expr) (links : Links) (k : Option ℤ) → is_some (links_test links) ≡ false
      → IsSet ≡ chain_test scope (unless_folded k (links_test links))
  chain_set l links k h = by (links_test links) k h
    where
      by : (m : Option (Test × Expr)) (j : Option ℤ) → is_some m ≡ false
          → IsSet ≡ chain_test scope (unless_folded j m)
      by None None g = refl
      by None (Some v) g = refl
      by (Some pair) j g = cc

-- links that aren't one comparison by the machine
not_one : (n : ℕ) → (n ≡ 1 → ⊥) → (n == 1) ≡ false
not_one n f = by (n == 1) refl
  where
    by : (b : Bool) → (n == 1) ≡ b → (n == 1) ≡ false
    by true e =
        let one : n ≡ 1 = grind (arith, common_steps) in absurd (f one)
    by false e = e

none_single : (links : List Link) → (length links ≡ 1 → ⊥)
    → false ≡ is_some (links_test (links_view links))
none_single [] f = refl
none_single (one ∷ []) f = absurd (f refl)
none_single (one ∷ two ∷ links) f = by one.function
  where
    by : (k : Option ℕ)
        → false ≡ is_some (links_test (then_link one.op (expr_view one.operand) k one.swapped
        (links_view (two ∷ links))))
    by None = refl
    by (Some g) = refl

pub single_not : (links : List Link) → (length links ≡ 1 → ⊥)
    → (length links == 1) ≡ is_some (links_test (links_view links))
single_not links f = not_one (length links) f ∙ none_single links f

-- one link by the machine
pub single_is : (links : List Link) (link : Link) → is_some (links_test (links_view links)) ≡ true
    → link ≡ get_or links 0 link
    → links_test (links_view links) ≡ Some (link_test link.op, expr_view link.operand)
single_is [] link h e = cc
single_is (one ∷ []) link h e = by one.function h
  where
    by : (f : Option ℕ)
        → is_some (links_test (then_link one.op (expr_view one.operand) f one.swapped no_links))
        ≡ true
        → links_test (then_link one.op (expr_view one.operand) f one.swapped no_links)
        ≡ Some (link_test link.op, expr_view link.operand)
    by None g = ap (λ (k : Link). Some (link_test k.op, expr_view k.operand)) (sym e)
    by (Some f) g = cc
single_is (one ∷ two ∷ links) link h e = by one.function h
  where
    by : (k : Option ℕ)
        → is_some (links_test (then_link one.op (expr_view one.operand) k one.swapped
        (links_view (two ∷ links)))) ≡ true
        → links_test (links_view (one ∷ two ∷ links))
        ≡ Some (link_test link.op, expr_view link.operand)
    by None g = cc
    by (Some f) g = cc

pub single_some : (links : List Link) → is_some (links_test (links_view links)) ≡ true
    → 0 < length links
single_some [] h = cc
single_some (link ∷ links) h = omega arith

-- ---- a chain that is met in code

module _ (scope : Scope) (b : Built) (e l : Expr) (links kept : List Link)
    (is : e ≡ Chain l (links_view kept)) (same : links ≡ kept) where
  seen : e ≡ Chain l (links_view links)
  seen = is ∙ ap (λ k. Chain l (links_view k)) (sym same)

  abbrev p : ℕ
  p = 4 * length b.code

  module _ (k : Option ℤ) (s : Bool) (some : s ≡ is_some k) (folds : k ≡ fold e) (no : s ≡ false)
      (link : Link) (t : Test) (single : is_some (links_test (links_view links)) ≡ true)
      (at : link ≡ get_or links 0 link) (by : t ≡ link_test link.op) where
    open_chain : is_some (fold (Chain l (links_view links))) ≡ false
    open_chain =
        ap (λ z. is_some (fold z)) (sym seen) ∙ ap (λ z. is_some z) (sym folds) ∙ sym some ∙ no

    one_link : links_test (links_view links) ≡ Some (t, expr_view link.operand)
    one_link =
        single_is links link single at ∙ ap (λ z. Some (z, expr_view link.operand)) (sym by)

    pub single_code : {E : Type 0} (r : Result (Built × held.Test) E)
        → IfOk r (λ x. x.0 ≡ with_items (pair_items scope p t l (expr_view link.operand)) b)
        → IfOk r (λ x. x.0 ≡ with_items (test_items scope p e) b)
    single_code r f =
        code_as r b (pair_items scope p t l (expr_view link.operand)) (test_items scope p e)
        (chain_pair scope p l (expr_view link.operand) (links_view links) t open_chain one_link
        ∙ ap (λ z. test_items scope p z) (sym seen)) f

    pub single_test : {E : Type 0} (r : Result (Built × held.Test) E)
        → IfOk r (λ x. test_view x.1 ≡ pair_test scope t (expr_view link.operand))
        → IfOk r (λ x. test_view x.1 ≡ test_of scope e)
    single_test r f =
        test_as r (pair_test scope t (expr_view link.operand)) (test_of scope e)
        (chain_told scope p l (expr_view link.operand) (links_view links) t open_chain one_link
        ∙ ap (λ z. test_of scope z) (sym seen)) f

  module _ (several : is_some (links_test (links_view links)) ≡ false) where
    pub several_code : {E : Type 0} (r : Result (Built × held.Test) E)
        → IfOk r (λ x. x.0 ≡ with_items (value_items scope p e) b)
        → IfOk r (λ x. x.0 ≡ with_items (test_items scope p e) b)
    several_code r f =
        code_as r b (value_items scope p e) (test_items scope p e)
        (ap (λ z. value_items scope p z) seen
        ∙ chain_plain scope p l (links_view links) (fold (Chain l (links_view links))) several
        ∙ ap (λ z. test_items scope p z) (sym seen)) f

    pub several_test : {E : Type 0} (r : Result (Built × held.Test) E)
        → IfOk r (λ x. test_view x.1 ≡ IsSet) → IfOk r (λ x. test_view x.1 ≡ test_of scope e)
    several_test r f =
        test_as r IsSet (test_of scope e)
        (chain_set scope p l (links_view links) (fold (Chain l (links_view links))) several
        ∙ ap (λ z. test_of scope z) (sym seen)) f
