-- Each statement of the grammar is what the parser gives.
use Rattle.std.proofs.Common.{◌≡◌, ℕ, zero, suc, ◌≤◌, ◌<◌, Bool, true, false, not, List, [], ◌∷◌}
use Rattle.std.proofs.Common.{length, Option, Some, refl, ◌∙◌, ap, arith}
use Rattle.std.proofs.lemmas.Bool.{le-leb}
use Rattle.pawn_token.specs.declared.sign.Sign.{Sign}
use Rattle.pawn_token.specs.declared.sign.Sign.TheVariants as sign
use Rattle.pawn_token.specs.declared.key.Key.{Key}
use Rattle.pawn_token.specs.declared.key.Key.TheVariants as key
use Rattle.pawn_lex.specs.declared.token.Token.{Token}
use Rattle.pawn_tree.specs.declared.name.StateName.{StateName}
use Rattle.pawn_tree.specs.declared.variable.Storage.{Storage}
use Rattle.pawn_tree.specs.Expressions.{Expr}
use Rattle.pawn_tree.specs.Statements.{First, Range, Stmt, Case}
use Rattle.pawn_tree.specs.Statements as node
use Rattle.tree_rules.specs.declared.word.Word.{Word}
use Rattle.tree_rules.specs.declared.word.Word.TheVariants as w
use Rattle.tree_rules.specs.Tokens.{word, sees, sees_key, at, is_tag}
use Rattle.tree_rules.specs.Ends.{ending}
use Rattle.tree_rules.specs.Lists.{Many, no_more, one_more, Listed, Led, left_out, led}
use Rattle.tree_rules.specs.Expressions.{Whole, Condition, condition}
use Rattle.tree_rules.specs.Variables.{local_storage, AreVariables}
use Rattle.pawn_tree.specs.Variables.{Variables}
use Rattle.tree_rules.specs.Statements.{is_bare, IsResult, no_result, one_result, IsBefore}
use Rattle.tree_rules.specs.Statements.{none_before, one_before, IsFirst, first_nothing, first_new}
use Rattle.tree_rules.specs.Statements.{first_value, IsRange, range, IsStateName, of_no_automaton}
use Rattle.tree_rules.specs.Statements.{of_automaton, IsStateCondition, always, only_if, IsStmt}
use Rattle.tree_rules.specs.Statements.{empty_stmt, does_stmt, bare_stmt, block_stmt, if_stmt}
use Rattle.tree_rules.specs.Statements.{while_stmt, do_while_stmt, for_stmt, switch_stmt}
use Rattle.tree_rules.specs.Statements.{return_stmt, exit_stmt, sleep_stmt, assert_stmt, break_stmt}
use Rattle.tree_rules.specs.Statements.{continue_stmt, state_stmt, local_stmt, constant_stmt}
use Rattle.tree_rules.specs.Statements.{AreStmts, no_stmts, one_stmt, IsOther, no_else, one_else}
use Rattle.tree_rules.specs.Statements.{AreCases, no_cases, one_case, IsCase, case_of, IsDefault}
use Rattle.tree_rules.specs.Statements.{no_default, one_default}
use Rattle.tree_rules.specs.Readers.{got}
use Rattle.tree_rules.specs.ReadExpressions.{Sub, expr}
use Rattle.tree_rules.specs.ReadVariables.{expression}
use Rattle.tree_rules.specs.ReadVariables as parse
use Rattle.tree_rules.specs.ReadStatements.{Next}
use Rattle.tree_rules.specs.ReadStatements as p
use Rattle.tree_rules.proofs.Steps.{none_some, some_inj, false_true}
use Rattle.tree_rules.proofs.Base.{true_sees, sees_other, true_sees_key, there, ending_on}
use Rattle.tree_rules.proofs.ListLaws.{IsComplete, Advances, all_complete, several_complete}
use Rattle.tree_rules.proofs.ListLaws.{several_steps, behind_complete, behind_advances, many_count}
use Rattle.tree_rules.proofs.ListLaws.{led_complete}
use Rattle.tree_rules.proofs.Moves.{opens_by, begins, not_sign, not_key, whole_steps}
use Rattle.tree_rules.proofs.Moves.{value_arg_moves, more_moves, more_count}
use Rattle.tree_rules.proofs.Complete.{ExprComplete, expr_complete, value_complete, more_complete}
use Rattle.tree_rules.proofs.CompleteVariables.{expression_complete, condition_complete}
use Rattle.tree_rules.proofs.CompleteVariables.{constant_complete, vars_complete}
use Rattle.tree_rules.proofs.CompleteVariables.{variables_complete, vars_moves, variables_moves}
use Rattle.tree_rules.proofs.CompleteVariables.{constant_moves}
use Rattle.tree_rules.proofs.StatementEnds.{no_bare, ending_none}

module _ (ts : List Token) (sub : Sub) (n : ℕ) (complete : ExprComplete ts sub n) where
  result_all : {h i j : ℕ} {x : Option Expr} → IsResult ts h x i j → h ≤ n
      → p.result ts sub i ≡ Some (got x h j)
  unfolding p.result p.result_of
  result_all (no_result e) l = rw e refl
  result_all {i = i} (one_result f x e) l =
      rw (
        ending_none ts i f (begins x.is_expr),
        f,
        (expression_complete ts sub n complete true 15).all x l,
        e,
      ) refl

  before_all : (c : Sign) {h i j : ℕ} {x : Option Expr} → IsBefore ts c h x i j → h ≤ n
      → p.before ts sub c i ≡ Some (got x h j)
  unfolding p.before
  before_all c {i = i} (none_before e) l = rw (true_sees ts c i e) refl
  before_all c (one_before {j = j} f x e) l =
      rw (f, (expression_complete ts sub n complete true 15).all x l, true_sees ts c j e) refl

  range_all : {h i j : ℕ} {x : Range} → IsRange ts h x i j → h ≤ n
      → p.range ts sub i ≡ Some (got x h j)
  unfolding p.range
  range_all (range x y) l =
      let value = expression_complete ts sub n complete false 13 in
      rw (value.all x (omega arith), (led_complete ts sign.DotDot value).all y (omega arith)) refl

  led_on : {h i j : ℕ} {x : Option Expr} → Led ts sign.DotDot (Whole ts false 13) h x i j → i ≤ j
  led_on (left_out f) = omega arith
  led_on (led c x) = let s = whole_steps x in let l = s.0 in omega arith

  range_steps : {h i j : ℕ} {x : Range} → IsRange ts h x i j → (i < j) × (i < length ts)
  range_steps (range x y) =
      let s = whole_steps x in let l = s.0 in
      let l2 = s.1 in let o = led_on y in (omega arith, omega arith)

  range_advances : Advances ts (IsRange ts)
  range_advances = record { steps = λ x. range_steps x }

  range_complete : IsComplete (IsRange ts) n (p.range ts sub)
  range_complete = record { all = λ x l. range_all x l }

  ranges_all : {h i j : ℕ} {xs : List Range} → Listed ts (IsRange ts) h xs i j → h ≤ n
      → p.ranges ts sub i ≡ Some (got xs h j)
  unfolding p.ranges
  ranges_all m l =
      (several_complete ts range_complete (behind_complete range_complete)
      (behind_advances range_advances)).all m l

  ranges_move : {h i j : ℕ} {xs : List Range} → Listed ts (IsRange ts) h xs i j → i < j
  ranges_move m = let s = several_steps range_advances (behind_advances range_advances) m in s.0

  condition_open : {h i j : ℕ} {x : Expr} → Condition ts h x i j
      → word ts i ≡ w.Sign sign.OpenParenthesis
  condition_open (condition c x c2) = c

  state_condition_all : {h i j : ℕ} {x : Option Expr} → IsStateCondition ts h x i j → h ≤ n
      → p.state_condition ts sub i ≡ Some (got x h j)
  unfolding p.state_condition
  state_condition_all (always f) l = rw f refl
  state_condition_all {i = i} (only_if c) l =
      rw (true_sees ts _ i (condition_open c), (condition_complete ts sub n complete).all c l) refl

pub state_name_all : {ts : List Token} {h i j : ℕ} {x : StateName} → IsStateName ts h x i j
    → p.state_name ts i ≡ Some (got x h j)
unfolding p.state_name
state_name_all (of_no_automaton c f) = rw (c, f) refl
state_name_all {ts = ts} {i = i} (of_automaton c c2 c3) = rw (c, true_sees ts _ (suc i) c2, c3) refl

pub state_name_steps : {ts : List Token} {h i j : ℕ} {x : StateName} → IsStateName ts h x i j
    → (i < j) × (i < length ts)
state_name_steps {ts = ts} {i = i} (of_no_automaton c f) = (omega arith, there ts i _ c refl)
state_name_steps {ts = ts} {i = i} (of_automaton c c2 c3) = (omega arith, there ts i _ c refl)

first_all : {ts : List Token} (d : ℕ) {h i j : ℕ} {x : First} → IsFirst ts h x i j → h ≤ d
    → p.first ts d i ≡ Some (got x h j)
unfolding p.first
first_all {ts = ts} d {i = i} (first_nothing c) l = rw (true_sees ts _ i c) refl
first_all {ts = ts} d {i = i} (first_new c m) l =
    rw (
      sees_other ts sign.Semicolon i _ c refl,
      true_sees_key ts _ i c,
      (vars_complete ts d).all m l,
    ) refl
first_all {ts = ts} d {i = i} (first_value x) l =
    rw (
      not_sign ts sign.Semicolon i (begins x.is_expr) refl,
      not_key ts key.New i (begins x.is_expr) refl,
      (expression_complete ts (expr ts d) d (expr_complete ts d) true 15).all x l,
    ) refl

-- ---- the tokens that a statement takes

condition_moves : {ts : List Token} {h i j : ℕ} {x : Expr} → Condition ts h x i j → i < j
condition_moves (condition c x c2) = let s = whole_steps x in let l = s.0 in omega arith

result_moves : {ts : List Token} {h i j : ℕ} {x : Option Expr} → IsResult ts h x i j → i ≤ j
result_moves {ts = ts} {i = i} {j = j} (no_result e) = ending_on ts i j e
result_moves {ts = ts} {j = k} (one_result {j = j} f x e) =
    let s = whole_steps x in let l = s.0 in let o = ending_on ts j k e in omega arith

before_moves : {ts : List Token} {c : Sign} {h i j : ℕ} {x : Option Expr}
    → IsBefore ts c h x i j → i ≤ j
before_moves (none_before e) = omega arith
before_moves (one_before f x e) = let s = whole_steps x in let l = s.0 in omega arith

first_moves : {ts : List Token} {h i j : ℕ} {x : First} → IsFirst ts h x i j → i ≤ j
first_moves (first_nothing c) = omega arith
first_moves (first_new c m) = let l = vars_moves m in omega arith
first_moves (first_value x) = let s = whole_steps x in let l = s.0 in omega arith

state_condition_moves : {ts : List Token} {h i j : ℕ} {x : Option Expr}
    → IsStateCondition ts h x i j → i ≤ j
state_condition_moves (always f) = omega arith
state_condition_moves (only_if c) = let l = condition_moves c in omega arith

ranges_on : {ts : List Token} {h i j : ℕ} {xs : List Range}
    → Listed ts (IsRange ts) h xs i j → i < j
ranges_on {ts = ts} m = ranges_move ts (expr ts 0) 0 (expr_complete ts 0) m

mutual
  pub stmt_moves : {ts : List Token} {b : Bool} {h i j : ℕ} {x : Stmt} → IsStmt ts b h x i j → i < j
  stmt_moves (empty_stmt c) = omega arith
  stmt_moves {ts = ts} {j = k} (does_stmt {j = j} x e) =
      let s = whole_steps x in let l = s.0 in let o = ending_on ts j k e in omega arith
  stmt_moves {ts = ts} {j = m} (bare_stmt {k = k} c t v a e) =
      let l = value_arg_moves v in let l2 = more_moves a in
      let o = ending_on ts k m e in omega arith
  stmt_moves (block_stmt c a c2) = let l = stmts_move a in omega arith
  stmt_moves (if_stmt c x s o) =
      let l = condition_moves x in let l2 = stmt_moves s in let l3 = other_moves o in omega arith
  stmt_moves (while_stmt c x s) = let l = condition_moves x in let l2 = stmt_moves s in omega arith
  stmt_moves {ts = ts} {j = m} (do_while_stmt {k = k} c s c2 x e) =
      let l = stmt_moves s in let l2 = condition_moves x in
      let o = ending_on ts k m e in omega arith
  stmt_moves (for_stmt c c2 f c3 x y s) =
      let l = first_moves f in let l2 = before_moves x in
      let l3 = before_moves y in let l4 = stmt_moves s in omega arith
  stmt_moves (switch_stmt c x c2 a o c3) =
      let l = condition_moves x in let l2 = cases_move a in let l3 = default_moves o in omega arith
  stmt_moves (return_stmt c r) = let l = result_moves r in omega arith
  stmt_moves (exit_stmt c r) = let l = result_moves r in omega arith
  stmt_moves (sleep_stmt c r) = let l = result_moves r in omega arith
  stmt_moves {ts = ts} {j = k} (assert_stmt {j = j} c x e) =
      let s = whole_steps x in let l = s.0 in let o = ending_on ts j k e in omega arith
  stmt_moves {ts = ts} {i = i} {j = k} (break_stmt c e) =
      let o = ending_on ts (suc i) k e in omega arith
  stmt_moves {ts = ts} {i = i} {j = k} (continue_stmt c e) =
      let o = ending_on ts (suc i) k e in omega arith
  stmt_moves {ts = ts} {j = m} (state_stmt {k = k} c x n e) =
      let l = state_condition_moves x in
      let s = state_name_steps n in let l2 = s.0 in let o = ending_on ts k m e in omega arith
  stmt_moves (local_stmt c s v) = let l = variables_moves v in omega arith
  stmt_moves (constant_stmt c x) = let l = constant_moves x in omega arith

  stmts_move : {ts : List Token} {h i j : ℕ} {xs : List Stmt} → AreStmts ts h xs i j → i ≤ j
  stmts_move (no_stmts f) = omega arith
  stmts_move (one_stmt f s m) = let l = stmt_moves s in let l2 = stmts_move m in omega arith

  other_moves : {ts : List Token} {h i j : ℕ} {x : Option Stmt} → IsOther ts h x i j → i ≤ j
  other_moves (no_else f) = omega arith
  other_moves (one_else c s) = let l = stmt_moves s in omega arith

  cases_move : {ts : List Token} {h i j : ℕ} {xs : List Case} → AreCases ts h xs i j → i ≤ j
  cases_move (no_cases f) = omega arith
  cases_move (one_case t x m) = let l = case_moves x in let l2 = cases_move m in omega arith

  case_moves : {ts : List Token} {h i j : ℕ} {x : Case} → IsCase ts h x i j → i < j
  case_moves (case_of c r c2 s) = let l = ranges_on r in let l2 = stmt_moves s in omega arith

  default_moves : {ts : List Token} {h i j : ℕ} {x : Option Stmt} → IsDefault ts h x i j → i ≤ j
  default_moves (no_default f) = omega arith
  default_moves (one_default c c2 s) = let l = stmt_moves s in omega arith

stmt_inside : {ts : List Token} {b : Bool} {h i j : ℕ} {x : Stmt} → IsStmt ts b h x i j
    → i < length ts
stmt_inside {ts = ts} {i = i} (empty_stmt c) = there ts i _ c refl
stmt_inside (does_stmt x e) = let s = whole_steps x in s.1
stmt_inside {ts = ts} {i = i} (bare_stmt c t v a e) = there ts i _ c refl
stmt_inside {ts = ts} {i = i} (block_stmt c a c2) = there ts i _ c refl
stmt_inside {ts = ts} {i = i} (if_stmt c x s o) = there ts i _ c refl
stmt_inside {ts = ts} {i = i} (while_stmt c x s) = there ts i _ c refl
stmt_inside {ts = ts} {i = i} (do_while_stmt c s c2 x e) = there ts i _ c refl
stmt_inside {ts = ts} {i = i} (for_stmt c c2 f c3 x y s) = there ts i _ c refl
stmt_inside {ts = ts} {i = i} (switch_stmt c x c2 a o c3) = there ts i _ c refl
stmt_inside {ts = ts} {i = i} (return_stmt c r) = there ts i _ c refl
stmt_inside {ts = ts} {i = i} (exit_stmt c r) = there ts i _ c refl
stmt_inside {ts = ts} {i = i} (sleep_stmt c r) = there ts i _ c refl
stmt_inside {ts = ts} {i = i} (assert_stmt c x e) = there ts i _ c refl
stmt_inside {ts = ts} {i = i} (break_stmt c e) = there ts i _ c refl
stmt_inside {ts = ts} {i = i} (continue_stmt c e) = there ts i _ c refl
stmt_inside {ts = ts} {i = i} (state_stmt c x n e) = there ts i _ c refl
stmt_inside {ts = ts} {i = i} (local_stmt c s v) = there ts i _ c refl
stmt_inside {ts = ts} {i = i} (constant_stmt c x) = there ts i _ c refl

stmt_advances : (ts : List Token) (b : Bool) → Advances ts (IsStmt ts b)
stmt_advances ts b = record { steps = λ x. (stmt_moves x, stmt_inside x) }

case_inside : {ts : List Token} {h i j : ℕ} {x : Case} → IsCase ts h x i j → i < length ts
case_inside {ts = ts} {i = i} (case_of c r c2 s) = there ts i _ c refl

case_advances : (ts : List Token) → Advances ts (IsCase ts)
case_advances ts = record { steps = λ x. (case_moves x, case_inside x) }

-- ---- statements

pub record NextComplete (ts : List Token) (n : ℕ) (next : Next) : Type 0 where
  pub all : {b : Bool} {h i j : ℕ} {x : Stmt} → IsStmt ts b h x i j → h ≤ n
      → next b i ≡ Some (got x h j)

to_stmts : {ts : List Token} {h i j : ℕ} {ss : List Stmt} → AreStmts ts h ss i j
    → Many (λ k. not (sees ts sign.CloseBrace k)) (IsStmt ts true) h ss i j
to_stmts (no_stmts f) = no_more (rw f refl)
to_stmts (one_stmt f s m) = one_more (rw f refl) s (to_stmts m)

to_cases : {ts : List Token} {h i j : ℕ} {xs : List Case} → AreCases ts h xs i j
    → Many (sees_key ts key.Case) (IsCase ts) h xs i j
to_cases (no_cases f) = no_more f
to_cases (one_case t x m) = one_more t x (to_cases m)

low_in : {d : ℕ} (h : ℕ) → suc h ≤ suc d → h ≤ d
low_in h low = omega arith

module _ (ts : List Token) (next : Next) (d : ℕ) (completes : NextComplete ts d next) where
  value_all : IsComplete (Whole ts true 15) d (expression ts (expr ts d) true 15)
  value_all = expression_complete ts (expr ts d) d (expr_complete ts d) true 15

  test_all : IsComplete (Condition ts) d (parse.condition ts (expr ts d))
  test_all = condition_complete ts (expr ts d) d (expr_complete ts d)

  block_items : IsComplete (IsStmt ts true) d (next true)
  block_items = record { all = λ x l. completes.all x l }

  other_all : {h i j : ℕ} {x : Option Stmt} → IsOther ts h x i j → h ≤ d
      → p.other ts next d i ≡ Some (got x h j)
  unfolding p.other
  other_all (no_else f) l = rw f refl
  other_all {i = i} (one_else c s) l = rw (true_sees_key ts _ i c, completes.all s l) refl

  case_all : {h i j : ℕ} {x : Case} → IsCase ts h x i j → h ≤ d
      → p.case_of ts next d i ≡ Some (got x h j)
  unfolding p.case_of
  case_all (case_of {j = j} c r c2 s) l =
      rw (
        ranges_all ts (expr ts d) d (expr_complete ts d) r (omega arith),
        true_sees ts _ j c2,
        completes.all s (omega arith),
      ) refl

  default_all : {h i j : ℕ} {x : Option Stmt} → IsDefault ts h x i j → h ≤ d
      → p.default_of ts next d i ≡ Some (got x h j)
  unfolding p.default_of
  default_all (no_default f) l = rw f refl
  default_all {i = i} (one_default c c2 s) l =
      rw (true_sees_key ts _ i c, true_sees ts _ (suc i) c2, completes.all s l) refl

  does_all : {h i j k : ℕ} {x : Expr} → Whole ts true 15 h x i j → ending ts j ≡ Some k → h ≤ d
      → p.does ts next d i ≡ Some (got (node.Do (at ts i) x) (suc h) k)
  unfolding p.does
  does_all x e l = rw (value_all.all x l, e, le-leb _ _ l) refl

  by_key : (b : Bool) (i : ℕ) (k : Key) (tag : Bool) → opens_by (w.Key k) tag ≡ true
      → p.key_stmt ts next d b i k ≡ p.does ts next d i
  unfolding p.key_stmt
  by_key b i key.Sizeof tag o = refl
  by_key b i key.Tagof tag o = refl
  by_key b i _ tag o = absurd (false_true o)

  by_does : (b : Bool) (i : ℕ) (v : Word) (tag : Bool) → opens_by v tag ≡ true
      → (v ≡ w.Name → is_bare ts (suc i) ≡ false) → p.stmt_by ts next d b i v ≡ p.does ts next d i
  unfolding p.stmt_by
  by_does b i (w.Sign sign.OpenBrace) tag o f = absurd (false_true o)
  by_does b i (w.Sign sign.Semicolon) tag o f = absurd (false_true o)
  by_does b i (w.Key k) tag o f = by_key b i k tag o
  by_does b i w.Name tag o f = rw (f refl) refl
  by_does b i _ tag o f = refl

  local_at : (st : Storage) (i : ℕ) {h j : ℕ} {x : Variables} → AreVariables ts st h x (suc i) j
      → h ≤ d → p.local ts next d st i ≡ Some (got (node.Local (at ts i) x) (suc h) j)
  unfolding p.local
  local_at st i v l = rw ((variables_complete ts d st).all v l, le-leb _ _ l) refl

  local_all : (k : Key) (st : Storage) (i : ℕ) {h j : ℕ} {x : Variables} → local_storage k ≡ Some st
      → AreVariables ts st h x (suc i) j → h ≤ d
      → p.key_stmt ts next d true i k ≡ Some (got (node.Local (at ts i) x) (suc h) j)
  unfolding p.key_stmt
  local_all key.New st i s v l = rw (some_inj _ _ s) (local_at st i v l)
  local_all key.Static st i s v l = rw (some_inj _ _ s) (local_at st i v l)
  local_all _ st i s v l = absurd (none_some s)

  stmt_all : {b : Bool} {h i j : ℕ} {x : Stmt} → IsStmt ts b h x i j → h ≤ suc d
      → p.stmt_by ts next d b i (word ts i) ≡ Some (got x h j)
  unfolding p.stmt_by p.key_stmt p.bare p.block p.branch p.while_loop p.do_loop p.for_loop
      p.for_rest p.switch p.switch_rest p.gives p.assert_stmt p.leaves p.state p.local
      p.local_constant
  stmt_all (empty_stmt c) l = rw c refl
  stmt_all {b = b} {i = i} (does_stmt x e) l =
      by_does b i _ (is_tag ts i) (begins x.is_expr) (λ n. no_bare x e n)
      ∙ does_all x e (low_in _ l)
  stmt_all {i = i} (bare_stmt {h = h} {x = x} c t v a e) l = let few = more_count a in
      rw (
        c,
        t,
        value_complete ts (expr ts d) d (expr_complete ts d) v (omega arith),
        more_complete ts (expr ts d) d (expr_complete ts d) a (omega arith) (suc (length ts))
            (omega arith) (x ∷ []) h,
        e,
        le-leb _ _ (low_in _ l),
      ) refl
  stmt_all {i = i} (block_stmt {ss = ss} c a c2) l =
      let m = to_stmts a in let few = many_count (stmt_advances ts true) m in
      rw (
        c,
        all_complete block_items m (low_in _ l) (suc (length ts)) (omega arith),
        le-leb _ _ (low_in _ l),
      ) refl
  stmt_all (if_stmt c x s o) l =
      rw (
        c,
        test_all.all x (omega arith),
        completes.all s (omega arith),
        other_all o (omega arith),
        le-leb _ _ (low_in _ l),
      ) refl
  stmt_all (while_stmt c x s) l =
      rw (c, test_all.all x (omega arith), completes.all s (omega arith), le-leb _ _ (low_in _ l))
      refl
  stmt_all (do_while_stmt {j = j} c s c2 x e) l =
      rw (
        c,
        completes.all s (omega arith),
        true_sees_key ts _ j c2,
        test_all.all x (omega arith),
        e,
        le-leb _ _ (low_in _ l),
      ) refl
  stmt_all {i = i} (for_stmt {j = j} c c2 f c3 x y s) l =
      rw (
        c,
        true_sees ts _ (suc i) c2,
        first_all d f (omega arith),
        true_sees ts _ j c3,
        before_all ts (expr ts d) d (expr_complete ts d) sign.Semicolon x (omega arith),
        before_all ts (expr ts d) d (expr_complete ts d) sign.CloseParenthesis y (omega arith),
        completes.all s (omega arith),
        le-leb _ _ (low_in _ l),
      ) refl
  stmt_all (switch_stmt {j = j} {m = m} c x c2 a o c3) l =
      let cs = to_cases a in let few = many_count (case_advances ts) cs in
      rw (
        c,
        test_all.all x (omega arith),
        true_sees ts _ j c2,
        all_complete (record { all = λ y k. case_all y k }) cs (omega arith) (suc (length ts))
            (omega arith),
        default_all o (omega arith),
        true_sees ts _ m c3,
        le-leb _ _ (low_in _ l),
      ) refl
  stmt_all (return_stmt c r) l =
      rw (
        c,
        result_all ts (expr ts d) d (expr_complete ts d) r (low_in _ l),
        le-leb _ _ (low_in _ l),
      ) refl
  stmt_all (exit_stmt c r) l =
      rw (
        c,
        result_all ts (expr ts d) d (expr_complete ts d) r (low_in _ l),
        le-leb _ _ (low_in _ l),
      ) refl
  stmt_all (sleep_stmt c r) l =
      rw (
        c,
        result_all ts (expr ts d) d (expr_complete ts d) r (low_in _ l),
        le-leb _ _ (low_in _ l),
      ) refl
  stmt_all (assert_stmt c x e) l =
      rw (c, value_all.all x (low_in _ l), e, le-leb _ _ (low_in _ l)) refl
  stmt_all (break_stmt c e) l = rw (c, e) refl
  stmt_all (continue_stmt c e) l = rw (c, e) refl
  stmt_all (state_stmt c x n e) l =
      rw (
        c,
        state_condition_all ts (expr ts d) d (expr_complete ts d) x (low_in _ l),
        state_name_all n,
        e,
        le-leb _ _ (low_in _ l),
      ) refl
  stmt_all (local_stmt {c = k} {st = st} c s v) l =
      ap (p.stmt_by ts next d true _) c ∙ local_all k st _ s v (low_in _ l)
  stmt_all (constant_stmt c x) l =
      rw (
        c,
        (constant_complete ts (expr ts d) d (expr_complete ts d)).all x (low_in _ l),
        le-leb _ _ (low_in _ l),
      ) refl

stmt_low : {ts : List Token} {b : Bool} {h i j : ℕ} {x : Stmt} → IsStmt ts b h x i j → h ≤ 0 → ⊥
stmt_low (empty_stmt c) l = omega arith
stmt_low _ l = omega arith

pub statement_complete : (ts : List Token) (n : ℕ) → NextComplete ts n (p.statement ts n)
unfolding p.statement
statement_complete ts zero = record { all = λ x l. absurd (stmt_low x l) }
statement_complete ts (suc d) =
    record { all = λ x l. stmt_all ts (p.statement ts d) d (statement_complete ts d) x l }
