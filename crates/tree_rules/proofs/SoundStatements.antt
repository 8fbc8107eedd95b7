-- What the parser gives is a statement of the grammar.
use Rattle.std.proofs.Common.{◌≡◌, ℕ, zero, suc, Bool, true, false, not, List, [], ◌∷◌, Option}
use Rattle.std.proofs.Common.{Some, None, refl, arith, ⊎_elim}
use Rattle.pawn_token.specs.declared.sign.Sign.{Sign}
use Rattle.pawn_token.specs.declared.sign.Sign.TheVariants as sign
use Rattle.pawn_token.specs.declared.key.Key.{Key}
use Rattle.pawn_token.specs.declared.key.Key.TheVariants as key
use Rattle.pawn_lex.specs.declared.token.Token.{Token}
use Rattle.pawn_tree.specs.declared.name.At.{At}
use Rattle.pawn_tree.specs.declared.variable.Storage.{Storage}
use Rattle.pawn_tree.specs.declared.variable.Storage.TheVariants as storage
use Rattle.pawn_tree.specs.Expressions.{Expr, Arg, args}
use Rattle.pawn_tree.specs.Expressions as expr_node
use Rattle.pawn_tree.specs.Statements.{First, Range, Stmt, Case}
use Rattle.pawn_tree.specs.Statements as node
use Rattle.tree_rules.specs.declared.word.Word.{Word}
use Rattle.tree_rules.specs.declared.word.Word.TheVariants as w
use Rattle.tree_rules.specs.Tokens.{word, sees, sees_key, spelling, at}
use Rattle.tree_rules.specs.Ends.{ending}
use Rattle.tree_rules.specs.Lists.{Many, no_more, one_more, Listed}
use Rattle.tree_rules.specs.Expressions.{Whole, Condition, IsValue}
use Rattle.tree_rules.specs.Variables.{local_storage}
use Rattle.tree_rules.specs.Statements.{is_bare, IsResult, IsBefore, IsFirst, IsRange}
use Rattle.tree_rules.specs.Statements.{IsStateName, IsStateCondition, IsStmt, AreStmts, IsOther}
use Rattle.tree_rules.specs.Statements.{AreCases, IsCase, IsDefault}
use Rattle.tree_rules.specs.Statements as g
use Rattle.tree_rules.specs.Readers.{Got, got, Reader}
use Rattle.tree_rules.specs.Readers as read
use Rattle.tree_rules.specs.ReadVariables.{expression, condition}
use Rattle.tree_rules.specs.ReadExpressions.{Sub, expr}
use Rattle.tree_rules.specs.ReadStatements.{Next}
use Rattle.tree_rules.specs.ReadStatements as p
use Rattle.tree_rules.proofs.Steps.{none_some, bind_some, guard_some, if_cases, not_true, not_false}
use Rattle.tree_rules.proofs.Base.{sees_true, sees_key_true, name_true}
use Rattle.tree_rules.proofs.ListLaws.{IsPart, IsSound, IsSoundWhere, anywhere, got_part}
use Rattle.tree_rules.proofs.ListLaws.{node_part, all_sound, several_sound, behind_sound}
use Rattle.tree_rules.proofs.ListLaws.{led_sound}
use Rattle.tree_rules.proofs.SoundParts.{ExprSound, AddedArgs}
use Rattle.tree_rules.proofs.Sound.{expr_sound, value_sound, more_args_sound}
use Rattle.tree_rules.proofs.SoundVariables.{expression_sound, condition_sound, constant_sound}
use Rattle.tree_rules.proofs.SoundVariables.{vars_sound, variables_sound}

module _ (ts : List Token) (sub : Sub) (n : ℕ) (sound : ExprSound ts sub n) where
  result_of_sound : (i : ℕ) (x : Got (Option Expr)) (k : Option ℕ) → ending ts i ≡ k
      → p.result_of ts sub i k ≡ Some x → IsPart (IsResult ts) n i x
  unfolding p.result_of
  result_of_sound i x (Some k) f e =
      got_part (IsResult ts) n i _ _ _ x e (g.no_result f) (omega arith)
  result_of_sound i x None f e =
      let h = guard_some _ _ _ e in let y = bind_some _ _ _ h.1 in let k = bind_some _ _ _ y.next in
      let r =
      (expression_sound ts sub n sound true 15 (omega arith) (omega arith)).gives _
      _ y.is in
      got_part (IsResult ts) n i _ _ _ x k.next (g.one_result (not_true _ h.0) r.stands k.is) r.low

  pub result_sound : IsSound (IsResult ts) n (p.result ts sub)
  unfolding p.result
  result_sound = record { gives = λ i x e. result_of_sound i x _ refl e }

  pub before_sound : (c : Sign) → IsSound (IsBefore ts c) n (p.before ts sub c)
  unfolding p.before
  before_sound c = record {
    gives = λ i x e. ⊎_elim
        (λ t. got_part (IsBefore ts c) n i _ _ _ x t.1 (g.none_before (sees_true ts c i t.0))
        (omega arith))
        (λ f. let y = bind_some _ _ _ f.1 in let h = guard_some _ _ _ y.next in
        let r =
        (expression_sound ts sub n sound true 15 (omega arith) (omega arith)).gives _
        _ y.is in
        got_part (IsBefore ts c) n i _ _ _ x h.1
        (g.one_before f.0 r.stands (sees_true ts c _ h.0)) r.low)
        (if_cases (sees ts c i) _ _ x e);
  }

  pub range_sound : IsSound (IsRange ts) n (p.range ts sub)
  unfolding p.range
  range_sound = record {
    gives = λ i x e.
        let value = expression_sound ts sub n sound false 13 (omega arith) (omega arith) in
        let y = bind_some _ _ _ e in let z = bind_some _ _ _ y.next in
        let r = value.gives _ _ y.is in let r2 = (led_sound ts sign.DotDot value).gives _ _ z.is in
        let low = r.low in let low2 = r2.low in
        got_part (IsRange ts) n i _ _ _ x z.next (g.range r.stands r2.stands) (omega arith);
  }

  pub ranges_sound : IsSound (Listed ts (IsRange ts)) n (p.ranges ts sub)
  unfolding p.ranges
  ranges_sound =
      record {
        gives = λ i x e. (several_sound ts range_sound (behind_sound range_sound)).gives i x
            e;
      }

  pub state_condition_sound : IsSound (IsStateCondition ts) n (p.state_condition ts sub)
  unfolding p.state_condition
  state_condition_sound = record {
    gives = λ i x e. ⊎_elim
        (λ t. let y = bind_some _ _ _ t.1 in
        let r = (condition_sound ts sub n sound).gives _ _ y.is in
        got_part (IsStateCondition ts) n i _ _ _ x y.next (g.only_if r.stands) r.low)
        (λ f. got_part (IsStateCondition ts) n i _ _ _ x f.1 (g.always f.0) (omega arith))
        (if_cases (sees ts sign.OpenParenthesis i) _ _ x e);
  }

pub state_name_sound : (ts : List Token) (n : ℕ) → IsSound (IsStateName ts) n (p.state_name ts)
unfolding p.state_name
state_name_sound ts n = record {
  gives = λ i x e.
      let h = guard_some _ _ _ e in ⊎_elim
      (λ t. let h2 = guard_some _ _ _ t.1 in
      got_part (IsStateName ts) n i _ _ _ x h2.1
      (g.of_automaton (name_true ts i h.0) (sees_true ts _ _ t.0) (name_true ts _ h2.0))
      (omega arith))
      (λ f. got_part (IsStateName ts) n i _ _ _ x f.1 (g.of_no_automaton (name_true ts i h.0) f.0)
      (omega arith))
      (if_cases (sees ts sign.Colon (suc i)) _ _ x h.1);
}

pub first_sound : (ts : List Token) (d : ℕ) → IsSound (IsFirst ts) d (p.first ts d)
unfolding p.first
first_sound ts d = record {
  gives = λ i x e. ⊎_elim
      (λ t. got_part (IsFirst ts) d i _ _ _ x t.1 (g.first_nothing (sees_true ts _ i t.0))
      (omega arith))
      (λ f. ⊎_elim
      (λ t. let y = bind_some _ _ _ t.1 in let r = (vars_sound ts d).gives _ _ y.is in
      got_part (IsFirst ts) d i _ _ _ x y.next
      (g.first_new (sees_key_true ts _ i t.0) r.stands) r.low)
      (λ o. let y = bind_some _ _ _ o.1 in
      let r =
      (expression_sound ts (expr ts d) d (expr_sound ts d) true 15 (omega arith)
      (omega arith)).gives _ _ y.is in
      got_part (IsFirst ts) d i _ _ _ x y.next (g.first_value r.stands) r.low)
      (if_cases (sees_key ts key.New i) _ _ x f.1))
      (if_cases (sees ts sign.Semicolon i) _ _ x e);
}

pub record NextSound (ts : List Token) (n : ℕ) (next : Next) : Type 0 where
  pub reads : (b : Bool) → IsSound (IsStmt ts b) n (next b)

from_stmts : {ts : List Token} {h i j : ℕ} {ss : List Stmt}
    → Many (λ k. not (sees ts sign.CloseBrace k)) (IsStmt ts true) h ss i j → AreStmts ts h ss i j
from_stmts (no_more f) = g.no_stmts (not_false _ f)
from_stmts (one_more t s m) = g.one_stmt (not_true _ t) s (from_stmts m)

stmts_stop : {ts : List Token} {h i j : ℕ} {ss : List Stmt} → AreStmts ts h ss i j
    → sees ts sign.CloseBrace j ≡ true
stmts_stop (g.no_stmts f) = f
stmts_stop (g.one_stmt t s m) = stmts_stop m

from_cases : {ts : List Token} {h i j : ℕ} {xs : List Case}
    → Many (sees_key ts key.Case) (IsCase ts) h xs i j → AreCases ts h xs i j
from_cases (no_more f) = g.no_cases f
from_cases (one_more t x m) = g.one_case t x (from_cases m)

module _ (ts : List Token) (next : Next) (d : ℕ) (sounds : NextSound ts d next) where
  whole_sound : IsSound (Whole ts true 15) d (expression ts (expr ts d) true 15)
  whole_sound =
      expression_sound ts (expr ts d) d (expr_sound ts d) true 15 (omega arith) (omega arith)

  test_sound : IsSound (Condition ts) d (condition ts (expr ts d))
  test_sound = condition_sound ts (expr ts d) d (expr_sound ts d)

  body_sound : IsSound (IsStmt ts false) d (next false)
  body_sound = sounds.reads false

  does_sound : (b : Bool) → IsSound (IsStmt ts b) (suc d) (p.does ts next d)
  unfolding p.does
  does_sound b = record {
    gives = λ i x e.
        let y = bind_some _ _ _ e in let k = bind_some _ _ _ y.next in
        let r = whole_sound.gives _ _ y.is in
        node_part (IsStmt ts b) d i _ _ _ x k.next (g.does_stmt r.stands k.is);
  }

  bare_made : (b : Bool) (i k : ℕ) (x : Got Stmt) (y : Got Arg) (z : Got (List Arg))
      → word ts i ≡ w.Name → is_bare ts (suc i) ≡ true → IsPart (IsValue ts) d (suc i) y
      → AddedArgs ts d false (y.tree ∷ []) y.height y.stop z → ending ts z.stop ≡ Some k
      → read.node d (node.Do (at ts i)
      (expr_node.Call (at ts i) (spelling ts i) (args z.tree) true)) (suc z.height) k ≡ Some x
      → IsPart (IsStmt ts b) (suc d) i x
  bare_made b i k x y z c t r a f e =
      node_part (IsStmt ts b) d i _ _ _ x e
      (rw (a.items, a.is_height) (g.bare_stmt c t r.stands a.stands f))

  bare_sound : (b : Bool) (i : ℕ) (x : Got Stmt) → word ts i ≡ w.Name → is_bare ts (suc i) ≡ true
      → p.bare ts next d i ≡ Some x → IsPart (IsStmt ts b) (suc d) i x
  unfolding p.bare
  bare_sound b i x c t e =
      let y = bind_some _ _ _ e in let z = bind_some _ _ _ y.next in
      let k = bind_some _ _ _ z.next in
      let r = value_sound ts (expr ts d) d (expr_sound ts d) _ _ y.is in
      let a = more_args_sound ts (expr ts d) d (expr_sound ts d) _ _ _ _ _ _ z.is in
      bare_made b i k.first x y.first z.first c t r a k.is k.next

  block_sound : (b : Bool) (i : ℕ) (x : Got Stmt) → word ts i ≡ w.Sign sign.OpenBrace
      → p.block ts next d i ≡ Some x → IsPart (IsStmt ts b) (suc d) i x
  unfolding p.block
  block_sound b i x c e =
      let y = bind_some _ _ _ e in let r = all_sound (anywhere (sounds.reads true)) _ _ _ y.is in
      let ss = from_stmts r.stands in
      node_part (IsStmt ts b) d i _ _ _ x y.next
      (g.block_stmt c ss (sees_true ts _ _ (stmts_stop ss)))

  other_sound : IsSound (IsOther ts) d (p.other ts next d)
  unfolding p.other
  other_sound = record {
    gives = λ i x e. ⊎_elim
        (λ t. let y = bind_some _ _ _ t.1 in let r = body_sound.gives _ _ y.is in got_part
        (IsOther ts) d i _ _ _ x y.next (g.one_else (sees_key_true ts _ i t.0) r.stands) r.low)
        (λ f. got_part (IsOther ts) d i _ _ _ x f.1 (g.no_else f.0) (omega arith))
        (if_cases (sees_key ts key.Else i) _ _ x e);
  }

  branch_sound : (b : Bool) (i : ℕ) (x : Got Stmt) → word ts i ≡ w.Key key.If
      → p.branch ts next d i ≡ Some x → IsPart (IsStmt ts b) (suc d) i x
  unfolding p.branch
  branch_sound b i x c e =
      let y = bind_some _ _ _ e in let z = bind_some _ _ _ y.next in
      let o = bind_some _ _ _ z.next in
      let r = test_sound.gives _ _ y.is in
      let r2 = body_sound.gives _ _ z.is in let r3 = other_sound.gives _ _ o.is in
      node_part (IsStmt ts b) d i _ _ _ x o.next (g.if_stmt c r.stands r2.stands r3.stands)

  while_sound : (b : Bool) (i : ℕ) (x : Got Stmt) → word ts i ≡ w.Key key.While
      → p.while_loop ts next d i ≡ Some x → IsPart (IsStmt ts b) (suc d) i x
  unfolding p.while_loop
  while_sound b i x c e =
      let y = bind_some _ _ _ e in let z = bind_some _ _ _ y.next in
      let r = test_sound.gives _ _ y.is in let r2 = body_sound.gives _ _ z.is in
      node_part (IsStmt ts b) d i _ _ _ x z.next (g.while_stmt c r.stands r2.stands)

  do_sound : (b : Bool) (i : ℕ) (x : Got Stmt) → word ts i ≡ w.Key key.Do
      → p.do_loop ts next d i ≡ Some x → IsPart (IsStmt ts b) (suc d) i x
  unfolding p.do_loop
  do_sound b i x c e =
      let y = bind_some _ _ _ e in let h = guard_some _ _ _ y.next in
      let z = bind_some _ _ _ h.1 in let k = bind_some _ _ _ z.next in
      let r = body_sound.gives _ _ y.is in let r2 = test_sound.gives _ _ z.is in
      node_part (IsStmt ts b) d i _ _ _ x k.next
      (g.do_while_stmt c r.stands (sees_key_true ts _ _ h.0) r2.stands k.is)

  for_rest_sound : (b : Bool) (i : ℕ) (f : Got First) (x : Got Stmt) → word ts i ≡ w.Key key.For
      → word ts (suc i) ≡ w.Sign sign.OpenParenthesis → IsPart (IsFirst ts) d (suc (suc i)) f
      → word ts f.stop ≡ w.Sign sign.Semicolon → p.for_rest ts next d i f ≡ Some x
      → IsPart (IsStmt ts b) (suc d) i x
  unfolding p.for_rest
  for_rest_sound b i f x c c2 r c3 e =
      let y = bind_some _ _ _ e in let z = bind_some _ _ _ y.next in
      let s = bind_some _ _ _ z.next in
      let r2 = (before_sound ts (expr ts d) d (expr_sound ts d) sign.Semicolon).gives _ _ y.is in
      let r3 =
      (before_sound ts (expr ts d) d (expr_sound ts d) sign.CloseParenthesis).gives _ _ z.is
      in let r4 = body_sound.gives _ _ s.is in
      node_part (IsStmt ts b) d i _ _ _ x s.next
      (g.for_stmt c c2 r.stands c3 r2.stands r3.stands r4.stands)

  for_sound : (b : Bool) (i : ℕ) (x : Got Stmt) → word ts i ≡ w.Key key.For
      → p.for_loop ts next d i ≡ Some x → IsPart (IsStmt ts b) (suc d) i x
  unfolding p.for_loop
  for_sound b i x c e =
      let h = guard_some _ _ _ e in let y = bind_some _ _ _ h.1 in
      let h2 = guard_some _ _ _ y.next in
      for_rest_sound b i y.first x c (sees_true ts _ _ h.0) ((first_sound ts d).gives _ _ y.is)
      (sees_true ts _ _ h2.0) h2.1

  case_sound : IsSoundWhere (sees_key ts key.Case) (IsCase ts) d (p.case_of ts next d)
  unfolding p.case_of
  case_sound = record {
    gives = λ i x t e.
        let y = bind_some _ _ _ e in let h = guard_some _ _ _ y.next in
        let z = bind_some _ _ _ h.1 in
        let r = (ranges_sound ts (expr ts d) d (expr_sound ts d)).gives _ _ y.is in
        let r2 = body_sound.gives _ _ z.is in let low = r.low in let low2 = r2.low in
        got_part (IsCase ts) d i _ _ _ x z.next
        (g.case_of (sees_key_true ts _ i t) r.stands (sees_true ts _ _ h.0) r2.stands)
        (omega arith);
  }

  default_sound : IsSound (IsDefault ts) d (p.default_of ts next d)
  unfolding p.default_of
  default_sound = record {
    gives = λ i x e. ⊎_elim
        (λ t. let h = guard_some _ _ _ t.1 in let y = bind_some _ _ _ h.1 in
        let r = body_sound.gives _ _ y.is in
        got_part (IsDefault ts) d i _ _ _ x y.next
        (g.one_default (sees_key_true ts _ i t.0) (sees_true ts _ _ h.0) r.stands) r.low)
        (λ f. got_part (IsDefault ts) d i _ _ _ x f.1 (g.no_default f.0) (omega arith))
        (if_cases (sees_key ts key.Default i) _ _ x e);
  }

  switch_rest_sound : (b : Bool) (i : ℕ) (v : Got Expr) (x : Got Stmt)
      → word ts i ≡ w.Key key.Switch → IsPart (Condition ts) d (suc i) v
      → word ts v.stop ≡ w.Sign sign.OpenBrace
      → p.switch_rest ts next d i v ≡ Some x → IsPart (IsStmt ts b) (suc d) i x
  unfolding p.switch_rest
  switch_rest_sound b i v x c r c2 e =
      let y = bind_some _ _ _ e in let z = bind_some _ _ _ y.next in
      let h = guard_some _ _ _ z.next in
      let r2 = all_sound case_sound _ _ _ y.is in let r3 = default_sound.gives _ _ z.is in
      node_part (IsStmt ts b) d i _ _ _ x h.1
      (g.switch_stmt c r.stands c2 (from_cases r2.stands) r3.stands (sees_true ts _ _ h.0))

  switch_sound : (b : Bool) (i : ℕ) (x : Got Stmt) → word ts i ≡ w.Key key.Switch
      → p.switch ts next d i ≡ Some x → IsPart (IsStmt ts b) (suc d) i x
  unfolding p.switch
  switch_sound b i x c e =
      let y = bind_some _ _ _ e in let h = guard_some _ _ _ y.next in
      switch_rest_sound b i y.first x c (test_sound.gives _ _ y.is) (sees_true ts _ _ h.0) h.1

  gives_sound : (b : Bool) (make : At → Option Expr → Stmt) (i : ℕ) (x : Got Stmt)
      → ((h k : ℕ) (v : Option Expr) → IsResult ts h v (suc i) k
      → IsStmt ts b (suc h) (make (at ts i) v) i k)
      → p.gives ts next d make i ≡ Some x → IsPart (IsStmt ts b) (suc d) i x
  unfolding p.gives
  gives_sound b make i x rule e =
      let y = bind_some _ _ _ e in
      let r = (result_sound ts (expr ts d) d (expr_sound ts d)).gives _ _ y.is in
      node_part (IsStmt ts b) d i _ _ _ x y.next (rule _ _ _ r.stands)

  assert_sound : (b : Bool) (i : ℕ) (x : Got Stmt) → word ts i ≡ w.Key key.Assert
      → p.assert_stmt ts next d i ≡ Some x → IsPart (IsStmt ts b) (suc d) i x
  unfolding p.assert_stmt
  assert_sound b i x c e =
      let y = bind_some _ _ _ e in let k = bind_some _ _ _ y.next in
      let r = whole_sound.gives _ _ y.is in
      node_part (IsStmt ts b) d i _ _ _ x k.next (g.assert_stmt c r.stands k.is)

  leaves_sound : (b : Bool) (make : At → Stmt) (i : ℕ) (x : Got Stmt)
      → ((k : ℕ) → ending ts (suc i) ≡ Some k → IsStmt ts b 1 (make (at ts i)) i k)
      → p.leaves ts next d make i ≡ Some x → IsPart (IsStmt ts b) (suc d) i x
  unfolding p.leaves
  leaves_sound b make i x rule e =
      let k = bind_some _ _ _ e in
      got_part (IsStmt ts b) (suc d) i _ _ _ x k.next (rule _ k.is) (omega arith)

  state_sound : (b : Bool) (i : ℕ) (x : Got Stmt) → word ts i ≡ w.Key key.State
      → p.state ts next d i ≡ Some x → IsPart (IsStmt ts b) (suc d) i x
  unfolding p.state
  state_sound b i x c e =
      let y = bind_some _ _ _ e in let z = bind_some _ _ _ y.next in
      let k = bind_some _ _ _ z.next in
      let r = (state_condition_sound ts (expr ts d) d (expr_sound ts d)).gives _ _ y.is in
      let r2 = (state_name_sound ts d).gives _ _ z.is in
      node_part (IsStmt ts b) d i _ _ _ x k.next (g.state_stmt c r.stands r2.stands k.is)

  local_sound : (st : Storage) (k : Key) (i : ℕ) (x : Got Stmt) → word ts i ≡ w.Key k
      → local_storage k ≡ Some st → p.local ts next d st i ≡ Some x
      → IsPart (IsStmt ts true) (suc d) i x
  unfolding p.local
  local_sound st k i x c s e =
      let y = bind_some _ _ _ e in let r = (variables_sound ts d st).gives _ _ y.is in
      node_part (IsStmt ts true) d i _ _ _ x y.next (g.local_stmt c s r.stands)

  local_constant_sound : (i : ℕ) (x : Got Stmt) → word ts i ≡ w.Key key.Const
      → p.local_constant ts next d i ≡ Some x → IsPart (IsStmt ts true) (suc d) i x
  unfolding p.local_constant
  local_constant_sound i x c e =
      let y = bind_some _ _ _ e in
      let r = (constant_sound ts (expr ts d) d (expr_sound ts d)).gives _ _ y.is in
      node_part (IsStmt ts true) d i _ _ _ x y.next (g.constant_stmt c r.stands)

  -- where variables and constants may stand
  at_block : (b : Bool) (o : Option (Got Stmt)) (i : ℕ) (x : Got Stmt) → read.guard b o ≡ Some x
      → (o ≡ Some x → IsPart (IsStmt ts true) (suc d) i x) → IsPart (IsStmt ts b) (suc d) i x
  at_block true o i x e rule = rule e
  at_block false o i x e rule = absurd (none_some e)

  key_sound : (b : Bool) (i : ℕ) (x : Got Stmt) (k : Key) → word ts i ≡ w.Key k
      → p.key_stmt ts next d b i k ≡ Some x → IsPart (IsStmt ts b) (suc d) i x
  unfolding p.key_stmt
  key_sound b i x key.If c e = branch_sound b i x c e
  key_sound b i x key.While c e = while_sound b i x c e
  key_sound b i x key.Do c e = do_sound b i x c e
  key_sound b i x key.For c e = for_sound b i x c e
  key_sound b i x key.Switch c e = switch_sound b i x c e
  key_sound b i x key.Return c e = gives_sound b node.Return i x (λ h k v r. g.return_stmt c r) e
  key_sound b i x key.Exit c e = gives_sound b node.Exit i x (λ h k v r. g.exit_stmt c r) e
  key_sound b i x key.Sleep c e = gives_sound b node.Sleep i x (λ h k v r. g.sleep_stmt c r) e
  key_sound b i x key.Assert c e = assert_sound b i x c e
  key_sound b i x key.Break c e = leaves_sound b node.Break i x (λ k f. g.break_stmt c f) e
  key_sound b i x key.Continue c e = leaves_sound b node.Continue i x (λ k f. g.continue_stmt c f) e
  key_sound b i x key.State c e = state_sound b i x c e
  key_sound b i x key.New c e =
      at_block b _ i x e (λ f. local_sound storage.New key.New i x c refl f)
  key_sound b i x key.Static c e =
      at_block b _ i x e (λ f. local_sound storage.Static key.Static i x c refl f)
  key_sound b i x key.Const c e = at_block b _ i x e (λ f. local_constant_sound i x c f)
  key_sound b i x _ c e = (does_sound b).gives i x e

  stmt_by_sound : (b : Bool) (i : ℕ) (x : Got Stmt) (v : Word) → word ts i ≡ v
      → p.stmt_by ts next d b i v ≡ Some x → IsPart (IsStmt ts b) (suc d) i x
  unfolding p.stmt_by
  stmt_by_sound b i x (w.Sign sign.OpenBrace) c e = block_sound b i x c e
  stmt_by_sound b i x (w.Sign sign.Semicolon) c e =
      got_part (IsStmt ts b) (suc d) i _ _ _ x e (g.empty_stmt c) (omega arith)
  stmt_by_sound b i x (w.Key k) c e = key_sound b i x k c e
  stmt_by_sound b i x w.Name c e = ⊎_elim
      (λ t. bare_sound b i x c t.0 t.1)
      (λ f. (does_sound b).gives i x f.1)
      (if_cases (is_bare ts (suc i)) _ _ x e)
  stmt_by_sound b i x _ c e = (does_sound b).gives i x e

pub statement_sound : (ts : List Token) (n : ℕ) → NextSound ts n (p.statement ts n)
unfolding p.statement
statement_sound ts zero = record { reads = λ b. record { gives = λ i x e. absurd (none_some e) } }
statement_sound ts (suc d) =
    record {
      reads = λ b. record {
        gives = λ i x e. stmt_by_sound ts (p.statement ts d) d
            (statement_sound ts d) b i x _ refl e;
      };
    }
