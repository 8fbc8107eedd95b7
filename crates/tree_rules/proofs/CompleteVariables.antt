-- Each variable and constant of the grammar is what the parser gives.
use Rattle.std.proofs.Common.{◌≡◌, ℕ, zero, suc, ◌≤◌, ◌<◌, Bool, true, false, if◌then◌else◌, List}
use Rattle.std.proofs.Common.{length, Option, Some, refl, arith}
use Rattle.std.proofs.lemmas.Bool.{le-leb}
use Rattle.pawn_token.specs.declared.sign.Sign.TheVariants as sign
use Rattle.pawn_token.specs.declared.key.Key.TheVariants as key
use Rattle.pawn_lex.specs.declared.token.Token.{Token}
use Rattle.pawn_tree.specs.declared.variable.Storage.{Storage}
use Rattle.pawn_tree.specs.Expressions.{Expr}
use Rattle.pawn_tree.specs.Variables.{Dim, Init, Var, Variables}
use Rattle.pawn_tree.specs.Statements.{ConstantOf}
use Rattle.tree_rules.specs.Tokens.{sees_key, is_tag, behind_tag, behind_key}
use Rattle.tree_rules.specs.Lists.{Many, no_more, one_more, Behind, Several, several, Listed, Led}
use Rattle.tree_rules.specs.Lists.{left_out, led}
use Rattle.tree_rules.specs.Expressions.{Whole, Condition, condition}
use Rattle.tree_rules.specs.Variables.{IsDim, open_dim, cells_dim, chars_dim, AreDims}
use Rattle.tree_rules.specs.Variables.{further_init, IsInit, init_value, braces, braces_rest}
use Rattle.tree_rules.specs.Variables.{AreInits, first_init, MoreInits, no_inits, one_init, IsVar}
use Rattle.tree_rules.specs.Variables.{var, AreVariables, variables, IsConstant, constant}
use Rattle.tree_rules.specs.Readers.{Got, got, Reader}
use Rattle.tree_rules.specs.Readers as read
use Rattle.tree_rules.specs.ReadExpressions.{Sub, expr}
use Rattle.tree_rules.specs.ReadVariables as p
use Rattle.tree_rules.proofs.Base.{true_sees, sees_other, true_sees_key, sees_other_key, there}
use Rattle.tree_rules.proofs.Base.{ending_on}
use Rattle.tree_rules.proofs.ListLaws.{IsComplete, Advances, all_complete, several_complete}
use Rattle.tree_rules.proofs.ListLaws.{behind_complete, behind_advances, several_steps}
use Rattle.tree_rules.proofs.ListLaws.{many_count, many_moves, led_complete}
use Rattle.tree_rules.proofs.Moves.{begins, not_sign, whole_steps}
use Rattle.tree_rules.proofs.Complete.{ExprComplete, expr_complete, none_low}

module _ (ts : List Token) (sub : Sub) (n : ℕ) (complete : ExprComplete ts sub n) where
  pub expression_complete : (b : Bool) (level : ℕ)
      → IsComplete (Whole ts b level) n (p.expression ts sub b level)
  expression_complete b level =
      record { all = λ x l. rw (complete.all level x.is_expr l x.up_to x.ends) refl }

  condition_all : {h i j : ℕ} {x : Expr} → Condition ts h x i j → h ≤ n
      → p.condition ts sub i ≡ Some (got x h j)
  unfolding p.condition
  condition_all {i = i} (condition {j = j} c x c2) l =
      rw (true_sees ts _ i c, (expression_complete true 15).all x l, true_sees ts _ j c2) refl

  pub condition_complete : IsComplete (Condition ts) n (p.condition ts sub)
  condition_complete = record { all = λ c l. condition_all c l }

  dim_all : {h i j : ℕ} {x : Dim} → IsDim ts h x i j → h ≤ n → p.dim ts sub i ≡ Some (got x h j)
  unfolding p.dim p.dim_end
  dim_all {i = i} (open_dim c c2) l = rw (true_sees ts _ (suc i) c2) refl
  dim_all {i = i} (cells_dim {j = j} c x c2) l =
      rw (
        not_sign ts sign.CloseBracket (suc i) (begins x.is_expr) refl,
        (expression_complete true 13).all x l,
        sees_other_key ts key.Char j _ c2 refl,
        true_sees ts _ j c2,
      ) refl
  dim_all {i = i} (chars_dim {j = j} c x c2 c3) l =
      rw (
        not_sign ts sign.CloseBracket (suc i) (begins x.is_expr) refl,
        (expression_complete true 13).all x l,
        true_sees_key ts _ j c2,
        true_sees ts _ (suc j) c3,
      )
      refl

  dim_steps : {h i j : ℕ} {x : Dim} → IsDim ts h x i j → (i < j) × (i < length ts)
  dim_steps {i = i} (open_dim c c2) = (omega arith, there ts i _ c refl)
  dim_steps {i = i} (cells_dim c x c2) =
      let s = whole_steps x in let l = s.0 in (omega arith, there ts i _ c refl)
  dim_steps {i = i} (chars_dim c x c2 c3) =
      let s = whole_steps x in let l = s.0 in (omega arith, there ts i _ c refl)

  dim_advances : Advances ts (IsDim ts)
  dim_advances = record { steps = λ x. dim_steps x }

  dims_moves : {h i j : ℕ} {xs : List Dim} → AreDims ts h xs i j → i ≤ j
  dims_moves m = many_moves dim_advances m

  dims_all : {h i j : ℕ} {xs : List Dim} → AreDims ts h xs i j → h ≤ n
      → p.dims ts sub i ≡ Some (got xs h j)
  unfolding p.dims
  dims_all m l =
      let few = many_count dim_advances m in
      all_complete (record { all = λ x l. dim_all x l }) m l (suc (length ts)) (omega arith)

  pub dims_complete : IsComplete (AreDims ts) n (p.dims ts sub)
  dims_complete = record { all = λ m l. dims_all m l }

  constant_all : {h i j : ℕ} {x : ConstantOf} → IsConstant ts h x i j → h ≤ n
      → p.constant ts sub i ≡ Some (got x h j)
  unfolding p.constant
  constant_all (constant c c2 x e) l =
      rw (c, true_sees ts _ _ c2, (expression_complete true 13).all x l, e) refl

  pub constant_complete : IsComplete (IsConstant ts) n (p.constant ts sub)
  constant_complete = record { all = λ x l. constant_all x l }

to_inits : {ts : List Token} {h i j : ℕ} {xs : List Init} → MoreInits ts h xs i j
    → Many (further_init ts) (Behind (IsInit ts)) h xs i j
to_inits (no_inits f) = no_more f
to_inits (one_init t x m) = one_more t x (to_inits m)

to_several : {ts : List Token} {h i j : ℕ} {xs : List Init} → AreInits ts h xs i j
    → Several (further_init ts) (IsInit ts) (Behind (IsInit ts)) h xs i j
to_several (first_init x m) = several x (to_inits m)

mutual
  init_moves : {ts : List Token} {h i j : ℕ} {x : Init} → IsInit ts h x i j → i < j
  init_moves (init_value x) = let s = whole_steps x in s.0
  init_moves (braces c xs c2) = let m = inits_move xs in omega arith
  init_moves (braces_rest c xs c2 c3 c4) = let m = inits_move xs in omega arith

  inits_move : {ts : List Token} {h i j : ℕ} {xs : List Init} → AreInits ts h xs i j → i ≤ j
  inits_move (first_init x m) = let a = init_moves x in let b = more_inits_move m in omega arith

  more_inits_move : {ts : List Token} {h i j : ℕ} {xs : List Init} → MoreInits ts h xs i j → i ≤ j
  more_inits_move (no_inits f) = omega arith
  more_inits_move (one_init t x m) =
      let a = init_moves x in let b = more_inits_move m in omega arith

init_steps : {ts : List Token} {h i j : ℕ} {x : Init} → IsInit ts h x i j
    → (i < j) × (i < length ts)
init_steps (init_value x) = whole_steps x
init_steps {ts = ts} {i = i} (braces c xs c2) =
    let m = inits_move xs in (omega arith, there ts i _ c refl)
init_steps {ts = ts} {i = i} (braces_rest c xs c2 c3 c4) =
    let m = inits_move xs in (omega arith, there ts i _ c refl)

init_advances : (ts : List Token) → Advances ts (IsInit ts)
init_advances ts = record { steps = λ x. init_steps x }

init_low : {ts : List Token} {h i j : ℕ} {x : Init} → IsInit ts h x i j → h ≤ 0 → ⊥
init_low (init_value x) l = none_low x.is_expr l
init_low (braces c xs c2) l = omega arith
init_low (braces_rest c xs c2 c3 c4) l = omega arith

low_in : {d : ℕ} (h : ℕ) → suc h ≤ suc d → h ≤ d
low_in h low = omega arith

module _ (ts : List Token) (sub : Sub) (next : Reader Init) (d : ℕ)
    (complete : ExprComplete ts sub (suc d)) (completes : IsComplete (IsInit ts) d next) where
  inits_complete : IsComplete (Several (further_init ts) (IsInit ts) (Behind (IsInit ts))) d
      (read.several ts (further_init ts) next (read.behind next))
  inits_complete =
      several_complete ts completes (behind_complete completes) (behind_advances (init_advances ts))

  init_by_all : {h i j : ℕ} {x : Init} → IsInit ts h x i j → h ≤ suc d
      → p.init_by ts sub next d i ≡ Some (got x h j)
  unfolding p.init_by p.braces p.braces_end
  init_by_all {i = i} (init_value x) l =
      rw (
        not_sign ts sign.OpenBrace i (begins x.is_expr) refl,
        (expression_complete ts sub (suc d) complete true 14).all x l,
      ) refl
  init_by_all {i = i} (braces {j = j} c xs c2) l =
      rw (
        true_sees ts _ i c,
        inits_complete.all (to_several xs) (low_in _ l),
        sees_other ts sign.Comma j _ c2 refl,
        true_sees ts _ j c2,
        le-leb _ _ (low_in _ l),
      ) refl
  init_by_all {i = i} (braces_rest {j = j} c xs c2 c3 c4) l =
      rw (
        true_sees ts _ i c,
        inits_complete.all (to_several xs) (low_in _ l),
        true_sees ts _ j c2,
        true_sees ts _ (suc j) c3,
        true_sees ts _ (suc (suc j)) c4,
        le-leb _ _ (low_in _ l),
      ) refl

pub init_complete : (ts : List Token) (n : ℕ) → IsComplete (IsInit ts) n (p.init ts n)
unfolding p.init
init_complete ts zero = record { all = λ x l. absurd (init_low x l) }
init_complete ts (suc d) =
    record {
      all = λ x l. init_by_all ts (expr ts (suc d)) (p.init ts d) d
          (expr_complete ts (suc d)) (init_complete ts d) x l;
    }

-- the tokens that a variable takes
pub dims_on : {ts : List Token} {h i j : ℕ} {xs : List Dim} → AreDims ts h xs i j → i ≤ j
dims_on {ts = ts} m = dims_moves ts (expr ts 0) 0 (expr_complete ts 0) m

pub behind_tag_on : (ts : List Token) (i : ℕ) → i ≤ behind_tag ts i
unfolding behind_tag
behind_tag_on ts i = on_by (is_tag ts i) i
  where
    on_by : (b : Bool) (i : ℕ) → i ≤ (if b then suc (suc i) else i)
    on_by true i = omega arith
    on_by false i = omega arith

led_moves : {ts : List Token} {c : _} {h i j : ℕ} {x : Option Init}
    → Led ts c (IsInit ts) h x i j → i ≤ j
led_moves (left_out f) = omega arith
led_moves (led c x) = let m = init_moves x in omega arith

tag_inside : (ts : List Token) (i : ℕ) → behind_tag ts i < length ts → i < length ts
tag_inside ts i l = let o = behind_tag_on ts i in omega arith

var_steps : {ts : List Token} {h i j : ℕ} {x : Var} → IsVar ts h x i j → (i < j) × (i < length ts)
var_steps {ts = ts} {i = i} (var c ds x) =
    let o = behind_tag_on ts i in let m = dims_moves ts (expr ts 0) 0 (expr_complete ts 0) ds in
    let l = led_moves x in let t = there ts (behind_tag ts i) _ c refl in
    (omega arith, omega arith)

pub var_advances : (ts : List Token) → Advances ts (IsVar ts)
var_advances ts = record { steps = λ x. var_steps x }

module _ (ts : List Token) (d : ℕ) where
  var_all : {h i j : ℕ} {x : Var} → IsVar ts h x i j → h ≤ d → p.var ts d i ≡ Some (got x h j)
  unfolding p.var
  var_all (var c ds x) l =
      rw (
        c,
        (dims_complete ts (expr ts d) d (expr_complete ts d)).all ds (omega arith),
        (led_complete ts sign.Assign (init_complete ts d)).all x (omega arith),
      ) refl

  var_complete : IsComplete (IsVar ts) d (p.var ts d)
  var_complete = record { all = λ x l. var_all x l }

  vars_all : {h i j : ℕ} {xs : List Var} → Listed ts (IsVar ts) h xs i j → h ≤ d
      → p.vars ts d i ≡ Some (got xs h j)
  unfolding p.vars
  vars_all m l =
      (several_complete ts var_complete (behind_complete var_complete)
      (behind_advances (var_advances ts))).all m l

  pub vars_complete : IsComplete (Listed ts (IsVar ts)) d (p.vars ts d)
  vars_complete = record { all = λ m l. vars_all m l }

  variables_all : (st : Storage) {h i j : ℕ} {x : Variables} → AreVariables ts st h x i j → h ≤ d
      → p.variables ts d st i ≡ Some (got x h j)
  unfolding p.variables
  variables_all st (variables m e) l = rw (vars_all m l, e) refl

  pub variables_complete : (st : Storage) → IsComplete (AreVariables ts st) d (p.variables ts d st)
  variables_complete st = record { all = λ x l. variables_all st x l }

-- the tokens that variables and a constant take
pub vars_moves : {ts : List Token} {h i j : ℕ} {xs : List Var}
    → Listed ts (IsVar ts) h xs i j → i < j
vars_moves {ts = ts} m =
    let s = several_steps (var_advances ts) (behind_advances (var_advances ts)) m in s.0

pub behind_key_on : (ts : List Token) (k : _) (i : ℕ) → i ≤ behind_key ts k i
unfolding behind_key
behind_key_on ts k i = on_by (sees_key ts k i) i
  where
    on_by : (b : Bool) (i : ℕ) → i ≤ (if b then suc i else i)
    on_by true i = omega arith
    on_by false i = omega arith

pub variables_moves : {ts : List Token} {st : Storage} {h i j : ℕ} {x : Variables}
    → AreVariables ts st h x i j → i ≤ j
variables_moves {ts = ts} {i = i} (variables {j = j} {k = k} m e) =
    let o = behind_key_on ts key.Const i in
    let a = vars_moves m in let b = ending_on ts j k e in omega arith

pub constant_moves : {ts : List Token} {h i j : ℕ} {x : ConstantOf} → IsConstant ts h x i j → i ≤ j
constant_moves {ts = ts} {i = i} (constant {j = j} {k = k} c c2 x e) =
    let o = behind_tag_on ts i in let s = whole_steps x in
    let l = s.0 in let b = ending_on ts j k e in omega arith
