-- The parser of statements, as definitions.
use Rattle.std.specs.Prelude.{ℕ, zero, suc, max, Bool, true, false, not, if◌then◌else◌, List, []}
use Rattle.std.specs.Prelude.{◌∷◌, length, Option, Some, None}
use Rattle.pawn_token.specs.declared.sign.Sign.{Sign}
use Rattle.pawn_token.specs.declared.sign.Sign.TheVariants as sign
use Rattle.pawn_token.specs.declared.key.Key.{Key}
use Rattle.pawn_token.specs.declared.key.Key.TheVariants as key
use Rattle.pawn_lex.specs.declared.token.Token.{Token}
use Rattle.pawn_tree.specs.declared.name.At.{At}
use Rattle.pawn_tree.specs.declared.name.StateName.{StateName}
use Rattle.pawn_tree.specs.declared.variable.Storage.{Storage}
use Rattle.pawn_tree.specs.declared.variable.Storage.TheVariants as storage
use Rattle.pawn_tree.specs.Expressions.{Expr, args}
use Rattle.pawn_tree.specs.Expressions as e
use Rattle.pawn_tree.specs.Statements.{First, Range, Stmt, Case, stmts, maybe_stmt, cases}
use Rattle.pawn_tree.specs.Statements as s
use Rattle.tree_rules.specs.declared.word.Word.{Word}
use Rattle.tree_rules.specs.declared.word.Word.TheVariants as w
use Rattle.tree_rules.specs.Tokens.{word, sees, sees_key, spelling, at, name_at, is_name}
use Rattle.tree_rules.specs.Tokens.{is_first}
use Rattle.tree_rules.specs.Ends.{ending}
use Rattle.tree_rules.specs.Statements.{is_bare}
use Rattle.tree_rules.specs.Readers.{Got, got, Reader, ◌>>=◌, guard, node, many, listed, led}
use Rattle.tree_rules.specs.ReadExpressions.{Sub, expr, value_arg, more_args}
use Rattle.tree_rules.specs.ReadVariables.{expression, condition, constant, vars, variables}

module _ (ts : List Token) (sub : Sub) where
  -- behind `return`, `exit` or `sleep`
  unfoldable pub result_of : ℕ → Option ℕ → Option (Got (Option Expr))
  result_of i (Some k) = Some (got None 0 k)
  result_of i None = guard (not (is_first ts i)) (expression ts sub true 15 i >>= (λ x.
      ending ts x.stop >>= (λ k. Some (got (Some x.tree) x.height k))))

  -- a value and the end of the statement, or the end alone
  unfoldable pub result : Reader (Option Expr)
  result i = result_of i (ending ts i)

  -- an expression before a sign, or none
  unfoldable pub before : Sign → Reader (Option Expr)
  before c i =
      if sees ts c i then Some (got None 0 i)
      else (expression ts sub true 15 i >>= (λ x.
      guard (sees ts c x.stop) (Some (got (Some x.tree) x.height x.stop))))

  -- a value of a case, or all from a first to a last one
  unfoldable pub range : Reader Range
  range i = expression ts sub false 13 i >>= (λ x.
      led ts sign.DotDot (expression ts sub false 13) x.stop >>= (λ y.
      Some (got (record { first = x.tree; last = y.tree }) (max x.height y.height) y.stop)))

  -- all values of a case
  unfoldable pub ranges : Reader (List Range)
  ranges i = listed ts range i

  -- the condition of a `state`, where one stands
  unfoldable pub state_condition : Reader (Option Expr)
  state_condition i =
      if sees ts sign.OpenParenthesis i then (condition ts sub i >>= (λ x.
      Some (got (Some x.tree) x.height x.stop))) else Some (got None 0 i)

-- a state, with or without its automaton
unfoldable pub state_name : List Token → Reader StateName
state_name ts i = guard (is_name (word ts i)) (
    if sees ts sign.Colon (suc i)
    then guard (is_name (word ts (suc (suc i))))
    (Some (got (record {
      automaton = Some (name_at ts i);
      state = name_at ts (suc (suc i));
    }) 0 (suc (suc (suc i)))))
    else Some (got (record { automaton = None; state = name_at ts i }) 0 (suc i)))

-- what a `for` begins with
unfoldable pub first : List Token → ℕ → Reader First
first ts d i =
    if sees ts sign.Semicolon i then Some (got s.Nothing 0 i)
    else (if sees_key ts key.New i then (vars ts d (suc i) >>= (λ x.
    Some (got (s.New x.tree) x.height x.stop)))
    else (expression ts (expr ts d) true 15 i >>= (λ x.
    Some (got (s.Value x.tree) x.height x.stop))))

-- a parser of statements: whether variables and constants may stand there, from
abbrev pub Next : Type 0
Next = Bool → Reader Stmt

module _ (ts : List Token) (next : Next) (d : ℕ) where
  -- an expression as a statement
  unfoldable pub does : Reader Stmt
  does i = expression ts (expr ts d) true 15 i >>= (λ x. ending ts x.stop >>= (λ k.
      node d (s.Do (at ts i) x.tree) x.height k))

  -- a call without parentheses
  unfoldable pub bare : Reader Stmt
  bare i = value_arg ts (expr ts d) (suc i) >>= (λ x.
      more_args ts (expr ts d) (suc (length ts)) false (x.tree ∷ []) x.height x.stop >>= (λ xs.
      ending ts xs.stop >>= (λ k.
      node d (s.Do (at ts i) (e.Call (at ts i) (spelling ts i) (args xs.tree) true))
      (suc xs.height) k)))

  -- a block
  unfoldable pub block : Reader Stmt
  block i = many (λ j. not (sees ts sign.CloseBrace j)) (next true) (suc (length ts)) [] 0
      (suc i) >>= (λ ss.
      node d (s.Block (at ts i) (stmts ss.tree)) ss.height (suc ss.stop))

  -- `else`, where it stands
  unfoldable pub other : Reader (Option Stmt)
  other i = if sees_key ts key.Else i then (next false (suc i) >>= (λ x.
      Some (got (Some x.tree) x.height x.stop))) else Some (got None 0 i)

  -- `if`
  unfoldable pub branch : Reader Stmt
  branch i = condition ts (expr ts d) (suc i) >>= (λ x. next false x.stop >>= (λ body.
      other body.stop >>= (λ o.
      node d (s.If (at ts i) x.tree body.tree (maybe_stmt o.tree))
      (max x.height (max body.height o.height)) o.stop)))

  -- `while`
  unfoldable pub while_loop : Reader Stmt
  while_loop i = condition ts (expr ts d) (suc i) >>= (λ x. next false x.stop >>= (λ body.
      node d (s.While (at ts i) x.tree body.tree) (max x.height body.height) body.stop))

  -- `do`
  unfoldable pub do_loop : Reader Stmt
  do_loop i = next false (suc i) >>= (λ body.
      guard (sees_key ts key.While body.stop) (condition ts (expr ts d) (suc body.stop) >>= (λ x.
      ending ts x.stop >>= (λ k.
      node d (s.DoWhile (at ts i) body.tree x.tree) (max body.height x.height) k))))

  -- what stands behind the first part of a `for`
  unfoldable pub for_rest : ℕ → Got First → Option (Got Stmt)
  for_rest i f = before ts (expr ts d) sign.Semicolon (suc f.stop) >>= (λ test.
      before ts (expr ts d) sign.CloseParenthesis (suc test.stop) >>= (λ step.
      next false (suc step.stop) >>= (λ body.
      node d (s.For (at ts i) f.tree test.tree step.tree body.tree)
      (max f.height (max test.height (max step.height body.height))) body.stop)))

  -- `for`
  unfoldable pub for_loop : Reader Stmt
  for_loop i = guard (sees ts sign.OpenParenthesis (suc i)) (first ts d (suc (suc i)) >>= (λ f.
      guard (sees ts sign.Semicolon f.stop) (for_rest i f)))

  -- a case
  unfoldable pub case_of : Reader Case
  case_of i = ranges ts (expr ts d) (suc i) >>= (λ r.
      guard (sees ts sign.Colon r.stop) (next false (suc r.stop) >>= (λ body.
      Some (got (s.Values (at ts i) r.tree body.tree) (max r.height body.height) body.stop))))

  -- `default`, where it stands
  unfoldable pub default_of : Reader (Option Stmt)
  default_of i =
      if sees_key ts key.Default i
      then guard (sees ts sign.Colon (suc i)) (next false (suc (suc i)) >>= (λ x.
      Some (got (Some x.tree) x.height x.stop)))
      else Some (got None 0 i)

  -- what stands in the braces of a `switch`
  unfoldable pub switch_rest : ℕ → Got Expr → Option (Got Stmt)
  switch_rest i x = many (sees_key ts key.Case) case_of (suc (length ts)) [] 0 (suc x.stop) >>=
      (λ cs. default_of cs.stop >>= (λ o.
      guard (sees ts sign.CloseBrace o.stop)
      (node d (s.Switch (at ts i) x.tree (cases cs.tree) (maybe_stmt o.tree))
      (max x.height (max cs.height o.height)) (suc o.stop))))

  -- `switch`
  unfoldable pub switch : Reader Stmt
  switch i = condition ts (expr ts d) (suc i) >>= (λ x.
      guard (sees ts sign.OpenBrace x.stop) (switch_rest i x))

  -- `return`, `exit` and `sleep`
  unfoldable pub gives : (At → Option Expr → Stmt) → Reader Stmt
  gives make i = result ts (expr ts d) (suc i) >>= (λ x.
      node d (make (at ts i) x.tree) x.height x.stop)

  -- `assert`
  unfoldable pub assert_stmt : Reader Stmt
  assert_stmt i = expression ts (expr ts d) true 15 (suc i) >>= (λ x. ending ts x.stop >>= (λ k.
      node d (s.Assert (at ts i) x.tree) x.height k))

  -- `break` and `continue`
  unfoldable pub leaves : (At → Stmt) → Reader Stmt
  leaves make i = ending ts (suc i) >>= (λ k. Some (got (make (at ts i)) 1 k))

  -- `state`
  unfoldable pub state : Reader Stmt
  state i = state_condition ts (expr ts d) (suc i) >>= (λ x. state_name ts x.stop >>= (λ n.
      ending ts n.stop >>= (λ k.
      node d (s.State (at ts i) x.tree n.tree) x.height k)))

  -- variables of a block
  unfoldable pub local : Storage → Reader Stmt
  local st i = variables ts d st (suc i) >>= (λ x.
      node d (s.Local (at ts i) x.tree) x.height x.stop)

  -- a constant of a block
  unfoldable pub local_constant : Reader Stmt
  local_constant i = constant ts (expr ts d) (suc i) >>= (λ x.
      node d (s.Constant (at ts i) x.tree) x.height x.stop)

  -- a statement, by its key word
  unfoldable pub key_stmt : Bool → ℕ → Key → Option (Got Stmt)
  key_stmt b i key.If = branch i
  key_stmt b i key.While = while_loop i
  key_stmt b i key.Do = do_loop i
  key_stmt b i key.For = for_loop i
  key_stmt b i key.Switch = switch i
  key_stmt b i key.Return = gives s.Return i
  key_stmt b i key.Exit = gives s.Exit i
  key_stmt b i key.Sleep = gives s.Sleep i
  key_stmt b i key.Assert = assert_stmt i
  key_stmt b i key.Break = leaves s.Break i
  key_stmt b i key.Continue = leaves s.Continue i
  key_stmt b i key.State = state i
  key_stmt b i key.New = guard b (local storage.New i)
  key_stmt b i key.Static = guard b (local storage.Static i)
  key_stmt b i key.Const = guard b (local_constant i)
  key_stmt b i _ = does i

  -- a statement, by its first token
  unfoldable pub stmt_by : Bool → ℕ → Word → Option (Got Stmt)
  stmt_by b i (w.Sign sign.OpenBrace) = block i
  stmt_by b i (w.Sign sign.Semicolon) = Some (got (s.Empty (at ts i)) 1 (suc i))
  stmt_by b i (w.Key k) = key_stmt b i k
  stmt_by b i w.Name = if is_bare ts (suc i) then bare i else does i
  stmt_by b i _ = does i

-- statements of height d at most
unfoldable pub statement : List Token → ℕ → Next
statement ts zero = λ b i. None
statement ts (suc d) = λ b i. stmt_by ts (statement ts d) d b i (word ts i)
