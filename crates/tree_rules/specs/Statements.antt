-- The grammar of statements (Language Guide, "Statements"): which one stands on the tokens from i
-- up to j.
use Rattle.std.specs.Prelude.{◌≡◌, ℕ, suc, max, Bool, true, false, not, ◌&&◌, List, [], ◌∷◌, Option}
use Rattle.std.specs.Prelude.{Some, None}
use Rattle.pawn_token.specs.declared.sign.Sign.{Sign}
use Rattle.pawn_token.specs.declared.sign.Sign.TheVariants as sign
use Rattle.pawn_token.specs.declared.key.Key.{Key}
use Rattle.pawn_token.specs.declared.key.Key.TheVariants as key
use Rattle.pawn_lex.specs.declared.token.Token.{Token}
use Rattle.pawn_tree.specs.declared.name.StateName.{StateName}
use Rattle.pawn_tree.specs.declared.variable.Storage.{Storage}
use Rattle.pawn_tree.specs.Expressions.{Expr, Arg, args}
use Rattle.pawn_tree.specs.Expressions as e
use Rattle.pawn_tree.specs.Variables.{Var, Variables}
use Rattle.pawn_tree.specs.Statements.{ConstantOf, First, Range, Stmt, Case, stmts, maybe_stmt}
use Rattle.pawn_tree.specs.Statements.{cases}
use Rattle.pawn_tree.specs.Statements as s
use Rattle.tree_rules.specs.declared.word.Word.{Word}
use Rattle.tree_rules.specs.declared.word.Word.TheVariants as w
use Rattle.tree_rules.specs.Tokens.{word, sees, sees_key, spelling, at, name_at, is_first}
use Rattle.tree_rules.specs.Ends.{ending}
use Rattle.tree_rules.specs.Lists.{Listed, Led}
use Rattle.tree_rules.specs.Expressions.{Whole, Condition, IsValue, AreMore}
use Rattle.tree_rules.specs.Variables.{IsVar, local_storage, AreVariables, IsConstant}

-- what the first argument of a call without parentheses begins with
abbrev pub opens_bare : Word → Bool
opens_bare w.Name = true
opens_bare w.Blank = true
opens_bare w.Number = true
opens_bare w.Text = true
opens_bare _ = false

-- whether that stands there, on the line of the token before it
unfoldable pub is_bare : List Token → ℕ → Bool
is_bare ts i = opens_bare (word ts i) && not (is_first ts i)

-- what stands behind `return`, `exit` or `sleep`: an expression that begins on the same line, or
-- none
pub data IsResult (ts : List Token) : ℕ → Option Expr → ℕ → ℕ → Type 0 where
  no_result : {i k : ℕ} → ending ts i ≡ Some k → IsResult ts 0 None i k
  one_result : {h i j k : ℕ} {x : Expr} → is_first ts i ≡ false → Whole ts true 15 h x i j
      → ending ts j ≡ Some k → IsResult ts h (Some x) i k

-- an expression before a sign, or none
pub data IsBefore (ts : List Token) (c : Sign) : ℕ → Option Expr → ℕ → ℕ → Type 0 where
  none_before : {i : ℕ} → word ts i ≡ w.Sign c → IsBefore ts c 0 None i i
  one_before : {h i j : ℕ} {x : Expr} → sees ts c i ≡ false → Whole ts true 15 h x i j
      → word ts j ≡ w.Sign c → IsBefore ts c h (Some x) i j

-- what a `for` begins with, before its first semicolon
pub data IsFirst (ts : List Token) : ℕ → First → ℕ → ℕ → Type 0 where
  first_nothing : {i : ℕ} → word ts i ≡ w.Sign sign.Semicolon → IsFirst ts 0 s.Nothing i i
  first_new : {h i j : ℕ} {vars : List Var} → word ts i ≡ w.Key key.New
      → Listed ts (IsVar ts) h vars (suc i) j → IsFirst ts h (s.New vars) i j
  first_value : {h i j : ℕ} {x : Expr} → Whole ts true 15 h x i j → IsFirst ts h (s.Value x) i j

-- a value of a case, or all from a first to a last one; no tag stands in them outside of brackets
pub data IsRange (ts : List Token) : ℕ → Range → ℕ → ℕ → Type 0 where
  range : {h i j h2 k : ℕ} {x : Expr} {last : Option Expr} → Whole ts false 13 h x i j
      → Led ts sign.DotDot (Whole ts false 13) h2 last j k
      → IsRange ts (max h h2) (record { first = x; last = last }) i k

-- a state, with the name of its automaton before a colon or without one
pub data IsStateName (ts : List Token) : ℕ → StateName → ℕ → ℕ → Type 0 where
  of_no_automaton : {i : ℕ} → word ts i ≡ w.Name → sees ts sign.Colon (suc i) ≡ false
      → IsStateName ts 0 (record { automaton = None; state = name_at ts i }) i (suc i)
  of_automaton : {i : ℕ} → word ts i ≡ w.Name → word ts (suc i) ≡ w.Sign sign.Colon
      → word ts (suc (suc i)) ≡ w.Name
      → IsStateName ts 0 (record {
        automaton = Some (name_at ts i);
        state = name_at ts (suc (suc i));
      }) i (suc (suc (suc i)))

-- the condition of a `state`, where it has one
pub data IsStateCondition (ts : List Token) : ℕ → Option Expr → ℕ → ℕ → Type 0 where
  always : {i : ℕ} → sees ts sign.OpenParenthesis i ≡ false → IsStateCondition ts 0 None i i
  only_if : {h i j : ℕ} {x : Expr} → Condition ts h x i j → IsStateCondition ts h (Some x) i j

mutual
  -- whether variables and constants may stand there, the height, the tree, from, up to
  pub data IsStmt (ts : List Token) : Bool → ℕ → Stmt → ℕ → ℕ → Type 0 where
    empty_stmt : {b : Bool} {i : ℕ} → word ts i ≡ w.Sign sign.Semicolon
        → IsStmt ts b 1 (s.Empty (at ts i)) i (suc i)
    does_stmt : {b : Bool} {h i j k : ℕ} {x : Expr} → Whole ts true 15 h x i j
        → ending ts j ≡ Some k → IsStmt ts b (suc h) (s.Do (at ts i) x) i k
    bare_stmt : {b : Bool} {h i j h2 k m : ℕ} {x : Arg} {xs : List Arg} → word ts i ≡ w.Name
        → is_bare ts (suc i) ≡ true → IsValue ts h x (suc i) j
        → AreMore ts false h2 xs j k → ending ts k ≡ Some m
        → IsStmt ts b (suc (suc (max h h2)))
        (s.Do (at ts i) (e.Call (at ts i) (spelling ts i) (args (x ∷ xs)) true)) i m
    block_stmt : {b : Bool} {h i j : ℕ} {ss : List Stmt} → word ts i ≡ w.Sign sign.OpenBrace
        → AreStmts ts h ss (suc i) j → word ts j ≡ w.Sign sign.CloseBrace
        → IsStmt ts b (suc h) (s.Block (at ts i) (stmts ss)) i (suc j)
    if_stmt : {b : Bool} {h i j h2 k h3 m : ℕ} {x : Expr} {body : Stmt} {other : Option Stmt}
        → word ts i ≡ w.Key key.If → Condition ts h x (suc i) j
        → IsStmt ts false h2 body j k → IsOther ts h3 other k m
        → IsStmt ts b (suc (max h (max h2 h3))) (s.If (at ts i) x body (maybe_stmt other)) i m
    while_stmt : {b : Bool} {h i j h2 k : ℕ} {x : Expr} {body : Stmt} → word ts i ≡ w.Key key.While
        → Condition ts h x (suc i) j → IsStmt ts false h2 body j k
        → IsStmt ts b (suc (max h h2)) (s.While (at ts i) x body) i k
    do_while_stmt : {b : Bool} {h i j h2 k m : ℕ} {x : Expr} {body : Stmt}
        → word ts i ≡ w.Key key.Do → IsStmt ts false h body (suc i) j → word ts j ≡ w.Key key.While
        → Condition ts h2 x (suc j) k → ending ts k ≡ Some m
        → IsStmt ts b (suc (max h h2)) (s.DoWhile (at ts i) body x) i m
    for_stmt : {b : Bool} {i h j h2 k h3 m h4 n : ℕ} {first : First} {test step : Option Expr}
        {body : Stmt} → word ts i ≡ w.Key key.For
        → word ts (suc i) ≡ w.Sign sign.OpenParenthesis → IsFirst ts h first (suc (suc i)) j
        → word ts j ≡ w.Sign sign.Semicolon
        → IsBefore ts sign.Semicolon h2 test (suc j) k
        → IsBefore ts sign.CloseParenthesis h3 step (suc k) m → IsStmt ts false h4 body (suc m) n
        → IsStmt ts b (suc (max h (max h2 (max h3 h4)))) (s.For (at ts i) first test step body) i n
    switch_stmt : {b : Bool} {h i j h2 k h3 m : ℕ} {x : Expr} {cs : List Case} {other : Option Stmt}
        → word ts i ≡ w.Key key.Switch → Condition ts h x (suc i) j
        → word ts j ≡ w.Sign sign.OpenBrace → AreCases ts h2 cs (suc j) k
        → IsDefault ts h3 other k m → word ts m ≡ w.Sign sign.CloseBrace
        → IsStmt ts b (suc (max h (max h2 h3)))
        (s.Switch (at ts i) x (cases cs) (maybe_stmt other)) i (suc m)
    return_stmt : {b : Bool} {h i k : ℕ} {x : Option Expr} → word ts i ≡ w.Key key.Return
        → IsResult ts h x (suc i) k → IsStmt ts b (suc h) (s.Return (at ts i) x) i k
    exit_stmt : {b : Bool} {h i k : ℕ} {x : Option Expr} → word ts i ≡ w.Key key.Exit
        → IsResult ts h x (suc i) k → IsStmt ts b (suc h) (s.Exit (at ts i) x) i k
    sleep_stmt : {b : Bool} {h i k : ℕ} {x : Option Expr} → word ts i ≡ w.Key key.Sleep
        → IsResult ts h x (suc i) k → IsStmt ts b (suc h) (s.Sleep (at ts i) x) i k
    assert_stmt : {b : Bool} {h i j k : ℕ} {x : Expr} → word ts i ≡ w.Key key.Assert
        → Whole ts true 15 h x (suc i) j → ending ts j ≡ Some k
        → IsStmt ts b (suc h) (s.Assert (at ts i) x) i k
    break_stmt : {b : Bool} {i k : ℕ} → word ts i ≡ w.Key key.Break → ending ts (suc i) ≡ Some k
        → IsStmt ts b 1 (s.Break (at ts i)) i k
    continue_stmt : {b : Bool} {i k : ℕ} → word ts i ≡ w.Key key.Continue
        → ending ts (suc i) ≡ Some k → IsStmt ts b 1 (s.Continue (at ts i)) i k
    state_stmt : {b : Bool} {h i j h2 k m : ℕ} {x : Option Expr} {name : StateName}
        → word ts i ≡ w.Key key.State → IsStateCondition ts h x (suc i) j
        → IsStateName ts h2 name j k → ending ts k ≡ Some m
        → IsStmt ts b (suc h) (s.State (at ts i) x name) i m
    local_stmt : {h i k : ℕ} {c : Key} {st : Storage} {vars : Variables} → word ts i ≡ w.Key c
        → local_storage c ≡ Some st → AreVariables ts st h vars (suc i) k
        → IsStmt ts true (suc h) (s.Local (at ts i) vars) i k
    constant_stmt : {h i k : ℕ} {x : ConstantOf} → word ts i ≡ w.Key key.Const
        → IsConstant ts h x (suc i) k → IsStmt ts true (suc h) (s.Constant (at ts i) x) i k

  -- the statements of a block, up to its closing brace
  pub data AreStmts (ts : List Token) : ℕ → List Stmt → ℕ → ℕ → Type 0 where
    no_stmts : {i : ℕ} → sees ts sign.CloseBrace i ≡ true → AreStmts ts 0 [] i i
    one_stmt : {h i j h2 k : ℕ} {x : Stmt} {ss : List Stmt} → sees ts sign.CloseBrace i ≡ false
        → IsStmt ts true h x i j → AreStmts ts h2 ss j k
        → AreStmts ts (max h h2) (x ∷ ss) i k

  -- `else` belongs to the nearest `if`
  pub data IsOther (ts : List Token) : ℕ → Option Stmt → ℕ → ℕ → Type 0 where
    no_else : {i : ℕ} → sees_key ts key.Else i ≡ false → IsOther ts 0 None i i
    one_else : {h i j : ℕ} {x : Stmt} → word ts i ≡ w.Key key.Else → IsStmt ts false h x (suc i) j
        → IsOther ts h (Some x) i j

  -- the cases of a `switch`, all that stand there
  pub data AreCases (ts : List Token) : ℕ → List Case → ℕ → ℕ → Type 0 where
    no_cases : {i : ℕ} → sees_key ts key.Case i ≡ false → AreCases ts 0 [] i i
    one_case : {h i j h2 k : ℕ} {x : Case} {xs : List Case} → sees_key ts key.Case i ≡ true
        → IsCase ts h x i j → AreCases ts h2 xs j k
        → AreCases ts (max h h2) (x ∷ xs) i k

  -- a case
  pub data IsCase (ts : List Token) : ℕ → Case → ℕ → ℕ → Type 0 where
    case_of : {h i j h2 k : ℕ} {ranges : List Range} {body : Stmt} → word ts i ≡ w.Key key.Case
        → Listed ts (IsRange ts) h ranges (suc i) j
        → word ts j ≡ w.Sign sign.Colon → IsStmt ts false h2 body (suc j) k
        → IsCase ts (max h h2) (s.Values (at ts i) ranges body) i k

  -- `default`, where it stands
  pub data IsDefault (ts : List Token) : ℕ → Option Stmt → ℕ → ℕ → Type 0 where
    no_default : {i : ℕ} → sees_key ts key.Default i ≡ false → IsDefault ts 0 None i i
    one_default : {h i j : ℕ} {x : Stmt} → word ts i ≡ w.Key key.Default
        → word ts (suc i) ≡ w.Sign sign.Colon → IsStmt ts false h x (suc (suc i)) j
        → IsDefault ts h (Some x) i j
