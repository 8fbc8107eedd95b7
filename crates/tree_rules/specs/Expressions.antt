-- The grammar of expressions: which one stands on the tokens from i up to j (Language Guide,
-- "Operators and expressions"). Nothing is said of how it is read.
use Rattle.std.specs.Prelude.{◌≡◌, ℕ, zero, suc, ◌≤◌, ◌<◌, max, Bool, true, false, ◌&&◌, List, []}
use Rattle.std.specs.Prelude.{◌∷◌}
use Rattle.pawn_token.specs.declared.sign.Sign.{Sign}
use Rattle.pawn_token.specs.declared.sign.Sign.TheVariants as sign
use Rattle.pawn_token.specs.declared.key.Key.TheVariants as key
use Rattle.pawn_lex.specs.declared.token.Token.{Token}
use Rattle.pawn_tree.specs.Expressions.{Expr, Arg, Link, args, links}
use Rattle.pawn_tree.specs.Expressions as e
use Rattle.pawn_tree.specs.declared.expression.SizeofOperand.{SizeofOperand}
use Rattle.pawn_tree.specs.declared.expression.SizeofOperand.TheVariants as sizeof_operand
use Rattle.pawn_tree.specs.declared.expression.TagofOperand.{TagofOperand}
use Rattle.pawn_tree.specs.declared.expression.TagofOperand.TheVariants as tagof_operand
use Rattle.tree_rules.specs.declared.word.Word.TheVariants as w
use Rattle.tree_rules.specs.declared.joint.Joint.TheVariants as joint
use Rattle.tree_rules.specs.Tokens.{word, sees, spelling, is_packed, value, at, name_at, text_at}
use Rattle.tree_rules.specs.Tokens.{is_first, is_tag}
use Rattle.tree_rules.specs.Levels.{joint_of, is_prefix, binds, calls, compares}

-- so many `[]` one behind another
abbrev pub Brackets : List Token → ℕ → ℕ → Type 0
Brackets ts zero i = Unit {0}
Brackets ts (suc n) i = (word ts i ≡ w.Sign sign.OpenBracket) ×
    (word ts (suc i) ≡ w.Sign sign.CloseBracket) × Brackets ts n (suc (suc i))

-- the token behind so many of them
abbrev pub behind_brackets : ℕ → ℕ → ℕ
behind_brackets zero i = i
behind_brackets (suc n) i = behind_brackets n (suc (suc i))

-- what `sizeof` takes
pub data IsSizeof (ts : List Token) : SizeofOperand → ℕ → ℕ → Type 0 where
  sizeof_name : {i n : ℕ} → word ts i ≡ w.Name → n ≤ 2 → Brackets ts n (suc i)
      → IsSizeof ts (sizeof_operand.Name (name_at ts i) n) i (behind_brackets n (suc i))
  sizeof_text : {i n : ℕ} → word ts i ≡ w.Text → n ≤ 2 → Brackets ts n (suc i)
      → IsSizeof ts (sizeof_operand.Text (text_at ts i) n) i (behind_brackets n (suc i))

-- what `tagof` takes: a name, or a tag where one may stand
pub data IsTagof (ts : List Token) : Bool → TagofOperand → ℕ → ℕ → Type 0 where
  tagof_name : {tags : Bool} {i : ℕ} → word ts i ≡ w.Name
      → IsTagof ts tags (tagof_operand.Name (name_at ts i)) i (suc i)
  tagof_tag : {tags : Bool} {i : ℕ} → (tags && is_tag ts i) ≡ true
      → IsTagof ts tags (tagof_operand.Tag (name_at ts i)) i (suc (suc i))

mutual
  -- whether tags may stand outside of brackets, the level, the height, the tree, from, up to
  pub data IsExpr (ts : List Token) : Bool → ℕ → ℕ → Expr → ℕ → ℕ → Type 0 where
    number : {b : Bool} {i : ℕ} → word ts i ≡ w.Number
        → IsExpr ts b 1 1 (e.Number (at ts i) (value ts i)) i (suc i)
    text : {b : Bool} {i : ℕ} → word ts i ≡ w.Text
        → IsExpr ts b 1 1 (e.Text (at ts i) (spelling ts i) (is_packed ts i)) i (suc i)
    name : {b : Bool} {i : ℕ} → word ts i ≡ w.Name
        → IsExpr ts b 1 1 (e.Name (at ts i) (spelling ts i)) i (suc i)
    paren : {b : Bool} {i s h j : ℕ} {x : Expr} → word ts i ≡ w.Sign sign.OpenParenthesis
        → IsExpr ts true s h x (suc i) j → s ≤ 15
        → word ts j ≡ w.Sign sign.CloseParenthesis
        → IsExpr ts b 1 (suc h) (e.Paren (at ts i) x) i (suc j)
    call : {b : Bool} {i h j : ℕ} {xs : List Arg} → word ts i ≡ w.Name → calls ts (suc i) ≡ true
        → AreArgs ts h xs (suc (suc i)) j
        → word ts j ≡ w.Sign sign.CloseParenthesis
        → IsExpr ts b 1 (suc h) (e.Call (at ts i) (spelling ts i) (args xs) false) i (suc j)
    -- behind the operand, on its line
    index : {b : Bool} {i s h m s2 h2 j : ℕ} {x y : Expr} → IsExpr ts b s h x i m → s ≤ 1
        → word ts m ≡ w.Sign sign.OpenBracket → is_first ts m ≡ false
        → IsExpr ts true s2 h2 y (suc m) j → s2 ≤ 15 → word ts j ≡ w.Sign sign.CloseBracket
        → IsExpr ts b 1 (suc (max h h2)) (e.Index (at ts i) x y) i (suc j)
    character : {b : Bool} {i s h m s2 h2 j : ℕ} {x y : Expr} → IsExpr ts b s h x i m → s ≤ 1
        → word ts m ≡ w.Sign sign.OpenBrace → is_first ts m ≡ false
        → IsExpr ts true s2 h2 y (suc m) j → s2 ≤ 15 → word ts j ≡ w.Sign sign.CloseBrace
        → IsExpr ts b 1 (suc (max h h2)) (e.Character (at ts i) x y) i (suc j)
    postfix : {b : Bool} {i s h m : ℕ} {c : Sign} {x : Expr} → IsExpr ts b s h x i m → s ≤ 1
        → word ts m ≡ w.Sign c → joint_of c ≡ joint.Step → is_first ts m ≡ false
        → IsExpr ts b 1 (suc h) (e.Postfix (at ts i) c x) i (suc m)
    -- before the operand
    prefix : {b : Bool} {i s h j : ℕ} {c : Sign} {x : Expr} → word ts i ≡ w.Sign c
        → is_prefix c ≡ true → IsExpr ts b s h x (suc i) j → s ≤ 2
        → IsExpr ts b 2 (suc h) (e.Prefix (at ts i) c x) i j
    tagged : {b : Bool} {i s h j : ℕ} {x : Expr} → (b && is_tag ts i) ≡ true
        → IsExpr ts b s h x (suc (suc i)) j → s ≤ 2
        → IsExpr ts b 2 (suc h) (e.Tagged (at ts i) (spelling ts i) x) i j
    sizeof : {b : Bool} {i j : ℕ} {x : SizeofOperand} → word ts i ≡ w.Key key.Sizeof
        → IsSizeof ts x (suc i) j
        → IsExpr ts b 2 1 (e.Sizeof (at ts i) x) i j
    sizeof_in : {b : Bool} {i j : ℕ} {x : SizeofOperand} → word ts i ≡ w.Key key.Sizeof
        → word ts (suc i) ≡ w.Sign sign.OpenParenthesis → IsSizeof ts x (suc (suc i)) j
        → word ts j ≡ w.Sign sign.CloseParenthesis
        → IsExpr ts b 2 1 (e.Sizeof (at ts i) x) i (suc j)
    tagof : {b : Bool} {i j : ℕ} {x : TagofOperand} → word ts i ≡ w.Key key.Tagof
        → IsTagof ts b x (suc i) j
        → IsExpr ts b 2 1 (e.Tagof (at ts i) x) i j
    tagof_in : {b : Bool} {i j : ℕ} {x : TagofOperand} → word ts i ≡ w.Key key.Tagof
        → word ts (suc i) ≡ w.Sign sign.OpenParenthesis → IsTagof ts true x (suc (suc i)) j
        → word ts j ≡ w.Sign sign.CloseParenthesis → IsExpr ts b 2 1 (e.Tagof (at ts i) x) i (suc j)
    -- between operands
    binary : {b : Bool} {i s h m p s2 h2 j : ℕ} {c : Sign} {x y : Expr} → IsExpr ts b s h x i m
        → s ≤ p → word ts m ≡ w.Sign c → joint_of c ≡ joint.Left p
        → IsExpr ts b s2 h2 y (suc m) j → s2 < p
        → IsExpr ts b p (suc (max h h2)) (e.Binary (at ts i) c x y) i j
    chain : {b : Bool} {i s h m h2 k h3 j : ℕ} {x : Expr} {l : Link} {ls : List Link}
        → IsExpr ts b s h x i m → s ≤ 8 → IsLink ts b h2 l m k → AreLinks ts b h3 ls k j
        → IsExpr ts b 9 (suc (max h (max h2 h3))) (e.Chain (at ts i) x (links (l ∷ ls))) i j
    choice : {b : Bool} {i s h m s2 h2 n s3 h3 j : ℕ} {x y z : Expr} → IsExpr ts b s h x i m
        → s ≤ 12 → word ts m ≡ w.Sign sign.Question
        → IsExpr ts false s2 h2 y (suc m) n → s2 ≤ 13 → word ts n ≡ w.Sign sign.Colon
        → IsExpr ts b s3 h3 z (suc n) j → s3 ≤ 13
        → IsExpr ts b 13 (suc (max h (max h2 h3))) (e.Choice (at ts i) x y z) i j
    assign : {b : Bool} {i s h m s2 h2 j : ℕ} {c : Sign} {x y : Expr} → IsExpr ts b s h x i m
        → s ≤ 1 → word ts m ≡ w.Sign c → joint_of c ≡ joint.Assign
        → IsExpr ts b s2 h2 y (suc m) j → s2 ≤ 14
        → IsExpr ts b 14 (suc (max h h2)) (e.Assign (at ts i) c x y) i j

  -- a comparison of a chain, and the operand to the right
  pub data IsLink (ts : List Token) : Bool → ℕ → Link → ℕ → ℕ → Type 0 where
    link : {b : Bool} {i s h j : ℕ} {c : Sign} {x : Expr} → word ts i ≡ w.Sign c
        → joint_of c ≡ joint.Compare → IsExpr ts b s h x (suc i) j → s ≤ 8
        → 8 < binds ts b j → IsLink ts b h (e.Compare c x) i j

  -- those behind the first, all that stand there
  pub data AreLinks (ts : List Token) : Bool → ℕ → List Link → ℕ → ℕ → Type 0 where
    no_links : {b : Bool} {i : ℕ} → compares ts i ≡ false → AreLinks ts b 0 [] i i
    one_link : {b : Bool} {i h j h2 k : ℕ} {l : Link} {ls : List Link} → compares ts i ≡ true
        → IsLink ts b h l i j → AreLinks ts b h2 ls j k
        → AreLinks ts b (max h h2) (l ∷ ls) i k

  -- an argument by its place: an expression to its end, or `_`
  pub data IsValue (ts : List Token) : ℕ → Arg → ℕ → ℕ → Type 0 where
    value_arg : {s h i j : ℕ} {x : Expr} → IsExpr ts true s h x i j → s ≤ 14 → 14 < binds ts true j
        → IsValue ts h (e.Value x) i j
    default_arg : {i : ℕ} → word ts i ≡ w.Blank → is_tag ts i ≡ false
        → IsValue ts 0 (e.Default (at ts i)) i (suc i)

  -- an argument by its name
  pub data IsNamed (ts : List Token) : ℕ → Arg → ℕ → ℕ → Type 0 where
    named_arg : {s h i j : ℕ} {x : Expr} → word ts i ≡ w.Sign sign.Dot → word ts (suc i) ≡ w.Name
        → word ts (suc (suc i)) ≡ w.Sign sign.Assign
        → IsExpr ts true s h x (suc (suc (suc i))) j → s ≤ 14 → 14 < binds ts true j
        → IsNamed ts h (e.Named (name_at ts (suc i)) x) i j

  -- the arguments of a call up to its closing parenthesis
  pub data AreArgs (ts : List Token) : ℕ → List Arg → ℕ → ℕ → Type 0 where
    no_args : {i : ℕ} → word ts i ≡ w.Sign sign.CloseParenthesis → AreArgs ts 0 [] i i
    first_value : {i h j h2 k : ℕ} {x : Arg} {xs : List Arg} → IsValue ts h x i j
        → AreMore ts false h2 xs j k → AreArgs ts (max h h2) (x ∷ xs) i k
    first_named : {i h j h2 k : ℕ} {x : Arg} {xs : List Arg} → IsNamed ts h x i j
        → AreMore ts true h2 xs j k → AreArgs ts (max h h2) (x ∷ xs) i k

  -- those behind others, all that stand there; behind a named one they are named
  pub data AreMore (ts : List Token) : Bool → ℕ → List Arg → ℕ → ℕ → Type 0 where
    no_more_args : {named : Bool} {i : ℕ} → sees ts sign.Comma i ≡ false → AreMore ts named 0 [] i i
    more_value : {i h j h2 k : ℕ} {x : Arg} {xs : List Arg} → word ts i ≡ w.Sign sign.Comma
        → IsValue ts h x (suc i) j → AreMore ts false h2 xs j k
        → AreMore ts false (max h h2) (x ∷ xs) i k
    more_named : {named : Bool} {i h j h2 k : ℕ} {x : Arg} {xs : List Arg}
        → word ts i ≡ w.Sign sign.Comma → IsNamed ts h x (suc i) j → AreMore ts true h2 xs j k
        → AreMore ts named (max h h2) (x ∷ xs) i k

-- an expression up to a level, to its end: the token behind it doesn't go on with it
pub record Whole (ts : List Token) (tags : Bool) (level h : ℕ) (x : Expr) (i j : ℕ) : Type 0 where
  pub own : ℕ
  pub is_expr : IsExpr ts tags own h x i j
  pub up_to : own ≤ level
  pub ends : level < binds ts tags j

-- one in parentheses, as behind `if`
pub data Condition (ts : List Token) : ℕ → Expr → ℕ → ℕ → Type 0 where
  condition : {h i j : ℕ} {x : Expr} → word ts i ≡ w.Sign sign.OpenParenthesis
      → Whole ts true 15 h x (suc i) j
      → word ts j ≡ w.Sign sign.CloseParenthesis → Condition ts h x i (suc j)
