-- Expressions as plain data (Language Guide, "Operators and expressions"). Each node begins with
-- its first token.
use Rattle.std.specs.Prelude.{ℕ, ℤ, Bool, List, [], ◌∷◌}
use Rattle.pawn_token.specs.declared.sign.Sign.{Sign}
use Rattle.pawn_tree.specs.declared.name.At.{At}
use Rattle.pawn_tree.specs.declared.name.Name as n
use Rattle.pawn_tree.specs.declared.expression.SizeofOperand.{SizeofOperand}
use Rattle.pawn_tree.specs.declared.expression.TagofOperand.{TagofOperand}

mutual
  -- numbers, texts and names, and operators and calls with their operands
  pub data Expr : Type 0 where
    Number : At → ℤ → Expr
    Text : At → List ℕ → Bool → Expr
    Name : At → List ℕ → Expr
    Paren : At → Expr → Expr
    Sizeof : At → SizeofOperand → Expr
    Tagof : At → TagofOperand → Expr
    Prefix : At → Sign → Expr → Expr
    Tagged : At → List ℕ → Expr → Expr
    Postfix : At → Sign → Expr → Expr
    Index : At → Expr → Expr → Expr
    Character : At → Expr → Expr → Expr
    Binary : At → Sign → Expr → Expr → Expr
    Chain : At → Expr → Links → Expr
    Choice : At → Expr → Expr → Expr → Expr
    Assign : At → Sign → Expr → Expr → Expr
    Call : At → List ℕ → Args → Bool → Expr

  -- an argument of a call: by position, `_`, or by name
  pub data Arg : Type 0 where
    Value : Expr → Arg
    Default : At → Arg
    Named : n.Name → Expr → Arg

  -- the arguments of a call, the first one first
  pub data Args : Type 0 where
    no_args : Args
    then_arg : Arg → Args → Args

  -- a comparison of a chain: its sign, and the operand to the right
  pub data Link : Type 0 where
    Compare : Sign → Expr → Link

  -- the comparisons of a chain, from left to right
  pub data Links : Type 0 where
    no_links : Links
    then_link : Link → Links → Links

-- the arguments that a list holds
abbrev pub args : List Arg → Args
args [] = no_args
args (x ∷ xs) = then_arg x (args xs)

-- the comparisons that a list holds
abbrev pub links : List Link → Links
links [] = no_links
links (x ∷ xs) = then_link x (links xs)
