-- Function values that read first values, and statements, of a height.
use Rattle.std.specs.Prelude.{◌≡◌, ℕ, Bool, List, Result}
use Rattle.std.specs.declared.boxed.Box.{Box}
use Rattle.std.specs.declared.alloc.Global.{Global}
use Rattle.pawn_lex.specs.declared.token.Token.{Token}
use Rattle.pawn_tree.specs.declared.variable.Init as held_init
use Rattle.pawn_tree.specs.declared.statement.Stmt as held_stmt
use Rattle.pawn_tree.specs.View.{init_view}
use Rattle.tree_rules.specs.ReadVariables.{init}
use Rattle.tree_rules.specs.ReadStatements.{statement}
use Rattle.parse_statements.specs.declared.part.Got.{Got}
use Rattle.parse_statements.specs.declared.read_fault.ReadFault.{ReadFault}
use Rattle.parse_statements.specs.declared.token_parser.Parser.{Parser}
use Rattle.parse_statements.specs.Answers.{Answers, got_view}
use Rattle.parse_statements.specs.BoxedNodes.{boxed_stmt}

-- it may be called, and answers as the parser of first values of height d does
pub record Fills (ts : List Token) (d : ℕ) (pre : Parser → ℕ → ℕ → Type 0)
    (post : Parser → ℕ → ℕ → Result (Got held_init.Init) ReadFault → Type 0) : Type 0 where
  pub callable : (p : Parser) (i : ℕ) → pre p d i
  pub reads : (p : Parser) (i : ℕ) (r : Result (Got held_init.Init) ReadFault) → p.tokens.now ≡ ts
      → post p d i r
      → Answers ts (got_view init_view) (init ts d i) r

-- it may be called, and answers as the parser of statements of height d does
pub record Follows (ts : List Token) (d : ℕ) (pre : Parser → ℕ → Bool → ℕ → Type 0)
    (post : Parser → ℕ → Bool → ℕ → Result (Got (Box held_stmt.Stmt Global)) ReadFault → Type 0)
    : Type 0 where
  pub callable : (p : Parser) (b : Bool) (i : ℕ) → pre p d b i
  pub reads : (p : Parser) (b : Bool) (i : ℕ)
      (r : Result (Got (Box held_stmt.Stmt Global)) ReadFault) → p.tokens.now ≡ ts → post p d b i r
      → Answers ts (got_view boxed_stmt) (statement ts d b i) r
