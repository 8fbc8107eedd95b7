-- A function value that reads expressions of a height.
use Rattle.std.specs.Prelude.{◌≡◌, ℕ, Bool, List, Result}
use Rattle.pawn_lex.specs.declared.token.Token.{Token}
use Rattle.tree_rules.specs.ReadExpressions.{expr}
use Rattle.parse_statements.specs.declared.part.Part.{Part}
use Rattle.parse_statements.specs.declared.read_fault.ReadFault.{ReadFault}
use Rattle.parse_statements.specs.declared.token_parser.Parser.{Parser}
use Rattle.parse_statements.specs.Answers.{Answers, part_view}

-- it may be called, and answers as the parser of expressions of height d does
pub record Nests (ts : List Token) (d : ℕ) (pre : Parser → ℕ → Bool → ℕ → ℕ → Type 0)
    (post : Parser → ℕ → Bool → ℕ → ℕ → Result Part ReadFault → Type 0) : Type 0 where
  pub callable : (p : Parser) (tags : Bool) (level i : ℕ) → pre p d tags level i
  pub reads : (p : Parser) (tags : Bool) (level i : ℕ) (r : Result Part ReadFault)
      → p.tokens.now ≡ ts → post p d tags level i r
      → Answers ts part_view (expr ts d tags level i) r
