-- The first token at which more than 256 brackets are open.
use Rattle.std.specs.Prelude.{ℕ, List, Option, Some, None}
use Rattle.pawn_lex.specs.declared.token.Token.{Token}
use Rattle.tree_rules.specs.Brackets.{IsShallow, IsTooDeep}

-- it is this one, or there is none
abbrev pub IsFirstDeep : List Token → Option ℕ → Type 0
IsFirstDeep ts None = IsShallow ts
IsFirstDeep ts (Some n) = IsTooDeep ts n
