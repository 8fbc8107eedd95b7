-- Expressions of no height, and of one more.
use Rattle.std.proofs.Common.{◌≡◌, ℕ, ◌+◌, ◌-◌, ◌<◌, ◌≤◌, Bool, if◌then◌else◌, List, Some, None, ap}
use Rattle.std.specs.Prelude.{nat_lt}
use Rattle.pawn_lex.specs.declared.token.Token.{Token}
use Rattle.tree_rules.specs.Tokens.{word}
use Rattle.tree_rules.specs.Levels.{binds}
use Rattle.tree_rules.specs.Readers.{◌>>=◌}
use Rattle.tree_rules.specs.ReadExpressions.{Sub, Parsed, expr, whole, climb, grow}
use Rattle.parse_statements.proofs.Turns.{deeper, one_more, no_more}

pub expr_of_none : (ts : List Token) (d : ℕ) (tags : Bool) (level i : ℕ) → d ≡ 0
    → expr ts d tags level i ≡ None
unfolding expr
expr_of_none ts d tags level i none = ap (λ n. expr ts n tags level i) none

pub expr_of_more : (ts : List Token) (d : ℕ) (tags : Bool) (level i : ℕ) → 0 < d
    → expr ts d tags level i ≡ whole ts (expr ts (d - 1)) (d - 1) tags level i
unfolding expr
expr_of_more ts d tags level i some = deeper (λ n. expr ts n tags level i) d some

-- a turn is left: the token behind makes more of it, where it binds tightly enough
pub climbs_on : (ts : List Token) (sub : Sub) (d : ℕ) (tags : Bool) (level i n at : ℕ) (t : Parsed)
    → at < n
    → climb ts sub d tags level i (n - at) t
    ≡ (if nat_lt level (binds ts tags t.stop) then Some t else
    (grow ts sub d tags i t (word ts t.stop) >>= climb ts sub d tags level i (n - (at + 1))))
unfolding climb
climbs_on ts sub d tags level i n at t below =
    one_more (λ k. climb ts sub d tags level i k t) n at below

-- no turn is left
pub climbs_no_more : (ts : List Token) (sub : Sub) (d : ℕ) (tags : Bool) (level i n at : ℕ)
    (t : Parsed) → n ≤ at → climb ts sub d tags level i (n - at) t ≡ None
unfolding climb
climbs_no_more ts sub d tags level i n at t none =
    no_more (λ k. climb ts sub d tags level i k t) n at none
