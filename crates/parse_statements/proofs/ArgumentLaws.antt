-- The arguments of a call, turn by turn.
use Rattle.std.proofs.Common.{◌≡◌, ℕ, suc, ◌+◌, ◌-◌, ◌<◌, ◌≤◌, max, Bool, if◌then◌else◌, List, []}
use Rattle.std.proofs.Common.{◌∷◌, ◌++◌, Some, None}
use Rattle.pawn_token.specs.declared.sign.Sign.TheVariants as sign
use Rattle.pawn_lex.specs.declared.token.Token.{Token}
use Rattle.pawn_tree.specs.Expressions.{Arg}
use Rattle.tree_rules.specs.Tokens.{sees}
use Rattle.tree_rules.specs.Readers.{got, ◌>>=◌}
use Rattle.tree_rules.specs.ReadExpressions.{Sub, arg, more_args}
use Rattle.parse_statements.proofs.Turns.{one_more, no_more}

-- a turn is left: an argument is read behind a comma, and else the list ends
pub one_argument_more : (ts : List Token) (sub : Sub) (n at : ℕ) (named : Bool) (done : List Arg)
    (h i : ℕ) → at < n
    → more_args ts sub (n - at) named done h i
    ≡ (if sees ts sign.Comma i then (arg ts sub named (suc i) >>= (λ x.
    more_args ts sub (n - (at + 1)) (sees ts sign.Dot (suc i)) (done ++ x.tree ∷ [])
    (max h x.height) x.stop)) else Some (got done h i))
unfolding more_args
one_argument_more ts sub n at named done h i below =
    one_more (λ k. more_args ts sub k named done h i) n at below

-- no turn is left
pub no_argument_more : (ts : List Token) (sub : Sub) (n at : ℕ) (named : Bool) (done : List Arg)
    (h i : ℕ) → n ≤ at → more_args ts sub (n - at) named done h i ≡ None
unfolding more_args
no_argument_more ts sub n at named done h i none =
    no_more (λ k. more_args ts sub k named done h i) n at none
