-- First values and statements of no height, and of one more.
use Rattle.std.proofs.Common.{◌≡◌, ℕ, suc, ◌-◌, ◌<◌, Bool, List, None, ap, arith, ◌∙◌, sym}
use Rattle.pawn_lex.specs.declared.token.Token.{Token}
use Rattle.tree_rules.specs.ReadExpressions.{expr}
use Rattle.tree_rules.specs.ReadVariables.{init, init_by}
use Rattle.tree_rules.specs.ReadStatements.{statement, stmt_by}
use Rattle.tree_rules.specs.Tokens.{word}

pub init_of_none : (ts : List Token) (d i : ℕ) → d ≡ 0 → init ts d i ≡ None
unfolding init
init_of_none ts d i none = ap (λ n. init ts n i) none

pub init_of_more : (ts : List Token) (d i : ℕ) → 0 < d
    → init ts d i ≡ init_by ts (expr ts d) (init ts (d - 1)) (d - 1) i
unfolding init
init_of_more ts d i some =
    let e : d ≡ suc (d - 1) = omega arith in
    ap (λ n. init ts n i) e ∙ ap (λ n. init_by ts (expr ts n) (init ts (d - 1)) (d - 1) i) (sym e)

pub statement_of_none : (ts : List Token) (d : ℕ) (b : Bool) (i : ℕ) → d ≡ 0
    → statement ts d b i ≡ None
unfolding statement
statement_of_none ts d b i none = ap (λ n. statement ts n b i) none

pub statement_of_more : (ts : List Token) (d : ℕ) (b : Bool) (i : ℕ) → 0 < d
    → statement ts d b i ≡ stmt_by ts (statement ts (d - 1)) (d - 1) b i (word ts i)
unfolding statement
statement_of_more ts d b i some =
    let e : d ≡ suc (d - 1) = omega arith in ap (λ n. statement ts n b i) e
