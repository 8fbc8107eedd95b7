-- Marks in which the tokens of occurrences rise, and stand before a token.
use Rattle.std.proofs.Common.{◌<◌, ◌≤◌, ℕ, suc, List, [], ◌∷◌, arith}
use Rattle.pawn_lex.specs.declared.token.Token.{Token}
use Rattle.pawn_tree.specs.declared.name.At.{At}
use Rattle.tree_rules.specs.Tokens.{at, spelling}
use Rattle.names_rules.specs.Mark.{Mark, Opens, Closes, Mentions, Uses, Declares, Declaration}
use Rattle.names_rules.specs.ExpressionMarks.{occurs}
use Rattle.types_laws.proofs.Grows.{Grows}

abbrev pub Below : List Mark → ℕ → Type 0
Below [] end = Unit {0}
Below (Opens ∷ before) end = Below before end
Below (Closes ∷ before) end = Below before end
Below (Mentions tag ∷ before) end = Below before end
Below (Uses it ∷ before) end = (it.token < end) × Below before it.token
Below (Declares it ∷ before) end = Below before end

pub record Rises (marks : List Mark) (end : ℕ) : Type 0 where
  pub rises : Below marks end

below_more : (marks : List Mark) (m k : ℕ) → m ≤ k → Below marks m → Below marks k
below_more [] m k le x = tt
below_more (Opens ∷ before) m k le x = below_more before m k le x
below_more (Closes ∷ before) m k le x = below_more before m k le x
below_more (Mentions tag ∷ before) m k le x = below_more before m k le x
below_more (Uses it ∷ before) m k le x = let lt : it.token < m = x.0 in (omega arith, x.1)
below_more (Declares it ∷ before) m k le x = below_more before m k le x

pub on : {marks : List Mark} {m k : ℕ} → Rises marks m → m ≤ k → Rises marks k
on {marks} {m} {k} x le = record { rises = below_more marks m k le x.rises }

pub none_rise : Rises [] 0
none_rise = record { rises = tt }

pub opens_rise : {marks : List Mark} {m : ℕ} → Rises marks m → Rises (Opens ∷ marks) m
opens_rise x = record { rises = x.rises }

pub closes_rise : {marks : List Mark} {m : ℕ} → Rises marks m → Rises (Closes ∷ marks) m
closes_rise x = record { rises = x.rises }

mention_rises : {marks : List Mark} {m : ℕ} (tag : List ℕ) → Rises marks m
    → Rises (Mentions tag ∷ marks) m
mention_rises tag x = record { rises = x.rises }

pub declares_rise : {marks : List Mark} {m : ℕ} (it : Declaration) → Rises marks m
    → Rises (Declares it ∷ marks) m
declares_rise it x = record { rises = x.rises }

use_rises : (ts : List Token) (name : List ℕ) (node : At) {marks : List Mark} {i : ℕ}
    → Rises marks i → Rises (occurs name (at ts i) node ∷ marks) (suc i)
unfolding at
use_rises ts name node {i = i} x = record { rises = (omega arith, x.rises) }

pub rises_grow : {ts : List Token} → Grows ts Rises
rises_grow {ts} = record {
  on = on;
  mention = λ {marks} {i} label r. on (mention_rises (spelling ts i) r) (omega arith);
  occur = λ name node r. use_rises ts name node r;
}
