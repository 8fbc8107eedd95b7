-- How many brackets are open, token by token.
use Rattle.std.proofs.Common.{◌≡◌, ℕ, zero, suc, ◌+◌, ◌<◌, ◌≤◌, List, [], ◌∷◌, length, get_or, take}
use Rattle.std.proofs.Common.{refl, sym, ap, ◌∙◌, subst, arith, below_more}
use Rattle.pawn_lex.specs.declared.token.Token.{Token}
use Rattle.tree_rules.specs.Brackets.{open_by, open_from, open_at, IsShallow, IsTooDeep}

open_step : (n : ℕ) (ts : List Token) (i : ℕ) (t : Token) → i < length ts → t ≡ get_or ts i t
    → open_from n (take (suc i) ts) ≡ open_by (open_from n (take i ts)) t.kind
open_step n [] i t l e = absurd (omega arith)
open_step n (y ∷ ys) zero t l e = ap (λ x. open_by n x.kind) (sym e)
open_step n (y ∷ ys) (suc i) t l e = open_step (open_by n y.kind) ys i t (omega arith) e

-- so many are open behind the first i tokens, and at most 256 at each of them
pub record IsCounted (ts : List Token) (i n : ℕ) : Type 0 where
  pub same : n ≡ open_from 0 (take i ts)
  pub low : n ≤ 256
  pub before : (k : ℕ) → k < i → open_at ts k ≤ 256

at_token : {ts : List Token} {i n : ℕ} (t : Token) (m : ℕ) → IsCounted ts i n → i < length ts
    → t ≡ get_or ts i t → m ≡ open_by n t.kind
    → m ≡ open_at ts i
at_token {ts = ts} {i = i} t m p l is e =
    e ∙ ap (λ x. open_by x t.kind) p.same ∙ sym (open_step 0 ts i t l is)

pub counted_none : (ts : List Token) → IsCounted ts 0 0
counted_none ts = record { same = refl; low = omega arith; before = λ k h. absurd (omega arith) }

pub counted_more : {ts : List Token} {i n : ℕ} (t : Token) (m : ℕ) → IsCounted ts i n
    → i < length ts → t ≡ get_or ts i t → m ≡ open_by n t.kind → m ≤ 256
    → IsCounted ts (i + 1) m
counted_more {ts = ts} {i = i} t m p l is e low =
    let here = at_token t m p l is e in
    let next : i + 1 ≡ suc i = omega arith in
    record {
      same = rw next here;
      low = low;
      before = below_more _ _ p.before (subst (λ x. x ≤ 256) here low);
    }

pub deep_here : {ts : List Token} {i n : ℕ} (t : Token) (m : ℕ) → IsCounted ts i n → i < length ts
    → t ≡ get_or ts i t → m ≡ open_by n t.kind → 256 < m
    → IsTooDeep ts i
deep_here t m p l is e deep =
    record {
      inside = l;
      deep = subst (λ x. 256 < x) (at_token t m p l is e) deep;
      first = p.before;
    }

pub shallow_all : {ts : List Token} {i n : ℕ} → IsCounted ts i n → length ts ≤ i → IsShallow ts
shallow_all p all = λ k h. p.before k (omega arith)
