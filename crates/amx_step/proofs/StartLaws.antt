-- Cells pushed one after the other, where there is room and where there is none.
use Rattle.std.proofs.Common.{◌≡◌, ◌+◌, ◌*◌, ◌-◌, ◌<◌, ◌≤◌, ℕ, suc, ℤ, pos, List, [], ◌∷◌, Option}
use Rattle.std.proofs.Common.{None, Some, Bool, true, false, length, drop, get_or, nat_le, refl, ap}
use Rattle.std.proofs.Common.{◌∙◌, arith, leb-true}
use Rattle.std.proofs.lemmas.List.{drop_all}
use Rattle.std.proofs.Math.Seq.{drop-cons}
use Rattle.std.proofs.lemmas.Bool.{leb-false}
use Rattle.amx_ops.specs.State.{State}
use Rattle.amx_ops.specs.Trace.{pushed_by, pushed_all}

-- what so many pushes of a state come to: STK so much lower and HEA as it was, or no room
abbrev Fits : State → ℕ → Option State → Type 0
Fits s n None = s.stk < s.hea + 4 * n
Fits s n (Some t) = (t.stk + 4 * n ≡ s.stk) × (t.hea ≡ s.hea) × (t.hea ≤ t.stk)

one : (s t : State) (v : ℤ) (n : ℕ) (fits : Bool) → nat_le (t.hea + 4) t.stk ≡ fits
    → Fits s n (Some t) → Fits s (suc n) (pushed_by v (Some t))
one s t v n true e h = rw e (
  omega (arith, leb-true (t.hea + 4) t.stk e, h.0, h.1),
  h.1,
  omega (arith, leb-true (t.hea + 4) t.stk e),
)
one s t v n false e h = rw e (omega (arith, leb-false (t.hea + 4) t.stk e, h.0, h.1))

next : (s : State) (v : ℤ) (n : ℕ) (o : Option State) → Fits s n o → Fits s (suc n) (pushed_by v o)
next s v n None h = omega (arith, h)
next s v n (Some t) h = one s t v n (nat_le (t.hea + 4) t.stk) refl h

pub fits : (vs : List ℤ) (s : State) → s.hea ≤ s.stk → Fits s (length vs) (pushed_all vs s)
fits [] s h = (omega arith, refl, h)
fits (v ∷ vs) s h = next s v (length vs) (pushed_all vs s) (fits vs s h)

absent : (s : State) (n : ℕ) (o : Option State) → Fits s n o → s.stk < s.hea + 4 * n → s.hea ≤ s.stk
    → o ≡ None
absent s n None h below order = refl
absent s n (Some t) h below order = absurd (omega (arith, h.0, h.1, h.2, below))

-- no room for so many
pub no_room : (vs : List ℤ) (s : State) → s.hea ≤ s.stk → s.stk < s.hea + 4 * length vs
    → pushed_all vs s ≡ None
no_room vs s order below = absent s (length vs) (pushed_all vs s) (fits vs s order) below order

-- ---- pushed by a loop, from the last one on

pub pushed_none : (vs : List ℤ) (s : State) → pushed_all (drop (length vs - 0) vs) s ≡ Some s
pushed_none vs s = ap (λ ws. pushed_all ws s) (drop_all (length vs - 0) vs (omega arith))

pub pushed_next : (vs : List ℤ) (i : ℕ) (s t u : State) → i < length vs
    → pushed_all (drop (length vs - i) vs) s ≡ Some t
    → pushed_by (get_or vs (length vs - 1 - i) (pos 0)) (Some t) ≡ Some u
    → pushed_all (drop (length vs - (i + 1)) vs) s ≡ Some u
pushed_next vs i s t u h e f =
    let k = length vs - 1 - i in
    let at : length vs - (i + 1) ≡ k = omega (arith, h) in
    let next : suc k ≡ length vs - i = omega (arith, h) in
    ap (λ n. pushed_all (drop n vs) s) at
    ∙ ap (λ ws. pushed_all ws s) (drop-cons vs k (pos 0) (omega (arith, h)))
    ∙ ap (λ n. pushed_by (get_or vs k (pos 0)) (pushed_all (drop n vs) s)) next
    ∙ ap (pushed_by (get_or vs k (pos 0))) e ∙ f

pub pushed_whole : (vs : List ℤ) (i : ℕ) (s t : State) → length vs ≤ i
    → pushed_all (drop (length vs - i) vs) s ≡ Some t → pushed_all vs s ≡ Some t
pushed_whole vs i s t h e =
    ap (λ n. pushed_all (drop n vs) s) (let none : 0 ≡ length vs - i = omega (arith, h) in none) ∙ e
