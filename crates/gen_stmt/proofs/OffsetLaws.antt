-- Where slots lie that were made one after another.
use Rattle.std.proofs.Common.{◌≡◌, ◌+◌, ◌*◌, ◌<◌, ◌≤◌, ◌==◌, ◌⊎◌, inl, inr, ℕ, pos, List, [], ◌∷◌}
use Rattle.std.proofs.Common.{◌++◌, true, false, Bool, slice_get, nat_lt, if◌then◌else◌, refl, sym}
use Rattle.std.proofs.Common.{ap, ◌∙◌, arith}
use Rattle.std.proofs.lemmas.Bool.{eq-eqb, eqb-true, eqb-false, lt-ltb, le-ltb}
use Rattle.std.specs.Prelude.{Any, neg_ℤ}
use Rattle.pawn_meaning.specs.Program.{Slot}
use Rattle.gen_sim.specs.PlaceItems.{cells_by, cells_to}
use Rattle.gen_sim.specs.Fits.{own_sizes}
use Rattle.gen_sim.proofs.LocalScopes.{any_here, any_there, any_cases}
use Rattle.gen_sim.specs.FlowCode.{made_cells}
use Rattle.gen_sim.proofs.MadeViews.{count_more}
use Rattle.gen_stmt.specs.Keeps.{offset_in}

abbrev own : List Slot → ℕ → ℕ
own slots s = cells_by (own_sizes (slice_get slots s))

pub made_one : (slots : List Slot) (made : List ℕ) (s : ℕ)
    → made_cells slots (made ++ s ∷ []) ≡ made_cells slots made + own slots s
made_one slots made s = omega (arith, count_more slots made (s ∷ []))

made_next : (slots : List Slot) (made : List ℕ) (m : ℕ)
    → made_cells slots (m ∷ made) ≡ own slots m + made_cells slots made
made_next slots made m = omega (arith, count_more slots (m ∷ []) made)

new_by : (slots : List Slot) (m : ℕ) (made : List ℕ) (s : ℕ) → ¬ (Any (λ n. n ≡ s) (m ∷ made))
    → cells_to slots (made ++ s ∷ []) s ≡ made_cells slots made + own slots s → (b : Bool)
    → (m == s) ≡ b
    → own slots m + (if m == s then 0 else cells_to slots (made ++ s ∷ []) s)
    ≡ made_cells slots (m ∷ made) + own slots s
new_by slots m made s new others true e =
    absurd (new (any_here (λ n. n ≡ s) m made (eqb-true m s e)))
new_by slots m made s new others false e = rw e (omega (arith, made_next slots made m, others))

-- a new one lies below all others
pub cells_to_new : (slots : List Slot) (made : List ℕ) (s : ℕ) → ¬ (Any (λ m. m ≡ s) made)
    → cells_to slots (made ++ s ∷ []) s ≡ made_cells slots made + own slots s
cells_to_new slots [] s new = rw (eq-eqb s s refl) (omega arith)
cells_to_new slots (m ∷ made) s new =
    new_by slots m made s new (cells_to_new slots made s
    (λ a. new (any_there (λ n. n ≡ s) m made a))) (m == s) refl

behind_first : (m t : ℕ) (made : List ℕ) → (m == t) ≡ false → (m ≡ t) ⊎ Any (λ n. n ≡ t) made
    → Any (λ n. n ≡ t) made
behind_first m t made e (inl same) = absurd (eqb-false m t e same)
behind_first m t made e (inr h) = h

old_by : (slots : List Slot) (m : ℕ) (made more : List ℕ) (t : ℕ) → (m ≡ t) ⊎ Any (λ n. n ≡ t) made
    → (Any (λ n. n ≡ t) made → cells_to slots (made ++ more) t ≡ cells_to slots made t) → (b : Bool)
    → (m == t) ≡ b
    → own slots m + (if m == t then 0 else cells_to slots (made ++ more) t)
    ≡ own slots m + (if m == t then 0 else cells_to slots made t)
old_by slots m made more t is hyp true e = rw e refl
old_by slots m made more t is hyp false e =
    rw e (ap (λ n. own slots m + n) (hyp (behind_first m t made e is)))

-- and the others lie where they lay
pub cells_to_old : (slots : List Slot) (made more : List ℕ) (t : ℕ) → Any (λ m. m ≡ t) made
    → cells_to slots (made ++ more) t ≡ cells_to slots made t
cells_to_old slots [] more t a = absurd (omega (arith, a.2))
cells_to_old slots (m ∷ made) more t a =
    old_by slots m made more t (any_cases (λ n. n ≡ t) m made a)
    (λ b. cells_to_old slots made more t b) (m == t) refl

pub offset_of_param : (slots : List Slot) (params : ℕ) (made : List ℕ) (s : ℕ) → s < params
    → offset_in slots params made s ≡ pos (12 + 4 * s)
offset_of_param slots params made s h = rw (lt-ltb s params h) refl

pub offset_of_local : (slots : List Slot) (params : ℕ) (made : List ℕ) (s : ℕ) → params ≤ s
    → offset_in slots params made s ≡ neg_ℤ (pos (4 * cells_to slots made s))
offset_of_local slots params made s h = rw (le-ltb s params h) refl

pub offset_old : (slots : List Slot) (params : ℕ) (made more : List ℕ) (t : ℕ)
    → (t < params) ⊎ Any (λ m. m ≡ t) made
    → offset_in slots params (made ++ more) t ≡ offset_in slots params made t
offset_old slots params made more t (inl h) =
    offset_of_param slots params (made ++ more) t h ∙ sym (offset_of_param slots params made t h)
offset_old slots params made more t (inr a) =
    ap (λ n. if nat_lt t params then pos (12 + 4 * t) else neg_ℤ (pos (4 * n)))
    (cells_to_old slots made more t a)

pub offset_new : (slots : List Slot) (params : ℕ) (made : List ℕ) (s : ℕ) → params ≤ s
    → ¬ (Any (λ m. m ≡ s) made)
    → offset_in slots params (made ++ s ∷ []) s
    ≡ neg_ℤ (pos (4 * (made_cells slots made + own slots s)))
offset_new slots params made s h new =
    offset_of_local slots params (made ++ s ∷ []) s h
    ∙ ap (λ n. neg_ℤ (pos (4 * n))) (cells_to_new slots made s new)
