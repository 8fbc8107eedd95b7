-- Values that go on.
use Rattle.std.proofs.Common.{◌≡◌, ◌+◌, ◌-◌, ◌<◌, ◌≤◌, ℕ, suc, ℤ, pos, List, [], ◌∷◌, ◌++◌, true}
use Rattle.std.proofs.Common.{length, get_or, replicate, refl, sym, ap, ◌∙◌, arith, append_assoc}
use Rattle.std.proofs.Common.{append-nil}
use Rattle.pawn_cells.specs.Cells.{add, sub}
use Rattle.types_rules.specs.FirstValues.{further, missing, last_of, step_of}
use Rattle.check_expressions.specs.GoingOn.{before_in, last_in, step_in}

-- ---- the last value, and the last step

last_is : (v : ℤ) (more : List ℤ) (d : ℤ) → get_or (v ∷ more) (length more) d ≡ last_of v more
last_is v [] d = refl
last_is v (next ∷ more) d = last_is next more d

pub last_at : (values : List ℤ) (d : ℤ) → 1 ≤ length values
    → get_or values (length values - 1) d ≡ last_in values
last_at [] d le = absurd (omega (arith, le))
last_at (v ∷ more) d le =
    let e : length (v ∷ more) - 1 ≡ length more = omega arith in
    rw e (last_is v more d)

before_is : (v next : ℤ) (more : List ℤ) (d : ℤ)
    → get_or (v ∷ next ∷ more) (length more) d ≡ before_in (v ∷ next ∷ more)
before_is v next [] d = refl
before_is v next (second ∷ more) d = before_is next second more d

pub before_at : (values : List ℤ) (d : ℤ) → 2 ≤ length values
    → get_or values (length values - 2) d ≡ before_in values
before_at [] d le = absurd (omega (arith, le))
before_at (v ∷ []) d le = absurd (omega (arith, le))
before_at (v ∷ next ∷ more) d le =
    let e : length (v ∷ next ∷ more) - 2 ≡ length more = omega arith in
    rw e (before_is v next more d)

step_is : (v next : ℤ) (more : List ℤ)
    → sub (last_in (v ∷ next ∷ more)) (before_in (v ∷ next ∷ more)) ≡ step_of v (next ∷ more)
step_is v next [] = refl
step_is v next (second ∷ more) = step_is next second more

pub step_between : (values : List ℤ) → 2 ≤ length values
    → sub (last_in values) (before_in values) ≡ step_in values
step_between [] le = absurd (omega (arith, le))
step_between (v ∷ []) le = absurd (omega (arith, le))
step_between (v ∷ next ∷ more) le = step_is v next more

pub no_step : (values : List ℤ) → length values ≡ 1 → step_in values ≡ pos 0
no_step [] one = absurd (omega (arith, one))
no_step (v ∷ []) one = refl
no_step (v ∷ next ∷ more) one = absurd (omega (arith, one))

-- ---- how they go on

-- by zeros, where there is no value
pub none_goes_on : (values : List ℤ) (count : ℕ) → length values ≡ 0
    → missing true values count ≡ replicate count (pos 0)
none_goes_on [] count none = refl
none_goes_on (v ∷ more) count none = absurd (omega (arith, none))

pub goes_on_from : (values : List ℤ) (count : ℕ) → 1 ≤ length values
    → missing true values count ≡ further count (last_in values) (step_in values)
goes_on_from [] count le = absurd (omega (arith, le))
goes_on_from (v ∷ more) count le = refl

-- one zero more
pub zeros_more : (all now whole : List ℤ) (count i : ℕ) → i < count → now ≡ all ++ pos 0 ∷ []
    → all ++ replicate (count - i) (pos 0) ≡ whole
    → now ++ replicate (count - (i + 1)) (pos 0) ≡ whole
zeros_more all now whole count i lt e so_far =
    let rest : List ℤ = replicate (count - (i + 1)) (pos 0) in
    let n : count - i ≡ suc (count - (i + 1)) = omega (arith, lt) in
    ap (λ (front : List ℤ). front ++ rest) e
    ∙ append_assoc all (pos 0 ∷ []) rest
    ∙ sym (ap (λ (k : ℕ). all ++ replicate k (pos 0)) n)
    ∙ so_far

-- one further value
pub further_more : (all now whole : List ℤ) (count i : ℕ) (value step next : ℤ) → i < count
    → next ≡ add value step → now ≡ all ++ next ∷ []
    → all ++ further (count - i) value step ≡ whole
    → now ++ further (count - (i + 1)) next step ≡ whole
unfolding further
further_more all now whole count i value step next lt is e so_far =
    let rest : List ℤ = further (count - (i + 1)) next step in
    let n : count - i ≡ suc (count - (i + 1)) = omega (arith, lt) in
    let more : further (suc (count - (i + 1))) value step ≡ next ∷ rest = rw is refl in
    ap (λ (front : List ℤ). front ++ rest) e
    ∙ append_assoc all (next ∷ []) rest
    ∙ sym (ap (λ (xs : List ℤ). all ++ xs) more)
    ∙ sym (ap (λ (k : ℕ). all ++ further k value step) n)
    ∙ so_far

pub further_ends : (all whole : List ℤ) (count i : ℕ) (value step : ℤ) → count ≤ i
    → all ++ further (count - i) value step ≡ whole → all ≡ whole
unfolding further
further_ends all whole count i value step le so_far =
    let n : count - i ≡ 0 = omega (arith, le) in
    sym (append-nil all)
    ∙ sym (ap (λ (k : ℕ). all ++ further k value step) n)
    ∙ so_far
