-- A recursion on a count of turns, beside a loop that counts up.
use Rattle.std.proofs.Common.{◌≡◌, ℕ, suc, ◌+◌, ◌-◌, ◌<◌, ◌≤◌, max, Bool, if◌then◌else◌, List, []}
use Rattle.std.proofs.Common.{◌∷◌, ◌++◌, Some, None, ap, arith}
use Rattle.tree_rules.specs.Readers.{Got, got, Reader, ◌>>=◌, many}

pub one_more : {X : Type 0} (f : ℕ → X) (n at : ℕ) → at < n → f (n - at) ≡ f (suc (n - (at + 1)))
one_more f n at below = let turn : n - at ≡ suc (n - (at + 1)) = omega arith in ap f turn

pub no_more : {X : Type 0} (f : ℕ → X) (n at : ℕ) → n ≤ at → f (n - at) ≡ f 0
no_more f n at done = let none : n - at ≡ 0 = omega arith in ap f none

pub deeper : {X : Type 0} (f : ℕ → X) (n : ℕ) → 0 < n → f n ≡ f (suc (n - 1))
deeper f n some = let e : n ≡ suc (n - 1) = omega arith in ap f e

-- a turn is left: a part is read where one begins, and else the list ends
pub one_part_more : {A : Type 0} (more : ℕ → Bool) (part : Reader A) (n at : ℕ) (done : List A)
    (h i : ℕ) → at < n
    → many more part (n - at) done h i
    ≡ (if more i then (part i >>= (λ x.
    many more part (n - (at + 1)) (done ++ x.tree ∷ []) (max h x.height) x.stop))
    else Some (got done h i))
unfolding many
one_part_more more part n at done h i below = one_more (λ k. many more part k done h i) n at below

-- no turn is left
pub no_part_more : {A : Type 0} (more : ℕ → Bool) (part : Reader A) (n at : ℕ) (done : List A)
    (h i : ℕ) → n ≤ at → many more part (n - at) done h i ≡ None
unfolding many
no_part_more more part n at done h i none = no_more (λ k. many more part k done h i) n at none
