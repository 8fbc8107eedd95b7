-- Pairs that rise from a token up to another.
use Rattle.std.proofs.Common.{◌≤◌, ℕ, suc, List, [], ◌∷◌, ◌++◌, arith}
use Rattle.types_laws.specs.Rising.{AreRising}

pub data Up {A : Type 0} : ℕ → List (ℕ × A) → ℕ → Type 0 where
  none_up : {least end : ℕ} → least ≤ end → Up least [] end
  one_up : {least end : ℕ} {more : List (ℕ × A)} (pair : ℕ × A) → least ≤ pair.0
      → Up (suc pair.0) more end → Up least (pair ∷ more) end

module _ {A : Type 0} where
  pub up_on : {least m k : ℕ} {pairs : List (ℕ × A)} → Up least pairs m → m ≤ k → Up least pairs k
  up_on (none_up l) le = none_up (omega arith)
  up_on (one_up pair l x) le = one_up pair l (up_on x le)

  pub up_from : {least m k : ℕ} {pairs : List (ℕ × A)} → m ≤ least → Up least pairs k → Up m pairs k
  up_from le (none_up l) = none_up (omega arith)
  up_from le (one_up pair l x) = one_up pair (omega arith) x

  -- pairs behind others
  pub up_behind : {least m k : ℕ} {pairs more : List (ℕ × A)} → Up least pairs m → Up m more k
      → Up least (pairs ++ more) k
  up_behind (none_up l) y = up_from l y
  up_behind (one_up pair l x) y = one_up pair l (up_behind x y)

  -- a pair between others
  pub up_around : {least m k : ℕ} {pairs more : List (ℕ × A)} (pair : ℕ × A) → Up least pairs m
      → m ≤ pair.0 → Up (suc pair.0) more k → Up least (pairs ++ pair ∷ more) k
  up_around pair x le y = up_behind x (one_up pair le y)

  pub up_more : {least m : ℕ} {pairs : List (ℕ × A)} (pair : ℕ × A) → Up least pairs m → m ≤ pair.0
      → Up least (pairs ++ pair ∷ []) (suc pair.0)
  up_more pair x le = up_around pair x le (none_up (omega arith))

  pub rising : {least end : ℕ} {pairs : List (ℕ × A)} → Up least pairs end → AreRising least pairs
  rising (none_up l) = tt
  rising (one_up pair l x) = (l, rising x)
