-- The objects and the states with which a program begins.
use Rattle.std.proofs.Common.{◌≡◌, ◌<◌, ℕ, zero, suc, List, [], ◌∷◌, Option, None, Some, map}
use Rattle.std.proofs.Common.{slice_get, replicate, refl, ap, arith}
use Rattle.pawn_meaning.specs.Program.{StaticObject}
use Rattle.pawn_meaning.specs.World.{first_object}

-- the first object of one with a number has that number
pub first_of : (objects : List StaticObject) (i : ℕ) (it : StaticObject) → slice_get objects i ≡ Some it
    → slice_get (map first_object objects) i ≡ Some (first_object it)
first_of [] i it e = cc
first_of (x ∷ objects) zero it e = let same : x ≡ it = cc in ap (λ z. Some (first_object z)) same
first_of (x ∷ objects) (suc i) it e = first_of objects i it e

-- no automaton has a state
abbrev pub no_states : ℕ → List (Option ℕ)
no_states n = replicate n None

pub none_at : (n a : ℕ) → a < n → slice_get (no_states n) a ≡ Some None
none_at zero a h = absurd (omega (arith, h))
none_at (suc n) zero h = refl
none_at (suc n) (suc a) h = none_at n a (omega (arith, h))
