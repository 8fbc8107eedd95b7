-- What stands at a place of a list that is seen by a view.
use Rattle.std.proofs.Common.{◌≡◌, ◌<◌, ◌≤◌, ℕ, zero, suc, List, [], ◌∷◌, map, length, get_or}
use Rattle.std.proofs.Common.{Option, None, option_map, refl, sym, ap, arith}
use Rattle.std.specs.Prelude.{slice_get}
use Rattle.check_nodes.specs.declared.context.Head.{Head}
use Rattle.check_nodes.specs.ContextView.{head_view}
use Rattle.check_functions.specs.HeadsView.{heads_view}
use Rattle.check_functions.specs.Stated.{head_at}

pub viewed_get : {A B : Type 0} (view : A → B) (xs : List A) (i : ℕ)
    → slice_get (map view xs) i ≡ option_map view (slice_get xs i)
viewed_get view [] i = refl
viewed_get view (x ∷ xs) zero = refl
viewed_get view (x ∷ xs) (suc i) = viewed_get view xs i

pub head_past : (heads : List (Option Head)) (i : ℕ) → length heads ≤ i
    → head_at (heads_view heads) i ≡ None
head_past [] i h = refl
head_past (x ∷ xs) zero h = absurd (omega (arith, h))
head_past (x ∷ xs) (suc i) h = let less : length xs ≤ i = omega (arith, h) in head_past xs i less

pub head_there : (heads : List (Option Head)) (i : ℕ) (head : Option Head) → i < length heads
    → head ≡ get_or heads i head
    → head_at (heads_view heads) i ≡ option_map head_view head
head_there [] i head lt is = absurd (omega (arith, lt))
head_there (x ∷ xs) zero head lt is = ap (option_map head_view) (sym is)
head_there (x ∷ xs) (suc i) head lt is =
    let less : i < length xs = omega (arith, lt) in head_there xs i head less is
