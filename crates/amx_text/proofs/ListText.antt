-- The text of a list, from one of its elements on.
use Rattle.std.proofs.Common.{◌≡◌, ◌+◌, ◌<◌, ◌≤◌, ℕ, suc, List, [], ◌++◌, length, drop, get_or, sym}
use Rattle.std.proofs.Common.{ap, ◌∙◌, arith}
use Rattle.std.specs.List.{flat_map}
use Rattle.std.proofs.Math.ListN.{drop_of_length-le}
use Rattle.std.proofs.Math.Seq.{drop-cons}
use Rattle.std.proofs.lemmas.List.{drop_more}

-- the text of a list from an element on
pub from_element : {X : Type 0} (f : X → List ℕ) (xs : List X) (i : ℕ) (x : X) → i < length xs
    → x ≡ get_or xs i x
    → flat_map f (drop i xs) ≡ f x ++ flat_map f (drop (i + 1) xs)
from_element f xs i x h is =
    ap (flat_map f) (drop_more xs i x h) ∙ ap (λ y. f y ++ flat_map f (drop (i + 1) xs)) (sym is)

-- the same by a default
pub from_place : {X : Type 0} (f : X → List ℕ) (xs : List X) (i : ℕ) (d : X) → i < length xs
    → flat_map f (drop i xs) ≡ f (get_or xs i d) ++ flat_map f (drop (i + 1) xs)
from_place f xs i d h =
    let next : suc i ≡ i + 1 = omega arith in
    ap (flat_map f) (drop-cons xs i d h)
    ∙ ap (λ n. f (get_or xs i d) ++ flat_map f (drop n xs)) next

pub from_end : {X : Type 0} (f : X → List ℕ) (xs : List X) (i : ℕ) → length xs ≤ i
    → flat_map f (drop i xs) ≡ []
from_end f xs i h = ap (flat_map f) (drop_of_length-le xs h)
