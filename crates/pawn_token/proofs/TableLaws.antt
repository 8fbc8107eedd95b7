-- A search through a table, from a place on.
use Rattle.std.proofs.Common.{◌≡◌, ◌<◌, ◌+◌, ℕ, List, Bool, true, false, Some, cond, length, get_or}
use Rattle.std.proofs.Common.{drop, sym, ap, ◌∙◌, add-one, suc}
use Rattle.std.specs.List.{find}
use Rattle.std.proofs.Math.Seq.{drop-cons}

-- the first that passes is found where it stands
pub found_here : {X : Type 0} (p : X → Bool) (xs : List X) (i : ℕ) (x : X) → i < length xs
    → p (get_or xs i x) ≡ true
    → find p (drop i xs) ≡ Some (get_or xs i x)
found_here p xs i x within passes =
    ap (find p) (drop-cons xs i x within)
    ∙ ap (λ b. cond b (Some (get_or xs i x)) (find p (drop (suc i) xs))) passes

-- one that doesn't pass is left out
pub passed : {X : Type 0} (p : X → Bool) (xs : List X) (i : ℕ) (x : X) → i < length xs
    → p (get_or xs i x) ≡ false
    → find p (drop (i + 1) xs) ≡ find p (drop i xs)
passed p xs i x within fails =
    ap (λ n. find p (drop n xs)) (add-one i)
    ∙ sym (ap (find p) (drop-cons xs i x within)
    ∙ ap (λ b. cond b (Some (get_or xs i x)) (find p (drop (suc i) xs))) fails)
