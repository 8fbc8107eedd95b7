-- Three texts that were put at the end, one behind the other.
use Rattle.std.proofs.Common.{◌≡◌, ◌++◌, ◌∙◌, ℕ, List, Result, Ok, Err, OnOk, ap, append_assoc}

pub three_behind : {T E : Type 0} (r : Result T E)
    (old first mid new front middle back : List ℕ)
    → first ≡ old ++ front → mid ≡ first ++ middle → OnOk r (new ≡ mid ++ back)
    → OnOk r (new ≡ old ++ (front ++ (middle ++ back)))
three_behind (Ok t) old first mid new front middle back e f g =
    g ∙ ap (λ x. x ++ back) (f ∙ ap (λ x. x ++ middle) e) ∙ regrouped old front middle back
  where
    regrouped : (a b c d : List ℕ) → ((a ++ b) ++ c) ++ d ≡ a ++ (b ++ (c ++ d))
    regrouped a b c d = simp append_assoc
three_behind (Err x) old first mid new front middle back e f g = tt
