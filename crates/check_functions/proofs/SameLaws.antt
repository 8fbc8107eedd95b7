-- Lists of parameters that are compared one by one.
use Rattle.std.proofs.Common.{◌≡◌, ◌≢◌, ◌<◌, ◌+◌, ℕ, zero, suc, Bool, true, false, ◌&&◌, List, []}
use Rattle.std.proofs.Common.{◌∷◌, map, length, get_or, drop, refl, sym, ap, ap₂, ◌∙◌, arith}
use Rattle.std.proofs.lemmas.List.{drop_more}
use Rattle.types_rules.specs.Around as plain
use Rattle.types_rules.specs.SameHeads.{same_param, same_params}
use Rattle.check_nodes.specs.declared.context.Param.{Param}
use Rattle.check_nodes.specs.ContextView.{param_view}

and_false : (a : Bool) → false ≡ a && false
and_false true = refl
and_false false = refl

pub other_lengths : (x y : List Param) → length x ≢ length y
    → false ≡ same_params (map param_view x) (map param_view y)
other_lengths [] [] h = absurd (h refl)
other_lengths [] (y ∷ ys) h = refl
other_lengths (x ∷ xs) [] h = refl
other_lengths (x ∷ xs) (y ∷ ys) h =
    and_false (same_param (param_view x) (param_view y))
    ∙ ap (λ (b : Bool). same_param (param_view x) (param_view y) && b)
    (other_lengths xs ys (λ e. h (ap suc e)))

-- so many are equal
pub record SameSoFar (x y : List Param) (i : ℕ) : Type 0 where
  pub same : same_params (map param_view x) (map param_view y)
      ≡ same_params (map param_view (drop i x)) (map param_view (drop i y))

cut : (xs : List Param) (i : ℕ) (p : Param) → i < length xs → p ≡ get_or xs i p
    → drop i xs ≡ p ∷ drop (i + 1) xs
cut xs i p lt is = drop_more xs i p lt ∙ ap (λ (q : Param). q ∷ drop (i + 1) xs) (sym is)

module _ (x y : List Param) (i : ℕ) (p q : Param) (h : SameSoFar x y i) (lt : i < length x)
    (less : i < length y) (here : p ≡ get_or x i p) (there : q ≡ get_or y i q) where
  next : same_params (map param_view x) (map param_view y)
      ≡ same_param (param_view p) (param_view q)
      && same_params (map param_view (drop (i + 1) x)) (map param_view (drop (i + 1) y))
  next =
      h.same ∙ ap₂ (λ (xs ys : List Param). same_params (map param_view xs) (map param_view ys))
      (cut x i p lt here) (cut y i q less there)

  pub same_more : same_param (param_view p) (param_view q) ≡ true → SameSoFar x y (i + 1)
  same_more e = record {
    same =
        next ∙ ap (λ (b : Bool). b && same_params (map param_view (drop (i + 1) x))
        (map param_view (drop (i + 1) y))) e;
  }

  pub same_ends : same_param (param_view p) (param_view q) ≡ false
      → false ≡ same_params (map param_view x) (map param_view y)
  same_ends e =
      sym (next ∙ ap (λ (b : Bool). b
      && same_params (map param_view (drop (i + 1) x)) (map param_view (drop (i + 1) y))) e)
