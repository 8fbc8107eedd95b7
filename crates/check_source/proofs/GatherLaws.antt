-- Lists that a loop gathers element by element.
use Rattle.std.proofs.Common.{◌≡◌, ◌<◌, ◌+◌, ℕ, List, [], ◌∷◌, ◌++◌, map, length, get_or, drop, sym}
use Rattle.std.proofs.Common.{ap, ◌∙◌, append_assoc}
use Rattle.std.proofs.lemmas.List.{map-append, drop_more}

pub map_push : {A B : Type 0} (view : A → B) (xs : List A) (x : A)
    → map view (xs ++ x ∷ []) ≡ map view xs ++ view x ∷ []
map_push view xs x = map-append view xs (x ∷ [])

module _ {A X B : Type 0} (view : X → A) (F : List A → List B)
    (more : (x : A) (xs : List A) → F (x ∷ xs) ≡ F (x ∷ []) ++ F xs) where
  pub gathered : (items : List X) (i : ℕ) (x : X) (old now : List B)
      → old ++ F (map view (drop i items)) ≡ F (map view items)
      → i < length items → x ≡ get_or items i x → now ≡ old ++ F (view x ∷ [])
      → now ++ F (map view (drop (i + 1) items)) ≡ F (map view items)
  gathered items i x old now h lt is e =
      let rest : List B = F (map view (drop (i + 1) items)) in
      let cut : drop i items ≡ x ∷ drop (i + 1) items =
      drop_more items i x lt ∙ ap (λ (y : X). y ∷ drop (i + 1) items) (sym is) in
      ap (λ (n : List B). n ++ rest) e
      ∙ append_assoc old (F (view x ∷ [])) rest
      ∙ ap (λ (r : List B). old ++ r) (sym (more (view x) (map view (drop (i + 1) items))))
      ∙ ap (λ (its : List X). old ++ F (map view its)) (sym cut)
      ∙ h
