-- The bodies of a function are those whose keys have its place.
use Rattle.std.proofs.Common.{◌≡◌, ◌+◌, ◌<◌, ℕ, zero, suc, List, [], ◌∷◌, ◌++◌, Bool, true, false}
use Rattle.std.proofs.Common.{Option, None, Some, refl, sym, ap, ◌∙◌, subst, cond, arith}
use Rattle.std.specs.Prelude.{if◌then◌else◌, length, filter, slice_get, nat_eq}
use Rattle.std.proofs.lemmas.Bool.{eq-eqb, eqb-true}
use Rattle.std.proofs.lemmas.List.{append-nil, append_assoc}
use Rattle.std.proofs.lemmas.List.Elements.{filter-append}
use Rattle.types_rules.specs.Keys.{Key, same_key}
use Rattle.types_rules.specs.Groups.{Written, Group, with_body, grouped, body_key}
use Rattle.types_laws.proofs.GroupLaws.{IsShaped, AreShaped, HavePlaces, key_itself, place}
use Rattle.types_laws.proofs.GroupLaws.{place_kept, own_place, no_fewer, keys_of}

-- ---- numbers

eqb_not : (a b : ℕ) → (a ≡ b → ⊥) → nat_eq a b ≡ false
eqb_not a b differ = by (nat_eq a b) refl
  where
    by : (c : Bool) → nat_eq a b ≡ c → nat_eq a b ≡ false
    by true e = absurd (differ (eqb-true a b e))
    by false e = e

eqb_more : (p f : ℕ) → nat_eq p f ≡ nat_eq (1 + p) (suc f)
eqb_more p f = by (nat_eq p f) refl
  where
    by : (c : Bool) → nat_eq p f ≡ c → nat_eq p f ≡ nat_eq (1 + p) (suc f)
    by true e =
        let same : 1 + p ≡ suc f = omega (arith, eqb-true p f e) in e ∙ sym (eq-eqb _ _ same)
    by false e =
        e ∙ sym (eqb_not (1 + p) (suc f) (λ same.
        let is : p ≡ f = omega (arith, same) in
        let t = eq-eqb p f is in let no : ⊥ = cc in no))

-- ---- what one more body does

abbrev pub bodies_at : Option Group → List Written
bodies_at None = []
bodies_at (Some group) = group.bodies

abbrev one_if : Bool → Written → List Written
one_if true it = it ∷ []
one_if false it = []

at_by : (group : Group) (more : List Group) (key : Key) (it : Written) (f : ℕ) (b : Bool)
    → same_key group.key key ≡ b
    → ((g : ℕ) → bodies_at (slice_get (with_body more key it) g)
    ≡ bodies_at (slice_get more g) ++ one_if (nat_eq (place (with_body more key it) key) g) it)
    → bodies_at (slice_get (if b then record group { bodies = group.bodies ++ it ∷ [] } ∷ more
    else group ∷ with_body more key it) f)
    ≡ bodies_at (slice_get (group ∷ more) f)
    ++ one_if (nat_eq (place (if b then record group { bodies = group.bodies ++ it ∷ [] } ∷ more
    else group ∷ with_body more key it) key) f) it
at_by group more key it zero true e ih = rw e refl
at_by group more key it (suc g) true e ih =
    rw (e, eqb_not 0 (suc g) (λ same. omega (arith, same)))
    (sym (append-nil (bodies_at (slice_get more g))))
at_by group more key it zero false e ih =
    rw (e, eqb_not (1 + place (with_body more key it) key) 0 (λ same. omega (arith, same)))
    (sym (append-nil group.bodies))
at_by group more key it (suc g) false e ih =
    rw e (ih g ∙ ap (λ b. bodies_at (slice_get more g) ++ one_if b it)
    (eqb_more (place (with_body more key it) key) g))

with_body_at : (groups : List Group) (key : Key) (it : Written) (f : ℕ) → same_key key key ≡ true
    → bodies_at (slice_get (with_body groups key it) f)
    ≡ bodies_at (slice_get groups f) ++ one_if (nat_eq (place (with_body groups key it) key) f) it
with_body_at [] key it zero own = rw own refl
with_body_at [] key it (suc f) own =
    rw (own, eqb_not 0 (suc f) (λ same. omega (arith, same))) refl
with_body_at (group ∷ more) key it f own =
    at_by group more key it f (same_key group.key key) refl (λ g. with_body_at more key it g own)

-- ---- all bodies

module _ (names : List (List ℕ)) (fallback : List ℕ) where
  -- those with a place
  abbrev pub placed_at : List Group → ℕ → List Written → List Written
  placed_at groups f all =
      filter (λ it. nat_eq (place groups (body_key names fallback it)) f) all

  pub record Gathers (groups : List Group) (all : List Written) : Type 0 where
    pub places : HavePlaces groups (keys_of names fallback all)
    pub are : (f : ℕ) → bodies_at (slice_get groups f) ≡ placed_at groups f all

  places_more : (groups : List Group) (key : Key) (it : Written) (all : List Written)
      → HavePlaces groups (keys_of names fallback all)
      → HavePlaces (with_body groups key it) (keys_of names fallback all)
  places_more groups key it [] h = tt
  places_more groups key it (x ∷ xs) h = (
    omega (
      arith,
      h.0,
      place_kept groups key it (body_key names fallback x) h.0,
      no_fewer groups key it,
    ),
    places_more groups key it xs h.1,
  )

  places_last : (groups : List Group) (all : List Written) (it : Written)
      → HavePlaces groups (keys_of names fallback all)
      → place groups (body_key names fallback it) < length groups
      → HavePlaces groups (keys_of names fallback (all ++ it ∷ []))
  places_last groups [] it h k = (k, tt)
  places_last groups (x ∷ xs) it h k = (h.0, places_last groups xs it h.1 k)

  placed_same : (groups : List Group) (key : Key) (it : Written) (f : ℕ) (all : List Written)
      → HavePlaces groups (keys_of names fallback all)
      → placed_at groups f all ≡ placed_at (with_body groups key it) f all
  placed_same groups key it f [] h = refl
  placed_same groups key it f (x ∷ xs) h =
      let own = place_kept groups key it (body_key names fallback x) h.0 in
      ap (λ l. cond (nat_eq (place groups (body_key names fallback x)) f) (x ∷ l) l)
      (placed_same groups key it f xs h.1)
      ∙ ap (λ n. cond (nat_eq n f) (x ∷ placed_at (with_body groups key it) f xs)
      (placed_at (with_body groups key it) f xs)) (sym own)

  one_placed : (b : Bool) (it : Written) → one_if b it ≡ cond b (it ∷ []) []
  one_placed true it = refl
  one_placed false it = refl

  gathers_more : (groups : List Group) (all : List Written) (it : Written)
      → IsShaped (body_key names fallback it) → Gathers groups all
      → Gathers (with_body groups (body_key names fallback it) it) (all ++ it ∷ [])
  gathers_more groups all it shaped h =
      let key = body_key names fallback it in
      let own = key_itself key shaped in
      let more = with_body groups key it in
      record {
        places = places_last more all it (places_more groups key it all h.places)
            (own_place groups key it own);
        are = λ f.
            with_body_at groups key it f own
            ∙ ap (λ l. l ++ one_if (nat_eq (place more key) f) it)
            (h.are f ∙ placed_same groups key it f all h.places)
            ∙ ap (λ l. placed_at more f all ++ l) (one_placed (nat_eq (place more key) f) it)
            ∙ sym (filter-append (λ x. nat_eq (place more (body_key names fallback x)) f) all
            (it ∷ []));
      }

  gathers_from : (groups : List Group) (seen all : List Written)
      → AreShaped (keys_of names fallback all) → Gathers groups seen
      → Gathers (grouped names fallback groups all) (seen ++ all)
  unfolding grouped
  gathers_from groups seen [] h g = subst (λ l. Gathers groups l) (sym (append-nil seen)) g
  gathers_from groups seen (it ∷ more) h g =
      subst (λ l. Gathers (grouped names fallback (with_body groups (body_key names fallback it) it)
      more) l) (append_assoc seen (it ∷ []) more)
      (gathers_from (with_body groups (body_key names fallback it) it) (seen ++ it ∷ []) more h.1
      (gathers_more groups seen it h.0 g))

  pub gathers : (all : List Written) → AreShaped (keys_of names fallback all)
      → Gathers (grouped names fallback [] all) all
  gathers all h = gathers_from [] [] all h (record { places = tt; are = λ f. refl })
