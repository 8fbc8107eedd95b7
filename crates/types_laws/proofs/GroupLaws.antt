-- Each body has the number of a function, and each function has a body.
use Rattle.std.proofs.Common.{◌≡◌, ◌⊎◌, inl, inr, ◌+◌, ◌<◌, ◌≤◌, ℕ, zero, suc, List, [], ◌∷◌, ◌++◌}
use Rattle.std.proofs.Common.{Bool, true, false, None, Some, refl, sym, ap, ◌∙◌, subst, cond, arith}
use Rattle.std.specs.Prelude.{if◌then◌else◌, length, map, nat_lt, not, ◌&&◌}
use Rattle.std.specs.List.{position_or_len}
use Rattle.std.proofs.lemmas.Bool.{eq-eqb, lt-ltb}
use Rattle.std.proofs.lemmas.List.{append-nil, append_assoc}
use Rattle.std.proofs.lemmas.Slice.Eq.{bytes_eq-Decides}
use Rattle.pawn_tags.specs.Overloads.{is_for}
use Rattle.pawn_tags.specs.declared.op.Op.{Op}
use Rattle.pawn_tags.specs.declared.op.Op.TheVariants as op
use Rattle.types_rules.specs.Keys.{Key, Named, Operates, Enters, Misshapen, same_key}
use Rattle.types_rules.specs.Groups.{Written, Group, with_body, grouped, body_key, number_of}

-- ---- a key is the same as itself

and_both : (a b : Bool) → a ≡ true → b ≡ true → (a && b) ≡ true
and_both true b p q = q
and_both false b p q = absurd (let no : ⊥ = cc in no)

op_itself : (it : Op) (left right : ℕ)
    → is_for it left right (record { op = it; left = left; right = right }) ≡ true
op_itself op.Add l r = and_both _ _ (eq-eqb l l refl) (eq-eqb r r refl)
op_itself op.Sub l r = and_both _ _ (eq-eqb l l refl) (eq-eqb r r refl)
op_itself op.Mul l r = and_both _ _ (eq-eqb l l refl) (eq-eqb r r refl)
op_itself op.Div l r = and_both _ _ (eq-eqb l l refl) (eq-eqb r r refl)
op_itself op.Rem l r = and_both _ _ (eq-eqb l l refl) (eq-eqb r r refl)
op_itself op.Inc l r = and_both _ _ (eq-eqb l l refl) (eq-eqb r r refl)
op_itself op.Dec l r = and_both _ _ (eq-eqb l l refl) (eq-eqb r r refl)
op_itself op.Eq l r = and_both _ _ (eq-eqb l l refl) (eq-eqb r r refl)
op_itself op.Neq l r = and_both _ _ (eq-eqb l l refl) (eq-eqb r r refl)
op_itself op.Less l r = and_both _ _ (eq-eqb l l refl) (eq-eqb r r refl)
op_itself op.Greater l r = and_both _ _ (eq-eqb l l refl) (eq-eqb r r refl)
op_itself op.LessEq l r = and_both _ _ (eq-eqb l l refl) (eq-eqb r r refl)
op_itself op.GreaterEq l r = and_both _ _ (eq-eqb l l refl) (eq-eqb r r refl)
op_itself op.Not l r = and_both _ _ (eq-eqb l l refl) (eq-eqb r r refl)
op_itself op.Neg l r = and_both _ _ (eq-eqb l l refl) (eq-eqb r r refl)
op_itself op.Assign l r = and_both _ _ (eq-eqb l l refl) (eq-eqb r r refl)

abbrev pub IsShaped : Key → Type 0
IsShaped (Named name) = Unit {0}
IsShaped (Operates it) = Unit {0}
IsShaped (Enters name) = Unit {0}
IsShaped Misshapen = ⊥

pub key_itself : (key : Key) → IsShaped key → same_key key key ≡ true
key_itself (Named name) h = (bytes_eq-Decides name name).1 refl
key_itself (Operates it) h = op_itself it.op it.left it.right
key_itself (Enters name) h = (bytes_eq-Decides name name).1 refl
key_itself Misshapen h = absurd h

-- ---- the place of a key among functions

abbrev pub place : List Group → Key → ℕ
place groups key = position_or_len (λ (group : Group). same_key group.key key) groups

number_by : (n m : ℕ) (b : Bool) → nat_lt n m ≡ b → n < m → cond b (Some n) None ≡ Some n
number_by n m true e h = refl
number_by n m false e h = absurd (let f : ⊥ = cc_no n m h e in f)
  where
    cc_no : (n m : ℕ) → n < m → nat_lt n m ≡ false → ⊥
    cc_no n m h e = let t = lt-ltb n m h in let no : ⊥ = cc in no

pub number_is : (groups : List Group) (key : Key) → place groups key < length groups
    → number_of groups key ≡ Some (place groups key)
number_is groups key h = number_by (place groups key) (length groups) _ refl h

-- what has a place keeps it where a body is added
kept_by : (group : Group) (more : List Group) (key : Key) (it : Written) (k : Key) (b c : Bool)
    → same_key group.key k ≡ c → cond (not c) (1 + place more k) 0 < suc (length more)
    → (place more k < length more → place (with_body more key it) k ≡ place more k)
    → place (if b then record group { bodies = group.bodies ++ it ∷ [] } ∷ more
    else group ∷ with_body more key it) k
    ≡ cond (not (same_key group.key k)) (1 + place more k) 0
kept_by group more key it k true c e h ih = refl
kept_by group more key it k false true e h ih = rw e refl
kept_by group more key it k false false e h ih =
    ap (λ n. cond (not (same_key group.key k)) (1 + n) 0) (ih (omega (arith, h)))

pub place_kept : (groups : List Group) (key : Key) (it : Written) (k : Key)
    → place groups k < length groups → place (with_body groups key it) k ≡ place groups k
place_kept [] key it k h = absurd (omega (arith, h))
place_kept (group ∷ more) key it k h =
    kept_by group more key it k (same_key group.key key) (same_key group.key k) refl h
    (place_kept more key it k)

more_by : (group : Group) (more : List Group) (key : Key) (it : Written) (b : Bool)
    → length more ≤ length (with_body more key it)
    → suc (length more) ≤ length (if b then record group { bodies = group.bodies ++ it ∷ [] } ∷ more
    else group ∷ with_body more key it)
more_by group more key it true h = omega arith
more_by group more key it false h = omega (arith, h)

pub no_fewer : (groups : List Group) (key : Key) (it : Written)
    → length groups ≤ length (with_body groups key it)
no_fewer [] key it = omega arith
no_fewer (group ∷ more) key it =
    more_by group more key it (same_key group.key key) (no_fewer more key it)

-- the body's own key has a place then, and a new function is its
own_by : (group : Group) (more : List Group) (key : Key) (it : Written) (b : Bool)
    → same_key group.key key ≡ b
    → place (with_body more key it) key < length (with_body more key it)
    → place (if b then record group { bodies = group.bodies ++ it ∷ [] } ∷ more
    else group ∷ with_body more key it) key
    < length (if b then record group { bodies = group.bodies ++ it ∷ [] } ∷ more
    else group ∷ with_body more key it)
own_by group more key it true e h = rw e (omega arith)
own_by group more key it false e h = rw e (omega (arith, h))

pub own_place : (groups : List Group) (key : Key) (it : Written) → same_key key key ≡ true
    → place (with_body groups key it) key < length (with_body groups key it)
own_place [] key it h = rw h (omega arith)
own_place (group ∷ more) key it h =
    own_by group more key it (same_key group.key key) refl (own_place more key it h)

new_by : (group : Group) (more : List Group) (key : Key) (it : Written) (b : Bool) (f : ℕ)
    → same_key group.key key ≡ b
    → f < length (if b then record group { bodies = group.bodies ++ it ∷ [] } ∷ more
    else group ∷ with_body more key it)
    → ((g : ℕ) → g < length (with_body more key it)
    → (g < length more) ⊎ (place (with_body more key it) key ≡ g))
    → (f < suc (length more))
    ⊎ (place (if b then record group { bodies = group.bodies ++ it ∷ [] } ∷ more
    else group ∷ with_body more key it) key ≡ f)
new_by group more key it true f e h ih = inl h
new_by group more key it false zero e h ih = inl (omega arith)
new_by group more key it false (suc g) e h ih = one_on (ih g (omega (arith, h)))
  where
    one_on : (g < length more) ⊎ (place (with_body more key it) key ≡ g)
        → (suc g < suc (length more)) ⊎ (place (group ∷ with_body more key it) key ≡ suc g)
    one_on (inl lt) = inl (omega (arith, lt))
    one_on (inr is) = inr (rw e (omega (arith, is)))

pub new_place : (groups : List Group) (key : Key) (it : Written) (f : ℕ) → same_key key key ≡ true
    → f < length (with_body groups key it)
    → (f < length groups) ⊎ (place (with_body groups key it) key ≡ f)
new_place [] key it f own h = inr (rw own (omega (arith, h)))
new_place (group ∷ more) key it f own h =
    new_by group more key it (same_key group.key key) f refl h
    (λ g lt. new_place more key it g own lt)

-- ---- all bodies

-- some body has the number
abbrev pub IsHit : List Group → ℕ → List Key → Type 0
IsHit groups f [] = ⊥
IsHit groups f (key ∷ more) = (place groups key ≡ f) ⊎ IsHit groups f more

abbrev pub HavePlaces : List Group → List Key → Type 0
HavePlaces groups [] = Unit {0}
HavePlaces groups (key ∷ more) = (place groups key < length groups) × HavePlaces groups more

abbrev pub AreShaped : List Key → Type 0
AreShaped [] = Unit {0}
AreShaped (key ∷ more) = IsShaped key × AreShaped more

pub record Numbers (groups : List Group) (keys : List Key) : Type 0 where
  pub places : HavePlaces groups keys
  pub hit : (f : ℕ) → f < length groups → IsHit groups f keys

places_kept : (groups : List Group) (key : Key) (it : Written) (keys : List Key)
    → HavePlaces groups keys → HavePlaces (with_body groups key it) keys
places_kept groups key it [] h = tt
places_kept groups key it (k ∷ more) h = (
  omega (arith, h.0, place_kept groups key it k h.0, no_fewer groups key it),
  places_kept groups key it more h.1,
)

hit_kept : (groups : List Group) (key : Key) (it : Written) (f : ℕ) (keys : List Key)
    → HavePlaces groups keys → IsHit groups f keys → IsHit (with_body groups key it) f keys
hit_kept groups key it f [] p h = absurd h
hit_kept groups key it f (k ∷ more) p (inl is) = inl (place_kept groups key it k p.0 ∙ is)
hit_kept groups key it f (k ∷ more) p (inr h) = inr (hit_kept groups key it f more p.1 h)

places_last : (groups : List Group) (keys : List Key) (key : Key) → HavePlaces groups keys
    → place groups key < length groups → HavePlaces groups (keys ++ key ∷ [])
places_last groups [] key h k = (k, tt)
places_last groups (x ∷ more) key h k = (h.0, places_last groups more key h.1 k)

hit_left : (groups : List Group) (f : ℕ) (keys : List Key) (key : Key) → IsHit groups f keys
    → IsHit groups f (keys ++ key ∷ [])
hit_left groups f [] key h = absurd h
hit_left groups f (x ∷ more) key (inl is) = inl is
hit_left groups f (x ∷ more) key (inr h) = inr (hit_left groups f more key h)

hit_last : (groups : List Group) (f : ℕ) (keys : List Key) (key : Key) → place groups key ≡ f
    → IsHit groups f (keys ++ key ∷ [])
hit_last groups f [] key is = inl is
hit_last groups f (x ∷ more) key is = inr (hit_last groups f more key is)

one_more : (groups : List Group) (keys : List Key) (key : Key) (it : Written) → IsShaped key
    → Numbers groups keys → Numbers (with_body groups key it) (keys ++ key ∷ [])
one_more groups keys key it shaped n =
    let own = key_itself key shaped in
    record {
      places = places_last (with_body groups key it) keys key
          (places_kept groups key it keys n.places) (own_place groups key it own);
      hit = λ f lt. either f (new_place groups key it f own lt);
    }
  where
    either : (f : ℕ) → (f < length groups) ⊎ (place (with_body groups key it) key ≡ f)
        → IsHit (with_body groups key it) f (keys ++ key ∷ [])
    either f (inl lt) =
        hit_left (with_body groups key it) f keys key
        (hit_kept groups key it f keys n.places (n.hit f lt))
    either f (inr is) = hit_last (with_body groups key it) f keys key is

module _ (names : List (List ℕ)) (fallback : List ℕ) where
  abbrev pub keys_of : List Written → List Key
  keys_of all = map (λ it. body_key names fallback it) all

  numbers_from_groups : (groups : List Group) (keys : List Key) (all : List Written)
      → AreShaped (keys_of all) → Numbers groups keys
      → Numbers (grouped names fallback groups all) (keys ++ keys_of all)
  unfolding grouped
  numbers_from_groups groups keys [] h n =
      subst (λ l. Numbers groups l) (sym (append-nil keys)) n
  numbers_from_groups groups keys (it ∷ more) h n =
      subst (λ l. Numbers (grouped names fallback (with_body groups (body_key names fallback it) it)
      more) l)
      (append_assoc keys (body_key names fallback it ∷ []) (keys_of more))
      (numbers_from_groups (with_body groups (body_key names fallback it) it)
      (keys ++ body_key names fallback it ∷ []) more h.1
      (one_more groups keys (body_key names fallback it) it h.0 n))

  pub all_numbers : (all : List Written) → AreShaped (keys_of all)
      → Numbers (grouped names fallback [] all) (keys_of all)
  all_numbers all h =
      numbers_from_groups [] [] all h
      (record { places = tt; hit = λ f lt. absurd (omega (arith, lt)) })
