-- The first heading of each function, heading by heading.
use Rattle.std.proofs.Common.{◌≡◌, ◌≢◌, ◌<◌, ◌≤◌, ℕ, zero, suc, Bool, true, false, ◌||◌, ◌&&◌}
use Rattle.std.proofs.Common.{if◌then◌else◌, List, [], ◌∷◌, ◌++◌, length, position, Option, Some}
use Rattle.std.proofs.Common.{None, option_map, min, replicate, refl, sym, ap, ap₂, ◌∙◌, arith}
use Rattle.std.specs.Prelude.{slice_get}
use Rattle.std.specs.Option.{option_or, option_and_then}
use Rattle.std.proofs.lemmas.List.{length-replicate}
use Rattle.std.specs.List.{list_any}
use Rattle.std.specs.Cmp.Lexicographic.{bytes_decides}
use Rattle.std.proofs.lemmas.Bool.{false≢true}
use Rattle.pawn_tags.proofs.OverloadLaws.{itself_for}
use Rattle.types_rules.specs.Keys.{Key, Named, Operates, Enters, Misshapen, same_key}
use Rattle.types_rules.specs.Groups.{Group, is_entry, number_of}
use Rattle.types_rules.specs.Headings.{Heading, Role, IsNative, IsForward, IsBody, heading_key}
use Rattle.types_rules.specs.Headings.{is_enters, belongs, is_of}
use Rattle.check_source.specs.Update.{updated}
use Rattle.check_source.proofs.PlaceLaws.{place, place_is, position_push, length_updated}
use Rattle.check_source.proofs.PlaceLaws.{same_places, none_passes}
use Rattle.check_source.proofs.TableLaws.{equal_keys}
use Rattle.check_functions.specs.Own.{enters_by, enters_all, own_by, own_key, is_key, is_own}
use Rattle.check_functions.specs.Own.{AreFirsts, number_in, noted, own_at, HasNumber, least}
use Rattle.check_functions.specs.Own.{first_by}
use Rattle.check_functions.proofs.AtLaws.{got_is}

none_behind : (x : Option ℕ) → option_or x None ≡ x
none_behind None = refl
none_behind (Some n) = refl

-- ---- what stands at the place of the first that passes

module _ {A : Type 0} (p : A → Bool) where
  some_by : (b : Bool) (x : A) (xs : List A) (rest : Option ℕ) (i : ℕ) → p x ≡ b
      → (if b then Some 0 else option_map suc rest) ≡ Some i
      → ((j : ℕ) → rest ≡ Some j → (y : A) × (slice_get xs j ≡ Some y) × (p y ≡ true))
      → (y : A) × (slice_get (x ∷ xs) i ≡ Some y) × (p y ≡ true)
  some_by true x xs rest zero e h more = (x, refl, e)
  some_by true x xs rest (suc i) e h more = absurd (let no : ⊥ = cc in no)
  some_by false x xs None i e h more = absurd (let no : ⊥ = cc in no)
  some_by false x xs (Some j) zero e h more = absurd (let no : ⊥ = cc in no)
  some_by false x xs (Some j) (suc i) e h more = let s : Some j ≡ Some i = cc in more i s

  pub passes_at : (xs : List A) (i : ℕ) → place p xs ≡ Some i
      → (y : A) × (slice_get xs i ≡ Some y) × (p y ≡ true)
  passes_at [] i h = absurd (let no : ⊥ = cc in no)
  passes_at (x ∷ xs) i h = some_by (p x) x xs (place p xs) i refl h (passes_at xs)

-- ---- changes

module _ {A : Type 0} where
  pub got_updated : (xs : List A) (i : ℕ) (x : A) (change : A → A) → slice_get xs i ≡ Some x
      → slice_get (updated xs i change) i ≡ Some (change x)
  got_updated [] i x change h = absurd (let no : ⊥ = cc in no)
  got_updated (y ∷ ys) zero x change h =
      let same : y ≡ x = cc in ap (λ (z : A). Some (change z)) same
  got_updated (y ∷ ys) (suc i) x change h = got_updated ys i x change h

  pub other_updated : (xs : List A) (i j : ℕ) (change : A → A) → j ≢ i
      → slice_get (updated xs i change) j ≡ slice_get xs j
  other_updated [] i j change h = refl
  other_updated (y ∷ ys) zero zero change h = absurd (h refl)
  other_updated (y ∷ ys) zero (suc j) change h = refl
  other_updated (y ∷ ys) (suc i) zero change h = refl
  other_updated (y ∷ ys) (suc i) (suc j) change h = other_updated ys i j change (λ e. h (ap suc e))

  pub updated_past : (xs : List A) (i : ℕ) (change : A → A) → length xs ≤ i
      → xs ≡ updated xs i change
  updated_past [] i change h = refl
  updated_past (x ∷ xs) zero change h = absurd (omega (arith, h))
  updated_past (x ∷ xs) (suc i) change h =
      let less : length xs ≤ i = omega (arith, h) in
      ap (λ (r : List A). x ∷ r) (updated_past xs i change less)

-- ---- keys and numbers

abbrev has_key : Key → Group → Bool
has_key key group = same_key group.key key

pub keyed_at : (groups : List Group) (key : Key) (n : ℕ) → number_of groups key ≡ Some n
    → (group : Group) × (slice_get groups n ≡ Some group) × (same_key group.key key ≡ true)
keyed_at groups key n h = passes_at (has_key key) groups n (sym (place_is (has_key key) groups) ∙ h)

pub same_some : (x y : Group) → Some x ≡ Some y → x ≡ y
same_some x y h = cc

pub same_number : (groups : List Group) (x y : Key) (n : ℕ) → number_of groups x ≡ Some n
    → number_of groups y ≡ Some n → same_key x y ≡ true
same_number groups x y n hx hy =
    let gx = keyed_at groups x n hx in
    let gy = keyed_at groups y n hy in
    let one : gx.0 ≡ gy.0 = same_some gx.0 gy.0 (sym gx.1 ∙ gy.1) in
    ap (λ (k : Key). same_key k y) (sym (equal_keys gx.0.key x gx.2))
    ∙ ap (λ (g : Group). same_key g.key y) one ∙ gy.2

-- a function isn't that of a key without a number
pub differs : (groups : List Group) (key other : Key) (n : ℕ) (b : Bool) → same_key key other ≡ b
    → number_of groups key ≡ Some n → number_of groups other ≡ None → same_key key other ≡ false
differs groups key other n true s k none =
    absurd
    (let no : ⊥ = (let e : Some n ≡ None = sym k ∙ ap (number_of groups) (equal_keys key other s) ∙ none in cc) in no)
differs groups key other n false s k none = s

-- ---- one more heading

module _ (names : List (List ℕ)) (fallback : List ℕ) (groups : List Group) (before : List Heading)
    (it : Heading) where
  own_push : (key : Key) (own : Option Key) → own_key names fallback it ≡ own
      → position (is_own names fallback key) (before ++ it ∷ [])
      ≡ option_or (position (is_own names fallback key) before)
      (if is_key names fallback key own then Some (length before) else None)
  own_push key own e =
      position_push (is_own names fallback key) before it
      ∙ ap (λ (k : Option Key). option_or (position (is_own names fallback key) before)
      (if is_key names fallback key k then Some (length before) else None)) e

  -- a heading that isn't the function's
  kept_own : (key : Key) (own : Option Key) → own_key names fallback it ≡ own
      → is_key names fallback key own ≡ false
      → position (is_own names fallback key) (before ++ it ∷ [])
      ≡ position (is_own names fallback key) before
  kept_own key own e other =
      own_push key own e
      ∙ ap (λ (b : Bool). option_or (position (is_own names fallback key) before)
      (if b then Some (length before) else None)) other
      ∙ none_behind (position (is_own names fallback key) before)

  abbrev Owns : List Heading → List (Option ℕ) → Type 0
  Owns headings own = (key : Key) (n : ℕ) → number_of groups key ≡ Some n
      → slice_get own n ≡ Some (position (is_own names fallback key) headings)

  -- a heading that is of no function alone
  pub own_none : (own : List (Option ℕ)) → Owns before own → own_key names fallback it ≡ None
      → Owns (before ++ it ∷ []) own
  own_none own h e = λ key n k. h key n k ∙ ap Some (sym (kept_own key None e refl))

  -- a heading of a function without a body
  pub own_unknown : (own : List (Option ℕ)) (other : Key) → Owns before own
      → own_key names fallback it ≡ Some other → number_of groups other ≡ None
      → Owns (before ++ it ∷ []) own
  own_unknown own other h e none = λ key n k.
      h key n k ∙ ap Some (sym (kept_own key (Some other) e
      (differs groups key other n (same_key key other) refl k none)))

  pub own_by_key : (own : List (Option ℕ)) (other key : Key) (m n : ℕ) (b : Bool) → Owns before own
      → own_key names fallback it ≡ Some other
      → number_of groups other ≡ Some m → number_of groups key ≡ Some n → same_key key other ≡ b
      → slice_get (updated own m (λ first. option_or first (Some (length before)))) n
      ≡ Some (position (is_own names fallback key) (before ++ it ∷ []))
  own_by_key own other key m n true h e o k s =
      let equal : key ≡ other = equal_keys key other s in
      let same : Some n ≡ Some m = sym k ∙ ap (number_of groups) equal ∙ o in
      let one : n ≡ m = cc in
      ap (slice_get (updated own m (λ first. option_or first (Some (length before))))) one
      ∙ got_updated own m (position (is_own names fallback key) before)
      (λ first. option_or first (Some (length before))) (h key m (k ∙ same))
      ∙ ap Some (sym (own_push key (Some other) e
      ∙ ap (λ (b : Bool). option_or (position (is_own names fallback key) before)
      (if b then Some (length before) else None)) s))
  own_by_key own other key m n false h e o k s =
      let apart : n ≢ m =
      λ same. false≢true (sym s ∙ same_number groups key other n k (o ∙ ap Some (sym same)))
      in
      other_updated own m n (λ first. option_or first (Some (length before))) apart
      ∙ h key n k ∙ ap Some (sym (kept_own key (Some other) e s))

  -- a heading of a function
  pub own_known : (own now : List (Option ℕ)) (other : Key) (m place : ℕ) → Owns before own
      → own_key names fallback it ≡ Some other
      → number_of groups other ≡ Some m → place ≡ length before
      → now ≡ updated own m (λ first. option_or first (Some place)) → Owns (before ++ it ∷ []) now
  own_known own now other m place h e o p u = λ key n k.
      ap (λ (xs : List (Option ℕ)). slice_get xs n)
      (u ∙ ap (λ (q : ℕ). updated own m (λ first. option_or first (Some q))) p)
      ∙ own_by_key own other key m n (same_key key other) h e o k refl

  -- a heading of all entry functions, or none such
  pub entry_more : (b : Bool) (entry now : Option ℕ) (place : ℕ) → enters_all it ≡ b
      → entry ≡ position enters_all before → place ≡ length before
      → now ≡ (if b then option_or entry (Some place) else entry)
      → now ≡ position enters_all (before ++ it ∷ [])
  entry_more true entry now place e h p u =
      u ∙ ap₂ (λ (x : Option ℕ) (q : ℕ). option_or x (Some q)) h p
      ∙ sym (position_push enters_all before it
      ∙ ap (λ (b : Bool). option_or (position enters_all before)
      (if b then Some (length before) else None)) e)
  entry_more false entry now place e h p u =
      u ∙ h
      ∙ sym (position_push enters_all before it
      ∙ ap (λ (b : Bool). option_or (position enters_all before)
      (if b then Some (length before) else None)) e
      ∙ none_behind (position enters_all before))

-- ---- all of it

pub noted_past : (own : List (Option ℕ)) (number place : ℕ) → length own ≤ number
    → own ≡ noted (Some number) place own
noted_past own number place h =
    updated_past own number (λ (first : Option ℕ). option_or first (Some place)) h

noted_long : (number : Option ℕ) (place : ℕ) (own : List (Option ℕ))
    → length (noted number place own) ≡ length own
noted_long None place own = refl
noted_long (Some n) place own =
    length_updated own n (λ (first : Option ℕ). option_or first (Some place))

pub same_at : {A : Type 0} (x : A) (i count : ℕ) → i < count
    → slice_get (replicate count x) i ≡ Some x
same_at x i zero lt = absurd (omega (arith, lt))
same_at x zero (suc count) lt = refl
same_at x (suc i) (suc count) lt =
    let less : i < count = omega (arith, lt) in same_at x i count less

-- a key with a number is that of a function
pub number_less : (groups : List Group) (key : Key) (n : ℕ) → number_of groups key ≡ Some n
    → n < length groups
number_less groups key n h = let at = keyed_at groups key n h in (got_is groups n at.0 at.1).0

module _ (names : List (List ℕ)) (fallback : List ℕ) (groups : List Group) where
  own_step : (before : List Heading) (it : Heading) (own : List (Option ℕ)) (place : ℕ)
      (key : Option Key) (number : Option ℕ)
      → Owns names fallback groups before it before own → own_key names fallback it ≡ key
      → number_in groups key ≡ number → place ≡ length before
      → Owns names fallback groups before it (before ++ it ∷ []) (noted number place own)
  own_step before it own place None None h e n p = own_none names fallback groups before it own h e
  own_step before it own place None (Some m) h e n p = absurd (let no : ⊥ = cc in no)
  own_step before it own place (Some other) None h e n p =
      own_unknown names fallback groups before it own other h e n
  own_step before it own place (Some other) (Some m) h e n p =
      own_known names fallback groups before it own
      (noted (Some m) place own) other m place h e n p refl

  pub firsts_more : (before : List Heading) (it : Heading) (own now : List (Option ℕ))
      (entry next number : Option ℕ) (place : ℕ) (enters : Bool)
      → AreFirsts names fallback groups before own entry → place ≡ length before
      → number ≡ number_in groups (own_key names fallback it)
      → now ≡ noted number place own → enters ≡ enters_all it
      → next ≡ (if enters then option_or entry (Some place) else entry)
      → AreFirsts names fallback groups (before ++ it ∷ []) now next
  firsts_more before it own now entry next number place enters h p n o b e = record {
    long = ap length o ∙ noted_long number place own ∙ h.long;
    firsts = λ key m k.
        ap (λ (xs : List (Option ℕ)). slice_get xs m) o
        ∙ own_step before it own place (own_key names fallback it) number h.firsts refl
        (sym n) p key m k;
    entering =
        entry_more names fallback groups before it enters entry next place (sym b) h.entering p e;
  }

  pub firsts_begin : (own : List (Option ℕ)) (count : ℕ) → own ≡ replicate count None
      → count ≡ length groups
      → AreFirsts names fallback groups [] own None
  firsts_begin own count o n = record {
    long = ap length o ∙ length-replicate count None ∙ n;
    firsts = λ key m k.
        let less : m < length groups = number_less groups key m k in
        let within : m < count = omega arith in
        ap (λ (xs : List (Option ℕ)). slice_get xs m) o ∙ same_at None m count within;
    entering = refl;
  }

-- ---- all headings of a function

pub or_none : (x e : Bool) → x ≡ x || (e && false)
or_none true e = refl
or_none false true = refl
or_none false false = refl

forward_by : (b e : Bool) (key own : Key) (names : List (List ℕ)) (fallback : List ℕ)
    → (if b then e else same_key key own)
    ≡ is_key names fallback key (if b then None else Some own) || (e && b)
forward_by true true key own names fallback = refl
forward_by true false key own names fallback = refl
forward_by false e key own names fallback = or_none (same_key key own) e

pub role_is : (names : List (List ℕ)) (fallback : List ℕ) (key : Key) (it : Heading) (role : Role)
    → is_of names fallback key it role
    ≡ is_key names fallback key (own_by names fallback it role)
    || (is_enters key && enters_by it role)
role_is names fallback key it IsNative = or_none false (is_enters key)
role_is names fallback key it IsForward =
    forward_by (is_entry it.head.name) (is_enters key) key
    (heading_key names fallback it) names fallback
role_is names fallback key it IsBody =
    or_none (same_key key (heading_key names fallback it)) (is_enters key)

least_first : (q : Bool) (rest : Option ℕ)
    → Some 0 ≡ least (Some 0) (if q then Some 0 else option_map suc rest)
least_first true rest = refl
least_first false None = refl
least_first false (Some n) = let e : 0 ≡ min 0 (suc n) = omega arith in ap Some e

least_second : (p : Option ℕ) → Some 0 ≡ least (option_map suc p) (Some 0)
least_second None = refl
least_second (Some n) = let e : 0 ≡ min (suc n) 0 = omega arith in ap Some e

least_both : (p q : Option ℕ) → option_map suc (least p q)
    ≡ least (option_map suc p) (option_map suc q)
least_both None q = refl
least_both (Some m) None = refl
least_both (Some m) (Some n) =
    let e : suc (min m n) ≡ min (suc m) (suc n) = omega arith in ap Some e

by_two : (p q : Bool) (x y rest : Option ℕ) → rest ≡ least x y
    → (if p || q then Some 0 else option_map suc rest)
    ≡ least (if p then Some 0 else option_map suc x) (if q then Some 0 else option_map suc y)
by_two true q x y rest h = least_first q y
by_two false true x y rest h = least_second x
by_two false false x y rest h = ap (option_map suc) h ∙ least_both x y

place_or : {A : Type 0} (p q : A → Bool) (xs : List A)
    → place (λ x. p x || q x) xs ≡ least (place p xs) (place q xs)
place_or p q [] = refl
place_or p q (x ∷ xs) =
    by_two (p x) (q x) (place p xs) (place q xs) (place (λ y. p y || q y) xs) (place_or p q xs)

pub or_false : (b : Bool) → b || false ≡ b
or_false true = refl
or_false false = refl

belongs_by : (b : Bool) (names : List (List ℕ)) (fallback : List ℕ) (key : Key)
    (headings : List Heading)
    → place (λ (it : Heading). is_own names fallback key it || (b && enters_all it)) headings
    ≡ (if b then least (place (is_own names fallback key) headings) (place enters_all headings)
    else place (is_own names fallback key) headings)
belongs_by true names fallback key headings =
    place_or (is_own names fallback key) enters_all headings
belongs_by false names fallback key headings =
    same_places (λ (it : Heading). is_own names fallback key it || false)
    (is_own names fallback key) headings (λ it. or_false (is_own names fallback key it))

-- the first of all headings of a function
pub first_is : (names : List (List ℕ)) (fallback : List ℕ) (key : Key) (headings : List Heading)
    → position (belongs names fallback key) headings
    ≡ first_by key (position (is_own names fallback key) headings) (position enters_all headings)
first_is names fallback key headings =
    place_is (belongs names fallback key) headings
    ∙ same_places (belongs names fallback key)
    (λ (it : Heading). is_own names fallback key it || (is_enters key && enters_all it))
    headings
    (λ it. role_is names fallback key it it.role)
    ∙ belongs_by (is_enters key) names fallback key headings
    ∙ ap₂ (λ (x y : Option ℕ). first_by key x y)
    (sym (place_is (is_own names fallback key) headings)) (sym (place_is enters_all headings))

-- ---- where the key is a function's

pub never_own : (names : List (List ℕ)) (fallback : List ℕ) (key : Key) (own : Option Key)
    → same_key key key ≡ false → is_key names fallback key own ≡ false
never_own names fallback key None h = refl
never_own names fallback (Named x) (Some own) h =
    absurd (false≢true (sym h ∙ (bytes_decides x x).1 refl))
never_own names fallback (Operates x) (Some own) h =
    absurd (false≢true (sym h ∙ itself_for x.op x.left x.right))
never_own names fallback (Enters x) (Some own) h =
    absurd (false≢true (sym h ∙ (bytes_decides x x).1 refl))
never_own names fallback Misshapen (Some own) h = refl

place_never : (p : Heading → Bool) (xs : List Heading) → ((x : Heading) → p x ≡ false)
    → None ≡ place p xs
place_never p [] h = refl
place_never p (x ∷ xs) h =
    ap (option_map suc) (place_never p xs h)
    ∙ ap (λ (b : Bool). if b then Some 0 else option_map suc (place p xs)) (sym (h x))

own_first_by : (names : List (List ℕ)) (fallback : List ℕ) (groups : List Group)
    (headings : List Heading) (own : List (Option ℕ)) (entry : Option ℕ) (key : Key)
    (number : Option ℕ)
    → AreFirsts names fallback groups headings own entry → HasNumber groups key
    → number_of groups key ≡ number
    → own_at own number ≡ position (is_own names fallback key) headings
own_first_by names fallback groups headings own entry key None h k n =
    place_never (is_own names fallback key) headings
    (λ it. never_own names fallback key (own_key names fallback it) (k.known n))
    ∙ sym (place_is (is_own names fallback key) headings)
own_first_by names fallback groups headings own entry key (Some m) h k n =
    ap (option_and_then (λ (first : Option ℕ). first)) (h.firsts key m n)

pub first_found : (names : List (List ℕ)) (fallback : List ℕ) (groups : List Group)
    (headings : List Heading) (own : List (Option ℕ)) (entry : Option ℕ) (key : Key)
    (number first found : Option ℕ) → AreFirsts names fallback groups headings own entry
    → HasNumber groups key → number ≡ number_of groups key
    → first ≡ own_at own number → found ≡ first_by key first entry
    → found ≡ position (belongs names fallback key) headings
first_found names fallback groups headings own entry key number first found h k n f e =
    e ∙ ap₂ (λ (x y : Option ℕ). first_by key x y)
    (f ∙ own_first_by names fallback groups headings own entry key number h k (sym n)) h.entering
    ∙ sym (first_is names fallback key headings)

-- each function's own key has a number
numbered_by : (b : Bool) (groups : List Group) (group : Group) (i : ℕ)
    → same_key group.key group.key ≡ b → slice_get groups i ≡ Some group
    → list_any (has_key group.key) groups ≡ false → b ≡ false
numbered_by false groups group i s h none = refl
numbered_by true [] group i s h none = absurd (let no : ⊥ = cc in no)
numbered_by true (x ∷ xs) group zero s h none =
    let same : x ≡ group = same_some x group h in
    absurd (false≢true (sym none ∙ ap
    (λ (g : Group). same_key g.key group.key || list_any (has_key group.key) xs) same
    ∙ ap (λ (b : Bool). b || list_any (has_key group.key) xs) s))
numbered_by true (x ∷ xs) group (suc i) s h none =
    numbered_by true xs group i s h
    (rest_none (same_key x.key group.key) (list_any (has_key group.key) xs) none)
  where
    rest_none : (a b : Bool) → a || b ≡ false → b ≡ false
    rest_none true b h = absurd (false≢true (sym h))
    rest_none false b h = h

pub has_number : (groups : List Group) (i : ℕ) (group : Group) → slice_get groups i ≡ Some group
    → HasNumber groups group.key
has_number groups i group h = record {
  known = λ none. numbered_by (same_key group.key group.key) groups group i refl h
      (none_passes (has_key group.key) groups (sym (place_is (has_key group.key) groups) ∙ none));
}
