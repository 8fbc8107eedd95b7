-- What headings say of each function, heading by heading.
use Rattle.std.proofs.Common.{◌≡◌, ◌≢◌, ◌<◌, ◌≤◌, ℕ, zero, suc, Bool, true, false, ◌||◌, ◌&&◌}
use Rattle.std.proofs.Common.{List, [], ◌∷◌, ◌++◌, length, set, replicate, Option}
use Rattle.std.proofs.Common.{Some, None, refl, sym, ap, ap₂, ◌∙◌, arith}
use Rattle.std.specs.Prelude.{slice_get, unwrap_or}
use Rattle.std.specs.List.{list_any}
use Rattle.std.proofs.lemmas.Bool.{false≢true}
use Rattle.std.proofs.lemmas.List.{length-replicate}
use Rattle.types_rules.specs.Keys.{Key, same_key}
use Rattle.types_rules.specs.Groups.{Group, number_of}
use Rattle.types_rules.specs.Headings.{Heading}
use Rattle.types_rules.specs.Headings.{is_enters, belongs}
use Rattle.check_source.proofs.PlaceLaws.{length_updated}
use Rattle.check_source.proofs.TableLaws.{equal_keys}
use Rattle.check_functions.specs.Own.{enters_all, is_key, number_in, HasNumber}
use Rattle.check_functions.proofs.OwnLaws.{got_updated, other_updated, updated_past, same_number}
use Rattle.check_functions.proofs.OwnLaws.{differs, same_at, number_less, or_none, role_is}
use Rattle.check_functions.proofs.OwnLaws.{never_own, or_false}
use Rattle.check_declarations.specs.Marked.{marked, flag_at, says_all, key_if, public_key}
use Rattle.check_declarations.specs.Marked.{says_own, AreMarked}

-- ---- whether some element passes

or_assoc : (a b c : Bool) → (a || b) || c ≡ a || (b || c)
or_assoc true b c = refl
or_assoc false b c = refl

any_push : {A : Type 0} (p : A → Bool) (xs : List A) (x : A)
    → list_any p (xs ++ x ∷ []) ≡ list_any p xs || p x
any_push p [] x = or_false (p x)
any_push p (y ∷ ys) x =
    ap (λ (b : Bool). p y || b) (any_push p ys x) ∙ sym (or_assoc (p y) (list_any p ys) (p x))

any_same : {A : Type 0} (p q : A → Bool) (xs : List A) → ((x : A) → p x ≡ q x)
    → list_any p xs ≡ list_any q xs
any_same p q [] h = refl
any_same p q (x ∷ xs) h = ap₂ (λ (a b : Bool). a || b) (h x) (any_same p q xs h)

any_never : {A : Type 0} (p : A → Bool) (xs : List A) → ((x : A) → p x ≡ false)
    → list_any p xs ≡ false
any_never p [] h = refl
any_never p (x ∷ xs) h = ap₂ (λ (a b : Bool). a || b) (h x) (any_never p xs h)

apart : (p q a b e : Bool) → (p || (e && q)) || (a || (e && b)) ≡ (p || a) || (e && (q || b))
apart true q a b e = refl
apart false q true b false = refl
apart false q false b false = refl
apart false true true b true = refl
apart false true false b true = refl
apart false false a b true = refl

any_apart : {A : Type 0} (p q : A → Bool) (e : Bool) (xs : List A)
    → list_any (λ x. p x || (e && q x)) xs ≡ list_any p xs || (e && list_any q xs)
any_apart p q true [] = refl
any_apart p q false [] = refl
any_apart p q e (x ∷ xs) =
    ap (λ (rest : Bool). (p x || (e && q x)) || rest) (any_apart p q e xs)
    ∙ apart (p x) (q x) (list_any p xs) (list_any q xs) e

-- ---- marks

pub set_marks : (xs : List Bool) (i : ℕ) → set xs i true ≡ marked (Some i) xs
set_marks [] i = refl
set_marks (x ∷ xs) zero = refl
set_marks (x ∷ xs) (suc i) = ap (λ (r : List Bool). x ∷ r) (set_marks xs i)

pub marked_past : (xs : List Bool) (i : ℕ) → length xs ≤ i → xs ≡ marked (Some i) xs
marked_past xs i h = updated_past xs i (λ (flag : Bool). true) h

marked_long : (number : Option ℕ) (flags : List Bool) → length (marked number flags) ≡ length flags
marked_long None flags = refl
marked_long (Some n) flags = length_updated flags n (λ (flag : Bool). true)

-- ---- one more heading

module _ (names : List (List ℕ)) (fallback : List ℕ) (groups : List Group) (before : List Heading)
    (it : Heading) where
  abbrev AreOwn : List Heading → List Bool → Type 0
  AreOwn headings flags = (key : Key) (n : ℕ) → number_of groups key ≡ Some n
      → slice_get flags n ≡ Some (list_any (says_own names fallback key) headings)

  says_push : (key : Key) (own : Option Key) → public_key names fallback it ≡ own
      → list_any (says_own names fallback key) (before ++ it ∷ [])
      ≡ list_any (says_own names fallback key) before || is_key names fallback key own
  says_push key own e =
      any_push (says_own names fallback key) before it
      ∙ ap (λ (k : Option Key). list_any (says_own names fallback key) before
      || is_key names fallback key k) e

  kept : (key : Key) (own : Option Key) → public_key names fallback it ≡ own
      → is_key names fallback key own ≡ false
      → list_any (says_own names fallback key) (before ++ it ∷ [])
      ≡ list_any (says_own names fallback key) before
  kept key own e other =
      says_push key own e
      ∙ ap (λ (b : Bool). list_any (says_own names fallback key) before || b) other
      ∙ or_false (list_any (says_own names fallback key) before)

  by_key : (flags : List Bool) (other key : Key) (m n : ℕ) (b : Bool) → AreOwn before flags
      → public_key names fallback it ≡ Some other
      → number_of groups other ≡ Some m → number_of groups key ≡ Some n → same_key key other ≡ b
      → slice_get (marked (Some m) flags) n
      ≡ Some (list_any (says_own names fallback key) (before ++ it ∷ []))
  by_key flags other key m n true h e o k s =
      let equal : key ≡ other = equal_keys key other s in
      let same : Some n ≡ Some m = sym k ∙ ap (number_of groups) equal ∙ o in
      let one : n ≡ m = cc in
      ap (slice_get (marked (Some m) flags)) one
      ∙ got_updated flags m (list_any (says_own names fallback key) before)
      (λ (flag : Bool). true) (h key m (k ∙ same))
      ∙ ap Some (sym (says_push key (Some other) e
      ∙ ap (λ (b : Bool). list_any (says_own names fallback key) before || b) s
      ∙ or_true (list_any (says_own names fallback key) before)))
    where
      or_true : (b : Bool) → b || true ≡ true
      or_true true = refl
      or_true false = refl
  by_key flags other key m n false h e o k s =
      let apart : n ≢ m =
      λ same. false≢true (sym s ∙ same_number groups key other n k (o ∙ ap Some (sym same)))
      in
      other_updated flags m n (λ (flag : Bool). true) apart
      ∙ h key n k ∙ ap Some (sym (kept key (Some other) e s))

  own_step : (flags : List Bool) (key : Option Key) (number : Option ℕ) → AreOwn before flags
      → public_key names fallback it ≡ key → number_in groups key ≡ number
      → AreOwn (before ++ it ∷ []) (marked number flags)
  own_step flags None None h e o = λ key n k. h key n k ∙ ap Some (sym (kept key None e refl))
  own_step flags None (Some m) h e o = absurd (let no : ⊥ = cc in no)
  own_step flags (Some other) None h e o = λ key n k.
      h key n k ∙ ap Some (sym (kept key (Some other) e
      (differs groups key other n (same_key key other) refl k o)))
  own_step flags (Some other) (Some m) h e o =
      λ key n k. by_key flags other key m n (same_key key other) h e o k refl

  pub marks_more : (flags now : List Bool) (entry next : Bool) (number : Option ℕ)
      → AreMarked names fallback groups before flags entry
      → number ≡ number_in groups (public_key names fallback it) → now ≡ marked number flags
      → next ≡ entry || says_all it → AreMarked names fallback groups (before ++ it ∷ []) now next
  marks_more flags now entry next number h n m e = record {
    long = ap length m ∙ marked_long number flags ∙ h.long;
    marks = λ key i k.
        ap (λ (xs : List Bool). slice_get xs i) m
        ∙ own_step flags (public_key names fallback it) number h.marks refl (sym n) key i k;
    entering =
        e ∙ ap (λ (b : Bool). b || says_all it) h.entering ∙ sym (any_push says_all before it);
  }

-- ---- no heading

pub marks_begin : (names : List (List ℕ)) (fallback : List ℕ) (groups : List Group)
    (flags : List Bool) (count : ℕ)
    → flags ≡ replicate count false → count ≡ length groups
    → AreMarked names fallback groups [] flags false
marks_begin names fallback groups flags count o n = record {
  long = ap length o ∙ length-replicate count false ∙ n;
  marks = λ key m k.
      let less : m < length groups = number_less groups key m k in
      let within : m < count = omega arith in
      ap (λ (xs : List Bool). slice_get xs m) o ∙ same_at false m count within;
  entering = refl;
}

-- ---- all that a heading says of a function

says_by : (names : List (List ℕ)) (fallback : List ℕ) (key : Key) (it : Heading) (b : Bool)
    → (b && belongs names fallback key it)
    ≡ is_key names fallback key (key_if names fallback b it)
    || (is_enters key && (b && enters_all it))
says_by names fallback key it true = role_is names fallback key it it.role
says_by names fallback key it false = or_none false (is_enters key)

flag_is : (names : List (List ℕ)) (fallback : List ℕ) (groups : List Group)
    (headings : List Heading) (flags : List Bool) (entry : Bool) (key : Key) (number : Option ℕ)
    → AreMarked names fallback groups headings flags entry → HasNumber groups key
    → number_of groups key ≡ number
    → flag_at flags number ≡ list_any (says_own names fallback key) headings
flag_is names fallback groups headings flags entry key None h k n =
    sym (any_never (says_own names fallback key) headings
    (λ it. never_own names fallback key (public_key names fallback it) (k.known n)))
flag_is names fallback groups headings flags entry key (Some m) h k n =
    ap (λ (flag : Option Bool). unwrap_or flag false) (h.marks key m n)

-- what is kept says which functions are public by a heading
pub says_is : (names : List (List ℕ)) (fallback : List ℕ) (groups : List Group)
    (headings : List Heading) (flags : List Bool) (entry : Bool) (key : Key)
    → AreMarked names fallback groups headings flags entry → HasNumber groups key
    → flag_at flags (number_in groups (Some key)) || (is_enters key && entry)
    ≡ list_any (λ (it : Heading). it.is_public && belongs names fallback key it) headings
says_is names fallback groups headings flags entry key h k =
    ap₂ (λ (a b : Bool). a || b)
    (flag_is names fallback groups headings flags entry key (number_of groups key) h k refl)
    (ap (λ (b : Bool). is_enters key && b) h.entering)
    ∙ sym (any_apart (says_own names fallback key) says_all (is_enters key) headings)
    ∙ sym (any_same (λ (it : Heading). it.is_public && belongs names fallback key it)
    (λ (it : Heading). says_own names fallback key it || (is_enters key && says_all it)) headings
    (λ it. says_by names fallback key it it.is_public))
