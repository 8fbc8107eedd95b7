-- Two ranges in order have a value in common only where neighbours do.
use Rattle.std.proofs.Common.{◌≡◌, ◌<◌, ℕ, suc, ◌+◌, ℤ, Bool, true, false, cond, ◌&&◌, ◌||◌, nat_lt}
use Rattle.std.proofs.Common.{int_le, int_lt, List, [], ◌∷◌, ◌-◌, ◌≤◌, length, drop, get_or}
use Rattle.std.proofs.Common.{drop-cons, length-drop, refl, sym, ap, ap₂, ◌∙◌, subst, arith}
use Rattle.std.proofs.Common.{slice_index_or, IsPermutation}
use Rattle.std.proofs.lemmas.Bool.{false≢true}
use Rattle.std.proofs.lemmas.Bool.Decides.{nat_tests}
use Rattle.std.proofs.lemmas.Int.{ints}
use Rattle.std.specs.List.{list_any, sum_by, count_by}
use Rattle.std.proofs.lemmas.List.Sums.{sum_by-cons}
use Rattle.std.proofs.lemmas.List.Sorted.{sum_by-IsPermutation, length_permutation}
use Rattle.std.proofs.lemmas.List.Sorted.{list_any-IsPermutation}
use Rattle.pawn_tree.specs.declared.name.At.{At}
use Rattle.types_rules.specs.declared.fault.TheConstants.{CASE_TWICE}
use Rattle.types_rules.specs.Rule.{broken}
use Rattle.names_rules.specs.Verdict.{Stands}
use Rattle.types_rules.specs.Switches.{meet, has_twice, is_empty, apart}
use Rattle.check_switches.specs.Neighbours.{comes_before, neighbours_meet}

abbrev Range : Type 0
Range = ℤ × ℤ

and_turn : (a b : Bool) → (a && b) ≡ (b && a)
and_turn true true = refl
and_turn true false = refl
and_turn false true = refl
and_turn false false = refl

and_no : (a : Bool) → (a && false) ≡ false
and_no true = refl
and_no false = refl

neither : (a b : Bool) → (a || b) ≡ false → (a ≡ false) × (b ≡ false)
neither true b h = absurd (false≢true (sym h))
neither false b h = (refl, h)

meet_turn : (x y : Range) → meet y x ≡ meet x y
meet_turn x y = and_turn (int_le y.0 x.1) (int_le x.0 y.1)

above : (a b : ℤ) → int_lt b a ≡ false → int_le a b ≡ true
above a b h = grind (arith, ints)

meets_itself : (x : Range) → is_empty x ≡ false → meet x x ≡ true
meets_itself x h = rw (above x.0 x.1 h) refl

-- ---- how many pairs have a value in common

abbrev bit : Bool → ℕ
bit b = cond b 1 0

abbrev touching : Range → List Range → ℕ
touching x ys = sum_by (λ y. bit (meet x y)) ys

abbrev pairs : List Range → ℕ
pairs [] = 0
pairs (x ∷ xs) = touching x xs + pairs xs

abbrev total : List Range → ℕ
total xs = sum_by (λ x. touching x xs) xs

sum_same : (f g : Range → ℕ) → ((x : Range) → f x ≡ g x) → (xs : List Range)
    → sum_by f xs ≡ sum_by g xs
sum_same f g h [] = refl
sum_same f g h (x ∷ xs) =
    sum_by-cons f x xs ∙ ap₂ (λ m n. m + n) (h x) (sum_same f g h xs) ∙ sym (sum_by-cons g x xs)

sum_two : (f g : Range → ℕ) (xs : List Range)
    → sum_by (λ x. f x + g x) xs ≡ sum_by f xs + sum_by g xs
sum_two f g [] = refl
sum_two f g (x ∷ xs) =
    omega (
      arith,
      sum_by-cons (λ y. f y + g y) x xs,
      sum_by-cons f x xs,
      sum_by-cons g x xs,
      sum_two f g xs,
    )

total_is : (xs : List Range) → list_any is_empty xs ≡ false
    → total xs ≡ length xs + (pairs xs + pairs xs)
total_is [] h = refl
total_is (x ∷ xs) h =
    let both_no = neither (is_empty x) (list_any is_empty xs) h in
    let itself : bit (meet x x) ≡ 1 = ap bit (meets_itself x both_no.0) in
    let on_x : touching x (x ∷ xs) ≡ bit (meet x x) + touching x xs =
    sum_by-cons (λ y. bit (meet x y)) x xs in
    let each_one : sum_by (λ y. touching y (x ∷ xs)) xs
    ≡ sum_by (λ y. bit (meet y x) + touching y xs) xs =
    sum_same (λ y. touching y (x ∷ xs)) (λ y. bit (meet y x) + touching y xs)
    (λ y. sum_by-cons (λ z. bit (meet y z)) x xs) xs in
    let split : sum_by (λ y. bit (meet y x) + touching y xs) xs
    ≡ sum_by (λ y. bit (meet y x)) xs + total xs =
    sum_two (λ y. bit (meet y x)) (λ y. touching y xs) xs in
    let turned : sum_by (λ y. bit (meet y x)) xs ≡ touching x xs =
    sum_same (λ y. bit (meet y x)) (λ y. bit (meet x y)) (λ y. ap bit (meet_turn x y)) xs in
    let whole : total (x ∷ xs) ≡ touching x (x ∷ xs) + sum_by (λ y. touching y (x ∷ xs)) xs =
    sum_by-cons (λ y. touching y (x ∷ xs)) x xs in
    let more : total xs ≡ length xs + (pairs xs + pairs xs) = total_is xs both_no.1 in
    omega (arith, itself, on_x, each_one, split, turned, whole, more)

by_bit : (b any : Bool) (n : ℕ) → any ≡ nat_lt 0 n → (b || any) ≡ nat_lt 0 (bit b + n)
by_bit true any n h = grind (arith, nat_tests)
by_bit false any n h =
    let same : n ≡ 0 + n = omega arith in
    h ∙ ap (nat_lt 0) same

any_by : (p : Range → Bool) (xs : List Range)
    → list_any p xs ≡ nat_lt 0 (sum_by (λ y. bit (p y)) xs)
any_by p [] = refl
any_by p (x ∷ xs) =
    by_bit (p x) (list_any p xs) (sum_by (λ y. bit (p y)) xs) (any_by p xs)
    ∙ ap (nat_lt 0) (sym (sum_by-cons (λ y. bit (p y)) x xs))

some_of : (m n : ℕ) → (nat_lt 0 m || nat_lt 0 n) ≡ nat_lt 0 (m + n)
some_of m n = grind (arith, nat_tests)

has_by : (xs : List Range) → has_twice xs ≡ nat_lt 0 (pairs xs)
has_by [] = refl
has_by (x ∷ xs) =
    ap₂ (λ a b. a || b) (any_by (meet x) xs) (has_by xs) ∙ some_of (touching x xs) (pairs xs)

total_same : (xs ys : List Range) → IsPermutation xs ys → total ys ≡ total xs
total_same xs ys h =
    sum_same (λ x. touching x ys) (λ x. touching x xs)
    (λ x. sum_by-IsPermutation (λ y. bit (meet x y)) xs ys h) ys
    ∙ sum_by-IsPermutation (λ x. touching x xs) xs ys h

none_empty : (xs ys : List Range) → IsPermutation xs ys → list_any is_empty xs ≡ false
    → list_any is_empty ys ≡ false
none_empty xs ys h e = sym (list_any-IsPermutation is_empty xs ys h) ∙ e

twice_same : (xs ys : List Range) → IsPermutation xs ys → list_any is_empty xs ≡ false
    → has_twice ys ≡ has_twice xs
twice_same xs ys h e =
    let same : pairs ys ≡ pairs xs =
    omega (
      arith,
      total_is xs e,
      total_is ys (none_empty xs ys h e),
      total_same xs ys h,
      length_permutation xs ys h,
    ) in
    has_by ys ∙ ap (nat_lt 0) same ∙ sym (has_by xs)

-- ---- in order

abbrev Rising : List Range → Type 0
Rising [] = Unit {0}
Rising (x ∷ []) = Unit {0}
Rising (x ∷ y ∷ more) = (int_le x.0 y.0 ≡ true) × Rising (y ∷ more)

first_rises : (x y : Range) → comes_before y x ≡ false → int_le x.0 y.0 ≡ true
first_rises x y h = by_less (int_lt y.0 x.0) refl
  where
    by_less : (b : Bool) → int_lt y.0 x.0 ≡ b → int_le x.0 y.0 ≡ true
    by_less false e = above x.0 y.0 e
    by_less true e = absurd (false≢true (sym h ∙ (rw e refl)))

rising : (ys : List Range) → ((k : ℕ) (d : Range) → k + 1 < length ys
    → comes_before (slice_index_or ys (k + 1) d) (slice_index_or ys k d) ≡ false) → Rising ys
rising [] h = tt
rising (x ∷ []) h = tt
rising (x ∷ y ∷ more) h = (
  first_rises x y (h 0 x (omega arith)),
  rising (y ∷ more) (λ k d l.
      let e : suc k + 1 ≡ suc (k + 1) = omega arith in
      subst (λ n. comes_before (slice_index_or (x ∷ y ∷ more) n d) (slice_index_or (y ∷ more) k d)
      ≡ false) e (h (suc k) d (omega (arith, l)))),
)

farther : (a b c : ℤ) → int_lt a b ≡ true → int_le b c ≡ true → int_lt a c ≡ true
farther a b c h k = grind (arith, ints)

over : (a c : ℤ) → int_lt a c ≡ true → int_le c a ≡ false
over a c h = grind (arith, ints)

below_all : (x y : Range) (more : List Range) → int_lt x.1 y.0 ≡ true → Rising (y ∷ more)
    → list_any (meet x) more ≡ false
below_all x y [] h r = refl
below_all x y (z ∷ more) h r =
    let l : int_lt x.1 z.0 ≡ true = farther x.1 y.0 z.0 h r.0 in
    let no : meet x z ≡ false = rw (over x.1 z.0 l) (and_no (int_le x.0 z.1)) in
    rw (no, below_all x z more l r.1) refl

apart_by : (a b c d : ℤ) → int_le a c ≡ true → int_lt d c ≡ false
    → (int_le a d && int_le c b) ≡ false → int_lt b c ≡ true
apart_by a b c d h k m = grind (arith, ints)

by_meet : (x y : Range) (more : List Range) (b : Bool) → meet x y ≡ b → Rising (x ∷ y ∷ more)
    → is_empty y ≡ false
    → neighbours_meet (y ∷ more) ≡ has_twice (y ∷ more)
    → (b || neighbours_meet (y ∷ more)) ≡ ((b || list_any (meet x) more) || has_twice (y ∷ more))
by_meet x y more true m r n h = refl
by_meet x y more false m r n h =
    let l : int_lt x.1 y.0 ≡ true = apart_by x.0 x.1 y.0 y.1 r.0 n m in
    rw (below_all x y more l r.1) h

pub neighbours_are : (ys : List Range) → Rising ys → list_any is_empty ys ≡ false
    → neighbours_meet ys ≡ has_twice ys
neighbours_are [] r e = refl
neighbours_are (x ∷ []) r e = refl
neighbours_are (x ∷ y ∷ more) r e =
    let x_no = neither (is_empty x) (list_any is_empty (y ∷ more)) e in
    let y_no = neither (is_empty y) (list_any is_empty more) x_no.1 in
    by_meet x y more (meet x y) refl r y_no.0 (neighbours_are (y ∷ more) r.1 x_no.1)

-- what neighbours in order tell of the ranges
pub twice_by : (xs ys : List Range) → list_any is_empty xs ≡ false → IsPermutation xs ys
    → ((k : ℕ) (d : Range) → k + 1 < length ys
    → comes_before (slice_index_or ys (k + 1) d) (slice_index_or ys k d) ≡ false)
    → neighbours_meet ys ≡ has_twice xs
twice_by xs ys e h s = neighbours_are ys (rising ys s) (none_empty xs ys h e) ∙ twice_same xs ys h e

-- ---- neighbours one by one

touch_at : (xs : List Range) (j : ℕ) (d : Range) → j + 1 < length xs
    → neighbours_meet (drop j xs) ≡
    (meet (get_or xs j d) (get_or xs (j + 1) d) || neighbours_meet (drop (j + 1) xs))
touch_at xs j d l =
    let next : suc j ≡ j + 1 = omega arith in
    let after : suc (suc j) ≡ suc (j + 1) = ap suc next in
    let here : drop j xs ≡ get_or xs j d ∷ drop (j + 1) xs =
    drop-cons xs j d (omega (arith, l)) ∙ ap (λ n. get_or xs j d ∷ drop n xs) next in
    let there : drop (j + 1) xs ≡ get_or xs (j + 1) d ∷ drop (suc (j + 1)) xs =
    drop-cons xs (j + 1) d l in
    ap neighbours_meet (here ∙ ap (λ ys. get_or xs j d ∷ ys) there)
    ∙ ap (λ ys. meet (get_or xs j d) (get_or xs (j + 1) d) || neighbours_meet ys) (sym there)

pub touch_more : (xs : List Range) (i : ℕ) (d : Range) → 1 ≤ i → i < length xs
    → meet (get_or xs (i - 1) d) (get_or xs i d) ≡ false
    → neighbours_meet (drop (i - 1) xs) ≡ neighbours_meet (drop (i + 1 - 1) xs)
touch_more xs i d f l m =
    let back : i - 1 + 1 ≡ i = omega (arith, f) in
    let same : i + 1 - 1 ≡ i = omega arith in
    touch_at xs (i - 1) d (omega (arith, f, l))
    ∙ rw (back, m) (ap (λ n. neighbours_meet (drop n xs)) (sym same))

pub touch_found : (xs : List Range) (i : ℕ) (d : Range) → 1 ≤ i → i < length xs
    → meet (get_or xs (i - 1) d) (get_or xs i d) ≡ true
    → neighbours_meet (drop (i - 1) xs) ≡ true
touch_found xs i d f l m =
    let back : i - 1 + 1 ≡ i = omega (arith, f) in
    touch_at xs (i - 1) d (omega (arith, f, l)) ∙ rw (back, m) refl

few : (ys : List Range) → length ys ≤ 1 → neighbours_meet ys ≡ false
few [] l = refl
few (x ∷ []) l = refl
few (x ∷ y ∷ more) l = absurd (omega (arith, l))

pub touch_none : (xs : List Range) (i : ℕ) → length xs ≤ i
    → neighbours_meet (drop (i - 1) xs) ≡ false
touch_none xs i l = few (drop (i - 1) xs) (omega (arith, l, length-drop (i - 1) xs))

-- ---- what is answered

pub empty_fails : (at : At) (ranges : List Range) → list_any is_empty ranges ≡ true
    → apart at ranges ≡ broken CASE_TWICE at
empty_fails at ranges h = rw h refl

pub twice_fails : (at : At) (ranges : List Range) → list_any is_empty ranges ≡ false
    → has_twice ranges ≡ true → apart at ranges ≡ broken CASE_TWICE at
twice_fails at ranges h k = rw (h, k) refl

pub apart_stands : (at : At) (ranges : List Range) → list_any is_empty ranges ≡ false
    → has_twice ranges ≡ false → apart at ranges ≡ Stands ranges
apart_stands at ranges h k = rw (h, k) refl

pub ruleset aparts = (empty_fails, twice_fails, apart_stands)
