-- The publics of a program that stands are in the order of their names' bytes: each is put in its
-- place.
use Rattle.std.proofs.Common.{◌≡◌, ◌⊎◌, inl, inr, ◌+◌, ◌<◌, ℕ, zero, suc, ℤ, List, [], ◌∷◌, Bool}
use Rattle.std.proofs.Common.{true, false, refl, sym, subst, arith}
use Rattle.std.specs.Prelude.{length, map, ◌&&◌, ◌||◌, nat_lt, nat_eq, IsSorted, slice_index_or}
use Rattle.std.specs.Prelude.{if◌then◌else◌}
use Rattle.std.specs.Ordering.{nat_cmp, is_lt, ordering_then}
use Rattle.std.specs.declared.cmp.Ordering.{Ordering}
use Rattle.std.specs.declared.cmp.Ordering.TheVariants.{Equal, Greater}
use Rattle.std.specs.Cmp.{nat_cmp_is}
use Rattle.std.specs.Cmp.Lexicographic.{slice_cmp}
use Rattle.std.proofs.lemmas.Bool.{ltb-true, lt-ltb, eqb-true, eq-eqb}
use Rattle.pawn_tree.specs.Declarations.{Tree}
use Rattle.pawn_meaning.specs.Program.{Public}
use Rattle.types_rules.proofs.VerdictLaws.{Holds, stands_itself, holds_after, holds_both, holds_all}
use Rattle.types_rules.specs.Publics.{not_above, inserted, sorted, publics_from, publics}
use Rattle.types_rules.specs.Sources.{Source, source_of}
use Rattle.types_rules.specs.TypedTrees.{Checked, unless, sum_faults}
use Rattle.types_rules.specs.TypedTrees.{whole_faults, source_faults, done}
use Rattle.types_rules.specs.TypedTrees.{checked_of, typed}
use Rattle.types_laws.specs.SortedPublics.{PublicsAreSorted}

-- ---- truth values

or_true : (p q : Bool) → (p || q) ≡ true → (p ≡ true) ⊎ (q ≡ true)
or_true true q e = inl refl
or_true false q e = inr e

and_true : (p q : Bool) → (p && q) ≡ true → (p ≡ true) × (q ≡ true)
and_true true q e = (refl, e)
and_true false q e = absurd (let no : ⊥ = cc in no)

and_yes : (p q : Bool) → p ≡ true → q ≡ true → (p && q) ≡ true
and_yes true q e f = f
and_yes false q e f = absurd (let no : ⊥ = cc in no)

or_left : (p q : Bool) → p ≡ true → (p || q) ≡ true
or_left true q e = refl
or_left false q e = absurd (let no : ⊥ = cc in no)

or_right : (p q : Bool) → q ≡ true → (p || q) ≡ true
or_right true q e = refl
or_right false q e = e

left_false : (p q : Bool) → (p || q) ≡ false → p ≡ true → ⊥
left_false true q e f = let no : ⊥ = cc in no
left_false false q e f = let no : ⊥ = cc in no

last_false : (p c r : Bool) → c ≡ true → (p || (c && r)) ≡ false → r ≡ false
last_false true c r f e = absurd (let no : ⊥ = cc in no)
last_false false true r f e = e
last_false false false r f e = absurd (let no : ⊥ = cc in no)

-- ---- names

or_equal : (x y : ℕ) → (x < y) ⊎ ((x ≡ y) ⊎ (y < x))
or_equal zero zero = inr (inl refl)
or_equal zero (suc y) = inl (omega arith)
or_equal (suc x) zero = inr (inr (omega arith))
or_equal (suc x) (suc y) = up (or_equal x y)
  where
    up : ((x < y) ⊎ ((x ≡ y) ⊎ (y < x))) → (suc x < suc y) ⊎ ((suc x ≡ suc y) ⊎ (suc y < suc x))
    up (inl h) = inl (omega (arith, h))
    up (inr (inl h)) = inr (inl (omega (arith, h)))
    up (inr (inr h)) = inr (inr (omega (arith, h)))

above_first : (x y : ℕ) (rest : Ordering) → x < y
    → is_lt (ordering_then (nat_cmp y x) rest) ≡ false
above_first x y rest h =
    subst (λ (o : Ordering). is_lt (ordering_then o rest) ≡ false) (nat_cmp_is y x Greater h) refl

same_first : (x y : ℕ) (rest : Ordering) → x ≡ y → is_lt rest ≡ false
    → is_lt (ordering_then (nat_cmp y x) rest) ≡ false
same_first x y rest h e =
    subst (λ (o : Ordering). is_lt (ordering_then o rest) ≡ false) (nat_cmp_is y x Equal (sym h)) e

-- a name that isn't above another is sorted before it
not_less_by : (x y : ℕ) (xs ys : List ℕ)
    → (not_above xs ys ≡ true → is_lt (slice_cmp nat_cmp ys xs) ≡ false)
    → ((nat_lt x y ≡ true) ⊎ ((nat_eq x y && not_above xs ys) ≡ true))
    → is_lt (slice_cmp nat_cmp (y ∷ ys) (x ∷ xs)) ≡ false
not_less_by x y xs ys k (inl h) = above_first x y (slice_cmp nat_cmp ys xs) (ltb-true x y h)
not_less_by x y xs ys k (inr h) =
    let parts = and_true (nat_eq x y) (not_above xs ys) h in
    same_first x y (slice_cmp nat_cmp ys xs) (eqb-true x y parts.0) (k parts.1)

not_less : (a b : List ℕ) → not_above a b ≡ true → is_lt (slice_cmp nat_cmp b a) ≡ false
not_less [] [] e = refl
not_less [] (y ∷ ys) e = refl
not_less (x ∷ xs) [] e = absurd (let no : ⊥ = cc in no)
not_less (x ∷ xs) (y ∷ ys) e =
    not_less_by x y xs ys (λ f. not_less xs ys f)
    (or_true (nat_lt x y) (nat_eq x y && not_above xs ys) e)

-- of two names one isn't above the other
total_by : (x y : ℕ) (xs ys : List ℕ) → not_above (x ∷ xs) (y ∷ ys) ≡ false
    → (not_above xs ys ≡ false → not_above ys xs ≡ true)
    → ((x < y) ⊎ ((x ≡ y) ⊎ (y < x))) → not_above (y ∷ ys) (x ∷ xs) ≡ true
total_by x y xs ys e k (inl h) =
    absurd (left_false (nat_lt x y) (nat_eq x y && not_above xs ys) e (lt-ltb x y h))
total_by x y xs ys e k (inr (inl h)) =
    or_right (nat_lt y x) (nat_eq y x && not_above ys xs)
    (and_yes (nat_eq y x) (not_above ys xs) (eq-eqb y x (sym h))
    (k (last_false (nat_lt x y) (nat_eq x y) (not_above xs ys) (eq-eqb x y h) e)))
total_by x y xs ys e k (inr (inr h)) =
    or_left (nat_lt y x) (nat_eq y x && not_above ys xs) (lt-ltb y x h)

total : (a b : List ℕ) → not_above a b ≡ false → not_above b a ≡ true
total [] b e = absurd (let no : ⊥ = cc in no)
total (x ∷ xs) [] e = refl
total (x ∷ xs) (y ∷ ys) e =
    total_by x y xs ys e (λ f. total xs ys f) (or_equal x y)

-- ---- lists

-- each name isn't above the one behind it, and the first not below a given one
abbrev IsAscendingFrom : List ℕ → List Public → Type 0
IsAscendingFrom least [] = Unit {0}
IsAscendingFrom least (it ∷ more) =
    (not_above least it.name ≡ true) × IsAscendingFrom it.name more

inserted_by : (least : List ℕ) (it other : Public) (more : List Public) (b : Bool)
    → not_above other.name it.name ≡ b → not_above least it.name ≡ true
    → IsAscendingFrom least (other ∷ more)
    → (not_above other.name it.name ≡ true → IsAscendingFrom other.name (inserted it more))
    → IsAscendingFrom least (if b then other ∷ inserted it more else it ∷ (other ∷ more))
inserted_by least it other more true e h a k = (a.0, k e)
inserted_by least it other more false e h a k = (h, (total other.name it.name e, a.1))

inserted_ascends : (least : List ℕ) (it : Public) (all : List Public)
    → not_above least it.name ≡ true → IsAscendingFrom least all
    → IsAscendingFrom least (inserted it all)
inserted_ascends least it [] h a = (h, tt)
inserted_ascends least it (other ∷ more) h a =
    inserted_by least it other more (not_above other.name it.name) refl h a
    (λ e. inserted_ascends other.name it more e a.1)

sorted_ascends : (first all : List Public) → IsAscendingFrom [] first
    → IsAscendingFrom [] (sorted first all)
unfolding sorted
sorted_ascends first [] a = a
sorted_ascends first (it ∷ more) a =
    sorted_ascends (inserted it first) more (inserted_ascends [] it first refl a)

abbrev names : List Public → List (List ℕ)
names all = map (λ (item : Public). item.name) all

ascends_at : (least : List ℕ) (all : List Public) → IsAscendingFrom least all
    → (k : ℕ) (d : List ℕ) → k + 1 < length (names all)
    → is_lt (slice_cmp nat_cmp (slice_index_or (names all) (suc k) d)
    (slice_index_or (names all) k d)) ≡ false
ascends_at least [] a k d h = absurd (omega (arith, h))
ascends_at least (x ∷ []) a k d h = absurd (omega (arith, h))
ascends_at least (x ∷ y ∷ more) a zero d h =
    let rest : IsAscendingFrom x.name (y ∷ more) = a.1 in not_less x.name y.name rest.0
ascends_at least (x ∷ y ∷ more) a (suc k) d h =
    ascends_at x.name (y ∷ more) a.1 k d (omega (arith, h))

next_is : (k : ℕ) → suc k ≡ k + 1
next_is k = omega arith

ascending_is_sorted : (all : List Public) → IsAscendingFrom [] all
    → IsSorted (slice_cmp nat_cmp) (names all)
ascending_is_sorted all a k d low high =
    subst (λ (n : ℕ). is_lt (slice_cmp nat_cmp (slice_index_or (names all) n d)
    (slice_index_or (names all) k d)) ≡ false) (next_is k) (ascends_at [] all a k d high)

-- ---- the program

record HasSorted (checked : Checked) : Type 0 where
  pub sorted : IsSorted (slice_cmp nat_cmp) (names checked.program.publics)

publics_sorted : (source : Source) → IsSorted (slice_cmp nat_cmp) (names (publics source))
publics_sorted source =
    ascending_is_sorted (publics source)
    (sorted_ascends [] (publics_from source 0 source.groups) tt)

typed_sorted : (tree : Tree) (dynamic : ℤ) → Holds HasSorted (typed tree dynamic)
typed_sorted tree dynamic =
    holds_both (holds_all (unless (whole_faults tree dynamic))) (holds_all (done tree dynamic))
    (λ ok it t u.
    holds_after (holds_all (unless (source_faults tree dynamic it.bodies))) (λ ok2 v.
    holds_after (holds_all (unless (sum_faults (checked_of tree dynamic it).program))) (λ ok3 w.
    stands_itself HasSorted (checked_of tree dynamic it)
    (record { sorted = publics_sorted (source_of tree) }))))

pub sorted_law : PublicsAreSorted
sorted_law tree dynamic program warnings h =
    ((typed_sorted tree dynamic).of (record { program = program; warnings = warnings }) h).sorted
