-- Public functions are sorted as their definition puts each in its place.
use Rattle.std.proofs.Common.{◌≡◌, ◌⊎◌, inl, inr, ◌<◌, ℕ, Bool, true, false, List, [], ◌∷◌, cond}
use Rattle.std.proofs.Common.{map, refl, sym, ap, ◌∙◌, arith}
use Rattle.std.specs.Prelude.{not, ◌&&◌, ◌||◌, nat_lt, nat_eq}
use Rattle.std.specs.Ordering.{nat_cmp, is_lt, ordering_then}
use Rattle.std.specs.declared.cmp.Ordering.TheVariants.{Less, Equal, Greater}
use Rattle.std.specs.Cmp.{IsStrictWeakOrder, nat_cmp_is}
use Rattle.std.specs.Cmp.Lexicographic.{slice_cmp}
use Rattle.std.specs.List.Sorted.{IsSortedBy, IsStableBy}
use Rattle.std.proofs.lemmas.Bool.{lt-ltb, eq-eqb}
use Rattle.std.proofs.lemmas.Cmp.{nat_list_cmp_total}
use Rattle.std.proofs.lemmas.List.Sorted.{ranks_by}
use Rattle.pawn_meaning.specs.declared.program.Public as held
use Rattle.pawn_meaning.specs.View.{public_view}
use Rattle.types_rules.specs.Publics.{not_above, inserted, sorted}
use Rattle.pawn_base.proofs.StableSort.{placed, placed_all, sorts_as_placed}

-- ---- names

or_equal : (x y : ℕ) → (x < y) ⊎ ((x ≡ y) ⊎ (y < x))
or_equal x y = grind arith

at_names : (x y : ℕ) (xs ys : List ℕ) → not_above xs ys ≡ not (is_lt (slice_cmp nat_cmp ys xs))
    → ((x < y) ⊎ ((x ≡ y) ⊎ (y < x)))
    → (nat_lt x y || (nat_eq x y && not_above xs ys))
    ≡ not (is_lt (ordering_then (nat_cmp y x) (slice_cmp nat_cmp ys xs)))
at_names x y xs ys k (inl h) = rw (lt-ltb x y h, ← nat_cmp_is y x Greater h) refl
at_names x y xs ys k (inr (inl h)) =
    rw (not_lt x y h, eq-eqb x y h, ← nat_cmp_is y x Equal (sym h)) k
  where
    not_lt : (x y : ℕ) → x ≡ y → nat_lt x y ≡ false
    not_lt x y h = grind (arith, h)
at_names x y xs ys k (inr (inr h)) = rw (not_lt x y h, not_eq x y h, ← nat_cmp_is y x Less h) refl
  where
    not_lt : (x y : ℕ) → y < x → nat_lt x y ≡ false
    not_lt x y h = grind (arith, h)

    not_eq : (x y : ℕ) → y < x → nat_eq x y ≡ false
    not_eq x y h = grind (arith, h)

-- a name isn't above another that isn't less
above_is : (a b : List ℕ) → not_above a b ≡ not (is_lt (slice_cmp nat_cmp b a))
above_is [] [] = refl
above_is [] (y ∷ ys) = refl
above_is (x ∷ xs) [] = refl
above_is (x ∷ xs) (y ∷ ys) = at_names x y xs ys (above_is xs ys) (or_equal x y)

-- ---- public functions by their names

abbrev pub before : held.Public → held.Public → Bool
before a b = is_lt (slice_cmp nat_cmp a.name b.name)

pub in_order : IsStrictWeakOrder before
in_order = ranks_by nat_list_cmp_total (λ (it : held.Public). it.name)

placed_by : (it x : held.Public) (xs : List held.Public) (b c : Bool) → c ≡ b
    → map public_view (placed before in_order it xs)
    ≡ inserted (public_view it) (map public_view xs)
    → map public_view (cond b (x ∷ placed before in_order it xs) (it ∷ (x ∷ xs)))
    ≡ cond c (public_view x ∷ inserted (public_view it) (map public_view xs))
    (public_view it ∷ (public_view x ∷ map public_view xs))
placed_by it x xs true c e rest = rw e (ap (λ l. public_view x ∷ l) rest)
placed_by it x xs false c e rest = rw e refl

placed_is : (it : held.Public) (xs : List held.Public)
    → map public_view (placed before in_order it xs)
    ≡ inserted (public_view it) (map public_view xs)
placed_is it [] = refl
placed_is it (x ∷ xs) =
    placed_by it x xs (not (before it x)) (not_above x.name it.name) (above_is x.name it.name)
    (placed_is it xs)

all_are : (done xs : List held.Public) → map public_view (placed_all before in_order done xs)
    ≡ sorted (map public_view done) (map public_view xs)
unfolding sorted
all_are done [] = refl
all_are done (it ∷ more) =
    all_are (placed before in_order it done) more
    ∙ ap (λ l. sorted l (map public_view more)) (placed_is it done)

pub sorted_is : (xs ys : List held.Public) → IsSortedBy before ys → IsStableBy before xs ys
    → map public_view ys ≡ sorted [] (map public_view xs)
sorted_is xs ys rises stable =
    ap (map public_view) (sorts_as_placed before in_order xs ys rises stable) ∙ all_are [] xs
