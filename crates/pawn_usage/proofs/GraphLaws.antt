-- Lists that are made item by item.
use Rattle.std.proofs.Common.{◌≡◌, ◌⊎◌, inl, inr, ◌+◌, ◌-◌, ◌^◌, ◌<◌, ◌≤◌, ℕ, zero, suc, List, [], ◌∷◌}
use Rattle.std.proofs.Common.{◌++◌, Some, Bool, true, false, refl, sym, ap, subst, ◌∙◌, arith}
use Rattle.std.proofs.Common.{length, map, take, slice_get, get_or, nat_le, append_assoc}
use Rattle.std.proofs.Common.{append-nil}
use Rattle.std.proofs.lemmas.Bool.{leb-true, leb-false}
use Rattle.std.proofs.lemmas.List.{map_more, take_more, take_all}
use Rattle.std.proofs.lemmas.Option.{get_or_from_slice_get, slice_get_within}
use Rattle.pawn_meaning.specs.Program.{Function, Program}
use Rattle.pawn_meaning.specs.Capped.{capped}
use Rattle.pawn_meaning.specs.Need.{need}
use Rattle.pawn_usage.specs.declared.search.Mark.{Mark}
use Rattle.pawn_usage.specs.Marks.{IsFirst}

-- ---- so many items, behind others

pub record IsMapped {A B : Type 0} (f : A → B) (before : List B) (xs : List A) (i : ℕ)
    (done : List B) : Type 0 where
  pub same : done ≡ before ++ map f (take i xs)

pub mapped_begins : {A B : Type 0} {f : A → B} {xs : List A} {before : List B} (done : List B)
    → done ≡ before → IsMapped f before xs 0 done
mapped_begins {before = before} done e = record { same = e ∙ sym (append-nil before) }

pub mapped_more : {A B : Type 0} {f : A → B} {before : List B} {xs : List A} {i : ℕ} {done : List B}
    (x : A) (y : B) → IsMapped f before xs i done → i < length xs → x ≡ get_or xs i x → y ≡ f x
    → IsMapped f before xs (i + 1) (done ++ y ∷ [])
mapped_more {f = f} {before = before} {xs = xs} {i = i} x y m lt e is = record {
  same =
      ap (λ ys. ys ++ y ∷ []) m.same
      ∙ append_assoc before (map f (take i xs)) (y ∷ [])
      ∙ ap (λ z. before ++ (map f (take i xs) ++ z ∷ [])) (is ∙ ap f e)
      ∙ ap (λ ys. before ++ ys) (sym (map_more f xs i x lt));
}

pub mapped_ends : {A B : Type 0} (f : A → B) (before : List B) (xs : List A) (i : ℕ)
    (done : List B)
    → IsMapped f before xs i done → length xs ≤ i → done ≡ before ++ map f xs
mapped_ends f before xs i done m all =
    m.same ∙ ap (λ ys. before ++ map f ys) (take_all i xs all)

pub map_map : {A B C : Type 0} (f : B → C) (g : A → B) (xs : List A)
    → map (λ x. f (g x)) xs ≡ map f (map g xs)
map_map f g [] = refl
map_map f g (x ∷ xs) = ap (λ ys. f (g x) ∷ ys) (map_map f g xs)

-- ---- needs

-- of a list with this item one more
pub taken_more : (xs done : List ℕ) (i x : ℕ) → done ≡ take i xs → slice_get xs i ≡ Some x
    → done ++ x ∷ [] ≡ take (i + 1) xs
taken_more xs done i x e at =
    ap (λ ys. ys ++ x ∷ []) e
    ∙ ap (λ z. take i xs ++ z ∷ []) (sym (get_or_from_slice_get xs i x x at))
    ∙ sym (take_more xs i x (slice_get_within xs i x at))

exact : (n cells : ℕ) (b : Bool) → nat_le (2 ^ 64 - 1) n ≡ b → capped n ≡ cells
    → (cells ≡ 2 ^ 64 - 1 → ⊥) → n ≡ cells
exact n cells true e c differs = absurd (differs (omega (arith, leb-true (2 ^ 64 - 1) n e, c)))
exact n cells false e c differs = omega (arith, leb-false (2 ^ 64 - 1) n e, c)

-- a need that isn't capped
pub exact_needs : (fs : List Function) (i cells : ℕ)
    → slice_get (map (λ it. capped (need it)) fs) i ≡ Some cells → (cells ≡ 2 ^ 64 - 1 → ⊥)
    → slice_get (map need fs) i ≡ Some cells
exact_needs [] i cells e differs = absurd (let none : ⊥ = cc in none)
exact_needs (f ∷ fs) zero cells e differs =
    let same : capped (need f) ≡ cells = cc in
    ap (λ n. Some n) (exact (need f) cells (nat_le (2 ^ 64 - 1) (need f)) refl same differs)
exact_needs (f ∷ fs) (suc i) cells e differs = exact_needs fs i cells e differs

-- ---- marks

pub record AreFirst (program : Program) (i : ℕ) (marks : List Mark) : Type 0 where
  pub count : length marks ≡ i
  pub first : (f : ℕ) (mark : Mark) → slice_get marks f ≡ Some mark → IsFirst program f mark

pub no_marks : (program : Program) → AreFirst program 0 []
no_marks program = record {
  count = refl;
  first = λ f mark e. absurd (let none : ⊥ = cc in none);
}

get_push : {A : Type 0} (xs : List A) (x y : A) (i : ℕ) → slice_get (xs ++ x ∷ []) i ≡ Some y
    → (slice_get xs i ≡ Some y) ⊎ ((i ≡ length xs) × (x ≡ y))
get_push [] x y zero e = inr (refl, (let same : x ≡ y = cc in same))
get_push [] x y (suc i) e = absurd (let none : ⊥ = cc in none)
get_push (z ∷ zs) x y zero e = inl e
get_push (z ∷ zs) x y (suc i) e = by_rest (get_push zs x y i e)
  where
    by_rest : (slice_get zs i ≡ Some y) ⊎ ((i ≡ length zs) × (x ≡ y))
        → (slice_get zs i ≡ Some y) ⊎ ((suc i ≡ length (z ∷ zs)) × (x ≡ y))
    by_rest (inl before) = inl before
    by_rest (inr last) = inr (ap suc last.0, last.1)

length_push : {A : Type 0} (xs : List A) (x : A) → length (xs ++ x ∷ []) ≡ length xs + 1
length_push [] x = refl
length_push (y ∷ ys) x = omega (arith, length_push ys x)

pub marks_more : (program : Program) (i : ℕ) (marks : List Mark) (mark : Mark)
    → AreFirst program i marks → IsFirst program i mark
    → AreFirst program (i + 1) (marks ++ mark ∷ [])
marks_more program i marks mark are is = record {
  count = omega (arith, length_push marks mark, are.count);
  first = λ f it e. by_place f it (get_push marks mark it f e);
}
  where
    by_place : (f : ℕ) (it : Mark) → (slice_get marks f ≡ Some it) ⊎ ((f ≡ length marks) × (mark ≡ it))
        → IsFirst program f it
    by_place f it (inl before) = are.first f it before
    by_place f it (inr last) =
        subst (λ k. IsFirst program k it) (sym (last.0 ∙ are.count))
        (subst (λ m. IsFirst program i m) last.1 is)
