-- Lists with an element or some cells in place of others.
use Rattle.std.proofs.Common.{◌≡◌, ◌≢◌, ◌+◌, ◌<◌, ◌≤◌, ℕ, zero, suc, ℤ, List, [], ◌∷◌, ◌++◌, Option}
use Rattle.std.proofs.Common.{Some, length, take, drop, slice_get, slice_set, refl, sym, ap, ◌∙◌}
use Rattle.std.proofs.Common.{arith, append_assoc, length-append}
use Rattle.std.proofs.lemmas.List.{take-append-le, drop-append-le, length-take-le, length-drop}
use Rattle.std.specs.Prelude.{All}
use Rattle.std.proofs.lemmas.List.Elements.{All-append, All-take, All-drop}
use Rattle.pawn_cells.specs.Cells.{IsCell}
use Rattle.pawn_meaning.specs.Memory.{put}

pub get_other : {A : Type 0} (xs : List A) (i j : ℕ) (x : A) → i ≢ j
    → slice_get (slice_set xs i x) j ≡ slice_get xs j
get_other [] i j x h = refl
get_other (y ∷ ys) zero zero x h = absurd (h refl)
get_other (y ∷ ys) zero (suc j) x h = refl
get_other (y ∷ ys) (suc i) zero x h = refl
get_other (y ∷ ys) (suc i) (suc j) x h = get_other ys i j x (λ e. h (ap suc e))

pub get_same : {A : Type 0} (xs : List A) (i : ℕ) (x : A) → i < length xs
    → slice_get (slice_set xs i x) i ≡ Some x
get_same [] i x h = absurd (omega (arith, h))
get_same (y ∷ ys) zero x h = refl
get_same (y ∷ ys) (suc i) x h = get_same ys i x (omega (arith, h))

pub got_in_first : (b c : List ℤ) (i : ℕ) (v : ℤ) → slice_get b i ≡ Some v
    → slice_get (b ++ c) i ≡ Some v
got_in_first [] c i v e = cc
got_in_first (x ∷ b) c zero v e = e
got_in_first (x ∷ b) c (suc i) v e = got_in_first b c i v e

pub got_in_rest : (b c : List ℤ) (i : ℕ) (o : Option ℤ) → slice_get c i ≡ o
    → slice_get (b ++ c) (length b + i) ≡ o
got_in_rest [] c i o e = let z : 0 + i ≡ i = omega arith in rw z e
got_in_rest (x ∷ b) c i o e =
    let z : suc (length b) + i ≡ suc (length b + i) = omega arith in rw z (got_in_rest b c i o e)

pub got_before : {A : Type 0} (xs : List A) (x : A) (i : ℕ) → length xs ≢ i
    → slice_get (xs ++ x ∷ []) i ≡ slice_get xs i
got_before [] x zero d = absurd (d refl)
got_before [] x (suc i) d = refl
got_before (y ∷ xs) x zero d = refl
got_before (y ∷ xs) x (suc i) d = got_before xs x i (λ e. d (ap suc e))

pub got_last : {A : Type 0} (xs : List A) (x : A) → slice_get (xs ++ x ∷ []) (length xs) ≡ Some x
got_last [] x = refl
got_last (y ∷ xs) x = got_last xs x

pub all_dropped : {A : Type 0} (xs : List A) (n : ℕ) → length xs ≤ n → drop n xs ≡ []
all_dropped [] zero h = refl
all_dropped [] (suc n) h = refl
all_dropped (x ∷ xs) zero h = absurd (omega (arith, h))
all_dropped (x ∷ xs) (suc n) h = all_dropped xs n (omega (arith, h))

pub take_drop : {A : Type 0} (n : ℕ) (xs : List A) → take n xs ++ drop n xs ≡ xs
take_drop zero xs = refl
take_drop (suc n) [] = refl
take_drop (suc n) (x ∷ xs) = ap (λ l. x ∷ l) (take_drop n xs)

-- ---- cells in place of others

pub put-after : (b c vs : List ℤ) (i : ℕ) → put vs (length b + i) (b ++ c) ≡ b ++ put vs i c
put-after [] c vs i = let e : 0 + i ≡ i = omega arith in rw e refl
put-after (x ∷ b) c vs i =
    let e : length (x ∷ b) + i ≡ suc (length b + i) = omega arith in
    let d : suc (length b + i) + length vs ≡ suc (length b + i + length vs) = omega arith in
    rw (e, d) (ap (λ l. x ∷ l) (put-after b c vs i))

pub put-before : (b c vs : List ℤ) (i : ℕ) → i + length vs ≤ length b
    → put vs i (b ++ c) ≡ put vs i b ++ c
put-before b c vs i h =
    rw (take-append-le i b c (omega (arith, h)), drop-append-le (i + length vs) b c h)
    (ap (λ l. take i b ++ l) (sym (append_assoc vs (drop (i + length vs) b) c))
    ∙ sym (append_assoc (take i b) (vs ++ drop (i + length vs) b) c))

pub put_length : (b vs : List ℤ) (i : ℕ) → i + length vs ≤ length b → length (put vs i b) ≡ length b
put_length b vs i h =
    let a = length-append (take i b) (vs ++ drop (i + length vs) b) in
    let c = length-append vs (drop (i + length vs) b) in
    omega (arith, a, c, length-take-le i b (omega (arith, h)), length-drop (i + length vs) b, h)

pub set_put : (xs : List ℤ) (i : ℕ) (v : ℤ) → i < length xs → slice_set xs i v ≡ put (v ∷ []) i xs
set_put [] i v h = absurd (omega (arith, h))
set_put (x ∷ xs) zero v h = refl
set_put (x ∷ xs) (suc i) v h =
    let e : suc i + 1 ≡ suc (i + 1) = omega arith in
    rw e (ap (λ l. x ∷ l) (set_put xs i v (omega (arith, h))))

pub one_fits : (v : ℤ) → IsCell v → All IsCell (v ∷ [])
one_fits v f zero d h = f
one_fits v f (suc k) d h = absurd (omega (arith, h))

pub put_fits : (vs cells : List ℤ) (i : ℕ) → All IsCell vs → All IsCell cells
    → All IsCell (put vs i cells)
put_fits vs cells i a b =
    All-append IsCell (take i cells) (vs ++ drop (i + length vs) cells) (All-take IsCell i cells b)
    (All-append IsCell vs (drop (i + length vs) cells) a (All-drop IsCell (i + length vs) cells b))
