-- The first line of a file, and the loop that joins lines.
use Rattle.std.proofs.Common.{◌≡◌, ℕ, ◌+◌, ◌<◌, ◌≤◌, ◌++◌, ◌==◌, Option, Some, None, List, [], ◌∷◌}
use Rattle.std.proofs.Common.{Bool, true, false, cond, not, ltb, zero, suc, refl, sym, ap, ◌∙◌}
use Rattle.std.proofs.Common.{subst, inl, inr, ◌⊎◌, length, take, drop, append_assoc, add-one}
use Rattle.std.proofs.Common.{arith}
use Rattle.std.specs.List.{position, position_or_len, slice_split, onto_first}
use Rattle.std.specs.Str.Lines.{lines, lines_of_parts, strip_carriage_return}
use Rattle.std.proofs.lemmas.List.Splits.{slice_split_first, length-slice_split}
use Rattle.std.proofs.lemmas.Bool.{ltb-true, ltb-false}
use Rattle.pawn_pre.specs.Joined.{glued, joined, goes_on, front_of, is_last}
use Rattle.pawn_pre.specs.declared.row.Row.{Row}

-- a byte that ends a line
abbrev pub ends_line : ℕ → Bool
ends_line b = b == 10

parts_cons : (part : List ℕ) (parts : List (List ℕ)) → 0 < length parts
    → lines_of_parts (part ∷ parts) ≡ strip_carriage_return part ∷ lines_of_parts parts
parts_cons part [] h = absurd (omega arith)
parts_cons part (next ∷ more) h = refl

some_same : (m i : ℕ) → Some m ≡ Some i → m ≡ i
some_same m i e = cc

found_by : (m len i : ℕ) (t : Bool) → ltb m len ≡ t → cond t (Some m) None ≡ Some i
    → (m ≡ i) × (m < len)
found_by m len i true h e = (some_same m i e, ltb-true m len h)
found_by m len i false h e = absurd (none_some i e)
  where
    none_some : (k : ℕ) → (let none : Option ℕ = None in none) ≡ Some k → ⊥
    none_some k f = cc

-- where the first part ends
found_at : (bs : List ℕ) (n : ℕ) → position ends_line bs ≡ Some n
    → (position_or_len ends_line bs ≡ n) × (position_or_len ends_line bs < length bs)
found_at bs n e = found_by (position_or_len ends_line bs) (length bs) n _ refl e

some_parts : (bs : List ℕ) → 0 < length (slice_split ends_line bs)
some_parts bs = omega (arith, length-slice_split ends_line bs)

drop_suc : (n : ℕ) (bs : List ℕ) → drop 1 (drop n bs) ≡ drop (suc n) bs
drop_suc zero bs = refl
drop_suc (suc n) [] = refl
drop_suc (suc n) (b ∷ bs) = drop_suc n bs

drop_twice : (n : ℕ) (bs : List ℕ) → drop 1 (drop n bs) ≡ drop (n + 1) bs
drop_twice n bs = rw add-one (drop_suc n bs)

-- a line that a byte 10 ends
pub first_line : (bs : List ℕ) (n : ℕ) → position ends_line bs ≡ Some n
    → lines bs ≡ strip_carriage_return (take n bs) ∷ lines (drop 1 (drop n bs))
first_line bs n e =
    let found = found_at bs n e in
    let P : ℕ → Type 0 =
    λ m. lines bs ≡ strip_carriage_return (take m bs) ∷ lines (drop (m + 1) bs) in
    subst P found.0 (ap lines_of_parts (slice_split_first ends_line bs 0 found.1)
    ∙ parts_cons _ _ (some_parts (drop (position_or_len ends_line bs + 1) bs)))
    ∙ ap (λ rest. strip_carriage_return (take n bs) ∷ lines rest) (sym (drop_twice n bs))

no_place : (bs : List ℕ) (t : Bool) → ltb (position_or_len ends_line bs) (length bs) ≡ t
    → cond t (Some (position_or_len ends_line bs)) None ≡ None
    → length bs ≤ position_or_len ends_line bs
no_place bs true h e = absurd (some_none _ e)
  where
    some_none : (k : ℕ) → Some k ≡ None → ⊥
    some_none k f = cc
no_place bs false h e = omega (arith, ltb-false)

-- without a byte 10 there is one part
whole_by : (t : Bool) (b : ℕ) (cs : List ℕ)
    → suc (length cs) ≤ cond (not t) (1 + position_or_len ends_line cs) 0
    → (length cs ≤ position_or_len ends_line cs → slice_split ends_line cs ≡ cs ∷ [])
    → cond t ([] ∷ slice_split ends_line cs) (onto_first b (slice_split ends_line cs))
    ≡ (b ∷ cs) ∷ []
whole_by true b cs k ih = absurd (omega arith)
whole_by false b cs k ih = rw (ih (omega arith)) refl

whole_part : (bs : List ℕ) → length bs ≤ position_or_len ends_line bs
    → slice_split ends_line bs ≡ bs ∷ []
whole_part [] h = refl
whole_part (b ∷ bs) h = whole_by (ends_line b) b bs h (whole_part bs)

single_line : (bs : List ℕ) → 0 < length bs → lines_of_parts (bs ∷ []) ≡ bs ∷ []
single_line [] h = absurd (omega arith)
single_line (b ∷ bs) h = let e : (suc (length bs) == 0) ≡ false = grind arith in rw e refl

-- the bytes behind the last byte 10
pub last_line : (bs : List ℕ) → 0 < length bs → position ends_line bs ≡ None → lines bs ≡ bs ∷ []
last_line bs h e = ap lines_of_parts (whole_part bs (no_place bs _ refl e)) ∙ single_line bs h

pick_none : (n : ℕ) (t : Bool) (rows others : List Row) → glued n [] rows ≡ rows
    → glued n [] others ≡ others → glued n [] (cond t rows others) ≡ cond t rows others
pick_none n true rows others e f = e
pick_none n false rows others e f = f

-- two fronts are one
pub glued_twice : (m n : ℕ) (a b : List ℕ) (rows : List Row)
    → glued m a (glued n b rows) ≡ glued m (a ++ b) rows
unfolding glued
glued_twice m n a b [] = refl
glued_twice m n a b (row ∷ rows) = simp append_assoc

-- nothing put in front of rows that are counted from a number on
pub glued_none : (n : ℕ) (ls : List (List ℕ)) → glued n [] (joined n ls) ≡ joined n ls
unfolding glued joined
glued_none n [] = refl
glued_none n (line ∷ rest) =
    pick_none n (is_last rest) _ _ refl
    (pick_none n (goes_on line) _ _
    (glued_twice n n [] (front_of line) (joined (n + 1) rest)) refl)

-- a line that goes on is a front of the next row
pub joined_on : (rows : List Row) (start number : ℕ) (front line : List ℕ) (rest : List (List ℕ))
    → goes_on line ≡ true → is_last rest ≡ false →
    rows ++ glued start (front ++ front_of line) (joined (number + 1) rest)
    ≡ rows ++ glued start front (joined number (line ∷ rest))
unfolding joined
joined_on rows start number front line rest h k =
    rw (k, h) (ap (λ r. rows ++ r)
    (sym (glued_twice start number front (front_of line) (joined (number + 1) rest))))

ended_row : (n : ℕ) (line : List ℕ) (last more : Bool) (rest : List (List ℕ)) → is_last rest ≡ last
    → goes_on line ≡ more → (last ≡ true) ⊎ (more ≡ false) →
    joined n (line ∷ rest) ≡ (record { number = n; bytes = line }) ∷ joined (n + 1) rest
unfolding joined
ended_row n line true more rest h k e = rw h refl
ended_row n line false false rest h k e = rw (h, k) refl
ended_row n line false true rest h k (inl e) = absurd (cc)
ended_row n line false true rest h k (inr e) = absurd (cc)

-- another one ends a row
pub joined_row : (rows : List Row) (start number : ℕ) (front line : List ℕ) (rest : List (List ℕ))
    → (is_last rest ≡ true) ⊎ (goes_on line ≡ false) →
    (rows ++ (record { number = start; bytes = front ++ line }) ∷ [])
    ++ glued (number + 1) [] (joined (number + 1) rest)
    ≡ rows ++ glued start front (joined number (line ∷ rest))
unfolding glued
joined_row rows start number front line rest e =
    ap (λ r. (rows ++ (record { number = start; bytes = front ++ line }) ∷ []) ++ r)
    (glued_none (number + 1) rest)
    ∙ append_assoc rows _ _
    ∙ ap (λ r. rows ++ glued start front r) (sym (ended_row number line _ _ rest refl refl e))

-- no line is left exactly where no byte is
pub lines_none : (bs : List ℕ) → length bs ≡ 0 → lines bs ≡ []
lines_none [] h = refl
lines_none (b ∷ bs) h = absurd (omega arith)

some_line : (bs : List ℕ) → 0 < length bs → (place : Option ℕ) → position ends_line bs ≡ place
    → is_last (lines bs) ≡ false
some_line bs h None e = rw (last_line bs h e) refl
some_line bs h (Some n) e = rw (first_line bs n e) refl

pub last_exactly : (bs : List ℕ) → is_last (lines bs) ≡ (length bs == 0)
last_exactly [] = refl
last_exactly (b ∷ bs) =
    let none : (length (b ∷ bs) == 0) ≡ false = grind arith in
    some_line (b ∷ bs) (omega arith) _ refl ∙ sym none
