-- A text's characters up to its zero, chunk by chunk.
use Rattle.std.proofs.Common.{◌≡◌, ◌≢◌, ◌+◌, ◌<◌, ◌≤◌, ℕ, zero, ℤ, pos, negsuc, suc, Bool, true}
use Rattle.std.proofs.Common.{false, List, [], ◌∷◌, ◌++◌, map, length, take, drop, get_or, Some}
use Rattle.std.proofs.Common.{None, refl, sym, ap, ◌∙◌, append_assoc, append-nil, arith, true≢false}
use Rattle.std.proofs.Common.{FitsSigned, w32, to_z, of_z}
use Rattle.std.specs.Int.{to_be_bytes}
use Rattle.std.specs.Prelude.{◌||◌, IfSome, option_map, if◌then◌else◌}
use Rattle.std.specs.List.{flat_map}
use Rattle.std.specs.Option.{is_some}
use Rattle.std.specs.Ordering.{int_eq}
use Rattle.std.proofs.Math.Seq.{drop-cons}
use Rattle.std.proofs.Math.ListN.{drop_of_length-le}
use Rattle.std.proofs.lemmas.Bool.Decides.{Decides-int_eq}
use Rattle.std.proofs.lemmas.Int.{to_z-of_z}
use Rattle.std.proofs.lemmas.List.{take_more}
use Rattle.std.proofs.lemmas.List.Concat.{flat_map-append}
use Rattle.host_script.specs.Text.{character_text}
use Rattle.host_script.specs.Script.{before_zero, characters, bytes_of}
use Rattle.host_script.specs.Characters.{front, has_zero, is_packed, unpacked, characters_text}

-- ---- up to a zero

front_split : (a b : List ℤ) → front (a ++ b) ≡ front a ++ (if has_zero a then [] else front b)
front_split [] b = refl
front_split (c ∷ a) b = cases (int_eq c (pos 0)) (front_split a b) where
  cases : (zero : Bool) → front (a ++ b) ≡ front a ++ (if has_zero a then [] else front b)
      → (if zero then [] else c ∷ front (a ++ b))
      ≡ (if zero then [] else c ∷ front a) ++ (if zero || has_zero a then [] else front b)
  cases true split = refl
  cases false split = ap (λ cs. c ∷ cs) split

front_all : (a : List ℤ) → has_zero a ≡ false → front a ≡ a
front_all [] e = refl
front_all (c ∷ a) e = cases (int_eq c (pos 0)) e (front_all a) where
  cases : (zero : Bool) → (zero || has_zero a) ≡ false → (has_zero a ≡ false → front a ≡ a)
      → (if zero then [] else c ∷ front a) ≡ c ∷ a
  cases false e all = ap (λ cs. c ∷ cs) (all e)
  cases true e all = absurd (true≢false e)

-- a character that isn't 0
pub not_zero : (c : ℤ) → c ≢ pos 0 → int_eq c (pos 0) ≡ false
not_zero c other = cases (int_eq c (pos 0)) (Decides-int_eq c (pos 0)).0 where
  cases : (b : Bool) → (b ≡ true → c ≡ pos 0) → b ≡ false
  cases false same = refl
  cases true same = absurd (other (same refl))

amount : ℤ → ℕ
amount (pos n) = n
amount (negsuc n) = 0

pub not_zero_byte : (n : ℕ) → n ≢ 0 → int_eq (pos n) (pos 0) ≡ false
unfolding amount
not_zero_byte n other = not_zero (pos n) (λ e. other (ap amount e))

with_before : (c : ℤ) (ends : Bool) (cs : List ℤ)
    → option_map (λ others. c ∷ others) (if ends then Some cs else None)
    ≡ (if ends then Some (c ∷ cs) else None)
with_before c true cs = refl
with_before c false cs = refl

before_is : (cs : List ℤ) → before_zero cs ≡ (if has_zero cs then Some (front cs) else None)
before_is [] = refl
before_is (pos zero ∷ cs) = refl
before_is (pos (suc n) ∷ cs) =
    rw (before_is cs, not_zero_byte (suc n) (λ e. omega (arith, e)))
    (with_before (pos (suc n)) (has_zero cs) (front cs))
before_is (negsuc n ∷ cs) = rw (before_is cs) (with_before (negsuc n) (has_zero cs) (front cs))

-- ---- a text

characters_are : (cells : List ℤ)
    → characters cells ≡ (if has_zero (unpacked cells) then Some (front (unpacked cells)) else None)
characters_are [] = refl
characters_are (cell ∷ cells) = cases (is_packed (cell ∷ cells)) where
  cases : (packed : Bool) → (if packed then before_zero (flat_map bytes_of (cell ∷ cells))
      else before_zero (cell ∷ cells))
      ≡ (if has_zero (if packed then flat_map bytes_of (cell ∷ cells) else cell ∷ cells)
      then Some (front (if packed then flat_map bytes_of (cell ∷ cells) else cell ∷ cells))
      else None)
  cases true = before_is (flat_map bytes_of (cell ∷ cells))
  cases false = before_is (cell ∷ cells)

pub ends_is : (cells : List ℤ) → has_zero (unpacked cells) ≡ is_some (characters cells)
ends_is cells = rw (characters_are cells) (cases (has_zero (unpacked cells))) where
  cases : (ends : Bool) → ends ≡ is_some (if ends then Some (front (unpacked cells)) else None)
  cases true = refl
  cases false = refl

pub some_text : (cells : List ℤ) (P : List ℤ → Type 0) → P (front (unpacked cells))
    → IfSome (characters cells) P
some_text cells P p = rw (characters_are cells) (cases (has_zero (unpacked cells))) where
  cases : (ends : Bool) → IfSome (if ends then Some (front (unpacked cells)) else None) P
  cases true = p
  cases false = tt

-- ---- chunk by chunk

pub record Passed {X : Type 0} (f : X → List ℤ) (xs : List X) (i : ℕ) : Type 0 where
  pub same : front (flat_map f xs) ≡ flat_map f (take i xs) ++ front (flat_map f (drop i xs))

pub passed_none : {X : Type 0} (f : X → List ℤ) (xs : List X) → Passed f xs 0
passed_none f xs = record { same = refl }

module _ {X : Type 0} (f : X → List ℤ) (xs : List X) (i : ℕ) (d : X) (within : i < length xs)
    (p : Passed f xs i) where
  abbrev x : X
  x = get_or xs i d

  abbrev tail : List ℤ
  tail = if has_zero (f x) then [] else front (flat_map f (drop (suc i) xs))

  at_chunk : front (flat_map f xs) ≡ flat_map f (take i xs) ++ (front (f x) ++ tail)
  at_chunk =
      p.same ∙ ap (λ rest. flat_map f (take i xs) ++ front (flat_map f rest))
      (drop-cons xs i d within)
      ∙ ap (λ rest. flat_map f (take i xs) ++ rest)
      (front_split (f x) (flat_map f (drop (suc i) xs)))

  taken : flat_map f (take (i + 1) xs) ≡ flat_map f (take i xs) ++ f x
  taken =
      ap (flat_map f) (take_more xs i d within) ∙ flat_map-append f (take i xs) (x ∷ [])
      ∙ ap (λ last. flat_map f (take i xs) ++ last) (append-nil (f x))

  pub passed_more : has_zero (f x) ≡ false → Passed f xs (i + 1)
  passed_more e =
      let next : suc i ≡ i + 1 = omega arith in
      let rest = front (flat_map f (drop (suc i) xs)) in
      record {
        same =
            at_chunk ∙ ap (λ zero. flat_map f (take i xs)
            ++ (front (f x) ++ (if zero then [] else rest))) e
            ∙ ap (λ chunk. flat_map f (take i xs) ++ (chunk ++ rest)) (front_all (f x) e)
            ∙ sym (append_assoc (flat_map f (take i xs)) (f x) rest)
            ∙ ap (λ before. before ++ rest) (sym taken)
            ∙ ap (λ k. flat_map f (take (i + 1) xs) ++ front (flat_map f (drop k xs))) next;
      }

  pub text_more : has_zero (f x) ≡ false
      → characters_text (flat_map f (take i xs)) ++ characters_text (front (f x))
      ≡ characters_text (flat_map f (take (i + 1) xs))
  text_more e =
      ap (λ chunk. characters_text (flat_map f (take i xs)) ++ characters_text chunk)
      (front_all (f x) e)
      ∙ sym (flat_map-append character_text (flat_map f (take i xs)) (f x))
      ∙ ap characters_text (sym taken)

  pub text_last : has_zero (f x) ≡ true
      → characters_text (flat_map f (take i xs)) ++ characters_text (front (f x))
      ≡ characters_text (front (flat_map f xs))
  text_last e =
      sym (flat_map-append character_text (flat_map f (take i xs)) (front (f x)))
      ∙ ap (λ chunk. characters_text (flat_map f (take i xs) ++ chunk))
      (sym (append-nil (front (f x))))
      ∙ ap (λ zero. characters_text (flat_map f (take i xs)
      ++ (front (f x) ++ (if zero then [] else front (flat_map f (drop (suc i) xs)))))) (sym e)
      ∙ ap characters_text (sym at_chunk)

  pub text_cut : (characters_text (flat_map f (take i xs)) ++ characters_text (front (f x)))
      ++ characters_text tail ≡ characters_text (front (flat_map f xs))
  text_cut =
      append_assoc (characters_text (flat_map f (take i xs))) (characters_text (front (f x)))
      (characters_text tail)
      ∙ ap (λ back. characters_text (flat_map f (take i xs)) ++ back)
      (sym (flat_map-append character_text (front (f x)) tail))
      ∙ sym (flat_map-append character_text (flat_map f (take i xs)) (front (f x) ++ tail))
      ∙ ap characters_text (sym at_chunk)

pub text_all : {X : Type 0} (f : X → List ℤ) (xs : List X) (i : ℕ) → length xs ≤ i → Passed f xs i
    → characters_text (flat_map f (take i xs)) ≡ characters_text (front (flat_map f xs))
text_all f xs i h p =
    ap characters_text (sym (p.same
    ∙ ap (λ rest. flat_map f (take i xs) ++ front (flat_map f rest)) (drop_of_length-le xs h)
    ∙ append-nil (flat_map f (take i xs))))

-- ---- a chunk of one cell's bytes

pub packed_bytes : (cell : ℤ) (bytes : List ℕ) → FitsSigned w32 cell
    → bytes ≡ to_be_bytes w32 (of_z w32 (to_z w32 (of_z w32 cell))) → map pos bytes ≡ bytes_of cell
packed_bytes cell bytes fits written =
    ap (map pos) written ∙ ap bytes_of (to_z-of_z w32 cell fits)

-- ---- a chunk of one character

abbrev pub single : ℤ → List ℤ
single c = c ∷ []

pub singles_are : (cs : List ℤ) → flat_map single cs ≡ cs
singles_are [] = refl
singles_are (c ∷ cs) = ap (λ others. c ∷ others) (singles_are cs)

abbrev pub single_byte : ℕ → List ℤ
single_byte b = pos b ∷ []

pub bytes_are : (bs : List ℕ) → flat_map single_byte bs ≡ map pos bs
bytes_are [] = refl
bytes_are (b ∷ bs) = ap (λ others. pos b ∷ others) (bytes_are bs)

pub single_text : (c : ℤ) → int_eq c (pos 0) ≡ false
    → character_text c ≡ characters_text (front (single c))
single_text c e = rw e (sym (append-nil (character_text c)))
