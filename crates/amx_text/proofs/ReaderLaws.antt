-- Readers take what is spelled, and nothing else.
use Rattle.std.proofs.Common.{◌≡◌, ◌∙◌, ◌+◌, ◌-◌, ◌*◌, ◌/◌, ◌%◌, ◌^◌, ◌<◌, ◌≤◌, ◌==◌, ◌++◌, ℕ, zero}
use Rattle.std.proofs.Common.{suc, ℤ, pos, negsuc, List, [], ◌∷◌, Bool, true, false, cond, Option}
use Rattle.std.proofs.Common.{None, Some, length, take, drop, refl, sym, ap, subst, arith}
use Rattle.std.proofs.Common.{FitsSigned, w32, codes, nat_le, append_assoc, take-append-drop}
use Rattle.std.proofs.Common.{le-leb, leb-true}
use Rattle.std.specs.Fmt.{decimal, signed_decimal}
use Rattle.std.specs.Prelude.{option_and_then, option_map}
use Rattle.std.specs.Str.{bytes_eq}
use Rattle.std.specs.Cmp.Lexicographic.{bytes_decides}
use Rattle.std.proofs.Math.Seq.{take-append_seam, drop-append_seam}
use Rattle.std.proofs.lemmas.Bool.Decides.{nat_tests}
use Rattle.std.proofs.lemmas.Fmt.{decimal_digit, decimal_step, decimal_by_steps}
use Rattle.amx_text.specs.Readers.{after_word, grown, is_digit, number_on, number_at, below_zero}
use Rattle.amx_text.specs.Readers.{from_zero, as_cell, cell_by, cell_at}

-- ---- pairs

pub same_pair : {A B : Type 0} {p q : A × B} → Some p ≡ Some q → (p.0 ≡ q.0) × (p.1 ≡ q.1)
same_pair {A} {B} {p} {q} e =
    let both : p ≡ q = cc in
    (ap (λ (x : A × B). x.0) both, ap (λ (x : A × B). x.1) both)

-- ---- words

pub word_found : (word rest : List ℕ) → after_word word (word ++ rest) ≡ Some rest
word_found word rest =
    let front : bytes_eq (take (length word) (word ++ rest)) word ≡ true =
    (bytes_decides (take (length word) (word ++ rest)) word).1 (take-append_seam word rest) in
    rw (front, drop-append_seam word rest) refl

word_by : (t : Bool) (word text rest : List ℕ)
    → (t ≡ true → take (length word) text ≡ word)
    → cond t (Some (drop (length word) text)) None ≡ Some rest → text ≡ word ++ rest
word_by true word text rest h e =
    let same : drop (length word) text ≡ rest = cc in
    sym (take-append-drop (length word) text) ∙ ap (λ a. a ++ drop (length word) text) (h refl)
    ∙ ap (λ b. word ++ b) same
word_by false word text rest h e = absurd (let no : ⊥ = cc in no)

pub word_is : (word text rest : List ℕ) → after_word word text ≡ Some rest → text ≡ word ++ rest
word_is word text rest e =
    word_by (bytes_eq (take (length word) text) word) word text rest
    (bytes_decides (take (length word) text) word).0 e

-- ---- numbers

-- what stands behind a number doesn't begin with a digit
abbrev pub Stops : List ℕ → Type 0
Stops [] = Unit {0}
Stops (byte ∷ rest) = is_digit byte ≡ false

number_stops : (n : ℕ) (rest : List ℕ) → Stops rest → number_on n rest ≡ Some (n, rest)
number_stops n [] h = refl
number_stops n (byte ∷ rest) h = rw h refl

a_digit : (byte : ℕ) → 48 ≤ byte → byte ≤ 57 → is_digit byte ≡ true
a_digit byte low high = rw (le-leb 48 byte low, le-leb byte 57 high) refl

digit_more : (n byte : ℕ) (rest : List ℕ) → 48 ≤ byte → byte ≤ 57
    → n * 10 + (byte - 48) ≤ 4294967295
    → number_on n (byte ∷ rest) ≡ number_on (n * 10 + (byte - 48)) rest
digit_more n byte rest low high small =
    rw (a_digit byte low high, le-leb (n * 10 + (byte - 48)) 4294967295 small) refl

first_digit : (n : ℕ) (rest : List ℕ) → 1 ≤ n → n < 10
    → number_at ((48 + n) ∷ rest) ≡ number_on n rest
first_digit n rest some small =
    let a : (48 + n == 48) ≡ false = grind (arith, nat_tests) in
    let d : is_digit (48 + n) ≡ true = a_digit (48 + n) (omega arith) (omega arith) in
    let v : 48 + n - 48 ≡ n = omega arith in
    rw (a, d, v) refl

-- a number's digits are read up to its end
abbrev ReadsDigits : ℕ → List ℕ → Type 0
ReadsDigits n digits =
    1 ≤ n → n ≤ 4294967295 → (rest : List ℕ) → number_at (digits ++ rest) ≡ number_on n rest

digits_read : (n : ℕ) → n < 2 ^ 64 → ReadsDigits n (decimal n)
digits_read =
    decimal_by_steps ReadsDigits (λ n small some fits rest. first_digit n rest some small)
    (λ n digits large h some fits rest.
    let byte : ℕ = 48 + n % 10 in
    let value : n / 10 * 10 + (byte - 48) ≡ n = omega arith in
    ap number_at (append_assoc digits (byte ∷ []) rest)
    ∙ h (omega arith) (omega arith) (byte ∷ rest)
    ∙ digit_more (n / 10) byte rest (omega arith) (omega arith) (omega arith)
    ∙ ap (λ m. number_on m rest) value)

-- what is spelled is read
pub number_found : (n : ℕ) (rest : List ℕ) → n < 2 ^ 32 → Stops rest
    → number_at (decimal n ++ rest) ≡ Some (n, rest)
number_found zero rest small h =
    ap (λ digits. number_at (digits ++ rest)) (decimal_digit 0 (omega arith))
number_found (suc k) rest small h =
    digits_read (suc k) (omega arith) (omega arith) (omega arith) rest ∙ number_stops (suc k) rest h

-- what is read is spelled
pub record IsNumber (n : ℕ) (text rest : List ℕ) : Type 0 where
  pub fits : n < 2 ^ 32
  pub is : text ≡ decimal n ++ rest

-- the same behind digits that were read
record GoesOn (n : ℕ) (text : List ℕ) (m : ℕ) (rest : List ℕ) : Type 0 where
  fits : m < 2 ^ 32
  is : decimal n ++ text ≡ decimal m ++ rest

grown_by : (t : Bool) (x more : ℕ) → (t ≡ true → x ≤ 4294967295)
    → cond t (Some x) None ≡ Some more → (more ≡ x) × (x ≤ 4294967295)
grown_by true x more h e = (let same : more ≡ x = cc in same, h refl)
grown_by false x more h e = absurd (let no : ⊥ = cc in no)

grown_is : (n digit more : ℕ) → grown n 10 digit ≡ Some more
    → (more ≡ n * 10 + digit) × (n * 10 + digit ≤ 4294967295)
grown_is n digit more e =
    grown_by (nat_le (n * 10 + digit) 4294967295) (n * 10 + digit) more
    (leb-true (n * 10 + digit) 4294967295) e

digit_parts : (byte : ℕ) → is_digit byte ≡ true → (48 ≤ byte) × (byte ≤ 57)
digit_parts byte h = (grind (arith, nat_tests), grind (arith, nat_tests))

decimal_more : (n byte : ℕ) → 1 ≤ n → 48 ≤ byte → byte ≤ 57 → n * 10 + (byte - 48) ≤ 4294967295
    → decimal (n * 10 + (byte - 48)) ≡ decimal n ++ (byte ∷ [])
decimal_more n byte some low high small =
    let m : ℕ = n * 10 + (byte - 48) in
    let front : m / 10 ≡ n = omega arith in
    let last : 48 + m % 10 ≡ byte = omega arith in
    decimal_step m (omega arith) (omega arith) ∙ ap (λ a. decimal a ++ ((48 + m % 10) ∷ [])) front
    ∙ ap (λ b. decimal n ++ (b ∷ [])) last

module _ (n byte m : ℕ) (text rest : List ℕ) (some : 1 ≤ n) (small : n < 2 ^ 32)
    (others : (more : ℕ) → 1 ≤ more → more < 2 ^ 32 → number_on more text ≡ Some (m, rest)
    → GoesOn more text m rest) where
  goes_grown : (g : Option ℕ) → grown n 10 (byte - 48) ≡ g → is_digit byte ≡ true
      → option_and_then (λ more. number_on more text) g ≡ Some (m, rest)
      → GoesOn n (byte ∷ text) m rest
  goes_grown None h d e = absurd (let no : ⊥ = cc in no)
  goes_grown (Some more) h d e =
      let is = grown_is n (byte - 48) more h in
      let in_range = digit_parts byte d in
      let it = others more (omega (arith, is.0)) (omega (arith, is.0, is.1)) e in
      let spelled : decimal more ≡ decimal n ++ (byte ∷ []) =
      ap decimal is.0 ∙ decimal_more n byte some in_range.0 in_range.1 is.1 in
      record {
        fits = it.fits;
        is =
            sym (append_assoc (decimal n) (byte ∷ []) text)
            ∙ ap (λ digits. digits ++ text) (sym spelled) ∙ it.is;
      }

  goes_by : (t : Bool) → is_digit byte ≡ t
      → cond t (option_and_then (λ more. number_on more text) (grown n 10 (byte - 48)))
      (Some (n, byte ∷ text)) ≡ Some (m, rest) → GoesOn n (byte ∷ text) m rest
  goes_by true d e = goes_grown (grown n 10 (byte - 48)) refl d e
  goes_by false d e =
      let pair : (n ≡ m) × (byte ∷ text ≡ rest) = same_pair e in
      let same = pair.0 in
      let behind = pair.1 in
      record {
        fits = omega (arith, same, small);
        is = ap (λ a. decimal a ++ (byte ∷ text)) same ∙ ap (λ b. decimal m ++ b) behind;
      }

goes_on : (n m : ℕ) (text rest : List ℕ) → 1 ≤ n → n < 2 ^ 32
    → number_on n text ≡ Some (m, rest) → GoesOn n text m rest
goes_on n m [] rest some small e =
    let pair : (n ≡ m) × ([] ≡ rest) = same_pair e in
    let same = pair.0 in
    let behind = pair.1 in
    record {
      fits = omega (arith, same, small);
      is = ap (λ a. decimal a ++ []) same ∙ ap (λ b. decimal m ++ b) behind;
    }
goes_on n m (byte ∷ text) rest some small e =
    goes_by n byte m text rest some small
    (λ more p q h. goes_on more m text rest p q h) (is_digit byte) refl e

begins_by : (t d : Bool) (byte m : ℕ) (text rest : List ℕ) → (byte == 48) ≡ t → is_digit byte ≡ d
    → cond t (Some (0, text)) (cond d (number_on (byte - 48) text) None) ≡ Some (m, rest)
    → IsNumber m (byte ∷ text) rest
begins_by true d byte m text rest h k e =
    let pair : (0 ≡ m) × (text ≡ rest) = same_pair e in
    let zero_is = pair.0 in
    let behind = pair.1 in
    let first : byte ≡ 48 = grind (arith, nat_tests) in
    record {
      fits = omega (arith, zero_is);
      is =
          ap (λ b. b ∷ text) first ∙ ap (λ b. 48 ∷ b) behind
          ∙ ap (λ digits. digits ++ rest) (sym (decimal_digit 0 (omega arith)))
          ∙ ap (λ a. decimal a ++ rest) zero_is;
    }
begins_by false true byte m text rest h k e =
    let in_range = digit_parts byte k in
    let other : 49 ≤ byte = grind (arith, nat_tests, in_range.0) in
    let value : 48 + (byte - 48) ≡ byte = omega (arith, in_range.0) in
    let it = goes_on (byte - 48) m text rest (omega (arith, other)) (omega (arith, in_range.1)) e in
    record {
      fits = it.fits;
      is =
          ap (λ b. b ∷ text) (sym value)
          ∙ ap (λ digits. digits ++ text)
          (sym (decimal_digit (byte - 48) (omega (arith, in_range.1)))) ∙ it.is;
    }
begins_by false false byte m text rest h k e = absurd (let no : ⊥ = cc in no)

pub number_is : (n : ℕ) (text rest : List ℕ) → number_at text ≡ Some (n, rest)
    → IsNumber n text rest
number_is n [] rest e = absurd (let no : ⊥ = cc in no)
number_is n (byte ∷ text) rest e =
    begins_by (byte == 48) (is_digit byte) byte n text rest refl refl e

-- ---- cells

no_sign_by : (found : Option (List ℕ)) (text : List ℕ) (it : ℕ × List ℕ)
    → after_word (codes "-") text ≡ found → number_at text ≡ Some it
    → after_word (codes "-") text ≡ None
no_sign_by None text it e h = e
no_sign_by (Some rest) text it e h =
    let none : number_at (45 ∷ rest) ≡ None = refl in
    let bad : Some it ≡ None = sym h ∙ ap number_at (word_is (codes "-") text rest e) ∙ none in
    absurd (let no : ⊥ = cc in no)

no_sign : (text : List ℕ) (it : ℕ × List ℕ) → number_at text ≡ Some it
    → after_word (codes "-") text ≡ None
no_sign text it h = no_sign_by (after_word (codes "-") text) text it refl h

pub cell_found : (z : ℤ) (rest : List ℕ) → FitsSigned w32 z → Stops rest
    → cell_at (signed_decimal z ++ rest) ≡ Some (z, rest)
cell_found (pos n) rest fits h =
    let text : List ℕ = decimal n ++ rest in
    let read : number_at (decimal n ++ rest) ≡ Some (n, rest) =
    number_found n rest (omega (arith, fits.sfits)) h in
    let small : n ≤ 2147483647 = omega (arith, fits.sfits) in
    ap (cell_by (decimal n ++ rest)) (no_sign (decimal n ++ rest) (n, rest) read)
    ∙ ap (as_cell from_zero) read ∙ (rw (le-leb n 2147483647 small) refl)
cell_found (negsuc k) rest fits h =
    let digits : List ℕ = decimal (suc k) ++ rest in
    let read : number_at (decimal (suc k) ++ rest) ≡ Some (suc k, rest) =
    number_found (suc k) rest (omega (arith, fits.sfits)) h in
    let small : suc k ≤ 2147483648 = omega (arith, fits.sfits) in
    ap (cell_by (45 ∷ (decimal (suc k) ++ rest)))
    (word_found (codes "-") (decimal (suc k) ++ rest))
    ∙ ap (as_cell below_zero) read ∙ (rw (le-leb (suc k) 2147483648 small) refl)

-- a cell that is spelled
pub record IsCell (z : ℤ) (text rest : List ℕ) : Type 0 where
  pub fits : FitsSigned w32 z
  pub is : text ≡ signed_decimal z ++ rest

from_by : (t : Bool) (n : ℕ) (z : ℤ) (text behind rest : List ℕ) → (t ≡ true → n ≤ 2147483647)
    → text ≡ decimal n ++ behind
    → option_map {U = ℤ × List ℕ} (λ (y : ℤ). (y, behind)) (cond t (Some (pos n)) None)
    ≡ Some (z, rest)
    → IsCell z text rest
from_by true n z text behind rest h is e =
    let pair : (pos n ≡ z) × (behind ≡ rest) = same_pair e in
    let same = pair.0 in
    let others = pair.1 in
    let low : n ≤ 2147483647 = h refl in
    let fits : FitsSigned w32 (pos n) = record { sfits = omega (arith, low) } in
    record {
      fits = subst (FitsSigned w32) same fits;
      is = is ∙ ap (λ y. signed_decimal y ++ behind) same ∙ ap (λ b. signed_decimal z ++ b) others;
    }
from_by false n z text behind rest h is e = absurd (let no : ⊥ = cc in no)

below_by : (t : Bool) (k : ℕ) (z : ℤ) (text behind rest : List ℕ)
    → (t ≡ true → suc k ≤ 2147483648) → text ≡ 45 ∷ (decimal (suc k) ++ behind)
    → option_map {U = ℤ × List ℕ} (λ (y : ℤ). (y, behind)) (cond t (Some (negsuc k)) None)
    ≡ Some (z, rest)
    → IsCell z text rest
below_by true k z text behind rest h is e =
    let pair : (negsuc k ≡ z) × (behind ≡ rest) = same_pair e in
    let same = pair.0 in
    let others = pair.1 in
    let low : suc k ≤ 2147483648 = h refl in
    let fits : FitsSigned w32 (negsuc k) = record { sfits = omega (arith, low) } in
    record {
      fits = subst (FitsSigned w32) same fits;
      is = is ∙ ap (λ y. signed_decimal y ++ behind) same ∙ ap (λ b. signed_decimal z ++ b) others;
    }
below_by false k z text behind rest h is e = absurd (let no : ⊥ = cc in no)

positive : (found : Option (ℕ × List ℕ)) (z : ℤ) (text rest : List ℕ) → number_at text ≡ found
    → as_cell from_zero found ≡ Some (z, rest) → IsCell z text rest
positive None z text rest h e = absurd (let no : ⊥ = cc in no)
positive (Some (n, behind)) z text rest h e =
    let it = number_is n text behind h in
    from_by (nat_le n 2147483647) n z text behind rest (leb-true n 2147483647) it.is e

negative_by : (n : ℕ) (z : ℤ) (text behind rest : List ℕ) → text ≡ 45 ∷ (decimal n ++ behind)
    → option_map {U = ℤ × List ℕ} (λ (y : ℤ). (y, behind)) (below_zero n) ≡ Some (z, rest)
    → IsCell z text rest
negative_by zero z text behind rest is e = absurd (let no : ⊥ = cc in no)
negative_by (suc k) z text behind rest is e =
    below_by (nat_le (suc k) 2147483648) k z text behind rest (leb-true (suc k) 2147483648) is e

negative : (found : Option (ℕ × List ℕ)) (z : ℤ) (text digits rest : List ℕ)
    → text ≡ 45 ∷ digits → number_at digits ≡ found
    → as_cell below_zero found ≡ Some (z, rest) → IsCell z text rest
negative None z text digits rest is h e = absurd (let no : ⊥ = cc in no)
negative (Some (n, behind)) z text digits rest is h e =
    let it = number_is n digits behind h in
    negative_by n z text behind rest (is ∙ ap (λ d. 45 ∷ d) it.is) e

cell_is_by : (sign : Option (List ℕ)) (z : ℤ) (text rest : List ℕ)
    → after_word (codes "-") text ≡ sign → cell_by text sign ≡ Some (z, rest) → IsCell z text rest
cell_is_by None z text rest h e = positive (number_at text) z text rest refl e
cell_is_by (Some digits) z text rest h e =
    negative (number_at digits) z text digits rest (word_is (codes "-") text digits h) refl e

pub cell_is : (z : ℤ) (text rest : List ℕ) → cell_at text ≡ Some (z, rest) → IsCell z text rest
cell_is z text rest e = cell_is_by (after_word (codes "-") text) z text rest refl e
