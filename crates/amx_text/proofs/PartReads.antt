-- Addresses, characters of names and operands: what is spelled is read, and what is read is
-- spelled.
use Rattle.std.proofs.Common.{◌≡◌, ◌≢◌, ◌∙◌, ◌+◌, ◌-◌, ◌*◌, ◌/◌, ◌%◌, ◌^◌, ◌<◌, ◌≤◌, ◌==◌, ◌&&◌}
use Rattle.std.proofs.Common.{◌||◌, ◌++◌, ℕ, zero, suc, ℤ, pos, List, [], ◌∷◌, Bool, true, false}
use Rattle.std.proofs.Common.{cond, Option, None, Some, All, refl, sym, ap, subst, arith}
use Rattle.std.proofs.Common.{FitsSigned, w32, codes, nat_le, nat_lt, append_assoc, le-leb}
use Rattle.std.proofs.Common.{leb-true}
use Rattle.std.specs.Fmt.{decimal, signed_decimal}
use Rattle.std.specs.List.{flat_map}
use Rattle.std.specs.Prelude.{option_and_then, option_map}
use Rattle.std.proofs.lemmas.Bool.Decides.{nat_tests}
use Rattle.std.proofs.lemmas.List.Elements.{All-nil, All-cons, All-head, All-tail}
use Rattle.host_script.specs.Text.{stands_for_itself, character_text}
use Rattle.amx_text.specs.Lines.{hexadecimal, hexadecimal_digit, address_text}
use Rattle.amx_text.specs.Readers.{after_word, grown, is_digit, number_at, cell_at, operand_at, Run}
use Rattle.amx_text.specs.Readers.{hexadecimal_value, address_on, address_at, named_by, escaped_at}
use Rattle.amx_text.specs.Readers.{character_at}
use Rattle.amx_text.proofs.ReaderLaws.{same_pair, word_is, Stops, number_found, number_is}
use Rattle.amx_text.proofs.ReaderLaws.{cell_found, cell_is}

-- ---- addresses

value_of_digit : (t : Bool) (d : ℕ) → nat_lt d 10 ≡ t → d < 16
    → hexadecimal_value (cond t (48 + d) (87 + d)) ≡ Some d
value_of_digit true d h small =
    let a : is_digit (48 + d) ≡ true = grind (arith, nat_tests) in
    let v : 48 + d - 48 ≡ d = omega arith in
    rw (a, v) refl
value_of_digit false d h small =
    let a : is_digit (87 + d) ≡ false = grind (arith, nat_tests) in
    let low : nat_le 97 (87 + d) ≡ true = grind (arith, nat_tests) in
    let high : nat_le (87 + d) 102 ≡ true = grind (arith, nat_tests) in
    let large : 10 ≤ d = grind (arith, nat_tests) in
    let v : 87 + d - 97 + 10 ≡ d = omega (arith, large) in
    rw (a, low, high, v) refl

digit_found : (d : ℕ) → d < 16 → hexadecimal_value (hexadecimal_digit d) ≡ Some d
digit_found d small = value_of_digit (nat_lt d 10) d refl small

-- a number of so many digits
abbrev HasDigits : ℕ → ℕ → Type 0
HasDigits zero n = n ≡ 0
HasDigits (suc count) n = HasDigits count (n / 16)

address_more : (j n : ℕ) (rest : List ℕ) → n < 2 ^ 32
    → address_on (suc j) (n / 16) (hexadecimal_digit (n % 16) ∷ rest) ≡ address_on j n rest
address_more j n rest small =
    let same : n / 16 * 16 + n % 16 ≡ n = omega arith in
    let fits : nat_le n 4294967295 ≡ true = le-leb n 4294967295 (omega arith) in
    rw (digit_found (n % 16) (omega arith), same, fits) refl

digits_found : (k j n : ℕ) (rest : List ℕ) → HasDigits k n → n < 2 ^ 32
    → address_on (k + j) 0 (hexadecimal k n ++ rest) ≡ address_on j n rest
digits_found zero j n rest h small =
    let count : 0 + j ≡ j = omega arith in
    ap (λ i. address_on i 0 rest) count ∙ ap (λ m. address_on j m rest) (sym h)
digits_found (suc k) j n rest h small =
    let count : suc k + j ≡ k + suc j = omega arith in
    let byte : ℕ = hexadecimal_digit (n % 16) in
    ap (address_on (suc k + j) 0)
    (append_assoc (hexadecimal k (n / 16)) (hexadecimal_digit (n % 16) ∷ []) rest)
    ∙ ap (λ i. address_on i 0 (hexadecimal k (n / 16) ++ (hexadecimal_digit (n % 16) ∷ rest))) count
    ∙ digits_found k (suc j) (n / 16) (hexadecimal_digit (n % 16) ∷ rest) h (omega arith)
    ∙ address_more j n rest small

pub address_found : (at : ℕ) (rest : List ℕ) → at < 2 ^ 32
    → address_at (address_text at ++ rest) ≡ Some (at, rest)
unfolding address_text
address_found at rest small = digits_found 8 0 at rest (omega arith) small

pub record IsAddress (at : ℕ) (text rest : List ℕ) : Type 0 where
  pub fits : at < 2 ^ 32
  pub is : text ≡ address_text at ++ rest

-- digits that were read, and those behind them
record Reached (j n : ℕ) (text : List ℕ) (k m : ℕ) (rest : List ℕ) : Type 0 where
  fits : m < 2 ^ 32
  is : hexadecimal j n ++ text ≡ hexadecimal (j + k) m ++ rest

record IsDigit (v byte : ℕ) : Type 0 where
  small : v < 16
  is : hexadecimal_digit v ≡ byte

letter_by : (t : Bool) (v byte : ℕ) → is_digit byte ≡ false
    → (nat_le 97 byte && nat_le byte 102) ≡ t
    → cond t (Some (byte - 97 + 10)) None ≡ Some v → IsDigit v byte
letter_by true v byte d h e =
    let same : byte - 97 + 10 ≡ v = cc in
    let low : 97 ≤ byte = grind (arith, nat_tests) in
    let high : byte ≤ 102 = grind (arith, nat_tests) in
    let large : nat_lt v 10 ≡ false = grind (arith, nat_tests) in
    let back : 87 + v ≡ byte = omega (arith, low, same) in
    record { small = omega (arith, same, high); is = rw (large, back) refl }
letter_by false v byte d h e = absurd (let no : ⊥ = cc in no)

digit_by : (t : Bool) (v byte : ℕ) → is_digit byte ≡ t
    → cond t (Some (byte - 48))
    (cond (nat_le 97 byte && nat_le byte 102) (Some (byte - 97 + 10)) None) ≡ Some v
    → IsDigit v byte
digit_by true v byte h e =
    let same : byte - 48 ≡ v = cc in
    let low : 48 ≤ byte = grind (arith, nat_tests) in
    let high : byte ≤ 57 = grind (arith, nat_tests) in
    let little : nat_lt v 10 ≡ true = grind (arith, nat_tests) in
    let back : 48 + v ≡ byte = omega (arith, low, same) in
    record { small = omega (arith, same, high); is = rw (little, back) refl }
digit_by false v byte h e = letter_by (nat_le 97 byte && nat_le byte 102) v byte h refl e

digit_is : (v byte : ℕ) → hexadecimal_value byte ≡ Some v → IsDigit v byte
digit_is v byte e = digit_by (is_digit byte) v byte refl e

grown_by : (t : Bool) (x more : ℕ) → (t ≡ true → x ≤ 4294967295)
    → cond t (Some x) None ≡ Some more → (more ≡ x) × (x ≤ 4294967295)
grown_by true x more h e = (let same : more ≡ x = cc in same, h refl)
grown_by false x more h e = absurd (let no : ⊥ = cc in no)

grown_is : (n digit more : ℕ) → grown n 16 digit ≡ Some more
    → (more ≡ n * 16 + digit) × (n * 16 + digit ≤ 4294967295)
grown_is n digit more e =
    grown_by (nat_le (n * 16 + digit) 4294967295) (n * 16 + digit) more
    (leb-true (n * 16 + digit) 4294967295) e

module _ (k j n byte m : ℕ) (text rest : List ℕ)
    (others : (more : ℕ) → more < 2 ^ 32 → address_on k more text ≡ Some (m, rest)
    → Reached (suc j) more text k m rest) where
  reached_by : (digit more : Option ℕ) → hexadecimal_value byte ≡ digit
      → option_and_then (grown n 16) digit ≡ more
      → option_and_then (λ a. address_on k a text) more ≡ Some (m, rest)
      → Reached j n (byte ∷ text) (suc k) m rest
  reached_by digit None h g e = absurd (let no : ⊥ = cc in no)
  reached_by None (Some more) h g e = absurd (let no : ⊥ = cc in no)
  reached_by (Some digit) (Some more) h g e =
      let is = grown_is n digit more g in
      let value = digit_is digit byte h in
      let it = others more (omega (arith, is.0, is.1)) e in
      let front : more / 16 ≡ n = omega (arith, is.0, value.small) in
      let last : more % 16 ≡ digit = omega (arith, is.0, value.small) in
      let count : suc j + k ≡ j + suc k = omega arith in
      let spelled : hexadecimal (suc j) more ≡ hexadecimal j n ++ (byte ∷ []) =
      ap (λ a. hexadecimal j a ++ (hexadecimal_digit (more % 16) ∷ [])) front
      ∙ ap (λ b. hexadecimal j n ++ (hexadecimal_digit b ∷ [])) last
      ∙ ap (λ b. hexadecimal j n ++ (b ∷ [])) value.is in
      record {
        fits = it.fits;
        is =
            sym (append_assoc (hexadecimal j n) (byte ∷ []) text)
            ∙ ap (λ digits. digits ++ text) (sym spelled) ∙ it.is
            ∙ ap (λ i. hexadecimal i m ++ rest) count;
      }

joined : (k byte n : ℕ) (text : List ℕ) (digit : Option ℕ)
    → option_and_then (λ d. option_and_then (λ more. address_on k more text) (grown n 16 d)) digit
    ≡ option_and_then (λ a. address_on k a text) (option_and_then (grown n 16) digit)
joined k byte n text None = refl
joined k byte n text (Some digit) = refl

reached : (k j n m : ℕ) (text rest : List ℕ) → n < 2 ^ 32 → address_on k n text ≡ Some (m, rest)
    → Reached j n text k m rest
reached zero j n m text rest small e =
    let pair : (n ≡ m) × (text ≡ rest) = same_pair e in
    let same = pair.0 in
    let behind = pair.1 in
    let count : j ≡ j + 0 = omega arith in
    record {
      fits = omega (arith, same, small);
      is =
          ap (λ a. hexadecimal j a ++ text) same ∙ ap (λ b. hexadecimal j m ++ b) behind
          ∙ ap (λ i. hexadecimal i m ++ rest) count;
    }
reached (suc k) j n m [] rest small e = absurd (let no : ⊥ = cc in no)
reached (suc k) j n m (byte ∷ text) rest small e =
    reached_by k j n byte m text rest
    (λ more p h. reached k (suc j) more m text rest p h) (hexadecimal_value byte)
    (option_and_then (grown n 16) (hexadecimal_value byte)) refl refl
    (sym (joined k byte n text (hexadecimal_value byte)) ∙ e)

pub address_is : (at : ℕ) (text rest : List ℕ) → address_at text ≡ Some (at, rest)
    → IsAddress at text rest
unfolding address_text
address_is at text rest e =
    let it = reached 8 0 0 at text rest (omega arith) e in
    record { fits = it.fits; is = it.is }

-- ---- characters

-- a byte of a name: no zero
pub record IsNamed (byte : ℕ) : Type 0 where
  pub small : byte < 256
  pub some : byte ≢ 0

named_found : (byte : ℕ) → IsNamed byte → stands_for_itself byte ≡ false
    → named_by byte ≡ Some byte
named_found byte h e =
    let a : (byte == 0) ≡ false = grind (arith, nat_tests, h.some) in
    let b : nat_lt 255 byte ≡ false = grind (arith, nat_tests, h.small) in
    rw (a, b, e) refl

character_by : (t : Bool) (byte : ℕ) (rest : List ℕ) → stands_for_itself byte ≡ t → IsNamed byte
    → character_at (cond t (byte ∷ []) (92 ∷ (decimal byte ++ (59 ∷ []))) ++ rest)
    ≡ Some (byte, rest)
character_by true byte rest e h = rw e refl
character_by false byte rest e h =
    let parts : (decimal byte ++ (59 ∷ [])) ++ rest ≡ decimal byte ++ (59 ∷ rest) =
    append_assoc (decimal byte) (59 ∷ []) rest in
    let read : number_at ((decimal byte ++ (59 ∷ [])) ++ rest) ≡ Some (byte, 59 ∷ rest) =
    ap number_at parts ∙ number_found byte (59 ∷ rest) (omega (arith, h.small)) refl in
    ap escaped_at read ∙ (rw (named_found byte h e) refl)

pub character_found : (byte : ℕ) (rest : List ℕ) → IsNamed byte
    → character_at (character_text (pos byte) ++ rest) ≡ Some (byte, rest)
character_found byte rest h = character_by (stands_for_itself byte) byte rest refl h

pub record IsCharacter (byte : ℕ) (text rest : List ℕ) : Type 0 where
  pub named : IsNamed byte
  pub is : text ≡ character_text (pos byte) ++ rest

itself : (byte : ℕ) (text : List ℕ) → stands_for_itself byte ≡ true
    → IsCharacter byte (byte ∷ text) text
itself byte text h =
    let low : 32 ≤ byte = grind (arith, nat_tests) in
    let high : byte ≤ 126 = grind (arith, nat_tests) in
    record {
      named = record
          { small = omega (arith, high); some = λ none. omega (arith, low, none) };
      is = rw h refl;
    }

by_number : (byte : ℕ) (text rest : List ℕ) → byte ≢ 0 → byte ≤ 255
    → stands_for_itself byte ≡ false → text ≡ 92 ∷ (decimal byte ++ (59 ∷ rest))
    → IsCharacter byte text rest
by_number byte text rest some small h is = record {
  named = record { small = omega (arith, small); some = some };
  is =
      is ∙ ap (λ t. 92 ∷ t) (sym (append_assoc (decimal byte) (59 ∷ []) rest)) ∙ (rw h refl);
}

named_is_by : (a b s : Bool) (n byte : ℕ) (behind rest text : List ℕ) → (n == 0) ≡ a
    → nat_lt 255 n ≡ b → stands_for_itself n ≡ s → text ≡ 92 ∷ (decimal n ++ (59 ∷ behind))
    → option_map {U = ℕ × List ℕ} (λ (x : ℕ). (x, behind)) (cond (a || b || s) None (Some n))
    ≡ Some (byte, rest)
    → IsCharacter byte text rest
named_is_by true b s n byte behind rest text h k l is e = absurd (let no : ⊥ = cc in no)
named_is_by false true s n byte behind rest text h k l is e = absurd (let no : ⊥ = cc in no)
named_is_by false false true n byte behind rest text h k l is e = absurd (let no : ⊥ = cc in no)
named_is_by false false false n byte behind rest text h k l is e =
    let pair : (n ≡ byte) × (behind ≡ rest) = same_pair e in
    let same = pair.0 in
    let others = pair.1 in
    let some : n ≢ 0 = λ none. (grind (arith, nat_tests)) in
    let small : n ≤ 255 = grind (arith, nat_tests) in
    subst (λ x. IsCharacter x text rest) same
    (subst (λ r. IsCharacter n text r) others (by_number n text behind some small l is))

escape_by : (found : Option (ℕ × List ℕ)) (byte : ℕ) (text rest : List ℕ)
    → number_at text ≡ found → escaped_at found ≡ Some (byte, rest)
    → IsCharacter byte (92 ∷ text) rest
escape_by None byte text rest h e = absurd (let no : ⊥ = cc in no)
escape_by (Some (n, behind)) byte text rest h e = by (after_word (codes ";") behind) refl e where
  by : (found : Option (List ℕ)) → after_word (codes ";") behind ≡ found
      → option_and_then {U = ℕ × List ℕ} (λ (r : List ℕ).
      option_map {U = ℕ × List ℕ} (λ (x : ℕ). (x, r)) (named_by n)) found
      ≡ Some (byte, rest)
      → IsCharacter byte (92 ∷ text) rest
  by None k e = absurd (let no : ⊥ = cc in no)
  by (Some r) k e =
      let is : text ≡ decimal n ++ (59 ∷ r) =
      (number_is n text behind h).is
      ∙ ap (λ b. decimal n ++ b) (word_is (codes ";") behind r k) in
      named_is_by (n == 0) (nat_lt 255 n) (stands_for_itself n) n byte r rest (92 ∷ text) refl refl
      refl (ap (λ t. 92 ∷ t) is) e

begins_by : (s t : Bool) (first byte : ℕ) (text rest : List ℕ) → stands_for_itself first ≡ s
    → (first == 92) ≡ t
    → cond s (Some (first, text)) (cond t (escaped_at (number_at text)) None) ≡ Some (byte, rest)
    → IsCharacter byte (first ∷ text) rest
begins_by true t first byte text rest h k e =
    let pair : (first ≡ byte) × (text ≡ rest) = same_pair e in
    let same = pair.0 in
    let others = pair.1 in
    subst (λ x. IsCharacter x (first ∷ text) rest) same
    (subst (λ r. IsCharacter first (first ∷ text) r) others (itself first text h))
begins_by false true first byte text rest h k e =
    let sign : 92 ≡ first = grind (arith, nat_tests) in
    subst (λ x. IsCharacter byte (x ∷ text) rest) sign
    (escape_by (number_at text) byte text rest refl e)
begins_by false false first byte text rest h k e = absurd (let no : ⊥ = cc in no)

pub character_is : (byte : ℕ) (text rest : List ℕ) → character_at text ≡ Some (byte, rest)
    → IsCharacter byte text rest
character_is byte [] rest e = absurd (let no : ⊥ = cc in no)
character_is byte (first ∷ text) rest e =
    begins_by (stands_for_itself first) (first == 92) first byte text rest refl refl e

-- ---- operands

pub operand_found : (z : ℤ) (rest : List ℕ) → FitsSigned w32 z → Stops rest
    → operand_at ((32 ∷ signed_decimal z) ++ rest) ≡ Some (z, rest)
operand_found z rest fits h = cell_found z rest fits h

pub record IsOperand (z : ℤ) (text rest : List ℕ) : Type 0 where
  pub fits : FitsSigned w32 z
  pub is : text ≡ (32 ∷ signed_decimal z) ++ rest

pub operand_is : (z : ℤ) (text rest : List ℕ) → operand_at text ≡ Some (z, rest)
    → IsOperand z text rest
operand_is z text rest e = by (after_word (codes " ") text) refl e where
  by : (found : Option (List ℕ)) → after_word (codes " ") text ≡ found
      → option_and_then cell_at found ≡ Some (z, rest) → IsOperand z text rest
  by None h e = absurd (let no : ⊥ = cc in no)
  by (Some behind) h e =
      let it = cell_is z behind rest e in
      record {
        fits = it.fits;
        is = word_is (codes " ") text behind h ∙ ap (λ b. 32 ∷ b) it.is;
      }

-- ---- lists of values

module _ {X : Type 0} (read : List ℕ → Option (X × List ℕ)) where
  -- what stops a run determines it
  pub run_one : (xs ys : List X) (text end other : List ℕ) → Run read xs text end
      → read end ≡ None → Run read ys text other → read other ≡ None → (xs ≡ ys) × (end ≡ other)
  run_one [] [] text end other h e k f = (refl, sym h ∙ k)
  run_one [] (y ∷ ys) text end other h e k f =
      let bad : ◌≡◌ {A = Option (X × List ℕ)} (Some (y, k.0)) None =
      sym k.1.0 ∙ ap read h ∙ e in
      absurd (let no : ⊥ = cc in no)
  run_one (x ∷ xs) [] text end other h e k f =
      let bad : ◌≡◌ {A = Option (X × List ℕ)} (Some (x, h.0)) None =
      sym h.1.0 ∙ ap read k ∙ f in
      absurd (let no : ⊥ = cc in no)
  run_one (x ∷ xs) (y ∷ ys) text end other h e k f =
      let pair : (x ≡ y) × (h.0 ≡ k.0) = same_pair (sym h.1.0 ∙ k.1.0) in
      let same = pair.0 in
      let rest = pair.1 in
      let it =
      run_one xs ys k.0 end other (subst (λ r. Run read xs r end) rest h.1.1) e k.1.1 f in
      let others : xs ≡ ys = it.0 in
      (cc, it.1)

  module _ (spell : X → List ℕ) (fits : X → Type 0) where
    pub run_is : ((x : X) (text rest : List ℕ) → read text ≡ Some (x, rest)
        → fits x × (text ≡ spell x ++ rest))
        → (xs : List X) (text end : List ℕ) → Run read xs text end
        → All fits xs × (text ≡ flat_map spell xs ++ end)
    run_is is [] text end h = (All-nil fits, h)
    run_is is (x ∷ xs) text end h =
        let first = is x text h.0 h.1.0 in
        let others = run_is is xs h.0 end h.1.1 in (
          All-cons fits x xs first.0 others.0,
          first.1 ∙ ap (λ rest. spell x ++ rest) others.1
              ∙ sym (append_assoc (spell x) (flat_map spell xs) end),
        )

    pub run_found : (ready : List ℕ → Type 0)
        → ((x : X) (rest : List ℕ) → fits x → ready rest → read (spell x ++ rest) ≡ Some (x, rest))
        → ((x : X) (rest : List ℕ) → ready (spell x ++ rest))
        → (xs : List X) (end : List ℕ) → All fits xs → ready end
        → Run read xs (flat_map spell xs ++ end) end × ready (flat_map spell xs ++ end)
    run_found ready found starts [] end h k = (refl, k)
    run_found ready found starts (x ∷ xs) end h k =
        let others = run_found ready found starts xs end (All-tail fits x xs h) k in
        let parts : (spell x ++ flat_map spell xs) ++ end ≡ spell x ++ (flat_map spell xs ++ end) =
        append_assoc (spell x) (flat_map spell xs) end in
        let first : read ((spell x ++ flat_map spell xs) ++ end)
        ≡ Some (x, flat_map spell xs ++ end) =
        ap read parts ∙ found x (flat_map spell xs ++ end) (All-head fits x xs h) others.1 in (
          (flat_map spell xs ++ end, (first, others.0)),
          subst ready (sym parts) (starts x (flat_map spell xs ++ end)),
        )
