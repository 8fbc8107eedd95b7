-- How numbers are spelled: of which bytes, and that no two are spelled as one.
use Rattle.std.proofs.Common.{◌≡◌, ◌+◌, ◌*◌, ◌/◌, ◌%◌, ◌^◌, ◌<◌, ◌≤◌, ℕ, zero, suc, ℤ, pos, negsuc}
use Rattle.std.proofs.Common.{Bool, true, ◌&&◌, ◌||◌, List, [], ◌∷◌, ◌++◌, refl, sym, ap, ◌∙◌}
use Rattle.std.proofs.Common.{arith, FitsSigned, w32, le-leb, nat_le, nat_lt, cond, ◌==◌, ◌-◌}
use Rattle.std.specs.List.{list_all}
use Rattle.std.specs.Fmt.{decimal, signed_decimal}
use Rattle.std.specs.Str.Parse.{AllDigits}
use Rattle.std.proofs.lemmas.Bool.{and_from, agree_below_at, eqb-true}
use Rattle.std.proofs.lemmas.Fmt.{decimal_is_IsNumeral, decimal_injective}
use Rattle.std.proofs.lemmas.Fmt.{signed_decimal_injective}
use Rattle.std.proofs.lemmas.Str.Parse.{digit_from_value}
use Rattle.amx_text.specs.Lines.{hexadecimal, hexadecimal_digit, address_text}
use Rattle.amx_text.proofs.PartLaws.{stops, parted, all-append}

-- ---- decimals

-- the bytes of signed decimals: digits, and the sign before them
abbrev pub is_numeral : ℕ → Bool
is_numeral byte = nat_le 45 byte && nat_le byte 57

pub numeral_from : (byte : ℕ) → 45 ≤ byte → byte ≤ 57 → is_numeral byte ≡ true
numeral_from byte low high =
    and_from (nat_le 45 byte) (nat_le byte 57) (le-leb 45 byte low) (le-leb byte 57 high)

digits_numeral : (digits : List ℕ) → AllDigits 10 digits → list_all is_numeral digits ≡ true
digits_numeral [] h = refl
digits_numeral (byte ∷ digits) h =
    let k = digit_from_value byte h.0 in
    and_from (is_numeral byte) (list_all is_numeral digits)
    (numeral_from byte (omega (arith, k)) (omega (arith, k))) (digits_numeral digits h.1)

pub decimal_numeral : (n : ℕ) → n < 2 ^ 32 → list_all is_numeral (decimal n) ≡ true
decimal_numeral n h = digits_numeral (decimal n) (decimal_is_IsNumeral n (omega arith)).0.1

pub signed_numeral : (z : ℤ) → FitsSigned w32 z → list_all is_numeral (signed_decimal z) ≡ true
signed_numeral (pos n) h = decimal_numeral n (omega (arith, h.sfits))
signed_numeral (negsuc n) h = decimal_numeral (suc n) (omega (arith, h.sfits))

-- two numbers in front of what is no numeral
pub record SameNumber {N : Type 0} (m n : N) (r s : List ℕ) : Type 0 where
  pub number : m ≡ n
  pub rest : r ≡ s

pub decimals_parted : (m n : ℕ) (r s : List ℕ) → m < 2 ^ 32 → n < 2 ^ 32
    → stops is_numeral r ≡ true → stops is_numeral s ≡ true → decimal m ++ r ≡ decimal n ++ s
    → SameNumber m n r s
decimals_parted m n r s h k u v e =
    let it =
    parted is_numeral (decimal m) (decimal n) r s (decimal_numeral m h) (decimal_numeral n k) u v
    e in
    record { number = decimal_injective m n (omega arith) (omega arith) it.front; rest = it.rest }

pub signed_parted : (y z : ℤ) (r s : List ℕ) → FitsSigned w32 y → FitsSigned w32 z
    → stops is_numeral r ≡ true → stops is_numeral s ≡ true
    → signed_decimal y ++ r ≡ signed_decimal z ++ s → SameNumber y z r s
signed_parted y z r s h k u v e =
    let it = parted is_numeral (signed_decimal y) (signed_decimal z) r s (signed_numeral y h)
    (signed_numeral z k) u v e in
    record {
      number =
          signed_decimal_injective y z (omega (arith, h.sfits)) (omega (arith, k.sfits))
          it.front;
      rest = it.rest;
    }

-- ---- addresses

-- the bytes of addresses
abbrev pub is_hexadecimal : ℕ → Bool
is_hexadecimal byte = (nat_le 48 byte && nat_le byte 57) || (nat_le 97 byte && nat_le byte 102)

-- the digit of a byte
abbrev pub digit_of : ℕ → ℕ
digit_of byte = cond (nat_lt byte 97) (byte - 48) (byte - 87)

-- what some bytes say behind a number
abbrev pub said_after : ℕ → List ℕ → ℕ
said_after n [] = n
said_after n (byte ∷ bytes) = said_after (n * 16 + digit_of byte) bytes

digit_is : (n : ℕ) → n < 16 → is_hexadecimal (hexadecimal_digit n) ≡ true
digit_is n h =
    agree_below_at (λ n. is_hexadecimal (hexadecimal_digit n)) (λ n. true) 16 n refl h

digit_back : (n : ℕ) → n < 16 → digit_of (hexadecimal_digit n) ≡ n
digit_back n h =
    eqb-true (digit_of (hexadecimal_digit n)) n
    (agree_below_at (λ n. digit_of (hexadecimal_digit n) == n) (λ n. true) 16 n refl h)

hexadecimal_bytes : (k n : ℕ) → list_all is_hexadecimal (hexadecimal k n) ≡ true
hexadecimal_bytes zero n = refl
hexadecimal_bytes (suc k) n =
    all-append is_hexadecimal (hexadecimal k (n / 16)) (hexadecimal_digit (n % 16) ∷ [])
    (hexadecimal_bytes k (n / 16))
    (and_from (is_hexadecimal (hexadecimal_digit (n % 16))) true
    (digit_is (n % 16) (omega arith)) refl)

-- so many digits are enough
abbrev AreEnough : ℕ → ℕ → Type 0
AreEnough zero n = n ≡ 0
AreEnough (suc k) n = AreEnough k (n / 16)

said-append : (n : ℕ) (bytes : List ℕ) (byte : ℕ)
    → said_after n (bytes ++ (byte ∷ [])) ≡ said_after n bytes * 16 + digit_of byte
said-append n [] byte = refl
said-append n (first ∷ bytes) byte = said-append (n * 16 + digit_of first) bytes byte

hexadecimal_back : (k n : ℕ) → AreEnough k n → said_after 0 (hexadecimal k n) ≡ n
hexadecimal_back zero n h = sym h
hexadecimal_back (suc k) n h =
    let back = hexadecimal_back k (n / 16) h in
    let last = digit_back (n % 16) (omega arith) in
    said-append 0 (hexadecimal k (n / 16)) (hexadecimal_digit (n % 16)) ∙ omega arith

pub address_bytes : (at : ℕ) → list_all is_hexadecimal (address_text at) ≡ true
unfolding address_text
address_bytes at = hexadecimal_bytes 8 at

pub address_back : (at : ℕ) → at < 2 ^ 32 → said_after 0 (address_text at) ≡ at
unfolding address_text
address_back at h = hexadecimal_back 8 at (omega arith)

-- two addresses in front of what is no digit
pub addresses_parted : (a b : ℕ) (r s : List ℕ) → a < 2 ^ 32 → b < 2 ^ 32
    → stops is_hexadecimal r ≡ true → stops is_hexadecimal s ≡ true
    → address_text a ++ r ≡ address_text b ++ s → SameNumber a b r s
addresses_parted a b r s h k u v e =
    let it = parted is_hexadecimal (address_text a) (address_text b) r s (address_bytes a)
    (address_bytes b) u v e in
    record {
      number = sym (address_back a h) ∙ ap (said_after 0) it.front ∙ address_back b k;
      rest = it.rest;
    }
