-- How the loops of the readers go on, and where they end.
use denote.Ref.{Bor}
use Rattle.std.proofs.Common.{◌≡◌, ◌∙◌, ◌≤◌, ◌<◌, ◌+◌, ◌-◌, ◌++◌, ℕ, suc, ℤ, pos, List, [], ◌∷◌}
use Rattle.std.proofs.Common.{Option, None, Some, length, refl, ap, arith, cond, true, false, Bool}
use Rattle.std.proofs.Common.{length-append}
use Rattle.std.specs.Fmt.{decimal, signed_decimal}
use Rattle.std.specs.Prelude.{option_and_then}
use Rattle.std.proofs.lemmas.List.{nil_from_length}
use Rattle.host_script.specs.Text.{stands_for_itself, character_text}
use Rattle.amx_text.specs.Readers.{Run, Gives, is_digit, grown, number_on, hexadecimal_value}
use Rattle.amx_text.specs.Readers.{address_on, character_at, operand_at}
use Rattle.amx_text.proofs.PartReads.{character_is, operand_is}

-- ---- what a reader answers

pub gives_none : {X : Type 0} {found : Option (X × List ℕ)} {result : Option (X × Bor (List ℕ))}
    → result ≡ None → found ≡ None → Gives found result
gives_none e none = rw e none

-- ---- digits of a number

module _ (number byte : ℕ) (rest : List ℕ) where
  pub digit_read : (more : ℕ) → is_digit byte ≡ true → grown number 10 (byte - 48) ≡ Some more
      → number_on number (byte ∷ rest) ≡ number_on more rest
  digit_read more d g = rw (d, g) refl

  pub number_large : is_digit byte ≡ true → grown number 10 (byte - 48) ≡ None
      → number_on number (byte ∷ rest) ≡ None
  number_large d g = rw (d, g) refl

  pub number_ends : is_digit byte ≡ false
      → number_on number (byte ∷ rest) ≡ Some (number, byte ∷ rest)
  number_ends d = rw d refl

pub number_last : (number : ℕ) (text : List ℕ) → length text ≡ 0
    → number_on number text ≡ Some (number, text)
number_last number text h = rw (nil_from_length text h) refl

-- ---- digits of an address

module _ (place address : ℕ) (text : List ℕ) (within : place < 8) where
  left_is : 8 - place ≡ suc (8 - (place + 1))
  left_is = omega (arith, within)

  pub address_short : length text ≡ 0 → address_on (8 - place) address text ≡ None
  address_short h =
      ap (address_on (8 - place) address) (nil_from_length text h)
      ∙ ap (λ k. address_on k address []) left_is

  module _ (byte : ℕ) (rest : List ℕ) (is : text ≡ byte ∷ rest) where
    address_first : address_on (8 - place) address text
        ≡ address_on (suc (8 - (place + 1))) address (byte ∷ rest)
    address_first =
        ap (address_on (8 - place) address) is
        ∙ ap (λ k. address_on k address (byte ∷ rest)) left_is

    pub no_digit : hexadecimal_value byte ≡ None → address_on (8 - place) address text ≡ None
    no_digit h =
        address_first
        ∙ ap (option_and_then (λ digit. option_and_then (λ more.
        address_on (8 - (place + 1)) more rest) (grown address 16 digit))) h

    address_digit : (digit : ℕ) → hexadecimal_value byte ≡ Some digit
        → address_on (8 - place) address text
        ≡ option_and_then (λ more. address_on (8 - (place + 1)) more rest) (grown address 16 digit)
    address_digit digit h =
        address_first
        ∙ ap (option_and_then (λ d. option_and_then (λ more.
        address_on (8 - (place + 1)) more rest) (grown address 16 d))) h

    pub address_large : (digit : ℕ) → hexadecimal_value byte ≡ Some digit
        → grown address 16 digit ≡ None → address_on (8 - place) address text ≡ None
    address_large digit h g =
        address_digit digit h
        ∙ ap (option_and_then (λ more. address_on (8 - (place + 1)) more rest)) g

    pub address_read : (digit more : ℕ) → hexadecimal_value byte ≡ Some digit
        → grown address 16 digit ≡ Some more
        → address_on (8 - place) address text ≡ address_on (8 - (place + 1)) more rest
    address_read digit more h g =
        address_digit digit h
        ∙ ap (option_and_then (λ m. address_on (8 - (place + 1)) m rest)) g

pub address_done : (place address : ℕ) (text : List ℕ) → 8 ≤ place
    → address_on (8 - place) address text ≡ Some (address, text)
address_done place address text h =
    let none : 8 - place ≡ 0 = omega (arith, h) in
    ap (λ k. address_on k address text) none

-- ---- lists of values

module _ {X : Type 0} (read : List ℕ → Option (X × List ℕ)) where
  -- one more
  pub run_more : (xs : List X) (x : X) (text end rest : List ℕ) → Run read xs text end
      → read end ≡ Some (x, rest) → Run read (xs ++ x ∷ []) text rest
  run_more [] x text end rest h e = (rest, (ap read h ∙ e, refl))
  run_more (y ∷ xs) x text end rest h e =
      (h.0, (h.1.0, run_more xs x h.0 end rest h.1.1 e))

character_some : (t : Bool) (byte : ℕ)
    → 1 ≤ length (cond t (byte ∷ []) (92 ∷ (decimal byte ++ (59 ∷ []))))
character_some true byte = omega arith
character_some false byte = omega arith

pub character_shorter : (byte : ℕ) (text rest : List ℕ) → character_at text ≡ Some (byte, rest)
    → length rest < length text
character_shorter byte text rest e =
    let size : length text ≡ length (character_text (pos byte)) + length rest =
    ap length (character_is byte text rest e).is ∙ length-append (character_text (pos byte)) rest in
    let some : 1 ≤ length (character_text (pos byte)) =
    character_some (stands_for_itself byte) byte in
    omega (arith, size, some)

pub operand_shorter : (z : ℤ) (text rest : List ℕ) → operand_at text ≡ Some (z, rest)
    → length rest < length text
operand_shorter z text rest e =
    let size : length text ≡ length (32 ∷ signed_decimal z) + length rest =
    ap length (operand_is z text rest e).is ∙ length-append (32 ∷ signed_decimal z) rest in
    omega (arith, size)
