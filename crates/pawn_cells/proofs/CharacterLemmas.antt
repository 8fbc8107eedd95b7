-- The bytes of a cell, the most significant first.
use Rattle.std.proofs.Common.{◌≡◌, ◌≢◌, ◌+◌, ◌-◌, ◌*◌, ◌/◌, ◌%◌, ◌^◌, ◌<◌, ℕ, zero, suc, List, ℤ}
use Rattle.std.proofs.Common.{pos, negsuc, to_z, of_z, refl, sym, ap, ◌∙◌, arith, set, get_or}
use Rattle.std.proofs.Common.{get_or-set_same, get_or-set_other, length-set, to_z-of_z}
use Rattle.std.proofs.lemmas.Grind.{common_steps}
use Rattle.std.proofs.lemmas.Nat.{be_bytes_4}
use Rattle.std.specs.Int.{w32, to_be_bytes, from_be_bytes}
use Rattle.std.proofs.lemmas.Int.{ints, of_z-to_z}
use Rattle.pawn_cells.specs.Cells.{IsCell, bits_of, char_at, character_worth, with_char}

-- a number with another byte k
abbrev pub with_byte : ℕ → ℕ → ℕ → ℕ
with_byte n k byte = n - n / character_worth k % 256 * character_worth k + byte * character_worth k

-- by the bytes it is the same but at k
pub from_be_bytes-set : (n k byte : ℕ) → n < 2 ^ 32 → k < 4
    → from_be_bytes w32 (set (to_be_bytes w32 n) k byte) ≡ with_byte n k byte
from_be_bytes-set n zero byte h k = omega arith
from_be_bytes-set n (suc zero) byte h k = omega arith
from_be_bytes-set n (suc (suc zero)) byte h k = omega arith
from_be_bytes-set n (suc (suc (suc zero))) byte h k = omega arith
from_be_bytes-set n (suc (suc (suc (suc i)))) byte h k = absurd (omega arith)

pub with_byte-below : (n k byte : ℕ) → n < 2 ^ 32 → k < 4 → byte < 256 → with_byte n k byte < 2 ^ 32
with_byte-below n zero byte h k b = omega arith
with_byte-below n (suc zero) byte h k b = omega arith
with_byte-below n (suc (suc zero)) byte h k b = omega arith
with_byte-below n (suc (suc (suc zero))) byte h k b = omega arith
with_byte-below n (suc (suc (suc (suc i)))) byte h k b = absurd (omega arith)

-- byte j of a number, as a list has it
pub byte_is : (n j : ℕ) → j < 4 → get_or (to_be_bytes w32 n) j 0 ≡ n / character_worth j % 256
byte_is n zero h = refl
byte_is n (suc zero) h = refl
byte_is n (suc (suc zero)) h = refl
byte_is n (suc (suc (suc zero))) h = omega arith
byte_is n (suc (suc (suc (suc i)))) h = absurd (omega arith)

byte_below : (n j : ℕ) → get_or (to_be_bytes w32 n) j 0 < 256
byte_below n zero = omega arith
byte_below n (suc zero) = omega arith
byte_below n (suc (suc zero)) = omega arith
byte_below n (suc (suc (suc zero))) = omega arith
byte_below n (suc (suc (suc (suc j)))) = omega arith

to_be_bytes-with_byte : (n k byte : ℕ) → n < 2 ^ 32 → k < 4 → byte < 256
    → to_be_bytes w32 (with_byte n k byte) ≡ set (to_be_bytes w32 n) k byte
to_be_bytes-with_byte n k byte h i b =
    let below : (j : ℕ) → get_or (set (to_be_bytes w32 n) k byte) j 0 < 256 =
    λ j. grind (arith, common_steps, byte_below n) in
    be_bytes_4 _ _ (length-set (to_be_bytes w32 n) k byte) below
    (sym (from_be_bytes-set n k byte h i))

with_byte-same : (n k byte : ℕ) → n < 2 ^ 32 → k < 4 → byte < 256
    → with_byte n k byte / character_worth k % 256 ≡ byte
with_byte-same n k byte h i b =
    sym (byte_is (with_byte n k byte) k i)
    ∙ ap (λ bytes. get_or bytes k 0) (to_be_bytes-with_byte n k byte h i b)
    ∙ get_or-set_same (to_be_bytes w32 n) k byte 0 i

with_byte-other : (n k byte j : ℕ) → n < 2 ^ 32 → k < 4 → byte < 256 → j < 4 → j ≢ k
    → with_byte n k byte / character_worth j % 256 ≡ n / character_worth j % 256
with_byte-other n k byte j h i b l ne =
    sym (byte_is (with_byte n k byte) j l)
    ∙ ap (λ bytes. get_or bytes j 0) (to_be_bytes-with_byte n k byte h i b)
    ∙ get_or-set_other (to_be_bytes w32 n) k j byte 0 ne ∙ byte_is n j l

-- the bits of a cell are below 2^32, and those that make a cell are its bits
bits_below : (a : ℤ) → IsCell a → bits_of a < 2 ^ 32
bits_below (pos n) f = omega (arith, ints, f.sfits)
bits_below (negsuc n) f = omega (arith, ints, f.sfits)

-- what the code writes is the definition
pub is_with_char : (a r : ℤ) (k byte : ℕ) (bytes : List ℕ) → IsCell a → IsCell r → k < 4
    → byte < 256
    → bytes ≡ to_be_bytes w32 (of_z w32 (to_z w32 (of_z w32 a)))
    → r ≡ to_z w32 (from_be_bytes w32 (set bytes k byte))
    → to_z w32 (of_z w32 r) ≡ with_char a k byte
is_with_char a r k byte bytes f g i b spelled read =
    to_z-of_z g ∙ read
    ∙ ap (λ list. to_z w32 (from_be_bytes w32 (set list k byte)))
    (spelled ∙ ap (λ z. to_be_bytes w32 (of_z w32 z)) (to_z-of_z f))
    ∙ ap (to_z w32) (from_be_bytes-set (of_z w32 a) k byte (bits_below a f) i)

-- the character is read back
pub char_at-with_char_same : (a : ℤ) (k byte : ℕ) → IsCell a → k < 4 → byte < 256
    → char_at (with_char a k byte) k ≡ byte
char_at-with_char_same a k byte f i b =
    let h = bits_below a f in
    ap (λ n. n / character_worth k % 256)
    (of_z-to_z w32 (with_byte (bits_of a) k byte) (with_byte-below (bits_of a) k byte h i b))
    ∙ with_byte-same (bits_of a) k byte h i b

-- the others are as they were
pub char_at-with_char_other : (a : ℤ) (k byte j : ℕ) → IsCell a → k < 4 → byte < 256 → j < 4 → j ≢ k
    → char_at (with_char a k byte) j ≡ char_at a j
char_at-with_char_other a k byte j f i b l ne =
    let h = bits_below a f in
    ap (λ n. n / character_worth j % 256)
    (of_z-to_z w32 (with_byte (bits_of a) k byte) (with_byte-below (bits_of a) k byte h i b))
    ∙ with_byte-other (bits_of a) k byte j h i b l ne
