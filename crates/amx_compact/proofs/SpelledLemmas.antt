-- Bytes one by one: their groups' sum, and whether they go on.
use Rattle.std.proofs.Common.{◌≡◌, ◌+◌, ◌*◌, ◌%◌, ◌^◌, ◌<◌, ◌≤◌, ℕ, List, [], ◌∷◌, ◌++◌, length}
use Rattle.std.proofs.Common.{length-append, ℤ, pos, ◌+ℤ◌, ◌-ℤ◌, ◌*ℤ◌, sym, ap, subst, ◌∙◌, arith}
use Rattle.std.proofs.Common.{w32, to_z, of_z, get_or, take, add-one, FitsSigned}
use Rattle.std.proofs.Math.Nat.{pow-suc}
use Rattle.std.proofs.Math.Seq.{take-suc}
use Rattle.std.proofs.lemmas.Int.{ints, int_wrap-add_left, int_wrap-add_same, int_wrap-mul_left}
use Rattle.std.proofs.lemmas.Int.{wrapping_add_onto, wrapping_mul-bits}
use Rattle.std.proofs.lemmas.List.{length-take-le}
use Rattle.pawn_cells.specs.Cells.{wrap}
use Rattle.amx_compact.specs.Spelled.{group_sum, sign, GoesOn, Ends, Spelled}

group_sum-push : (bytes : List ℕ) (byte : ℕ)
    → group_sum (bytes ++ byte ∷ []) ≡ group_sum bytes * 128 + byte % 128
group_sum-push [] byte = omega arith
group_sum-push (first ∷ rest) byte =
    let more = group_sum-push rest byte in
    let longer : 128 ^ length (rest ++ byte ∷ []) ≡ 128 ^ length rest * 128 =
    ap (λ (n : ℕ). 128 ^ n) (length-append rest (byte ∷ []) ∙ add-one (length rest))
    ∙ pow-suc 128 (length rest) in
    ap (λ (power : ℕ). first % 128 * power + group_sum (rest ++ byte ∷ [])) longer
    ∙ omega (arith, more)

GoesOn-push : (bytes : List ℕ) (byte : ℕ) → GoesOn bytes → 128 ≤ byte → byte < 256
    → GoesOn (bytes ++ byte ∷ [])
GoesOn-push [] byte g h k = (h, k, tt)
GoesOn-push (first ∷ rest) byte g h k = (g.0, g.1, GoesOn-push rest byte g.2 h k)

Ends-push : (bytes : List ℕ) (byte : ℕ) → GoesOn bytes → byte < 128 → Ends (bytes ++ byte ∷ [])
Ends-push [] byte g h = h
Ends-push (first ∷ []) byte g h = (g.0, g.1, h)
Ends-push (first ∷ next ∷ rest) byte g h = (g.0, g.1, Ends-push (next ∷ rest) byte g.2 h)

one_more : (p q g : ℕ) → (pos p -ℤ pos q) *ℤ pos 128 +ℤ pos g ≡ pos (p * 128 + g) -ℤ pos (q * 128)
one_more p q g = omega (arith, ints)

-- one more group, as the code adds it
wrap-one_more : (m p q g : ℕ) → m < 2 ^ 32 → g < 128 → to_z w32 m ≡ wrap (pos p -ℤ pos q)
    → to_z w32 ((m * 128 % 2 ^ 32 + of_z w32 (pos g)) % 2 ^ 32)
    ≡ wrap (pos (p * 128 + g) -ℤ pos (q * 128))
wrap-one_more m p q g h k e =
    let below : m * 128 % 2 ^ 32 < 2 ^ 32 = omega arith in
    let fits : FitsSigned w32 (pos g) = record { sfits = omega arith } in
    wrapping_add_onto w32 (m * 128 % 2 ^ 32) (pos g) below fits
    ∙ ap (λ z. wrap (z +ℤ pos g)) (wrapping_mul-bits w32 m 128 h (omega arith)
    ∙ ap (λ z. wrap (z *ℤ pos 128)) e)
    ∙ int_wrap-add_left w32 (wrap (pos p -ℤ pos q) *ℤ pos 128) (pos g)
    ∙ int_wrap-add_same w32 (wrap (pos p -ℤ pos q) *ℤ pos 128) ((pos p -ℤ pos q) *ℤ pos 128) (pos g)
    (int_wrap-mul_left w32 (pos p -ℤ pos q) (pos 128))
    ∙ ap wrap (one_more p q g)

taken : (bytes : List ℕ) (i : ℕ) → i < length bytes
    → take (i + 1) bytes ≡ take i bytes ++ get_or bytes i 0 ∷ []
taken bytes i h = ap (λ n. take n bytes) (add-one i) ∙ take-suc bytes i 0 h

pub goes_on_next : (bytes : List ℕ) (i : ℕ) → i < length bytes → GoesOn (take i bytes)
    → 128 ≤ get_or bytes i 0 → get_or bytes i 0 < 256 → GoesOn (take (i + 1) bytes)
goes_on_next bytes i h g k l =
    subst GoesOn (sym (taken bytes i h)) (GoesOn-push (take i bytes) (get_or bytes i 0) g k l)

pub sum_next : (bytes : List ℕ) (i m : ℕ) (g : ℤ) → i < length bytes → m < 2 ^ 32
    → g ≡ pos (get_or bytes i 0 % 128)
    → to_z w32 m ≡ wrap (pos (group_sum (take i bytes)) -ℤ pos (sign bytes * 128 ^ i))
    → to_z w32 ((m * 128 % 2 ^ 32 + of_z w32 g) % 2 ^ 32)
    ≡ wrap (pos (group_sum (take (i + 1) bytes)) -ℤ pos (sign bytes * 128 ^ (i + 1)))
sum_next bytes i m g h k e s =
    let byte = get_or bytes i 0 in
    let sum : group_sum (take (i + 1) bytes) ≡ group_sum (take i bytes) * 128 + byte % 128 =
    ap group_sum (taken bytes i h) ∙ group_sum-push (take i bytes) byte in
    let power : 128 ^ (i + 1) ≡ 128 ^ i * 128 =
    ap (λ (n : ℕ). 128 ^ n) (add-one i) ∙ pow-suc 128 i in
    let signed : sign bytes * 128 ^ (i + 1) ≡ sign bytes * 128 ^ i * 128 =
    ap (λ (n : ℕ). sign bytes * n) power ∙ omega arith in
    ap (λ (z : ℤ). to_z w32 ((m * 128 % 2 ^ 32 + of_z w32 z) % 2 ^ 32)) e
    ∙ wrap-one_more m (group_sum (take i bytes)) (sign bytes * 128 ^ i) (byte % 128) k
    (omega arith) s
    ∙ ap (λ (n : ℕ). wrap (pos n -ℤ pos (sign bytes * 128 ^ i * 128))) (sym sum)
    ∙ ap (λ (n : ℕ). wrap (pos (group_sum (take (i + 1) bytes)) -ℤ pos n)) (sym signed)

sign-take : (bytes : List ℕ) (i : ℕ) → sign (take (i + 1) bytes) ≡ sign bytes
sign-take [] i = ap (λ (n : ℕ). sign (take n [])) (add-one i)
sign-take (first ∷ rest) i = ap (λ (n : ℕ). sign (take n (first ∷ rest))) (add-one i)

-- the cell's last byte
pub spelled_at : (bytes : List ℕ) (i : ℕ) (cell : ℤ) → i < length bytes → i < 5
    → GoesOn (take i bytes) → get_or bytes i 0 < 128
    → cell ≡ wrap (pos (group_sum (take (i + 1) bytes)) -ℤ pos (sign bytes * 128 ^ (i + 1)))
    → Spelled cell (take (i + 1) bytes)
spelled_at bytes i cell h k g l s =
    let long : length (take (i + 1) bytes) ≡ i + 1 = length-take-le (i + 1) bytes (omega arith) in
    record {
      ends = subst Ends (sym (taken bytes i h)) (Ends-push (take i bytes) (get_or bytes i 0) g l);
      short = omega (arith, long);
      sum =
          s ∙ ap (λ (n : ℕ). wrap (pos (group_sum (take (i + 1) bytes)) -ℤ pos (n * 128 ^ (i + 1))))
          (sym (sign-take bytes i))
          ∙ ap (λ (n : ℕ). wrap (pos (group_sum (take (i + 1) bytes)) -ℤ pos
          (sign (take (i + 1) bytes) * 128 ^ n))) (sym long);
    }
