-- Compact cells among the bytes of other cells: where each one's bytes begin, and what they spell.
use Rattle.std.proofs.Common.{◌≡◌, ◌+◌, ◌-◌, ◌*◌, ◌/◌, ◌%◌, ◌^◌, ◌<◌, ◌≤◌, ℕ, zero, suc, List, []}
use Rattle.std.proofs.Common.{◌∷◌, ◌++◌, length, length-append, append_assoc, ℤ, pos, neg_ℤ, ◌+ℤ◌}
use Rattle.std.proofs.Common.{◌-ℤ◌, ◌*ℤ◌, get_or, refl, sym, ap, subst, ◌∙◌, arith, w32, FitsSigned}
use Rattle.std.proofs.Math.Nat.{pow-suc}
use Rattle.std.proofs.lemmas.Int.{ints, int_wrap_fits, int_wrap-add_left, int_wrap-add_same}
use Rattle.std.proofs.lemmas.Int.{int_wrap-mul_left}
use Rattle.std.proofs.lemmas.List.{get_or_append_left, get_or-append_right}
use Rattle.pawn_cells.specs.Cells.{wrap}
use Rattle.amx_ops.specs.Access.{byte_at}
use Rattle.amx_block.specs.Packed.{groups, IsPiece, IsPacked}
use Rattle.amx_compact.specs.Causes.{Leaves}
use Rattle.amx_compact.specs.Fits.{Fits}
use Rattle.amx_compact.specs.Spelled.{group_sum, Ends, Spelled, SpelledAll}

-- ---- where the bytes of each cell begin

abbrev cuts : (values : List ℤ) (bytes : List ℕ) → SpelledAll values bytes → ℕ → ℕ
cuts [] bytes s k = 0
cuts (value ∷ values) bytes s zero = 0
cuts (value ∷ values) bytes s (suc k) = length s.0 + cuts values s.1 s.4 k

cuts_first : (values : List ℤ) (bytes : List ℕ) (s : SpelledAll values bytes)
    → cuts values bytes s 0 ≡ 0
cuts_first [] bytes s = refl
cuts_first (value ∷ values) bytes s = refl

cuts_last : (values : List ℤ) (bytes : List ℕ) (s : SpelledAll values bytes)
    → cuts values bytes s (length values) ≡ length bytes
cuts_last [] bytes s = sym (ap length s)
cuts_last (value ∷ values) bytes s =
    omega (arith, cuts_last values s.1 s.4, length-append s.0 s.1, ap length s.3)

-- what stands in front of them, and behind
leaves : (values : List ℤ) (bytes : List ℕ) (s : SpelledAll values bytes) (k : ℕ)
    → k ≤ length values
    → (rest : List ℕ) × Leaves bytes k rest × (cuts values bytes s k + length rest ≡ length bytes)
leaves values bytes s zero h = (
  bytes,
  record { front = []; cells = []; spelled = refl; counted = refl; whole = refl },
  omega (arith, cuts_first values bytes s),
)
leaves [] bytes s (suc k) h = absurd (omega (arith, h))
leaves (value ∷ values) bytes s (suc k) h =
    let l = leaves values s.1 s.4 k (omega (arith, h)) in (
      l.0,
      record {
        front = s.0 ++ l.1.front;
        cells = value ∷ l.1.cells;
        spelled = (s.0, l.1.front, s.2, refl, l.1.spelled);
        counted = ap suc l.1.counted;
        whole =
            s.3 ∙ ap (λ r. s.0 ++ r) l.1.whole ∙ sym (append_assoc s.0 l.1.front l.0);
      },
      omega (arith, l.2, length-append s.0 s.1, ap length s.3),
    )

cuts_fit : (values : List ℤ) (bytes : List ℕ) (s : SpelledAll values bytes) → Fits bytes → (k : ℕ)
    → k ≤ length values → cuts values bytes s k ≤ 4 * k
cuts_fit values bytes s fits k h =
    let l = leaves values bytes s k h in omega (arith, fits k l.0 l.1, l.2)

-- all of them
pub leaves_whole : (values : List ℤ) (bytes : List ℕ) → SpelledAll values bytes → Fits bytes
    → length bytes ≤ 4 * length values
leaves_whole values bytes s fits =
    omega (
      arith,
      cuts_last values bytes s,
      cuts_fit values bytes s fits (length values) (omega arith),
    )

-- ---- bytes that lie among the bytes of cells

abbrev pub LieAt : List ℤ → ℕ → List ℕ → Type 0
LieAt cells at bytes = (k : ℕ) → k < length bytes → byte_at cells (at + k) ≡ get_or bytes k 0

module _ (cells : List ℤ) (at : ℕ) (bytes front rest : List ℕ) (lie : LieAt cells at bytes)
    (whole : bytes ≡ front ++ rest) where
  size : length bytes ≡ length front + length rest
  size = ap length whole ∙ length-append front rest

  front_lies : LieAt cells at front
  front_lies k h =
      lie k (omega (arith, h, size)) ∙ ap (λ b. get_or b k 0) whole
      ∙ get_or_append_left front rest 0 k h

  rest_lies : LieAt cells (at + length front) rest
  rest_lies k h =
      let place : at + length front + k ≡ at + (length front + k) = omega arith in
      let back : length front + k - length front ≡ k = omega arith in
      ap (byte_at cells) place ∙ lie (length front + k) (omega (arith, h, size))
      ∙ ap (λ b. get_or b (length front + k) 0) whole
      ∙ get_or-append_right front rest (length front) (length front + k) 0 refl (omega arith)
      ∙ ap (λ j. get_or rest j 0) back

-- ---- the bytes of one cell

ends_some : (front : List ℕ) → Ends front → 0 < length front
ends_some [] e = absurd e
ends_some (byte ∷ rest) e = omega arith

ends_goes_on : (front : List ℕ) (k : ℕ) → Ends front → suc k < length front
    → 128 ≤ get_or front k 0
ends_goes_on [] k e h = absurd e
ends_goes_on (byte ∷ []) k e h = absurd (omega (arith, h))
ends_goes_on (byte ∷ next ∷ rest) zero e h = e.0
ends_goes_on (byte ∷ next ∷ rest) (suc k) e h =
    ends_goes_on (next ∷ rest) k e.2 (omega (arith, h))

ends_last : (front : List ℕ) → Ends front → get_or front (length front - 1) 0 < 128
ends_last [] e = absurd e
ends_last (last ∷ []) e = e
ends_last (byte ∷ next ∷ rest) e =
    let place : length (byte ∷ next ∷ rest) - 1 ≡ suc (length (next ∷ rest) - 1) = omega arith in
    subst (λ k. get_or (byte ∷ next ∷ rest) k 0 < 128) (sym place) (ends_last (next ∷ rest) e.2)

piece_of : (cells : List ℤ) (at : ℕ) (front : List ℕ) → Ends front → LieAt cells at front
    → IsPiece cells at (at + length front)
piece_of cells at front e lie =
    let some = ends_some front e in
    let last : at + length front - 1 ≡ at + (length front - 1) = omega (arith, some) in
    record {
      some = omega (arith, some);
      goes_on =
          λ k l h.
          let back : k ≡ at + (k - at) = omega (arith, l) in
          subst (λ b. 128 ≤ b)
          (sym (ap (byte_at cells) back ∙ lie (k - at) (omega (arith, l, h))))
          (ends_goes_on front (k - at) e (omega (arith, l, h)));
      ends =
          subst (λ b. b < 128)
          (sym (ap (byte_at cells) last ∙ lie (length front - 1) (omega (arith, some))))
          (ends_last front e);
    }

-- one group more
more_groups : (cells : List ℤ) (at m p q g : ℕ) → groups cells at m ≡ wrap (pos p -ℤ pos q)
    → byte_at cells (at + m) ≡ g
    → groups cells at (suc m) ≡ wrap (pos (p * 128 + g % 128) -ℤ pos (q * 128))
more_groups cells at m p q g so_far is =
    let sum : (pos p -ℤ pos q) *ℤ pos 128 +ℤ pos (g % 128)
    ≡ pos (p * 128 + g % 128) -ℤ pos (q * 128) = omega (arith, ints) in
    ap (λ (b : ℕ). wrap (wrap (groups cells at m *ℤ pos 128) +ℤ pos (b % 128))) is
    ∙ ap (λ (z : ℤ). wrap (wrap (z *ℤ pos 128) +ℤ pos (g % 128))) so_far
    ∙ int_wrap-add_left w32 (wrap (pos p -ℤ pos q) *ℤ pos 128) (pos (g % 128))
    ∙ int_wrap-add_same w32 (wrap (pos p -ℤ pos q) *ℤ pos 128) ((pos p -ℤ pos q) *ℤ pos 128)
    (pos (g % 128)) (int_wrap-mul_left w32 (pos p -ℤ pos q) (pos 128))
    ∙ ap wrap sum

-- those of a list
all_groups : (cells : List ℤ) (at m p q : ℕ) (rest : List ℕ)
    → groups cells at m ≡ wrap (pos p -ℤ pos q) → LieAt cells (at + m) rest
    → groups cells at (m + length rest)
    ≡ wrap (pos (p * 128 ^ length rest + group_sum rest) -ℤ pos (q * 128 ^ length rest))
all_groups cells at m p q [] so_far lie =
    let none : m + 0 ≡ m = omega arith in
    let first : p ≡ p * 1 + 0 = omega arith in
    let second : q ≡ q * 1 = omega arith in
    ap (groups cells at) none ∙ so_far ∙ ap (λ (n : ℕ). wrap (pos n -ℤ pos q)) first
    ∙ ap (λ (n : ℕ). wrap (pos (p * 1 + 0) -ℤ pos n)) second
all_groups cells at m p q (byte ∷ rest) so_far lie =
    let here : at + m ≡ at + m + 0 = omega arith in
    let step = more_groups cells at m p q byte so_far
    (ap (byte_at cells) here ∙ lie 0 (omega arith)) in
    let next : LieAt cells (at + suc m) rest = λ k h.
    let place : at + suc m + k ≡ at + m + suc k = omega arith in
    ap (byte_at cells) place ∙ lie (suc k) (omega (arith, h)) in
    let count : m + suc (length rest) ≡ suc m + length rest = omega arith in
    let power : 128 ^ suc (length rest) ≡ 128 ^ length rest * 128 = pow-suc 128 (length rest) in
    let first : (p * 128 + byte % 128) * 128 ^ length rest + group_sum rest
    ≡ p * 128 ^ suc (length rest) + (byte % 128 * 128 ^ length rest + group_sum rest) =
    let apart : (p * 128 + byte % 128) * 128 ^ length rest + group_sum rest
    ≡ p * (128 ^ length rest * 128) + (byte % 128 * 128 ^ length rest + group_sum rest) =
    omega arith in
    apart ∙ sym (ap (λ (n : ℕ). p * n + (byte % 128 * 128 ^ length rest + group_sum rest)) power) in
    let second : q * 128 * 128 ^ length rest ≡ q * 128 ^ suc (length rest) =
    let apart : q * 128 * 128 ^ length rest ≡ q * (128 ^ length rest * 128) = omega arith in
    apart ∙ sym (ap (λ (n : ℕ). q * n) power) in
    ap (groups cells at) count
    ∙ all_groups cells at (suc m) (p * 128 + byte % 128) (q * 128) rest step next
    ∙ ap (λ (n : ℕ). wrap (pos n -ℤ pos (q * 128 * 128 ^ length rest))) first
    ∙ ap (λ (n : ℕ). wrap (pos (p * 128 ^ suc (length rest)
    + (byte % 128 * 128 ^ length rest + group_sum rest)) -ℤ pos n)) second

no_groups : (byte : ℕ) → neg_ℤ (pos (byte / 64 % 2)) ≡ wrap (pos 0 -ℤ pos (byte / 64 % 2))
no_groups byte =
    let s = byte / 64 % 2 in
    let fits : FitsSigned w32 (pos 0 -ℤ pos s) = omega (arith, ints) in
    let same : neg_ℤ (pos s) ≡ pos 0 -ℤ pos s = omega (arith, ints) in
    same ∙ sym (int_wrap_fits w32 (pos 0 -ℤ pos s) fits)

value_of : (cells : List ℤ) (at : ℕ) (value : ℤ) (front : List ℕ) → Spelled value front
    → LieAt cells at front → groups cells at (length front) ≡ value
value_of cells at value [] s lie = absurd s.ends
value_of cells at value (byte ∷ rest) s lie =
    let front = byte ∷ rest in
    let here : at ≡ at + 0 = omega arith in
    let first : groups cells at 0 ≡ wrap (pos 0 -ℤ pos (byte / 64 % 2)) =
    ap (λ (b : ℕ). neg_ℤ (pos (b / 64 % 2))) (ap (byte_at cells) here ∙ lie 0 (omega arith))
    ∙ no_groups byte in
    let lies : LieAt cells (at + 0) front = subst (λ a. LieAt cells a front) here lie in
    let all = all_groups cells at 0 0 (byte / 64 % 2) front first lies in
    let count : length front ≡ 0 + length front = omega arith in
    let sum : 0 * 128 ^ length front + group_sum front ≡ group_sum front = omega arith in
    ap (groups cells at) count ∙ all
    ∙ ap (λ (n : ℕ). wrap (pos n -ℤ pos (byte / 64 % 2 * 128 ^ length front))) sum
    ∙ sym s.sum

-- ---- the bytes of each cell

-- a piece, and the number that it spells
record IsOf (cells : List ℤ) (value : ℤ) (start end : ℕ) : Type 0 where
  piece : IsPiece cells start end
  spells : groups cells start (end - start) ≡ value

of_front : (cells : List ℤ) (at : ℕ) (value : ℤ) (front : List ℕ) (start end : ℕ)
    → Spelled value front → LieAt cells at front → at ≡ start → at + length front ≡ end
    → IsOf cells value start end
of_front cells at value front start end s lie first last =
    let count : at + length front - at ≡ length front = omega arith in
    let here : IsOf cells value at (at + length front) =
    record {
      piece = piece_of cells at front s.ends lie;
      spells = ap (groups cells at) count ∙ value_of cells at value front s lie;
    } in
    subst (λ e. IsOf cells value start e) last
    (subst (λ b. IsOf cells value b (at + length front)) first here)

of_each : (values : List ℤ) (bytes : List ℕ) (s : SpelledAll values bytes) (cells : List ℤ) (at : ℕ)
    → LieAt cells at bytes → (k : ℕ) → k < length values
    → IsOf cells (get_or values k (pos 0)) (at + cuts values bytes s k)
    (at + cuts values bytes s (suc k))
of_each [] bytes s cells at lie k h = absurd (omega (arith, h))
of_each (value ∷ values) bytes s cells at lie zero h =
    of_front cells at value s.0 (at + 0) (at + (length s.0 + cuts values s.1 s.4 0)) s.2
    (front_lies cells at bytes s.0 s.1 lie s.3) (omega arith)
    (omega (arith, cuts_first values s.1 s.4))
of_each (value ∷ values) bytes s cells at lie (suc k) h =
    let first : at + length s.0 + cuts values s.1 s.4 k
    ≡ at + (length s.0 + cuts values s.1 s.4 k) = omega arith in
    let last : at + length s.0 + cuts values s.1 s.4 (suc k)
    ≡ at + (length s.0 + cuts values s.1 s.4 (suc k)) = omega arith in
    let it = of_each values s.1 s.4 cells (at + length s.0)
    (rest_lies cells at bytes s.0 s.1 lie s.3) k (omega (arith, h)) in
    subst (λ e. IsOf cells (get_or values k (pos 0)) (at + (length s.0 + cuts values s.1 s.4 k)) e)
    last (subst (λ b. IsOf cells (get_or values k (pos 0)) b
    (at + length s.0 + cuts values s.1 s.4 (suc k))) first it)

-- so many cells are the compact form of others
pub record Packs (cells : List ℤ) (bytes count : ℕ) (values : List ℤ) : Type 0 where
  pub packed : IsPacked cells bytes count
  pub value : (k : ℕ) → k < count
      → groups cells (packed.cut k) (packed.cut (suc k) - packed.cut k) ≡ get_or values k (pos 0)

pub packs : (values : List ℤ) (bytes : List ℕ) (cells : List ℤ) (count : ℕ)
    → SpelledAll values bytes → Fits bytes → LieAt cells 0 bytes → length values ≡ count
    → count ≤ length cells → Packs cells (length bytes) count values
packs values bytes cells count s fits lie counted within =
    let each : (k : ℕ) → k < length values
    → IsOf cells (get_or values k (pos 0)) (cuts values bytes s k) (cuts values bytes s (suc k)) =
    λ k h.
    let none : (n : ℕ) → 0 + n ≡ n = λ n. omega arith in
    subst (λ e. IsOf cells (get_or values k (pos 0)) (cuts values bytes s k) e)
    (none (cuts values bytes s (suc k)))
    (subst (λ b. IsOf cells (get_or values k (pos 0)) b (0 + cuts values bytes s (suc k)))
    (none (cuts values bytes s k)) (of_each values bytes s cells 0 lie k h)) in
    subst (λ n. Packs cells (length bytes) n values) counted record {
      packed =
          record {
            cut = cuts values bytes s;
            first = cuts_first values bytes s;
            last = cuts_last values bytes s;
            fits = cuts_fit values bytes s fits;
            piece = λ k h. (each k h).piece;
            within = omega (arith, counted, within);
          };
      value = λ k h. (each k h).spells;
    }
