-- Bytes that are put, a cell or a byte at a time.
use Rattle.std.proofs.Common.{◌≡◌, ◌≢◌, ◌+◌, ◌-◌, ◌*◌, ◌/◌, ◌%◌, ◌^◌, ◌<◌, inl, inr, ℕ, zero, suc}
use Rattle.std.proofs.Common.{ℤ, pos, List, [], ◌∷◌, length, get_or, sym, ap, ◌∙◌, arith}
use Rattle.std.proofs.Common.{get_or-set_same, get_or-set_other, length-set, subst, w32, FitsSigned}
use Rattle.std.specs.Prelude.{slice_set}
use Rattle.std.specs.Int.{cast_signed, from_le_bytes}
use Rattle.std.proofs.lemmas.Int.{of_z-to_z}
use Rattle.pawn_cells.specs.Cells.{char_at, bits_of}
use Rattle.amx_ops.specs.Access.{byte_at}
use Rattle.amx_block.specs.Contents.{cell_at, with_cell}
use Rattle.amx_block.specs.Loaded.{IsPut}
use Rattle.amx_block.proofs.CopyLaws.{same_or_not, others_after}

-- ---- four bytes are a cell

char_of_bits : (v : ℤ) (n k : ℕ) → bits_of v ≡ n → char_at v k ≡ n / 256 ^ (3 - k) % 256
char_of_bits v n k e = ap (λ (b : ℕ). b / 256 ^ (3 - k) % 256) e

module _ (bytes : List ℕ) (at : ℕ) (v : ℤ)
    (below : (k : ℕ) → get_or bytes k 0 < 256)
    (is : v ≡ cast_signed w32 (from_le_bytes w32 (get_or bytes at 0 ∷ get_or bytes (at + 1) 0
    ∷ get_or bytes (at + 2) 0 ∷ get_or bytes (at + 3) 0 ∷ []))) where
  abbrev number : ℕ
  number =
      get_or bytes at 0 + get_or bytes (at + 1) 0 * 256 + get_or bytes (at + 2) 0 * 65536
      + get_or bytes (at + 3) 0 * 16777216

  bits : bits_of v ≡ number
  bits =
      ap bits_of is ∙ of_z-to_z w32 number (omega
      (arith, below at, below (at + 1), below (at + 2), below (at + 3)))

  pub cell_from : (j : ℕ) → j < 4 → char_at v (3 - j) ≡ get_or bytes (at + j) 0
  cell_from zero h =
      let here : at + 0 ≡ at = omega arith in
      char_of_bits v number 3 bits
      ∙ omega (arith, below at, below (at + 1), below (at + 2), below (at + 3))
      ∙ sym (ap (λ k. get_or bytes k 0) here)
  cell_from (suc zero) h =
      char_of_bits v number 2 bits
      ∙ omega (arith, below at, below (at + 1), below (at + 2), below (at + 3))
  cell_from (suc (suc zero)) h =
      char_of_bits v number 1 bits
      ∙ omega (arith, below at, below (at + 1), below (at + 2), below (at + 3))
  cell_from (suc (suc (suc zero))) h =
      char_of_bits v number 0 bits
      ∙ omega (arith, below at, below (at + 1), below (at + 2), below (at + 3))
  cell_from (suc (suc (suc (suc j)))) h = absurd (omega arith)

-- ---- one cell more

module _ (bytes : List ℕ) (old now new : List ℤ) (place : ℕ) (v : ℤ)
    (written : new ≡ slice_set now place v) (here : place < length now) (fit : FitsSigned w32 v)
    (made : (j : ℕ) → j < 4 → char_at v (3 - j) ≡ get_or bytes (4 * place + j) 0)
    (so_far : IsPut bytes (4 * place) old now) where
  at_place : get_or new place (pos 0) ≡ v
  at_place =
      ap (λ cs. get_or cs place (pos 0)) written ∙ get_or-set_same now place v (pos 0) here

  elsewhere : (i : ℕ) → i ≢ place → get_or new i (pos 0) ≡ get_or now i (pos 0)
  elsewhere i ne =
      ap (λ cs. get_or cs i (pos 0)) written ∙ get_or-set_other now place i v (pos 0) ne

  byte_elsewhere : (k : ℕ) → k / 4 ≢ place → byte_at new k ≡ byte_at now k
  byte_elsewhere k ne = ap (λ c. char_at c (3 - k % 4)) (elsewhere (k / 4) ne)

  byte_here : (k : ℕ) → k / 4 ≡ place → byte_at new k ≡ get_or bytes k 0
  byte_here k e =
      let back : 4 * place + k % 4 ≡ k = omega (arith, e) in
      ap (λ i. char_at (get_or new i (pos 0)) (3 - k % 4)) e
      ∙ ap (λ c. char_at c (3 - k % 4)) at_place ∙ made (k % 4) (omega arith)
      ∙ ap (λ i. get_or bytes i 0) back

  pub cell_more : IsPut bytes (4 * (place + 1)) old new
  cell_more = record {
    put = λ k h. elim (same_or_not (k / 4) place) [
      | inl e ↦ byte_here k e
      | inr ne ↦ byte_elsewhere k ne ∙ so_far.put k (omega (arith, h, ne))
    ];
    rest = λ k h. byte_elsewhere k (λ e. omega (arith, e, h)) ∙ so_far.rest k (omega (arith, h));
    others = λ i h. elsewhere i (λ e. omega (arith, e, h)) ∙ so_far.others i (omega (arith, h));
    fits = λ i h. elim (same_or_not i place) [
      | inl e ↦ subst (FitsSigned w32) (sym (ap (λ j. get_or new j (pos 0)) e ∙ at_place)) fit
      | inr ne ↦ subst (FitsSigned w32) (sym (elsewhere i ne))
          (so_far.fits i (omega (arith, h, ne)))
    ];
    size = ap length written ∙ length-set now place v ∙ so_far.size;
  }

-- ---- one byte more

module _ (bytes : List ℕ) (old now new : List ℤ) (at byte : ℕ) (v : ℤ)
    (written : new ≡ with_cell now at v) (fit : FitsSigned w32 (cell_at new at))
    (same : byte_at new at ≡ byte) (is : byte ≡ get_or bytes at 0)
    (others : (k : ℕ) → k ≢ at → byte_at new k ≡ byte_at now k)
    (so_far : IsPut bytes at old now) where
  pub byte_put : IsPut bytes (at + 1) old new
  byte_put = record {
    put = λ k h. elim (same_or_not k at) [
      | inl e ↦ ap (byte_at new) e ∙ same ∙ is ∙ sym (ap (λ i. get_or bytes i 0) e)
      | inr ne ↦ others k ne ∙ so_far.put k (omega (arith, h, ne))
    ];
    rest = λ k h. others k (λ e. omega (arith, e, h)) ∙ so_far.rest k (omega (arith, h));
    others =
        λ i h. others_after now new at i v written (λ e. omega (arith, e, h))
        ∙ so_far.others i (omega (arith, h));
    fits = λ i h. elim (same_or_not (at / 4) i) [
      | inl e ↦ subst (λ j. FitsSigned w32 (get_or new j (pos 0))) e fit
      | inr ne ↦ subst (FitsSigned w32) (sym (others_after now new at i v written ne))
          (so_far.fits i (omega (arith, h, ne)))
    ];
    size = ap length written ∙ length-set now (at / 4) v ∙ so_far.size;
  }
