-- The cells of a packed text, four characters at a time.
use Rattle.std.proofs.Common.{◌≡◌, ◌≤◌, ◌+◌, ◌*◌, ◌/◌, drop-drop, ℕ, ℤ, List, [], ◌∷◌, ◌++◌, length}
use Rattle.std.proofs.Common.{drop, get_or, refl, sym, ap, ◌∙◌, arith, append_assoc}
use Rattle.types_rules.specs.Texts.{packed_cell, packed_cells}

-- four characters in front
pub packed_four : (rest : List ℕ) (a b c d : ℕ) → 4 ≤ length rest
    → a ≡ get_or rest 0 a → b ≡ get_or rest 1 b → c ≡ get_or rest 2 c → d ≡ get_or rest 3 d
    → packed_cells rest ≡ packed_cell a b c d ∷ packed_cells (drop 4 rest)
unfolding packed_cells
packed_four [] a b c d le p q r s = absurd (omega (arith, le))
packed_four (x ∷ []) a b c d le p q r s = absurd (omega (arith, le))
packed_four (x ∷ y ∷ []) a b c d le p q r s = absurd (omega (arith, le))
packed_four (x ∷ y ∷ z ∷ []) a b c d le p q r s = absurd (omega (arith, le))
packed_four (x ∷ y ∷ z ∷ w ∷ more) a b c d le p q r s = rw (p, q, r, s) refl

-- so many cells of four characters are made, and the rest of the text goes on from there
pub record PackedSoFar (bytes : List ℕ) (i : ℕ) (cells : List ℤ) : Type 0 where
  pub same : packed_cells bytes ≡ cells ++ packed_cells (drop (4 * i) bytes)

-- one more cell of the rest
pub packed_next : (bytes rest : List ℕ) (i : ℕ) (cell : ℤ) → rest ≡ drop (4 * i) bytes
    → packed_cells rest ≡ cell ∷ packed_cells (drop 4 rest)
    → packed_cells (drop (4 * i) bytes) ≡ cell ∷ packed_cells (drop (4 * (i + 1)) bytes)
packed_next bytes rest i cell e h =
    let n4 : 4 * i + 4 ≡ 4 * (i + 1) = omega arith in
    let further : drop 4 (drop (4 * i) bytes) ≡ drop (4 * (i + 1)) bytes =
    drop-drop 4 (4 * i) bytes ∙ ap (λ (k : ℕ). drop k bytes) n4 in
    ap packed_cells (sym e) ∙ h
    ∙ ap (λ (more : List ℕ). cell ∷ packed_cells (drop 4 more)) e
    ∙ ap (λ (more : List ℕ). cell ∷ packed_cells more) further

pub packed_more : (bytes : List ℕ) (i : ℕ) (cells now : List ℤ) (cell : ℤ)
    → PackedSoFar bytes i cells
    → packed_cells (drop (4 * i) bytes) ≡ cell ∷ packed_cells (drop (4 * (i + 1)) bytes)
    → now ≡ cells ++ cell ∷ [] → PackedSoFar bytes (i + 1) now
packed_more bytes i cells now cell so_far h n = record {
  same = so_far.same
      ∙ ap (λ (more : List ℤ). cells ++ more) h
      ∙ sym (append_assoc cells (cell ∷ []) (packed_cells (drop (4 * (i + 1)) bytes)))
      ∙ ap (λ (front : List ℤ). front ++ packed_cells (drop (4 * (i + 1)) bytes)) (sym n);
}
