-- References by their addresses: a row, a cell of it and the rest of it from one on are where their
-- offsets lead.
use Rattle.std.proofs.Common.{◌≡◌, ◌+◌, ◌*◌, ◌-◌, ◌<◌, ◌≤◌, inl, inr, ℕ, zero, suc, pos, List, []}
use Rattle.std.proofs.Common.{◌∷◌, Some, length, slice_get, refl, sym, ap, subst, ◌∙◌, arith}
use Rattle.std.proofs.Common.{length-append}
use Rattle.pawn_arrays.specs.Sizes.{elements_in}
use Rattle.pawn_meaning.specs.References.{other_sizes}
use Rattle.gen_sim.specs.Pieces.{offsets, vectors_of}
use Rattle.gen_sim.specs.Leads.{span, LeadsHere, LeadsFrom}
use Rattle.gen_sim.proofs.Lists.{got_in_first, got_in_rest}

here : (ks : List ℕ) (first n : ℕ) (sizes : List ℕ) (at a : ℕ) → LeadsHere first n ks sizes at a
    → LeadsFrom ks first n sizes at a
here [] first n sizes at a h = h
here (e ∷ ks) first n sizes at a h = inl h

pub whole_leads : (ks : List ℕ) (first n : ℕ) → LeadsFrom ks first n (n ∷ ks) 0 first
whole_leads ks first n =
    here ks first n (n ∷ ks) 0 first
    (record {
      steps = 0;
      at_is = omega arith;
      cell_is = omega arith;
      behind_is = refl;
      inside = omega arith;
    })

-- ---- vectors

pub length_offsets : (from left each : ℕ) → length (offsets from left each) ≡ left
length_offsets from zero each = refl
length_offsets from (suc left) each = ap suc (length_offsets (from + 1) left each)

pub offset_is : (from left each j : ℕ) → j < left
    → slice_get (offsets from left each) j ≡ Some (pos (4 * (left - j + (from + j) * each)))
offset_is from zero each j h = absurd (omega (arith, h))
offset_is from (suc left) each zero h = ap (λ n. Some (pos n)) (omega arith)
offset_is from (suc left) each (suc j) h =
    offset_is (from + 1) left each j (omega (arith, h)) ∙ ap (λ n. Some (pos n)) (omega arith)

-- ---- steps

-- a row: the offset is read at a + i, and leads from there to the row
pub record RowOf (ks : List ℕ) (first n : ℕ) (sizes : List ℕ) (at a i : ℕ) : Type 0 where
  pub entry : ℕ
  pub offset : ℕ
  pub entry_at : a + i ≡ first + entry
  pub read : slice_get (vectors_of n ks) entry ≡ Some (pos (4 * offset))
  pub leads : LeadsFrom ks first n (other_sizes sizes) (at + i * elements_in (other_sizes sizes))
      (a + i + offset)

row_here : (e : ℕ) (ks : List ℕ) (first n k at a i : ℕ)
    → LeadsHere first n (e ∷ ks) (k ∷ e ∷ ks) at a → i < k
    → RowOf (e ∷ ks) first n (k ∷ e ∷ ks) at a i
row_here e ks first n k at a i h l =
    let j : ℕ = h.steps + i in
    let below : j < n = omega (arith, h.inside, l) in
    let more : ℕ = n - j - 1 in
    let n_is : n ≡ j + 1 + more = omega (arith, below) in
    let ne : n * e ≡ (j + 1 + more) * e = ap (λ x. x * e) n_is in
    record {
      entry = j;
      offset = n - j + j * e;
      entry_at = omega (arith, h.cell_is);
      read =
          got_in_first (offsets 0 n e) (vectors_of (n * e) ks) j _
          (offset_is 0 n e j below ∙ ap (λ x. Some (pos x)) (omega arith));
      leads = inr (here ks (first + n) (n * e) (e ∷ ks) _ _ (record {
        steps = j * e;
        at_is = omega (arith, h.at_is);
        cell_is = omega (arith, h.cell_is, below);
        behind_is = refl;
        inside = omega (arith, ne);
      }));
    }

row_deeper : (e : ℕ) (ks : List ℕ) (first n : ℕ) (sizes : List ℕ) (at a i : ℕ)
    → RowOf ks (first + n) (n * e) sizes at a i → RowOf (e ∷ ks) first n sizes at a i
row_deeper e ks first n sizes at a i r =
    let z : length (offsets 0 n e) ≡ n = length_offsets 0 n e in
    record {
      entry = n + r.entry;
      offset = r.offset;
      entry_at = omega (arith, r.entry_at);
      read =
          subst (λ k. slice_get (vectors_of n (e ∷ ks)) (k + r.entry) ≡ Some (pos (4 * r.offset))) z
          (got_in_rest (offsets 0 n e) (vectors_of (n * e) ks) r.entry _ r.read);
      leads = inr r.leads;
    }

pub row_of : (ks : List ℕ) (first n k e : ℕ) (es : List ℕ) (at a i : ℕ)
    → LeadsFrom ks first n (k ∷ e ∷ es) at a → i < k → RowOf ks first n (k ∷ e ∷ es) at a i
row_of [] first n k e es at a i h l = absurd (let c : ⊥ = clash h.behind_is in c)
  where
    clash : e ∷ es ≡ [] → ⊥
    clash x = cc
row_of (f ∷ ks) first n k e es at a i (inl h) l =
    let same : e ∷ es ≡ f ∷ ks = h.behind_is in
    subst (λ r. RowOf (f ∷ ks) first n (k ∷ r) at a i) (sym same)
    (row_here f ks first n k at a i (subst (λ r. LeadsHere first n (f ∷ ks) (k ∷ r) at a) same h) l)
row_of (f ∷ ks) first n k e es at a i (inr d) l =
    row_deeper f ks first n (k ∷ e ∷ es) at a i (row_of ks (first + n) (n * f) k e es at a i d l)

-- a part of a row, from one of its cells on
in_row : (first n k at a i : ℕ) (sizes : List ℕ) → other_sizes sizes ≡ []
    → LeadsHere first n [] (k ∷ []) at a → i + span sizes ≤ k
    → LeadsHere first n [] sizes (at + i) (a + i)
in_row first n k at a i sizes behind h l = record {
  steps = h.steps + i;
  at_is = omega (arith, h.at_is);
  cell_is = omega (arith, h.cell_is);
  behind_is = behind;
  inside = omega (arith, h.inside, l);
}

-- a cell of a row, and the rest of the row from it on
pub cell_of_row : (ks : List ℕ) (first n k at a i : ℕ) → LeadsFrom ks first n (k ∷ []) at a → i < k
    → LeadsFrom ks first n [] (at + i) (a + i)
cell_of_row [] first n k at a i h l = in_row first n k at a i [] refl h (omega (arith, l))
cell_of_row (f ∷ ks) first n k at a i (inl h) l = absurd (let c : ⊥ = clash h.behind_is in c)
  where
    clash : [] ≡ f ∷ ks → ⊥
    clash x = cc
cell_of_row (f ∷ ks) first n k at a i (inr d) l =
    inr (cell_of_row ks (first + n) (n * f) k at a i d l)

pub rest_of_row : (ks : List ℕ) (first n k at a i : ℕ) → LeadsFrom ks first n (k ∷ []) at a → i < k
    → LeadsFrom ks first n ((k - i) ∷ []) (at + i) (a + i)
rest_of_row [] first n k at a i h l =
    in_row first n k at a i ((k - i) ∷ []) refl h (omega (arith, l))
rest_of_row (f ∷ ks) first n k at a i (inl h) l = absurd (let c : ⊥ = clash h.behind_is in c)
  where
    clash : [] ≡ f ∷ ks → ⊥
    clash x = cc
rest_of_row (f ∷ ks) first n k at a i (inr d) l =
    inr (rest_of_row ks (first + n) (n * f) k at a i d l)

-- a row of cells, or one cell, lies among the object's cells
pub record AmongCells (ks : List ℕ) (first n : ℕ) (sizes : List ℕ) (at a : ℕ) : Type 0 where
  pub cell_is : a ≡ first + length (vectors_of n ks) + at
  pub inside : at + span sizes ≤ elements_in (n ∷ ks)

pub among : (ks : List ℕ) (first n : ℕ) (sizes : List ℕ) (at a : ℕ) → other_sizes sizes ≡ []
    → LeadsFrom ks first n sizes at a → AmongCells ks first n sizes at a
among [] first n sizes at a o h =
    record {
      cell_is = omega (arith, h.cell_is, h.at_is);
      inside = omega (arith, h.at_is, h.inside);
    }
among (e ∷ ks) first n sizes at a o (inl h) = absurd (let c : ⊥ = clash (sym o ∙ h.behind_is) in c)
  where
    clash : [] ≡ e ∷ ks → ⊥
    clash x = cc
among (e ∷ ks) first n sizes at a o (inr d) =
    let r = among ks (first + n) (n * e) sizes at a o d in
    let l = length-append (offsets 0 n e) (vectors_of (n * e) ks) in
    record {
      cell_is = omega (arith, r.cell_is, l, length_offsets 0 n e);
      inside = omega (arith, r.inside);
    }

-- it lies within the object
pub leads_most : (ks : List ℕ) (first n : ℕ) (sizes : List ℕ) (at a : ℕ)
    → LeadsFrom ks first n sizes at a → a ≤ first + length (vectors_of n ks) + elements_in (n ∷ ks)
leads_most [] first n sizes at a h = omega (arith, h.cell_is, h.inside)
leads_most (e ∷ ks) first n sizes at a (inl h) =
    let l = length-append (offsets 0 n e) (vectors_of (n * e) ks) in
    omega (arith, h.cell_is, h.inside, l, length_offsets 0 n e)
leads_most (e ∷ ks) first n sizes at a (inr d) =
    let l = length-append (offsets 0 n e) (vectors_of (n * e) ks) in
    let r = leads_most ks (first + n) (n * e) sizes at a d in
    omega (arith, r, l, length_offsets 0 n e)
