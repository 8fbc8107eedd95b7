-- Addresses of elements, characters, rows and rests, made of an array's address and an index.
use Rattle.std.proofs.Common.{◌≡◌, ◌+◌, ◌-◌, ◌*◌, ◌^◌, ◌<◌, ◌≤◌, inl, inr, ℕ, ℤ, pos, List, [], ◌∷◌}
use Rattle.std.proofs.Common.{length, sym, ap, subst, ◌∙◌, arith, length-append}
use Rattle.std.proofs.lemmas.Int.{ints, int_wrap_fits}
use Rattle.std.specs.Int.{w32}
use Rattle.std.specs.Prelude.{◌+ℤ◌, ◌*ℤ◌}
use Rattle.pawn_cells.specs.Cells.{add, mul, wrap}
use Rattle.pawn_arrays.specs.Sizes.{elements_in}
use Rattle.pawn_meaning.specs.Memory.{Reference}
use Rattle.pawn_meaning.specs.World.{World}
use Rattle.pawn_meaning.specs.References.{first_size, other_sizes, row_at, rest_from, to_cell}
use Rattle.amx_ops.specs.Moves.{Config}
use Rattle.gen_sim.specs.Pieces.{Thing, offsets, vectors_of}
use Rattle.gen_sim.specs.Leads.{span, LeadsFrom, Leads}
use Rattle.gen_sim.specs.View.{View, all_cells, PlacedIn, RefersTo, CellAt}
use Rattle.gen_sim.specs.Stands.{Stands}
use Rattle.gen_sim.proofs.LeadLaws.{length_offsets, row_of, cell_of_row, rest_of_row}
use Rattle.gen_sim.proofs.MemLaws.{Reads, placed_inside}
use Rattle.gen_sim.proofs.WorldLaws.{offset_read}
use Rattle.gen_sim.specs.Site.{Site}
use Rattle.gen_sim.proofs.CallLaws.{small_fits}
use Rattle.gen_sim.proofs.CopyLaws as copies

-- ---- numbers

pub wrapped : (n : ℕ) → n < 2 ^ 31 → wrap (pos n) ≡ pos n
wrapped n h = int_wrap_fits w32 (pos n) (small_fits n h)

pub summed : (a b : ℕ) → a + b < 2 ^ 31 → add (pos a) (pos b) ≡ pos (a + b)
summed a b h =
    let e : pos a +ℤ pos b ≡ pos (a + b) = omega (arith, ints) in ap wrap e ∙ wrapped (a + b) h

pub four_times : (i : ℕ) → 4 * i < 2 ^ 31 → mul (pos 4) (pos i) ≡ pos (4 * i)
four_times i h =
    let e : pos 4 *ℤ pos i ≡ pos (4 * i) = omega (arith, ints) in ap wrap e ∙ wrapped (4 * i) h

-- IDXADDR
pub indexed : (cell i : ℕ) → 4 * (cell + i) < 2 ^ 31
    → add (pos (4 * cell)) (mul (pos 4) (pos i)) ≡ pos (4 * (cell + i))
indexed cell i h =
    ap (λ z. add (pos (4 * cell)) z) (four_times i (omega (arith, h)))
    ∙ summed (4 * cell) (4 * i) (omega (arith, h))
    ∙ ap pos (omega arith)

-- ---- how far a part reaches

leads_span : (ks : List ℕ) (first n : ℕ) (sizes : List ℕ) (at a : ℕ)
    → LeadsFrom ks first n sizes at a
    → a + span sizes ≤ first + length (vectors_of n ks) + elements_in (n ∷ ks)
leads_span [] first n sizes at a h = omega (arith, h.cell_is, h.inside)
leads_span (e ∷ ks) first n sizes at a (inl h) =
    let l = length-append (offsets 0 n e) (vectors_of (n * e) ks) in
    omega (arith, h.cell_is, h.inside, l, length_offsets 0 n e)
leads_span (e ∷ ks) first n sizes at a (inr d) =
    let l = length-append (offsets 0 n e) (vectors_of (n * e) ks) in
    let r = leads_span ks (first + n) (n * e) sizes at a d in
    omega (arith, r, l, length_offsets 0 n e)

module _ (x : Site) (v : View) {pending : List ℤ} {p : ℕ} {w : World} {c : Config}
    (s : Stands x.program x.room v pending p w c) where
  -- a part lies within the machine's cells
  pub refers_inside : (r : Reference) (cell : ℕ) → RefersTo x.program x.room v r cell
      → cell + span r.sizes ≤ all_cells x.program x.room
  refers_inside r cell h = by_sizes h.sizes h.placed h.leads
    where
      by_sizes : (all : List ℕ) → PlacedIn x.program x.room v (Thing r.object all) h.first
          → Leads all h.first r.sizes r.at cell
          → cell + span r.sizes ≤ all_cells x.program x.room
      by_sizes [] placed d = elim d [ ]
      by_sizes (n ∷ ks) placed d =
          let most = leads_span ks h.first n r.sizes r.at cell d in
          elim (placed_inside placed) [
            | inl low_one ↦ omega (arith, most, low_one, s.mem.size)
            | inr high_one ↦ omega (arith, most, high_one.1)
          ]

-- ---- what an index leads to

module _ (x : Site) (v : View) where
  -- an element of one dimension
  pub element_at : (r : Reference) (cell size i : ℕ) → RefersTo x.program x.room v r cell
      → r.sizes ≡ size ∷ [] → i < size
      → CellAt x.program x.room v r.object (r.at + i) (cell + i)
  element_at r cell size i h one below =
      let at = copies.row_at x.program x.room v r cell h (ap other_sizes one) in
      let count : elements_in r.sizes ≡ elements_in (size ∷ []) = ap elements_in one in
      record {
        sizes = at.sizes;
        first = at.first;
        placed = at.placed;
        cell_is = omega (arith, at.cell_is);
        inside = omega (arith, at.inside, count, below);
      }

  pub element_refers : (r : Reference) (cell size i : ℕ) → RefersTo x.program x.room v r cell
      → r.sizes ≡ size ∷ [] → i < size
      → RefersTo x.program x.room v (to_cell r.object (r.at + i)) (cell + i)
  element_refers r cell size i h one below = by_sizes h.sizes h.placed h.leads
    where
      by_sizes : (all : List ℕ) → PlacedIn x.program x.room v (Thing r.object all) h.first
          → Leads all h.first r.sizes r.at cell
          → RefersTo x.program x.room v (to_cell r.object (r.at + i)) (cell + i)
      by_sizes [] placed d = elim d [ ]
      by_sizes (n ∷ ks) placed d = record {
        sizes = n ∷ ks;
        first = h.first;
        placed = placed;
        leads =
            cell_of_row ks h.first n size r.at cell i
            (subst (λ z. LeadsFrom ks h.first n z r.at cell) one d) below;
        alive = h.alive;
      }

  -- the rest from it on
  pub rest_at : (r : Reference) (cell size i : ℕ) → RefersTo x.program x.room v r cell
      → r.sizes ≡ size ∷ [] → i < size
      → RefersTo x.program x.room v (rest_from r i) (cell + i)
  rest_at r cell size i h one below = by_sizes h.sizes h.placed h.leads
    where
      by_sizes : (all : List ℕ) → PlacedIn x.program x.room v (Thing r.object all) h.first
          → Leads all h.first r.sizes r.at cell
          → RefersTo x.program x.room v (rest_from r i) (cell + i)
      by_sizes [] placed d = elim d [ ]
      by_sizes (n ∷ ks) placed d =
          let l =
          rest_of_row ks h.first n size r.at cell i
          (subst (λ z. LeadsFrom ks h.first n z r.at cell) one d) below in
          record {
            sizes = n ∷ ks;
            first = h.first;
            placed = placed;
            leads =
                subst (λ z. LeadsFrom ks h.first n ((first_size z - i) ∷ other_sizes z) (r.at + i)
                (cell + i)) (sym one) l;
            alive = h.alive;
          }

-- a row, whose offset is read where the index leads
pub record RowAt (x : Site) (v : View) (c : Config) (r : Reference) (cell i : ℕ) : Type 0 where
  pub offset : ℕ
  pub reads : Reads c.state (cell + i) (pos (4 * offset))
  pub refers : RefersTo x.program x.room v (row_at r i) (cell + i + offset)

module _ (x : Site) (v : View) {pending : List ℤ} {p : ℕ} {w : World} {c : Config}
    (s : Stands x.program x.room v pending p w c) where
  pub row_found : (r : Reference) (cell size next : ℕ) (inner : List ℕ) (i : ℕ)
      → RefersTo x.program x.room v r cell → r.sizes ≡ size ∷ next ∷ inner → i < size
      → RowAt x v c r cell i
  row_found r cell size next inner i h all below = by_sizes h.sizes h.placed h.leads
    where
      by_sizes : (whole : List ℕ) → PlacedIn x.program x.room v (Thing r.object whole) h.first
          → Leads whole h.first r.sizes r.at cell → RowAt x v c r cell i
      by_sizes [] placed d = elim d [ ]
      by_sizes (n ∷ ks) placed d =
          let o =
          row_of ks h.first n size next inner r.at cell i
          (subst (λ z. LeadsFrom ks h.first n z r.at cell) all d) below in
          let read = offset_read s.mem placed o.entry (pos (4 * o.offset)) o.read in
          record {
            offset = o.offset;
            reads = subst (λ k. Reads c.state k (pos (4 * o.offset))) (sym o.entry_at) read;
            refers = record {
              sizes = n ∷ ks;
              first = h.first;
              placed = placed;
              leads =
                  subst (λ z. LeadsFrom ks h.first n (other_sizes z)
                  (r.at + i * elements_in (other_sizes z)) (cell + i + o.offset))
                  (sym all) o.leads;
              alive = h.alive;
            };
          }
