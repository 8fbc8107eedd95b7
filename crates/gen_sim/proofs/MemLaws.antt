-- Reads and writes of memory, once for all kinds of pieces.
use Rattle.std.proofs.Common.{◌≡◌, ◌+◌, ◌*◌, ◌/◌, ◌%◌, ◌<◌, ◌≤◌, ◌⊎◌, inl, inr, ℕ, ℤ, pos, List}
use Rattle.std.proofs.Common.{◌∷◌, ◌++◌, Some, Bool, true, false, ◌==◌, ◌||◌, length, take, drop}
use Rattle.std.proofs.Common.{slice_get, get_or, refl, sym, ap, subst, ◌∙◌, arith, append_assoc}
use Rattle.std.proofs.Common.{length-append, nat_le, nat_lt, le-leb, lt-ltb, eq-eqb}
use Rattle.std.proofs.lemmas.Option.{slice_get_within}
use Rattle.std.specs.Prelude.{All}
use Rattle.std.proofs.lemmas.List.Elements.{All-get_or}
use Rattle.pawn_cells.specs.Cells.{IsCell}
use Rattle.pawn_meaning.specs.Memory.{Memory, put}
use Rattle.amx_ops.specs.State.{State, stp, cell_at}
use Rattle.amx_ops.specs.Access.{is_live}
use Rattle.gen_sim.specs.Pieces.{Piece, Fixed, Thing, Automaton, Each, IsThere, cells_in, image}
use Rattle.gen_sim.specs.Pieces.{extent, total}
use Rattle.gen_sim.specs.Places.{Apart, StandsIn, InLow, InHigh, Placed}
use Rattle.gen_sim.specs.Mem.{row, Mem}
use Rattle.gen_sim.proofs.Lists.{put_fits}
use Rattle.gen_sim.proofs.PieceLaws.{LeavesPieces, each_both, length_cells, length_image}
use Rattle.gen_sim.proofs.PieceLaws.{total-append, piece_there, row_has, row_holds, row_put}
use Rattle.gen_sim.proofs.PieceLaws.{row_there}

-- ---- where pieces stand

from_fixed : (piece : Piece) (cells : List ℤ) → Apart piece (Fixed cells)
from_fixed (Fixed others) cells = tt
from_fixed (Thing name sizes) cells = tt
from_fixed (Automaton a) cells = tt

module _ {N : ℕ} {low high : List Piece} {piece : Piece} {first : ℕ} where
  at_low : InLow N low high piece first → (between : List ℤ)
      → StandsIn piece (row low between high) first
  at_low p between = record {
    before = p.stands.before;
    after = p.stands.after ++ Fixed between ∷ high;
    split =
        ap (λ l. l ++ Fixed between ∷ high) p.stands.split
        ∙ append_assoc p.stands.before (piece ∷ p.stands.after) (Fixed between ∷ high);
    first_is = p.stands.first_is;
    not_before = p.stands.not_before;
    not_after =
        each_both (Apart piece) p.stands.after (Fixed between ∷ high) p.stands.not_after
        (from_fixed piece between, p.apart);
  }

  at_high : InHigh N low high piece first → (between : List ℤ)
      → total low + (length between + total high) ≡ N
      → StandsIn piece (row low between high) first
  at_high p between f = record {
    before = low ++ Fixed between ∷ p.stands.before;
    after = p.stands.after;
    split =
        ap (λ l. low ++ Fixed between ∷ l) p.stands.split
        ∙ sym (append_assoc low (Fixed between ∷ p.stands.before) (piece ∷ p.stands.after));
    first_is =
        let a = total-append low (Fixed between ∷ p.stands.before) in
        omega (arith, a, p.stands.first_is, p.place, f);
    not_before =
        each_both (Apart piece) low (Fixed between ∷ p.stands.before) p.apart
        (from_fixed piece between, p.stands.not_before);
    not_after = p.stands.not_after;
  }

  -- whatever lies between low and high
  pub placed_at : Placed N low high piece first → (between : List ℤ)
      → total low + (length between + total high) ≡ N
      → StandsIn piece (row low between high) first
  placed_at p between f = elim p.where_it_is [
    | inl l ↦ at_low l between
    | inr h ↦ at_high h between f
  ]

  -- its cells are live
  pub placed_inside : Placed N low high piece first
      → (first + extent piece ≤ total low) ⊎ ((N ≤ first + total high) × (first + extent piece ≤ N))
  placed_inside p = elim p.where_it_is [
    | inl l ↦ inl (let a = total-append l.stands.before (piece ∷ l.stands.after) in
        let b = ap total l.stands.split in
        omega (arith, a, b, l.stands.first_is))
    | inr h ↦ inr (let a = total-append h.stands.before (piece ∷ h.stands.after) in
        let b = ap total h.stands.split in
        (omega (arith, h.place), omega (arith, a, b, h.place, h.stands.first_is)))
  ]

  -- with more pieces on the stack
  pub placed_above : (extra : List Piece) → Each (Apart piece) extra → Placed N low high piece first
      → Placed N low (extra ++ high) piece first
  placed_above extra a p = elim p.where_it_is [
    | inl l ↦ record {
      where_it_is = inl
          (record { stands = l.stands; apart = each_both (Apart piece) extra high a l.apart });
    }
    | inr h ↦ record {
      where_it_is = inr (record {
        behind = total extra + h.behind;
        stands = record {
          before = extra ++ h.stands.before;
          after = h.stands.after;
          split =
              ap (λ l. extra ++ l) h.stands.split
              ∙ sym (append_assoc extra h.stands.before (piece ∷ h.stands.after));
          first_is =
              let b = total-append extra h.stands.before in omega (arith, b, h.stands.first_is);
          not_before = each_both (Apart piece) extra h.stands.before a h.stands.not_before;
          not_after = h.stands.not_after;
        };
        apart = h.apart;
        place = let b = total-append extra high in omega (arith, b, h.place);
      });
    }
  ]

  -- and with more on the heap
  pub placed_behind : (extra : List Piece) → Each (Apart piece) extra
      → Placed N low high piece first → Placed N (low ++ extra) high piece first
  placed_behind extra a p = elim p.where_it_is [
    | inl l ↦ record {
      where_it_is = inl (record {
        stands = record {
          before = l.stands.before;
          after = l.stands.after ++ extra;
          split =
              ap (λ x. x ++ extra) l.stands.split
              ∙ append_assoc l.stands.before (piece ∷ l.stands.after) extra;
          first_is = l.stands.first_is;
          not_before = l.stands.not_before;
          not_after = each_both (Apart piece) l.stands.after extra l.stands.not_after a;
        };
        apart = l.apart;
      });
    }
    | inr h ↦ record {
      where_it_is = inr (record {
        behind = h.behind;
        stands = h.stands;
        apart = each_both (Apart piece) low extra h.apart a;
        place = h.place;
      });
    }
  ]

-- ---- accesses

-- a cell of the memory, by its number
pub record Reads (s : State) (a : ℕ) (v : ℤ) : Type 0 where
  pub live : is_live s (4 * a) ≡ true
  pub value : cell_at s (4 * a) ≡ v
  pub fits : IsCell v

total_row : (low : List Piece) (between : List ℤ) (high : List Piece)
    → total (row low between high) ≡ total low + (length between + total high)
total_row low between high = total-append low (Fixed between ∷ high)

module _ {N : ℕ} {low : List Piece} {pending : List ℤ} {high : List Piece} {m : Memory} {s : State}
    (mem : Mem N low pending high m s) where
  pub count_cells : length s.cells ≡ N
  count_cells =
      ap length mem.cells ∙ length_image m (row low (mem.free ++ pending) high) mem.there
      ∙ total_row low (mem.free ++ pending) high ∙ mem.size

  -- the free cells lie between HEA and STK, and all others are in use
  pub gap : s.stk ≡ s.hea + 4 * length mem.free
  gap = omega (arith, mem.hea, mem.stk)

  pub in_use : total low + (length mem.free + length pending + total high) ≡ N
  in_use = omega (arith, mem.size, length-append mem.free pending)

  pub live_low : (a : ℕ) → a < total low → is_live s (4 * a) ≡ true
  live_low a h =
      let x : (4 * a % 4 == 0) ≡ true = eq-eqb _ _ (omega arith) in
      let y : nat_lt (4 * a) s.hea ≡ true = lt-ltb _ _ (omega (arith, mem.hea, h)) in rw (x, y) refl

  pub live_high : (a : ℕ) → total low + length mem.free ≤ a → a < N → is_live s (4 * a) ≡ true
  live_high a h g =
      let x : (4 * a % 4 == 0) ≡ true = eq-eqb _ _ (omega arith) in
      let y : nat_le s.stk (4 * a) ≡ true = le-leb _ _ (omega (arith, mem.stk, h)) in
      let z : nat_lt (4 * a) (stp s) ≡ true = lt-ltb _ _ (omega (arith, g, count_cells)) in
      rw (x, y, z) (or_true (nat_lt (4 * a) s.hea))
    where
      or_true : (b : Bool) → (b || true) ≡ true
      or_true true = refl
      or_true false = refl

  pub cell_is : (a : ℕ) (v : ℤ) → get_or (image m (row low (mem.free ++ pending) high)) a (pos 0)
      ≡ v → cell_at s (4 * a) ≡ v
  cell_is a v e = let i : 4 * a / 4 ≡ a = omega arith in rw (i, mem.cells) e

  pub fits_at : (a : ℕ) (v : ℤ) → a < N → cell_at s (4 * a) ≡ v → IsCell v
  fits_at a v h e =
      let i : 4 * a / 4 ≡ a = omega arith in
      let f : IsCell (get_or s.cells (4 * a / 4) (pos 0)) =
      All-get_or IsCell s.cells (4 * a / 4) (pos 0)
      (omega (arith, h, count_cells)) mem.fits in
      subst (λ x. IsCell x) e f

  module _ {piece : Piece} {first : ℕ} (p : Placed N low high piece first) where
    pub live_in : (a : ℕ) → first ≤ a → a < first + extent piece → is_live s (4 * a) ≡ true
    live_in a h g = elim (placed_inside p) [
      | inl low_one ↦ live_low a (omega (arith, low_one, g))
      | inr high_one ↦ live_high a (omega
          (arith, high_one.0, mem.size, length-append mem.free pending, h))
          (omega (arith, high_one.1, g))
    ]

    pub below_top : (a : ℕ) → a < first + extent piece → a < N
    below_top a g = elim (placed_inside p) [
      | inl low_one ↦ omega (arith, low_one, g, mem.size)
      | inr high_one ↦ omega (arith, high_one.1, g)
    ]

    pub mem_there : IsThere m piece
    mem_there =
        piece_there m piece (row low (mem.free ++ pending) high) first
        (placed_at p (mem.free ++ pending) mem.size) mem.there

    -- a cell of a piece is read at its place
    pub mem_read : (i : ℕ) (v : ℤ) → slice_get (cells_in m piece) i ≡ Some v → Reads s (first + i) v
    mem_read i v g =
        let at = placed_at p (mem.free ++ pending) mem.size in
        let within : first + i < first + extent piece =
        omega (
          arith,
          slice_get_within (cells_in m piece) i v g,
          length_cells m piece mem_there,
        ) in
        let is =
        cell_is (first + i) v (row_has m piece
        (row low (mem.free ++ pending) high) first at mem.there i v g) in
        record {
          live = live_in (first + i) (omega arith) within;
          value = is;
          fits = fits_at (first + i) v (below_top (first + i) within) is;
        }

    -- all its cells stand from its place on
    pub mem_holds : take (extent piece) (drop first s.cells) ≡ cells_in m piece
    mem_holds =
        rw mem.cells (row_holds m piece (row low (mem.free ++ pending) high) first
        (placed_at p (mem.free ++ pending) mem.size) mem.there)

    -- where some of its cells are written, all else stays
    pub mem_write : (n : Memory) → LeavesPieces m n (Apart piece) → IsThere n piece
        → (i : ℕ) (vs : List ℤ) → i + length vs ≤ length (cells_in m piece)
        → cells_in n piece ≡ put vs i (cells_in m piece) → (t : State)
        → t.cells ≡ put vs (first + i) s.cells → t.hea ≡ s.hea → t.stk ≡ s.stk
        → All IsCell vs → Mem N low pending high n t
    mem_write n l z i vs h e t c f g vf =
        let at = placed_at p (mem.free ++ pending) mem.size in
        record {
          free = mem.free;
          cells =
              c ∙ rw mem.cells (sym (row_put m piece
              (row low (mem.free ++ pending) high) first at mem.there n l i vs h e));
          hea = f ∙ mem.hea;
          stk = g ∙ mem.stk;
          there = row_there m piece (row low (mem.free ++ pending) high) first at mem.there n l z;
          size = mem.size;
          fits = rw c (put_fits vs s.cells (first + i) vf mem.fits);
        }

  -- the same memory
  pub same_mem : (t : State) → t.cells ≡ s.cells → t.hea ≡ s.hea → t.stk ≡ s.stk
      → Mem N low pending high m t
  same_mem t c h k = record {
    free = mem.free;
    cells = c ∙ mem.cells;
    hea = h ∙ mem.hea;
    stk = k ∙ mem.stk;
    there = mem.there;
    size = mem.size;
    fits = rw c mem.fits;
  }
