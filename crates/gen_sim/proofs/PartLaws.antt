-- The live memory behind an address begins with the part of the piece that stands there.
use Rattle.std.proofs.Common.{◌≡◌, ◌+◌, ◌*◌, ◌/◌, ◌%◌, ◌<◌, ◌≤◌, inl, inr, ℕ, zero, suc, ℤ, List}
use Rattle.std.proofs.Common.{◌∷◌, ◌++◌, true, false, ◌==◌, length, take, drop, nat_le, nat_lt}
use Rattle.std.proofs.Common.{refl, sym, ap, ◌∙◌, arith, append_assoc, le-leb, lt-ltb, eq-eqb}
use Rattle.std.proofs.Common.{length-append}
use Rattle.std.proofs.lemmas.Bool.{le-ltb}
use Rattle.std.proofs.lemmas.List.{drop-append-le}
use Rattle.std.proofs.Math.Seq.{take-append_seam, drop-append-add}
use Rattle.pawn_meaning.specs.Memory.{Memory}
use Rattle.amx_ops.specs.State.{State}
use Rattle.amx_ops.specs.Moves.{live_from}
use Rattle.gen_sim.specs.Pieces.{Piece, AreThere, cells_in, image, total}
use Rattle.gen_sim.specs.Places.{StandsIn, InLow, InHigh, Placed}
use Rattle.gen_sim.specs.Mem.{row, Mem}
use Rattle.gen_sim.proofs.Lists.{take_drop}
use Rattle.gen_sim.proofs.PieceLaws.{around, before_count, length_cells, length_image, total-append}
use Rattle.gen_sim.proofs.MemLaws.{placed_at, mem_there}
use Rattle.gen_sim.proofs.ChangeLaws.{there_low, image_row}

-- some cells begin with others
pub record Part (xs part : List ℤ) : Type 0 where
  pub more : List ℤ
  pub is : xs ≡ part ++ more

pub part_of_row : (m : Memory) (p : Piece) (ps : List Piece) (first : ℕ) → StandsIn p ps first
    → AreThere m ps → (i n : ℕ) → i + n ≤ length (cells_in m p)
    → Part (drop (first + i) (image m ps)) (take n (drop i (cells_in m p)))
part_of_row m p ps first at t i n h =
    let k = before_count m p ps first at t in
    let cells = cells_in m p in
    let rest = image m at.after in
    let split : image m ps ≡ image m at.before ++ (cells ++ rest) =
    ap (λ l. image m l) at.split ∙ around m at.before at.after p in
    let front : drop (first + i) (image m ps) ≡ drop i cells ++ rest =
    rw (split, sym k) (drop-append-add (image m at.before) (cells ++ rest) i
    ∙ drop-append-le i cells rest (omega (arith, h))) in
    record {
      more = drop n (drop i cells) ++ rest;
      is =
          front ∙ ap (λ l. l ++ rest) (sym (take_drop n (drop i cells)))
          ∙ append_assoc (take n (drop i cells)) (drop n (drop i cells)) rest;
    }

module _ {N : ℕ} {low : List Piece} {pending : List ℤ} {high : List Piece} {m : Memory} {s : State}
    (mem : Mem N low pending high m s) {piece : Piece} {first : ℕ} where
  low_part : InLow N low high piece first → (i n : ℕ) → i + suc n ≤ length (cells_in m piece)
      → first + i < total low
      → Part (live_from s (4 * (first + i))) (take (suc n) (drop i (cells_in m piece)))
  low_part p i n h below =
      let a : ℕ = first + i in
      let zl = there_low m low (mem.free ++ pending) high mem.there in
      let t1 : (4 * a % 4 == 0) ≡ true = eq-eqb _ _ (omega arith) in
      let t2 : nat_lt (4 * a) s.hea ≡ true = lt-ltb _ _ (omega (arith, mem.hea, below)) in
      let i1 : 4 * a / 4 ≡ a = omega arith in
      let i2 : s.hea / 4 ≡ total low = omega (arith, mem.hea) in
      let whole : take (total low) s.cells ≡ image m low =
      rw (mem.cells, image_row m low (mem.free ++ pending) high, sym (length_image m low zl))
      (take-append_seam (image m low) ((mem.free ++ pending) ++ image m high)) in
      let q = part_of_row m piece low first p.stands zl i (suc n) h in
      record { more = q.more; is = rw (t1, t2, i1, i2, whole) q.is }

  high_part : InHigh N low high piece first → (i n : ℕ) → i + suc n ≤ length (cells_in m piece)
      → total low + length (mem.free ++ pending) ≤ first + i
      → Part (live_from s (4 * (first + i))) (take (suc n) (drop i (cells_in m piece)))
  high_part p i n h above =
      let a : ℕ = first + i in
      let b = length-append mem.free pending in
      let t1 : (4 * a % 4 == 0) ≡ true = eq-eqb _ _ (omega arith) in
      let t2 : nat_lt (4 * a) s.hea ≡ false = le-ltb _ _ (omega (arith, mem.hea, above)) in
      let t3 : nat_le s.stk (4 * a) ≡ true = le-leb _ _ (omega (arith, mem.stk, above, b)) in
      let i1 : 4 * a / 4 ≡ a = omega arith in
      let q =
      part_of_row m piece (row low (mem.free ++ pending) high) first
      (placed_at (record { where_it_is = inr p }) (mem.free ++ pending) mem.size)
      mem.there i (suc n) h in
      record { more = q.more; is = rw (t1, t2, t3, i1, mem.cells) q.is }

  pub live_part : (p : Placed N low high piece first) → (i n : ℕ)
      → i + n ≤ length (cells_in m piece)
      → Part (live_from s (4 * (first + i))) (take n (drop i (cells_in m piece)))
  live_part p i zero h = record { more = live_from s (4 * (first + i)); is = refl }
  live_part p i (suc n) h =
      let z = length_cells m piece (mem_there mem p) in
      elim p.where_it_is [
        | inl l ↦
            let a = total-append l.stands.before (piece ∷ l.stands.after) in
            let b = ap total l.stands.split in
            low_part l i n h (omega (arith, a, b, l.stands.first_is, z, h))
        | inr g ↦ high_part g i n h (omega (arith, g.place, mem.size))
      ]
