-- MOVS fills the cells that wait with those of an object.
use Rattle.std.proofs.Common.{◌≡◌, ◌+◌, ◌*◌, ◌≤◌, inl, inr, ℕ, ℤ, pos, List, [], ◌++◌, Some}
use Rattle.std.proofs.Common.{true, ◌==◌, ◌&&◌, length, take, drop, nat_le, refl, sym}
use Rattle.std.proofs.Common.{ap, subst, ◌∙◌, arith, append-nil, length-append, le-leb}
use Rattle.std.proofs.lemmas.List.Elements.{All-take, All-drop}
use Rattle.std.specs.Prelude.{All}
use Rattle.pawn_cells.specs.Cells.{IsCell}
use Rattle.pawn_meaning.specs.Memory.{Memory, Name, put}
use Rattle.pawn_meaning.specs.World.{World}
use Rattle.pawn_meaning.specs.Run.{Outcome}
use Rattle.amx_ops.specs.declared.op.Op.TheVariants as op
use Rattle.amx_ops.specs.Instructions.{fetched}
use Rattle.amx_ops.specs.Written.{read_as}
use Rattle.amx_ops.specs.State.{State, stp}
use Rattle.amx_ops.specs.Access.{are_live}
use Rattle.amx_ops.specs.Moves.{Config}
use Rattle.gen_sim.specs.Pieces.{Piece, Thing, cells_in, image, extent, total}
use Rattle.gen_sim.specs.Mem.{row, Mem}
use Rattle.gen_sim.specs.View.{View, PlacedIn, all_cells, low}
use Rattle.gen_sim.specs.Stands.{Stands}
use Rattle.gen_sim.proofs.Lists.{all_dropped, put-after, put-before, put_fits}
use Rattle.gen_sim.proofs.PieceLaws.{length_cells, length_image}
use Rattle.gen_sim.proofs.MemLaws.{placed_inside, count_cells, mem_holds, mem_there}
use Rattle.gen_sim.proofs.ChangeLaws.{there_low, there_high, there_row, image_row}
use Rattle.gen_sim.proofs.WorldLaws.{stands_still}
use Rattle.gen_sim.specs.Site.{Site, DoesAt}
use Rattle.gen_sim.specs.Items.{with}
use Rattle.gen_sim.proofs.MoveLaws.{moved_cells}
use Rattle.gen_sim.proofs.CopyLaws.{third_of, both, part_live}
use Rattle.gen_sim.proofs.StepLaws.{goes}

all_put : (free pending vs : List ℤ) → length vs ≡ length pending
    → put vs (length free) (free ++ pending) ≡ free ++ vs
all_put free pending vs e =
    let none : drop (0 + length vs) pending ≡ [] =
    all_dropped pending (0 + length vs) (omega (arith, e)) in
    let k : length free ≡ length free + 0 = omega arith in
    ap (λ n. put vs n (free ++ pending)) k ∙ put-after free pending vs 0
    ∙ ap (λ (l : List ℤ). free ++ (vs ++ l)) none ∙ ap (λ (l : List ℤ). free ++ l) (append-nil vs)

module _ {N : ℕ} {lows : List Piece} {pending : List ℤ} {high : List Piece} {m : Memory} {s : State}
    (mem : Mem N lows pending high m s) where
  -- other cells wait
  filled_mem : (vs : List ℤ) → length vs ≡ length pending → All IsCell vs → (t : State)
      → t.cells ≡ put vs (total lows + length mem.free) s.cells
      → t.hea ≡ s.hea → t.stk ≡ s.stk → Mem N lows vs high m t
  filled_mem vs e vf t c f g =
      let between = mem.free ++ pending in
      let z = there_low m lows between high mem.there in
      let count = length-append mem.free pending in
      let moved : put vs (total lows + length mem.free) (image m (row lows between high))
      ≡ image m (row lows (mem.free ++ vs) high) =
      ap (λ (l : List ℤ). put vs (total lows + length mem.free) l) (image_row m lows between high)
      ∙ ap (λ n. put vs (n + length mem.free) (image m lows ++ (between ++ image m high)))
      (sym (length_image m lows z))
      ∙ put-after (image m lows) (between ++ image m high) vs (length mem.free)
      ∙ ap (λ (l : List ℤ). image m lows ++ l)
      (put-before between (image m high) vs (length mem.free) (omega (arith, e, count)))
      ∙ ap (λ (l : List ℤ). image m lows ++ (l ++ image m high)) (all_put mem.free pending vs e)
      ∙ sym (image_row m lows (mem.free ++ vs) high) in
      record {
        free = mem.free;
        cells = c ∙ ap (λ (l : List ℤ). put vs (total lows + length mem.free) l) mem.cells ∙ moved;
        hea = f ∙ mem.hea;
        stk = g ∙ mem.stk;
        there = there_row m lows (mem.free ++ vs) high z (there_high m lows between high mem.there);
        size = omega (arith, mem.size, count, e, length-append mem.free vs);
        fits = rw c (put_fits vs s.cells (total lows + length mem.free) vf mem.fits);
      }

  waiting_live : are_live s (4 * (total lows + length mem.free)) (4 * length pending) ≡ true
  waiting_live =
      let a : ℕ = 4 * (total lows + length mem.free) in
      let n : ℕ = length pending in
      third_of (4 * n == 0) (nat_le (a + 4 * n) s.hea)
      (nat_le s.stk a && nat_le (a + 4 * n) (stp s))
      ((s.hea == s.stk) && nat_le (a + 4 * n) (stp s))
      (both (nat_le s.stk a) (nat_le (a + 4 * n) (stp s)) (le-leb _ _ (omega (arith, mem.stk)))
      (le-leb _ _ (omega (arith, count_cells mem, mem.size, length-append mem.free pending))))

module _ (x : Site) {v : View} {pending : List ℤ} {p : ℕ} {w : World} {c : Config}
    (a : Stands x.program x.room v pending p w c)
    (name : Name) (sizes : List ℕ) (from : ℕ)
    (placed : PlacedIn x.program x.room v (Thing name sizes) from) where
  all_inside : from + extent (Thing name sizes) ≤ all_cells x.program x.room
  all_inside = elim (placed_inside placed) [
    | inl l ↦ omega (arith, l, a.mem.size)
    | inr h ↦ omega (arith, h.1)
  ]

  -- ALT is the address of the cells that wait, and PRI the object's
  pub fills : {A : Type 0} {d : ℕ} {o : Outcome A} {Q : A → World → Config → Type 0} (n : ℕ)
      → length pending ≡ n → extent (Thing name sizes) ≡ n
      → c.state.pri ≡ pos (4 * from)
      → c.state.alt ≡ pos (4 * (total (low x.program x.room v) + length a.mem.free))
      → fetched x.amx.code p ≡ Some (read_as (with op.Movs (pos (4 * n))))
      → ((t : Config) → Stands x.program x.room v (cells_in w.memory (Thing name sizes)) (p + 8) w t
      → DoesAt x d w t o Q)
      → DoesAt x (1 + d) w c o Q
  fills n waits own g e f next =
      let cells = c.state.cells in
      let to : ℕ = total (low x.program x.room v) + length a.mem.free in
      let held : take n (drop from cells) ≡ cells_in w.memory (Thing name sizes) =
      ap (λ k. take k (drop from cells)) (sym own) ∙ mem_holds a.mem placed in
      let zero_more : from ≡ from + 0 = omega arith in
      let live_from : are_live c.state (4 * from) (4 * n) ≡ true =
      ap (λ k. are_live c.state (4 * k) (4 * n)) zero_more
      ∙ part_live a.mem placed 0 n (omega (arith, own)) in
      let live_to : are_live c.state (4 * to) (4 * n) ≡ true =
      ap (λ k. are_live c.state (4 * to) (4 * k)) (sym waits) ∙ waiting_live a.mem in
      let count = count_cells a.mem in
      let inside : from + n ≤ length cells = omega (arith, all_inside, own, count) in
      let is =
      moved_cells cells a.mem.fits from to n inside
      (omega (arith, count, a.mem.size, length-append a.mem.free pending, waits)) in
      let t : State =
      record c.state { cells = put (take n (drop from cells)) to cells; cip = p + 8 } in
      let vs = cells_in w.memory (Thing name sizes) in
      let long : length vs ≡ length pending =
      omega (
        arith,
        length_cells w.memory (Thing name sizes) (mem_there a.mem placed),
        own,
        waits,
      ) in
      let fit : All IsCell vs =
      subst (λ (l : List ℤ). All IsCell l) held
      (All-take IsCell n (drop from cells) (All-drop IsCell from cells a.mem.fits)) in
      goes x a (with op.Movs (pos (4 * n))) f t (rw (e, g, live_from, live_to, is) refl)
      (next (record c { state = t }) (stands_still x.program x.room a
      (filled_mem a.mem vs long fit t (ap (λ (l : List ℤ). put l to cells) held) refl refl)
      refl refl))
