-- MOVS copies a row of cells to another one, as the meaning does.
use Rattle.std.proofs.Common.{◌≡◌, ◌+◌, ◌-◌, ◌*◌, ◌≤◌, inl, inr, ℕ, ℤ, pos, List, [], ◌∷◌, ◌++◌}
use Rattle.std.proofs.Common.{Option, None, Some, Bool, true, false, ◌==◌, ◌&&◌, ◌||◌, length, take}
use Rattle.std.proofs.Common.{drop, nat_le, if◌then◌else◌, refl, sym, ap, subst, ◌∙◌, arith}
use Rattle.std.proofs.Common.{length-append, le-leb}
use Rattle.std.proofs.lemmas.Bool.{leb-true}
use Rattle.std.proofs.lemmas.List.{length-take-le, length-drop}
use Rattle.std.proofs.lemmas.List.Elements.{All-take, All-drop}
use Rattle.std.proofs.Math.Seq.{take-append_seam, drop-append-add}
use Rattle.std.specs.Prelude.{All}
use Rattle.pawn_arrays.specs.Sizes.{elements_in}
use Rattle.pawn_cells.specs.Cells.{IsCell}
use Rattle.pawn_meaning.specs.Program.{Program}
use Rattle.pawn_meaning.specs.Memory.{Memory, Object, Reference, object_at, put, read_cells}
use Rattle.pawn_meaning.specs.Memory.{cells_from, write_cells, copy_of, copied}
use Rattle.pawn_meaning.specs.References.{other_sizes}
use Rattle.pawn_meaning.specs.World.{World}
use Rattle.pawn_meaning.specs.Run.{Run, Done, done, then_do, changed}
use Rattle.amx_ops.specs.declared.op.Op.TheVariants as op
use Rattle.amx_ops.specs.Instructions.{fetched}
use Rattle.amx_ops.specs.Written.{read_as}
use Rattle.amx_ops.specs.State.{State, stp}
use Rattle.amx_ops.specs.Access.{are_live}
use Rattle.amx_ops.specs.Moves.{Config}
use Rattle.gen_sim.specs.Pieces.{Piece, Thing, extent, vectors, object_cells}
use Rattle.gen_sim.specs.Places.{Placed}
use Rattle.gen_sim.specs.Leads.{Leads, span}
use Rattle.gen_sim.specs.Mem.{row, Mem}
use Rattle.gen_sim.specs.View.{View, PlacedIn, CellAt, RefersTo, low}
use Rattle.gen_sim.specs.Stands.{Stands}
use Rattle.gen_sim.proofs.MemLaws.{placed_at, placed_inside, count_cells, below_top}
use Rattle.gen_sim.proofs.LeadLaws.{among}
use Rattle.gen_sim.proofs.WorldLaws.{cells_written}
use Rattle.gen_sim.specs.Site.{Site, DoesAt}
use Rattle.gen_sim.specs.Items.{with}
use Rattle.gen_sim.proofs.MoveLaws.{moved_cells}
use Rattle.gen_sim.proofs.PartLaws.{part_of_row}
use Rattle.gen_sim.proofs.StepLaws.{goes, stray}

second_of : (a b c d : Bool) → b ≡ true → (a || b || c || d) ≡ true
second_of true b c d e = refl
second_of false true c d e = refl
second_of false false c d e = cc

pub third_of : (a b c d : Bool) → c ≡ true → (a || b || c || d) ≡ true
third_of true b c d e = refl
third_of false true c d e = refl
third_of false false true d e = refl
third_of false false false d e = cc

pub both : (a b : Bool) → a ≡ true → b ≡ true → (a && b) ≡ true
both a b e f = rw (e, f) refl

-- the cells of a piece from one on are live
pub part_live : {N : ℕ} {lows : List Piece} {pending : List ℤ} {high : List Piece} {m : Memory}
    {s : State} (mem : Mem N lows pending high m s)
    {piece : Piece} {first : ℕ} → Placed N lows high piece first → (i n : ℕ) → i + n ≤ extent piece
    → are_live s (4 * (first + i)) (4 * n) ≡ true
part_live {N} {lows} {pending} {high} {m} {s} mem {piece} {first} p i n h =
    let a : ℕ = 4 * (first + i) in
    elim (placed_inside p) [
      | inl l ↦
          second_of (4 * n == 0) (nat_le (a + 4 * n) s.hea)
          (nat_le s.stk a && nat_le (a + 4 * n) (stp s))
          ((s.hea == s.stk) && nat_le (a + 4 * n) (stp s))
          (le-leb _ _ (omega (arith, mem.hea, l, h)))
      | inr g ↦
          third_of (4 * n == 0) (nat_le (a + 4 * n) s.hea)
          (nat_le s.stk a && nat_le (a + 4 * n) (stp s))
          ((s.hea == s.stk) && nat_le (a + 4 * n) (stp s))
          (both (nat_le s.stk a) (nat_le (a + 4 * n) (stp s))
          (le-leb _ _ (omega (arith, mem.stk, mem.size, g.0, length-append mem.free pending)))
          (le-leb _ _ (omega (arith, count_cells mem, g.1, h))))
    ]

-- ---- rows

span_is : (sizes : List ℕ) → other_sizes sizes ≡ [] → span sizes ≡ elements_in sizes
span_is [] e = refl
span_is (k ∷ []) e = omega arith
span_is (k ∷ j ∷ sizes) e = cc

module _ (program : Program) (room : ℕ) where
  -- a row lies among the cells of its object
  pub record RowAt (v : View) (r : Reference) (cell : ℕ) : Type 0 where
    pub sizes : List ℕ
    pub first : ℕ
    pub placed : PlacedIn program room v (Thing r.object sizes) first
    pub cell_is : cell ≡ first + (length (vectors sizes) + r.at)
    pub inside : r.at + elements_in r.sizes ≤ elements_in sizes

  pub row_at : (v : View) (r : Reference) (cell : ℕ) → RefersTo program room v r cell
      → other_sizes r.sizes ≡ [] → RowAt v r cell
  row_at v r cell h none = by_sizes h.sizes h.placed h.leads
    where
      by_sizes : (all : List ℕ) → PlacedIn program room v (Thing r.object all) h.first
          → Leads all h.first r.sizes r.at cell → RowAt v r cell
      by_sizes [] pl d = elim d [ ]
      by_sizes (k ∷ ks) pl d =
          let y = among ks h.first k r.sizes r.at cell none d in
          record {
            sizes = k ∷ ks;
            first = h.first;
            placed = pl;
            cell_is = omega (arith, y.cell_is);
            inside = omega (arith, y.inside, span_is r.sizes none);
          }

-- cells of an object that the world reads
pub record Cells (m : Memory) (r : Reference) (n : ℕ) (values : List ℤ) : Type 0 where
  pub object : Object
  pub is : object_at m r.object ≡ Some object
  pub inside : r.at + n ≤ length object.cells
  pub values_are : values ≡ take n (drop r.at object.cells)

pub cells_read : (m : Memory) (r : Reference) (n : ℕ) (values : List ℤ)
    → read_cells r.object r.at n m ≡ Some values → Cells m r n values
cells_read m r n values e = by_object (object_at m r.object) refl e
  where
    by_size : (y : Object) → object_at m r.object ≡ Some y → (b : Bool)
        → nat_le (r.at + n) (length y.cells) ≡ b
        → (if b then Some (take n (drop r.at y.cells)) else None) ≡ Some values → Cells m r n values
    by_size y o true b z = record { object = y; is = o; inside = leb-true _ _ b; values_are = cc }
    by_size y o false b z = cc

    by_object : (o : Option Object) → object_at m r.object ≡ o → cells_from o r.at n ≡ Some values
        → Cells m r n values
    by_object None o z = cc
    by_object (Some y) o z = by_size y o (nat_le (r.at + n) (length y.cells)) refl z

module _ (x : Site) {v : View} {pending : List ℤ} {p : ℕ} {w : World} {c : Config}
    (a : Stands x.program x.room v pending p w c) (to from : Reference) (ct cf n : ℕ)
    (there : RowAt x.program x.room v to ct) (here : RowAt x.program x.room v from cf) where
  -- the values that the machine moves
  same_values : (values : List ℤ) → Cells w.memory from n values
      → take n (drop cf c.state.cells) ≡ values
  same_values values r =
      let i : ℕ = length (vectors here.sizes) + from.at in
      let between : List ℤ = a.mem.free ++ pending in
      let ps : List Piece = row (low x.program x.room v) between v.high in
      let fits : i + n ≤ length (object_cells here.sizes (object_at w.memory from.object)) =
      rw r.is (omega (arith, length-append (vectors here.sizes) r.object.cells, r.inside)) in
      let q =
      part_of_row w.memory (Thing from.object here.sizes) ps here.first
      (placed_at here.placed between a.mem.size) a.mem.there i n fits in
      let own : drop i (object_cells here.sizes (object_at w.memory from.object))
      ≡ drop from.at r.object.cells =
      rw r.is (drop-append-add (vectors here.sizes) r.object.cells from.at) in
      let all : drop cf c.state.cells ≡ take n (drop from.at r.object.cells) ++ q.more =
      ap (λ k. drop k c.state.cells) here.cell_is ∙ ap (λ l. drop (here.first + i) l) a.mem.cells
      ∙ q.is ∙ ap (λ z. take n z ++ q.more) own in
      let count : length (take n (drop from.at r.object.cells)) ≡ n =
      length-take-le n (drop from.at r.object.cells)
      (omega (arith, length-drop from.at r.object.cells, r.inside)) in
      ap (λ l. take n l) all ∙ ap (λ k. take k (take n (drop from.at r.object.cells) ++ q.more))
      (sym count)
      ∙ take-append_seam (take n (drop from.at r.object.cells)) q.more ∙ sym r.values_are

  pub copy_does : {A : Type 0} {d : ℕ} {Q : A → World → Config → Type 0} → 1 ≤ n
      → n ≤ elements_in to.sizes → n ≤ elements_in from.sizes → c.state.alt ≡ pos (4 * ct)
      → c.state.pri ≡ pos (4 * cf)
      → fetched x.amx.code p ≡ Some (read_as (with op.Movs (pos (4 * n)))) → (go : Done → Run A)
      → ((m : Memory) (t : Config) → Stands x.program x.room v pending (p + 8)
      (record w { memory = m }) t → DoesAt x d w t (go done (record w { memory = m })) Q)
      → DoesAt x (1 + d) w c (then_do (changed (copied to from n w.memory) w) go) Q
  copy_does {A = A} {d = d} {Q = Q} one lt lf e g f go next =
      let b1 : nat_le n (elements_in to.sizes) ≡ true = le-leb _ _ lt in
      let b2 : nat_le n (elements_in from.sizes) ≡ true = le-leb _ _ lf in
      rw (b1, b2) (by_values (read_cells from.object from.at n w.memory) refl)
    where
      cell_at : CellAt x.program x.room v to.object to.at ct
      cell_at = record {
        sizes = there.sizes;
        first = there.first;
        placed = there.placed;
        cell_is = omega (arith, there.cell_is);
        inside = omega (arith, there.inside, one, lt);
      }

      part_of : (r : Reference) (cell : ℕ) (at : RowAt x.program x.room v r cell)
          → n ≤ elements_in r.sizes
          → (are_live c.state (4 * cell) (4 * n) ≡ true) × (cell + n ≤ length c.state.cells)
      part_of r cell at l =
          let i : ℕ = length (vectors at.sizes) + r.at in
          let within : i + n ≤ extent (Thing r.object at.sizes) = omega (arith, at.inside, l) in
          let live = part_live a.mem at.placed i n within in
          let top = below_top a.mem at.placed (at.first + i + n - 1) (omega (arith, within, one)) in (
            ap (λ k. are_live c.state (4 * k) (4 * n)) at.cell_is
                ∙ live,
            omega (arith, at.cell_is, top, count_cells a.mem, one),
          )

      by_memory : (values : List ℤ) → Cells w.memory from n values → (o : Option Memory)
          → write_cells to.object to.at values w.memory ≡ o
          → DoesAt x (1 + d) w c (then_do (changed o w) go) Q
      by_memory values r None o = stray x a
      by_memory values r (Some m) o =
          let lt2 = part_of to ct there lt in
          let lf2 = part_of from cf here lf in
          let t : State =
          record c.state {
            cells = put (take n (drop cf c.state.cells)) ct c.state.cells;
            cip = p + 8;
          } in
          let is = moved_cells c.state.cells a.mem.fits cf ct n lf2.1 lt2.1 in
          let fit : All IsCell values =
          subst (λ l. All IsCell l) (same_values values r)
          (All-take IsCell n (drop cf c.state.cells)
          (All-drop IsCell cf c.state.cells a.mem.fits)) in
          goes x a (with op.Movs (pos (4 * n))) f t (rw (e, g, lf2.0, lt2.0, is) refl)
          (next m (record c { state = t })
          (cells_written x.program x.room a cell_at values fit m o (p + 8) t
          (ap (λ l. put l ct c.state.cells) (same_values values r)) refl refl refl refl))

      by_values : (o : Option (List ℤ)) → read_cells from.object from.at n w.memory ≡ o
          → DoesAt x (1 + d) w c (then_do (changed (copy_of o to.object to.at w.memory) w) go) Q
      by_values None o = stray x a
      by_values (Some values) o =
          by_memory values (cells_read w.memory from n values o)
          (write_cells to.object to.at values w.memory) refl
