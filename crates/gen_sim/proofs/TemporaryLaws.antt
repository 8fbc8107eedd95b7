-- Temporary arguments: a cell made on the heap for a value, and those of a call given back behind
-- it.
use Rattle.std.proofs.Common.{◌≡◌, ◌+◌, ◌*◌, ◌-◌, ◌/◌, ◌%◌, ◌^◌, ◌<◌, ◌≤◌, ◌⊎◌, inl, inr, ℕ, zero}
use Rattle.std.proofs.Common.{suc, ℤ, pos, ◌+ℤ◌, List, [], ◌∷◌, ◌++◌, Some, true, false, ◌==◌}
use Rattle.std.proofs.Common.{length, sum, slice_set, nat_le, nat_lt, refl, sym, ap, subst, ◌∙◌}
use Rattle.std.proofs.Common.{arith, length-append, append_assoc, le-leb, lt-ltb, eq-eqb}
use Rattle.std.proofs.lemmas.Bool.{lt-leb, cases_lt}
use Rattle.std.proofs.lemmas.Int.{ints}
use Rattle.std.proofs.lemmas.List.{length-take-le}
use Rattle.std.specs.Prelude.{neg_ℤ}
use Rattle.pawn_cells.specs.Cells.{cell_of}
use Rattle.pawn_meaning.specs.Memory as memory
use Rattle.pawn_meaning.specs.Memory.{Memory, Temporary, Reference, one_cell, cut_heap, put}
use Rattle.pawn_meaning.specs.World.{World}
use Rattle.pawn_meaning.specs.Run.{Outcome, Gives}
use Rattle.pawn_meaning.specs.References.{to_cell}
use Rattle.pawn_meaning.specs.Natives.{Held}
use Rattle.pawn_meaning.specs.Natives as natives
use Rattle.pawn_meaning.specs.Later.{Later, world_of}
use Rattle.pawn_meaning.proofs.Grows.{no_entries}
use Rattle.amx_ops.specs.declared.op.Op.TheVariants as op
use Rattle.amx_ops.specs.Instructions.{fetched}
use Rattle.amx_ops.specs.Written.{read_as}
use Rattle.amx_ops.specs.State.{State, Goes, Errs}
use Rattle.amx_ops.specs.Access.{is_live}
use Rattle.amx_ops.specs.Effects.{heap_to}
use Rattle.amx_ops.specs.Moves.{Config, moved, move}
use Rattle.gen_sim.proofs.Sim.{stays, gives, short_here, step_then}
use Rattle.gen_sim.specs.Pieces.{Piece, Thing, Each, total, data_pieces, temporaries}
use Rattle.gen_sim.specs.Places.{Apart}
use Rattle.gen_sim.specs.Mem.{Mem}
use Rattle.gen_sim.specs.View.{View, IsOf, IsOfCall, depth, kept, all_cells, low, used, RefersTo}
use Rattle.gen_sim.specs.View.{Laid}
use Rattle.gen_sim.specs.Next.{with_temporary, HoldsArgument}
use Rattle.gen_sim.specs.Stands.{Stands, With}
use Rattle.gen_sim.proofs.Lists.{set_put}
use Rattle.gen_sim.proofs.PieceLaws.{each_gives, total-append}
use Rattle.gen_sim.proofs.MemLaws.{count_cells, gap, in_use}
use Rattle.gen_sim.proofs.ChangeLaws.{heap_mem}
use Rattle.gen_sim.proofs.CutLaws.{last, cut_mem}
use Rattle.gen_sim.proofs.DataLaws.{of_low}
use Rattle.gen_sim.proofs.ViewLaws.{of_call, temporary_laid, more_low, next_apart}
use Rattle.gen_sim.proofs.PlaceNodes.{cell_refers}
use Rattle.gen_sim.proofs.WorldLaws.{stands_anew}
use Rattle.gen_sim.specs.Site.{Site, IsSite, DoesAt}
use Rattle.gen_sim.specs.Items.{with}
use Rattle.gen_sim.specs.Results.{with_temporaries}
use Rattle.gen_sim.proofs.StepLaws.{move_is, pushes}
use Rattle.gen_sim.proofs.CallLaws.{small_fits, small_cell}

-- ---- HEAP

up_goes : (x : Site) (s : State) (q : ℕ) → 4 * length x.amx.store ≤ s.hea → s.hea + 68 ≤ s.stk
    → heap_to x.amx (pos s.hea +ℤ pos 4) q (record s { alt = cell_of s.hea })
    ≡ Goes (record s { alt = cell_of s.hea; hea = s.hea + 4; cip = q })
up_goes x s q h g =
    let a : nat_le (4 * length x.amx.store) (s.hea + 4) ≡ true = le-leb _ _ (omega (arith, h)) in
    let b : nat_le (s.hea + 4 + 64) s.stk ≡ true = le-leb _ _ (omega (arith, g)) in rw (a, b) refl

up_errs : (x : Site) (s : State) (q : ℕ) → 4 * length x.amx.store ≤ s.hea → s.stk < s.hea + 68
    → heap_to x.amx (pos s.hea +ℤ pos 4) q (record s { alt = cell_of s.hea }) ≡ Errs (pos 3)
up_errs x s q h g =
    let a : nat_le (4 * length x.amx.store) (s.hea + 4) ≡ true = le-leb _ _ (omega (arith, h)) in
    let b : nat_le (s.hea + 4 + 64) s.stk ≡ false = lt-leb _ _ (omega (arith, g)) in rw (a, b) refl

less_small : (a b : ℕ) → b ≤ a → pos a +ℤ neg_ℤ (pos b) ≡ pos (a - b)
less_small a b h = omega (arith, ints, h)

down_goes : (x : Site) (s : State) (n q : ℕ) → 4 * length x.amx.store + 4 * n ≤ s.hea
    → s.hea - 4 * n + 64 ≤ s.stk
    → heap_to x.amx (pos s.hea +ℤ neg_ℤ (pos (4 * n))) q (record s { alt = cell_of s.hea })
    ≡ Goes (record s { alt = cell_of s.hea; hea = s.hea - 4 * n; cip = q })
down_goes x s n q h g =
    let a : nat_le (4 * length x.amx.store) (s.hea - 4 * n) ≡ true =
    le-leb _ _ (omega (arith, h)) in
    let b : nat_le (s.hea - 4 * n + 64) s.stk ≡ true = le-leb _ _ g in
    rw (less_small s.hea (4 * n) (omega (arith, h)), a, b) refl

down_errs : (x : Site) (s : State) (n q : ℕ) → 4 * length x.amx.store + 4 * n ≤ s.hea
    → s.stk < s.hea - 4 * n + 64
    → heap_to x.amx (pos s.hea +ℤ neg_ℤ (pos (4 * n))) q (record s { alt = cell_of s.hea })
    ≡ Errs (pos 3)
down_errs x s n q h g =
    let a : nat_le (4 * length x.amx.store) (s.hea - 4 * n) ≡ true =
    le-leb _ _ (omega (arith, h)) in
    let b : nat_le (s.hea - 4 * n + 64) s.stk ≡ false = lt-leb _ _ g in
    rw (less_small s.hea (4 * n) (omega (arith, h)), a, b) refl

-- ---- one more

-- an argument whose cell was pushed, with a temporary argument for it
pub record TemporaryAt (x : Site) (v : View) (pending : List ℤ) (p : ℕ) (held : Held) (w : World)
    (c : Config) : Type 0 where
  pub cell : ℤ
  pub stands : Stands x.program x.room (with_temporary v) (cell ∷ pending) p w c
  pub holds : HoldsArgument x.program x.room (with_temporary v) held cell

-- it is a new one
low_apart : (x : Site) (v : View)
    → Each (Apart (Thing (Temporary v.temps) (1 ∷ []))) (low x.program x.room v)
low_apart x v =
    each_gives (IsOf 0 v.temps) (Apart (Thing (Temporary v.temps) (1 ∷ [])))
    (low x.program x.room v)
    (λ q h. next_apart 0 v.temps (1 ∷ []) q h) (of_low x.program 0 v.temps)

high_apart : (x : Site) (v : View) → Laid x.program x.room v
    → Each (Apart (Thing (Temporary v.temps) (1 ∷ []))) v.high
high_apart x v laid =
    each_gives (IsOfCall (depth v)) (Apart (Thing (Temporary v.temps) (1 ∷ []))) v.high
    (λ q h. next_apart (depth v) v.temps (1 ∷ []) q
    (of_call (depth v) (depth v) v.temps q (omega arith) h)) laid.frames_are

-- the newest one is the cell at the end of the heap
newest : (x : Site) (v : View) → Laid x.program x.room v
    → RefersTo x.program x.room (with_temporary v) (to_cell (Temporary v.temps) 0)
    (total (low x.program x.room v))
newest x v laid =
    cell_refers x (with_temporary v) (Temporary v.temps) (total (low x.program x.room v)) (record {
      where_it_is = inl (record {
        stands = record {
          before = low x.program x.room v;
          after = [];
          split = more_low x.program x.room v;
          first_is = refl;
          not_before = low_apart x v;
          not_after = tt;
        };
        apart = high_apart x v laid;
      });
    }) (omega arith)

module _ (x : Site) (site : IsSite x) (v : View) (pending : List ℤ) (p : ℕ) (w : World) (c : Config)
    (y : ℤ) (k : With x.program x.room v pending p y w c) where
  abbrev low_ones : List Piece
  low_ones = low x.program x.room v

  -- what it is in the world
  abbrev pub made_held : Held
  made_held = natives.Refers (to_cell (Temporary v.temps) 0)

  abbrev pub made_world : World
  made_world = record w { memory = memory.with_temporary y w.memory }

  abbrev next_one : ℕ → Piece
  next_one n = Thing (Temporary n) (1 ∷ [])

  first_heap : 4 * length x.amx.store ≤ c.state.hea
  first_heap =
      omega (
        arith,
        site.data_is,
        k.stands.mem.hea,
        total-append (data_pieces x.program) (temporaries v.temps),
      )

  with_room : (z : ℤ) (others : List ℤ) → k.stands.mem.free ≡ z ∷ others
      → 17 ≤ length k.stands.mem.free
      → used x.program x.room v pending + 1 ≤ kept x.program x.room + sum v.needs
      → fetched x.amx.code p ≡ Some (read_as (with op.Heap (pos 4)))
      → fetched x.amx.code (p + 8) ≡ Some (read_as (with op.StorI (pos 0)))
      → fetched x.amx.code (p + 8 + 4) ≡ Some (read_as (with op.PushAlt (pos 0)))
      → DoesAt x 3 w c (Gives made_held made_world) (TemporaryAt x v pending (p + 8 + 4 + 4))
  with_room z others free_is much deep f1 f2 f3 =
      let s = k.stands in
      let m = move x.amx x.script in
      let size = length x.amx.code in
      let u1 : State =
      record c.state { alt = cell_of c.state.hea; hea = c.state.hea + 4; cip = p + 8 } in
      let c1 : Config = record c { state = u1 } in
      let low_small : 4 * total low_ones < 2 ^ 31 = omega (arith, s.laid.small, s.mem.size) in
      let alt_is : u1.alt ≡ pos (4 * total low_ones) =
      ap cell_of s.mem.hea ∙ small_cell (4 * total low_ones) low_small in
      let u2 : State =
      record u1 {
        cells = slice_set c.state.cells (4 * total low_ones / 4) c.state.pri;
        cip = p + 8 + 4;
      } in
      let c2 : Config = record c { state = u2 } in
      let live : is_live u1 (4 * total low_ones) ≡ true =
      let a : (4 * total low_ones % 4 == 0) ≡ true = eq-eqb _ _ (omega arith) in
      let b : nat_lt (4 * total low_ones) (c.state.hea + 4) ≡ true =
      lt-ltb _ _ (omega (arith, s.mem.hea)) in rw (a, b) refl in
      let i : 4 * total low_ones / 4 ≡ total low_ones = omega arith in
      let below : 4 * total low_ones / 4 < length c.state.cells =
      omega (
        arith,
        i,
        count_cells s.mem,
        s.mem.size,
        length-append s.mem.free pending,
        much,
      ) in
      let cells_are : u2.cells ≡ put (y ∷ []) (total low_ones) c.state.cells =
      set_put c.state.cells (4 * total low_ones / 4) c.state.pri below ∙ rw (i, k.value) refl in
      let n : length w.memory.heap ≡ v.temps = s.temps in
      let apart_low : Each (Apart (next_one (length w.memory.heap))) low_ones =
      subst (λ j. Each (Apart (next_one j)) low_ones) (sym n) (low_apart x v) in
      let apart_high : Each (Apart (next_one (length w.memory.heap))) v.high =
      subst (λ j. Each (Apart (next_one j)) v.high) (sym n) (high_apart x v s.laid) in
      let mem2 =
      heap_mem s.mem y k.fits z others free_is apart_low apart_high u2 cells_are
      refl refl in
      let mem3 : Mem (all_cells x.program x.room) (low_ones ++ next_one v.temps ∷ []) pending v.high
      made_world.memory u2 =
      subst (λ j. Mem (all_cells x.program x.room)
      (low_ones ++ next_one j ∷ []) pending v.high made_world.memory u2) n mem2 in
      let s2 : Stands x.program x.room (with_temporary v) pending (p + 8 + 4) made_world c2 =
      stands_anew x.program x.room s v.high (suc v.temps)
      (subst (λ l. Mem (all_cells x.program x.room) l pending v.high made_world.memory u2)
      (sym (more_low x.program x.room v)) mem3) refl refl
      (temporary_laid x.program x.room v s.laid) refl (λ k slot. refl)
      (length-append w.memory.heap (one_cell y ∷ []) ∙ omega (arith, n)) in
      let more : total (low x.program x.room (with_temporary v)) ≡ total low_ones + 1 =
      ap total (more_low x.program x.room v) ∙ total-append low_ones (next_one v.temps ∷ [])
      ∙ omega arith in
      step_then m size x.room w c c1
      (move_is x c p (with op.Heap (pos 4)) s.at f1
      ∙ ap (λ t. moved x.amx x.script c t)
      (up_goes x c.state (p + 8) first_heap (omega (arith, s.mem.hea, s.mem.stk, much)))) s.said
      (step_then m size x.room w c1 c2
      (move_is x c1 (p + 8) (with op.StorI (pos 0)) refl f2 ∙ rw (alt_is, live) refl) s.said
      (pushes x s2 (with op.PushAlt (pos 0)) f3 u1.alt refl
      (rw alt_is (small_fits (4 * total low_ones) low_small)) (omega (arith, deep, more))
      (no_entries made_world made_world refl (omega arith) (omega arith))
      (λ t s3 e g. gives m size x.room (stays m size x.room t made_world s3.said (record {
        cell = u1.alt;
        stands = s3;
        holds = (total low_ones, newest x v s.laid, alt_is);
      })))))

  few_free : length k.stands.mem.free < 17
      → used x.program x.room v pending + 1 ≤ kept x.program x.room + sum v.needs
      → fetched x.amx.code p ≡ Some (read_as (with op.Heap (pos 4)))
      → DoesAt x 3 w c (Gives made_held made_world) (TemporaryAt x v pending (p + 8 + 4 + 4))
  few_free few deep f =
      let s = k.stands in
      short_here (move x.amx x.script) (length x.amx.code) x.room 2 c c w
      (Gives made_held made_world)
      (move_is x c p (with op.Heap (pos 4)) s.at f
      ∙ ap (λ t. moved x.amx x.script c t)
      (up_errs x c.state (p + 8) first_heap (omega (arith, s.mem.hea, s.mem.stk, few)))) s.said
      (omega (arith, few, s.mem.size, length-append s.mem.free pending, deep, s.most))
      (no_entries w made_world refl (omega arith) (omega arith))

  first_of : (free : List ℤ) → 1 ≤ length free → (z : ℤ) × (others : List ℤ) × (free ≡ z ∷ others)
  first_of [] h = absurd (omega (arith, h))
  first_of (z ∷ others) h = (z, others, refl)

  -- HEAP 4, STOR.I, PUSH.alt, with the value in PRI: error 3 with fewer than 17 cells free
  pub temporary_made : used x.program x.room v pending + 1 ≤ kept x.program x.room + sum v.needs
      → fetched x.amx.code p ≡ Some (read_as (with op.Heap (pos 4)))
      → fetched x.amx.code (p + 8) ≡ Some (read_as (with op.StorI (pos 0)))
      → fetched x.amx.code (p + 8 + 4) ≡ Some (read_as (with op.PushAlt (pos 0)))
      → DoesAt x 3 w c (Gives made_held made_world) (TemporaryAt x v pending (p + 8 + 4 + 4))
  temporary_made deep f1 f2 f3 = by_free (cases_lt (length k.stands.mem.free) 17)
    where
      by_free : (length k.stands.mem.free < 17) ⊎ (17 ≤ length k.stands.mem.free)
          → DoesAt x 3 w c (Gives made_held made_world) (TemporaryAt x v pending (p + 8 + 4 + 4))
      by_free (inl few) = few_free few deep f1
      by_free (inr much) =
          let g = first_of k.stands.mem.free (omega (arith, much)) in
          with_room g.0 g.1 g.2 much deep f1 f2 f3

-- ---- given back

pub with_temporaries_is : (n : ℕ) (v : View)
    → with_temporaries n v ≡ record v { temps = n + v.temps }
with_temporaries_is zero v =
    let e : v.temps ≡ 0 + v.temps = omega arith in ap (λ k. record v { temps = k }) e
with_temporaries_is (suc n) v =
    let e : suc (n + v.temps) ≡ suc n + v.temps = omega arith in
    ap (λ u. with_temporary u) (with_temporaries_is n v) ∙ ap (λ k. record v { temps = k }) e

-- HEAP by so many cells down
module _ (x : Site) (site : IsSite x) (v : View) (n : ℕ)
    (pending : List ℤ) (p : ℕ) (w : World) (c : Config) (laid : Laid x.program x.room v)
    (s : Stands x.program x.room (record v { temps = n + v.temps }) pending p w c) where
  more_than : total (data_pieces x.program ++ temporaries (n + v.temps))
      ≡ total (low x.program x.room v) + n
  more_than =
      let l = last v.temps n in
      ap (λ ps. total (data_pieces x.program ++ ps)) l.split
      ∙ ap total (sym (append_assoc (data_pieces x.program) (temporaries v.temps) l.pieces))
      ∙ total-append (low x.program x.room v) l.pieces ∙ omega (arith, l.count)

  above : 4 * length x.amx.store + 4 * n ≤ c.state.hea
  above =
      omega (
        arith,
        site.data_is,
        s.mem.hea,
        more_than,
        total-append (data_pieces x.program) (temporaries v.temps),
      )

  pub given_back : {A : Type 0} {d : ℕ} {o : Outcome A} {Q : A → World → Config → Type 0}
      → used x.program x.room v pending ≤ kept x.program x.room + sum v.needs
      → fetched x.amx.code p ≡ Some (read_as (with op.Heap (neg_ℤ (pos (4 * n)))))
      → Later w (world_of o)
      → ((t : Config) → Stands x.program x.room v pending (p + 8)
      (record w { memory = cut_heap v.temps w.memory }) t → t.state.pri ≡ c.state.pri
      → DoesAt x d w t o Q)
      → DoesAt x (1 + d) w c o Q
  given_back {d = d} {o = o} {Q = Q} deep f later next =
      by_room (cases_lt c.state.stk (c.state.hea - 4 * n + 64))
    where
      by_room : (c.state.stk < c.state.hea - 4 * n + 64) ⊎ (c.state.hea - 4 * n + 64 ≤ c.state.stk)
          → DoesAt x (1 + d) w c o Q
      by_room (inl few) =
          short_here (move x.amx x.script) (length x.amx.code) x.room d c c w o
          (move_is x c p (with op.Heap (neg_ℤ (pos (4 * n)))) s.at f
          ∙ ap (λ y. moved x.amx x.script c y) (down_errs x c.state n (p + 8) above few)) s.said
          (omega (arith, few, gap s.mem, in_use s.mem, more_than, deep, s.most)) later
      by_room (inr much) =
          let l = last v.temps n in
          let t : State =
          record c.state {
            alt = cell_of c.state.hea;
            hea = c.state.hea - 4 * n;
            cip = p + 8;
          } in
          let split : data_pieces x.program ++ temporaries (n + v.temps)
          ≡ low x.program x.room v ++ l.pieces =
          ap (λ ps. data_pieces x.program ++ ps) l.split
          ∙ sym (append_assoc (data_pieces x.program) (temporaries v.temps) l.pieces) in
          let mem1 =
          subst (λ ps. Mem (all_cells x.program x.room) ps pending v.high w.memory c.state)
          split s.mem in
          let of_high : Each (IsOf (depth v) v.temps) v.high =
          each_gives (IsOfCall (depth v)) (IsOf (depth v) v.temps) v.high
          (λ q h. of_call (depth v) (depth v) v.temps q (omega arith) h) laid.frames_are in
          step_then (move x.amx x.script) (length x.amx.code) x.room w c (record c { state = t })
          (move_is x c p (with op.Heap (neg_ℤ (pos (4 * n)))) s.at f
          ∙ ap (λ y. moved x.amx x.script c y) (down_goes x c.state n (p + 8) above much)) s.said
          (next (record c { state = t }) (stands_anew x.program x.room s v.high v.temps
          (cut_mem (low x.program x.room v) l.pieces v.temps (depth v) mem1
          (of_low x.program (depth v) v.temps) of_high t refl
          (omega (arith, above, l.count)) refl) refl refl laid refl (λ k slot. refl)
          (length-take-le v.temps w.memory.heap (omega (arith, s.temps)))) refl)
