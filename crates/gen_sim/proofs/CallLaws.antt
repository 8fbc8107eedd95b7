-- A call of a function from its CALL on: the turn, the address pushed, PROC, the body, RETN.
use Rattle.std.proofs.Common.{◌≡◌, ◌+◌, ◌*◌, ◌-◌, ◌%◌, ◌^◌, ◌<◌, ◌≤◌, ◌⊎◌, inl, inr, ℕ, zero, suc}
use Rattle.std.proofs.Common.{ℤ, pos, List, [], ◌∷◌, ◌++◌, None, Some, true, false, ◌==◌, length}
use Rattle.std.proofs.Common.{map, sum, slice_get, nat_le, nat_lt, refl, sym, ap, subst, ◌∙◌, arith}
use Rattle.std.proofs.Common.{append-nil, length-append, le-leb, lt-ltb, eq-eqb}
use Rattle.std.proofs.lemmas.Bool.{lt-leb, cases_lt}
use Rattle.std.proofs.lemmas.Int.{to_z-of_z}
use Rattle.std.specs.Int.{w32}
use Rattle.std.specs.List.{fold}
use Rattle.pawn_cells.specs.Cells.{IsCell, cell_of}
use Rattle.pawn_meaning.specs.Memory.{Memory, Frame, Holds, pointed, needs_of, live_need}
use Rattle.pawn_meaning.specs.World.{World, entered}
use Rattle.pawn_meaning.specs.Run.{Outcome}
use Rattle.pawn_meaning.specs.Natives.{Held}
use Rattle.pawn_meaning.specs.Calls.{held_in_slot}
use Rattle.pawn_meaning.specs.Later.{Later, world_of}
use Rattle.amx_ops.specs.declared.op.Op.TheVariants as op
use Rattle.amx_ops.specs.Instructions.{fetched}
use Rattle.amx_ops.specs.Written.{read_as}
use Rattle.amx_ops.specs.State.{State, Goes, Errs, stp, with_margin}
use Rattle.amx_ops.specs.Effects.{at_next}
use Rattle.amx_ops.specs.Step.{act}
use Rattle.amx_ops.specs.Runs as runs
use Rattle.amx_ops.specs.Moves.{Config, moved, move}
use Rattle.gen_sim.proofs.Sim.{short_here, step_then}
use Rattle.gen_sim.specs.Pieces.{Piece, Fixed, Each, image, total}
use Rattle.gen_sim.specs.Mem.{Mem}
use Rattle.gen_sim.specs.View.{View, IsOf, IsOfCall, depth, kept, all_cells, low, used, Laid}
use Rattle.gen_sim.specs.Next.{param_pieces, frame_pieces, HoldArguments, in_call}
use Rattle.gen_sim.specs.Stands.{Stands, With}
use Rattle.gen_sim.proofs.PieceLaws.{each_gives, total-append}
use Rattle.gen_sim.proofs.ObjectLaws.{with_frame}
use Rattle.gen_sim.proofs.MemLaws.{count_cells, same_mem}
use Rattle.gen_sim.proofs.ChangeLaws.{pushed_on, push_goes, push_errs, pushed_mem, dropped_mem}
use Rattle.gen_sim.proofs.ChangeLaws.{top_is, framed_mem, unframed_mem, image_row, there_low}
use Rattle.gen_sim.proofs.ChangeLaws.{there_high, there_row}
use Rattle.gen_sim.proofs.DataLaws.{of_low}
use Rattle.gen_sim.proofs.ViewLaws.{of_call, call_laid, total_params}
use Rattle.gen_sim.specs.Site.{Site, Starts, DoesAt}
use Rattle.gen_sim.specs.Items.{with}
use Rattle.gen_sim.specs.Back.{without_frame}
use Rattle.gen_sim.proofs.ParameterLaws.{count_needs, params_image, params_there, higher_params}
use Rattle.gen_sim.proofs.ParameterLaws.{lower_params}
use Rattle.gen_sim.proofs.StepLaws.{move_is}

-- ---- numbers

pub small_fits : (n : ℕ) → n < 2 ^ 31 → IsCell (pos n)
small_fits n h = record { sfits = omega (arith, h) }

pub small_cell : (n : ℕ) → n < 2 ^ 31 → cell_of n ≡ pos n
small_cell n h = to_z-of_z w32 (pos n) (small_fits n h)

fold_plus : (ns : List ℕ) (n : ℕ) → fold ◌+◌ n ns ≡ n + sum ns
fold_plus [] n = omega arith
fold_plus (k ∷ ns) n = fold_plus ns (n + k) ∙ omega (arith, fold_plus ns (0 + k))

pub sum_cons : (n : ℕ) (ns : List ℕ) → sum (n ∷ ns) ≡ n + sum ns
sum_cons n ns = fold_plus ns (0 + n) ∙ omega arith

-- ---- the stack at RETN

-- cells at the low end of the stack are as those that wait
pub unfixed_mem : {N : ℕ} {low_ones : List Piece}
    (xs : List ℤ) {high : List Piece} {m : Memory} {s : State}
    → Mem N low_ones [] (Fixed xs ∷ high) m s
    → Mem N low_ones xs high m s
unfixed_mem {low_ones = low_ones} xs {high} {m} mem =
    let nil = append-nil mem.free in
    record {
      free = mem.free;
      cells =
          mem.cells ∙ image_row m low_ones (mem.free ++ []) (Fixed xs ∷ high)
          ∙ rw (nil, image_row m low_ones (mem.free ++ xs) high)
          (ap (λ l. image m low_ones ++ l) (grouped mem.free xs (image m high)));
      hea = mem.hea;
      stk = mem.stk;
      there =
          there_row m low_ones (mem.free ++ xs) high
          (there_low m low_ones (mem.free ++ []) (Fixed xs ∷ high) mem.there)
          (there_high m low_ones (mem.free ++ []) (Fixed xs ∷ high) mem.there).1;
      size = omega (arith, mem.size, ap length nil, length-append mem.free xs);
      fits = mem.fits;
    }
  where
    grouped : (a b c : List ℤ) → a ++ (b ++ c) ≡ (a ++ b) ++ c
    grouped [] b c = refl
    grouped (y ∷ a) b c = ap (λ l. y ∷ l) (grouped a b c)

-- three cells are popped, and so many more dropped
pops_three : (x : Site) {N : ℕ} {low_ones : List Piece}
    (f a n k : ℕ) {high : List Piece} {m : Memory} {s : State}
    → Mem N low_ones (pos f ∷ pos a ∷ pos n ∷ []) high m s → n ≡ 4 * k → k ≤ total high → Starts x a
    → (q : ℕ)
    → act x.amx op.Retn (pos 0) q s
    ≡ Goes (record s { frm = f; cip = a; stk = s.stk + 4 + 4 + 4 + n })
pops_three x f a n k {high} {m} {s} mem e l starts q =
    let s1 : State = record s { stk = s.stk + 4 } in
    let s2 : State = record s { stk = s.stk + 4 + 4 } in
    let m1 = dropped_mem (pos f ∷ []) mem s1 refl refl (omega arith) in
    let m2 = dropped_mem (pos a ∷ []) m1 s2 refl refl (omega arith) in
    let top1 = top_is mem in
    let top2 = top_is m1 in
    let top3 = top_is m2 in
    let all = length-append mem.free (pos f ∷ pos a ∷ pos n ∷ []) in
    let b1 : nat_lt s.stk (stp s) ≡ true =
    lt-ltb _ _ (omega (arith, mem.stk, mem.size, all, count_cells mem)) in
    let b2 : nat_lt (s.stk + 4) (stp s) ≡ true =
    lt-ltb _ _ (omega (arith, mem.stk, mem.size, all, count_cells mem)) in
    let b3 : nat_lt (s.stk + 4 + 4) (stp s) ≡ true =
    lt-ltb _ _ (omega (arith, mem.stk, mem.size, all, count_cells mem)) in
    let b4 : (n % 4 == 0) ≡ true = eq-eqb _ _ (omega (arith, e)) in
    let b5 : nat_le (s.stk + 4 + 4 + 4 + n) (stp s) ≡ true =
    le-leb _ _ (omega (arith, mem.stk, mem.size, all, count_cells mem, e, l)) in
    rw (b1, top1, b2, top2, b3, top3, b4, b5, starts) refl

-- ---- in the caller's view: where it goes back, and the arguments

module _ (x : Site) (v : View) (need_is back : ℕ) (held : List Held) (cells waits : List ℤ)
    (hold : HoldArguments x.program x.room v held cells)
    (laid : Laid x.program x.room v) (starts : Starts x back) where
  abbrev saved : List ℤ
  saved = pos v.frm ∷ pos back ∷ pos (4 * length cells) ∷ []

  abbrev callee : View
  callee = in_call x.program x.room v need_is saved held cells waits

  abbrev params : List Piece
  params = param_pieces (depth v) 0 held cells

  high_of : (frames : List Frame) → length frames ≡ depth v
      → Each (IsOf (length frames) v.temps) v.high
  high_of frames count =
      each_gives (IsOfCall (depth v)) (IsOf (length frames) v.temps) v.high
      (λ q h. of_call (depth v) (length frames) v.temps q (omega (arith, count)) h) laid.frames_are

  -- RETN, with the value in PRI and all locals of the callee dropped
  pub retn_does : (y : ℤ) (p : ℕ) (w : World) (c : Config) (f : Frame) (fs : List Frame)
      → With x.program x.room callee [] p y w c
      → w.memory.frames ≡ f ∷ fs → fetched x.amx.code p ≡ Some (read_as (with op.Retn (pos 0)))
      → (t : Config) × (move x.amx x.script c ≡ runs.Goes t)
      × With x.program x.room v waits back y (without_frame fs w) t
  retn_does y p w c f fs k is g =
      let s = k.stands in
      let u : State =
      record c.state {
        frm = v.frm;
        cip = back;
        stk = c.state.stk + 4 + 4 + 4 + 4 * length cells;
      } in
      let needs_are : needs_of (f ∷ fs) ≡ need_is ∷ v.needs = ap needs_of (sym is) ∙ s.needs in
      let rest_are : needs_of fs ≡ v.needs = tail needs_are in
      let count : length fs ≡ depth v = sym (count_needs fs) ∙ ap length rest_are in
      let p_total = total_params x.program x.room v (depth v) 0 held cells hold in
      let all = total-append params (Fixed waits ∷ v.high) in
      let goes_is = move_is x c p (with op.Retn (pos 0)) s.at g
      ∙ ap (λ z. moved x.amx x.script c z)
      (pops_three x v.frm back (4 * length cells) (length cells) (unfixed_mem saved s.mem) refl
      (omega (arith, p_total, all)) starts (p + 4)) in
      let below : Memory = record w.memory { frames = fs } in
      let whole : w.memory ≡ with_frame f below =
      ap (λ (l : List Frame). record w.memory { frames = l }) is in
      let mem1 =
      subst (λ z. Mem (all_cells x.program x.room) (low x.program x.room v) []
      ((Fixed saved ∷ params) ++ Fixed waits ∷ v.high) z c.state) whole s.mem in
      let mem2 =
      unframed_mem (Fixed saved ∷ params) v.high waits f v.temps mem1
      (of_low x.program (length fs) v.temps) (high_of fs count)
      u refl refl (omega (arith, p_total)) in (
        record c { state = u },
        goes_is,
        record {
          stands = record {
            mem = mem2;
            frame = refl;
            at = refl;
            said = s.said;
            position = s.position;
            needs = rest_are;
            most =
                let z : sum callee.needs ≡ need_is + sum v.needs = sum_cons need_is v.needs in
                omega (arith, s.most, z);
            laid = laid;
            params =
                lower_params x.program x.room v need_is saved held cells waits laid w.memory f fs
                count is s.params;
            temps = s.temps;
          };
          value = k.value;
          fits = k.fits;
        },
      )
    where
      tail : {a b : ℕ} {ms ns : List ℕ} → a ∷ ms ≡ b ∷ ns → ms ≡ ns
      tail e = cc

  -- PROC: the frame of the world stands where the machine's is
  pub proc_does : {A : Type 0} {d : ℕ} {o : Outcome A} {Q : A → World → Config → Type 0} (f : Frame)
      (rest : List Holds) (p : ℕ) (w : World) (c : Config)
      → Stands x.program x.room v (pos back ∷ pos (4 * length cells) ∷ (cells ++ waits)) p w c
      → f.need ≡ need_is → f.slots ≡ map held_in_slot held ++ rest
      → ((i : ℕ) → pointed (slice_get rest i) ≡ None)
      → fetched x.amx.code p ≡ Some (read_as (with op.Proc (pos 0)))
      → used x.program x.room v waits + length cells + 3 ≤ kept x.program x.room + sum v.needs
      + need_is
      → Later (entered f w) (world_of o)
      → ((t : Config) → Stands x.program x.room callee [] (p + 4) (entered f w) t
      → DoesAt x d w t o Q)
      → DoesAt x (1 + d) w c o Q
  proc_does {d = d} {o = o} {Q = Q} f rest p w c s n slots_are none g deep l next =
      by_room (cases_lt (length s.mem.free) 17)
    where
      frame_small : v.frm < 2 ^ 31
      frame_small = omega (arith, laid.small, laid.frame_below)

      frm_is : cell_of c.state.frm ≡ pos v.frm
      frm_is = ap cell_of s.frame ∙ small_cell v.frm frame_small

      count : length w.memory.frames ≡ depth v
      count = sym (count_needs w.memory.frames) ∙ ap length s.needs

      live_is : live_need (f ∷ w.memory.frames) ≡ need_is + sum v.needs
      live_is = sum_cons f.need (needs_of w.memory.frames) ∙ omega (arith, n, ap sum s.needs)

      errs_by : (k : ℕ) → length s.mem.free ≡ k → k < 17
          → act x.amx op.Proc (pos 0) (p + 4) c.state ≡ Errs (pos 3)
      errs_by zero e h =
          push_errs s.mem (cell_of c.state.frm)
          (λ t. with_margin t (λ u. at_next (p + 4) (record u { frm = u.stk }))) e
      errs_by (suc j) e h =
          let b : nat_le (c.state.hea + 64) (c.state.stk - 4) ≡ false =
          lt-leb _ _ (omega (arith, s.mem.hea, s.mem.stk, e, h)) in
          push_goes s.mem (cell_of c.state.frm)
          (λ t. with_margin t (λ u. at_next (p + 4) (record u { frm = u.stk })))
          (omega (arith, e)) ∙ rw b refl

      by_room : (length s.mem.free < 17) ⊎ (17 ≤ length s.mem.free) → DoesAt x (1 + d) w c o Q
      by_room (inl few) =
          short_here (move x.amx x.script) (length x.amx.code) x.room d c c (entered f w) o
          (move_is x c p (with op.Proc (pos 0)) s.at g
          ∙ ap (λ y. moved x.amx x.script c y) (errs_by (length s.mem.free) refl few)) s.said
          (omega (
            arith,
            few,
            s.mem.size,
            length-append s.mem.free (pos back ∷ pos (4 * length cells) ∷ (cells ++ waits)),
            length-append cells waits,
            deep,
            live_is,
          )) l
      by_room (inr much) =
          let y : ℤ = cell_of c.state.frm in
          let b : nat_le (c.state.hea + 64) (c.state.stk - 4) ≡ true =
          le-leb _ _ (omega (arith, s.mem.hea, s.mem.stk, much)) in
          let u : State = record (pushed_on c.state y) { frm = c.state.stk - 4; cip = p + 4 } in
          let goes_is : act x.amx op.Proc (pos 0) (p + 4) c.state ≡ Goes u =
          push_goes s.mem y (λ t. with_margin t (λ z. at_next (p + 4) (record z { frm = z.stk })))
          (omega (arith, much)) ∙ rw b refl in
          let all =
          length-append s.mem.free (pos back ∷ pos (4 * length cells) ∷ (cells ++ waits)) in
          let both = length-append cells waits in
          let mem1 =
          same_mem (pushed_mem s.mem y (rw frm_is (small_fits v.frm frame_small))
          (omega (arith, much))) u refl refl refl in
          let mem2 : Mem (all_cells x.program x.room) (low x.program x.room v)
          ((saved ++ cells) ++ waits) v.high w.memory u =
          subst (λ z. Mem (all_cells x.program x.room) (low x.program x.room v)
          (z ∷ pos back ∷ pos (4 * length cells) ∷ (cells ++ waits)) v.high w.memory u)
          frm_is mem1 in
          let new : List Piece = Fixed saved ∷ param_pieces (length w.memory.frames) 0 held cells in
          let image_is : image (with_frame f w.memory) new ≡ saved ++ cells =
          ap (λ l. saved ++ l) (params_image x.program x.room v w.memory f rest [] held cells hold
          slots_are) in
          let mem3 =
          framed_mem (saved ++ cells) waits new f v.temps mem2
          (of_low x.program (length w.memory.frames) v.temps)
          (high_of w.memory.frames count)
          image_is (
            tt,
            params_there x.program x.room v w.memory f rest [] held cells hold
                slots_are,
          ) in
          let mem4 : Mem (all_cells x.program x.room) (low x.program x.room v) [] callee.high
          (with_frame f w.memory) u =
          subst (λ j. Mem (all_cells x.program x.room) (low x.program x.room v) []
          (frame_pieces j saved held cells waits v.high) (with_frame f w.memory) u)
          count mem3 in
          step_then (move x.amx x.script) (length x.amx.code) x.room w c (record c { state = u })
          (move_is x c p (with op.Proc (pos 0)) s.at g ∙ ap (λ z. moved x.amx x.script c z) goes_is)
          s.said
          (next (record c { state = u }) (record {
            mem = mem4;
            frame = omega (arith, s.mem.stk, s.mem.size, all, both);
            at = refl;
            said = s.said;
            position = s.position;
            needs = ap (λ k. k ∷ needs_of w.memory.frames) n ∙ ap (λ l. need_is ∷ l) s.needs;
            most =
                let z : sum callee.needs ≡ need_is + sum v.needs = sum_cons need_is v.needs in
                omega (arith, z, live_is);
            laid =
                call_laid x.program x.room v need_is saved held cells waits laid hold refl
                (omega (arith, s.mem.size, all, both, much));
            params =
                higher_params x.program x.room v need_is saved held cells waits w.memory f rest
                slots_are count none s.params;
            temps = s.temps;
          }))
