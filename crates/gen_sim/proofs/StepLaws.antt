-- What single instructions do to a machine that stands for a world.
use Rattle.std.proofs.Common.{◌≡◌, ◌+◌, ◌*◌, ◌-◌, ◌/◌, ◌^◌, ◌<◌, ◌≤◌, ℕ, zero, suc, ℤ, pos, negsuc}
use Rattle.std.proofs.Common.{List, [], ◌∷◌, Option, None, Some, Bool, true, false, length, sum}
use Rattle.std.proofs.Common.{slice_set, nat_lt, refl, ap, ◌∙◌, arith, length-append, le-ltb}
use Rattle.std.proofs.Common.{lt-ltb}
use Rattle.std.proofs.lemmas.Bool.{ltb-true, ltb-false}
use Rattle.pawn_cells.specs.Cells.{IsCell, bits_of, add}
use Rattle.pawn_cells.proofs.CellLaws.{wrap_cell}
use Rattle.host_script.specs.declared.event.End.TheVariants as end
use Rattle.pawn_meaning.specs.Memory.{Memory, Name, Cell, read, write, write_cells, read_cell}
use Rattle.pawn_meaning.specs.World.{World}
use Rattle.pawn_meaning.specs.Run.{Outcome, Gives, Stops, Run, Done, done, then_do, or_stop}
use Rattle.pawn_meaning.specs.Run.{changed, change, ◌>>=◌}
use Rattle.pawn_meaning.specs.References.{index}
use Rattle.pawn_meaning.specs.Later.{Later, world_of}
use Rattle.amx_ops.specs.declared.op.Op.TheVariants as op
use Rattle.amx_ops.specs.Instructions.{fetched}
use Rattle.amx_ops.specs.Written.{Written, cells_of, read_as}
use Rattle.amx_ops.specs.State.{State, Goes, Errs, push}
use Rattle.amx_ops.specs.Access.{load, store, raise}
use Rattle.amx_ops.specs.Effects.{at_next}
use Rattle.amx_ops.specs.Step.{act, act_on}
use Rattle.amx_ops.specs.Moves.{Config, moved, move}
use Rattle.amx_ops.proofs.Rows.{op_is}
use Rattle.gen_sim.proofs.Sim.{stays, gives, stops, grown, ends_one, step_then, short_here, size_is}
use Rattle.gen_sim.specs.Pieces.{Thing, extent}
use Rattle.gen_sim.specs.View.{View, kept, used, CellAt}
use Rattle.gen_sim.specs.Stands.{Stands, With}
use Rattle.gen_sim.proofs.MemLaws.{live_in, below_top, same_mem}
use Rattle.gen_sim.proofs.ChangeLaws.{pushed_on, push_goes, push_errs, pushed_mem, dropped_mem}
use Rattle.gen_sim.proofs.ChangeLaws.{pop_goes}
use Rattle.gen_sim.proofs.WorldLaws.{stands_still, stands_on, cell_reads, cell_written}
use Rattle.gen_sim.specs.Site.{Site, DoesAt}
use Rattle.gen_sim.specs.Items.{with}

-- what follows from where an instruction leads that keeps PRI and ALT
abbrev pub Follows : {A : Type 0} → Site → View → List ℤ → (q d : ℕ) → World → Config → Outcome A
    → (A → World → Config → Type 0) → Type 0
Follows x v pending q d w c o Q =
    (t : Config) → Stands x.program x.room v pending q w t → t.state.pri ≡ c.state.pri
    → t.state.alt ≡ c.state.alt → DoesAt x d w t o Q

module _ (x : Site) where
  -- what one move is, where an instruction is fetched
  pub move_is : (c : Config) (p : ℕ) (it : Written) → c.state.cip ≡ p
      → fetched x.amx.code p ≡ Some (read_as it)
      → move x.amx x.script c ≡ moved x.amx x.script c
      (act x.amx it.op it.operand (p + 4 * length (cells_of it)) c.state)
  move_is c p it e f =
      ap (λ q. moved x.amx x.script c (act_on x.amx (fetched x.amx.code q) c.state)) e
      ∙ rw (f, op_is it.op, e) refl

  module _ {A : Type 0} {d : ℕ} {o : Outcome A} {Q : A → World → Config → Type 0} {v : View}
      {pending : List ℤ} {p : ℕ} {w : World} {c : Config}
      (a : Stands x.program x.room v pending p w c) where
    -- an instruction that shows nothing goes before what follows
    pub goes : (it : Written) → fetched x.amx.code p ≡ Some (read_as it) → (t : State)
        → act x.amx it.op it.operand (p + 4 * length (cells_of it)) c.state ≡ Goes t
        → DoesAt x d w (record c { state = t }) o Q → DoesAt x (1 + d) w c o Q
    goes it f t e next =
        step_then (move x.amx x.script) (length x.amx.code) x.room w c (record c { state = t })
        (move_is c p it a.at f ∙ ap (λ z. moved x.amx x.script c z) e) a.said next

    -- a push: where no cell is free, more is needed than there is
    pub pushes : (it : Written) → fetched x.amx.code p ≡ Some (read_as it) → (y : ℤ)
        → act x.amx it.op it.operand (p + 4 * length (cells_of it)) c.state
        ≡ push c.state y (at_next (p + 4 * length (cells_of it)))
        → IsCell y → used x.program x.room v pending ≤ kept x.program x.room + sum v.needs + 15
        → Later w (world_of o)
        → Follows x v (y ∷ pending) (p + 4 * length (cells_of it)) d w c o Q
        → DoesAt x (1 + d) w c o Q
    pushes it f y e fit deep l next = by_free (length a.mem.free) refl
      where
        by_free : (n : ℕ) → length a.mem.free ≡ n → DoesAt x (1 + d) w c o Q
        by_free zero n =
            short_here (move x.amx x.script) (length x.amx.code) x.room d c c w o
            (move_is c p it a.at f
            ∙ ap (λ z. moved x.amx x.script c z)
            (e ∙ push_errs a.mem y (at_next (p + 4 * length (cells_of it))) n)) a.said
            (omega (arith, a.mem.size, length-append a.mem.free pending, n, deep, a.most)) l
        by_free (suc k) n =
            let t : State = record (pushed_on c.state y) { cip = p + 4 * length (cells_of it) } in
            goes it f t (e ∙ push_goes a.mem y (at_next (p + 4 * length (cells_of it)))
            (omega (arith, n)))
            (next (record c { state = t }) (stands_still x.program x.room a
            (same_mem (pushed_mem a.mem y fit (omega (arith, n))) t refl refl refl) refl refl)
            refl refl)

  -- ---- ends

  module _ {A : Type 0} {Q : A → World → Config → Type 0} {v : View} {pending : List ℤ} {p : ℕ}
      {w : World} {c : Config}
      (a : Stands x.program x.room v pending p w c) where
    -- nothing is claimed from a stray access on
    pub stray : {d : ℕ} → DoesAt x d w c (Stops end.Stray w) Q
    stray =
        stops (move x.amx x.script) (length x.amx.code) x.room
        (grown (move x.amx x.script) (length x.amx.code) x.room (omega arith)
        (stays (move x.amx x.script) (length x.amx.code) x.room c w a.said tt))

    -- a run that has given its value where it is
    pub given : {y : A} {d : ℕ} → Q y w c → DoesAt x d w c (Gives y w) Q
    given q =
        gives (move x.amx x.script) (length x.amx.code) x.room
        (grown (move x.amx x.script) (length x.amx.code) x.room (omega arith)
        (stays (move x.amx x.script) (length x.amx.code) x.room c w a.said q))

    -- an error
    pub errs : (d : ℕ) (it : Written) → fetched x.amx.code p ≡ Some (read_as it) → (code : ℤ)
        → act x.amx it.op it.operand (p + 4 * length (cells_of it)) c.state ≡ Errs code
        → DoesAt x (1 + d) w c (Stops (end.Error code) w) Q
    errs d it f code e =
        stops (move x.amx x.script) (length x.amx.code) x.room
        (grown (move x.amx x.script) (length x.amx.code) x.room (omega arith)
        (ends_one (move x.amx x.script) (length x.amx.code) x.room c c w (end.Error code)
        (move_is c p it a.at f ∙ ap (λ z. moved x.amx x.script c z) e) a.said))

  -- ---- pops

  pub popped_stands : {v : View} {y : ℤ} {pending : List ℤ} {p : ℕ} {w : World} {c : Config}
      → Stands x.program x.room v (y ∷ pending) p w c
      → (q : ℕ) (t : State) → t.cells ≡ c.state.cells → t.hea ≡ c.state.hea
      → t.stk ≡ c.state.stk + 4 → t.frm ≡ c.state.frm → t.cip ≡ q
      → Stands x.program x.room v pending q w (record c { state = t })
  popped_stands {y = y} a q t e f g h i =
      stands_still x.program x.room a (dropped_mem (y ∷ []) a.mem t e f g) h i

  module _ {A : Type 0} {d : ℕ} {o : Outcome A} {Q : A → World → Config → Type 0} {v : View} {y : ℤ}
      {pending : List ℤ} {p : ℕ} {w : World} {c : Config}
      (a : Stands x.program x.room v (y ∷ pending) p w c) where
    pub pop_alt_does : fetched x.amx.code p ≡ Some (read_as (with op.PopAlt (pos 0)))
        → ((t : Config) → Stands x.program x.room v pending (p + 4) w t → t.state.alt ≡ y
        → t.state.pri ≡ c.state.pri → DoesAt x d w t o Q)
        → DoesAt x (1 + d) w c o Q
    pop_alt_does f next =
        let t : State = record c.state { stk = c.state.stk + 4; alt = y; cip = p + 4 } in
        goes a (with op.PopAlt (pos 0)) f t
        (pop_goes a.mem (λ z u. at_next (p + 4) (record u { alt = z })))
        (next (record c { state = t }) (popped_stands a (p + 4) t refl refl refl refl refl)
        refl refl)

    pub pop_pri_does : fetched x.amx.code p ≡ Some (read_as (with op.PopPri (pos 0)))
        → ((t : Config) → Stands x.program x.room v pending (p + 4) w t → t.state.pri ≡ y
        → t.state.alt ≡ c.state.alt → DoesAt x d w t o Q)
        → DoesAt x (1 + d) w c o Q
    pop_pri_does f next =
        let t : State = record c.state { stk = c.state.stk + 4; pri = y; cip = p + 4 } in
        goes a (with op.PopPri (pos 0)) f t
        (pop_goes a.mem (λ z u. at_next (p + 4) (record u { pri = z })))
        (next (record c { state = t }) (popped_stands a (p + 4) t refl refl refl refl refl)
        refl refl)

  -- ---- cells of objects

  module _ {A : Type 0} {d : ℕ} {Q : A → World → Config → Type 0} {v : View} {pending : List ℤ}
      {p : ℕ} {w : World} {c : Config}
      (a : Stands x.program x.room v pending p w c) {name : Name} {i cell : ℕ}
      (at : CellAt x.program x.room v name i cell) where
    -- a cell is read by an instruction that loads at its address
    pub load_by : (it : Written) → fetched x.amx.code p ≡ Some (read_as it)
        → act x.amx it.op it.operand (p + 4 * length (cells_of it)) c.state
        ≡ load c.state (4 * cell)
        (λ z. at_next (p + 4 * length (cells_of it)) (record c.state { pri = z }))
        → (go : ℤ → Run A)
        → ((y : ℤ) (t : Config)
        → With x.program x.room v pending (p + 4 * length (cells_of it)) y w t
        → t.state.alt ≡ c.state.alt → DoesAt x d w t (go y w) Q)
        → DoesAt x (1 + d) w c (then_do (or_stop (read (Cell name i) w.memory) end.Stray w) go) Q
    load_by it f e go next = by_value (read_cell name i w.memory) refl
      where
        by_value : (o : Option ℤ) → read_cell name i w.memory ≡ o
            → DoesAt x (1 + d) w c (then_do (or_stop o end.Stray w) go) Q
        by_value None o = stray a
        by_value (Some y) o =
            let r = cell_reads x.program x.room a at y o in
            let q : ℕ = p + 4 * length (cells_of it) in
            let t : State = record c.state { pri = y; cip = q } in
            let g : load c.state (4 * cell) (λ z. at_next q (record c.state { pri = z })) ≡ Goes t
            = rw (r.live, r.value) refl in
            goes a it f t (e ∙ g)
            (next y (record c { state = t }) (record {
              stands = stands_on x.program x.room a q t refl refl refl refl refl;
              value = refl;
              fits = r.fits;
            }) refl)

    -- or to ALT
    pub load_alt_by : (it : Written) → fetched x.amx.code p ≡ Some (read_as it)
        → act x.amx it.op it.operand (p + 4 * length (cells_of it)) c.state
        ≡ load c.state (4 * cell)
        (λ z. at_next (p + 4 * length (cells_of it)) (record c.state { alt = z }))
        → (go : ℤ → Run A)
        → ((y : ℤ) (t : Config) → IsCell y
        → Stands x.program x.room v pending (p + 4 * length (cells_of it)) w t
        → t.state.alt ≡ y → t.state.pri ≡ c.state.pri → DoesAt x d w t (go y w) Q)
        → DoesAt x (1 + d) w c (then_do (or_stop (read (Cell name i) w.memory) end.Stray w) go) Q
    load_alt_by it f e go next = by_value (read_cell name i w.memory) refl
      where
        by_value : (o : Option ℤ) → read_cell name i w.memory ≡ o
            → DoesAt x (1 + d) w c (then_do (or_stop o end.Stray w) go) Q
        by_value None o = stray a
        by_value (Some y) o =
            let r = cell_reads x.program x.room a at y o in
            let q : ℕ = p + 4 * length (cells_of it) in
            let t : State = record c.state { alt = y; cip = q } in
            let g : load c.state (4 * cell) (λ z. at_next q (record c.state { alt = z })) ≡ Goes t
            = rw (r.live, r.value) refl in
            goes a it f t (e ∙ g)
            (next y (record c { state = t }) r.fits
            (stands_on x.program x.room a q t refl refl refl refl refl) refl refl)

    -- LOAD.I: at its address in PRI
    pub load_does : c.state.pri ≡ pos (4 * cell)
        → fetched x.amx.code p ≡ Some (read_as (with op.LoadI (pos 0))) → (go : ℤ → Run A)
        → ((y : ℤ) (t : Config) → With x.program x.room v pending (p + 4) y w t
        → t.state.alt ≡ c.state.alt → DoesAt x d w t (go y w) Q)
        → DoesAt x (1 + d) w c (then_do (or_stop (read (Cell name i) w.memory) end.Stray w) go) Q
    load_does e f go next = load_by (with op.LoadI (pos 0)) f (rw e refl) go next

    -- PRI is written by an instruction that stores at the cell's address
    pub store_by : (it : Written) → (y : ℤ) → c.state.pri ≡ y → IsCell y
        → fetched x.amx.code p ≡ Some (read_as it)
        → act x.amx it.op it.operand (p + 4 * length (cells_of it)) c.state
        ≡ store c.state (4 * cell) c.state.pri (at_next (p + 4 * length (cells_of it)))
        → (go : Done → Run A)
        → ((n : Memory) (t : Config)
        → With x.program x.room v pending (p + 4 * length (cells_of it)) y
        (record w { memory = n }) t
        → DoesAt x d w t (go done (record w { memory = n })) Q)
        → DoesAt x (1 + d) w c (then_do (changed (write (Cell name i) y w.memory) w) go) Q
    store_by it y k fit f e go next = by_memory (write_cells name i (y ∷ []) w.memory) refl
      where
        by_memory : (o : Option Memory) → write_cells name i (y ∷ []) w.memory ≡ o
            → DoesAt x (1 + d) w c (then_do (changed o w) go) Q
        by_memory None o = stray a
        by_memory (Some n) o =
            let inside : cell < at.first + extent (Thing name at.sizes) =
            omega (arith, at.cell_is, at.inside) in
            let live = live_in a.mem at.placed cell (omega (arith, at.cell_is)) inside in
            let j : 4 * cell / 4 ≡ cell = omega arith in
            let q : ℕ = p + 4 * length (cells_of it) in
            let t : State =
            record c.state { cells = slice_set c.state.cells cell y; cip = q } in
            let g : store c.state (4 * cell) c.state.pri (at_next q) ≡ Goes t =
            rw (live, k, j) refl in
            goes a it f t (e ∙ g)
            (next n (record c { state = t }) (record {
              stands =
                  cell_written x.program x.room a at y fit n o
                  (below_top a.mem at.placed cell inside) q t refl refl refl refl refl;
              value = k;
              fits = fit;
            }))

    -- STOR.I: at the address in ALT
    pub store_does : (y : ℤ) → c.state.pri ≡ y → IsCell y → c.state.alt ≡ pos (4 * cell)
        → fetched x.amx.code p ≡ Some (read_as (with op.StorI (pos 0))) → (go : Done → Run A)
        → ((n : Memory) (t : Config) → With x.program x.room v pending (p + 4) y
        (record w { memory = n }) t
        → DoesAt x d w t (go done (record w { memory = n })) Q)
        → DoesAt x (1 + d) w c (then_do (changed (write (Cell name i) y w.memory) w) go) Q
    store_does y k fit e f go next =
        store_by (with op.StorI (pos 0)) y k fit f (rw e refl) go next

    -- a cell gets so much more
    pub raise_by : (it : Written) (delta : ℤ) → fetched x.amx.code p ≡ Some (read_as it)
        → act x.amx it.op it.operand (p + 4 * length (cells_of it)) c.state
        ≡ raise c.state (4 * cell) delta (at_next (p + 4 * length (cells_of it)))
        → (go : ℤ → Done → Run A)
        → ((y : ℤ) (n : Memory) (t : Config)
        → Stands x.program x.room v pending (p + 4 * length (cells_of it))
        (record w { memory = n }) t
        → DoesAt x d w t (go y done (record w { memory = n })) Q)
        → DoesAt x (1 + d) w c (then_do (or_stop (read (Cell name i) w.memory) end.Stray w)
        (λ y. change (write (Cell name i) (add y delta)) >>= go y)) Q
    raise_by it delta f e go next = by_value (read_cell name i w.memory) refl
      where
        by_memory : (y : ℤ) → read_cell name i w.memory ≡ Some y → (o : Option Memory)
            → write_cells name i (add y delta ∷ []) w.memory ≡ o
            → DoesAt x (1 + d) w c (then_do (changed o w) (go y)) Q
        by_memory y g None o = stray a
        by_memory y g (Some n) o =
            let r = cell_reads x.program x.room a at y g in
            let z : ℤ = add y delta in
            let inside : cell < at.first + extent (Thing name at.sizes) =
            omega (arith, at.cell_is, at.inside) in
            let j : 4 * cell / 4 ≡ cell = omega arith in
            let q : ℕ = p + 4 * length (cells_of it) in
            let t : State =
            record c.state { cells = slice_set c.state.cells cell z; cip = q } in
            let h : raise c.state (4 * cell) delta (at_next q) ≡ Goes t =
            rw (r.live, r.value, j) refl in
            goes a it f t (e ∙ h)
            (next y n (record c { state = t })
            (cell_written x.program x.room a at z (wrap_cell _) n o
            (below_top a.mem at.placed cell inside) q t refl refl refl refl refl))

        by_value : (o : Option ℤ) → read_cell name i w.memory ≡ o
            → DoesAt x (1 + d) w c (then_do (or_stop o end.Stray w)
            (λ y. change (write (Cell name i) (add y delta)) >>= go y)) Q
        by_value None o = stray a
        by_value (Some y) o =
            by_memory y o (write_cells name i (add y delta ∷ []) w.memory) refl

  -- ---- indexes

  -- the test of an index against a size: none where it isn't known
  abbrev pub bounds : Bool → ℕ → List Written
  bounds true n = with op.Bounds (pos (n - 1)) ∷ []
  bounds false n = []

  -- behind it
  abbrev pub behind_bounds : Bool → ℕ → ℕ
  behind_bounds true p = p + 8
  behind_bounds false p = p

  -- it lies at an address
  abbrev pub BoundsLie : Bool → ℕ → ℕ → Type 0
  BoundsLie true n p = fetched x.amx.code p ≡ Some (read_as (with op.Bounds (pos (n - 1))))
  BoundsLie false n p = Unit {0}

  -- an index in PRI, below a size that the world knows: error 4 outside where the code tests it,
  -- and outside the part of an open array nothing is claimed
  module _ {A : Type 0} (d : ℕ) {Q : A → World → Config → Type 0} {v : View} {pending : List ℤ}
      {p : ℕ} {w : World} {c : Config} (size : ℕ) (go : ℕ → Run A) where
    known_by : (n i : ℕ) → size ≡ n → 1 ≤ n → With x.program x.room v pending p (pos i) w c
        → BoundsLie true n p
        → ((j : ℕ) → j < size → (t : Config) → With x.program x.room v pending (p + 8) (pos j) w t
        → DoesAt x d w t (go j w) Q)
        → (b : Bool) → nat_lt i size ≡ b
        → DoesAt x (1 + d) w c (then_do (index true size (pos i) w) go) Q
    known_by n i k m a f next true e =
        let below : nat_lt (n - 1) i ≡ false = le-ltb _ _ (omega (arith, ltb-true _ _ e, k)) in
        let t : State = record c.state { cip = p + 8 } in
        rw e (goes a.stands (with op.Bounds (pos (n - 1))) f t (rw (a.value, below) refl)
        (next i (ltb-true _ _ e) (record c { state = t }) (record {
          stands = stands_on x.program x.room a.stands (p + 8) t refl refl refl refl refl;
          value = a.value;
          fits = a.fits;
        })))
    known_by n i k m a f next false e =
        let above : nat_lt (n - 1) i ≡ true = lt-ltb _ _ (omega (arith, ltb-false _ _ e, k, m)) in
        rw e (errs a.stands d (with op.Bounds (pos (n - 1))) f (pos 4) (rw (a.value, above) refl))

    known_below : (n i : ℕ) → 1 ≤ n → n ≤ 2 ^ 31 → With x.program x.room v pending p (negsuc i) w c
        → BoundsLie true n p
        → DoesAt x (1 + d) w c (then_do (index true size (negsuc i) w) go) Q
    known_below n i m top a f =
        let above : nat_lt (n - 1) (bits_of (negsuc i)) ≡ true =
        lt-ltb _ _ (omega (arith, a.fits.sfits, m, top)) in
        errs a.stands d (with op.Bounds (pos (n - 1))) f (pos 4) (rw (a.value, above) refl)

    open_by : (i : ℕ) → With x.program x.room v pending p (pos i) w c
        → ((j : ℕ) → j < size → (t : Config) → With x.program x.room v pending p (pos j) w t
        → DoesAt x d w t (go j w) Q)
        → (b : Bool) → nat_lt i size ≡ b
        → DoesAt x d w c (then_do (index false size (pos i) w) go) Q
    open_by i a next true e = rw e (next i (ltb-true _ _ e) c a)
    open_by i a next false e = rw e (stray a.stands)

    pub index_does : (known : Bool) (n : ℕ) (y : ℤ)
        → (known ≡ true → (size ≡ n) × (1 ≤ n) × (n ≤ 2 ^ 31))
        → With x.program x.room v pending p y w c → BoundsLie known n p
        → ((j : ℕ) → j < size → (t : Config)
        → With x.program x.room v pending (behind_bounds known p) (pos j) w t
        → DoesAt x d w t (go j w) Q)
        → DoesAt x (length (bounds known n) + d) w c (then_do (index known size y w) go) Q
    index_does true n (pos i) k a l next = known_by n i (k refl).0 (k refl).1 a l next _ refl
    index_does true n (negsuc i) k a l next = known_below n i (k refl).1 (k refl).2 a l
    index_does false n (pos i) k a l next =
        size_is (move x.amx x.script) (length x.amx.code) x.room (omega arith)
        (open_by i a next _ refl)
    index_does false n (negsuc i) k a l next = stray a.stands
