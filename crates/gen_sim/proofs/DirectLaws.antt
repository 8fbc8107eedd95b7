-- A place's own instruction reaches its cell: each place without an index has one.
use Rattle.std.proofs.Common.{◌≡◌, ◌+◌, ◌*◌, ◌<◌, ℕ, ℤ, pos, negsuc, List, [], ◌∷◌, Option, None}
use Rattle.std.proofs.Common.{Some, length, slice_get, refl, sym, ap, subst, ◌∙◌, arith}
use Rattle.pawn_cells.specs.Cells.{IsCell, bits_of, wrapped_sum}
use Rattle.host_script.specs.declared.event.End.TheVariants as end
use Rattle.pawn_meaning.specs.Program.{Scalar, ScalarSlot, ReferenceSlot, Global, Own, Through}
use Rattle.pawn_meaning.specs.Scope.{Scope, IsInSight}
use Rattle.pawn_meaning.specs.ValidExprs.{IsCellObject}
use Rattle.pawn_meaning.specs.Memory.{Name, Static, Local, Reference, Place, Cell, running}
use Rattle.pawn_meaning.specs.Memory.{read, write}
use Rattle.pawn_meaning.specs.World.{World}
use Rattle.pawn_meaning.specs.Run.{Outcome, Gives, Stops, More, Run, then_do, or_stop, give}
use Rattle.pawn_meaning.specs.Run.{◌>>=◌, look, change}
use Rattle.pawn_meaning.specs.References.{cell_at}
use Rattle.pawn_meaning.specs.Meaning.{Fewer, place}
use Rattle.amx_ops.specs.declared.op.Op.{Op}
use Rattle.amx_ops.specs.Written.{cells_of}
use Rattle.amx_ops.specs.State.{push}
use Rattle.amx_ops.specs.Access.{load, store, raise, in_frame}
use Rattle.amx_ops.specs.Effects.{at_next}
use Rattle.amx_ops.specs.Step.{act}
use Rattle.amx_ops.specs.Moves.{Config}
use Rattle.gen_sim.specs.View.{View, CellAt, ParamAt, innermost}
use Rattle.gen_sim.specs.Stands.{Stands}
use Rattle.gen_sim.specs.Site.{Site, DoesAt, scene_at}
use Rattle.gen_sim.specs.Items.{Item, item_cells, past, with}
use Rattle.gen_sim.specs.Fits.{Fits}
use Rattle.gen_sim.specs.Lies.{Lies}
use Rattle.gen_sim.specs.PlaceItems.{object_address, slot_offset}
use Rattle.gen_sim.specs.SimpleCode.{taking}
use Rattle.gen_sim.specs.DirectCode.{Direct, data_cell, frame_cell, pointed_cell, direct_load}
use Rattle.gen_sim.specs.DirectCode.{direct_store}
use Rattle.gen_sim.proofs.DataLaws.{object_first}
use Rattle.gen_sim.proofs.PlaceNodes.{global_cell, object_address_is, referred_cell}
use Rattle.gen_sim.proofs.SlotLaws.{running_is, cell_slot_at, through_is, param_reads}
use Rattle.gen_sim.proofs.StepLaws.{given, stray, load_by, load_alt_by, store_by}
use Rattle.gen_sim.proofs.ItemSteps.{one_item}
use Rattle.gen_sim.proofs.NodesPartLaws.{then_nothing}
use Rattle.gen_sim.proofs.AccessLaws.{Loaded, Stored}

-- they add 1 to a cell of this number, and take 1 away
abbrev pub Adding : Site → View → ℤ → ℕ → Option (Op × Op) → Type 0
Adding x v operand cell None = Unit {0}
Adding x v operand cell (Some ops) =
    (pending : List ℤ) (p : ℕ) (w : World) (c : Config)
    → Stands x.program x.room v pending p w c → (q : ℕ)
    → (act x.amx ops.0 operand q c.state ≡ raise c.state (4 * cell) (pos 1) (at_next q))
    × (act x.amx ops.1 operand q c.state ≡ raise c.state (4 * cell) (negsuc 0) (at_next q))

-- one pushes a cell of this number
abbrev pub Pushing : Site → View → ℤ → ℕ → Option Op → Type 0
Pushing x v operand cell None = Unit {0}
Pushing x v operand cell (Some o) =
    (pending : List ℤ) (p : ℕ) (w : World) (c : Config)
    → Stands x.program x.room v pending p w c → (q : ℕ)
    → act x.amx o operand q c.state ≡ load c.state (4 * cell) (λ z. push c.state z (at_next q))

-- the instructions load and store a cell of this number, wherever the machine is in the view
pub record Reached (x : Site) (v : View) (d : Direct) (cell : ℕ) : Type 0 where
  pub loading : {pending : List ℤ} {p : ℕ} {w : World} {c : Config}
      → Stands x.program x.room v pending p w c → (q : ℕ)
      → act x.amx d.loads d.operand q c.state
      ≡ load c.state (4 * cell) (λ z. at_next q (record c.state { pri = z }))
  pub left : {pending : List ℤ} {p : ℕ} {w : World} {c : Config}
      → Stands x.program x.room v pending p w c → (q : ℕ)
      → act x.amx d.loads_alt d.operand q c.state
      ≡ load c.state (4 * cell) (λ z. at_next q (record c.state { alt = z }))
  pub storing : {pending : List ℤ} {p : ℕ} {w : World} {c : Config}
      → Stands x.program x.room v pending p w c → (q : ℕ)
      → act x.amx d.stores d.operand q c.state
      ≡ store c.state (4 * cell) c.state.pri (at_next q)
  pub adding : Adding x v d.operand cell d.adds
  pub pushing : Pushing x v d.operand cell d.pushes

-- a place is a cell that they reach
pub record ReachedAt (x : Site) (v : View) (d : Direct) (at : Place) : Type 0 where
  pub name : Name
  pub i : ℕ
  pub cell : ℕ
  pub is : at ≡ Cell name i
  pub placed : CellAt x.program x.room v name i cell
  pub reached : Reached x v d cell

-- what a run finds without a step: such a place, or it is stray
abbrev pub Finds : Site → View → Direct → World → Outcome Place → Type 0
Finds x v d w (Gives at u) = (u ≡ w) × ReachedAt x v d at
Finds x v d w (Stops e u) = (u ≡ w) × (e ≡ end.Stray)
Finds x v d w (More u) = ⊥

-- a place has instructions of its own
pub record DirectPlace (scope : Scope) (s : Scalar) (d : Direct) : Type 0 where
  pub finds : (x : Site) → x.program ≡ scope.program → (fewer : Fewer)
      → (v : View) → Fits x.program x.room scope v
      → {pending : List ℤ} {p : ℕ} {w : World} {c : Config}
      → Stands x.program x.room v pending p w c
      → Finds x v d w (place (scene_at x) fewer s w)

module _ (x : Site) {v : View} {pending : List ℤ} (d : Direct) where
  -- what follows a place that was found
  pub found_does : {A : Type 0} {n p : ℕ} {w : World} {c : Config}
      {Q : A → World → Config → Type 0} → Stands x.program x.room v pending p w c
      → (o : Outcome Place) → Finds x v d w o → (go : Place → Run A)
      → ((at : Place) → ReachedAt x v d at → DoesAt x n w c (go at w) Q)
      → DoesAt x n w c (then_do o go) Q
  found_does {n = n} {w = w} {c = c} {Q = Q} s (Gives at u) h go next =
      subst (λ z. DoesAt x n w c (go at z) Q) (sym h.0) (next at h.1)
  found_does {n = n} {w = w} {c = c} {Q = Q} s (Stops e u) h go next =
      subst (λ z. DoesAt x n w c (Stops z u) Q) (sym h.1)
      (subst (λ z. DoesAt x n w c (Stops end.Stray z) Q) (sym h.0) (stray x s))
  found_does s (More u) h go next = elim h [ ]

  -- its cell is loaded, and ALT is as it was
  pub direct_loads : (at : Place) → ReachedAt x v d at → (p : ℕ) (u : World) (t : Config)
      → Stands x.program x.room v pending p u t → Lies x p (direct_load d)
      → DoesAt x (length (item_cells (direct_load d))) u t (look (read at) u)
      (Loaded x v pending (past p (direct_load d)) t.state.alt)
  direct_loads at r p u t a l =
      let it = with d.loads d.operand in
      subst (λ z. DoesAt x (length (item_cells (direct_load d))) u t (look (read z) u)
      (Loaded x v pending (past p (direct_load d)) t.state.alt)) (sym r.is)
      (subst (λ o. DoesAt x (length (item_cells (direct_load d))) u t o
      (Loaded x v pending (past p (direct_load d)) t.state.alt))
      (then_nothing (look (read (Cell r.name r.i)) u))
      (one_item x it [] u
      (load_by x {d = 0} a r.placed it l.lie.0
      (r.reached.loading a (p + 4 * length (cells_of it))) (λ y. give y)
      (λ y n b e. given x b.stands (b, e)))))

  -- its cell is loaded to ALT, and PRI is as it was
  pub direct_left : {A : Type 0} {js : List Item} {Q : A → World → Config → Type 0} (at : Place)
      → ReachedAt x v d at → (p : ℕ) (u : World) (t : Config)
      → Stands x.program x.room v pending p u t → Lies x p (taking d.loads_alt d.operand ∷ js)
      → (go : ℤ → Run A)
      → ((y : ℤ) (n : Config) → IsCell y → Stands x.program x.room v pending
      (p + 4 * length (cells_of (with d.loads_alt d.operand))) u n
      → n.state.alt ≡ y → n.state.pri ≡ t.state.pri
      → DoesAt x (length (item_cells js)) u n (go y u) Q)
      → DoesAt x (length (item_cells (taking d.loads_alt d.operand ∷ js))) u t
      ((look (read at) >>= go) u) Q
  direct_left {js = js} {Q = Q} at r p u t a l go next =
      let it = with d.loads_alt d.operand in
      subst (λ z. DoesAt x (length (item_cells (taking d.loads_alt d.operand ∷ js))) u t
      ((look (read z) >>= go) u) Q) (sym r.is)
      (one_item x it js u
      (load_alt_by x a r.placed it l.lie.0
      (r.reached.left a (p + 4 * length (cells_of it))) go next))

  -- PRI is stored there
  pub direct_stores : (at : Place) → ReachedAt x v d at → (y : ℤ) → IsCell y
      → (p : ℕ) (u : World) (t : Config) → Stands x.program x.room v pending p u t
      → t.state.pri ≡ y → Lies x p (direct_store d)
      → DoesAt x (length (item_cells (direct_store d))) u t (change (write at y) u)
      (Stored x v pending (past p (direct_store d)) y)
  direct_stores at r y fit p u t a pri l =
      let it = with d.stores d.operand in
      subst (λ z. DoesAt x (length (item_cells (direct_store d))) u t (change (write z y) u)
      (Stored x v pending (past p (direct_store d)) y)) (sym r.is)
      (subst (λ o. DoesAt x (length (item_cells (direct_store d))) u t o
      (Stored x v pending (past p (direct_store d)) y))
      (then_nothing (change (write (Cell r.name r.i) y) u))
      (one_item x it [] u
      (store_by x {d = 0} a r.placed it y pri fit l.lie.0
      (r.reached.storing a (p + 4 * length (cells_of it))) (λ d. give d)
      (λ m n b. given x b.stands b))))

-- ---- each place without an index

-- an offset from FRM
in_frame_is : (x : Site) (v : View) (offset : ℤ) (first : ℕ) {pending : List ℤ} {p : ℕ} {w : World}
    {c : Config} → Stands x.program x.room v pending p w c
    → wrapped_sum v.frm (bits_of offset) ≡ 4 * first → in_frame c.state offset ≡ 4 * first
in_frame_is x v offset first s e = ap (λ n. wrapped_sum n (bits_of offset)) s.frame ∙ e

abbrev through_its : ℕ → Direct
through_its slot = pointed_cell (pos (12 + 4 * slot))

through_reached : (x : Site) (v : View) (slot : ℕ) (r : Reference)
    (at : ParamAt x.program x.room v slot r) → Reached x v (through_its slot) at.cell
through_reached x v slot r at = record {
  loading = λ {pending} {p} {w} {c} b q.
      let its = param_reads x v b slot r at in
      rw (its.offset_is, its.reads.live, its.reads.value) refl;
  left = λ {pending} {p} {w} {c} b q.
      let its = param_reads x v b slot r at in
      rw (its.offset_is, its.reads.live, its.reads.value) refl;
  storing = λ {pending} {p} {w} {c} b q.
      let its = param_reads x v b slot r at in
      rw (its.offset_is, its.reads.live, its.reads.value) refl;
  adding = tt;
  pushing = tt;
}

through_finds : (x : Site) (v : View) (slot : ℕ) {pending : List ℤ} {p : ℕ} {w : World} {c : Config}
    → Stands x.program x.room v pending p w c
    → ((r : Reference) → v.params (innermost v) slot ≡ Some r → r.sizes ≡ [])
    → (o : Option Reference) → v.params (innermost v) slot ≡ o
    → Finds x v (through_its slot) w (then_do (or_stop o end.Stray w) (λ r. give (cell_at r 0)))
through_finds x v slot s one None e = (refl, refl)
through_finds x v slot s one (Some r) e =
    let at = s.laid.refs slot r e in (
      refl,
      record {
        name = r.object;
        i = r.at + 0;
        cell = at.cell;
        is = refl;
        placed = referred_cell x v r at.cell at.refers (one r e);
        reached = through_reached x v slot r at;
      },
    )

-- a cell of the data whose address is the operand
pub data_reached : (x : Site) (v : View) (address : ℤ) (cell : ℕ) → address ≡ pos (4 * cell)
    → Reached x v (data_cell address) cell
data_reached x v address cell at = record {
  loading = λ {pending} {p} {w} {c} b q.
      ap (λ z. load c.state (bits_of z) (λ y. at_next q (record c.state { pri = y }))) at;
  left = λ {pending} {p} {w} {c} b q.
      ap (λ z. load c.state (bits_of z) (λ y. at_next q (record c.state { alt = y }))) at;
  storing = λ {pending} {p} {w} {c} b q.
      ap (λ z. store c.state (bits_of z) c.state.pri (at_next q)) at;
  adding = λ pending p w c b q. (
    ap (λ z. raise c.state (bits_of z) (pos 1) (at_next q)) at,
    ap (λ z. raise c.state (bits_of z) (negsuc 0) (at_next q)) at,
  );
  pushing = λ pending p w c b q.
      ap (λ z. load c.state (bits_of z) (λ y. push c.state y (at_next q))) at;
}

-- a cell that lies so far from FRM
pub frame_reached : (x : Site) (v : View) (offset : ℤ) (cell : ℕ)
    → wrapped_sum v.frm (bits_of offset) ≡ 4 * cell → Reached x v (frame_cell offset) cell
frame_reached x v offset cell at = record {
  loading = λ {pending} {p} {w} {c} b q.
      ap (λ z. load c.state z (λ y. at_next q (record c.state { pri = y })))
      (in_frame_is x v offset cell b at);
  left = λ {pending} {p} {w} {c} b q.
      ap (λ z. load c.state z (λ y. at_next q (record c.state { alt = y })))
      (in_frame_is x v offset cell b at);
  storing = λ {pending} {p} {w} {c} b q.
      ap (λ z. store c.state z c.state.pri (at_next q)) (in_frame_is x v offset cell b at);
  adding = λ pending p w c b q. (
    ap (λ z. raise c.state z (pos 1) (at_next q)) (in_frame_is x v offset cell b at),
    ap (λ z. raise c.state z (negsuc 0) (at_next q)) (in_frame_is x v offset cell b at),
  );
  pushing = λ pending p w c b q.
      ap (λ z. load c.state z (λ y. push c.state y (at_next q)))
      (in_frame_is x v offset cell b at);
}

module _ (scope : Scope) where
  pub global_direct : (o : ℕ) → IsCellObject (slice_get scope.program.objects o)
      → DirectPlace scope (Global o) (data_cell (object_address scope.program o))
  global_direct o valid = record {
    finds = λ x same fewer v fits s. (
      refl,
      record {
        name = Static o;
        i = 0;
        cell = object_first x.program o;
        is = refl;
        placed =
            global_cell x v o s.laid (subst (λ p. IsCellObject (slice_get p.objects o))
            (sym same) valid);
        reached =
            data_reached x v (object_address scope.program o) (object_first x.program o)
            (object_address_is x scope o same);
      },
    );
  }

  pub own_direct : (slot : ℕ) → slice_get scope.slots slot ≡ Some ScalarSlot
      → IsInSight scope slot → DirectPlace scope (Own slot) (frame_cell (slot_offset scope slot))
  own_direct slot kind sight = record {
    finds = λ x same fewer v fits {pending} {p} {w} {c} s.
        let at = cell_slot_at x v s scope fits slot kind sight in
        let here : CellAt x.program x.room v (Local (innermost v) slot) 0 at.first = record {
          sizes = 1 ∷ [];
          first = at.first;
          placed = at.placed;
          cell_is = omega arith;
          inside = omega arith;
        } in (
          refl,
          record {
            name = Local (running w.memory) slot;
            i = 0;
            cell = at.first;
            is = refl;
            placed =
                subst (λ k. CellAt x.program x.room v (Local k slot) 0 at.first)
                (sym (running_is x v s)) here;
            reached = frame_reached x v (slot_offset scope slot) at.first at.address;
          },
        );
  }

  pub through_direct : (slot : ℕ) → slice_get scope.slots slot ≡ Some ReferenceSlot
      → slot < scope.params
      → DirectPlace scope (Through slot) (through_its slot)
  through_direct slot kind below = record {
    finds = λ x same fewer v fits {pending} {p} {w} {c} s.
        subst (λ o. Finds x v (through_its slot) w
        (then_do (or_stop o end.Stray w) (λ r. give (cell_at r 0))))
        (sym (through_is x v s slot))
        (through_finds x v slot s (λ r is. fits.params slot ReferenceSlot below kind r is)
        (v.params (innermost v) slot) refl);
  }
