-- Addresses that one instruction pushes: of places and arrays without an index.
use Rattle.std.proofs.Common.{◌≡◌, ◌+◌, ◌*◌, ◌<◌, ◌≤◌, ℕ, ℤ, pos, List, [], ◌∷◌, Option, None, Some}
use Rattle.std.proofs.Common.{Bool, length, sum, slice_get, refl, sym, ap, subst, ◌∙◌, arith}
use Rattle.host_script.specs.declared.event.End.TheVariants as end
use Rattle.pawn_meaning.specs.Program.{Slot, ScalarSlot, ReferenceSlot, Global, Own, SlotArray}
use Rattle.pawn_meaning.specs.Program.{ParamArray, Ref, Whole}
use Rattle.pawn_meaning.specs.Program as node
use Rattle.pawn_meaning.specs.Scope.{Scope, Extent, IsInSight, IsMade, extent, object_extent}
use Rattle.pawn_meaning.specs.ValidExprs.{IsCellObject, ArgAgrees}
use Rattle.pawn_meaning.specs.Memory.{Reference, Static, Local, running, whole_of, through}
use Rattle.pawn_meaning.specs.World.{World}
use Rattle.pawn_meaning.specs.Run.{Run, then_do, or_stop, give, look}
use Rattle.pawn_meaning.specs.References.{to_cell, cell_at, refers}
use Rattle.pawn_meaning.specs.Natives as natives
use Rattle.pawn_meaning.specs.Later.{Later, world_of}
use Rattle.pawn_meaning.proofs.Grows.{same_later}
use Rattle.amx_ops.specs.declared.op.Op.TheVariants as op
use Rattle.amx_ops.specs.State.{push}
use Rattle.amx_ops.specs.Effects.{at_next}
use Rattle.amx_ops.specs.Moves.{Config}
use Rattle.gen_sim.specs.View.{View, RefersTo, kept, used, innermost}
use Rattle.gen_sim.specs.Stands.{Stands}
use Rattle.gen_sim.specs.Site.{Site, DoesAt}
use Rattle.gen_sim.specs.Items.{item_cells, with}
use Rattle.gen_sim.specs.Fits.{own_sizes}
use Rattle.gen_sim.specs.Lies.{Lies}
use Rattle.gen_sim.specs.SimpleCode.{taking}
use Rattle.gen_sim.specs.PlaceItems.{object_address, slot_offset}
use Rattle.gen_sim.specs.ArgumentCode.{ArgumentAt, ArgumentCode}
use Rattle.gen_sim.proofs.DataLaws.{object_first}
use Rattle.gen_sim.proofs.CallLaws.{small_fits}
use Rattle.gen_sim.proofs.StepLaws.{given, stray}
use Rattle.gen_sim.proofs.ItemSteps.{item_pushes}
use Rattle.gen_sim.proofs.AddressLaws.{refers_inside}
use Rattle.gen_sim.proofs.SlotLaws.{running_is, first_inside, local_at, cell_slot_at, addr_is}
use Rattle.gen_sim.proofs.SlotLaws.{param_reads, through_is}
use Rattle.gen_sim.proofs.PlaceNodes.{object_placed, object_address_is, global_placed, cell_refers}
use Rattle.gen_sim.proofs.PlaceNodes.{referred_again}
use Rattle.gen_sim.proofs.ArrayNodes.{object_at, own_extent, reaches_by, whole_is}
use Rattle.gen_sim.proofs.ArgumentNodes.{address_pushed, array_suits}
use Rattle.gen_sim.proofs.OperandNodes.{runs_on}

-- what a parameter refers to: its cell has the address, and PUSH.S pushes that
module _ (x : Site) (v : View) {pending : List ℤ} {p : ℕ} {w : World} {c : Config}
    (s : Stands x.program x.room v pending p w c)
    (deep : used x.program x.room v pending ≤ kept x.program x.room + sum v.needs + 15) (slot : ℕ)
    {A : Type 0} {Q : A → World → Config → Type 0} (go : Reference → Run A)
    (later : (r : Reference) → Later w (world_of (go r w)))
    (l : Lies x p (taking op.PushS (pos (12 + 4 * slot)) ∷ []))
    (next : (r : Reference) → v.params (innermost v) slot ≡ Some r → (cell : ℕ)
    → RefersTo x.program x.room v r cell → (t : Config)
    → Stands x.program x.room v (pos (4 * cell) ∷ pending) (p + 8) w t
    → DoesAt x 0 w t (go r w) Q) where
  pushes_by : (o : Option Reference) → v.params (innermost v) slot ≡ o
      → DoesAt x (length (item_cells (taking op.PushS (pos (12 + 4 * slot)) ∷ []))) w c
      (then_do (or_stop o end.Stray w) go) Q
  pushes_by None e = stray x s
  pushes_by (Some r) e =
      let at = s.laid.refs slot r e in
      let its = param_reads x v s slot r at in
      let top = refers_inside x v s r at.cell at.refers in
      item_pushes x (with op.PushS (pos (12 + 4 * slot))) {js = []} s l (pos (4 * at.cell))
      (rw (its.offset_is, its.reads.live, its.reads.value) refl)
      (small_fits (4 * at.cell) (omega (arith, top, s.laid.small))) deep (later r)
      (λ t b m n. next r e at.cell at.refers t b)

  param_pushes : DoesAt x (length (item_cells (taking op.PushS (pos (12 + 4 * slot)) ∷ []))) w c
      (then_do (look (through slot) w) go) Q
  param_pushes =
      subst (λ o. DoesAt x (length (item_cells (taking op.PushS (pos (12 + 4 * slot)) ∷ []))) w c
      (then_do (or_stop o end.Stray w) go) Q) (sym (through_is x v s slot))
      (pushes_by (v.params (innermost v) slot) refl)

-- ---- places

module _ (scope : Scope) (begin : ℕ) where
  pub global_pushed : (o : ℕ) → IsCellObject (slice_get scope.program.objects o)
      → ArgumentCode scope ReferenceSlot (Ref (Global o)) begin
      (taking op.PushC (object_address scope.program o) ∷ [])
  global_pushed o valid = record {
    does = λ x site same turns calls v fits lie starts pending deep w c s.
        let named =
        cell_refers x v (Static o) (object_first x.program o)
        (global_placed x v o s.laid (subst (λ p. IsCellObject (slice_get p.objects o))
        (sym same) valid)) tt in
        address_pushed x (with op.PushC (object_address scope.program o)) (to_cell (Static o) 0)
        (object_first x.program o) s named
        (ap (λ z. push c.state z (at_next (begin + 8))) (object_address_is x scope o same))
        (omega (arith, deep)) (record { lie = lie; starts = starts })
        (λ n b. record {
          cell = pos (4 * object_first x.program o);
          stands = b;
          holds = (object_first x.program o, named, refl);
          suits = refl;
        });
  }

  pub own_pushed : (slot : ℕ) → slice_get scope.slots slot ≡ Some ScalarSlot
      → IsInSight scope slot
      → ArgumentCode scope ReferenceSlot (Ref (Own slot)) begin
      (taking op.PushAdr (slot_offset scope slot) ∷ [])
  own_pushed slot kind sight = record {
    does = λ x site same turns calls v fits lie starts pending deep w c s.
        let at = cell_slot_at x v s scope fits slot kind sight in
        let top = first_inside x v s at.placed in
        let named =
        subst (λ k. RefersTo x.program x.room v (to_cell (Local k slot) 0) at.first)
        (sym (running_is x v s))
        (cell_refers x v (Local (innermost v) slot) at.first at.placed
        (omega (arith, fits.deep))) in
        address_pushed x (with op.PushAdr (slot_offset scope slot))
        (to_cell (Local (running w.memory) slot) 0) at.first s named
        (ap (λ z. push c.state z (at_next (begin + 8)))
        (addr_is x v s (slot_offset scope slot) at.first top at.address))
        (omega (arith, deep)) (record { lie = lie; starts = starts })
        (λ n b. record {
          cell = pos (4 * at.first);
          stands = b;
          holds = (at.first, named, refl);
          suits = refl;
        });
  }

  pub through_pushed : (slot : ℕ) → slice_get scope.slots slot ≡ Some ReferenceSlot
      → slot < scope.params
      → ArgumentCode scope ReferenceSlot (Ref (node.Through slot)) begin
      (taking op.PushS (pos (12 + 4 * slot)) ∷ [])
  through_pushed slot kind below = record {
    does = λ x site same turns calls v fits lie starts pending deep w c s.
        subst (λ o. DoesAt x (length (item_cells (taking op.PushS (pos (12 + 4 * slot)) ∷ []))) w c o
        (ArgumentAt x.program x.room v ReferenceSlot 0 pending (begin + 8)))
        (runs_on (look (through slot) w) (λ r. give (cell_at r 0)) refers)
        (param_pushes x v s (omega (arith, deep)) slot (λ r. refers (cell_at r 0))
        (λ r. same_later w) (record { lie = lie; starts = starts })
        (λ r is cell h t b. given x b (record {
          cell = pos (4 * cell);
          stands = b;
          holds = (
            cell,
            referred_again x v r cell h (fits.params slot ReferenceSlot below kind r is),
            refl,
          );
          suits = refl;
        })));
  }

-- ---- arrays

module _ (scope : Scope) (begin : ℕ) (kind : Slot) where
  pub object_pushed : (o : ℕ) (reach : Extent) → ArgAgrees scope kind (Whole (node.Object o))
      → extent scope (node.Object o) ≡ Some reach
      → ArgumentCode scope kind (Whole (node.Object o)) begin
      (taking op.PushC (object_address scope.program o) ∷ [])
  object_pushed o reach agrees is = record {
    does = λ x site same turns calls v fits lie starts pending deep w c s.
        let here : object_extent (slice_get x.program.objects o) ≡ Some reach =
        ap (λ p. object_extent (slice_get p.objects o)) same ∙ is in
        let it = object_at (slice_get x.program.objects o) reach here in
        let whole =
        whole_is x v s (Static o) it.object.sizes (object_first x.program o) reach
        (object_placed x v o it.object s.laid it.there) tt it.known_as in
        rw whole.is (address_pushed x (with op.PushC (object_address scope.program o)) whole.to
        (object_first x.program o) s whole.refers
        (ap (λ z. push c.state z (at_next (begin + 8))) (object_address_is x scope o same))
        (omega (arith, deep)) (record { lie = lie; starts = starts })
        (λ n b. record {
          cell = pos (4 * object_first x.program o);
          stands = b;
          holds = (object_first x.program o, whole.refers, refl);
          suits = array_suits scope kind (node.Object o) reach whole.to agrees is whole.reaches;
        }));
  }

  pub slot_array_pushed : (slot : ℕ) (reach : Extent) → IsMade scope slot
      → ArgAgrees scope kind (Whole (SlotArray slot))
      → extent scope (SlotArray slot) ≡ Some reach
      → ArgumentCode scope kind (Whole (SlotArray slot)) begin
      (taking op.PushAdr (slot_offset scope slot) ∷ [])
  slot_array_pushed slot reach made agrees is = record {
    does = λ x site same turns calls v fits lie starts pending deep w c s.
        let at = local_at x v s scope fits slot made in
        let top = first_inside x v s at.placed in
        let whole =
        whole_is x v s (Local (innermost v) slot) (own_sizes (slice_get scope.slots slot)) at.first
        reach at.placed (omega (arith, fits.deep))
        (own_extent (slice_get scope.slots slot) reach is) in
        let items = taking op.PushAdr (slot_offset scope slot) ∷ [] in
        subst (λ j. DoesAt x (length (item_cells items)) w c
        (then_do (look (whole_of (Local j slot)) w) (λ r. give (natives.Refers r)))
        (ArgumentAt x.program x.room v kind 0 pending (begin + 8))) (sym (running_is x v s))
        (rw whole.is (address_pushed x (with op.PushAdr (slot_offset scope slot)) whole.to at.first
        s whole.refers
        (ap (λ z. push c.state z (at_next (begin + 8)))
        (addr_is x v s (slot_offset scope slot) at.first top at.address))
        (omega (arith, deep)) (record { lie = lie; starts = starts })
        (λ n b. record {
          cell = pos (4 * at.first);
          stands = b;
          holds = (at.first, whole.refers, refl);
          suits = array_suits scope kind (SlotArray slot) reach whole.to agrees is whole.reaches;
        })));
  }

  pub param_array_pushed : (slot : ℕ) (known_here : Bool) (reach : Extent) → slot < scope.params
      → ArgAgrees scope kind (Whole (ParamArray slot known_here))
      → extent scope (ParamArray slot known_here) ≡ Some reach
      → ArgumentCode scope kind (Whole (ParamArray slot known_here)) begin
      (taking op.PushS (pos (12 + 4 * slot)) ∷ [])
  param_array_pushed slot known_here reach below agrees is = record {
    does = λ x site same turns calls v fits lie starts pending deep w c s.
        param_pushes x v s (omega (arith, deep)) slot (λ r. give (natives.Refers r))
        (λ r. same_later w) (record { lie = lie; starts = starts })
        (λ r e cell h t b. given x b (record {
          cell = pos (4 * cell);
          stands = b;
          holds = (cell, h, refl);
          suits =
              array_suits scope kind (ParamArray slot known_here) reach r agrees is
              (reaches_by x scope v fits slot below (slice_get scope.slots slot) known_here reach
              refl is r e);
        }));
  }
