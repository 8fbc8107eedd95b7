-- Where the slots of the frame that runs are: a local or a plain parameter, and what a parameter
-- refers to.
use Rattle.std.proofs.Common.{◌≡◌, ◌+◌, ◌-◌, ◌*◌, ◌<◌, ◌≤◌, inl, inr, ℕ, ℤ, pos, neg_ℤ, List, []}
use Rattle.std.proofs.Common.{◌∷◌, Option, None, Some, true, false, length, slice_get, refl, sym}
use Rattle.std.proofs.Common.{ap, subst, ◌∙◌, arith, nat_lt, le-ltb, lt-ltb}
use Rattle.pawn_cells.specs.Cells.{bits_of, cell_of, wrapped_sum}
use Rattle.host_script.specs.declared.event.End.TheVariants as end
use Rattle.pawn_meaning.specs.Program.{ScalarSlot}
use Rattle.pawn_meaning.specs.Scope.{Scope, IsMade, IsInSight}
use Rattle.pawn_meaning.specs.Memory.{Local, Reference, running, through}
use Rattle.pawn_meaning.specs.World.{World}
use Rattle.pawn_meaning.specs.Run.{Run, then_do, or_stop, look}
use Rattle.amx_ops.specs.declared.op.Op.TheVariants as op
use Rattle.amx_ops.specs.State.{State}
use Rattle.amx_ops.specs.Access.{in_frame}
use Rattle.amx_ops.specs.Moves.{Config}
use Rattle.gen_sim.specs.Pieces.{Piece, Fixed, Thing, Each, total}
use Rattle.gen_sim.specs.Places.{Apart, StandsIn}
use Rattle.gen_sim.specs.View.{View, innermost, all_cells, low, IsOf, PlacedIn, RefersTo, ParamAt}
use Rattle.gen_sim.specs.Stands.{Stands}
use Rattle.gen_sim.proofs.PieceLaws.{each_gives, total-append}
use Rattle.gen_sim.proofs.MemLaws.{Reads, placed_inside, mem_read, below_top}
use Rattle.gen_sim.proofs.DataLaws.{of_low}
use Rattle.gen_sim.proofs.ViewLaws.{local_apart}
use Rattle.gen_sim.proofs.WorldLaws.{stands_on}
use Rattle.gen_sim.specs.Site.{Site, DoesAt}
use Rattle.gen_sim.specs.Items.{Item, Plain, item_cells, with}
use Rattle.gen_sim.specs.Fits.{Fits, own_sizes, locals_of}
use Rattle.gen_sim.proofs.ParameterLaws.{count_needs}
use Rattle.gen_sim.proofs.CallLaws.{small_cell}
use Rattle.gen_sim.proofs.StepLaws.{goes, stray}
use Rattle.gen_sim.specs.Lies.{Lies}
use Rattle.gen_sim.proofs.ItemSteps.{one_item}
use Rattle.gen_sim.specs.PlaceItems.{cells_to, slot_offset}
use Rattle.gen_sim.proofs.FrameAddresses.{frame_up, frame_down}
use Rattle.gen_sim.proofs.LocalLaws.{local_stands}

each_piece : (P : Piece → Type 0) (ps : List Piece) → ((q : Piece) → P q) → Each P ps
each_piece P [] f = tt
each_piece P (p ∷ ps) f = (f p, each_piece P ps f)

module _ (x : Site) (v : View) {pending : List ℤ} {p : ℕ} {w : World} {c : Config}
    (s : Stands x.program x.room v pending p w c) where
  -- the frame that runs is the view's innermost
  pub running_is : running w.memory ≡ innermost v
  running_is = omega (arith, count_needs w.memory.frames, ap length s.needs)

  -- ---- a slot with cells of its own

  module _ (scope : Scope) (fits : Fits x.program x.room scope v) where
    -- its object stands there, and its offset leads to it
    pub record SlotAt (slot : ℕ) (sizes : List ℕ) : Type 0 where
      pub first : ℕ
      pub placed : PlacedIn x.program x.room v (Thing (Local (innermost v) slot) sizes) first
      pub address : wrapped_sum v.frm (bits_of (slot_offset scope slot)) ≡ 4 * first

    -- a local's offset leads down from FRM, and not below the machine's first cell
    pub local_low : (slot : ℕ) → IsMade scope slot
        → let down = cells_to scope.slots scope.made slot in
        (slot_offset scope slot ≡ neg_ℤ (pos (4 * down))) × (4 * down ≤ v.frm)
    local_low slot is =
        let above : scope.params ≤ slot = fits.behind_params slot is in
        let l =
        local_stands (innermost v) scope.slots slot scope.made fits.rest is fits.once
        (fits.nowhere_else slot above).0 in
        let all = ap total fits.locals in
        let both = total-append (locals_of (innermost v) scope.slots scope.made) fits.rest in
        let size = s.mem.size in
        let e : nat_lt slot scope.params ≡ false = le-ltb _ _ above in (
          rw e refl,
          omega (arith, l.down, fits.frame, all, both, size),
        )

    pub local_at : (slot : ℕ) → IsMade scope slot
        → SlotAt slot (own_sizes (slice_get scope.slots slot))
    local_at slot is =
        let above : scope.params ≤ slot = fits.behind_params slot is in
        let l =
        local_stands (innermost v) scope.slots slot scope.made fits.rest is fits.once
        (fits.nowhere_else slot above).0 in
        let piece = Thing (Local (innermost v) slot) (own_sizes (slice_get scope.slots slot)) in
        let down : ℕ = cells_to scope.slots scope.made slot in
        let all = ap total fits.locals in
        let both = total-append (locals_of (innermost v) scope.slots scope.made) fits.rest in
        let first : ℕ = all_cells x.program x.room + l.behind - total v.high in
        let size = s.mem.size in
        let under = local_low slot is in
        record {
          first = first;
          placed = record {
            where_it_is = inr (record {
              behind = l.behind;
              stands = subst (λ ps. StandsIn piece ps l.behind) (sym fits.locals) l.stands;
              apart = each_gives (IsOf 0 v.temps) (Apart piece) (low x.program x.room v)
                  (λ q h. local_apart 0 v.temps (innermost v) slot
                  (own_sizes (slice_get scope.slots slot)) q (omega arith) h)
                  (of_low x.program 0 v.temps);
              place = omega (arith, size);
            });
          };
          address =
              ap (λ z. wrapped_sum v.frm (bits_of z)) under.0
              ∙ frame_down v.frm (4 * down) under.1
              (omega (arith, s.laid.small, s.laid.frame_below))
              ∙ omega (arith, l.down, fits.frame, all, both, size);
        }

    pub param_at : (slot : ℕ) → slot < scope.params → slice_get scope.slots slot ≡ Some ScalarSlot
        → SlotAt slot (1 ∷ [])
    param_at slot below kind =
        let h = fits.params slot ScalarSlot below kind in
        let top = below_all h.0 h.1 in
        let offset_is : slot_offset scope slot ≡ pos (12 + 4 * slot) =
        let e : nat_lt slot scope.params ≡ true = lt-ltb _ _ below in rw e refl in
        record {
          first = h.0;
          placed = h.1;
          address =
              ap (λ z. wrapped_sum v.frm (bits_of z)) offset_is
              ∙ frame_up v.frm (12 + 4 * slot) (omega (arith, h.2, top, s.laid.small))
              ∙ omega (arith, h.2);
        }
      where
        below_all : (first : ℕ) → PlacedIn x.program x.room v
            (Thing (Local (innermost v) slot) (1 ∷ [])) first → first < all_cells x.program x.room
        below_all first placed = below_top s.mem placed first (omega arith)

    pub cell_slot_at : (slot : ℕ) → slice_get scope.slots slot ≡ Some ScalarSlot
        → IsInSight scope slot → SlotAt slot (1 ∷ [])
    cell_slot_at slot kind (inl below) = param_at slot below kind
    cell_slot_at slot kind (inr made) =
        subst (λ o. SlotAt slot (own_sizes o)) kind (local_at slot made)

  -- a piece begins within the machine's cells
  pub first_inside : {piece : Piece} {first : ℕ} → PlacedIn x.program x.room v piece first
      → first ≤ all_cells x.program x.room
  first_inside placed = elim (placed_inside placed) [
    | inl low_one ↦ omega (arith, low_one, s.mem.size)
    | inr high_one ↦ omega (arith, high_one.1)
  ]

  -- ADDR.pri gives its address
  pub addr_is : (offset : ℤ) (first : ℕ) → first ≤ all_cells x.program x.room
      → wrapped_sum v.frm (bits_of offset) ≡ 4 * first
      → cell_of (in_frame c.state offset) ≡ pos (4 * first)
  addr_is offset first below e =
      ap (λ n. cell_of (wrapped_sum n (bits_of offset))) s.frame ∙ ap cell_of e
      ∙ small_cell (4 * first) (omega (arith, below, s.laid.small))

  -- ---- a parameter that refers

  -- its own cell is at its offset, with the address of what it refers to
  pub record ParamReads (slot cell : ℕ) : Type 0 where
    pub first : ℕ
    pub offset_is : in_frame c.state (pos (12 + 4 * slot)) ≡ 4 * first
    pub reads : Reads c.state first (pos (4 * cell))

  pub param_reads : (slot : ℕ) (r : Reference) (at : ParamAt x.program x.room v slot r)
      → ParamReads slot at.cell
  param_reads slot r at =
      let piece = Fixed (pos (4 * at.cell) ∷ []) in
      let first : ℕ = all_cells x.program x.room + total at.before - total v.high in
      let size = s.mem.size in
      let placed : PlacedIn x.program x.room v piece first = record {
        where_it_is = inr (record {
          behind = total at.before;
          stands = record {
            before = at.before;
            after = at.after;
            split = at.split;
            first_is = refl;
            not_before = each_piece (Apart piece) at.before (λ q. tt);
            not_after = each_piece (Apart piece) at.after (λ q. tt);
          };
          apart = each_piece (Apart piece) (low x.program x.room v) (λ q. tt);
          place = omega (arith, size);
        });
      } in
      let r0 = mem_read s.mem placed 0 (pos (4 * at.cell)) refl in
      let top = below_top s.mem placed first (omega arith) in
      record {
        first = first;
        offset_is =
            ap (λ n. wrapped_sum n (bits_of (pos (12 + 4 * slot)))) s.frame
            ∙ frame_up v.frm (12 + 4 * slot) (omega (arith, at.place, size, top, s.laid.small))
            ∙ omega (arith, at.place, size);
        reads = subst (λ n. Reads c.state n (pos (4 * at.cell))) (omega arith) r0;
      }

  -- the world's parameter is the view's
  pub through_is : (slot : ℕ) → through slot w.memory ≡ v.params (innermost v) slot
  through_is slot = s.params (running w.memory) slot ∙ ap (λ k. v.params k slot) running_is

  module _ (slot : ℕ) {A : Type 0} {js : List Item} {Q : A → World → Config → Type 0} where
    loads_param : (go : Reference → Run A)
        → Lies x p (Plain (with op.LoadSPri (pos (12 + 4 * slot))) ∷ js)
        → ((r : Reference) → v.params (innermost v) slot ≡ Some r → (cell : ℕ)
        → RefersTo x.program x.room v r cell → (t : Config)
        → Stands x.program x.room v pending (p + 8) w t → t.state.pri ≡ pos (4 * cell)
        → DoesAt x (length (item_cells js)) w t (go r w) Q)
        → (o : Option Reference) → v.params (innermost v) slot ≡ o
        → DoesAt x (length (item_cells (Plain (with op.LoadSPri (pos (12 + 4 * slot))) ∷ js))) w c
        (then_do (or_stop o end.Stray w) go) Q
    loads_param go l next None e = stray x s
    loads_param go l next (Some r) e =
        let at = s.laid.refs slot r e in
        let its = param_reads slot r at in
        let t : State = record c.state { pri = pos (4 * at.cell); cip = p + 8 } in
        one_item x (with op.LoadSPri (pos (12 + 4 * slot))) js w
        (goes x s (with op.LoadSPri (pos (12 + 4 * slot))) l.lie.0 t
        (rw (its.offset_is, its.reads.live, its.reads.value) refl)
        (next r e at.cell at.refers (record c { state = t })
        (stands_on x.program x.room s (p + 8) t refl refl refl refl refl) refl))

    -- LOAD.S.pri gives the address of what it refers to
    pub param_loads : (go : Reference → Run A)
        → Lies x p (Plain (with op.LoadSPri (pos (12 + 4 * slot))) ∷ js)
        → ((r : Reference) → v.params (innermost v) slot ≡ Some r → (cell : ℕ)
        → RefersTo x.program x.room v r cell → (t : Config)
        → Stands x.program x.room v pending (p + 8) w t → t.state.pri ≡ pos (4 * cell)
        → DoesAt x (length (item_cells js)) w t (go r w) Q)
        → DoesAt x (length (item_cells (Plain (with op.LoadSPri (pos (12 + 4 * slot))) ∷ js))) w c
        (then_do (look (through slot) w) go) Q
    param_loads go l next =
        subst (λ o. DoesAt x (length (item_cells
        (Plain (with op.LoadSPri (pos (12 + 4 * slot))) ∷ js))) w c
        (then_do (or_stop o end.Stray w) go) Q) (sym (through_is slot))
        (loads_param go l next (v.params (innermost v) slot) refl)
