-- A local array: its code does what it means.
use Rattle.std.proofs.Common.{◌≡◌, ◌+◌, ◌*◌, ◌^◌, ◌<◌, ◌≤◌, ℕ, ℤ, pos, List, [], ◌∷◌, ◌++◌, Option}
use Rattle.std.proofs.Common.{None, Some, length, sum, slice_get, refl, sym, ap, subst, ◌∙◌, arith}
use Rattle.std.proofs.Common.{length-append}
use Rattle.std.specs.Prelude.{neg_ℤ}
use Rattle.pawn_cells.specs.Cells.{cell_of}
use Rattle.pawn_arrays.specs.Sizes.{elements_in}
use Rattle.pawn_meaning.specs.Program.{LocalArray, ArraySlot}
use Rattle.pawn_meaning.specs.Scope.{IsMade}
use Rattle.pawn_meaning.specs.ValidStmts.{IsLocalArray}
use Rattle.pawn_meaning.specs.Memory as memory
use Rattle.pawn_meaning.specs.Memory.{Memory, Object, Static, made}
use Rattle.pawn_meaning.specs.World.{World}
use Rattle.pawn_meaning.specs.Run.{Run, ◌>>=◌, then_do, or_stop, change, changed, give}
use Rattle.pawn_meaning.specs.Calls.{Way, Through}
use Rattle.pawn_meaning.specs.Need.{slot_size}
use Rattle.pawn_meaning.proofs.Grows.{give_grows, after_grows, change_grows}
use Rattle.host_script.specs.declared.event.End.TheVariants as end_of
use Rattle.amx_ops.specs.declared.op.Op.TheVariants as op
use Rattle.amx_ops.specs.Moves.{Config}
use Rattle.gen_sim.specs.Pieces.{Thing, HasSized, IsSized, object_cells, extent, vectors, total}
use Rattle.gen_sim.specs.View.{View, kept, used, low}
use Rattle.gen_sim.specs.Next.{with_local}
use Rattle.gen_sim.specs.Stands.{Stands}
use Rattle.gen_sim.proofs.LayoutLaws.{extent_is}
use Rattle.gen_sim.proofs.DataLaws.{object_first}
use Rattle.gen_sim.proofs.MemLaws.{mem_there}
use Rattle.gen_sim.specs.Site.{Site, DoesAt}
use Rattle.gen_sim.specs.Items.{Item, item_cells, with}
use Rattle.gen_sim.specs.Fits.{own_sizes, Fits}
use Rattle.gen_sim.proofs.CallLaws.{small_cell}
use Rattle.gen_sim.proofs.StepLaws.{given, stray}
use Rattle.gen_sim.specs.Lies.{Lies}
use Rattle.gen_sim.specs.SimpleCode.{alone, taking}
use Rattle.gen_sim.proofs.ItemSteps.{one_item, next_lies, item_sets}
use Rattle.gen_sim.specs.PlaceItems.{object_address, object_code}
use Rattle.gen_sim.proofs.PlaceNodes.{object_placed, object_address_is}
use Rattle.gen_sim.proofs.MadeLaws.{made_stands}
use Rattle.gen_sim.specs.Here.{Here}
use Rattle.gen_sim.specs.Ways.{made_view, Left}
use Rattle.gen_sim.specs.Flow.{StmtCode}
use Rattle.gen_laws.specs.MadeCode.{array_cells, local_array_code}
use Rattle.gen_laws.proofs.TakenLaws.{takes}
use Rattle.gen_laws.proofs.FilledLaws.{fills}

-- the cells that wait become the slot's object
module _ (x : Site) (here : Here) (v : View) (fits : Fits x.program x.room here.scope v) (slot : ℕ)
    (above : here.scope.params ≤ slot)
    (new : ¬ (IsMade here.scope slot)) {d q : ℕ} {w : World} {c : Config} {pending : List ℤ}
    (s : Stands x.program x.room v pending q w c)
    (sizes : List ℕ) (object : Object) (sized : IsSized sizes object)
    (cells_are : pending ≡ vectors sizes ++ object.cells) {Q : Way → World → Config → Type 0}
    (holds : (u : World) (t : Config) → Stands x.program x.room (with_local v slot sizes) [] q u t
    → Q Through u t) where
  by_memory : (o : Option Memory) → made slot object w.memory ≡ o
      → DoesAt x d w c (then_do (changed o w) (λ z. give Through)) Q
  by_memory None e = stray x s
  by_memory (Some n) e =
      let k = made_stands x here.scope v fits slot above new s sizes object sized cells_are n e in
      given x k (holds (record w { memory = n }) c k)

  becomes : DoesAt x d w c ((change (made slot object) >>= (λ z. give Through)) w) Q
  becomes = by_memory (made slot object w.memory) refl

module _ (here : Here) (begin slot o : ℕ) (h : IsLocalArray here.scope slot o)
    (new : ¬ (IsMade here.scope slot)) (first : ℕ) (inner : List ℕ)
    (nested : h.object.sizes ≡ first ∷ inner) where
  abbrev sizes : List ℕ
  sizes = h.object.sizes

  own : own_sizes (slice_get here.scope.slots slot) ≡ sizes
  own = ap own_sizes h.slot

  abbrev n : ℕ
  n = array_cells here.scope slot

  abbrev filled : List Item
  filled = object_code here.scope.program o ++ taking op.Movs (pos (4 * n)) ∷ []

  cells_own : extent (Thing (Static o) sizes) ≡ n
  cells_own = ap (λ z. length (vectors z) + elements_in z) (sym own)

  size_is : slot_size (slice_get here.scope.slots slot) ≡ n
  size_is =
      ap slot_size h.slot ∙ ap (λ z. slot_size (Some (ArraySlot z))) nested
      ∙ sym (extent_is first inner)
      ∙ ap (λ z. length (vectors z) + elements_in z) (sym nested) ∙ cells_own

  abbrev moves : List Item
  moves = taking op.Movs (pos (4 * n)) ∷ []

  abbrev end : ℕ
  end = begin + 8 + 8 + 4 + 8 + 8

  module _ (x : Site) (same : x.program ≡ here.scope.program) (v : View)
      (fits : Fits x.program x.room here.scope v)
      (l : Lies x begin (local_array_code here.scope slot o))
      (deep : used x.program x.room v [] + n ≤ kept x.program x.room + sum v.needs) (w : World)
      (c : Config) (s : Stands x.program x.room v [] begin w c)
      (Q : Way → World → Config → Type 0)
      (holds : (u : World) (t : Config)
      → Stands x.program x.room (with_local v slot sizes) [] end u t → Q Through u t) where
    there : slice_get x.program.objects o ≡ Some h.object
    there = ap (λ p. slice_get p.objects o) same ∙ h.there

    abbrev out : Object → Run Way
    out object = change (made slot object) >>= (λ z. give Through)

    at_lctrl : Lies x (begin + 8) (taking op.Lctrl (pos 4) ∷ alone op.MoveAlt ∷ filled)
    at_lctrl =
        next_lies x begin (taking op.Stack (neg_ℤ (pos (4 * n))))
        (taking op.Lctrl (pos 4) ∷ alone op.MoveAlt ∷ filled) l

    at_move : Lies x (begin + 8 + 8) (alone op.MoveAlt ∷ filled)
    at_move = next_lies x (begin + 8) (taking op.Lctrl (pos 4)) (alone op.MoveAlt ∷ filled) at_lctrl

    at_const : Lies x (begin + 8 + 8 + 4) filled
    at_const = next_lies x (begin + 8 + 8) (alone op.MoveAlt) filled at_move

    at_movs : Lies x (begin + 8 + 8 + 4 + 8) moves
    at_movs =
        next_lies x (begin + 8 + 8 + 4) (taking op.ConstPri (object_address here.scope.program o))
        moves at_const

    -- with the cells taken, and both addresses in the registers
    copies : (object : Object) → memory.object_at w.memory (Static o) ≡ Some object
        → IsSized sizes object → (rest : List ℤ) (t : Config)
        → length rest ≡ n → (a : Stands x.program x.room v rest (begin + 8 + 8 + 4 + 8) w t)
        → t.state.pri ≡ object_address here.scope.program o
        → (stk : ℕ) → t.state.alt ≡ cell_of stk
        → stk ≡ 4 * (total (low x.program x.room v) + length a.mem.free)
        → DoesAt x (length (item_cells moves)) w t (out object w) Q
    copies object is sized rest t waits a g stk e k =
        let placed = object_placed x v o h.object a.laid there in
        let small : 4 * (total (low x.program x.room v) + length a.mem.free) < 2 ^ 31 =
        omega (arith, a.laid.small, a.mem.size, length-append a.mem.free rest) in
        let alt : t.state.alt ≡ pos (4 * (total (low x.program x.room v) + length a.mem.free)) =
        e ∙ ap cell_of k ∙ small_cell (4 * (total (low x.program x.room v) + length a.mem.free))
        small in
        one_item x (with op.Movs (pos (4 * n))) [] w
        (fills x a (Static o) sizes (object_first x.program o) placed {d = 0} n waits cells_own
        (g ∙ object_address_is x here.scope o same) alt at_movs.lie.0
        (λ u b. becomes x here v fits slot h.local new b sizes object sized
        (ap (λ z. object_cells sizes z) is) holds))

    by_object : (found : Option Object) → memory.object_at w.memory (Static o) ≡ found
        → HasSized sizes found
        → DoesAt x (length (item_cells (local_array_code here.scope slot o))) w c
        (then_do (or_stop found end_of.Stray w) out) Q
    by_object None e z = elim z [ ]
    by_object (Some object) e z =
        one_item x (with op.Stack (neg_ℤ (pos (4 * n))))
        (taking op.Lctrl (pos 4) ∷ alone op.MoveAlt ∷ filled) w
        (takes x s n l.lie.0 deep ((after_grows (change_grows (made slot object))
        (λ y. give_grows Through)).at w)
        (λ rest t waits a. item_sets x (with op.Lctrl (pos 4)) a at_lctrl
        (cell_of t.state.stk) t.state.alt refl
        (λ t2 a2 g2 e2. item_sets x (with op.MoveAlt (pos 0)) a2 at_move t2.state.pri
        t2.state.pri refl
        (λ t3 a3 g3 e3. item_sets x (with op.ConstPri (object_address here.scope.program o)) a3
        at_const (object_address here.scope.program o) t3.state.alt refl
        (λ t4 a4 g4 e4. copies object e z rest t4 waits a4 g4 t.state.stk (e4 ∙ e3 ∙ g2)
        (omega (
          arith,
          a.mem.stk,
          a.mem.size,
          a4.mem.size,
          length-append a.mem.free rest,
          length-append a4.mem.free rest,
        )))))))

    array_does : DoesAt x (length (item_cells (local_array_code here.scope slot o))) w c
        (then_do (or_stop (memory.object_at w.memory (Static o)) end_of.Stray w) out) Q
    array_does =
        by_object (memory.object_at w.memory (Static o)) refl
        (mem_there s.mem (object_placed x v o h.object s.laid there))

  pub local_array_does : StmtCode here (LocalArray slot o) begin
      (local_array_code here.scope slot o)
  local_array_does = record {
    fresh = (h.local, new, tt);
    count = omega (arith, size_is);
    does = λ x turns v outer b l paid deep w c s.
        array_does x b.same v b.fits l (omega (arith, deep, size_is)) w c s
        (Left x here.exits outer (made_view here.scope.slots (slot ∷ []) v) end)
        (λ u t k. subst (λ z. Stands x.program x.room (with_local v slot z) [] end u t)
        (sym own) k);
  }
