-- Places without an index: the code of each leads to the place that it means.
use Rattle.std.proofs.Common.{◌≡◌, ◌+◌, ◌*◌, ◌<◌, inl, ℕ, zero, suc, pos, List, [], ◌∷◌, Option}
use Rattle.std.proofs.Common.{None, Some, take, slice_get, refl, sym, ap, subst, ◌∙◌, arith}
use Rattle.pawn_cells.specs.Cells.{cell_of}
use Rattle.pawn_arrays.specs.Sizes.{elements_in}
use Rattle.pawn_meaning.specs.Program.{StaticObject, ScalarSlot, ReferenceSlot, Global, Own}
use Rattle.pawn_meaning.specs.Program.{Through}
use Rattle.pawn_meaning.specs.Scope.{Scope, IsInSight}
use Rattle.pawn_meaning.specs.ValidExprs.{IsCellObject}
use Rattle.pawn_meaning.specs.Memory.{Name, Static, Local, Reference}
use Rattle.pawn_meaning.specs.Run.{give}
use Rattle.pawn_meaning.specs.References.{other_sizes, cell_at, to_cell}
use Rattle.amx_ops.specs.declared.op.Op.TheVariants as op
use Rattle.amx_ops.specs.Access.{in_frame}
use Rattle.gen_sim.specs.Pieces.{Thing, extent, total, objects_from}
use Rattle.gen_sim.specs.Places.{Apart}
use Rattle.gen_sim.specs.Leads.{Leads}
use Rattle.gen_sim.specs.View.{View, IsAlive, IsOfCall, innermost, depth, PlacedIn, CellAt}
use Rattle.gen_sim.specs.View.{RefersTo, Laid}
use Rattle.gen_sim.proofs.PieceLaws.{each_gives}
use Rattle.gen_sim.proofs.DataLaws.{object_place, object_first, object_in_low}
use Rattle.gen_sim.proofs.ViewLaws.{object_below}
use Rattle.gen_sim.specs.Site.{Site}
use Rattle.gen_sim.specs.Items.{with}
use Rattle.gen_sim.specs.Results.{PlaceAt}
use Rattle.gen_sim.specs.Contract.{PlaceCode}
use Rattle.gen_sim.proofs.StepLaws.{given}
use Rattle.gen_sim.proofs.CopyLaws.{row_at}
use Rattle.gen_sim.proofs.ItemSteps.{item_sets}
use Rattle.gen_sim.specs.PlaceItems.{object_address, object_code, slot_offset, slot_code}
use Rattle.gen_sim.specs.PlaceItems.{through_code}
use Rattle.gen_sim.proofs.SlotLaws.{running_is, first_inside, cell_slot_at, addr_is, param_loads}

-- ---- objects

object_place_is : (k i : ℕ) (xs : List StaticObject)
    → object_place k xs i ≡ total (objects_from k (take i xs))
object_place_is k zero [] = refl
object_place_is k (suc i) [] = refl
object_place_is k zero (x ∷ xs) = refl
object_place_is k (suc i) (x ∷ xs) =
    ap (λ n. extent (Thing (Static k) x.sizes) + n) (object_place_is (k + 1) i xs)

-- an object of the program stands where its address says
pub object_placed : (x : Site) (v : View) (o : ℕ) (object : StaticObject) → Laid x.program x.room v
    → slice_get x.program.objects o ≡ Some object
    → PlacedIn x.program x.room v (Thing (Static o) object.sizes) (object_first x.program o)
object_placed x v o object laid there = record {
  where_it_is = inl (record {
    stands = object_in_low x.program o object v.temps there;
    apart =
        each_gives (IsOfCall (depth v)) (Apart (Thing (Static o) object.sizes)) v.high
        (λ q h. object_below (depth v) o object.sizes q h) laid.frames_are;
  });
}

pub object_address_is : (x : Site) (scope : Scope) (o : ℕ) → x.program ≡ scope.program
    → object_address scope.program o ≡ pos (4 * object_first x.program o)
object_address_is x scope o same =
    ap (λ p. object_address p o) (sym same)
    ∙ ap (λ n. pos (4 * n)) (sym (object_place_is 0 o x.program.objects))

-- an object of one cell
record OneCell (o : ℕ) (found : Option StaticObject) : Type 0 where
  object : StaticObject
  there : found ≡ Some object
  sizes : object.sizes ≡ 1 ∷ []

one_cell : (o : ℕ) (found : Option StaticObject) → IsCellObject found → OneCell o found
one_cell o None h = elim h [ ]
one_cell o (Some object) h = record { object = object; there = refl; sizes = h }

module _ (x : Site) (v : View) (o : ℕ) where
  pub global_placed : Laid x.program x.room v → IsCellObject (slice_get x.program.objects o)
      → PlacedIn x.program x.room v (Thing (Static o) (1 ∷ [])) (object_first x.program o)
  global_placed laid valid =
      let it = one_cell o (slice_get x.program.objects o) valid in
      subst (λ sizes. PlacedIn x.program x.room v (Thing (Static o) sizes)
      (object_first x.program o)) it.sizes (object_placed x v o it.object laid it.there)

  pub global_cell : Laid x.program x.room v → IsCellObject (slice_get x.program.objects o)
      → CellAt x.program x.room v (Static o) 0 (object_first x.program o)
  global_cell laid valid = record {
    sizes = 1 ∷ [];
    first = object_first x.program o;
    placed = global_placed laid valid;
    cell_is = omega arith;
    inside = omega arith;
  }

-- an object of one cell, which a reference may name
pub cell_refers : (x : Site) (v : View) (name : Name) (first : ℕ)
    → PlacedIn x.program x.room v (Thing name (1 ∷ [])) first
    → IsAlive (depth v) v.temps name → RefersTo x.program x.room v (to_cell name 0) first
cell_refers x v name first placed alive = record {
  sizes = 1 ∷ [];
  first = first;
  placed = placed;
  leads =
      record {
        steps = 0;
        at_is = omega arith;
        cell_is = omega arith;
        behind_is = refl;
        inside = omega arith;
      };
  alive = alive;
}

-- ---- the cell that a parameter refers to

pub referred_cell : (x : Site) (v : View) (r : Reference) (cell : ℕ)
    → RefersTo x.program x.room v r cell → r.sizes ≡ []
    → CellAt x.program x.room v r.object (r.at + 0) cell
referred_cell x v r cell h one =
    let none : other_sizes r.sizes ≡ [] = ap other_sizes one in
    let at = row_at x.program x.room v r cell h none in
    let count : elements_in r.sizes ≡ 1 = ap elements_in one in
    record {
      sizes = at.sizes;
      first = at.first;
      placed = at.placed;
      cell_is = omega (arith, at.cell_is);
      inside = omega (arith, at.inside, count);
    }

pub referred_again : (x : Site) (v : View) (r : Reference) (cell : ℕ)
    → RefersTo x.program x.room v r cell → r.sizes ≡ []
    → RefersTo x.program x.room v (to_cell r.object (r.at + 0)) cell
referred_again x v r cell h one =
    let same : r.at ≡ r.at + 0 = omega arith in
    record {
      sizes = h.sizes;
      first = h.first;
      placed = h.placed;
      leads =
          subst (λ z. Leads h.sizes h.first z (r.at + 0) cell) one
          (subst (λ i. Leads h.sizes h.first r.sizes i cell) same h.leads);
      alive = h.alive;
    }

-- ---- nodes

module _ (scope : Scope) (begin : ℕ) where
  pub global_does : (o : ℕ) → IsCellObject (slice_get scope.program.objects o)
      → PlaceCode scope (Global o) begin (object_code scope.program o)
  global_does o valid = record {
    does = λ x site same turns calls v fits lie starts pending deep w c s.
        let cell =
        global_cell x v o s.laid (subst (λ p. IsCellObject (slice_get p.objects o))
        (sym same) valid) in
        let named =
        cell_refers x v (Static o) (object_first x.program o)
        (global_placed x v o s.laid (subst (λ p. IsCellObject (slice_get p.objects o))
        (sym same) valid)) tt in
        item_sets x (with op.ConstPri (object_address scope.program o)) {js = []} s
        (record { lie = lie; starts = starts })
        (object_address scope.program o) c.state.alt refl
        (λ t b m n. given x b (record {
          stands = b;
          address =
              (object_first x.program o, cell, m ∙ object_address_is x scope o same, named);
        }));
  }

  pub own_does : (slot : ℕ) → slice_get scope.slots slot ≡ Some ScalarSlot → IsInSight scope slot
      → PlaceCode scope (Own slot) begin (slot_code scope slot)
  own_does slot kind sight = record {
    does = λ x site same turns calls v fits lie starts pending deep w c s.
        let at = cell_slot_at x v s scope fits slot kind sight in
        let top = first_inside x v s at.placed in
        let here : CellAt x.program x.room v (Local (innermost v) slot) 0 at.first = record {
          sizes = 1 ∷ [];
          first = at.first;
          placed = at.placed;
          cell_is = omega arith;
          inside = omega arith;
        } in
        let cell =
        subst (λ k. CellAt x.program x.room v (Local k slot) 0 at.first)
        (sym (running_is x v s)) here in
        let named_here =
        cell_refers x v (Local (innermost v) slot) at.first at.placed
        (omega (arith, fits.deep)) in
        let named =
        subst (λ k. RefersTo x.program x.room v (to_cell (Local k slot) 0) at.first)
        (sym (running_is x v s)) named_here in
        item_sets x (with op.AddrPri (slot_offset scope slot)) {js = []} s
        (record { lie = lie; starts = starts })
        (cell_of (in_frame c.state (slot_offset scope slot))) c.state.alt refl
        (λ t b m n. given x b (record {
          stands = b;
          address = (
            at.first,
            cell,
            m ∙ addr_is x v s (slot_offset scope slot) at.first top at.address,
            named,
          );
        }));
  }

  pub through_does : (slot : ℕ) → slice_get scope.slots slot ≡ Some ReferenceSlot
      → slot < scope.params → PlaceCode scope (Through slot) begin (through_code slot)
  through_does slot kind below = record {
    does = λ x site same turns calls v fits lie starts pending deep w c s.
        param_loads x v s slot {js = []} {Q = PlaceAt x.program x.room v pending (begin + 8)}
        (λ r. give (cell_at r 0)) (record { lie = lie; starts = starts })
        (λ r is cell refers t b m. given x b (record {
          stands = b;
          address = (
            cell,
            referred_cell x v r cell refers (fits.params slot ReferenceSlot below kind r is),
            m,
            referred_again x v r cell refers (fits.params slot ReferenceSlot below kind r is),
          );
        }));
  }
