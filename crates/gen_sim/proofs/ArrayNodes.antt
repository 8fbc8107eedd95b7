-- Arrays without an index: the code of each leads to the array that it means, which reaches as far
-- as its scope says.
use Rattle.std.proofs.Common.{◌≡◌, ◌+◌, ◌*◌, ◌<◌, ℕ, ℤ, pos, List, [], ◌∷◌, Option, None, Some}
use Rattle.std.proofs.Common.{Bool, true, false, slice_get, refl, sym, ap, subst, ◌∙◌, arith}
use Rattle.pawn_cells.specs.Cells.{cell_of}
use Rattle.pawn_meaning.specs.Program.{Slot, ScalarSlot, ReferenceSlot, ArraySlot, OpenSlot}
use Rattle.pawn_meaning.specs.Program.{StaticObject, SlotArray, ParamArray}
use Rattle.pawn_meaning.specs.Program as node
use Rattle.pawn_meaning.specs.Scope.{Scope, Extent, IsMade, known_extent, object_extent}
use Rattle.pawn_meaning.specs.Scope.{slot_extent, param_extent}
use Rattle.pawn_meaning.specs.Memory.{Name, Static, Local, Reference, through, whole_of}
use Rattle.pawn_meaning.specs.World.{World}
use Rattle.pawn_meaning.specs.Run.{Gives, give, look}
use Rattle.amx_ops.specs.declared.op.Op.TheVariants as op
use Rattle.amx_ops.specs.Access.{in_frame}
use Rattle.amx_ops.specs.Moves.{Config}
use Rattle.gen_sim.specs.Pieces.{Thing}
use Rattle.gen_sim.specs.Leads.{Leads}
use Rattle.gen_sim.specs.View.{View, RefersTo, innermost, depth, PlacedIn, IsAlive}
use Rattle.gen_sim.specs.Stands.{Stands}
use Rattle.gen_sim.proofs.LeadLaws.{whole_leads}
use Rattle.gen_sim.proofs.MemLaws.{mem_there}
use Rattle.gen_sim.proofs.WorldLaws.{found}
use Rattle.gen_sim.proofs.DataLaws.{object_first}
use Rattle.gen_sim.specs.Site.{Site, DoesAt}
use Rattle.gen_sim.specs.Items.{with}
use Rattle.gen_sim.specs.Fits.{Fits, own_sizes}
use Rattle.gen_sim.specs.Results.{Reaches, ArrayAt}
use Rattle.gen_sim.specs.Contract.{ArrayCode}
use Rattle.gen_sim.proofs.StepLaws.{given}
use Rattle.gen_sim.proofs.ItemSteps.{item_sets}
use Rattle.gen_sim.proofs.NodesPartLaws.{then_nothing}
use Rattle.gen_sim.specs.PlaceItems.{object_address, object_code, slot_offset, slot_code}
use Rattle.gen_sim.specs.PlaceItems.{through_code}
use Rattle.gen_sim.proofs.SlotLaws.{running_is, first_inside, local_at, addr_is, param_loads}
use Rattle.gen_sim.proofs.PlaceNodes.{object_placed, object_address_is}

-- sizes that are all known, the first and those behind it
pub record Known (sizes : List ℕ) (reach : Extent) : Type 0 where
  pub first : ℕ
  pub inner : List ℕ
  pub sizes_are : sizes ≡ first ∷ inner
  pub reach_is : reach ≡ record { first = Some first; inner = inner }

pub inside : {A : Type 0} (a b : A) → Some a ≡ Some b → a ≡ b
inside a b e = cc

pub known : (sizes : List ℕ) (reach : Extent) → known_extent sizes ≡ Some reach → Known sizes reach
known [] reach e = cc
known (first ∷ inner) reach e = record {
  first = first;
  inner = inner;
  sizes_are = refl;
  reach_is = sym (inside (record { first = Some first; inner = inner }) reach e);
}

-- a whole object whose address is in PRI
module _ (x : Site) (v : View) {pending : List ℤ} {p : ℕ} {w : World} {c : Config}
    (s : Stands x.program x.room v pending p w c) where
  -- which a reference may name
  pub record WholeIs (name : Name) (first : ℕ) (reach : Extent) : Type 0 where
    pub to : Reference
    pub is : look (whole_of name) w ≡ Gives to w
    pub refers : RefersTo x.program x.room v to first
    pub reaches : Reaches reach.first reach.inner to

  pub whole_is : (name : Name) (sizes : List ℕ) (first : ℕ) (reach : Extent)
      → PlacedIn x.program x.room v (Thing name sizes) first
      → IsAlive (depth v) v.temps name → known_extent sizes ≡ Some reach
      → WholeIs name first reach
  whole_is name sizes first reach placed alive e =
      let k = known sizes reach e in
      let f = found w.memory name sizes (mem_there s.mem placed) in
      let all : f.object.sizes ≡ k.first ∷ k.inner = f.sized.sizes_are ∙ k.sizes_are in
      record {
        to = record { object = name; at = 0; sizes = f.object.sizes };
        is = rw f.is refl;
        refers = record {
          sizes = sizes;
          first = first;
          placed = placed;
          leads =
              subst (λ z. Leads z first f.object.sizes 0 first) (sym k.sizes_are)
              (subst (λ z. Leads (k.first ∷ k.inner) first z 0 first) (sym all)
              (whole_leads k.inner first k.first));
          alive = alive;
        };
        reaches =
            subst (λ z. Reaches z.first z.inner
            (record { object = name; at = 0; sizes = f.object.sizes })) (sym k.reach_is) all;
      }

  pub whole_does : (name : Name) (sizes : List ℕ) (first : ℕ) (reach : Extent)
      → PlacedIn x.program x.room v (Thing name sizes) first
      → IsAlive (depth v) v.temps name → known_extent sizes ≡ Some reach
      → c.state.pri ≡ pos (4 * first)
      → DoesAt x 0 w c (look (whole_of name) w) (ArrayAt x.program x.room v reach pending p)
  whole_does name sizes first reach placed alive e pri =
      let whole = whole_is name sizes first reach placed alive e in
      rw whole.is (given x s (record {
        stands = s;
        cell = first;
        refers = whole.refers;
        address = pri;
        reaches = whole.reaches;
      }))

-- ---- what the scope says of objects and slots

pub record ObjectAt (found : Option StaticObject) (reach : Extent) : Type 0 where
  pub object : StaticObject
  pub there : found ≡ Some object
  pub known_as : known_extent object.sizes ≡ Some reach

pub object_at : (o : Option StaticObject) (reach : Extent) → object_extent o ≡ Some reach
    → ObjectAt o reach
object_at None reach e = cc
object_at (Some object) reach e = record { object = object; there = refl; known_as = e }

pub own_extent : (o : Option Slot) (reach : Extent) → slot_extent o ≡ Some reach
    → known_extent (own_sizes o) ≡ Some reach
own_extent None reach e = cc
own_extent (Some ScalarSlot) reach e = cc
own_extent (Some ReferenceSlot) reach e = cc
own_extent (Some (ArraySlot sizes)) reach e = e
own_extent (Some (OpenSlot inner)) reach e = cc

-- a parameter of which the scope says how far it reaches does so
module _ (x : Site) (scope : Scope) (v : View) (fits : Fits x.program x.room scope v) (slot : ℕ)
    (below : slot < scope.params) where
  pub reaches_by : (o : Option Slot) (known_here : Bool) (reach : Extent)
      → slice_get scope.slots slot ≡ o → param_extent o known_here ≡ Some reach
      → (r : Reference) → v.params (innermost v) slot ≡ Some r → Reaches reach.first reach.inner r
  reaches_by None known_here reach k e r is = cc
  reaches_by (Some ScalarSlot) known_here reach k e r is = cc
  reaches_by (Some ReferenceSlot) known_here reach k e r is = cc
  reaches_by (Some (ArraySlot sizes)) true reach k e r is =
      let n = known sizes reach e in
      subst (λ z. Reaches z.first z.inner r) (sym n.reach_is)
      (fits.params slot (ArraySlot sizes) below k r is ∙ n.sizes_are)
  reaches_by (Some (ArraySlot sizes)) false reach k e r is = cc
  reaches_by (Some (OpenSlot inner)) true reach k e r is = cc
  reaches_by (Some (OpenSlot inner)) false reach k e r is =
      subst (λ z. Reaches z.first z.inner r)
      (inside (record { first = None; inner = inner }) reach e)
      (fits.params slot (OpenSlot inner) below k r is)

-- ---- nodes

module _ (scope : Scope) (begin : ℕ) where
  pub object_does : (o : ℕ) → ArrayCode scope (node.Object o) begin (object_code scope.program o)
  object_does o = record {
    does = λ reach e x site same turns calls v fits lie starts pending deep w c s.
        let here : object_extent (slice_get x.program.objects o) ≡ Some reach =
        ap (λ p. object_extent (slice_get p.objects o)) same ∙ e in
        let it = object_at (slice_get x.program.objects o) reach here in
        let placed = object_placed x v o it.object s.laid it.there in
        item_sets x (with op.ConstPri (object_address scope.program o)) {js = []} s
        (record { lie = lie; starts = starts })
        (object_address scope.program o) c.state.alt refl
        (λ t b m n. whole_does x v b (Static o) it.object.sizes
        (object_first x.program o) reach placed tt it.known_as
        (m ∙ object_address_is x scope o same));
  }

  pub slot_array_does : (slot : ℕ) → IsMade scope slot
      → ArrayCode scope (SlotArray slot) begin (slot_code scope slot)
  slot_array_does slot made = record {
    does = λ reach e x site same turns calls v fits lie starts pending deep w c s.
        let at = local_at x v s scope fits slot made in
        let k = own_extent (slice_get scope.slots slot) reach e in
        let top = first_inside x v s at.placed in
        item_sets x (with op.AddrPri (slot_offset scope slot)) {js = []} s
        (record { lie = lie; starts = starts })
        (cell_of (in_frame c.state (slot_offset scope slot))) c.state.alt refl
        (λ t b m n.
        subst (λ j. DoesAt x 0 w t (look (whole_of (Local j slot)) w)
        (ArrayAt x.program x.room v reach pending (begin + 8))) (sym (running_is x v s))
        (whole_does x v b (Local (innermost v) slot)
        (own_sizes (slice_get scope.slots slot)) at.first reach at.placed
        (omega (arith, fits.deep)) k
        (m ∙ addr_is x v s (slot_offset scope slot) at.first top at.address)));
  }

  pub param_array_does : (slot : ℕ) (known_here : Bool) → slot < scope.params
      → ArrayCode scope (ParamArray slot known_here) begin (through_code slot)
  param_array_does slot known_here below = record {
    does = λ reach e x site same turns calls v fits lie starts pending deep w c s.
        subst (λ o. DoesAt x 2 w c o (ArrayAt x.program x.room v reach pending (begin + 8)))
        (then_nothing (look (through slot) w))
        (param_loads x v s slot {js = []} {Q = ArrayAt x.program x.room v reach pending (begin + 8)}
        (λ r. give r) (record { lie = lie; starts = starts })
        (λ r is cell refers t b m. given x b (record {
          stands = b;
          cell = cell;
          refers = refers;
          address = m;
          reaches =
              reaches_by x scope v fits slot below
              (slice_get scope.slots slot) known_here reach refl e r is;
        })));
  }
