-- An instruction sets ALT to the address of an array without an index, wherever the machine is in
-- the view; of any other array the address waits.
use Rattle.std.proofs.Common.{◌≡◌, ◌+◌, ◌*◌, ◌<◌, ℕ, ℤ, pos, List, ◌∷◌, Option, None}
use Rattle.std.proofs.Common.{Some, length, slice_get, refl, sym, ap, subst, ◌∙◌, arith, Bool}
use Rattle.host_script.specs.declared.event.End.TheVariants as end
use Rattle.pawn_meaning.specs.Program.{Array, SlotArray, ParamArray}
use Rattle.pawn_meaning.specs.Program as node
use Rattle.pawn_meaning.specs.Scope.{Scope, Extent, extent, IsMade, known_extent, object_extent}
use Rattle.pawn_meaning.specs.Memory.{Name, Static, Local, Reference, whole_of}
use Rattle.pawn_meaning.specs.World.{World}
use Rattle.pawn_meaning.specs.Run.{Outcome, Gives, Stops, More, Run, then_do, or_stop, look}
use Rattle.pawn_meaning.specs.Meaning.{Fewer, array}
use Rattle.amx_ops.specs.declared.op.Op.TheVariants as op
use Rattle.amx_ops.specs.State.{Goes}
use Rattle.amx_ops.specs.Step.{act}
use Rattle.amx_ops.specs.Moves.{Config}
use Rattle.gen_sim.specs.Pieces.{Thing}
use Rattle.gen_sim.specs.Leads.{Leads}
use Rattle.gen_sim.specs.View.{View, RefersTo, PlacedIn, IsAlive, innermost, depth}
use Rattle.gen_sim.specs.Stands.{Stands}
use Rattle.gen_sim.specs.Site.{Site, DoesAt, scene_at}
use Rattle.gen_sim.specs.Items.{Item, Plain, item_cells, size, with}
use Rattle.gen_sim.specs.Fits.{Fits, own_sizes}
use Rattle.gen_sim.specs.Results.{Reaches}
use Rattle.gen_sim.specs.Lies.{Lies}
use Rattle.gen_sim.specs.BaseCode.{Base, base_item}
use Rattle.gen_sim.specs.PlaceItems.{object_address, slot_offset}
use Rattle.gen_sim.proofs.LeadLaws.{whole_leads}
use Rattle.gen_sim.proofs.MemLaws.{mem_there}
use Rattle.gen_sim.proofs.WorldLaws.{found}
use Rattle.gen_sim.proofs.DataLaws.{object_first}
use Rattle.gen_sim.proofs.ItemSteps.{item_sets, item_pops_alt}
use Rattle.gen_sim.proofs.StepLaws.{stray}
use Rattle.gen_sim.proofs.SlotLaws.{running_is, first_inside, local_at, addr_is, through_is}
use Rattle.gen_sim.proofs.SlotLaws.{param_reads}
use Rattle.gen_sim.proofs.PlaceNodes.{object_placed, object_address_is}
use Rattle.gen_sim.proofs.ArrayNodes.{known, object_at, own_extent, reaches_by}

-- ---- what sets ALT

-- the instruction sets ALT to the address of a cell of this number
abbrev pub SetsTo : Site → View → Base → ℕ → Type 0
SetsTo x v b cell =
    (pending : List ℤ) (p : ℕ) (w : World) (c : Config)
    → Stands x.program x.room v pending p w c → (q : ℕ)
    → act x.amx b.sets b.operand q c.state ≡ Goes (record c.state { alt = pos (4 * cell); cip = q })

-- so where there is one
abbrev pub PerhapsSetsTo : Site → View → Option Base → ℕ → Type 0
PerhapsSetsTo x v None cell = Unit {0}
PerhapsSetsTo x v (Some b) cell = SetsTo x v b cell

-- an array's address waits where there is none
abbrev pub with_base : Option Base → ℤ → List ℤ → List ℤ
with_base None y pending = y ∷ pending
with_base (Some b) y pending = pending

-- the address goes to ALT, PRI stays, and nothing waits any more
pub base_goes : (x : Site) {v : View} {pending : List ℤ} {A : Type 0} {o : Outcome A}
    {Q : A → World → Config → Type 0} (base : Option Base) (cell : ℕ) → PerhapsSetsTo x v base cell
    → (js : List Item) (q : ℕ) (u : World) (t : Config)
    → Stands x.program x.room v (with_base base (pos (4 * cell)) pending) q u t
    → Lies x q (base_item base ∷ js)
    → ((n : Config) → Stands x.program x.room v pending (q + 4 * size (base_item base)) u n
    → n.state.alt ≡ pos (4 * cell) → n.state.pri ≡ t.state.pri
    → DoesAt x (length (item_cells js)) u n o Q)
    → DoesAt x (length (item_cells (base_item base ∷ js))) u t o Q
base_goes x None cell h js q u t k l next = item_pops_alt x k l next
base_goes x (Some b) cell h js q u t k l next =
    item_sets x (with b.sets b.operand) k l t.state.pri (pos (4 * cell))
    (h _ q u t k (q + 4 * size (Plain (with b.sets b.operand))))
    (λ n s e f. next n s f e)

-- ---- an array that is found without a step

-- an array lies where the instruction leads
pub record BasedAt (x : Site) (v : View) (whole : Extent) (b : Base) (r : Reference) : Type 0 where
  pub cell : ℕ
  pub refers : RefersTo x.program x.room v r cell
  pub reaches : Reaches whole.first whole.inner r
  pub sets : SetsTo x v b cell

-- what a run finds without a step: such an array, or it is stray
abbrev pub FindsBase : Site → View → Extent → Base → World → Outcome Reference → Type 0
FindsBase x v whole b w (Gives r u) = (u ≡ w) × BasedAt x v whole b r
FindsBase x v whole b w (Stops e u) = (u ≡ w) × (e ≡ end.Stray)
FindsBase x v whole b w (More u) = ⊥

-- what follows an array that was found
pub base_does : (x : Site) {v : View} {pending : List ℤ} (whole : Extent) (b : Base) {A : Type 0}
    {n p : ℕ} {w : World} {c : Config} {Q : A → World → Config → Type 0}
    → Stands x.program x.room v pending p w c
    → (o : Outcome Reference) → FindsBase x v whole b w o → (go : Reference → Run A)
    → ((r : Reference) → BasedAt x v whole b r → DoesAt x n w c (go r w) Q)
    → DoesAt x n w c (then_do o go) Q
base_does x whole b {n = n} {w = w} {c = c} {Q = Q} s (Gives r u) h go next =
    subst (λ z. DoesAt x n w c (go r z) Q) (sym h.0) (next r h.1)
base_does x whole b {n = n} {w = w} {c = c} {Q = Q} s (Stops e u) h go next =
    subst (λ z. DoesAt x n w c (Stops z u) Q) (sym h.1)
    (subst (λ z. DoesAt x n w c (Stops end.Stray z) Q) (sym h.0) (stray x s))
base_does x whole b s (More u) h go next = elim h [ ]

-- ---- each array without an index

module _ (x : Site) (v : View) {pending : List ℤ} {p : ℕ} {w : World} {c : Config}
    (s : Stands x.program x.room v pending p w c) where
  whole_base : (name : Name) (sizes : List ℕ) (first : ℕ) (reach : Extent) (b : Base)
      → PlacedIn x.program x.room v (Thing name sizes) first
      → IsAlive (depth v) v.temps name → known_extent sizes ≡ Some reach → SetsTo x v b first
      → FindsBase x v reach b w (look (whole_of name) w)
  whole_base name sizes first reach b placed alive e sets =
      let k = known sizes reach e in
      let f = found w.memory name sizes (mem_there s.mem placed) in
      let all : f.object.sizes ≡ k.first ∷ k.inner = f.sized.sizes_are ∙ k.sizes_are in
      rw f.is (
        refl,
        record {
          cell = first;
          refers = record {
            sizes = sizes;
            first = first;
            placed = placed;
            leads =
                subst (λ z. Leads z first f.object.sizes 0 first) (sym k.sizes_are)
                (subst (λ z. Leads (k.first ∷ k.inner) first z 0 first) (sym all)
                (whole_leads k.inner first k.first));
            alive = alive;
          };
          reaches =
              subst (λ z. Reaches z.first z.inner
              (record { object = name; at = 0; sizes = f.object.sizes })) (sym k.reach_is) all;
          sets = sets;
        },
      )

-- an array has such an instruction
pub record BaseOf (scope : Scope) (a : Array) (b : Base) : Type 0 where
  pub finds : (reach : Extent) → extent scope a ≡ Some reach → (x : Site)
      → x.program ≡ scope.program → (fewer : Fewer) → (v : View)
      → Fits x.program x.room scope v → {pending : List ℤ} {p : ℕ} {w : World} {c : Config}
      → Stands x.program x.room v pending p w c
      → FindsBase x v reach b w (array (scene_at x) fewer a w)

-- where there is one
abbrev pub HasBase : Scope → Array → Option Base → Type 0
HasBase scope a None = Unit {0}
HasBase scope a (Some b) = BaseOf scope a b

module _ (scope : Scope) where
  pub object_base : (o : ℕ) → BaseOf scope (node.Object o)
      (record { sets = op.ConstAlt; operand = object_address scope.program o })
  object_base o = record {
    finds = λ reach e x same fewer v fits s.
        let here : object_extent (slice_get x.program.objects o) ≡ Some reach =
        ap (λ p. object_extent (slice_get p.objects o)) same ∙ e in
        let it = object_at (slice_get x.program.objects o) reach here in
        whole_base x v s (Static o) it.object.sizes (object_first x.program o) reach
        (record { sets = op.ConstAlt; operand = object_address scope.program o })
        (object_placed x v o it.object s.laid it.there) tt it.known_as
        (λ pending p w c h q. ap (λ z. Goes (record c.state { alt = z; cip = q }))
        (object_address_is x scope o same));
  }

  pub slot_base : (slot : ℕ) → IsMade scope slot → BaseOf scope (SlotArray slot)
      (record { sets = op.AddrAlt; operand = slot_offset scope slot })
  slot_base slot made = record {
    finds = λ reach e x same fewer v fits {pending} {p} {w} {c} s.
        let at = local_at x v s scope fits slot made in
        let k = own_extent (slice_get scope.slots slot) reach e in
        let top = first_inside x v s at.placed in
        let b : Base = record { sets = op.AddrAlt; operand = slot_offset scope slot } in
        subst (λ j. FindsBase x v reach b w (look (whole_of (Local j slot)) w))
        (sym (running_is x v s))
        (whole_base x v s (Local (innermost v) slot) (own_sizes (slice_get scope.slots slot))
        at.first reach b at.placed (omega (arith, fits.deep)) k
        (λ pending p w c h q. ap (λ z. Goes (record c.state { alt = z; cip = q }))
        (addr_is x v h (slot_offset scope slot) at.first top at.address)));
  }

  abbrev param_its : ℕ → Base
  param_its slot = record { sets = op.LoadSAlt; operand = pos (12 + 4 * slot) }

  param_by : (x : Site) (v : View) (slot : ℕ) (reach : Extent) {pending : List ℤ} {p : ℕ}
      {w : World} {c : Config} → Stands x.program x.room v pending p w c
      → ((r : Reference) → v.params (innermost v) slot ≡ Some r
      → Reaches reach.first reach.inner r)
      → (o : Option Reference) → v.params (innermost v) slot ≡ o
      → FindsBase x v reach (param_its slot) w (or_stop o end.Stray w)
  param_by x v slot reach s one None e = (refl, refl)
  param_by x v slot reach s one (Some r) e =
      let at = s.laid.refs slot r e in (
        refl,
        record {
          cell = at.cell;
          refers = at.refers;
          reaches = one r e;
          sets = λ pending p w c h q.
              let its = param_reads x v h slot r at in
              rw (its.offset_is, its.reads.live, its.reads.value) refl;
        },
      )

  pub param_base : (slot : ℕ) (known_here : Bool) → slot < scope.params
      → BaseOf scope (ParamArray slot known_here) (param_its slot)
  param_base slot known_here below = record {
    finds = λ reach e x same fewer v fits {pending} {p} {w} {c} s.
        subst (λ o. FindsBase x v reach (param_its slot) w (or_stop o end.Stray w))
        (sym (through_is x v s slot))
        (param_by x v slot reach s
        (λ r is. reaches_by x scope v fits slot below (slice_get scope.slots slot) known_here reach
        refl e r is) (v.params (innermost v) slot) refl);
  }
