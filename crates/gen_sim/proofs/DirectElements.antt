-- An element at a constant index has instructions of its own, where its array has a known address:
-- an object, or an array that a slot made. The index is below the size, so nothing tests it.
use Rattle.std.proofs.Common.{◌≡◌, ◌+◌, ◌*◌, ◌^◌, ◌<◌, ℕ, ℤ, pos, List, [], ◌∷◌, Option, None, Some}
use Rattle.std.proofs.Common.{◌+ℤ◌, Bool, true, false, slice_get, refl, sym, ap, subst, ◌∙◌, arith}
use Rattle.std.proofs.Common.{◌-◌, ◌≤◌, negsuc, neg_ℤ, nat_lt, if◌then◌else◌}
use Rattle.std.proofs.lemmas.Bool.{ltb-true}
use Rattle.std.proofs.lemmas.Int.{ints}
use Rattle.std.specs.Prelude.{IfSome}
use Rattle.pawn_cells.specs.Cells.{bits_of, wrapped_sum}
use Rattle.pawn_meaning.specs.Program.{Scalar, Element, Array, SlotArray, ParamArray, Row, From}
use Rattle.pawn_meaning.specs.Program.{Expr}
use Rattle.pawn_meaning.specs.Program as node
use Rattle.pawn_meaning.specs.Scope.{Scope, Extent, extent, object_extent, IsLine, IsMade}
use Rattle.pawn_meaning.specs.ValidExprs.{IsValidArray}
use Rattle.pawn_meaning.specs.Fold.{fold}
use Rattle.pawn_meaning.specs.Memory.{Static, Local, Reference, running, whole_of}
use Rattle.pawn_meaning.specs.World.{World}
use Rattle.pawn_meaning.specs.Run.{Gives, look}
use Rattle.pawn_meaning.specs.References.{index_in, first_size, cell_at}
use Rattle.pawn_meaning.specs.Meaning.{Fewer, place, array, value}
use Rattle.pawn_meaning.proofs.FoldLaws.{fold_means_lem}
use Rattle.amx_ops.specs.Moves.{Config}
use Rattle.gen_sim.specs.Leads.{span}
use Rattle.gen_sim.specs.View.{View, RefersTo, innermost}
use Rattle.gen_sim.specs.Stands.{Stands}
use Rattle.gen_sim.specs.Site.{Site, scene_at}
use Rattle.gen_sim.specs.Fits.{own_sizes}
use Rattle.gen_sim.specs.Results.{Reaches}
use Rattle.gen_sim.specs.PlaceItems.{object_address, cells_to, slot_offset}
use Rattle.gen_sim.specs.DirectCode.{Direct, data_cell, frame_cell, index_below, constant_index}
use Rattle.gen_sim.specs.DirectCode.{element_of, direct_of}
use Rattle.gen_sim.proofs.DataLaws.{object_first}
use Rattle.gen_sim.proofs.FrameAddresses.{frame_down, frame_behind}
use Rattle.gen_sim.proofs.SlotLaws.{running_is, local_low, local_at}
use Rattle.gen_sim.proofs.PlaceNodes.{object_placed, object_address_is}
use Rattle.gen_sim.proofs.ArrayNodes.{inside, whole_is, object_at, own_extent}
use Rattle.gen_sim.proofs.AddressLaws.{refers_inside, element_at}
use Rattle.gen_sim.proofs.DirectLaws.{Reached, Finds, DirectPlace, data_reached, frame_reached}

-- ---- numbers

data_further : (address : ℤ) (first i : ℕ) → address ≡ pos (4 * first)
    → address +ℤ pos (4 * i) ≡ pos (4 * (first + i))
data_further address first i e = ap (λ z. z +ℤ pos (4 * i)) e ∙ omega (arith, ints)

frame_further : (frm down first i : ℕ) (offset : ℤ) → offset ≡ neg_ℤ (pos (4 * down))
    → 4 * down ≤ frm → frm < 2 ^ 31 → wrapped_sum frm (bits_of offset) ≡ 4 * first
    → 4 * (first + i) < 2 ^ 31
    → wrapped_sum frm (bits_of (offset +ℤ pos (4 * i))) ≡ 4 * (first + i)
frame_further frm down first i offset is low top at small =
    let here : 4 * first ≡ frm - 4 * down =
    sym at ∙ ap (λ z. wrapped_sum frm (bits_of z)) is ∙ frame_down frm (4 * down) low top in
    ap (λ z. wrapped_sum frm (bits_of (z +ℤ pos (4 * i)))) is
    ∙ frame_behind frm (4 * down) (4 * i) low (omega (arith, here, small)) top
    ∙ omega (arith, here)

-- ---- a constant index

-- what a constant index was found by
record Constant (found : Option Extent) (k : Option ℤ) (i : ℕ) : Type 0 where
  whole : Extent
  size : ℕ
  value : ℤ
  reaches : found ≡ Some whole
  known : whole.first ≡ Some size
  folds : k ≡ Some value
  is : index_in size value ≡ Some i

-- and by the first size alone
record Below (first : Option ℕ) (k : Option ℤ) (i : ℕ) : Type 0 where
  size : ℕ
  value : ℤ
  known : first ≡ Some size
  folds : k ≡ Some value
  is : index_in size value ≡ Some i

below_of : (first : Option ℕ) (k : Option ℤ) (i : ℕ) → index_below first k ≡ Some i
    → Below first k i
below_of None k i e = cc
below_of (Some size) None i e = cc
below_of (Some size) (Some v) i e =
    record { size = size; value = v; known = refl; folds = refl; is = e }

constant_of : (found : Option Extent) (k : Option ℤ) (i : ℕ) → constant_index found k ≡ Some i
    → Constant found k i
constant_of None k i e = cc
constant_of (Some whole) k i e =
    let b = below_of whole.first k i e in
    record {
      whole = whole;
      size = b.size;
      value = b.value;
      reaches = refl;
      known = b.known;
      folds = b.folds;
      is = b.is;
    }

in_if : (b : Bool) (j size : ℕ) → nat_lt j size ≡ b
    → IfSome (if b then Some j else None) (λ n. n < size)
in_if true j size e = ltb-true j size e
in_if false j size e = tt

in_size : (size : ℕ) (y : ℤ) → IfSome (index_in size y) (λ n. n < size)
in_size size (pos j) = in_if (nat_lt j size) j size refl
in_size size (negsuc j) = tt

-- ---- elements

-- what follows an array that is found, and an index that folds
element_gives : (x : Site) (fewer : Fewer) (a : Array) (e : Expr) (w : World) (r : Reference)
    (size i : ℕ) (y : ℤ) → array (scene_at x) fewer a w ≡ Gives r w → fold e ≡ Some y
    → r.sizes ≡ size ∷ [] → index_in size y ≡ Some i
    → place (scene_at x) fewer (Element a e) w ≡ Gives (cell_at r i) w
element_gives x fewer a e w r size i y found folds sizes is =
    let known : value (scene_at x) fewer e w ≡ Gives y w =
    ((fold_means_lem (scene_at x) fewer e y).0 folds).1 w in
    let below : index_in (first_size r.sizes) y ≡ Some i =
    ap (λ z. index_in (first_size z) y) sizes ∙ is in
    rw (found, known, below) refl

-- an element of an array that was found is the cell so far behind its first one
module _ (x : Site) (v : View) {pending : List ℤ} {p : ℕ} {w : World} {c : Config}
    (s : Stands x.program x.room v pending p w c) (fewer : Fewer) (a : Array) (e : Expr)
    (found : Option Extent) (line : IsLine found) (i : ℕ) (k : Constant found (fold e) i) where
  inner_is : (o : Option Extent) → IsLine o → o ≡ Some k.whole → k.whole.inner ≡ []
  inner_is None h is = cc
  inner_is (Some whole) h is = subst (λ (z : Extent). z.inner ≡ []) (inside whole k.whole is) h

  sizes_are : (r : Reference) → Reaches k.whole.first k.whole.inner r → r.sizes ≡ k.size ∷ []
  sizes_are r reaches =
      let known : Reaches (Some k.size) k.whole.inner r =
      subst (λ z. Reaches z k.whole.inner r) k.known reaches in
      known ∙ ap (λ z. k.size ∷ z) (inner_is found line k.reaches)

  below : i < k.size
  below = subst (λ o. IfSome o (λ n. n < k.size)) k.is (in_size k.size k.value)

  -- it lies within the machine's cells
  top : (r : Reference) (first : ℕ) → RefersTo x.program x.room v r first
      → Reaches k.whole.first k.whole.inner r → 4 * (first + i) < 2 ^ 31
  top r first refers reaches =
      let span_is : span r.sizes ≡ k.size = ap span (sizes_are r reaches) in
      omega (arith, below, refers_inside x v s r first refers, span_is, s.laid.small)

  element_finds : (d : Direct) (r : Reference) (first : ℕ)
      → array (scene_at x) fewer a w ≡ Gives r w → RefersTo x.program x.room v r first
      → Reaches k.whole.first k.whole.inner r → Reached x v d (first + i)
      → Finds x v d w (place (scene_at x) fewer (Element a e) w)
  element_finds d r first is refers reaches reached =
      let sizes = sizes_are r reaches in
      subst (λ o. Finds x v d w o)
      (sym (element_gives x fewer a e w r k.size i k.value is k.folds sizes k.is)) (
        refl,
        record {
          name = r.object;
          i = r.at + i;
          cell = first + i;
          is = refl;
          placed = element_at x v r first k.size i refers sizes below;
          reached = reached;
        },
      )

-- ---- by the array

-- a place has the instructions that are named, where some are
abbrev pub HasDirect : Scope → Scalar → Option Direct → Type 0
HasDirect scope p None = Unit {0}
HasDirect scope p (Some d) = DirectPlace scope p d

module _ (scope : Scope) (e : Expr) (i : ℕ) where
  object_element : (o : ℕ) → IsLine (extent scope (node.Object o))
      → Constant (extent scope (node.Object o)) (fold e) i
      → DirectPlace scope (Element (node.Object o) e)
      (data_cell (object_address scope.program o +ℤ pos (4 * i)))
  object_element o line k = record {
    finds = λ x same fewer v fits {pending} {p} {w} {c} s.
        let here : object_extent (slice_get x.program.objects o) ≡ Some k.whole =
        ap (λ p. object_extent (slice_get p.objects o)) same ∙ k.reaches in
        let it = object_at (slice_get x.program.objects o) k.whole here in
        let first = object_first x.program o in
        let whole =
        whole_is x v s (Static o) it.object.sizes first k.whole
        (object_placed x v o it.object s.laid it.there) tt it.known_as in
        let d = data_cell (object_address scope.program o +ℤ pos (4 * i)) in
        element_finds x v s fewer (node.Object o) e (extent scope (node.Object o)) line i k d
        whole.to first whole.is whole.refers whole.reaches
        (data_reached x v (object_address scope.program o +ℤ pos (4 * i)) (first + i)
        (data_further (object_address scope.program o) first i (object_address_is x scope o same)));
  }

  slot_element : (slot : ℕ) → IsMade scope slot → IsLine (extent scope (SlotArray slot))
      → Constant (extent scope (SlotArray slot)) (fold e) i
      → DirectPlace scope (Element (SlotArray slot) e)
      (frame_cell (slot_offset scope slot +ℤ pos (4 * i)))
  slot_element slot made line k = record {
    finds = λ x same fewer v fits {pending} {p} {w} {c} s.
        let at = local_at x v s scope fits slot made in
        let low = local_low x v s scope fits slot made in
        let whole =
        whole_is x v s (Local (innermost v) slot) (own_sizes (slice_get scope.slots slot)) at.first
        k.whole at.placed (omega (arith, fits.deep))
        (own_extent (slice_get scope.slots slot) k.whole k.reaches) in
        let found : look (whole_of (Local (running w.memory) slot)) w ≡ Gives whole.to w =
        ap (λ j. look (whole_of (Local j slot)) w) (running_is x v s) ∙ whole.is in
        let offset = slot_offset scope slot +ℤ pos (4 * i) in
        let small =
        top x v s fewer (SlotArray slot) e (extent scope (SlotArray slot)) line i k whole.to
        at.first whole.refers whole.reaches in
        element_finds x v s fewer (SlotArray slot) e (extent scope (SlotArray slot)) line i k
        (frame_cell offset) whole.to at.first found whole.refers whole.reaches
        (frame_reached x v offset (at.first + i)
        (frame_further v.frm (cells_to scope.slots scope.made slot) at.first i
        (slot_offset scope slot) low.0 low.1 (omega (arith, s.laid.small, s.laid.frame_below))
        at.address small));
  }

module _ (scope : Scope) (e : Expr) where
  element_by : (a : Array) → IsLine (extent scope a) → IsValidArray scope a → (i : Option ℕ)
      → constant_index (extent scope a) (fold e) ≡ i
      → HasDirect scope (Element a e) (element_of scope a i)
  element_by a line h None is = tt
  element_by (node.Object o) line h (Some i) is =
      object_element scope e i o line (constant_of (extent scope (node.Object o)) (fold e) i is)
  element_by (SlotArray s) line h (Some i) is =
      slot_element scope e i s h.1 line (constant_of (extent scope (SlotArray s)) (fold e) i is)
  element_by (ParamArray s known) line h (Some i) is = tt
  element_by (Row b index) line h (Some i) is = tt
  element_by (From b index) line h (Some i) is = tt

  pub element_direct : (a : Array) → IsLine (extent scope a) → IsValidArray scope a
      → HasDirect scope (Element a e) (direct_of scope (Element a e))
  element_direct a line h =
      element_by a line h (constant_index (extent scope a) (fold e)) refl
