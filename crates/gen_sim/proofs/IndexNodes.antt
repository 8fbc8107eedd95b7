-- An array, an index, and what is made of both.
use Rattle.std.proofs.Common.{◌≡◌, ◌+◌, ◌*◌, ◌^◌, ◌<◌, ◌≤◌, ℕ, ℤ, pos, List, ◌∷◌, ◌++◌, Bool}
use Rattle.std.proofs.Common.{Option, None, Some, length, sum, sym, ap, subst, ◌∙◌, arith}
use Rattle.std.specs.Prelude.{max}
use Rattle.pawn_cells.specs.Cells.{IsCell}
use Rattle.pawn_meaning.specs.Program.{Array, Expr}
use Rattle.pawn_meaning.specs.Scope.{Scope, Extent, extent}
use Rattle.pawn_meaning.specs.Memory.{Reference}
use Rattle.pawn_meaning.specs.World.{World}
use Rattle.pawn_meaning.specs.Run.{◌>>=◌, give}
use Rattle.pawn_meaning.specs.References.{is_known, index, index_in, outside, first_size}
use Rattle.gen_sim.specs.Leads.{span}
use Rattle.pawn_meaning.specs.Later.{Grows}
use Rattle.pawn_meaning.specs.Need.{load, array_load}
use Rattle.pawn_meaning.specs.Meaning.{array, value}
use Rattle.pawn_meaning.proofs.Grows.{after_grows, give_grows, or_stop_grows}
use Rattle.amx_ops.specs.Moves.{Config}
use Rattle.gen_sim.specs.View.{View, RefersTo, kept, used}
use Rattle.gen_sim.specs.Stands.{Stands, With}
use Rattle.gen_sim.specs.Site.{Site, IsSite, DoesAt, scene_at}
use Rattle.gen_sim.specs.Items.{Item, item_cells, past}
use Rattle.gen_sim.specs.Fits.{Fits}
use Rattle.gen_sim.specs.Results.{Reaches, ArrayAt}
use Rattle.gen_sim.specs.Code.{with_turns, CallsWithin}
use Rattle.gen_sim.specs.Contract.{ValueCode, ArrayCode}
use Rattle.gen_sim.proofs.ItemLaws.{past-append}
use Rattle.gen_sim.proofs.CallLaws.{small_fits}
use Rattle.gen_sim.specs.Lies.{Lies}
use Rattle.gen_sim.specs.SimpleCode.{waiting_code}
use Rattle.gen_sim.specs.BaseCode.{Base, index_begin, indexed_code}
use Rattle.gen_sim.proofs.BaseLaws.{PerhapsSetsTo, with_base, BaseOf, HasBase, base_does}
use Rattle.gen_sim.proofs.ItemSteps.{rest_lies}
use Rattle.gen_sim.proofs.NodesPartLaws.{value_leaves, nodes_of, Leaves, waiting_does, then_items}
use Rattle.gen_sim.specs.IndexCode.{bounds_code}
use Rattle.gen_sim.proofs.IndexLaws.{Knows, IsSize, sized, bounds_do}
use Rattle.gen_sim.proofs.AddressLaws.{refers_inside}

-- what is known of an array that was evaluated
pub record ReferenceAddress (x : Site) (v : View) (whole : Extent) (r : Reference) (y : ℤ)
    : Type 0 where
  pub cell : ℕ
  pub refers : RefersTo x.program x.room v r cell
  pub address : y ≡ pos (4 * cell)
  pub reaches : Reaches whole.first whole.inner r

pub array_leaves : (x : Site) {v : View} {whole : Extent} {pending : List ℤ} {p : ℕ} {r : Reference}
    {w : World} {c : Config}
    → ArrayAt x.program x.room v whole pending p r w c
    → Leaves x v pending p (ReferenceAddress x v whole r) w c
array_leaves x {v} {whole} {pending} {p} {r} {w} {c} a =
    let top = refers_inside x v a.stands r a.cell a.refers in
    record {
      stands = a.stands;
      is = record { cell = a.cell; refers = a.refers; address = a.address; reaches = a.reaches };
      fits =
          subst (λ z. IsCell z) (sym a.address)
          (small_fits (4 * a.cell) (omega (arith, top, a.stands.laid.small)));
    }

pub index_grows : (known : Bool) (size : ℕ) (v : ℤ) → Grows (index known size v)
index_grows known size v = or_stop_grows (index_in size v) (outside known)

-- the items behind the test make something of an array's address, which an instruction sets or
-- which waits, and an index in PRI
abbrev pub MakesOf : {A : Type 0} → Site → View → Option Base → List ℤ → Extent → List Item
    → (ℕ → ℕ) → (Reference → ℕ → A) → (ℕ → A → World → Config → Type 0) → Type 0
MakesOf x v base pending whole last count make Q =
    (r : Reference) (cell size : ℕ) → RefersTo x.program x.room v r cell
    → r.sizes ≡ size ∷ whole.inner → PerhapsSetsTo x v base cell → (j : ℕ) → j < count size → (q :
    ℕ)
    → Lies x q last → (u : World) (t : Config)
    → Stands x.program x.room v (with_base base (pos (4 * cell)) pending) q u t
    → t.state.pri ≡ pos j
    → DoesAt x (length (item_cells last)) u t (give (make r j) u) (Q (past q last))

module _ (scope : Scope) (x : Site) (site : IsSite x) (same : x.program ≡ scope.program) (turns : ℕ)
    (calls : CallsWithin x turns)
    (v : View) (fits : Fits x.program x.room scope v) (pending : List ℤ) (begin : ℕ) (a : Array)
    (e : Expr) (whole : Extent) (first_items index_items last : List Item) {A : Type 0}
    (first : Option ℕ) (count : ℕ → ℕ) (make : Reference → ℕ → A)
    (Q : ℕ → A → World → Config → Type 0) (knows : Knows first (is_known a))
    (sizes : (size : ℕ) → IsSize whole.first size → IsSize first (count size))
    (small : (size : ℕ) → 4 * size < 2 ^ 31 → count size ≤ 2 ^ 31) where
  -- behind the index
  tested : (base : Option Base) → MakesOf x v base pending whole last count make Q
      → (r : Reference) (cell : ℕ) → RefersTo x.program x.room v r cell
      → Reaches whole.first whole.inner r → PerhapsSetsTo x v base cell → (p : ℕ) (z : ℤ) (u :
      World)
      (t : Config)
      → With x.program x.room v (with_base base (pos (4 * cell)) pending) p z u t → Lies x p
      (bounds_code first ++ last)
      → DoesAt x (length (item_cells (bounds_code first ++ last))) u t
      ((index (is_known a) (count (first_size r.sizes)) z >>= (λ i. give (make r i))) u)
      (Q (past p (bounds_code first ++ last)))
  tested base makes r cell refers reaches sets p z u t k j =
      let h = sized whole r reaches in
      let top = refers_inside x v k.stands r cell refers in
      let size_is : count (first_size r.sizes) ≡ count h.size =
      ap (λ sizes. count (first_size sizes)) h.sizes_are in
      let span_is : span r.sizes ≡ h.size = ap span h.sizes_are in
      subst (λ n. DoesAt x (length (item_cells (bounds_code first ++ last))) u t
      ((index (is_known a) n z >>= (λ i. give (make r i))) u) (Q (past p (bounds_code first ++
      last)))) (sym size_is)
      (subst (λ n. DoesAt x (length (item_cells (bounds_code first ++ last))) u t
      ((index (is_known a) (count h.size) z >>= (λ i. give (make r i))) u) (Q n))
      (sym (past-append p (bounds_code first) last))
      (bounds_do x last (count h.size)
      (small h.size (omega (arith, top, span_is, k.stands.laid.small)))
      (λ i. give (make r i)) z k first (is_known a) knows (sizes h.size h.is_size) j
      (λ i below t2 k2. makes r cell h.size refers h.sizes_are sets i below
      (past p (bounds_code first)) (rest_lies x p (bounds_code first) last j) u t2 k2.stands
      k2.value)))

  -- the array's address waits
  waits : extent scope a ≡ Some whole → ArrayCode scope a begin first_items
      → ValueCode scope e (past begin first_items + 4) index_items
      → used x.program x.room v pending + (1 + max (array_load a) (load e)) ≤ kept x.program x.room
      + sum v.needs
      → (w : World) (c : Config) → Stands x.program x.room v pending begin w c
      → Lies x begin (waiting_code first_items index_items (bounds_code first ++ last))
      → MakesOf x v None pending whole last count make Q
      → DoesAt x (length (item_cells (waiting_code first_items index_items (bounds_code first ++
      last)))) w c
      ((array (scene_at x) (with_turns x turns) a
      >>= (λ r. value (scene_at x) (with_turns x turns) e >>= (λ z.
      index (is_known a) (count (first_size r.sizes)) z >>= (λ i. give (make r i))))) w)
      (Q (past begin (waiting_code first_items index_items (bounds_code first ++ last))))
  waits reach one two deep w c s l makes =
      let fewer = with_turns x turns in
      let q = past (past begin first_items + 4) index_items in
      waiting_does x begin first_items index_items (bounds_code first ++ last)
      (value (scene_at x) fewer e)
      (λ r z. index (is_known a) (count (first_size r.sizes)) z >>= (λ i. give (make r i)))
      (λ r u t. ArrayAt x.program x.room v whole pending (past begin first_items) r u t)
      (ReferenceAddress x v whole)
      (λ y z u t. With x.program x.room v (y ∷ pending) q z u t) (λ z y. y ≡ z) Q w l
      (array (scene_at x) fewer a w) (omega (arith, deep)) ((nodes_of x turns).values e)
      (λ r z. after_grows (index_grows (is_known a) (count (first_size r.sizes)) z)
      (λ i. give_grows (make r i)))
      (λ j. one.does whole reach x site same turns calls v fits j.lie j.starts pending
      (omega (arith, deep)) w c s)
      (λ r u t h. array_leaves x h)
      (λ j y u t h. two.does x site same turns calls v fits j.lie j.starts (y ∷ pending)
      (omega (arith, deep)) u t h)
      (λ y z u t h. value_leaves x h)
      (λ j r z y n is fy n_is fn u t k pri. tested None makes r is.cell is.refers is.reaches tt q z
      u t
      (record {
        stands = subst (λ m. Stands x.program x.room v (m ∷ pending) q u t) is.address k;
        value = pri ∙ n_is;
        fits = subst (λ m. IsCell m) n_is fn;
      }) j)

  -- an instruction sets it behind the index
  late : (b : Base) → BaseOf scope a b → extent scope a ≡ Some whole
      → ValueCode scope e begin index_items
      → used x.program x.room v pending + (1 + max (array_load a) (load e)) ≤ kept x.program x.room
      + sum v.needs
      → (w : World) (c : Config) → Stands x.program x.room v pending begin w c
      → Lies x begin (index_items ++ (bounds_code first ++ last))
      → MakesOf x v (Some b) pending whole last count make Q
      → DoesAt x (length (item_cells (index_items ++ (bounds_code first ++ last)))) w c
      ((array (scene_at x) (with_turns x turns) a
      >>= (λ r. value (scene_at x) (with_turns x turns) e >>= (λ z.
      index (is_known a) (count (first_size r.sizes)) z >>= (λ i. give (make r i))))) w)
      (Q (past begin (index_items ++ (bounds_code first ++ last))))
  late b has reach two deep w c s l makes =
      let fewer = with_turns x turns in
      let q = past begin index_items in
      let go = λ (r : Reference) (z : ℤ). index (is_known a) (count (first_size r.sizes)) z
      >>= (λ i. give (make r i)) in
      base_does x whole b s (array (scene_at x) fewer a w)
      (has.finds whole reach x same fewer v fits s) (λ r. value (scene_at x) fewer e >>= go r)
      (λ r h. then_items x begin index_items (bounds_code first ++ last) (With x.program x.room v
      pending q) Q w l
      (value (scene_at x) fewer e w) (go r)
      (λ z u. (after_grows (index_grows (is_known a) (count (first_size r.sizes)) z)
      (λ i. give_grows (make r i))).at u)
      (λ j. two.does x site same turns calls v fits j.lie j.starts pending
      (omega (arith, deep)) w c s)
      (λ j z u t k. tested (Some b) makes r h.cell h.refers h.reaches h.sets q z u t k j))

  pub indexed_does : (base : Option Base) → HasBase scope a base → extent scope a ≡ Some whole
      → ArrayCode scope a begin first_items
      → ValueCode scope e (index_begin base begin first_items) index_items
      → used x.program x.room v pending + (1 + max (array_load a) (load e)) ≤ kept x.program x.room
      + sum v.needs
      → (w : World) (c : Config) → Stands x.program x.room v pending begin w c
      → Lies x begin (indexed_code base first_items index_items (bounds_code first ++ last))
      → MakesOf x v base pending whole last count make Q
      → DoesAt x (length (item_cells (indexed_code base first_items index_items (bounds_code first
      ++ last)))) w c
      ((array (scene_at x) (with_turns x turns) a
      >>= (λ r. value (scene_at x) (with_turns x turns) e >>= (λ z.
      index (is_known a) (count (first_size r.sizes)) z >>= (λ i. give (make r i))))) w)
      (Q (past begin (indexed_code base first_items index_items (bounds_code first ++ last))))
  indexed_does None has reach one two deep w c s l makes = waits reach one two deep w c s l makes
  indexed_does (Some b) has reach one two deep w c s l makes =
      late b has reach two deep w c s l makes
