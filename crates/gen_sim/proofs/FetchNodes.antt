-- From where a place's index leads: its address, and what stands there.
use Rattle.std.proofs.Common.{◌≡◌, ◌+◌, ◌*◌, ◌^◌, ◌<◌, ℕ, ℤ, pos, List, [], ◌∷◌, ◌++◌, length}
use Rattle.std.proofs.Common.{slice_get, Some, refl, sym, ap, subst, ◌∙◌, arith}
use Rattle.pawn_cells.specs.Cells.{add, mul, bits_of}
use Rattle.pawn_meaning.specs.Program.{Scalar, Global, Own, Element, Char, Expr, Read, ScalarSlot}
use Rattle.pawn_meaning.specs.Program.{ReferenceSlot}
use Rattle.pawn_meaning.specs.Program as node
use Rattle.pawn_meaning.specs.Scope.{Scope, IsInSight}
use Rattle.pawn_meaning.specs.ValidExprs.{IsCellObject}
use Rattle.pawn_meaning.specs.Memory.{Place, Cell, Character, read}
use Rattle.pawn_meaning.specs.World.{World}
use Rattle.pawn_meaning.specs.Run.{give, look}
use Rattle.pawn_meaning.specs.Meaning.{place}
use Rattle.pawn_meaning.proofs.Grows.{give_grows, look_grows}
use Rattle.amx_ops.specs.declared.op.Op.TheVariants as op
use Rattle.amx_ops.specs.Access.{load}
use Rattle.amx_ops.specs.Effects.{at_next}
use Rattle.amx_ops.specs.Moves.{Config}
use Rattle.gen_sim.specs.View.{View}
use Rattle.gen_sim.specs.Stands.{Stands, With}
use Rattle.gen_sim.specs.Site.{Site, DoesAt, scene_at}
use Rattle.gen_sim.specs.Items.{Item, item_cells, past, with}
use Rattle.gen_sim.specs.Results.{IsAddress, IndexedAt, PlaceAt}
use Rattle.gen_sim.specs.Code.{with_turns}
use Rattle.gen_sim.specs.Contract.{ValueCode, PlaceCode, IndexedCode}
use Rattle.gen_sim.specs.Lies.{Lies}
use Rattle.gen_sim.specs.SimpleCode.{alone, taking}
use Rattle.gen_sim.specs.AccessCode.{address_code, fetch_code, load_code, read_code}
use Rattle.gen_sim.specs.PlaceItems.{object_code, slot_code, through_code}
use Rattle.gen_sim.proofs.StepLaws.{given, load_by}
use Rattle.gen_sim.proofs.ItemSteps.{next_lies, one_item, item_sets}
use Rattle.gen_sim.proofs.NodesPartLaws.{does_as, then_items, then_nothing}
use Rattle.gen_sim.proofs.AddressLaws.{summed, indexed}
use Rattle.gen_sim.proofs.KindLaws.{OfKind, IsCellPlace, place_kind, known_does}
use Rattle.gen_sim.proofs.AccessLaws.{Loaded, place_loads}
use Rattle.gen_sim.proofs.PlaceNodes.{global_does, own_does, through_does}

-- IDXADDR and LIDX make the same address
element_sum : (x y : ℤ) (cell i : ℕ) → x ≡ pos i → y ≡ pos (4 * cell) → 4 * (cell + i) < 2 ^ 31
    → add y (mul (pos 4) x) ≡ pos (4 * (cell + i))
element_sum x y cell i e f small =
    ap (λ z. add z (mul (pos 4) x)) f ∙ ap (λ z. add (pos (4 * cell)) (mul (pos 4) z)) e
    ∙ indexed cell i small

-- and ADD that of a byte
byte_sum : (x y : ℤ) (from i : ℕ) → x ≡ pos i → y ≡ pos from → from + i < 2 ^ 31
    → add x y ≡ pos (from + i)
byte_sum x y from i e f small =
    ap (λ z. add z y) e ∙ ap (λ z. add (pos i) z) f ∙ summed i from (omega (arith, small))
    ∙ ap pos (omega arith)

module _ (x : Site) {v : View} {pending : List ℤ} where
  pub addresses : (s : Scalar) (at : Place) (q : ℕ) (u : World) (t : Config)
      → IndexedAt x.program x.room v s pending q at u t → Lies x q (address_code s)
      → DoesAt x (length (item_cells (address_code s))) u t (give at u)
      (PlaceAt x.program x.room v pending (past q (address_code s)))
  addresses (Global o) at q u t a l =
      given x a.stands (record { stands = a.stands; address = a.leads })
  addresses (Own s) at q u t a l =
      given x a.stands (record { stands = a.stands; address = a.leads })
  addresses (node.Through s) at q u t a l =
      given x a.stands (record { stands = a.stands; address = a.leads })
  addresses (Element b e) at q u t a l =
      let h = a.leads in
      item_sets x (with op.Idxaddr (pos 0)) {js = []} a.stands l
      (add t.state.alt (mul (pos 4) t.state.pri)) t.state.alt refl
      (λ n g e f. given x g (record {
        stands = g;
        address =
            subst (λ z. IsAddress x.program x.room v at z)
            (sym (e ∙ element_sum t.state.pri t.state.alt h.0 h.1 h.2 h.3 h.4)) h.5;
      }))
  addresses (Char b e) at q u t a l =
      let h = a.leads in
      item_sets x (with op.Add (pos 0)) {js = []} a.stands l (add t.state.pri t.state.alt)
      t.state.alt
      refl
      (λ n g e f. given x g (record {
        stands = g;
        address =
            subst (λ z. IsAddress x.program x.room v at z)
            (sym (e ∙ byte_sum t.state.pri t.state.alt h.0 h.1 h.2 h.3 h.4)) h.5;
      }))

  -- ---- what stands there

  fetch_cell : (at : Place) → IsCellPlace at → (cell i : ℕ) (q : ℕ) (u : World) (t : Config)
      → Stands x.program x.room v pending q u t → t.state.pri ≡ pos i → t.state.alt ≡ pos (4 * cell)
      → 4 * (cell + i) < 2 ^ 31 → IsAddress x.program x.room v at (pos (4 * (cell + i)))
      → Lies x q (alone op.Lidx ∷ [])
      → DoesAt x (length (item_cells (alone op.Lidx ∷ []))) u t (look (read at) u)
      (With x.program x.room v pending (q + 4))
  fetch_cell (Cell name k) kind cell i q u t s pri alt small a l =
      subst (λ o. DoesAt x (length (item_cells (alone op.Lidx ∷ []))) u t o
      (With x.program x.room v pending (q + 4)))
      (then_nothing (look (read (Cell name k)) u))
      (one_item x (with op.Lidx (pos 0)) [] u
      (load_by x {d = 0} s a.1 (with op.Lidx (pos 0)) l.lie.0
      (ap (λ z. load t.state (bits_of z) (λ y. at_next (q + 4) (record t.state { pri = y })))
      (element_sum t.state.pri t.state.alt cell i pri alt small ∙ a.2)) (λ y. give y)
      (λ y n b e. given x b.stands b)))
  fetch_cell (Character name k j) h cell i q u t s pri alt small a l = elim h [ ]

  -- by its address
  loads_there : (s : Scalar) (at : Place) → OfKind s at → (q : ℕ) (u : World) (t : Config)
      → PlaceAt x.program x.room v pending q at u t → Lies x q (load_code s)
      → DoesAt x (length (item_cells (load_code s))) u t (look (read at) u)
      (With x.program x.room v pending (past q (load_code s)))
  loads_there s at kind q u t a l =
      does_as x (length (item_cells (load_code s))) u (look (read at) u)
      (Loaded x v pending (past q (load_code s)) t.state.alt) (λ y n i k. k.0)
      (place_loads x s at kind q u t a l)

  pub fetches : (s : Scalar) (at : Place) → OfKind s at → (q : ℕ) (u : World) (t : Config)
      → IndexedAt x.program x.room v s pending q at u t → Lies x q (fetch_code s)
      → DoesAt x (length (item_cells (fetch_code s))) u t (look (read at) u)
      (With x.program x.room v pending (past q (fetch_code s)))
  fetches (Global o) at k q u t a l =
      loads_there (Global o) at k q u t (record { stands = a.stands; address = a.leads }) l
  fetches (Own s) at k q u t a l =
      loads_there (Own s) at k q u t (record { stands = a.stands; address = a.leads }) l
  fetches (node.Through s) at k q u t a l =
      loads_there (node.Through s) at k q u t (record { stands = a.stands; address = a.leads }) l
  fetches (Element b e) at k q u t a l =
      let h = a.leads in fetch_cell at k h.0 h.1 q u t a.stands h.2 h.3 h.4 h.5 l
  fetches (Char b e) at k q u t a l =
      let h = a.leads in
      let last = taking op.LodbI (pos 1) ∷ [] in
      item_sets x (with op.Add (pos 0)) a.stands l (add t.state.pri t.state.alt) t.state.alt refl
      (λ n g m f. loads_there (Char b e) at k (q + 4) u n (record {
        stands = g;
        address =
            subst (λ z. IsAddress x.program x.room v at z)
            (sym (m ∙ byte_sum t.state.pri t.state.alt h.0 h.1 h.2 h.3 h.4)) h.5;
      }) (next_lies x q (alone op.Add) last l))

-- ---- nodes

module _ (scope : Scope) (begin : ℕ) where
  -- the address of a place
  pub addressed_does : (p : Scalar) (items : List Item) → IndexedCode scope p begin items
      → PlaceCode scope p begin (items ++ address_code p)
  addressed_does p items part = record {
    does = λ x site same turns calls v fits lie starts pending deep w c s.
        let run = place (scene_at x) (with_turns x turns) p w in
        subst (λ o. DoesAt x (length (item_cells (items ++ address_code p))) w c o
        (PlaceAt x.program x.room v pending (past begin (items ++ address_code p))))
        (then_nothing run)
        (then_items x begin items (address_code p)
        (IndexedAt x.program x.room v p pending (past begin items))
        (PlaceAt x.program x.room v pending) w (record { lie = lie; starts = starts }) run
        (λ at. give at) (λ at u. (give_grows at).at u)
        (λ l. part.does x site same turns calls v fits l.lie l.starts pending deep w c s)
        (λ l at u t a. addresses x p at (past begin items) u t a l));
  }

  -- its value
  pub read_does : (p : Scalar) (items : List Item) → IndexedCode scope p begin items
      → ValueCode scope (Read p) begin (read_code p items)
  read_does p items part = record {
    does = λ x site same turns calls v fits lie starts pending deep w c s.
        let fewer = with_turns x turns in
        let found = IndexedAt x.program x.room v p pending (past begin items) in
        then_items x begin items (fetch_code p) (λ at u t. found at u t × OfKind p at)
        (λ q. With x.program x.room v pending q) w (record { lie = lie; starts = starts })
        (place (scene_at x) fewer p w) (λ at. look (read at))
        (λ at u. (look_grows (read at)).at u)
        (λ l. known_does x (length (item_cells items)) w (place (scene_at x) fewer p w) found
        (OfKind p) (place_kind (scene_at x) fewer p w)
        (part.does x site same turns calls v fits l.lie l.starts pending deep w c s))
        (λ l at u t a. fetches x p at a.1 (past begin items) u t a.0 l);
  }

  -- ---- places without an index: their address is there at once

  pub global_indexed : (o : ℕ) → IsCellObject (slice_get scope.program.objects o)
      → IndexedCode scope (Global o) begin (object_code scope.program o)
  global_indexed o valid = record {
    does = λ x site same turns calls v fits lie starts pending deep w c s.
        let items = object_code scope.program o in
        does_as x (length (item_cells items)) w
        (place (scene_at x) (with_turns x turns) (Global o) w)
        (PlaceAt x.program x.room v pending (past begin items))
        (λ at u t a. record { stands = a.stands; leads = a.address })
        ((global_does scope begin o valid).does x site same turns calls v fits lie starts pending
        deep w
        c s);
  }

  pub own_indexed : (slot : ℕ) → slice_get scope.slots slot ≡ Some ScalarSlot
      → IsInSight scope slot → IndexedCode scope (Own slot) begin (slot_code scope slot)
  own_indexed slot kind sight = record {
    does = λ x site same turns calls v fits lie starts pending deep w c s.
        let items = slot_code scope slot in
        does_as x (length (item_cells items)) w
        (place (scene_at x) (with_turns x turns) (Own slot) w)
        (PlaceAt x.program x.room v pending (past begin items))
        (λ at u t a. record { stands = a.stands; leads = a.address })
        ((own_does scope begin slot kind sight).does x site same turns calls v fits lie starts
        pending
        deep w c s);
  }

  pub through_indexed : (slot : ℕ) → slice_get scope.slots slot ≡ Some ReferenceSlot
      → slot < scope.params → IndexedCode scope (node.Through slot) begin (through_code slot)
  through_indexed slot kind below = record {
    does = λ x site same turns calls v fits lie starts pending deep w c s.
        let items = through_code slot in
        does_as x (length (item_cells items)) w
        (place (scene_at x) (with_turns x turns) (node.Through slot) w)
        (PlaceAt x.program x.room v pending (past begin items))
        (λ at u t a. record { stands = a.stands; leads = a.address })
        ((through_does scope begin slot kind below).does x site same turns calls v fits lie starts
        pending deep w c s);
  }
