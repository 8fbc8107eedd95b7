-- A place's cell or character is loaded from its address in PRI, and stored at its address in ALT.
use Rattle.std.proofs.Common.{◌≡◌, ◌+◌, ◌*◌, ◌-◌, ◌<◌, ℕ, ℤ, pos, List, [], ◌∷◌, length, sym, subst}
use Rattle.std.proofs.Common.{◌∙◌, arith}
use Rattle.pawn_cells.specs.Cells.{IsCell}
use Rattle.pawn_meaning.specs.Program.{Scalar, Global, Own, Element, Char}
use Rattle.pawn_meaning.specs.Program as node
use Rattle.pawn_meaning.specs.Memory.{Place, Cell, Character, read, write}
use Rattle.pawn_meaning.specs.World.{World}
use Rattle.pawn_meaning.specs.Run.{Done, give, look, change}
use Rattle.amx_ops.specs.declared.op.Op.TheVariants as op
use Rattle.amx_ops.specs.Moves.{Config}
use Rattle.gen_sim.specs.Pieces.{Thing, extent}
use Rattle.gen_sim.specs.View.{View}
use Rattle.gen_sim.specs.Stands.{Stands, With}
use Rattle.gen_sim.proofs.MemLaws.{below_top}
use Rattle.gen_sim.specs.Site.{Site, DoesAt}
use Rattle.gen_sim.specs.Items.{item_cells, past, with}
use Rattle.gen_sim.specs.Results.{IsAddress, PlaceAt}
use Rattle.gen_sim.proofs.CallLaws.{small_fits}
use Rattle.gen_sim.proofs.StepLaws.{given, load_does, store_does}
use Rattle.gen_sim.proofs.CharacterLaws.{load_character_does, store_character_does}
use Rattle.gen_sim.specs.Lies.{Lies}
use Rattle.gen_sim.specs.SimpleCode.{alone, taking}
use Rattle.gen_sim.specs.AccessCode.{load_code, store_code}
use Rattle.gen_sim.proofs.ItemSteps.{one_item}
use Rattle.gen_sim.proofs.NodesPartLaws.{then_nothing, Leaves}
use Rattle.gen_sim.proofs.KindLaws.{OfKind, IsCellPlace, IsCharacterPlace}

-- what is known of a place that was evaluated
abbrev pub AddressOf : Site → View → Scalar → Place → ℤ → Type 0
AddressOf x v s at address = IsAddress x.program x.room v at address × OfKind s at

-- a value was loaded, and ALT is as it was
abbrev pub Loaded : Site → View → List ℤ → ℕ → ℤ → ℤ → World → Config → Type 0
Loaded x v pending p alt y w c = With x.program x.room v pending p y w c × (c.state.alt ≡ alt)

-- a value was stored, and is in PRI
abbrev pub Stored : Site → View → List ℤ → ℕ → ℤ → Done → World → Config → Type 0
Stored x v pending p y d w c = With x.program x.room v pending p y w c

module _ (x : Site) {v : View} {pending : List ℤ} where
  -- ---- loads

  load_cell : (at : Place) → IsCellPlace at → (p : ℕ) (u : World) (t : Config)
      → PlaceAt x.program x.room v pending p at u t → Lies x p (alone op.LoadI ∷ [])
      → DoesAt x (length (item_cells (alone op.LoadI ∷ []))) u t (look (read at) u)
      (Loaded x v pending (p + 4) t.state.alt)
  load_cell (Cell name i) k p u t a l =
      subst (λ o. DoesAt x (length (item_cells (alone op.LoadI ∷ []))) u t o
      (Loaded x v pending (p + 4) t.state.alt))
      (then_nothing (look (read (Cell name i)) u))
      (one_item x (with op.LoadI (pos 0)) [] u
      (load_does x {d = 0} a.stands a.address.1 a.address.2 l.lie.0 (λ y. give y)
      (λ y n b e. given x b.stands (b, e))))
  load_cell (Character name i k) h p u t a l = elim h [ ]

  load_character : (at : Place) → IsCharacterPlace at → (p : ℕ) (u : World) (t : Config)
      → PlaceAt x.program x.room v pending p at u t
      → Lies x p (taking op.LodbI (pos 1) ∷ [])
      → DoesAt x (length (item_cells (taking op.LodbI (pos 1) ∷ []))) u t (look (read at) u)
      (Loaded x v pending (p + 8) t.state.alt)
  load_character (Cell name i) h p u t a l = elim h [ ]
  load_character (Character name i k) h p u t a l =
      subst (λ o. DoesAt x (length (item_cells (taking op.LodbI (pos 1) ∷ []))) u t o
      (Loaded x v pending (p + 8) t.state.alt))
      (then_nothing (look (read (Character name i k)) u))
      (one_item x (with op.LodbI (pos 1)) [] u
      (load_character_does x {d = 0} a.stands a.address.1 k a.address.2 a.address.3 l.lie.0
      (λ y. give y) (λ y n b e. given x b.stands (b, e))))

  pub place_loads : (s : Scalar) (at : Place) → OfKind s at → (p : ℕ) (u : World) (t : Config)
      → PlaceAt x.program x.room v pending p at u t → Lies x p (load_code s)
      → DoesAt x (length (item_cells (load_code s))) u t (look (read at) u)
      (Loaded x v pending (past p (load_code s)) t.state.alt)
  place_loads (Global o) at k p u t a l = load_cell at k p u t a l
  place_loads (Own s) at k p u t a l = load_cell at k p u t a l
  place_loads (node.Through s) at k p u t a l = load_cell at k p u t a l
  place_loads (Element b e) at k p u t a l = load_cell at k p u t a l
  place_loads (Char b e) at k p u t a l = load_character at k p u t a l

  -- so with the address in PRI
  pub loads_at : (s : Scalar) (at : Place) → OfKind s at → (address : ℤ)
      → IsAddress x.program x.room v at address → (p : ℕ) (u : World) (t : Config)
      → Stands x.program x.room v pending p u t → t.state.pri ≡ address → Lies x p (load_code s)
      → DoesAt x (length (item_cells (load_code s))) u t (look (read at) u)
      (Loaded x v pending (past p (load_code s)) t.state.alt)
  loads_at s at kind address is p u t a pri l =
      place_loads s at kind p u t (record {
        stands = a;
        address = subst (λ z. IsAddress x.program x.room v at z) (sym pri) is;
      }) l

  -- ---- stores

  store_cell : (at : Place) → IsCellPlace at → (address y : ℤ)
      → IsAddress x.program x.room v at address → IsCell y → (p : ℕ) (u : World) (t : Config)
      → Stands x.program x.room v pending p u t → t.state.alt ≡ address → t.state.pri ≡ y
      → Lies x p (alone op.StorI ∷ [])
      → DoesAt x (length (item_cells (alone op.StorI ∷ []))) u t (change (write at y) u)
      (Stored x v pending (p + 4) y)
  store_cell (Cell name i) k address y a fit p u t s alt pri l =
      subst (λ o. DoesAt x (length (item_cells (alone op.StorI ∷ []))) u t o
      (Stored x v pending (p + 4) y)) (then_nothing (change (write (Cell name i) y) u))
      (one_item x (with op.StorI (pos 0)) [] u
      (store_does x {d = 0} s a.1 y pri fit (alt ∙ a.2) l.lie.0 (λ d. give d)
      (λ m n b. given x b.stands b)))
  store_cell (Character name i k) h address y a fit p u t s alt pri l = elim h [ ]

  store_character : (at : Place) → IsCharacterPlace at → (address y : ℤ)
      → IsAddress x.program x.room v at address → IsCell y → (p : ℕ) (u : World) (t : Config)
      → Stands x.program x.room v pending p u t → t.state.alt ≡ address → t.state.pri ≡ y
      → Lies x p (taking op.StrbI (pos 1) ∷ [])
      → DoesAt x (length (item_cells (taking op.StrbI (pos 1) ∷ []))) u t (change (write at y) u)
      (Stored x v pending (p + 8) y)
  store_character (Cell name i) h address y a fit p u t s alt pri l = elim h [ ]
  store_character (Character name i k) h address y a fit p u t s alt pri l =
      subst (λ o. DoesAt x (length (item_cells (taking op.StrbI (pos 1) ∷ []))) u t o
      (Stored x v pending (p + 8) y)) (then_nothing (change (write (Character name i k) y) u))
      (one_item x (with op.StrbI (pos 1)) [] u
      (store_character_does x {d = 0} s a.1 k a.2 y pri fit (alt ∙ a.3) l.lie.0 (λ d. give d)
      (λ m n b. given x b.stands b)))

  pub place_stores : (s : Scalar) (at : Place) → OfKind s at → (address y : ℤ)
      → IsAddress x.program x.room v at address → IsCell y
      → (p : ℕ) (u : World) (t : Config) → Stands x.program x.room v pending p u t
      → t.state.alt ≡ address → t.state.pri ≡ y → Lies x p (store_code s)
      → DoesAt x (length (item_cells (store_code s))) u t (change (write at y) u)
      (Stored x v pending (past p (store_code s)) y)
  place_stores (Global o) at k address y a fit p u t s alt pri l =
      store_cell at k address y a fit p u t s alt pri l
  place_stores (Own n) at k address y a fit p u t s alt pri l =
      store_cell at k address y a fit p u t s alt pri l
  place_stores (node.Through n) at k address y a fit p u t s alt pri l =
      store_cell at k address y a fit p u t s alt pri l
  place_stores (Element b e) at k address y a fit p u t s alt pri l =
      store_cell at k address y a fit p u t s alt pri l
  place_stores (Char b e) at k address y a fit p u t s alt pri l =
      store_character at k address y a fit p u t s alt pri l

  -- ---- addresses

  -- an address is a cell
  pub address_fits : (at : Place) (p : ℕ) (u : World) (t : Config)
      → PlaceAt x.program x.room v pending p at u t → IsCell t.state.pri
  address_fits (Cell name i) p u t a =
      let c = a.address.1 in
      let inside : a.address.0 < c.first + extent (Thing name c.sizes) =
      omega (arith, c.cell_is, c.inside) in
      let top = below_top a.stands.mem c.placed a.address.0 inside in
      subst (λ z. IsCell z) (sym a.address.2)
      (small_fits (4 * a.address.0) (omega (arith, top, a.stands.laid.small)))
  address_fits (Character name i k) p u t a =
      let c = a.address.1 in
      let inside : a.address.0 < c.first + extent (Thing name c.sizes) =
      omega (arith, c.cell_is, c.inside) in
      let top = below_top a.stands.mem c.placed a.address.0 inside in
      subst (λ z. IsCell z) (sym a.address.3)
      (small_fits (4 * a.address.0 + (3 - k)) (omega (arith, top, a.stands.laid.small)))

  pub place_leaves : (s : Scalar) (at : Place) (p : ℕ) (u : World) (t : Config)
      → PlaceAt x.program x.room v pending p at u t → OfKind s at
      → Leaves x v pending p (AddressOf x v s at) u t
  place_leaves s at p u t a k =
      record { stands = a.stands; is = (a.address, k); fits = address_fits at p u t a }
