-- Steps whose value isn't used, of a place by its address.
use Rattle.std.proofs.Common.{◌≡◌, ◌+◌, ◌*◌, ◌⊎◌, inl, inr, ℕ, ℤ, pos, negsuc, List, [], ◌∷◌}
use Rattle.std.proofs.Common.{◌++◌, Bool, true, length, refl, sym, ap, ◌∙◌, arith}
use Rattle.std.proofs.Common.{if◌then◌else◌}
use Rattle.pawn_cells.specs.Cells.{add, bits_of}
use Rattle.pawn_cells.proofs.CellLaws.{wrap_cell}
use Rattle.pawn_meaning.specs.Program.{Scalar, Global, Own, Element, Char, Step}
use Rattle.pawn_meaning.specs.Program as node
use Rattle.pawn_meaning.specs.Scope.{Scope}
use Rattle.pawn_meaning.specs.Memory.{Place, Cell, Character, read, write}
use Rattle.pawn_meaning.specs.World.{World}
use Rattle.pawn_meaning.specs.Run.{Run, ◌>>=◌, give, look, change}
use Rattle.pawn_meaning.specs.Meaning.{place}
use Rattle.pawn_meaning.proofs.Grows.{after_grows, look_grows}
use Rattle.amx_ops.specs.declared.op.Op.{Op}
use Rattle.amx_ops.specs.declared.op.Op.TheVariants as op
use Rattle.amx_ops.specs.Access.{raise}
use Rattle.amx_ops.specs.Effects.{at_next}
use Rattle.amx_ops.specs.Step.{act}
use Rattle.amx_ops.specs.Written.{cells_of}
use Rattle.amx_ops.specs.Moves.{Config}
use Rattle.gen_sim.specs.View.{View}
use Rattle.gen_sim.specs.Stands.{Stands}
use Rattle.gen_sim.specs.Site.{Site, DoesAt, scene_at}
use Rattle.gen_sim.specs.Items.{Item, item_cells, past, with}
use Rattle.gen_sim.specs.Results.{PlaceAt}
use Rattle.gen_sim.specs.Code.{with_turns}
use Rattle.gen_sim.specs.Contract.{EffectCode, PlaceCode}
use Rattle.gen_sim.specs.Lies.{Lies}
use Rattle.gen_sim.specs.SimpleCode.{alone, taking}
use Rattle.gen_sim.specs.AccessCode.{load_code, store_code, stepped_code, step_code}
use Rattle.gen_sim.specs.DirectCode.{effect_there}
use Rattle.gen_sim.proofs.StepLaws.{given, raise_by}
use Rattle.gen_sim.proofs.ItemSteps.{item_sets, one_item, next_lies}
use Rattle.gen_sim.proofs.NodesPartLaws.{gives_of, then_items}
use Rattle.gen_sim.proofs.KindLaws.{OfKind, IsCellPlace}
use Rattle.gen_sim.proofs.AccessLaws.{Loaded, Stored, loads_at, place_stores}
use Rattle.gen_sim.proofs.AccessNodes.{placed_does}
use Rattle.gen_sim.proofs.StepNodes.{leaving, leaving_grows}

-- the new value is stored, and it or the old one given
abbrev pub after_step : ℤ → Bool → Place → ℤ → Run ℤ
after_step delta prefix at y = leaving at (add y delta) (if prefix then add y delta else y)

module _ (x : Site) {v : View} {pending : List ℤ} (delta : ℤ) (prefix : Bool) where
  -- INC.I, DEC.I
  raises_there : (at : Place) → IsCellPlace at → (o : Op) (q : ℕ) (u : World) (t : Config)
      → PlaceAt x.program x.room v pending q at u t
      → ((k : ℕ) → act x.amx o (pos 0) k t.state
      ≡ raise t.state (bits_of t.state.pri) delta (at_next k))
      → Lies x q (alone o ∷ [])
      → DoesAt x (length (item_cells (alone o ∷ []))) u t ((look (read at) >>= after_step delta
      prefix at) u)
      (λ y. Stands x.program x.room v pending (past q (alone o ∷ [])))
  raises_there (Cell name i) kind o q u t a acts l =
      let it = with o (pos 0) in
      let k : ℕ = q + 4 * length (cells_of it) in
      one_item x it [] u
      (raise_by x {d = 0} a.stands a.address.1 it delta l.lie.0
      (acts k ∙ ap (λ z. raise t.state (bits_of z) delta (at_next k)) a.address.2)
      (λ y n. give (if prefix then add y delta else y)) (λ y n j b. given x b b))
  raises_there (Character name i k) h o q u t a acts l = elim h [ ]

  -- the new value is stored, whichever is given
  stores_there : (s : Scalar) (at : Place) → OfKind s at → (q : ℕ) (u : World) (t : Config)
      → PlaceAt x.program x.room v pending q at u t
      → Lies x q (alone op.MoveAlt ∷ (load_code s ++ stepped_code s delta true))
      → DoesAt x (length (item_cells
      (alone op.MoveAlt ∷ (load_code s ++ stepped_code s delta true)))) u t
      ((look (read at) >>= after_step delta prefix at) u)
      (λ y. Stands x.program x.room v pending
      (past q (alone op.MoveAlt ∷ (load_code s ++ stepped_code s delta true))))
  stores_there s at kind q u t a l =
      let address : ℤ = t.state.pri in
      let last = stepped_code s delta true in
      let l1 = next_lies x q (alone op.MoveAlt) (load_code s ++ last) l in
      item_sets x (with op.MoveAlt (pos 0)) a.stands l address address refl
      (λ n b e f. then_items x (q + 4) (load_code s) last
      (Loaded x v pending (past (q + 4) (load_code s)) n.state.alt)
      (λ k y. Stands x.program x.room v pending k) u l1 (look (read at) u) (after_step delta prefix
      at)
      (λ y m. (leaving_grows at (add y delta) (if prefix then add y delta else y)).at m)
      (λ j. loads_at x s at kind address a.address (q + 4) u n b e j)
      (λ j y m i k. item_sets x (with op.AddC delta) k.0.stands j (add i.state.pri delta)
      i.state.alt refl
      (λ r g h z. gives_of x (length (item_cells (store_code s))) m
      (change (write at (add y delta)) m) (λ d. if prefix then add y delta else y)
      (Stored x v pending (past (past (q + 4) (load_code s) + 8) (store_code s)) (add y delta))
      (λ d o c w. w.stands)
      (place_stores x s at kind address (add y delta) a.address (wrap_cell _)
      (past (q + 4) (load_code s) + 8) m r g (z ∙ k.1 ∙ f)
      (h ∙ ap (λ o. add o delta) k.0.value)
      (next_lies x (past (q + 4) (load_code s)) (taking op.AddC delta) (store_code s) j)))))

module _ (scope : Scope) (begin : ℕ) (p : Scalar) (delta : ℤ) (prefix : Bool)
    (items : List Item) (part : PlaceCode scope p begin items) where
  -- a place's address, and what steps it there
  effect_with : (last : List Item)
      → ((x : Site) (v : View) (pending : List ℤ) (at : Place) → OfKind p at → (q : ℕ) (u : World)
      (t : Config) → PlaceAt x.program x.room v pending q at u t → Lies x q last
      → DoesAt x (length (item_cells last)) u t ((look (read at) >>= after_step delta prefix at) u)
      (λ y. Stands x.program x.room v pending (past q last)))
      → EffectCode scope (Step p delta prefix) begin (items ++ last)
  effect_with last steps = record {
    does = λ x site same turns calls v fits lie starts pending deep w c s.
        then_items x begin items last
        (λ at u t. PlaceAt x.program x.room v pending (past begin items) at u t × OfKind p at)
        (λ q y. Stands x.program x.room v pending q) w (record { lie = lie; starts = starts })
        (place (scene_at x) (with_turns x turns) p w)
        (λ at. look (read at) >>= after_step delta prefix at)
        (λ at u. (after_grows (look_grows (read at))
        (λ y. leaving_grows at (add y delta) (if prefix then add y delta else y))).at u)
        (λ l. placed_does x scope p (length (item_cells items)) (past begin items) turns w
        (part.does x site same turns calls v fits l.lie l.starts pending
        (omega (arith, deep)) w c s))
        (λ l at u t a. steps x v pending at a.1 (past begin items) u t a.0 l);
  }

  pub effect_stored : EffectCode scope (Step p delta prefix) begin (step_code p delta true items)
  effect_stored =
      effect_with (alone op.MoveAlt ∷ (load_code p ++ stepped_code p delta true))
      (λ x v pending at kind q u t a l. stores_there x delta prefix p at kind q u t a l)

-- by the form of the place and the sign of the step
pub effect_there_does : (scope : Scope) (begin : ℕ) (p : Scalar) (delta : ℤ) (prefix : Bool)
    (items : List Item) → (delta ≡ pos 1) ⊎ (delta ≡ negsuc 0) → PlaceCode scope p begin items
    → EffectCode scope (Step p delta prefix) begin (effect_there p delta items)
effect_there_does scope begin (Char a e) delta prefix items valid part =
    effect_stored scope begin (Char a e) delta prefix items part
effect_there_does scope begin (Global o) (pos n) prefix items (inl d) part =
    effect_with scope begin (Global o) (pos n) prefix items part (alone op.IncI ∷ [])
    (λ x v pending at kind q u t a l. raises_there x (pos n) prefix at kind op.IncI q u t a
    (λ k. ap (λ z. raise t.state (bits_of t.state.pri) z (at_next k)) (sym d)) l)
effect_there_does scope begin (Global o) (pos n) prefix items (inr d) part = cc
effect_there_does scope begin (Global o) (negsuc n) prefix items (inl d) part = cc
effect_there_does scope begin (Global o) (negsuc n) prefix items (inr d) part =
    effect_with scope begin (Global o) (negsuc n) prefix items part (alone op.DecI ∷ [])
    (λ x v pending at kind q u t a l. raises_there x (negsuc n) prefix at kind op.DecI q u t a
    (λ k. ap (λ z. raise t.state (bits_of t.state.pri) z (at_next k)) (sym d)) l)
effect_there_does scope begin (Own s) (pos n) prefix items (inl d) part =
    effect_with scope begin (Own s) (pos n) prefix items part (alone op.IncI ∷ [])
    (λ x v pending at kind q u t a l. raises_there x (pos n) prefix at kind op.IncI q u t a
    (λ k. ap (λ z. raise t.state (bits_of t.state.pri) z (at_next k)) (sym d)) l)
effect_there_does scope begin (Own s) (pos n) prefix items (inr d) part = cc
effect_there_does scope begin (Own s) (negsuc n) prefix items (inl d) part = cc
effect_there_does scope begin (Own s) (negsuc n) prefix items (inr d) part =
    effect_with scope begin (Own s) (negsuc n) prefix items part (alone op.DecI ∷ [])
    (λ x v pending at kind q u t a l. raises_there x (negsuc n) prefix at kind op.DecI q u t a
    (λ k. ap (λ z. raise t.state (bits_of t.state.pri) z (at_next k)) (sym d)) l)
effect_there_does scope begin (node.Through s) (pos n) prefix items (inl d) part =
    effect_with scope begin (node.Through s) (pos n) prefix items part (alone op.IncI ∷ [])
    (λ x v pending at kind q u t a l. raises_there x (pos n) prefix at kind op.IncI q u t a
    (λ k. ap (λ z. raise t.state (bits_of t.state.pri) z (at_next k)) (sym d)) l)
effect_there_does scope begin (node.Through s) (pos n) prefix items (inr d) part = cc
effect_there_does scope begin (node.Through s) (negsuc n) prefix items (inl d) part = cc
effect_there_does scope begin (node.Through s) (negsuc n) prefix items (inr d) part =
    effect_with scope begin (node.Through s) (negsuc n) prefix items part (alone op.DecI ∷ [])
    (λ x v pending at kind q u t a l. raises_there x (negsuc n) prefix at kind op.DecI q u t a
    (λ k. ap (λ z. raise t.state (bits_of t.state.pri) z (at_next k)) (sym d)) l)
effect_there_does scope begin (Element b e) (pos n) prefix items (inl d) part =
    effect_with scope begin (Element b e) (pos n) prefix items part (alone op.IncI ∷ [])
    (λ x v pending at kind q u t a l. raises_there x (pos n) prefix at kind op.IncI q u t a
    (λ k. ap (λ z. raise t.state (bits_of t.state.pri) z (at_next k)) (sym d)) l)
effect_there_does scope begin (Element b e) (pos n) prefix items (inr d) part = cc
effect_there_does scope begin (Element b e) (negsuc n) prefix items (inl d) part = cc
effect_there_does scope begin (Element b e) (negsuc n) prefix items (inr d) part =
    effect_with scope begin (Element b e) (negsuc n) prefix items part (alone op.DecI ∷ [])
    (λ x v pending at kind q u t a l. raises_there x (negsuc n) prefix at kind op.DecI q u t a
    (λ k. ap (λ z. raise t.state (bits_of t.state.pri) z (at_next k)) (sym d)) l)
