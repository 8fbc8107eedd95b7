-- Reads, assignments and updates: each does what it means, where the codes of its place and of its
-- value do.
use Rattle.std.proofs.Common.{◌≡◌, ◌+◌, ◌≤◌, ℕ, ℤ, pos, List, ◌∷◌, ◌++◌, length, sum, refl, sym, ap}
use Rattle.std.proofs.Common.{subst, ◌∙◌, arith}
use Rattle.pawn_cells.specs.declared.operator.Operator.{Operator}
use Rattle.pawn_cells.specs.Cells.{IsCell}
use Rattle.pawn_cells.specs.Operators.{binary}
use Rattle.host_script.specs.declared.event.End.TheVariants as end
use Rattle.pawn_meaning.specs.Program.{Scalar, Expr, Assign, Update}
use Rattle.pawn_meaning.specs.Scope.{Scope}
use Rattle.pawn_meaning.specs.Memory.{Place, read, write}
use Rattle.pawn_meaning.specs.World.{World}
use Rattle.pawn_meaning.specs.Run.{Run, ◌>>=◌, give, or_stop, look, change}
use Rattle.pawn_meaning.specs.Later.{Grows}
use Rattle.pawn_meaning.specs.Meaning.{place, value}
use Rattle.pawn_meaning.specs.Need.{load, place_load}
use Rattle.pawn_meaning.proofs.Grows.{after_grows, give_grows, or_stop_grows, look_grows}
use Rattle.pawn_meaning.proofs.Grows.{change_grows}
use Rattle.amx_ops.specs.declared.op.Op.TheVariants as op
use Rattle.amx_ops.specs.State.{push}
use Rattle.amx_ops.specs.Effects.{at_next}
use Rattle.amx_ops.specs.Moves.{Config}
use Rattle.gen_sim.specs.View.{View, kept, used}
use Rattle.gen_sim.specs.Stands.{Stands, With}
use Rattle.gen_sim.specs.Site.{Site, IsSite, DoesAt, scene_at}
use Rattle.gen_sim.specs.Items.{Item, item_cells, past, with}
use Rattle.gen_sim.specs.Results.{IsAddress, PlaceAt}
use Rattle.gen_sim.specs.Code.{CallsWithin, with_turns}
use Rattle.gen_sim.specs.Fits.{Fits}
use Rattle.gen_sim.specs.Contract.{ValueCode, PlaceCode}
use Rattle.gen_sim.specs.Lies.{Lies}
use Rattle.gen_sim.specs.SimpleCode.{alone, both_code, operator_code}
use Rattle.gen_sim.specs.AccessCode.{load_code, store_code, assign_code, changed_code}
use Rattle.gen_sim.specs.AccessCode.{update_code}
use Rattle.gen_sim.proofs.ItemSteps.{next_lies, item_sets, item_pushes, item_pops_alt}
use Rattle.gen_sim.proofs.NodesPartLaws.{gives_of, then_items, second_at, last_at, with_value}
use Rattle.gen_sim.proofs.OperatorLaws.{operator_does}
use Rattle.gen_sim.proofs.KindLaws.{OfKind, place_kind, known_does}
use Rattle.gen_sim.proofs.AccessLaws.{AddressOf, Loaded, Stored, place_loads, place_stores}
use Rattle.gen_sim.proofs.AccessLaws.{place_leaves}

-- a place, with what is known of its kind
pub placed_does : (x : Site) (scope : Scope) (s : Scalar) {v : View} {pending : List ℤ}
    (n p turns : ℕ) (w : World) {c : Config}
    → DoesAt x n w c (place (scene_at x) (with_turns x turns) s w)
    (PlaceAt x.program x.room v pending p)
    → DoesAt x n w c (place (scene_at x) (with_turns x turns) s w)
    (λ at u t. PlaceAt x.program x.room v pending p at u t × OfKind s at)
placed_does x scope s {v} {pending} n p turns w d =
    known_does x n w (place (scene_at x) (with_turns x turns) s w)
    (PlaceAt x.program x.room v pending p) (OfKind s)
    (place_kind (scene_at x) (with_turns x turns) s w) d

-- ---- a value changed where it stands

-- stored, and given
abbrev pub storing : Place → ℤ → Run ℤ
storing at z = change (write at z) >>= (λ _. give z)

pub storing_grows : (at : Place) (z : ℤ) → Grows (storing at z)
storing_grows at z = after_grows (change_grows (write at z)) (λ _. give_grows z)

-- some items make of what is in ALT and PRI what a run makes, while another cell waits
abbrev pub Makes : Site → View → List ℤ → List Item → (ℤ → ℤ → Run ℤ) → ℤ → ℤ → Type 0
Makes x v pending items make address y =
    (a : ℤ) → IsCell a → (q : ℕ) → Lies x q items → (n : World) (i : Config)
    → Stands x.program x.room v (address ∷ pending) q n i → i.state.alt ≡ a → i.state.pri ≡ y
    → DoesAt x (length (item_cells items)) n i (make a y n)
    (With x.program x.room v (address ∷ pending) (past q items))

module _ (x : Site) {v : View} {pending : List ℤ} (s : Scalar) (at : Place) (kind : OfKind s at)
    (address : ℤ) (is : IsAddress x.program x.room v at address)
    (fit : IsCell address) where
  pub storing_does : (z : ℤ) → IsCell z → (p : ℕ) (u : World) (t : Config)
      → Stands x.program x.room v pending p u t → t.state.alt ≡ address → t.state.pri ≡ z
      → Lies x p (store_code s) → DoesAt x (length (item_cells (store_code s))) u t (storing at z u)
      (With x.program x.room v pending (past p (store_code s)))
  storing_does z fz p u t a alt pri l =
      gives_of x (length (item_cells (store_code s))) u (change (write at z) u) (λ d. z)
      (Stored x v pending (past p (store_code s)) z) (λ d n i k. k)
      (place_stores x s at kind address z is fz p u t a alt pri l)

  module _ (items : List Item) (make : ℤ → ℤ → Run ℤ) (grows : (a b : ℤ) → Grows (make a b)) (y : ℤ)
      (fy : IsCell y) where
    -- made and stored
    made_does : Makes x v pending items make address y → (a : ℤ) → IsCell a
        → (p : ℕ) (u : World) (t : Config) → Stands x.program x.room v (address ∷ pending) p u t
        → t.state.alt ≡ a → t.state.pri ≡ y
        → Lies x p (items ++ (alone op.PopAlt ∷ store_code s))
        → DoesAt x (length (item_cells (items ++ (alone op.PopAlt ∷ store_code s)))) u t
        ((make a y >>= storing at) u)
        (With x.program x.room v pending (past p (items ++ (alone op.PopAlt ∷ store_code s))))
    made_does makes a fa p u t k alt pri l =
        then_items x p items (alone op.PopAlt ∷ store_code s)
        (With x.program x.room v (address ∷ pending) (past p items))
        (With x.program x.room v pending) u l
        (make a y u) (storing at) (λ z n. (storing_grows at z).at n)
        (λ j. makes a fa p j u t k alt pri)
        (λ j z n i h. item_pops_alt x h.stands j
        (λ b g e f. storing_does z h.fits (past p items + 4) n b g e (f ∙ h.value)
        (next_lies x (past p items) (alone op.PopAlt) (store_code s) j)))

    pub changed_does : Makes x v pending items make address y
        → used x.program x.room v pending ≤ kept x.program x.room + sum v.needs + 15
        → (p : ℕ) (u : World) (t : Config)
        → Stands x.program x.room v pending p u t → t.state.alt ≡ address → t.state.pri ≡ y
        → Lies x p (changed_code s items)
        → DoesAt x (length (item_cells (changed_code s items))) u t
        ((look (read at) >>= (λ a. make a y >>= storing at)) u)
        (With x.program x.room v pending (past p (changed_code s items)))
    changed_does makes deep p u t k alt pri l =
        let rest = alone op.Xchg ∷ (items ++ (alone op.PopAlt ∷ store_code s)) in
        let later = λ (a : ℤ). after_grows (grows a y) (storing_grows at) in
        let l1 = next_lies x p (alone op.PushAlt) (alone op.Xchg ∷ (load_code s ++ rest)) l in
        let l2 = next_lies x (p + 4) (alone op.Xchg) (load_code s ++ rest) l1 in
        item_pushes x (with op.PushAlt (pos 0)) k l address
        (ap (λ z. push t.state z (at_next (p + 4))) alt) fit deep
        ((after_grows (look_grows (read at)) later).at u)
        (λ t1 k1 pri1 alt1. item_sets x (with op.Xchg (pos 0)) k1 l1 t1.state.alt t1.state.pri refl
        (λ t2 k2 pri2 alt2. then_items x (p + 4 + 4) (load_code s) rest
        (Loaded x v (address ∷ pending) (past (p + 4 + 4) (load_code s)) t2.state.alt)
        (With x.program x.room v pending) u l2
        (look (read at) u) (λ a. make a y >>= storing at) (λ a n. (later a).at n)
        (λ j. place_loads x s at kind (p + 4 + 4) u t2
        (record {
          stands = k2;
          address = subst (λ z. IsAddress x.program x.room v at z)
              (sym (pri2 ∙ alt1 ∙ alt)) is;
        }) j)
        (λ j a n t3 h. item_sets x (with op.Xchg (pos 0)) h.0.stands j t3.state.alt
        t3.state.pri refl
        (λ t4 k4 pri4 alt4. made_does makes a h.0.fits (past (p + 4 + 4) (load_code s) + 4) n t4 k4
        (alt4 ∙ h.0.value) (pri4 ∙ h.1 ∙ alt2 ∙ pri1 ∙ pri)
        (next_lies x (past (p + 4 + 4) (load_code s)) (alone op.Xchg)
        (items ++ (alone op.PopAlt ∷ store_code s)) j)))))

-- ---- nodes

module _ (scope : Scope) (begin : ℕ) where
  -- a place's address waits while a value is made, and what is done with both
  module _ (p : Scalar) (e : Expr) (address items last : List Item)
      (one : PlaceCode scope p begin address) (two : ValueCode scope e (second_at begin address)
      items)
      (x : Site) (site : IsSite x) (same : x.program ≡ scope.program) (turns : ℕ)
      (calls : CallsWithin x turns) {v : View} (fits : Fits x.program x.room scope v)
      (pending : List ℤ) where
    pub place_with_value : used x.program x.room v pending + place_load p
        ≤ kept x.program x.room + sum v.needs
        → used x.program x.room v pending + (1 + load e) ≤ kept x.program x.room + sum v.needs
        → (w : World) (c : Config) → Lies x begin (both_code address items last)
        → Stands x.program x.room v pending begin w c → (go : Place → ℤ → Run ℤ)
        → ((at : Place) (y : ℤ) → Grows (go at y))
        → (Lies x (last_at begin address items) last → (at : Place) (y from : ℤ)
        → AddressOf x v p at from → IsCell from → IsCell y → (u : World) (t : Config)
        → Stands x.program x.room v pending (last_at begin address items) u t → t.state.alt ≡ from
        → t.state.pri ≡ y
        → DoesAt x (length (item_cells last)) u t (go at y u)
        (With x.program x.room v pending (past (last_at begin address items) last)))
        → DoesAt x (length (item_cells (both_code address items last))) w c
        ((place (scene_at x) (with_turns x turns) p
        >>= (λ at. value (scene_at x) (with_turns x turns) e >>= go at)) w)
        (With x.program x.room v pending (past begin (both_code address items last)))
    place_with_value placed valued w c lies s go grows three =
        with_value scope begin e address items last two x site same turns calls fits pending valued
        w
        lies (place (scene_at x) (with_turns x turns) p w) go
        (λ at u t. PlaceAt x.program x.room v pending (past begin address) at u t × OfKind p at)
        (AddressOf x v p) grows
        (λ l. placed_does x scope p (length (item_cells address)) (past begin address) turns w
        (one.does x site same turns calls v fits l.lie l.starts pending placed w c s))
        (λ at u t a. place_leaves x p at (past begin address) u t a.0 a.1) three

  pub assign_does : (p : Scalar) (e : Expr) (address items : List Item)
      → PlaceCode scope p begin address → ValueCode scope e (past begin address + 4) items
      → ValueCode scope (Assign p e) begin (assign_code p address items)
  assign_does p e address items one two = record {
    does = λ x site same turns calls v fits lie starts pending deep w c s.
        place_with_value p e address items (store_code p) one two x site same turns calls fits
        pending
        (omega (arith, deep)) (omega (arith, deep)) w c (record { lie = lie; starts = starts }) s
        storing storing_grows
        (λ l at y from a fa fy u t b alt pri.
        storing_does x p at a.1 from a.0 fa y fy _ u t b alt pri l);
  }

  pub update_does : (p : Scalar) (o : Operator) (e : Expr) (address items : List Item)
      → PlaceCode scope p begin address
      → ValueCode scope e (past begin address + 4) items
      → ValueCode scope (Update p o e) begin (update_code p address items (operator_code o))
  update_does p o e address items one two = record {
    does = λ x site same turns calls v fits lie starts pending deep w c s.
        let make : ℤ → ℤ → Run ℤ = λ a y. or_stop (binary o a y) (end.Error (pos 11)) in
        place_with_value p e address items (changed_code p (operator_code o)) one two x site same
        turns
        calls fits pending (omega (arith, deep)) (omega (arith, deep)) w c
        (record { lie = lie; starts = starts }) s
        (λ at y. look (read at) >>= (λ a. make a y >>= storing at))
        (λ at y. after_grows (look_grows (read at))
        (λ a. after_grows (or_stop_grows (binary o a y) (end.Error (pos 11))) (storing_grows at)))
        (λ l at y from a fa fy u t b alt pri.
        changed_does x p at a.1 from a.0 fa (operator_code o) make
        (λ i j. or_stop_grows (binary o i j) (end.Error (pos 11))) y fy
        (λ i fi q j n h k alt2 pri2. operator_does x i y o fi fy q h k pri2 alt2 j)
        (omega (arith, deep)) _ u t b alt pri l);
  }
