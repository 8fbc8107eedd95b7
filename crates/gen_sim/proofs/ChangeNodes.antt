-- Assignments and updates whose value is quiet, and updates whose operand waited.
use Rattle.std.proofs.Common.{◌≡◌, ◌+◌, ◌≤◌, ℕ, ℤ, pos, List, ◌∷◌, ◌++◌, Bool, true, false}
use Rattle.std.proofs.Common.{Option, None, Some}
use Rattle.std.proofs.Common.{length, sum, refl, sym, ap, subst, ◌∙◌, arith}
use Rattle.pawn_cells.specs.declared.operator.Operator.{Operator}
use Rattle.pawn_cells.specs.Cells.{IsCell}
use Rattle.pawn_cells.specs.Operators.{binary}
use Rattle.host_script.specs.declared.event.End.TheVariants as end
use Rattle.pawn_meaning.specs.Program.{Scalar, Expr, Assign, Update}
use Rattle.pawn_meaning.specs.Scope.{Scope}
use Rattle.pawn_meaning.specs.Memory.{Place, read}
use Rattle.pawn_meaning.specs.World.{World}
use Rattle.pawn_meaning.specs.Run.{Run, ◌>>=◌, then_do, or_stop, look}
use Rattle.pawn_meaning.specs.Later.{Grows}
use Rattle.pawn_meaning.specs.Meaning.{place, value}
use Rattle.pawn_meaning.specs.Need.{load}
use Rattle.pawn_meaning.proofs.Grows.{after_grows, or_stop_grows, look_grows}
use Rattle.amx_ops.specs.declared.op.Op.TheVariants as op
use Rattle.amx_ops.specs.State.{push}
use Rattle.amx_ops.specs.Effects.{at_next}
use Rattle.amx_ops.specs.Moves.{Config}
use Rattle.gen_sim.specs.View.{View, kept, used}
use Rattle.gen_sim.specs.Stands.{Stands, With}
use Rattle.gen_sim.specs.Site.{Site, DoesAt, scene_at}
use Rattle.gen_sim.specs.Items.{Item, item_cells, past, with}
use Rattle.gen_sim.specs.Fits.{Fits}
use Rattle.gen_sim.specs.Results.{IsAddress, PlaceAt}
use Rattle.gen_sim.specs.Code.{with_turns}
use Rattle.gen_sim.specs.Contract.{ValueCode, PlaceCode}
use Rattle.gen_sim.specs.Lies.{Lies}
use Rattle.gen_sim.specs.SimpleCode.{alone, const_code}
use Rattle.gen_sim.specs.AccessCode.{load_code, store_code}
use Rattle.gen_sim.specs.DirectCode.{Direct, direct_load, direct_store}
use Rattle.gen_sim.specs.OperandCode.{Right, Known, Placed, Waiting, loaded_code, known_code}
use Rattle.pawn_meaning.specs.Fold.{fold}
use Rattle.gen_sim.specs.ChangeCode.{quiet_assign, kept_update, pushed_update, waited_update}
use Rattle.gen_sim.specs.ChangeCode.{assign_there, leaves_alt, known_update}
use Rattle.gen_sim.specs.OperandCode.{placed_code}
use Rattle.gen_sim.specs.ChangeCode.{update_there, update_directly}
use Rattle.gen_sim.proofs.ItemSteps.{next_lies, item_sets, item_pushes, item_pops_alt}
use Rattle.gen_sim.proofs.NodesPartLaws.{nodes_of, then_items}
use Rattle.gen_sim.proofs.KindLaws.{OfKind}
use Rattle.gen_sim.proofs.OperandLaws.{loaded_does}
use Rattle.gen_sim.proofs.OperandNodes.{runs_on, ReadsDirect, Comes}
use Rattle.gen_sim.proofs.AccessLaws.{Loaded, loads_at, address_fits}
use Rattle.gen_sim.proofs.AccessNodes.{placed_does, storing, storing_grows, storing_does}
use Rattle.gen_sim.proofs.AccessNodes.{place_with_value, assign_does}
use Rattle.gen_sim.proofs.DirectLaws.{DirectPlace, found_does, direct_loads}
use Rattle.gen_sim.proofs.DirectChanges.{direct_storing, update_direct}
use Rattle.gen_sim.proofs.QuietLaws.{IsStill, QuietCode, ReadyCode, KeptCode}
use Rattle.gen_sim.proofs.QuietLaws.{read_first, known_quiet, known_ready, known_kept, placed_quiet}
use Rattle.gen_sim.proofs.QuietLaws.{placed_ready}

-- ---- behind a place's address, which is in PRI

-- what is made of a value that was read, and stored
abbrev pub changing : Place → (ℤ → Run ℤ) → Run ℤ
changing at make = look (read at) >>= (λ a. make a >>= storing at)

made_grows : (at : Place) (make : ℤ → Run ℤ) → ((a : ℤ) → Grows (make a)) → (a : ℤ)
    → Grows (make a >>= storing at)
made_grows at make grows a = after_grows (grows a) (storing_grows at)

module _ (x : Site) {v : View} {pending : List ℤ} (s : Scalar) (at : Place) (kind : OfKind s at)
    (address : ℤ) (is : IsAddress x.program x.room v at address) (fit : IsCell address) where
  -- MOVE.alt, the value, the store
  quiet_stores : (load : List Item) (run : Run ℤ)
      → ((p : ℕ) (u : World) (t : Config) → Stands x.program x.room v pending p u t → Lies x p load
      → DoesAt x (length (item_cells load)) u t (run u)
      (Loaded x v pending (past p load) t.state.alt))
      → (p : ℕ) (u : World) (t : Config) → Stands x.program x.room v pending p u t
      → t.state.pri ≡ address → Lies x p (alone op.MoveAlt ∷ (load ++ store_code s))
      → DoesAt x (length (item_cells (alone op.MoveAlt ∷ (load ++ store_code s)))) u t
      ((run >>= storing at) u)
      (With x.program x.room v pending (past p (alone op.MoveAlt ∷ (load ++ store_code s))))
  quiet_stores load run loads p u t a pri l =
      item_sets x (with op.MoveAlt (pos 0)) a l t.state.pri t.state.pri refl
      (λ n b e f. then_items x (p + 4) load (store_code s)
      (Loaded x v pending (past (p + 4) load) n.state.alt) (With x.program x.room v pending) u
      (next_lies x p (alone op.MoveAlt) (load ++ store_code s) l) (run u) (storing at)
      (λ y m. (storing_grows at y).at m) (λ j. loads (p + 4) u n b j)
      (λ j y m i k. storing_does x s at kind address is fit y k.0.fits (past (p + 4) load) m i
      k.0.stands (k.1 ∙ f ∙ pri) k.0.value j))

  module _ (change : List Item) (make : ℤ → Run ℤ) (grows : (a : ℤ) → Grows (make a)) where
    -- with the address in ALT
    kept_changes : ((a : ℤ) → IsCell a → (q : ℕ) (n : World) (i : Config)
        → Stands x.program x.room v pending q n i → i.state.pri ≡ a → Lies x q change
        → DoesAt x (length (item_cells change)) n i (make a n)
        (Loaded x v pending (past q change) i.state.alt))
        → (p : ℕ) (u : World) (t : Config) → Stands x.program x.room v pending p u t
        → t.state.pri ≡ address
        → Lies x p (alone op.MoveAlt ∷ (load_code s ++ (change ++ store_code s)))
        → DoesAt x (length (item_cells
        (alone op.MoveAlt ∷ (load_code s ++ (change ++ store_code s))))) u t (changing at make u)
        (With x.program x.room v pending
        (past p (alone op.MoveAlt ∷ (load_code s ++ (change ++ store_code s)))))
    kept_changes makes p u t a pri l =
        let rest = change ++ store_code s in
        item_sets x (with op.MoveAlt (pos 0)) a l t.state.pri t.state.pri refl
        (λ n b e f. then_items x (p + 4) (load_code s) rest
        (Loaded x v pending (past (p + 4) (load_code s)) n.state.alt)
        (With x.program x.room v pending) u
        (next_lies x p (alone op.MoveAlt) (load_code s ++ rest) l) (look (read at) u)
        (λ y. make y >>= storing at) (λ y m. (made_grows at make grows y).at m)
        (λ j. loads_at x s at kind address is (p + 4) u n b (e ∙ pri) j)
        (λ j y m i k.
        let q = past (p + 4) (load_code s) in
        then_items x q change (store_code s) (Loaded x v pending (past q change) i.state.alt)
        (With x.program x.room v pending) m j (make y m) (storing at)
        (λ z o. (storing_grows at z).at o)
        (λ h. makes y k.0.fits q m i k.0.stands k.0.value h)
        (λ h z o r g. storing_does x s at kind address is fit z g.0.fits (past q change) o r
        g.0.stands (g.1 ∙ k.1 ∙ f ∙ pri) g.0.value h)))

    -- with the address on the stack, and in PRI
    popped_changes : (alt : ℤ)
        → ((a : ℤ) → IsCell a → (q : ℕ) (n : World) (i : Config)
        → Stands x.program x.room v (address ∷ pending) q n i → i.state.pri ≡ a
        → i.state.alt ≡ alt → Lies x q change
        → DoesAt x (length (item_cells change)) n i (make a n)
        (With x.program x.room v (address ∷ pending) (past q change)))
        → (p : ℕ) (u : World) (t : Config) → Stands x.program x.room v (address ∷ pending) p u t
        → t.state.pri ≡ address → t.state.alt ≡ alt
        → Lies x p (load_code s ++ (change ++ (alone op.PopAlt ∷ store_code s)))
        → DoesAt x (length (item_cells
        (load_code s ++ (change ++ (alone op.PopAlt ∷ store_code s))))) u t (changing at make u)
        (With x.program x.room v pending
        (past p (load_code s ++ (change ++ (alone op.PopAlt ∷ store_code s)))))
    popped_changes alt makes p u t a pri alt_is l =
        let last = alone op.PopAlt ∷ store_code s in
        let q = past p (load_code s) in
        let r = past q change in
        then_items x p (load_code s) (change ++ last)
        (Loaded x v (address ∷ pending) q t.state.alt) (With x.program x.room v pending) u l
        (look (read at) u) (λ y. make y >>= storing at) (λ y m. (made_grows at make grows y).at m)
        (λ j. loads_at x s at kind address is p u t a pri j)
        (λ j y m i k. then_items x q change last
        (With x.program x.room v (address ∷ pending) r) (With x.program x.room v pending) m j
        (make y m) (storing at) (λ z o. (storing_grows at z).at o)
        (λ h. makes y k.0.fits q m i k.0.stands k.0.value (k.1 ∙ alt_is) h)
        (λ h z o w g. item_pops_alt x g.stands h
        (λ b f e same. storing_does x s at kind address is fit z g.fits (r + 4) o b f e
        (same ∙ g.value) (next_lies x r (alone op.PopAlt) (store_code s) h))))

    pushed_changes : used x.program x.room v pending ≤ kept x.program x.room + sum v.needs + 15
        → ((a : ℤ) → IsCell a → (q : ℕ) (n : World) (i : Config)
        → Stands x.program x.room v (address ∷ pending) q n i → i.state.pri ≡ a → Lies x q change
        → DoesAt x (length (item_cells change)) n i (make a n)
        (With x.program x.room v (address ∷ pending) (past q change)))
        → (p : ℕ) (u : World) (t : Config) → Stands x.program x.room v pending p u t
        → t.state.pri ≡ address
        → Lies x p (alone op.PushPri
        ∷ (load_code s ++ (change ++ (alone op.PopAlt ∷ store_code s))))
        → DoesAt x (length (item_cells (alone op.PushPri
        ∷ (load_code s ++ (change ++ (alone op.PopAlt ∷ store_code s)))))) u t (changing at make u)
        (With x.program x.room v pending (past p (alone op.PushPri
        ∷ (load_code s ++ (change ++ (alone op.PopAlt ∷ store_code s))))))
    pushed_changes deep makes p u t a pri l =
        let rest = load_code s ++ (change ++ (alone op.PopAlt ∷ store_code s)) in
        item_pushes x (with op.PushPri (pos 0)) a l address
        (ap (λ z. push t.state z (at_next (p + 4))) pri) fit deep
        ((after_grows (look_grows (read at)) (made_grows at make grows)).at u)
        (λ n b e f. popped_changes n.state.alt
        (λ y fy q m i k g alt h. makes y fy q m i k g h) (p + 4) u n b (e ∙ pri) refl
        (next_lies x p (alone op.PushPri) rest l))

    -- the operand is in PRI, and the address in ALT
    waited_changes : used x.program x.room v pending ≤ kept x.program x.room + sum v.needs + 15
        → (y : ℤ)
        → ((a : ℤ) → IsCell a → (q : ℕ) (n : World) (i : Config)
        → Stands x.program x.room v (address ∷ pending) q n i → i.state.pri ≡ a
        → i.state.alt ≡ y → Lies x q change
        → DoesAt x (length (item_cells change)) n i (make a n)
        (With x.program x.room v (address ∷ pending) (past q change)))
        → (p : ℕ) (u : World) (t : Config) → Stands x.program x.room v pending p u t
        → t.state.alt ≡ address → t.state.pri ≡ y
        → Lies x p (alone op.PushAlt ∷ alone op.Xchg
        ∷ (load_code s ++ (change ++ (alone op.PopAlt ∷ store_code s))))
        → DoesAt x (length (item_cells (alone op.PushAlt ∷ alone op.Xchg
        ∷ (load_code s ++ (change ++ (alone op.PopAlt ∷ store_code s)))))) u t (changing at make u)
        (With x.program x.room v pending (past p (alone op.PushAlt ∷ alone op.Xchg
        ∷ (load_code s ++ (change ++ (alone op.PopAlt ∷ store_code s))))))
    waited_changes deep y makes p u t a alt pri l =
        let rest = load_code s ++ (change ++ (alone op.PopAlt ∷ store_code s)) in
        let l1 = next_lies x p (alone op.PushAlt) (alone op.Xchg ∷ rest) l in
        item_pushes x (with op.PushAlt (pos 0)) a l address
        (ap (λ z. push t.state z (at_next (p + 4))) alt) fit deep
        ((after_grows (look_grows (read at)) (made_grows at make grows)).at u)
        (λ n b e f. item_sets x (with op.Xchg (pos 0)) b l1 n.state.alt n.state.pri refl
        (λ m c g h. popped_changes y makes (p + 4 + 4) u m c (g ∙ f ∙ alt) (h ∙ e ∙ pri)
        (next_lies x (p + 4) (alone op.Xchg) rest l1)))

-- ---- nodes

-- what an operator makes of a value that was read and of an expression's
abbrev operating : (x : Site) → ℕ → Operator → Expr → ℤ → Run ℤ
operating x turns o e a =
    value (scene_at x) (with_turns x turns) e
    >>= (λ y. or_stop (binary o a y) (end.Error (pos 11)))

operating_grows : (x : Site) (turns : ℕ) (o : Operator) (e : Expr) (a : ℤ)
    → Grows (operating x turns o e a)
operating_grows x turns o e a =
    after_grows ((nodes_of x turns).values e)
    (λ y. or_stop_grows (binary o a y) (end.Error (pos 11)))

-- what follows a place that was read, in another form
then_same : {B : Type 0} (o : Option ℤ) (u : World) (f g : ℤ → Run B) → ((a : ℤ) → f a u ≡ g a u)
    → then_do (or_stop o end.Stray u) f ≡ then_do (or_stop o end.Stray u) g
then_same None u f g e = refl
then_same (Some a) u f g e = e a

-- an update whose operand is quiet, by what is done behind its read
updates_as : (x : Site) {v : View} {pending : List ℤ} (turns : ℕ) (o : Operator) (e : Expr)
    (at : Place)
    {n p : ℕ} {u : World} {t : Config} {Q : ℤ → World → Config → Type 0}
    → Stands x.program x.room v pending p u t
    → IsStill u (value (scene_at x) (with_turns x turns) e u)
    → DoesAt x n u t (changing at (operating x turns o e) u) Q
    → DoesAt x n u t ((value (scene_at x) (with_turns x turns) e >>= (λ y. look (read at)
    >>= (λ a. or_stop (binary o a y) (end.Error (pos 11)) >>= storing at))) u) Q
updates_as x turns o e at {n} {p} {u} {t} {Q} a still d =
    let run = value (scene_at x) (with_turns x turns) e in
    let make = λ (b y : ℤ). or_stop (binary o b y) (end.Error (pos 11)) in
    read_first x a run still at (λ b y. make b y >>= storing at)
    (subst (λ m. DoesAt x n u t m Q)
    (then_same (read at u.memory) u (λ b. operating x turns o e b >>= storing at)
    (λ b. run >>= (λ y. make b y >>= storing at))
    (λ b. sym (runs_on (run u) (make b) (storing at)))) d)

module _ (scope : Scope) (begin : ℕ) (p : Scalar) (e : Expr) (place_items : List Item)
    (one : PlaceCode scope p begin place_items) where
  pub quiet_assign_does : (load : List Item) → QuietCode scope e load
      → ValueCode scope (Assign p e) begin (quiet_assign p place_items load)
  quiet_assign_does load quiet = record {
    does = λ x site same turns calls v fits lie starts pending deep w c s.
        let fewer = with_turns x turns in
        let run = value (scene_at x) fewer e in
        then_items x begin place_items (alone op.MoveAlt ∷ (load ++ store_code p))
        (λ at u t. PlaceAt x.program x.room v pending (past begin place_items) at u t × OfKind p at)
        (λ q. With x.program x.room v pending q) w (record { lie = lie; starts = starts })
        (place (scene_at x) fewer p w) (λ at. run >>= storing at)
        (λ at u. (after_grows ((nodes_of x turns).values e) (storing_grows at)).at u)
        (λ l. placed_does x scope p (length (item_cells place_items)) (past begin place_items) turns
        w
        (one.does x site same turns calls v fits l.lie l.starts pending
        (omega (arith, deep)) w c s))
        (λ l at u t a. quiet_stores x p at a.1 t.state.pri a.0.address
        (address_fits x at (past begin place_items) u t a.0) load run
        (λ q n i k j. quiet.loads x same fewer v fits q n i k j)
        (past begin place_items) u t a.0.stands refl l);
  }

  -- an update whose operand is quiet, by what is done behind the place
  module _ (o : Operator) (load : List Item) (quiet : QuietCode scope e load) where
    update_with : (last : List Item)
        → ((x : Site) → x.program ≡ scope.program → (turns : ℕ) → (v : View)
        → Fits x.program x.room scope v → (pending : List ℤ)
        → used x.program x.room v pending ≤ kept x.program x.room + sum v.needs + 15
        → (at : Place) → OfKind p at → (address : ℤ) → IsAddress x.program x.room v at address
        → IsCell address → (q : ℕ) (u : World) (t : Config)
        → Stands x.program x.room v pending q u t → t.state.pri ≡ address → Lies x q last
        → DoesAt x (length (item_cells last)) u t (changing at (operating x turns o e) u)
        (With x.program x.room v pending (past q last)))
        → ValueCode scope (Update p o e) begin (place_items ++ last)
    update_with last tail = record {
      does = λ x site same turns calls v fits lie starts pending deep w c s.
          let fewer = with_turns x turns in
          let run = value (scene_at x) fewer e in
          let make = λ (a y : ℤ). or_stop (binary o a y) (end.Error (pos 11)) in
          then_items x begin place_items last
          (λ at u t. PlaceAt x.program x.room v pending (past begin place_items) at u t
          × OfKind p at)
          (λ q. With x.program x.room v pending q) w (record { lie = lie; starts = starts })
          (place (scene_at x) fewer p w)
          (λ at. run >>= (λ y. look (read at) >>= (λ a. make a y >>= storing at)))
          (λ at u. (after_grows ((nodes_of x turns).values e)
          (λ y. after_grows (look_grows (read at))
          (λ a. after_grows (or_stop_grows (binary o a y) (end.Error (pos 11)))
          (storing_grows at)))).at u)
          (λ l. placed_does x scope p (length (item_cells place_items)) (past begin place_items)
          turns w (one.does x site same turns calls v fits l.lie l.starts pending
          (omega (arith, deep)) w c s))
          (λ l at u t a. updates_as x turns o e at a.0.stands
          (quiet.still x same fewer v fits a.0.stands)
          (tail x same turns v fits pending (omega (arith, deep)) at a.1 t.state.pri a.0.address
          (address_fits x at (past begin place_items) u t a.0) (past begin place_items) u t
          a.0.stands refl l));
    }

    pub kept_update_does : (change : List Item) → KeptCode scope o e change
        → ValueCode scope (Update p o e) begin (kept_update p place_items change)
    kept_update_does change part =
        update_with (alone op.MoveAlt ∷ (load_code p ++ (change ++ store_code p)))
        (λ x same turns v fits pending deep at kind address is fit q u t a pri l.
        kept_changes x p at kind address is fit change (operating x turns o e)
        (operating_grows x turns o e)
        (λ b fb r n i k g h. part.makes x same (with_turns x turns) v fits b fb r n i k g h)
        q u t a pri l)

    pub pushed_update_does : (change : List Item) → ReadyCode scope o e change
        → ValueCode scope (Update p o e) begin (pushed_update p place_items change)
    pushed_update_does change part =
        update_with (alone op.PushPri ∷ (load_code p ++ (change ++ (alone op.PopAlt ∷ store_code
        p))))
        (λ x same turns v fits pending deep at kind address is fit q u t a pri l.
        pushed_changes x p at kind address is fit change (operating x turns o e)
        (operating_grows x turns o e) deep
        (λ b fb r n i k g h. part.makes x same (with_turns x turns) v fits b fb r n i k g h)
        q u t a pri l)

  -- an operand that waited for nothing, while the address waited
  pub waited_update_does : (o : Operator) (items : List Item)
      → ValueCode scope e (past begin place_items + 4) items
      → ValueCode scope (Update p o e) begin (waited_update p place_items items (loaded_code o))
  waited_update_does o items two = record {
    does = λ x site same turns calls v fits lie starts pending deep w c s.
        let make = λ (a y : ℤ). or_stop (binary o a y) (end.Error (pos 11)) in
        place_with_value scope begin p e place_items items
        (alone op.PushAlt ∷ alone op.Xchg
        ∷ (load_code p ++ (loaded_code o ++ (alone op.PopAlt ∷ store_code p)))) one two x site same
        turns calls fits pending (omega (arith, deep)) (omega (arith, deep)) w c
        (record { lie = lie; starts = starts }) s
        (λ at y. look (read at) >>= (λ a. make a y >>= storing at))
        (λ at y. after_grows (look_grows (read at))
        (λ a. after_grows (or_stop_grows (binary o a y) (end.Error (pos 11))) (storing_grows at)))
        (λ l at y from a fa fy u t b alt pri.
        waited_changes x p at a.1 from a.0 fa (loaded_code o) (λ i. make i y)
        (λ i. or_stop_grows (binary o i y) (end.Error (pos 11))) (omega (arith, deep)) y
        (λ i fi q n j k g h m. loaded_does x i y o fi fy q j k g h m) _ u t b alt pri l);
  }

-- ---- by the place's own instructions

module _ (scope : Scope) (begin : ℕ) (p : Scalar) (d : Direct) (part : DirectPlace scope p d)
    (e : Expr) (load : List Item) (quiet : QuietCode scope e load) where
  pub ready_update_does : (o : Operator) (change : List Item) → ReadyCode scope o e change
      → ValueCode scope (Update p o e) begin (direct_load d ++ (change ++ direct_store d))
  ready_update_does o change ready = record {
    does = λ x site same turns calls v fits lie starts pending deep w c s.
        let fewer = with_turns x turns in
        let run = value (scene_at x) fewer e in
        let make = λ (a y : ℤ). or_stop (binary o a y) (end.Error (pos 11)) in
        let q = past begin (direct_load d) in
        let after = λ (at : Place) (a : ℤ). operating x turns o e a >>= storing at in
        found_does x d s (place (scene_at x) fewer p w) (part.finds x same fewer v fits s)
        (λ at. run >>= (λ y. look (read at) >>= (λ a. make a y >>= storing at)))
        (λ at r. updates_as x turns o e at s (quiet.still x same fewer v fits s)
        (then_items x begin (direct_load d) (change ++ direct_store d)
        (Loaded x v pending q c.state.alt) (λ n. With x.program x.room v pending n) w
        (record { lie = lie; starts = starts }) (look (read at) w) (after at)
        (λ a u. (after_grows (operating_grows x turns o e a) (storing_grows at)).at u)
        (λ l. direct_loads x d at r begin w c s l)
        (λ l a u t k. then_items x q change (direct_store d)
        (With x.program x.room v pending (past q change)) (λ n. With x.program x.room v pending n) u
        l
        (operating x turns o e a u) (storing at) (λ z n. (storing_grows at z).at n)
        (λ j. ready.makes x same fewer v fits a k.0.fits q u t k.0.stands k.0.value j)
        (λ j z n i h. direct_storing x d at r z h.fits (past q change) n i h.stands h.value j))));
  }

-- ---- by how the value comes

-- a direct place that an expression reads is quiet
quiet_placed : (scope : Scope) (e : Expr) (d : Direct) (h : ReadsDirect scope e d)
    → QuietCode scope e (direct_load d)
quiet_placed scope e d h =
    subst (λ x. QuietCode scope x (direct_load d)) (sym h.is) (placed_quiet scope h.place d
    h.direct)

ready_placed : (scope : Scope) (e : Expr) (d : Direct) (h : ReadsDirect scope e d) (o : Operator)
    → ReadyCode scope o e (placed_code o d)
ready_placed scope e d h o =
    subst (λ x. ReadyCode scope o x (placed_code o d)) (sym h.is)
    (placed_ready scope h.place d h.direct o)

module _ (scope : Scope) (begin : ℕ) (p : Scalar) (e : Expr) (place_items items : List Item)
    (one : PlaceCode scope p begin place_items)
    (two : ValueCode scope e (past begin place_items + 4) items) where
  pub assign_there_does : (how : Right) → Comes scope e how
      → ValueCode scope (Assign p e) begin (assign_there how p place_items items)
  assign_there_does (Known v) h =
      quiet_assign_does scope begin p e place_items one (const_code v)
      (known_quiet scope e v h.0 h.1)
  assign_there_does (Placed d) h =
      quiet_assign_does scope begin p e place_items one (direct_load d) (quiet_placed scope e d h)
  assign_there_does Waiting h = assign_does scope begin p e place_items items one two

  known_update_does : (o : Operator) (v : ℤ) → fold e ≡ Some v → IsCell v → (b : Bool)
      → leaves_alt o ≡ b
      → ValueCode scope (Update p o e) begin (known_update b p place_items (known_code o v))
  known_update_does o v is fit true b_is =
      kept_update_does scope begin p e place_items one o (const_code v)
      (known_quiet scope e v is fit) (known_code o v) (known_kept scope e v is fit o b_is)
  known_update_does o v is fit false b_is =
      pushed_update_does scope begin p e place_items one o (const_code v)
      (known_quiet scope e v is fit) (known_code o v) (known_ready scope e v is fit o)

  pub update_there_does : (how : Right) → Comes scope e how → (o : Operator)
      → ValueCode scope (Update p o e) begin (update_there how p o place_items items)
  update_there_does (Known v) h o = known_update_does o v h.0 h.1 (leaves_alt o) refl
  update_there_does (Placed d) h o =
      pushed_update_does scope begin p e place_items one o (direct_load d)
      (quiet_placed scope e d h) (placed_code o d) (ready_placed scope e d h o)
  update_there_does Waiting h o = waited_update_does scope begin p e place_items one o items two

module _ (scope : Scope) (begin : ℕ) (p : Scalar) (d : Direct) (part : DirectPlace scope p d)
    (e : Expr) (items : List Item) (two : ValueCode scope e begin items) where
  pub update_directly_does : (how : Right) → Comes scope e how → (o : Operator)
      → ValueCode scope (Update p o e) begin (update_directly d how o items)
  update_directly_does (Known v) h o =
      ready_update_does scope begin p d part e (const_code v) (known_quiet scope e v h.0 h.1) o
      (known_code o v) (known_ready scope e v h.0 h.1 o)
  update_directly_does (Placed k) h o =
      ready_update_does scope begin p d part e (direct_load k) (quiet_placed scope e k h) o
      (placed_code o k) (ready_placed scope e k h o)
  update_directly_does Waiting h o = update_direct scope begin p d o e items part two
