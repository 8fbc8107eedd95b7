-- Operators of the user's own, in expressions, updates and steps.
use Rattle.std.proofs.Common.{◌≡◌, ◌+◌, ◌≤◌, ℕ, ℤ, pos, List, [], ◌∷◌, ◌++◌, Bool, true, false}
use Rattle.std.proofs.Common.{Option, length, sum, refl, ap, subst, ◌∙◌, arith, if◌then◌else◌}
use Rattle.std.specs.Prelude.{IfSome}
use Rattle.pawn_cells.specs.Cells.{IsCell}
use Rattle.pawn_meaning.specs.Program.{Scalar, Expr, UpdateBy, StepBy, Operate, OperateOne}
use Rattle.pawn_meaning.specs.Scope.{Scope}
use Rattle.pawn_meaning.specs.ValidExprs.{IsOperator}
use Rattle.pawn_meaning.specs.Memory.{Place, read, write}
use Rattle.pawn_meaning.specs.World.{World}
use Rattle.pawn_meaning.specs.Run.{Outcome, Gives, Stops, More, Run, ◌>>=◌, then_do, look, change}
use Rattle.pawn_meaning.specs.Meaning.{place, value, call_one, call_two, converted}
use Rattle.pawn_meaning.proofs.Grows.{after_grows, look_grows}
use Rattle.amx_ops.specs.declared.op.Op.TheVariants as op
use Rattle.amx_ops.specs.State.{push}
use Rattle.amx_ops.specs.Effects.{at_next}
use Rattle.amx_ops.specs.Moves.{Config}
use Rattle.gen_sim.specs.View.{View, kept, used}
use Rattle.gen_sim.specs.Stands.{Stands, With}
use Rattle.gen_sim.specs.Site.{Site, DoesAt, scene_at}
use Rattle.gen_sim.specs.Items.{Item, item_cells, past, with}
use Rattle.gen_sim.specs.Results.{IsAddress, PlaceAt}
use Rattle.gen_sim.specs.Code.{with_turns, CallsWithin}
use Rattle.gen_sim.specs.Contract.{ValueCode, PlaceCode}
use Rattle.gen_sim.specs.Lies.{Lies}
use Rattle.gen_sim.specs.SimpleCode.{alone}
use Rattle.gen_sim.specs.AccessCode.{load_code, store_code, changed_code, update_code, turned_code}
use Rattle.gen_sim.specs.AccessCode.{step_by_code}
use Rattle.gen_sim.proofs.ItemSteps.{next_lies, item_sets, item_pushes, item_pops_alt}
use Rattle.gen_sim.proofs.NodesPartLaws.{gives_of, then_items, with_value, value_leaves}
use Rattle.gen_sim.proofs.KindLaws.{OfKind}
use Rattle.gen_sim.proofs.AccessLaws.{Loaded, Stored, place_stores, place_leaves, loads_at}
use Rattle.gen_sim.proofs.AccessNodes.{placed_does, place_with_value, storing, storing_grows}
use Rattle.gen_sim.proofs.AccessNodes.{changed_does}
use Rattle.gen_sim.proofs.StepNodes.{leaving, leaving_grows, stored_does}
use Rattle.gen_sim.specs.CallCode.{one_code, two_code, convert_code, operate_one_code, operate_code}
use Rattle.gen_sim.proofs.OperatorCalls.{one_grows, two_grows, converted_grows, one_does, two_does}
use Rattle.gen_sim.proofs.OperatorCalls.{converted_does}

-- ---- runs in other groups

pub regrouped : {A B C : Type 0} (o : Outcome A) (f : A → Run B) (g : B → Run C)
    → then_do (then_do o f) g ≡ then_do o (λ a. f a >>= g)
regrouped (Gives a w) f g = refl
regrouped (Stops end w) f g = refl
regrouped (More w) f g = refl

pub same_behind : {A B : Type 0} (o : Outcome A) (f g : A → Run B)
    → ((a : A) (w : World) → f a w ≡ g a w) → then_do o f ≡ then_do o g
same_behind (Gives a w) f g h = h a w
same_behind (Stops end w) f g h = refl
same_behind (More w) f g h = refl

-- ---- a value turned into another one where it stands

module _ (scope : Scope) (x : Site) (same : x.program ≡ scope.program) (turns : ℕ)
    (calls : CallsWithin x turns) {v : View} {pending : List ℤ}
    (s : Scalar) (at : Place) (kind : OfKind s at) (address : ℤ)
    (is : IsAddress x.program x.room v at address) (fit : IsCell address)
    (f : ℕ) (takes : IsOperator scope 1 f) where
  turned_does : (prefix : Bool) → used x.program x.room v pending + 3 ≤ kept x.program x.room
      + sum v.needs → (y : ℤ) (p : ℕ) (u : World) (t : Config)
      → With x.program x.room v pending p y u t → t.state.alt ≡ address
      → Lies x p (turned_code s (one_code f) prefix)
      → DoesAt x (length (item_cells (turned_code s (one_code f) prefix))) u t
      ((call_one (scene_at x) (with_turns x turns) f y
      >>= (λ z. leaving at z (if prefix then z else y))) u)
      (With x.program x.room v pending (past p (turned_code s (one_code f) prefix)))
  turned_does true deep y p u t a alt l =
      let rest = alone op.PopAlt ∷ store_code s in
      let later = (after_grows (one_grows x turns f y) (λ z. leaving_grows at z z)).at u in
      item_pushes x (with op.PushAlt (pos 0)) a.stands l address
      (ap (λ z. push t.state z (at_next (p + 4))) alt) fit (omega (arith, deep)) later
      (λ n b e g. then_items x (p + 4) (one_code f) rest
      (With x.program x.room v (address ∷ pending) (past (p + 4) (one_code f)))
      (With x.program x.room v pending) u
      (next_lies x p (alone op.PushAlt) (one_code f ++ rest) l)
      (call_one (scene_at x) (with_turns x turns) f y u) (λ z. leaving at z z)
      (λ z m. (leaving_grows at z z).at m)
      (λ j. one_does scope x same turns calls v (address ∷ pending)
      (omega (arith, deep)) f takes y a.fits (p + 4) u n b (e ∙ a.value) j)
      (λ j z m i h. item_pops_alt x h.stands j
      (λ k c alt2 pri2. gives_of x (length (item_cells (store_code s))) m (change (write at z) m)
      (λ d. z) (Stored x v pending (past (past (p + 4) (one_code f) + 4) (store_code s)) z)
      (λ d m2 i2 q. q)
      (place_stores x s at kind address z is h.fits (past (p + 4) (one_code f) + 4) m k c alt2
      (pri2 ∙ h.value)
      (next_lies x (past (p + 4) (one_code f)) (alone op.PopAlt) (store_code s) j)))))
  turned_does false deep y p u t a alt l =
      let last = store_code s ++ alone op.PopPri ∷ [] in
      let rest = alone op.PopAlt ∷ last in
      let q = p + 4 + 4 in
      let later = (after_grows (one_grows x turns f y) (λ z. leaving_grows at z y)).at u in
      let l1 = next_lies x p (alone op.PushPri) (alone op.PushAlt ∷ (one_code f ++ rest)) l in
      item_pushes x (with op.PushPri (pos 0)) a.stands l y
      (ap (λ z. push t.state z (at_next (p + 4))) a.value) a.fits (omega (arith, deep)) later
      (λ n0 b0 e0 g0. item_pushes x (with op.PushAlt (pos 0)) b0 l1 address
      (ap (λ z. push n0.state z (at_next q)) (g0 ∙ alt)) fit (omega (arith, deep)) later
      (λ n b e g. then_items x q (one_code f) rest
      (With x.program x.room v (address ∷ y ∷ pending) (past q (one_code f)))
      (With x.program x.room v pending) u
      (next_lies x (p + 4) (alone op.PushAlt) (one_code f ++ rest) l1)
      (call_one (scene_at x) (with_turns x turns) f y u) (λ z. leaving at z y)
      (λ z m. (leaving_grows at z y).at m)
      (λ j. one_does scope x same turns calls v (address ∷ y ∷ pending)
      (omega (arith, deep)) f takes y a.fits q u n b (e ∙ e0 ∙ a.value) j)
      (λ j z m i h. item_pops_alt x h.stands j
      (λ k c alt2 pri2. stored_does x s at kind address is z y h.fits
      (past q (one_code f) + 4) m k c alt2 (pri2 ∙ h.value) a.fits
      (next_lies x (past q (one_code f)) (alone op.PopAlt) last j)))))

  pub step_by_tail : (prefix : Bool)
      → used x.program x.room v pending + 3 ≤ kept x.program x.room + sum v.needs
      → (p : ℕ) (u : World) (t : Config)
      → Stands x.program x.room v pending p u t → t.state.pri ≡ address
      → Lies x p (alone op.MoveAlt ∷ (load_code s ++ turned_code s (one_code f) prefix))
      → DoesAt x (length (item_cells
      (alone op.MoveAlt ∷ (load_code s ++ turned_code s (one_code f) prefix)))) u t
      ((look (read at) >>= (λ y. call_one (scene_at x) (with_turns x turns) f y
      >>= (λ z. leaving at z (if prefix then z else y)))) u)
      (With x.program x.room v pending
      (past p (alone op.MoveAlt ∷ (load_code s ++ turned_code s (one_code f) prefix))))
  step_by_tail prefix deep p u t a pri l =
      let l1 =
      next_lies x p (alone op.MoveAlt)
      (load_code s ++ turned_code s (one_code f) prefix) l in
      item_sets x (with op.MoveAlt (pos 0)) a l t.state.pri t.state.pri refl
      (λ n b e g. then_items x (p + 4) (load_code s) (turned_code s (one_code f) prefix)
      (Loaded x v pending (past (p + 4) (load_code s)) n.state.alt)
      (With x.program x.room v pending) u l1
      (look (read at) u) (λ y. call_one (scene_at x) (with_turns x turns) f y
      >>= (λ z. leaving at z (if prefix then z else y)))
      (λ y m. (after_grows (one_grows x turns f y)
      (λ z. leaving_grows at z (if prefix then z else y))).at m)
      (λ j. loads_at x s at kind address is (p + 4) u n b (e ∙ pri) j)
      (λ j y m i k. turned_does prefix deep y (past (p + 4) (load_code s)) m i k.0
      (k.1 ∙ g ∙ pri) j))

-- ---- nodes

module _ (scope : Scope) (begin : ℕ) where
  pub operate_one_does : (f : ℕ) (e : Expr) (items : List Item) → IsOperator scope 1 f
      → ValueCode scope e begin items
      → ValueCode scope (OperateOne f e) begin (operate_one_code f items)
  operate_one_does f e items takes part = record {
    does = λ x site same turns calls v fits lie starts pending deep w c s.
        then_items x begin items (one_code f)
        (λ y u t. With x.program x.room v pending (past begin items) y u t)
        (λ q. With x.program x.room v pending q) w
        (record { lie = lie; starts = starts }) (value (scene_at x) (with_turns x turns) e w)
        (call_one (scene_at x) (with_turns x turns) f)
        (λ y u. (one_grows x turns f y).at u)
        (λ l. part.does x site same turns calls v fits l.lie l.starts pending
        (omega (arith, deep)) w c s)
        (λ l y u t a. one_does scope x same turns calls v pending
        (omega (arith, deep)) f takes y a.fits (past begin items) u t a.stands a.value l);
  }

  pub operate_does : (f : ℕ) (l r : Expr) (swapped : Bool) (left right : List Item)
      → IsOperator scope 2 f → ValueCode scope l begin left
      → ValueCode scope r (past begin left + 4) right
      → ValueCode scope (Operate f l r swapped) begin (operate_code f swapped left right)
  operate_does f l r swapped left right takes one two = record {
    does = λ x site same turns calls v fits lie starts pending deep w c s.
        with_value scope begin r left right (two_code f swapped) two x site same turns calls fits
        pending (omega (arith, deep)) w (record { lie = lie; starts = starts })
        (value (scene_at x) (with_turns x turns) l w)
        (λ y z. call_two (scene_at x) (with_turns x turns) f swapped y z)
        (λ y u t. With x.program x.room v pending (past begin left) y u t) (λ y z. z ≡ y)
        (λ y z. two_grows x turns f swapped y z)
        (λ k. one.does x site same turns calls v fits k.lie k.starts pending
        (omega (arith, deep)) w c s)
        (λ y u t a. value_leaves x a)
        (λ k y z a a_is fa fz u t j alt pri.
        two_does scope x same turns calls v pending (omega (arith, deep)) f takes swapped y z
        (subst (λ n. IsCell n) a_is fa) fz _ u t j (alt ∙ a_is) pri k);
  }

  pub update_by_does : (p : Scalar) (f : ℕ) (swapped : Bool) (e : Expr) (convert : Option ℕ)
      (address items : List Item) → IsOperator scope 2 f
      → IfSome convert (IsOperator scope 1) → PlaceCode scope p begin address
      → ValueCode scope e (past begin address + 4) items
      → ValueCode scope (UpdateBy p f swapped e convert) begin
      (update_code p address items (two_code f swapped ++ convert_code convert))
  update_by_does p f swapped e convert address items takes converts one two = record {
    does = λ x site same turns calls v fits lie starts pending deep w c s.
        let fewer = with_turns x turns in
        let code = two_code f swapped ++ convert_code convert in
        let two_of : ℤ → ℤ → Run ℤ = call_two (scene_at x) fewer f swapped in
        let turn_of : ℤ → Run ℤ = converted (scene_at x) fewer convert in
        let make : ℤ → ℤ → Run ℤ = λ a y. two_of a y >>= turn_of in
        let makes =
        λ (a y : ℤ). after_grows (two_grows x turns f swapped a y)
        (λ z. converted_grows x turns convert z) in
        place_with_value scope begin p e address items (changed_code p code) one two x site same turns
        calls fits pending (omega (arith, deep)) (omega (arith, deep)) w c
        (record { lie = lie; starts = starts }) s
        (λ at y. look (read at) >>= (λ a. two_of a y >>= (λ b. turn_of b >>= storing at)))
        (λ at y. after_grows (look_grows (read at))
        (λ a. after_grows (two_grows x turns f swapped a y)
        (λ b. after_grows (converted_grows x turns convert b) (storing_grows at))))
        (λ l at y from a fa fy u t b alt pri.
        let q = past (past begin address + 4) items + 4 in
        subst (λ o. DoesAt x (length (item_cells (changed_code p code))) u t o
        (With x.program x.room v pending (past q (changed_code p code))))
        (same_behind (look (read at) u) (λ i. make i y >>= storing at)
        (λ i. two_of i y >>= (λ j. turn_of j >>= storing at))
        (λ i n. regrouped (two_of i y n) turn_of (storing at)))
        (changed_does x p at a.1 from a.0 fa code make makes y fy
        (λ i fi q2 j n h k alt2 pri2. then_items x q2 (two_code f swapped) (convert_code convert)
        (With x.program x.room v (from ∷ pending) (past q2 (two_code f swapped)))
        (With x.program x.room v (from ∷ pending)) n j (two_of i y n) turn_of
        (λ r m. (converted_grows x turns convert r).at m)
        (λ g. two_does scope x same turns calls v (from ∷ pending)
        (omega (arith, deep)) f takes swapped i y fi fy q2 n h k alt2 pri2 g)
        (λ g r m o i2. converted_does scope x same turns calls v (from ∷ pending)
        (omega (arith, deep)) convert converts r (past q2 (two_code f swapped)) m o i2 g))
        (omega (arith, deep)) q u t b alt pri l));
  }

  pub step_by_does : (p : Scalar) (f : ℕ) (prefix : Bool) (items : List Item) → IsOperator scope 1 f
      → PlaceCode scope p begin items
      → ValueCode scope (StepBy p f prefix) begin (step_by_code p prefix items (one_code f))
  step_by_does p f prefix items takes part = record {
    does = λ x site same turns calls v fits lie starts pending deep w c s.
        let fewer = with_turns x turns in
        let tail = alone op.MoveAlt ∷ (load_code p ++ turned_code p (one_code f) prefix) in
        then_items x begin items tail (λ at u t. PlaceAt x.program x.room v pending
        (past begin items) at u t × OfKind p at)
        (λ q. With x.program x.room v pending q) w (record { lie = lie; starts = starts })
        (place (scene_at x) fewer p w)
        (λ at. look (read at) >>= (λ y. call_one (scene_at x) fewer f y
        >>= (λ z. leaving at z (if prefix then z else y))))
        (λ at u. (after_grows (look_grows (read at))
        (λ y. after_grows (one_grows x turns f y)
        (λ z. leaving_grows at z (if prefix then z else y)))).at u)
        (λ l. placed_does x scope p (length (item_cells items)) (past begin items) turns w
        (part.does x site same turns calls v fits l.lie l.starts pending
        (omega (arith, deep)) w c s))
        (λ l at u t a. let k = place_leaves x p at (past begin items) u t a.0 a.1 in
        step_by_tail scope x same turns calls p at a.1 t.state.pri a.0.address k.fits f takes prefix
        (omega (arith, deep)) (past begin items) u t a.0.stands refl l);
  }
