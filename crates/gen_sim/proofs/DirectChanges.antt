-- Updates and steps of a place that has instructions of its own.
use Rattle.std.proofs.Common.{◌≡◌, ◌+◌, ◌*◌, ℕ, ℤ, pos, neg_ℤ, List, [], ◌∷◌, ◌++◌, Bool, true}
use Rattle.std.proofs.Common.{w32, false, length, refl, ap, ◌∙◌, arith, if◌then◌else◌}
use Rattle.std.proofs.lemmas.Int.{int_wrap-add_left, int_wrap_fits}
use Rattle.std.proofs.Math.IntN.{◌+ℤ◌, +ℤ-neg_ℤ_cancel}
use Rattle.pawn_cells.specs.declared.operator.Operator.{Operator}
use Rattle.pawn_cells.specs.Cells.{IsCell, add, wrap}
use Rattle.pawn_cells.specs.Operators.{binary}
use Rattle.host_script.specs.declared.event.End.TheVariants as end
use Rattle.pawn_meaning.specs.Program.{Scalar, Expr, Update, Step}
use Rattle.pawn_meaning.specs.Scope.{Scope}
use Rattle.pawn_meaning.specs.Memory.{Place, read, write}
use Rattle.pawn_meaning.specs.World.{World}
use Rattle.pawn_meaning.specs.Run.{Run, ◌>>=◌, give, or_stop, look, change}
use Rattle.pawn_meaning.specs.Later.{Grows}
use Rattle.pawn_meaning.specs.Meaning.{place, value}
use Rattle.pawn_meaning.proofs.Grows.{after_grows, or_stop_grows, look_grows, same_later}
use Rattle.amx_ops.specs.declared.op.Op.TheVariants as op
use Rattle.amx_ops.specs.Written.{cells_of}
use Rattle.amx_ops.specs.Moves.{Config}
use Rattle.pawn_cells.proofs.CellLaws.{wrap_cell}
use Rattle.gen_sim.specs.View.{View}
use Rattle.gen_sim.specs.Stands.{Stands, With}
use Rattle.gen_sim.specs.Site.{Site, DoesAt, scene_at}
use Rattle.gen_sim.specs.Items.{Item, item_cells, past, with}
use Rattle.gen_sim.specs.Code.{with_turns}
use Rattle.gen_sim.specs.Contract.{ValueCode}
use Rattle.gen_sim.specs.Lies.{Lies}
use Rattle.gen_sim.specs.SimpleCode.{taking, operator_code}
use Rattle.gen_sim.specs.DirectCode.{Direct, direct_load, direct_store, direct_changed, direct_step}
use Rattle.gen_sim.specs.DirectCode.{stepped_back}
use Rattle.gen_sim.proofs.StepLaws.{given}
use Rattle.gen_sim.proofs.ItemSteps.{next_lies, item_sets}
use Rattle.gen_sim.proofs.NodesPartLaws.{gives_of, then_items}
use Rattle.gen_sim.proofs.OperatorLaws.{operator_does}
use Rattle.gen_sim.proofs.AccessLaws.{Loaded, Stored}
use Rattle.gen_sim.proofs.AccessNodes.{storing, storing_grows}
use Rattle.gen_sim.proofs.StepNodes.{leaving, leaving_grows}
use Rattle.gen_sim.proofs.DirectLaws.{DirectPlace, ReachedAt, found_does, direct_loads, direct_left}
use Rattle.gen_sim.proofs.DirectLaws.{direct_stores}

-- a delta taken back
taken_back : (y delta : ℤ) → IsCell y → add (add y delta) (neg_ℤ delta) ≡ y
taken_back y delta fit =
    int_wrap-add_left w32 (y +ℤ delta) (neg_ℤ delta) ∙ ap wrap (+ℤ-neg_ℤ_cancel y delta)
    ∙ int_wrap_fits w32 y fit

module _ (x : Site) {v : View} {pending : List ℤ} (d : Direct) (at : Place)
    (r : ReachedAt x v d at) where
  -- stored, and given
  pub direct_storing : (z : ℤ) → IsCell z → (p : ℕ) (u : World) (t : Config)
      → Stands x.program x.room v pending p u t → t.state.pri ≡ z → Lies x p (direct_store d)
      → DoesAt x (length (item_cells (direct_store d))) u t (storing at z u)
      (With x.program x.room v pending (past p (direct_store d)))
  direct_storing z fz p u t a pri l =
      gives_of x (length (item_cells (direct_store d))) u (change (write at z) u) (λ n. z)
      (Stored x v pending (past p (direct_store d)) z) (λ n i j k. k)
      (direct_stores x d at r z fz p u t a pri l)

  -- some items make a value of what is there, in ALT, and of PRI
  pub direct_changes : (items : List Item) (make : ℤ → ℤ → Run ℤ)
      → ((a b : ℤ) → Grows (make a b)) → (y : ℤ)
      → ((a : ℤ) → IsCell a → (q : ℕ) → Lies x q items → (n : World) (i : Config)
      → Stands x.program x.room v pending q n i → i.state.alt ≡ a → i.state.pri ≡ y
      → DoesAt x (length (item_cells items)) n i (make a y n)
      (With x.program x.room v pending (past q items)))
      → (p : ℕ) (u : World) (t : Config) → Stands x.program x.room v pending p u t
      → t.state.pri ≡ y → Lies x p (direct_changed d items)
      → DoesAt x (length (item_cells (direct_changed d items))) u t
      ((look (read at) >>= (λ a. make a y >>= storing at)) u)
      (With x.program x.room v pending (past p (direct_changed d items)))
  direct_changes items make grows y makes p u t a pri l =
      let q : ℕ = p + 4 * length (cells_of (with d.loads_alt d.operand)) in
      direct_left x d at r p u t a l (λ b. make b y >>= storing at)
      (λ b n fb k alt same. then_items x q items (direct_store d)
      (With x.program x.room v pending (past q items)) (With x.program x.room v pending) u
      (next_lies x p (taking d.loads_alt d.operand) (items ++ direct_store d) l)
      (make b y u) (storing at) (λ z m. (storing_grows at z).at m)
      (λ j. makes b fb q j u n k alt (same ∙ pri))
      (λ j z m i h. direct_storing z h.fits (past q items) m i h.stands h.value j))

  -- a step's new value in PRI, and what it gives
  stepped : (delta : ℤ) (prefix : Bool) (y : ℤ) → IsCell y → (p : ℕ) (u : World) (t : Config)
      → Stands x.program x.room v pending p u t → t.state.pri ≡ add y delta
      → Lies x p (stepped_back d delta prefix)
      → DoesAt x (length (item_cells (stepped_back d delta prefix))) u t
      (leaving at (add y delta) (if prefix then add y delta else y) u)
      (With x.program x.room v pending (past p (stepped_back d delta prefix)))
  stepped delta true y fy p u t a pri l =
      direct_storing (add y delta) (wrap_cell _) p u t a pri l
  stepped delta false y fy p u t a pri l =
      then_items x p (direct_store d) (taking op.AddC (neg_ℤ delta) ∷ [])
      (Stored x v pending (past p (direct_store d)) (add y delta)) (With x.program x.room v pending)
      u l (change (write at (add y delta)) u) (λ n. give y) (λ n m. same_later m)
      (λ j. direct_stores x d at r (add y delta) (wrap_cell _) p u t a pri j)
      (λ j n m i k. item_sets x (with op.AddC (neg_ℤ delta)) k.stands j
      (add i.state.pri (neg_ℤ delta)) i.state.alt refl
      (λ b g e f. given x g (record {
        stands = g;
        value = e ∙ ap (λ z. add z (neg_ℤ delta)) k.value ∙ taken_back y delta fy;
        fits = fy;
      })))

module _ (scope : Scope) (begin : ℕ) where
  pub update_direct : (p : Scalar) (d : Direct) (o : Operator) (e : Expr) (items : List Item)
      → DirectPlace scope p d → ValueCode scope e begin items
      → ValueCode scope (Update p o e) begin (items ++ direct_changed d (operator_code o))
  update_direct p d o e items part one = record {
    does = λ x site same turns calls v fits lie starts pending deep w c s.
        let fewer = with_turns x turns in
        let make : ℤ → ℤ → Run ℤ = λ a y. or_stop (binary o a y) (end.Error (pos 11)) in
        let makes = λ (a y : ℤ). or_stop_grows (binary o a y) (end.Error (pos 11)) in
        let q = past begin items in
        found_does x d s (place (scene_at x) fewer p w) (part.finds x same fewer v fits s)
        (λ at. value (scene_at x) fewer e >>= (λ y. look (read at)
        >>= (λ a. make a y >>= storing at)))
        (λ at r. then_items x begin items (direct_changed d (operator_code o))
        (With x.program x.room v pending q)
        (λ n. With x.program x.room v pending n) w (record { lie = lie; starts = starts })
        (value (scene_at x) fewer e w) (λ y. look (read at) >>= (λ a. make a y >>= storing at))
        (λ y u. (after_grows (look_grows (read at))
        (λ a. after_grows (makes a y) (storing_grows at))).at u)
        (λ l. one.does x site same turns calls v fits l.lie l.starts pending
        (omega (arith, deep)) w c s)
        (λ l y u t a. direct_changes x d at r (operator_code o) make makes y
        (λ b fb m j n i k alt pri. operator_does x b y o fb a.fits m i k pri alt j)
        q u t a.stands a.value l));
  }

  pub step_direct : (p : Scalar) (d : Direct) (delta : ℤ) (prefix : Bool) → DirectPlace scope p d
      → ValueCode scope (Step p delta prefix) begin (direct_step d delta prefix)
  step_direct p d delta prefix part = record {
    does = λ x site same turns calls v fits lie starts pending deep w c s.
        let fewer = with_turns x turns in
        let q = past begin (direct_load d) in
        let rest = taking op.AddC delta ∷ stepped_back d delta prefix in
        let after = λ (at : Place) (y : ℤ).
        leaving at (add y delta) (if prefix then add y delta else y) in
        found_does x d s (place (scene_at x) fewer p w) (part.finds x same fewer v fits s)
        (λ at. look (read at) >>= after at)
        (λ at r. then_items x begin (direct_load d) rest (Loaded x v pending q c.state.alt)
        (λ n. With x.program x.room v pending n) w (record { lie = lie; starts = starts })
        (look (read at) w) (after at)
        (λ y u. (leaving_grows at (add y delta) (if prefix then add y delta else y)).at u)
        (λ l. direct_loads x d at r begin w c s l)
        (λ l y u t a. item_sets x (with op.AddC delta) a.0.stands l (add t.state.pri delta)
        t.state.alt refl
        (λ n b e f. stepped x d at r delta prefix y a.0.fits (q + 8) u n b
        (e ∙ ap (λ z. add z delta) a.0.value)
        (next_lies x q (taking op.AddC delta) (stepped_back d delta prefix) l))));
  }
