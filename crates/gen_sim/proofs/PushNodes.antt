-- What an expression gives is pushed: by one instruction, or from PRI.
use Rattle.std.proofs.Common.{◌≡◌, ◌+◌, ◌*◌, ◌≤◌, ℕ, ℤ, pos, List, [], ◌∷◌, Option, None, Some}
use Rattle.std.proofs.Common.{length, sum, refl, sym, ap, subst, ◌∙◌, arith}
use Rattle.pawn_cells.specs.Cells.{IsCell}
use Rattle.host_script.specs.declared.event.End.TheVariants as end
use Rattle.pawn_meaning.specs.Program.{Scalar, Expr, Read}
use Rattle.pawn_meaning.specs.Scope.{Scope}
use Rattle.pawn_meaning.specs.Fold.{fold}
use Rattle.pawn_meaning.specs.Memory.{Name, Place, Cell, read, read_cell}
use Rattle.pawn_meaning.specs.World.{World}
use Rattle.pawn_meaning.specs.Run.{Run, then_do, or_stop, give, look}
use Rattle.pawn_meaning.specs.Later.{Later, world_of}
use Rattle.pawn_meaning.specs.Meaning.{place, value}
use Rattle.pawn_meaning.proofs.Grows.{same_later}
use Rattle.pawn_meaning.proofs.FoldLaws.{fold_means_lem}
use Rattle.amx_ops.specs.declared.op.Op.{Op}
use Rattle.amx_ops.specs.declared.op.Op.TheVariants as op
use Rattle.amx_ops.specs.Instructions.{fetched}
use Rattle.amx_ops.specs.Written.{Written, cells_of, read_as}
use Rattle.amx_ops.specs.State.{push}
use Rattle.amx_ops.specs.Access.{load}
use Rattle.amx_ops.specs.Effects.{at_next}
use Rattle.amx_ops.specs.Step.{act}
use Rattle.amx_ops.specs.Moves.{Config}
use Rattle.gen_sim.specs.View.{View, CellAt, kept, used}
use Rattle.gen_sim.specs.Stands.{Stands, With}
use Rattle.gen_sim.specs.Site.{Site, DoesAt, scene_at}
use Rattle.gen_sim.specs.Items.{Item, item_cells, past, with}
use Rattle.gen_sim.specs.Code.{with_turns}
use Rattle.gen_sim.specs.Contract.{ValueCode, PushedCode}
use Rattle.gen_sim.specs.Lies.{Lies}
use Rattle.gen_sim.specs.SimpleCode.{alone, taking}
use Rattle.gen_sim.specs.DirectCode.{Direct}
use Rattle.gen_sim.specs.OperandCode.{Right, Known, Placed, Waiting}
use Rattle.gen_sim.specs.PushCode.{cell_push, right_push, pushed_code, pushed_by}
use Rattle.gen_sim.proofs.WorldLaws.{cell_reads}
use Rattle.gen_sim.proofs.StepLaws.{given, stray, pushes}
use Rattle.gen_sim.proofs.ItemSteps.{one_item, item_pushes}
use Rattle.gen_sim.proofs.NodesPartLaws.{then_nothing, then_items}
use Rattle.gen_sim.proofs.DirectLaws.{DirectPlace, ReachedAt, Pushing, found_does}
use Rattle.gen_sim.proofs.OperandNodes.{Comes}

-- a cell is pushed by an instruction that loads it
module _ (x : Site) {A : Type 0} {d : ℕ} {Q : A → World → Config → Type 0} {v : View}
    {pending : List ℤ} {p : ℕ} {w : World} {c : Config}
    (a : Stands x.program x.room v pending p w c) {name : Name} {i cell : ℕ}
    (at : CellAt x.program x.room v name i cell) where
  push_by : (it : Written) → fetched x.amx.code p ≡ Some (read_as it)
      → act x.amx it.op it.operand (p + 4 * length (cells_of it)) c.state
      ≡ load c.state (4 * cell)
      (λ z. push c.state z (at_next (p + 4 * length (cells_of it))))
      → used x.program x.room v pending ≤ kept x.program x.room + sum v.needs + 15
      → (go : ℤ → Run A) → ((y : ℤ) → Later w (world_of (go y w)))
      → ((y : ℤ) (t : Config)
      → Stands x.program x.room v (y ∷ pending) (p + 4 * length (cells_of it)) w t → IsCell y
      → DoesAt x d w t (go y w) Q)
      → DoesAt x (1 + d) w c (then_do (or_stop (read (Cell name i) w.memory) end.Stray w) go) Q
  push_by it f e deep go later next = by_value (read_cell name i w.memory) refl
    where
      by_value : (o : Option ℤ) → read_cell name i w.memory ≡ o
          → DoesAt x (1 + d) w c (then_do (or_stop o end.Stray w) go) Q
      by_value None o = stray x a
      by_value (Some y) o =
          let r = cell_reads x.program x.room a at y o in
          let q : ℕ = p + 4 * length (cells_of it) in
          let g : load c.state (4 * cell) (λ z. push c.state z (at_next q))
          ≡ push c.state y (at_next q) = rw (r.live, r.value) refl in
          pushes x a it f y (e ∙ g) r.fits deep (later y) (λ t s m n. next y t s r.fits)

-- the machine stands with what an expression gave on the stack
abbrev Pushed : Site → View → List ℤ → ℕ → ℤ → World → Config → Type 0
Pushed x v pending q y w c = Stands x.program x.room v (y ∷ pending) q w c × IsCell y

module _ (x : Site) {v : View} {pending : List ℤ} (d : Direct) where
  cell_pushed : (o : Op) → (at : Place) → (r : ReachedAt x v d at)
      → Pushing x v d.operand r.cell (Some o) → (p : ℕ) (u : World) (t : Config)
      → Stands x.program x.room v pending p u t
      → used x.program x.room v pending ≤ kept x.program x.room + sum v.needs + 15
      → Lies x p (taking o d.operand ∷ [])
      → DoesAt x (length (item_cells (taking o d.operand ∷ []))) u t (look (read at) u)
      (Pushed x v pending (past p (taking o d.operand ∷ [])))
  cell_pushed o at r h p u t a deep l =
      let it = with o d.operand in
      let items = taking o d.operand ∷ [] in
      subst (λ z. DoesAt x (length (item_cells items)) u t (look (read z) u)
      (Pushed x v pending (past p items))) (sym r.is)
      (subst (λ m. DoesAt x (length (item_cells items)) u t m (Pushed x v pending (past p items)))
      (then_nothing (look (read (Cell r.name r.i)) u))
      (one_item x it [] u
      (push_by x {d = 0} a r.placed it l.lie.0
      (h pending p u t a (p + 4 * length (cells_of it))) deep (λ y. give y) (λ y. same_later u)
      (λ y n b f. given x b (b, f)))))

module _ (scope : Scope) (begin : ℕ) where
  -- from PRI
  pub pushed_does : (e : Expr) (items : List Item) → ValueCode scope e begin items
      → PushedCode scope e begin (pushed_code items)
  pushed_does e items part = record {
    does = λ x site same turns calls v fits lie starts pending deep w c s.
        subst (λ o. DoesAt x (length (item_cells (pushed_code items))) w c o
        (Pushed x v pending (past begin (pushed_code items))))
        (then_nothing (value (scene_at x) (with_turns x turns) e w))
        (then_items x begin items (alone op.PushPri ∷ [])
        (λ y u t. With x.program x.room v pending (past begin items) y u t)
        (λ q. Pushed x v pending q) w (record { lie = lie; starts = starts })
        (value (scene_at x) (with_turns x turns) e w) (λ y. give y) (λ y u. same_later u)
        (λ l. part.does x site same turns calls v fits l.lie l.starts pending
        (omega (arith, deep)) w c s)
        (λ l y u t a. item_pushes x (with op.PushPri (pos 0)) {js = []} a.stands l y
        (ap (λ z. push t.state z (at_next (past begin items + 4))) a.value) a.fits
        (omega (arith, deep)) (same_later u) (λ n b e f. given x b (b, a.fits))));
  }

  -- a known cell
  known_pushed : (e : Expr) (y : ℤ) → IsCell y → fold e ≡ Some y
      → PushedCode scope e begin (taking op.PushC y ∷ [])
  known_pushed e y fit is = record {
    does = λ x site same turns calls v fits lie starts pending deep w c s.
        subst (λ o. DoesAt x (length (item_cells (taking op.PushC y ∷ []))) w c o
        (Pushed x v pending (past begin (taking op.PushC y ∷ []))))
        (sym (((fold_means_lem (scene_at x) (with_turns x turns) e y).0 is).1 w))
        (item_pushes x (with op.PushC y) {js = []} s (record { lie = lie; starts = starts }) y refl
        fit (omega (arith, deep)) (same_later w) (λ n b m f. given x b (b, fit)));
  }

  -- a direct place's cell
  placed_pushed : (p : Scalar) (d : Direct) → DirectPlace scope p d → (o : Op) → d.pushes ≡ Some o
      → PushedCode scope (Read p) begin (taking o d.operand ∷ [])
  placed_pushed p d part o is = record {
    does = λ x site same turns calls v fits lie starts pending deep w c s.
        found_does x d s (place (scene_at x) (with_turns x turns) p w)
        (part.finds x same (with_turns x turns) v fits s) (λ at. look (read at))
        (λ at r. cell_pushed x d o at r
        (subst (λ k. Pushing x v d.operand r.cell k) is r.reached.pushing) begin w c s
        (omega (arith, deep)) (record { lie = lie; starts = starts }));
  }

  -- each
  pub value_pushed : (e : Expr) (how : Right) → Comes scope e how → (items : List Item)
      → ValueCode scope e begin items
      → PushedCode scope e begin (pushed_by (right_push how) items)
  value_pushed e (Known y) h items part = known_pushed e y h.1 h.0
  value_pushed e (Placed d) h items part = by_push d.pushes refl
    where
      by_push : (k : Option Op) → d.pushes ≡ k
          → PushedCode scope e begin (pushed_by (cell_push d k) items)
      by_push None is = pushed_does e items part
      by_push (Some o) is =
          subst (λ z. PushedCode scope z begin (taking o d.operand ∷ [])) (sym h.is)
          (placed_pushed h.place d h.direct o is)
  value_pushed e Waiting h items part = pushed_does e items part
