-- `++` and `--`: a place's value with one more or less, and it or the old one is the value.
use Rattle.std.proofs.Common.{◌≡◌, ◌+◌, ◌≤◌, ℕ, ℤ, pos, List, [], ◌∷◌, ◌++◌, Bool, true, false}
use Rattle.std.proofs.Common.{length, sum, refl, sym, ap, subst, ◌∙◌, arith, if◌then◌else◌}
use Rattle.pawn_cells.specs.Cells.{IsCell, add}
use Rattle.pawn_meaning.specs.Program.{Scalar, Step}
use Rattle.pawn_meaning.specs.Scope.{Scope}
use Rattle.pawn_meaning.specs.Memory.{Place, read, write}
use Rattle.pawn_meaning.specs.World.{World}
use Rattle.pawn_meaning.specs.Run.{Run, ◌>>=◌, give, look, change}
use Rattle.pawn_meaning.specs.Later.{Grows}
use Rattle.pawn_meaning.specs.Meaning.{place}
use Rattle.pawn_meaning.proofs.Grows.{after_grows, give_grows, look_grows, change_grows}
use Rattle.amx_ops.specs.declared.op.Op.TheVariants as op
use Rattle.amx_ops.specs.Moves.{Config}
use Rattle.pawn_cells.proofs.CellLaws.{wrap_cell}
use Rattle.gen_sim.specs.View.{View, kept, used}
use Rattle.gen_sim.specs.Stands.{Stands, With}
use Rattle.gen_sim.specs.Site.{Site, DoesAt, scene_at}
use Rattle.gen_sim.specs.Items.{Item, item_cells, past, with}
use Rattle.gen_sim.specs.Results.{IsAddress, PlaceAt}
use Rattle.gen_sim.specs.Code.{with_turns}
use Rattle.gen_sim.specs.Contract.{ValueCode, PlaceCode}
use Rattle.gen_sim.proofs.StepLaws.{given}
use Rattle.gen_sim.specs.Lies.{Lies}
use Rattle.gen_sim.specs.SimpleCode.{alone, taking}
use Rattle.gen_sim.specs.AccessCode.{load_code, store_code, stepped_code, step_code}
use Rattle.gen_sim.proofs.ItemSteps.{next_lies, item_sets, item_pushes, item_pops_pri}
use Rattle.gen_sim.proofs.NodesPartLaws.{gives_of, then_items}
use Rattle.gen_sim.proofs.KindLaws.{OfKind}
use Rattle.gen_sim.proofs.AccessLaws.{Loaded, Stored, place_stores, loads_at}
use Rattle.gen_sim.proofs.AccessNodes.{placed_does}

-- stored, and another value given
abbrev pub leaving : Place → ℤ → ℤ → Run ℤ
leaving at z y = change (write at z) >>= (λ _. give y)

pub leaving_grows : (at : Place) (z y : ℤ) → Grows (leaving at z y)
leaving_grows at z y = after_grows (change_grows (write at z)) (λ _. give_grows y)

-- behind the load of an address that is in ALT: its load and what makes the new value are the
-- node's own
module _ (x : Site) {v : View} {pending : List ℤ} (s : Scalar) (at : Place) (kind : OfKind s at)
    (address : ℤ) (is : IsAddress x.program x.room v at address) where
  pub stored_does : (z y : ℤ) → IsCell z → (p : ℕ) (u : World) (t : Config)
      → Stands x.program x.room v (y ∷ pending) p u t → t.state.alt ≡ address → t.state.pri ≡ z
      → IsCell y → Lies x p (store_code s ++ alone op.PopPri ∷ [])
      → DoesAt x (length (item_cells (store_code s ++ alone op.PopPri ∷ []))) u t (leaving at z y u)
      (With x.program x.room v pending (past p (store_code s ++ alone op.PopPri ∷ [])))
  stored_does z y fz p u t a alt pri fy l =
      then_items x p (store_code s) (alone op.PopPri ∷ [])
      (Stored x v (y ∷ pending) (past p (store_code s)) z) (With x.program x.room v pending) u l
      (change (write at z) u) (λ _. give y) (λ d n. (give_grows y).at n)
      (λ j. place_stores x s at kind address z is fz p u t a alt pri j)
      (λ j d n i k. item_pops_pri x k.stands j
      (λ b g e f. given x g (record { stands = g; value = e; fits = fy })))

  stepped_does : (delta : ℤ) (prefix : Bool)
      → used x.program x.room v pending ≤ kept x.program x.room + sum v.needs + 15
      → (y : ℤ) (p : ℕ) (u : World) (t : Config)
      → With x.program x.room v pending p y u t → t.state.alt ≡ address
      → Lies x p (stepped_code s delta prefix)
      → DoesAt x (length (item_cells (stepped_code s delta prefix))) u t
      (leaving at (add y delta) (if prefix then add y delta else y) u)
      (With x.program x.room v pending (past p (stepped_code s delta prefix)))
  stepped_does delta true deep y p u t a alt l =
      item_sets x (with op.AddC delta) a.stands l (add t.state.pri delta) t.state.alt refl
      (λ n b e f. gives_of x (length (item_cells (store_code s))) u
      (change (write at (add y delta)) u) (λ d. add y delta)
      (Stored x v pending (past (p + 8) (store_code s)) (add y delta)) (λ d m i k. k)
      (place_stores x s at kind address (add y delta) is (wrap_cell _) (p + 8) u n b (f ∙ alt)
      (e ∙ ap (λ z. add z delta) a.value)
      (next_lies x p (taking op.AddC delta) (store_code s) l)))
  stepped_does delta false deep y p u t a alt l =
      let l1 =
      next_lies x p (alone op.PushPri)
      (taking op.AddC delta ∷ (store_code s ++ alone op.PopPri ∷ [])) l in
      let l2 =
      next_lies x (p + 4) (taking op.AddC delta)
      (store_code s ++ alone op.PopPri ∷ []) l1 in
      item_pushes x (with op.PushPri (pos 0)) a.stands l t.state.pri refl
      (subst (λ z. IsCell z) (sym a.value) a.fits) deep
      ((leaving_grows at (add y delta) y).at u)
      (λ n b e f. item_sets x (with op.AddC delta) b l1 (add n.state.pri delta) n.state.alt refl
      (λ m g h i. stored_does (add y delta) y (wrap_cell _) (p + 4 + 8) u m
      (subst (λ z. Stands x.program x.room v (z ∷ pending) (p + 4 + 8) u m) a.value g)
      (i ∙ f ∙ alt) (h ∙ ap (λ z. add z delta) (e ∙ a.value)) a.fits l2))

  pub step_tail : (delta : ℤ) (prefix : Bool)
      → used x.program x.room v pending ≤ kept x.program x.room + sum v.needs + 15
      → (p : ℕ) (u : World) (t : Config)
      → Stands x.program x.room v pending p u t → t.state.pri ≡ address
      → Lies x p (alone op.MoveAlt ∷ (load_code s ++ stepped_code s delta prefix))
      → DoesAt x (length (item_cells
      (alone op.MoveAlt ∷ (load_code s ++ stepped_code s delta prefix)))) u t
      ((look (read at) >>= (λ y. leaving at (add y delta) (if prefix then add y delta else y))) u)
      (With x.program x.room v pending
      (past p (alone op.MoveAlt ∷ (load_code s ++ stepped_code s delta prefix))))
  step_tail delta prefix deep p u t a pri l =
      let l1 = next_lies x p (alone op.MoveAlt) (load_code s ++ stepped_code s delta prefix) l in
      item_sets x (with op.MoveAlt (pos 0)) a l t.state.pri t.state.pri refl
      (λ n b e f. then_items x (p + 4) (load_code s) (stepped_code s delta prefix)
      (Loaded x v pending (past (p + 4) (load_code s)) n.state.alt)
      (With x.program x.room v pending) u l1
      (look (read at) u) (λ y. leaving at (add y delta) (if prefix then add y delta else y))
      (λ y m. (leaving_grows at (add y delta) (if prefix then add y delta else y)).at m)
      (λ j. loads_at x s at kind address is (p + 4) u n b (e ∙ pri) j)
      (λ j y m i k. stepped_does delta prefix deep y (past (p + 4) (load_code s)) m i k.0
      (k.1 ∙ f ∙ pri) j))

module _ (scope : Scope) (begin : ℕ) where
  pub step_does : (p : Scalar) (delta : ℤ) (prefix : Bool) (items : List Item)
      → PlaceCode scope p begin items
      → ValueCode scope (Step p delta prefix) begin (step_code p delta prefix items)
  step_does p delta prefix items part = record {
    does = λ x site same turns calls v fits lie starts pending deep w c s.
        let fewer = with_turns x turns in
        let tail = alone op.MoveAlt ∷ (load_code p ++ stepped_code p delta prefix) in
        then_items x begin items tail (λ at u t. PlaceAt x.program x.room v pending
        (past begin items) at u t × OfKind p at)
        (λ q. With x.program x.room v pending q) w (record { lie = lie; starts = starts })
        (place (scene_at x) fewer p w)
        (λ at. look (read at) >>= (λ y. leaving at (add y delta)
        (if prefix then add y delta else y)))
        (λ at u. (after_grows (look_grows (read at))
        (λ y. leaving_grows at (add y delta) (if prefix then add y delta else y))).at u)
        (λ l. placed_does x scope p (length (item_cells items)) (past begin items) turns w
        (part.does x site same turns calls v fits l.lie l.starts pending
        (omega (arith, deep)) w c s))
        (λ l at u t a. step_tail x p at a.1 t.state.pri a.0.address delta prefix
        (omega (arith, deep)) (past begin items) u t a.0.stands refl l);
  }
