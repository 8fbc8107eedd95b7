-- Locals are dropped: at the end of a block, and by `break`, `continue` and `return`.
use Rattle.std.proofs.Common.{◌≡◌, ◌+◌, ◌*◌, ◌^◌, ◌<◌, ◌≤◌, ℕ, pos, List, [], ◌∷◌, ◌++◌, Some, true, length}
use Rattle.std.proofs.Common.{sum, refl, subst, ◌∙◌, arith}
use Rattle.pawn_meaning.specs.Program.{Slot, Expr, Stmts, Block, Return, Break, Continue}
use Rattle.pawn_meaning.specs.ValidStmts.{slots_made_by}
use Rattle.pawn_meaning.specs.World.{World}
use Rattle.pawn_meaning.specs.Run.{Outcome, Gives, give}
use Rattle.pawn_meaning.specs.Calls.{Way, Returned}
use Rattle.pawn_meaning.specs.Meaning.{value, run_all}
use Rattle.pawn_meaning.specs.Later.{Later, world_of}
use Rattle.pawn_meaning.specs.Need.{load}
use Rattle.pawn_meaning.proofs.Grows.{same_later}
use Rattle.amx_ops.specs.declared.op.Op.TheVariants as op
use Rattle.amx_ops.specs.Instructions.{fetched}
use Rattle.amx_ops.specs.Written.{read_as}
use Rattle.amx_ops.specs.Moves.{Config}
use Rattle.gen_sim.specs.View.{View, innermost, kept, used}
use Rattle.gen_sim.specs.Stands.{Stands, With}
use Rattle.gen_sim.specs.Site.{Site, DoesAt, scene_at}
use Rattle.gen_sim.specs.Items.{Item, item_cells, past, with}
use Rattle.gen_sim.specs.Back.{Back}
use Rattle.gen_sim.specs.Fits.{locals_of}
use Rattle.gen_sim.specs.Code.{with_turns}
use Rattle.gen_sim.specs.Contract.{ValueCode}
use Rattle.gen_sim.proofs.ItemLaws.{count-append}
use Rattle.gen_sim.proofs.StepLaws.{given}
use Rattle.gen_sim.proofs.LeaveLaws.{leaves}
use Rattle.gen_sim.specs.Lies.{Lies}
use Rattle.gen_sim.specs.SimpleCode.{alone, taking}
use Rattle.gen_sim.proofs.ItemSteps.{one_item, next_lies}
use Rattle.gen_sim.proofs.NodesPartLaws.{gives_of, does_as, then_items}
use Rattle.gen_sim.specs.JumpCode.{jump_to}
use Rattle.gen_sim.proofs.JumpSteps.{jump_does}
use Rattle.gen_sim.specs.Here.{Exits, Here}
use Rattle.gen_sim.specs.FlowCode.{made_cells, leave_code, block_code, break_code, continue_code}
use Rattle.gen_sim.specs.FlowCode.{return_code}
use Rattle.gen_sim.specs.Ways.{Outer, made_view, Left, Upon}
use Rattle.gen_sim.specs.Flow.{StmtCode, StmtsCode}
use Rattle.gen_sim.proofs.MadeViews.{total_locals, made_upon, upon_less}
use Rattle.gen_sim.proofs.WayLaws.{IsOut, ends_left, out_left, after_items}
use Rattle.gen_sim.proofs.KindLaws.{Known, known_does}

module _ (x : Site) {A : Type 0} {out : Outcome A} {Q : A → World → Config → Type 0}
    (slots : List Slot) {js : List Item} {v base : View} {p : ℕ} {w : World} {c : Config} where
  pub leave_does : (made : List ℕ) → Upon x slots made v base → Stands x.program x.room v [] p w c
      → Lies x p (leave_code slots made ++ js)
      → used x.program x.room base [] ≤ kept x.program x.room + sum base.needs
      → Later w (world_of out)
      → (Lies x (past p (leave_code slots made)) js → (t : Config)
      → Stands x.program x.room base [] (past p (leave_code slots made)) w t
      → t.state.pri ≡ c.state.pri → DoesAt x (length (item_cells js)) w t out Q)
      → DoesAt x (length (item_cells (leave_code slots made ++ js))) w c out Q
  leave_does [] u s l deep later next =
      next l c (subst (λ z. Stands x.program x.room z [] p w c) u.is s) refl
  leave_does (m ∷ made) u s l deep later next =
      let stack = with op.Stack (pos (4 * made_cells slots (m ∷ made))) in
      let f =
      subst (λ n. fetched x.amx.code p ≡ Some (read_as (with op.Stack (pos (4 * n)))))
      (total_locals 0 (innermost base) slots (m ∷ made)) l.lie.0 in
      one_item x stack js w
      (leaves x base (locals_of (innermost base) slots (m ∷ made)) u.laid
      (subst (λ z. Stands x.program x.room z [] p w c) u.is s) f deep later
      (λ t k e. next (next_lies x p (taking op.Stack (pos (4 * made_cells slots (m ∷ made)))) js l)
      t k e))

-- behind a statement that made locals; where it was left in another way, that way's code has
-- dropped them
pub leaves_way : (x : Site) (e : Exits) (o : Outer) (slots : List Slot)
    (made : List ℕ) {v base : View} (q : ℕ) (way : Way) (w : World) (t : Config)
    → Upon x slots made v base → Left x e o v q way w t → Lies x q (leave_code slots made)
    → used x.program x.room base [] ≤ kept x.program x.room + sum base.needs
    → DoesAt x (length (item_cells (leave_code slots made))) w t (Gives way w)
    (Left x e o base (past q (leave_code slots made)))
leaves_way x e o slots [] {v} {base} q way w t u k l deep =
    ends_left x e o v base q q way w t k
    (λ s. let b = subst (λ z. Stands x.program x.room z [] q w t) u.is s in given x b b)
leaves_way x e o slots (m ∷ made) {v} {base} q way w t u k l deep =
    ends_left x e o v base q (past q (leave_code slots (m ∷ made))) way w t k
    (λ s. leave_does x slots {js = []} (m ∷ made) u s l deep (same_later w)
    (λ j n b e. given x b b))

-- the locals made since a loop's body began are dropped, and a jump leads out of it
out_does : (x : Site) (here : Here) (o : Outer) (to : ℕ) {v : View} {p q : ℕ} {way : Way} {w : World}
    {c : Config} → to < 2 ^ 31 → Upon x here.scope.slots here.since v o.loop
    → Stands x.program x.room v [] p w c
    → Lies x p (leave_code here.scope.slots here.since ++ jump_to op.Jump to ∷ [])
    → used x.program x.room v [] + 0 ≤ kept x.program x.room + sum v.needs
    → ((t : Config) → Stands x.program x.room o.loop [] to w t → Left x here.exits o v q way w t)
    → DoesAt x (length (item_cells
    (leave_code here.scope.slots here.since ++ jump_to op.Jump to ∷ []))) w c (Gives way w)
    (Left x here.exits o v q)
out_does x here o to {v} {p} {q} {way} {w} {c} low upon s l deep left =
    leave_does x here.scope.slots here.since upon s l
    (upon_less x here.scope.slots here.since v o.loop upon 0 deep) (same_later w)
    (λ j t k e. jump_does x k to 0 low (omega arith) j (λ i m f. given x m (left i m)))

module _ (here : Here) (begin : ℕ) where
  pub block_does : (stmts : Stmts) (items : List Item) → StmtsCode here stmts begin items
      → StmtCode here (Block stmts) begin (block_code here.scope.slots (slots_made_by stmts) items)
  block_does stmts items part = record {
    fresh = tt;
    count = refl;
    does = λ x turns v o b l paid deep w c s.
        let made = slots_made_by stmts in
        let slots = here.scope.slots in
        let leave = leave_code slots made in
        let inner = made_view slots made v in
        let long : length (item_cells (items ++ leave))
        ≡ length (item_cells items) + length (item_cells leave) =
        count-append items leave in
        after_items x begin items leave (Left x here.exits o inner (past begin items))
        (Left x here.exits o v) w l
        (run_all (scene_at x) (with_turns x turns) stmts w)
        (λ j. part.does x turns v o b j (omega (arith, paid, long)) (omega (arith, deep)) w c s)
        (λ j way u t k. leaves_way x here.exits o slots made (past begin items) way u t
        (made_upon x slots made v s.laid) k j (omega (arith, deep)));
  }

  -- a list that is never left through its end
  pub left_block_does : (stmts : Stmts) (items : List Item)
      → ((x : Site) (turns : ℕ) (w : World)
      → Known (run_all (scene_at x) (with_turns x turns) stmts w) IsOut)
      → StmtsCode here stmts begin items → StmtCode here (Block stmts) begin items
  left_block_does stmts items out part = record {
    fresh = tt;
    count = refl;
    does = λ x turns v o b l paid deep w c s.
        let q = past begin items in
        let inner = made_view here.scope.slots (slots_made_by stmts) v in
        let all = run_all (scene_at x) (with_turns x turns) stmts w in
        does_as x (length (item_cells items)) w all
        (λ way u t. Left x here.exits o inner q way u t × IsOut way)
        (λ way u t k. out_left x here.exits o inner v q q way u t k.1 k.0)
        (known_does x (length (item_cells items)) w all (Left x here.exits o inner q) IsOut
        (out x turns w) (part.does x turns v o b l paid (omega (arith, deep)) w c s));
  }

  -- ---- ways out

  module _ (looped : here.exits.looped ≡ true) where
    pub break_does : StmtCode here Break begin (break_code here)
    break_does = record {
      fresh = tt;
      count = refl;
      does = λ x turns v o b l paid deep w c s.
          let n = b.inside.loop looped in
          out_does x here o here.exits.broke n.broke n.upon s l (omega (arith, deep))
          (λ t m. (looped, m));
    }

    pub continue_does : StmtCode here Continue begin (continue_code here)
    continue_does = record {
      fresh = tt;
      count = refl;
      does = λ x turns v o b l paid deep w c s.
          let n = b.inside.loop looped in
          out_does x here o here.exits.continued n.continued n.upon s l (omega (arith, deep))
          (λ t m. (looped, m));
    }

  pub return_does : (e : Expr) (items : List Item) → ValueCode here.scope e begin items
      → StmtCode here (Return e) begin (return_code here items)
  return_does e items part = record {
    fresh = tt;
    count = refl;
    does = λ x turns v o b l paid deep w c s.
        let p = past begin items in
        let slots = here.scope.slots in
        let made = here.scope.made in
        let less = upon_less x slots made v o.body b.inside.body (load e) (omega (arith, deep)) in
        then_items x begin items (leave_code slots made ++ alone op.Retn ∷ [])
        (λ y u t. With x.program x.room v [] p y u t) (Left x here.exits o v) w l
        (value (scene_at x) (with_turns x turns) e w) (λ y. give (Returned y)) (λ y u. same_later u)
        (λ j. part.does x b.site b.same turns b.calls v b.fits j.lie j.starts []
        (omega (arith, deep)) w c s)
        (λ j y u t k. leave_does x slots made b.inside.body k.stands j less (same_later u)
        (λ i m h g. one_item x (with op.Retn (pos 0)) [] u
        (gives_of x 1 u (Gives y u) (λ z. Returned z)
        (Back x.program x.room o.caller o.waits o.back) (λ z n a r. r)
        (b.inside.returns y (past p (leave_code slots made)) u m
        (record { stands = h; value = g ∙ k.value; fits = k.fits }) i.lie.0))));
  }
