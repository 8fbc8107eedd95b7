-- A statement that never goes on is left in another way than through its end, if at all.
use Rattle.std.proofs.Common.{◌≡◌, ℕ, ℤ, Bool, true, false, ◌||◌, List, append-nil, refl, sym, subst}
use Rattle.host_script.specs.declared.event.End.{End}
use Rattle.host_script.specs.declared.event.End.TheVariants as end
use Rattle.pawn_cells.specs.Cells.{cell_of}
use Rattle.pawn_meaning.specs.Program.{Stmt, Block, Local, LocalArray, Do, If, While, DoWhile}
use Rattle.pawn_meaning.specs.Program.{For, Switch, Return, Break, Continue, Exit, Sleep, Assert}
use Rattle.pawn_meaning.specs.Program.{State, Empty, Stmts, no_stmts, then_stmt}
use Rattle.pawn_meaning.specs.World.{World}
use Rattle.pawn_meaning.specs.Run.{Outcome, Gives, Stops, More, Run, then_do, give, stop}
use Rattle.pawn_meaning.specs.Calls.{Way, Through, Broke, Continued, Returned, pass}
use Rattle.pawn_meaning.specs.Meaning.{Scene, Fewer, value, run, run_all}
use Rattle.gen_sim.specs.Site.{scene_at}
use Rattle.gen_sim.specs.Items.{Item}
use Rattle.gen_sim.specs.Here.{Here}
use Rattle.gen_sim.specs.Code.{with_turns}
use Rattle.gen_sim.specs.Flow.{StmtCode, StmtsCode}
use Rattle.gen_sim.specs.FlowCode.{block_code}
use Rattle.gen_sim.proofs.KindLaws.{Known}
use Rattle.gen_sim.proofs.WayLaws.{IsOut}
use Rattle.gen_sim.proofs.LeaveNodes.{block_does, left_block_does}
use Rattle.gen_laws.specs.GoesOn.{leaves, list_leaves, never_goes_on, dropped_by, at_end_of}
use Rattle.pawn_meaning.specs.ValidStmts.{slots_made_by}

-- ---- what follows a value

returned_out : (o : Outcome ℤ) → Known (then_do o (λ v. give (Returned v))) IsOut
returned_out (Gives v w) = tt
returned_out (Stops e w) = tt
returned_out (More w) = tt

exit_out : (o : Outcome ℤ) (f : ℤ → End) → Known (then_do o (λ v. stop {A = Way} (f v))) IsOut
exit_out (Gives v w) f = tt
exit_out (Stops e w) f = tt
exit_out (More w) f = tt

-- ---- one statement behind another

out_passes : (o : Outcome Way) (go : Run Way) → Known o IsOut
    → Known (then_do o (λ way. pass way go)) IsOut
out_passes (Gives Through w) go h = elim h [ ]
out_passes (Gives Broke w) go h = tt
out_passes (Gives Continued w) go h = tt
out_passes (Gives (Returned y) w) go h = tt
out_passes (Stops e w) go h = tt
out_passes (More w) go h = tt

passes_out : (o : Outcome Way) (go : Run Way) → ((w : World) → Known (go w) IsOut)
    → Known (then_do o (λ way. pass way go)) IsOut
passes_out (Gives Through w) go h = h w
passes_out (Gives Broke w) go h = tt
passes_out (Gives Continued w) go h = tt
passes_out (Gives (Returned y) w) go h = tt
passes_out (Stops e w) go h = tt
passes_out (More w) go h = tt

clash : false ≡ true → ⊥
clash e = cc

module _ (scene : Scene) (fewer : Fewer) where
  leaves_out : (s : Stmt) → leaves s ≡ true → (w : World) → Known (run scene fewer s w) IsOut
  leaves_out (Return e) h w = returned_out (value scene fewer e w)
  leaves_out Break h w = tt
  leaves_out Continue h w = tt
  leaves_out (Exit e tag) h w =
      exit_out (value scene fewer e w) (λ v. end.Exit v (cell_of tag))
  leaves_out (Block stmts) h w = absurd (clash h)
  leaves_out (Local s e) h w = absurd (clash h)
  leaves_out (LocalArray s o) h w = absurd (clash h)
  leaves_out (Do e) h w = absurd (clash h)
  leaves_out (If c a b) h w = absurd (clash h)
  leaves_out (While c s) h w = absurd (clash h)
  leaves_out (DoWhile s c) h w = absurd (clash h)
  leaves_out (For first c step s) h w = absurd (clash h)
  leaves_out (Switch e cases d) h w = absurd (clash h)
  leaves_out (Sleep e tag) h w = absurd (clash h)
  leaves_out (Assert e) h w = absurd (clash h)
  leaves_out (State automaton state c) h w = absurd (clash h)
  leaves_out Empty h w = absurd (clash h)

  pub list_out : (stmts : Stmts) → list_leaves stmts ≡ true → (w : World)
      → Known (run_all scene fewer stmts w) IsOut
  list_out no_stmts h w = absurd (clash h)
  list_out (then_stmt s stmts) h w = by_first (leaves s) refl h (λ k u. list_out stmts k u)
    where
      by_first : (b : Bool) → leaves s ≡ b → (b || list_leaves stmts) ≡ true
          → (list_leaves stmts ≡ true → (u : World) → Known (run_all scene fewer stmts u) IsOut)
          → Known (run_all scene fewer (then_stmt s stmts) w) IsOut
      by_first true is h rest =
          out_passes (run scene fewer s w) (run_all scene fewer stmts) (leaves_out s is w)
      by_first false is h rest =
          passes_out (run scene fewer s w) (run_all scene fewer stmts) (rest h)

  pub never_out : (s : Stmt) → never_goes_on s ≡ true → (w : World)
      → Known (run scene fewer s w) IsOut
  never_out (Block stmts) h w = list_out stmts h w
  never_out (Return e) h w = leaves_out (Return e) h w
  never_out Break h w = tt
  never_out Continue h w = tt
  never_out (Exit e tag) h w = leaves_out (Exit e tag) h w
  never_out (Local s e) h w = absurd (clash h)
  never_out (LocalArray s o) h w = absurd (clash h)
  never_out (Do e) h w = absurd (clash h)
  never_out (If c a b) h w = absurd (clash h)
  never_out (While c s) h w = absurd (clash h)
  never_out (DoWhile s c) h w = absurd (clash h)
  never_out (For first c step s) h w = absurd (clash h)
  never_out (Switch e cases d) h w = absurd (clash h)
  never_out (Sleep e tag) h w = absurd (clash h)
  never_out (Assert e) h w = absurd (clash h)
  never_out (State automaton state c) h w = absurd (clash h)
  never_out Empty h w = absurd (clash h)

-- ---- blocks

pub block_node_does : (here : Here) (begin : ℕ) (stmts : Stmts) (items : List Item)
    → StmtsCode here stmts begin items
    → StmtCode here (Block stmts) begin (block_code here.scope.slots (dropped_by stmts) items)
block_node_does here begin stmts items part = by_end (list_leaves stmts) refl
  where
    by_end : (b : Bool) → list_leaves stmts ≡ b → StmtCode here (Block stmts) begin
        (block_code here.scope.slots (at_end_of b (slots_made_by stmts)) items)
    by_end false is = block_does here begin stmts items part
    by_end true is =
        subst (λ l. StmtCode here (Block stmts) begin l) (sym (append-nil items))
        (left_block_does here begin stmts items
        (λ x turns w. list_out (scene_at x) (with_turns x turns) stmts is w) part)
