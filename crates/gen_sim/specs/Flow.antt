-- What the code of a statement does, as one form beside that of expressions.
use Rattle.std.specs.Prelude.{◌≡◌, ◌+◌, ◌≤◌, ℕ, List, [], length, sum}
use Rattle.pawn_meaning.specs.Program.{Perhaps, Stmt, Stmts, Else}
use Rattle.pawn_meaning.specs.Scope.{Scope}
use Rattle.pawn_meaning.specs.ValidStmts.{slots_made, slots_made_by}
use Rattle.pawn_meaning.specs.World.{World}
use Rattle.pawn_meaning.specs.Run.{Run}
use Rattle.pawn_meaning.specs.Calls.{Way}
use Rattle.pawn_meaning.specs.Meaning.{Fewer, run, run_all, run_else, condition, perhaps}
use Rattle.pawn_meaning.specs.Need.{perhaps_load, stmt_load, stmts_load, else_load, locals}
use Rattle.pawn_meaning.specs.Need.{own_locals, inner_locals, else_locals, made_by}
use Rattle.amx_ops.specs.Moves.{Config}
use Rattle.gen_sim.specs.View.{View, kept, used}
use Rattle.gen_sim.specs.Stands.{Stands, With}
use Rattle.gen_sim.specs.Site.{Site, IsSite, DoesAt, scene_at}
use Rattle.gen_sim.specs.Items.{Item, item_cells, past}
use Rattle.gen_sim.specs.Fits.{Fits}
use Rattle.gen_sim.specs.Code.{CallsWithin, Code, with_turns}
use Rattle.gen_sim.specs.Lies.{Lies}
use Rattle.gen_sim.specs.Here.{Here, AreNew}
use Rattle.gen_sim.specs.FlowCode.{made_cells}
use Rattle.gen_sim.specs.Ways.{Outer, made_view, Left, Inside}

-- a file in which calls do what they mean, and a view in which a statement may begin
pub record Begins (here : Here) (x : Site) (turns : ℕ) (v : View) (o : Outer) : Type 0 where
  pub site : IsSite x
  pub same : x.program ≡ here.scope.program
  pub calls : CallsWithin x turns
  pub fits : Fits x.program x.room here.scope v
  pub inside : Inside x here o v

-- some items at an address do what a run does, and are left as it is, with these slots made where
-- it comes to its end.
-- A pass of a loop is paid by its turn: the items are no more cells than the file has
abbrev pub Flow : Here → ((x : Site) → Fewer → Run Way) → ℕ → List ℕ → ℕ → List Item → Type 0
Flow here run need made begin items =
    (x : Site) (turns : ℕ) (v : View) (o : Outer) → Begins here x turns v o → Lies x begin items
    → length (item_cells items) ≤ length x.amx.code
    → used x.program x.room v [] + need ≤ kept x.program x.room + sum v.needs
    → (w : World) (c : Config) → Stands x.program x.room v [] begin w c
    → DoesAt x (length (item_cells items)) w c (run x (with_turns x turns) w)
    (Left x here.exits o (made_view here.scope.slots made v) (past begin items))

-- ---- each sort of node

-- the items do a statement, and leave the slots that it makes in force
pub record StmtCode (here : Here) (s : Stmt) (begin : ℕ) (items : List Item) : Type 0 where
  pub fresh : AreNew here.scope (slots_made s)
  pub count : made_cells here.scope.slots (slots_made s) ≡ made_by here.scope.slots s
  pub does : Flow here (λ x fewer. run (scene_at x) fewer s)
      (made_by here.scope.slots s + locals here.scope.slots s + stmt_load s)
      (slots_made s) begin items

-- the items do one statement after another, with all the slots that these make
pub record StmtsCode (here : Here) (stmts : Stmts) (begin : ℕ) (items : List Item) : Type 0 where
  pub fresh : AreNew here.scope (slots_made_by stmts)
  pub count : made_cells here.scope.slots (slots_made_by stmts) ≡ own_locals here.scope.slots stmts
  pub does : Flow here (λ x fewer. run_all (scene_at x) fewer stmts)
      (own_locals here.scope.slots stmts + inner_locals here.scope.slots stmts + stmts_load stmts)
      (slots_made_by stmts) begin items

-- the items do what stands behind `else`, if anything; no slot is left in force
pub record ElseCode (here : Here) (other : Else) (begin : ℕ) (items : List Item) : Type 0 where
  pub does : Flow here (λ x fewer. run_else (scene_at x) fewer other)
      (else_locals here.scope.slots other + else_load other) [] begin items

-- a condition that may be absent has its value in PRI
pub record ConditionCode (scope : Scope) (e : Perhaps) (begin : ℕ)
    (items : List Item) : Type 0 where
  pub does : Code scope (λ x fewer. condition (scene_at x) fewer e) (perhaps_load e) items begin
      (λ x v pending q. With x.program x.room v pending q)

-- an expression that may be absent, whose value isn't used
pub record PerhapsCode (scope : Scope) (e : Perhaps) (begin : ℕ) (items : List Item) : Type 0 where
  pub does : Code scope (λ x fewer. perhaps (scene_at x) fewer e) (perhaps_load e) items begin
      (λ x v pending q d. Stands x.program x.room v pending q)
