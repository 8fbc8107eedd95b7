-- Runs only grow: what each node means leads to a later world.
use Rattle.std.specs.Prelude.{◌≤◌, ℕ}
use Rattle.host_script.specs.declared.script.Script.{Script}
use Rattle.pawn_meaning.specs.Program.{Scalar, Array, Expr, Arg, Args, Stmt, Stmts, Program}
use Rattle.pawn_meaning.specs.Later.{Later, Grows, world_of}
use Rattle.pawn_meaning.specs.Meaning.{Scene, Fewer, place, array, value, argument, arguments, run}
use Rattle.pawn_meaning.specs.Meaning.{run_all}
use Rattle.pawn_meaning.specs.Told.{nested, scene_of, whole}
use Rattle.pawn_meaning.specs.World.{World, first_world}

-- each node does, where what follows with one turn less does
pub record NodesGrow (scene : Scene) (fewer : Fewer) : Type 0 where
  pub places : (p : Scalar) → Grows (place scene fewer p)
  pub arrays : (a : Array) → Grows (array scene fewer a)
  pub values : (e : Expr) → Grows (value scene fewer e)
  pub one_argument : (a : Arg) → Grows (argument scene fewer a)
  pub all_arguments : (args : Args) → Grows (arguments scene fewer args)
  pub statements : (s : Stmt) → Grows (run scene fewer s)
  pub lists : (stmts : Stmts) → Grows (run_all scene fewer stmts)

-- worlds are in an order, in which turns never fall; each node grows, and so does a statement with
-- at most so many turns in one another, and the run of a program from its first world
pub record RunsGrow : Type 0 where
  pub same : (w : World) → Later w w
  pub on : (w x y : World) → Later w x → Later x y → Later w y
  pub turns : (w x : World) → Later w x → w.turns ≤ x.turns
  pub nodes : (scene : Scene) (fewer : Fewer) → ((s : Stmt) → Grows (fewer s))
      → NodesGrow scene fewer
  pub nestings : (scene : Scene) (turns : ℕ) (s : Stmt) → Grows (nested scene turns s)
  pub programs : (program : Program) (script : Script) (limit f : ℕ)
      → Later (first_world program) (world_of (whole (scene_of program script limit) f))
