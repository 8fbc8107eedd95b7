-- The laws on runs, from those on each node for two bounds.
use Rattle.std.proofs.Common.{◌≡◌, ◌≤◌, ℕ, zero, suc, arith}
use Rattle.pawn_meaning.specs.Program.{Stmt}
use Rattle.pawn_meaning.specs.Later.{Grows}
use Rattle.pawn_meaning.specs.Meaning.{Scene, Fewer}
use Rattle.pawn_meaning.specs.RunsExtend.{RunsExtend}
use Rattle.pawn_meaning.specs.RunsGrow.{RunsGrow, NodesGrow}
use Rattle.pawn_meaning.proofs.Grows.{same_later, later_on, world_later}
use Rattle.pawn_meaning.proofs.Monotone.{Behind, place_up, array_up, value_up, argument_up}
use Rattle.pawn_meaning.proofs.Monotone.{arguments_up, run_up, run_all_up, nested_up, whole_below}
use Rattle.pawn_meaning.proofs.Monotone.{whole_grows}

pub runs_extend_lem : RunsExtend
runs_extend_lem t m least program script f = whole_below t m least program script f

module _ (scene : Scene) (fewer : Fewer) (grow : (s : Stmt) → Grows (fewer s)) where
  -- with no turn left the two bounds are one
  behind_itself : (s : Stmt) → Behind scene.limit scene.limit (omega arith) zero (fewer s) (fewer s)
  behind_itself s = record { at = λ j e. absurd (omega (arith, e)); low = grow s; high = grow s }

  nodes_grow : NodesGrow scene fewer
  nodes_grow = record {
    places =
        λ p. (place_up scene.limit scene.limit (omega arith) scene.program scene.script zero fewer
        fewer behind_itself p).low;
    arrays =
        λ a. (array_up scene.limit scene.limit (omega arith) scene.program scene.script zero fewer
        fewer behind_itself a).low;
    values =
        λ e. (value_up scene.limit scene.limit (omega arith) scene.program scene.script zero fewer
        fewer behind_itself e).low;
    one_argument =
        λ a. (argument_up scene.limit scene.limit
        (omega arith) scene.program scene.script zero fewer fewer behind_itself a).low;
    all_arguments =
        λ args. (arguments_up scene.limit scene.limit
        (omega arith) scene.program scene.script zero fewer fewer behind_itself args).low;
    statements =
        λ s. (run_up scene.limit scene.limit (omega arith) scene.program scene.script zero fewer
        fewer behind_itself s).low;
    lists =
        λ stmts. (run_all_up scene.limit scene.limit
        (omega arith) scene.program scene.script zero fewer fewer behind_itself stmts).low;
  }

pub runs_grow_lem : RunsGrow
runs_grow_lem = record {
  same = same_later;
  on = λ w x y a b. later_on a b;
  turns = world_later;
  nodes = nodes_grow;
  nestings =
      λ scene turns s. (nested_up scene.limit scene.limit
      (omega arith) scene.program scene.script turns turns (omega arith) s).low;
  programs = λ program script limit f. whole_grows limit limit (omega arith) program script f;
}
