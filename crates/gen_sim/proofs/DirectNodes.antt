-- Reads and assignments of a place that has instructions of its own.
use Rattle.std.proofs.Common.{ℕ, List, ◌++◌, length, arith}
use Rattle.pawn_meaning.specs.Program.{Scalar, Expr, Read, Assign}
use Rattle.pawn_meaning.specs.Scope.{Scope}
use Rattle.pawn_meaning.specs.Memory.{read, write}
use Rattle.pawn_meaning.specs.Run.{◌>>=◌, look, change}
use Rattle.pawn_meaning.specs.Meaning.{place, value}
use Rattle.gen_sim.specs.Stands.{With}
use Rattle.gen_sim.specs.Site.{scene_at}
use Rattle.gen_sim.specs.Items.{Item, item_cells, past}
use Rattle.gen_sim.specs.Code.{with_turns}
use Rattle.gen_sim.specs.Contract.{ValueCode}
use Rattle.gen_sim.specs.DirectCode.{Direct, direct_load, direct_store}
use Rattle.gen_sim.proofs.NodesPartLaws.{gives_of, does_as, then_items}
use Rattle.gen_sim.proofs.AccessLaws.{Loaded, Stored}
use Rattle.gen_sim.proofs.AccessNodes.{storing, storing_grows}
use Rattle.gen_sim.proofs.DirectLaws.{DirectPlace, found_does, direct_loads, direct_stores}

module _ (scope : Scope) (begin : ℕ) where
  pub read_direct : (p : Scalar) (d : Direct) → DirectPlace scope p d
      → ValueCode scope (Read p) begin (direct_load d)
  read_direct p d part = record {
    does = λ x site same turns calls v fits lie starts pending deep w c s.
        does_as x (length (item_cells (direct_load d))) w
        (value (scene_at x) (with_turns x turns) (Read p) w)
        (Loaded x v pending (past begin (direct_load d)) c.state.alt) (λ y n i k. k.0)
        (found_does x d s (place (scene_at x) (with_turns x turns) p w)
        (part.finds x same (with_turns x turns) v fits s) (λ at. look (read at))
        (λ at r. direct_loads x d at r begin w c s (record { lie = lie; starts = starts })));
  }

  pub assign_direct : (p : Scalar) (d : Direct) (e : Expr) (items : List Item)
      → DirectPlace scope p d → ValueCode scope e begin items
      → ValueCode scope (Assign p e) begin (items ++ direct_store d)
  assign_direct p d e items part one = record {
    does = λ x site same turns calls v fits lie starts pending deep w c s.
        let fewer = with_turns x turns in
        found_does x d s (place (scene_at x) fewer p w) (part.finds x same fewer v fits s)
        (λ at. value (scene_at x) fewer e >>= storing at)
        (λ at r. then_items x begin items (direct_store d)
        (With x.program x.room v pending (past begin items))
        (λ q. With x.program x.room v pending q) w (record { lie = lie; starts = starts })
        (value (scene_at x) fewer e w) (storing at) (λ y u. (storing_grows at y).at u)
        (λ l. one.does x site same turns calls v fits l.lie l.starts pending
        (omega (arith, deep)) w c s)
        (λ l y u t a. gives_of x (length (item_cells (direct_store d))) u (change (write at y) u)
        (λ n. y) (Stored x v pending (past (past begin items) (direct_store d)) y) (λ n i j k. k)
        (direct_stores x d at r y a.fits (past begin items) u t a.stands a.value l)));
  }
