-- Constants, operators and commas: a node's code does what it means, where those of its parts do.
use Rattle.std.proofs.Common.{◌+◌, ◌*◌, ℕ, pos, List, [], ◌∷◌, length, ap, ◌∙◌}
use Rattle.std.proofs.Common.{arith}
use Rattle.pawn_cells.specs.declared.operator.Prefix.{Prefix}
use Rattle.pawn_cells.specs.Operators.{prefix}
use Rattle.pawn_meaning.specs.Program.{Expr, Unary, Seq}
use Rattle.pawn_meaning.specs.Scope.{Scope}
use Rattle.pawn_meaning.specs.Run.{give}
use Rattle.pawn_meaning.specs.Meaning.{value}
use Rattle.pawn_meaning.proofs.Grows.{same_later}
use Rattle.amx_ops.specs.Written.{cells_of}
use Rattle.amx_ops.specs.State.{Goes}
use Rattle.gen_sim.specs.Stands.{With}
use Rattle.gen_sim.specs.Site.{scene_at}
use Rattle.gen_sim.specs.Items.{Item, past, with}
use Rattle.gen_sim.specs.Code.{with_turns}
use Rattle.gen_sim.specs.Contract.{ValueCode}
use Rattle.gen_sim.proofs.StepLaws.{given}
use Rattle.gen_sim.specs.SimpleCode.{alone, prefix_op, unary_code}
use Rattle.gen_sim.specs.SimpleCode.{comma_code}
use Rattle.gen_sim.proofs.ItemSteps.{item_sets}
use Rattle.gen_sim.proofs.NodesPartLaws.{nodes_of, then_items}
use Rattle.gen_sim.proofs.OperatorLaws.{prefix_act, prefix_cell}

module _ (scope : Scope) (begin : ℕ) where
  pub unary_does : (o : Prefix) (e : Expr) (items : List Item) → ValueCode scope e begin items
      → ValueCode scope (Unary o e) begin (unary_code o items)
  unary_does o e items part = record {
    does = λ x site same turns calls v fits lie starts pending deep w c s.
        then_items x begin items (alone (prefix_op o) ∷ [])
        (λ y u t. With x.program x.room v pending (past begin items) y u t)
        (λ q. With x.program x.room v pending q) w (record { lie = lie; starts = starts })
        (value (scene_at x) (with_turns x turns) e w) (λ y. give (prefix o y))
        (λ y u. same_later u) (λ l. part.does x site same turns calls v fits l.lie l.starts pending
        (omega (arith, deep)) w c s)
        (λ l y u t a.
        let q : ℕ = past begin items + 4 * length (cells_of (with (prefix_op o) (pos 0))) in
        item_sets x (with (prefix_op o) (pos 0)) a.stands l (prefix o y) t.state.alt
        (prefix_act x.amx o q t.state ∙ ap
        (λ z. Goes (record t.state { pri = prefix o z; cip = q })) a.value)
        (λ k b m n. given x b (record { stands = b; value = m; fits = prefix_cell o y })));
  }

  pub comma_does : (a b : Expr) (first second : List Item) → ValueCode scope a begin first
      → ValueCode scope b (past begin first) second
      → ValueCode scope (Seq a b) begin (comma_code first second)
  comma_does a b first second one two = record {
    does = λ x site same turns calls v fits lie starts pending deep w c s.
        then_items x begin first second
        (λ y u t. With x.program x.room v pending (past begin first) y u t)
        (λ q. With x.program x.room v pending q) w (record { lie = lie; starts = starts })
        (value (scene_at x) (with_turns x turns) a w)
        (λ y. value (scene_at x) (with_turns x turns) b) (λ y u. ((nodes_of x turns).values b).at u)
        (λ l. one.does x site same turns calls v fits l.lie l.starts pending
        (omega (arith, deep)) w c s)
        (λ l y u t k. two.does x site same turns calls v fits l.lie l.starts pending
        (omega (arith, deep)) u t k.stands);
  }
