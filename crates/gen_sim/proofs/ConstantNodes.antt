-- The code of a constant, in PRI and in ALT.
use Rattle.std.proofs.Common.{◌≡◌, ℕ, zero, suc, ℤ, pos, negsuc, List, ◌++◌, length, refl}
use Rattle.pawn_cells.specs.Cells.{IsCell}
use Rattle.pawn_meaning.specs.Program.{Const}
use Rattle.pawn_meaning.specs.Scope.{Scope}
use Rattle.pawn_meaning.specs.World.{World}
use Rattle.pawn_meaning.specs.Run.{Outcome, give}
use Rattle.amx_ops.specs.declared.op.Op.TheVariants as op
use Rattle.amx_ops.specs.Moves.{Config}
use Rattle.gen_sim.specs.View.{View}
use Rattle.gen_sim.specs.Stands.{Stands, With}
use Rattle.gen_sim.specs.Site.{Site, DoesAt}
use Rattle.gen_sim.specs.Items.{Item, item_cells, past, with}
use Rattle.gen_sim.specs.Contract.{ValueCode}
use Rattle.gen_sim.specs.Lies.{Lies}
use Rattle.gen_sim.specs.SimpleCode.{const_code, alt_code}
use Rattle.gen_sim.proofs.StepLaws.{given}
use Rattle.gen_sim.proofs.ItemSteps.{item_sets}

module _ (x : Site) {v : View} {pending : List ℤ} (p : ℕ) where
  -- ZERO.pri or CONST.pri
  pub const_does : (y : ℤ) → IsCell y → Lies x p (const_code y) → (n : World) (k : Config)
      → Stands x.program x.room v pending p n k
      → DoesAt x (length (item_cells (const_code y))) n k (give y n)
      (With x.program x.room v pending (past p (const_code y)))
  const_does (pos zero) fit l n k s =
      item_sets x (with op.ZeroPri (pos 0)) s l (pos 0) k.state.alt refl
      (λ t b e f. given x b (record { stands = b; value = e; fits = fit }))
  const_does (pos (suc m)) fit l n k s =
      item_sets x (with op.ConstPri (pos (suc m))) s l (pos (suc m)) k.state.alt refl
      (λ t b e f. given x b (record { stands = b; value = e; fits = fit }))
  const_does (negsuc m) fit l n k s =
      item_sets x (with op.ConstPri (negsuc m)) s l (negsuc m) k.state.alt refl
      (λ t b e f. given x b (record { stands = b; value = e; fits = fit }))

  -- ZERO.alt or CONST.alt, before what follows
  pub alt_sets : {A : Type 0} {o : Outcome A} {Q : A → World → Config → Type 0} {w : World}
      {c : Config} (y : ℤ) (js : List Item) → Stands x.program x.room v pending p w c
      → Lies x p (alt_code y ++ js)
      → ((t : Config) → Stands x.program x.room v pending (past p (alt_code y)) w t
      → t.state.pri ≡ c.state.pri → t.state.alt ≡ y → DoesAt x (length (item_cells js)) w t o Q)
      → DoesAt x (length (item_cells (alt_code y ++ js))) w c o Q
  alt_sets {c = c} (pos zero) js s l next =
      item_sets x (with op.ZeroAlt (pos 0)) s l c.state.pri (pos 0) refl next
  alt_sets {c = c} (pos (suc m)) js s l next =
      item_sets x (with op.ConstAlt (pos (suc m))) s l c.state.pri (pos (suc m)) refl next
  alt_sets {c = c} (negsuc m) js s l next =
      item_sets x (with op.ConstAlt (negsuc m)) s l c.state.pri (negsuc m) refl next

-- a constant as an expression
pub const_node_does : (scope : Scope) (y : ℤ) → IsCell y → (begin : ℕ)
    → ValueCode scope (Const y) begin (const_code y)
const_node_does scope y fit begin = record {
  does = λ x site same turns calls v fits lie starts pending deep w c s.
      const_does x begin y fit (record { lie = lie; starts = starts }) w c s;
}
