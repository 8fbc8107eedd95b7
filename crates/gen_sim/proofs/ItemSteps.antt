-- The code of a node cut into its parts, and each instruction as the first of the items that lie
-- there.
use Rattle.std.proofs.Common.{◌≡◌, ◌+◌, ◌*◌, ◌≤◌, ℕ, ℤ, pos, List, [], ◌∷◌, ◌++◌, length, sum, refl}
use Rattle.std.proofs.Common.{subst, arith, length-append}
use Rattle.pawn_cells.specs.Cells.{IsCell}
use Rattle.pawn_meaning.specs.World.{World}
use Rattle.pawn_meaning.specs.Run.{Outcome}
use Rattle.pawn_meaning.specs.Later.{Later, world_of}
use Rattle.amx_ops.specs.declared.table.Operand.{Operand}
use Rattle.amx_ops.specs.declared.table.Operand.TheVariants as operand
use Rattle.amx_ops.specs.declared.op.Op.TheVariants as op
use Rattle.amx_ops.specs.Table.{number_of, operand_of}
use Rattle.amx_ops.specs.Instructions.{cells_by}
use Rattle.amx_ops.specs.Written.{Written, cells_of}
use Rattle.amx_ops.specs.State.{State, Goes, push}
use Rattle.amx_ops.specs.Effects.{at_next}
use Rattle.amx_ops.specs.Step.{act}
use Rattle.amx_ops.specs.Moves.{Config, move}
use Rattle.gen_sim.proofs.Sim.{wider}
use Rattle.gen_sim.specs.View.{View, kept, used}
use Rattle.gen_sim.specs.Stands.{Stands}
use Rattle.gen_sim.proofs.WorldLaws.{stands_on}
use Rattle.gen_sim.specs.Site.{Site, Starts, DoesAt}
use Rattle.gen_sim.specs.Items.{Item, Plain, size, item_cells, past, LieIn, with}
use Rattle.gen_sim.proofs.ItemLaws.{lie_first, lie_rest, past-append}
use Rattle.gen_sim.proofs.StepLaws.{Follows, goes, pushes, pop_alt_does, pop_pri_does}
use Rattle.gen_sim.specs.Lies.{Lies}

-- ---- parts

starts_by : (x : Site) (p : ℕ) (items : List Item) → LieIn x p items → Starts x (past p items)
    → Starts x p
starts_by x p [] l s = s
starts_by x p (it ∷ items) l s = rw l.0 refl

pub first_lies : (x : Site) (p : ℕ) (is js : List Item) → Lies x p (is ++ js) → Lies x p is
first_lies x p is js l = record {
  lie = lie_first x p is js l.lie;
  starts =
      starts_by x (past p is) js (lie_rest x p is js l.lie)
      (subst (λ q. Starts x q) (past-append p is js) l.starts);
}

pub rest_lies : (x : Site) (p : ℕ) (is js : List Item) → Lies x p (is ++ js) → Lies x (past p is) js
rest_lies x p is js l = record {
  lie = lie_rest x p is js l.lie;
  starts = subst (λ q. Starts x q) (past-append p is js) l.starts;
}

pub next_lies : (x : Site) (p : ℕ) (it : Item) (js : List Item) → Lies x p (it ∷ js)
    → Lies x (p + 4 * size it) js
next_lies x p it js l = record { lie = l.lie.3; starts = l.starts }

-- ---- instructions

by_operand : (kind : Operand) (n : ℕ) (v : ℤ) → 1 ≤ length (cells_by n v kind)
by_operand operand.Nothing n v = omega arith
by_operand operand.AnyCell n v = omega arith
by_operand operand.ByteCount n v = omega arith
by_operand operand.Register n v = omega arith
by_operand operand.SetRegister n v = omega arith
by_operand operand.Multiple n v = omega arith
by_operand operand.Length n v = omega arith
by_operand operand.CellsLength n v = omega arith
by_operand operand.Target n v = omega arith
by_operand operand.Relative n v = omega arith
by_operand operand.NativeNumber n v = omega arith
by_operand operand.CaseTable n v = omega arith
by_operand operand.Cases n v = omega arith

pub some_cells : (it : Written) → 1 ≤ length (cells_of it)
some_cells it =
    omega (
      arith,
      length-append (cells_by (number_of it.op) it.operand (operand_of it.op)) it.table,
      by_operand (operand_of it.op) (number_of it.op) it.operand,
    )

module _ (x : Site) {A : Type 0} {o : Outcome A} {Q : A → World → Config → Type 0}
    (it : Written) where
  -- one step pays for the item
  pub one_item : (js : List Item) (w : World) {c : Config}
      → DoesAt x (1 + length (item_cells js)) w c o Q
      → DoesAt x (length (item_cells (Plain it ∷ js))) w c o Q
  one_item js w d =
      wider (move x.amx x.script) (length x.amx.code) x.room
      (omega (arith, length-append (cells_of it) (item_cells js), some_cells it)) d

  module _ {js : List Item} {v : View} {pending : List ℤ} {p : ℕ} {w : World} {c : Config}
      (a : Stands x.program x.room v pending p w c) (l : Lies x p (Plain it ∷ js)) where
    -- registers are set
    pub item_sets : (y z : ℤ)
        → act x.amx it.op it.operand (p + 4 * length (cells_of it)) c.state
        ≡ Goes (record c.state { pri = y; alt = z; cip = p + 4 * length (cells_of it) })
        → ((t : Config) → Stands x.program x.room v pending (p + 4 * length (cells_of it)) w t
        → t.state.pri ≡ y → t.state.alt ≡ z
        → DoesAt x (length (item_cells js)) w t o Q)
        → DoesAt x (length (item_cells (Plain it ∷ js))) w c o Q
    item_sets y z e next =
        let t : State = record c.state { pri = y; alt = z; cip = p + 4 * length (cells_of it) } in
        one_item js w (goes x a it l.lie.0 t e
        (next (record c { state = t })
        (stands_on x.program x.room a (p + 4 * length (cells_of it)) t refl refl refl refl refl)
        refl refl))

    -- a value is pushed
    pub item_pushes : (y : ℤ)
        → act x.amx it.op it.operand (p + 4 * length (cells_of it)) c.state
        ≡ push c.state y (at_next (p + 4 * length (cells_of it)))
        → IsCell y → used x.program x.room v pending ≤ kept x.program x.room + sum v.needs + 15
        → Later w (world_of o)
        → Follows x v (y ∷ pending) (p + 4 * length (cells_of it)) (length (item_cells js)) w c o Q
        → DoesAt x (length (item_cells (Plain it ∷ js))) w c o Q
    item_pushes y e fit deep later next =
        one_item js w (pushes x a it l.lie.0 y e fit deep later next)

module _ (x : Site) {A : Type 0} {o : Outcome A} {Q : A → World → Config → Type 0} {js : List Item}
    {v : View} {y : ℤ} {pending : List ℤ} {p : ℕ} {w : World} {c : Config}
    (a : Stands x.program x.room v (y ∷ pending) p w c) where
  -- what waits goes to ALT, or to PRI
  pub item_pops_alt : Lies x p (Plain (with op.PopAlt (pos 0)) ∷ js)
      → ((t : Config) → Stands x.program x.room v pending (p + 4) w t → t.state.alt ≡ y
      → t.state.pri ≡ c.state.pri → DoesAt x (length (item_cells js)) w t o Q)
      → DoesAt x (length (item_cells (Plain (with op.PopAlt (pos 0)) ∷ js))) w c o Q
  item_pops_alt l next = one_item x (with op.PopAlt (pos 0)) js w (pop_alt_does x a l.lie.0 next)

  pub item_pops_pri : Lies x p (Plain (with op.PopPri (pos 0)) ∷ js)
      → ((t : Config) → Stands x.program x.room v pending (p + 4) w t → t.state.pri ≡ y
      → t.state.alt ≡ c.state.alt → DoesAt x (length (item_cells js)) w t o Q)
      → DoesAt x (length (item_cells (Plain (with op.PopPri (pos 0)) ∷ js))) w c o Q
  item_pops_pri l next = one_item x (with op.PopPri (pos 0)) js w (pop_pri_does x a l.lie.0 next)
