-- What the code of a condition does that has jumps of its own: they are taken where its truth is as
-- it says, and else the code comes to its end.
use Rattle.std.specs.Prelude.{◌≡◌, ◌+◌, ◌^◌, ◌<◌, ◌≤◌, ℕ, ℤ, pos, List, [], Bool, true, false, Some}
use Rattle.std.specs.Prelude.{length, sum}
use Rattle.pawn_meaning.specs.Scope.{Scope}
use Rattle.pawn_meaning.specs.World.{World}
use Rattle.pawn_meaning.specs.Run.{Run, ◌>>=◌, choose, at_zero}
use Rattle.pawn_meaning.specs.Calls.{Way}
use Rattle.pawn_meaning.specs.Later.{Grows}
use Rattle.pawn_meaning.specs.Meaning.{Fewer}
use Rattle.amx_ops.specs.Instructions.{fetched}
use Rattle.amx_ops.specs.Written.{read_as}
use Rattle.amx_ops.specs.Moves.{Config}
use Rattle.gen_sim.specs.View.{View, kept, used}
use Rattle.gen_sim.specs.Stands.{Stands}
use Rattle.gen_sim.specs.Site.{Site, IsSite, DoesAt}
use Rattle.gen_sim.specs.Items.{Item, item_cells, past, LieIn, with}
use Rattle.gen_sim.specs.Fits.{Fits}
use Rattle.gen_sim.specs.Code.{CallsWithin, with_turns}
use Rattle.gen_sim.specs.Lies.{Lies}
use Rattle.gen_sim.specs.Here.{Exits}
use Rattle.gen_sim.specs.Ways.{Outer, Left}
use Rattle.gen_sim.specs.TestCode.{Test, holds, test_op, opposite}

-- the test that holds where another one holds, or where it doesn't
abbrev pub test_where : Bool → Test → Test
test_where true t = t
test_where false t = opposite t

-- where the jumps of a left operand lead, which decides at a truth: with the whole, or to its end
abbrev pub aim : (decides when : Bool) → (to end : ℕ) → ℕ
aim true true to end = to
aim true false to end = end
aim false true to end = end
aim false false to end = to

-- a run is done from a test's jump on, which leads to an address and is taken
abbrev pub TakenDoes : Site → View → (to count : ℕ) → Run Way → (Way → World → Config → Type 0)
    → Type 0
TakenDoes x v to count run Q =
    (p : ℕ) (t : Test) (w : World) (c : Config) → Stands x.program x.room v [] p w c
    → holds t c.state.pri c.state.alt ≡ true
    → fetched x.amx.code p ≡ Some (read_as (with (test_op t) (pos to)))
    → DoesAt x count w c (run w) Q

-- or from an address on
abbrev pub FromDoes : Site → View → (p count : ℕ) → Run Way → (Way → World → Config → Type 0)
    → Type 0
FromDoes x v p count run Q =
    (w : World) (c : Config) → Stands x.program x.room v [] p w c → DoesAt x count w c (run w) Q

-- the items evaluate a condition, and what follows by its truth is done, where it is done from each
-- jump that is taken and from the end
pub record BranchCode (scope : Scope) (test : (x : Site) → Fewer → Run ℤ) (need : ℕ) (when : Bool)
    (to begin : ℕ) (items : List Item) : Type 0 where
  pub ends : (x : Site) → LieIn x begin items → past begin items < 2 ^ 31
  pub does : (x : Site) → IsSite x → x.program ≡ scope.program → (turns : ℕ) → CallsWithin x turns
      → (v : View) → Fits x.program x.room scope v → Lies x begin items
      → used x.program x.room v [] + need ≤ kept x.program x.room + sum v.needs
      → (e : Exits) (o : Outer) (around : View) (end d : ℕ) (off on : Run Way)
      → Grows off → Grows on
      → TakenDoes x v to (1 + d) (choose when on off) (Left x e o around end)
      → FromDoes x v (past begin items) d (choose when off on) (Left x e o around end)
      → (w : World) (c : Config) → Stands x.program x.room v [] begin w c
      → DoesAt x (length (item_cells items) + d) w c
      ((test x (with_turns x turns) >>= (λ y. at_zero y off on)) w) (Left x e o around end)
