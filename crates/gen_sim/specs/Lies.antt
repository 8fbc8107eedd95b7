-- Items that lie in a file from an address on, with an instruction behind them.
use Rattle.std.specs.Prelude.{ℕ, List}
use Rattle.gen_sim.specs.Site.{Site, Starts}
use Rattle.gen_sim.specs.Items.{Item, past, LieIn}

-- items are there, and an instruction starts where they end
pub record Lies (x : Site) (p : ℕ) (items : List Item) : Type 0 where
  pub lie : LieIn x p items
  pub starts : Starts x (past p items)
