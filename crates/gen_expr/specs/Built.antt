-- Code that grows, and what waits in it.
use Rattle.std.specs.Prelude.{ℕ, ℤ, List, ◌++◌, length}
use Rattle.gen_sim.specs.Items.{Item, item_cells, waits_from}

-- code so far
pub record Built : Type 0 where
  pub code : List ℤ
  -- the numbers of the cells that wait for a function's address, each with the function's
  pub waits : List (ℕ × ℕ)

-- with some items more at its end: what they wait for waits behind what waited before
abbrev pub with_items : List Item → Built → Built
with_items items b =
    record {
      code = b.code ++ item_cells items;
      waits = b.waits ++ waits_from (length b.code) items;
    }
