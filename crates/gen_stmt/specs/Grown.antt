-- What was appended to code whose exits aren't known yet: items by the exits, whatever these are.
use Rattle.std.specs.Prelude.{◌≡◌, ◌<◌, ◌≤◌, ℕ, List, length}
use Rattle.gen_sim.specs.Items.{Item}
use Rattle.gen_sim.specs.Here.{Exits}
use Rattle.gen_expr.specs.Built.{with_items}
use Rattle.gen_stmt.specs.declared.draft.Draft.{Draft}
use Rattle.gen_stmt.specs.Led.{AreIn, AreOthers, led}

-- the jumps to exits are cells of the code
abbrev pub IsDraft : Draft → Type 0
IsDraft d = AreIn (length d.code.code) d.holes

-- r is o with these items behind it, once the jumps to exits are led
pub record Grown (o r : Draft) (items : Exits → List Item) : Type 0 where
  -- no cell is lost
  pub long : length o.code.code ≤ length r.code.code
  pub inside : IsDraft o → IsDraft r
  pub is : IsDraft o → (exits : Exits) → led exits r ≡ with_items (items exits) (led exits o)
  -- no cell that was there becomes the operand of a jump to an exit
  pub free : (at : ℕ) → at < length o.code.code → AreOthers at o.holes → AreOthers at r.holes
