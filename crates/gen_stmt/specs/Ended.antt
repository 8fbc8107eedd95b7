-- Cases that were appended to a draft: items by the address behind the whole, to which some jumps
-- lead, and by the exits.
use Rattle.std.specs.Prelude.{◌≡◌, ◌<◌, ◌≤◌, ℕ, pos, List, [], ◌∷◌, length}
use Rattle.gen_sim.specs.Items.{Item}
use Rattle.gen_sim.specs.Here.{Exits}
use Rattle.gen_expr.specs.Built.{with_items}
use Rattle.gen_stmt.specs.declared.draft.Draft.{Draft}
use Rattle.gen_stmt.specs.declared.draft.Hole.{Hole}
use Rattle.gen_stmt.specs.Led.{all_led, AreIn, AreOthers, led}
use Rattle.gen_stmt.specs.Grown.{IsDraft}

-- they are cells from one on
abbrev pub AreFrom : ℕ → List Hole → Type 0
AreFrom first [] = Unit {0}
AreFrom first (hole ∷ holes) = (first ≤ hole.at) × AreFrom first holes

-- none of them is one of others
abbrev pub AreApart : List Hole → List Hole → Type 0
AreApart [] holes = Unit {0}
AreApart (end ∷ ends) holes = AreOthers end.at holes × AreApart ends holes

-- r is o with these items behind it, once these jumps and those to exits are led
pub record Ended (o r : Draft) (ends : List Hole) (items : ℕ → Exits → List Item) : Type 0 where
  pub long : length o.code.code ≤ length r.code.code
  pub inside : IsDraft o → IsDraft r
  pub is : IsDraft o → (end : ℕ) (exits : Exits)
      → all_led (pos end) (pos 0) ends (led exits r) ≡ with_items (items end exits) (led exits o)
  pub free : (at : ℕ) → at < length o.code.code → AreOthers at o.holes → AreOthers at r.holes
  -- the jumps are cells of what was appended, and none of them is one to an exit
  pub ends_from : AreFrom (length o.code.code) ends
  pub ends_in : AreIn (length r.code.code) ends
  pub ends_apart : IsDraft o → AreApart ends r.holes
