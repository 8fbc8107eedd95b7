-- What holds of the number of each call in some items.
use Rattle.std.specs.Prelude.{ℕ, List, [], ◌∷◌}
use Rattle.gen_sim.specs.Items.{Item, Plain, CallOf}

-- plain instructions have none
abbrev pub AreCalled : (ℕ → Type 0) → List Item → Type 0
AreCalled C [] = Unit {0}
AreCalled C (Plain it ∷ items) = AreCalled C items
AreCalled C (CallOf f ∷ items) = C f × AreCalled C items
