-- Worlds one after another: how one lies on the way to another, and how the runs for two bounds on
-- turns are related.
use Rattle.std.specs.Prelude.{◌≡◌, ◌+◌, ◌≤◌, ◌⊎◌, ℕ, List, ◌++◌}
use Rattle.pawn_meaning.specs.Extends.{Rises}
use Rattle.pawn_meaning.specs.Run.{Outcome, Gives, Stops, More, Run}
use Rattle.pawn_meaning.specs.World.{Entry, World}

-- one world lies on the way to another: entries come at the end, turns and peak never fall
pub record Later (w x : World) : Type 0 where
  pub new : List Entry
  pub entries : x.entries ≡ w.entries ++ new
  pub rises : Rises w.turns w.peak new x.turns x.peak

-- the world that a run comes to
abbrev pub world_of : {A : Type 0} → Outcome A → World
world_of (Gives a w) = w
world_of (Stops end w) = w
world_of (More w) = w

-- a run that only grows
pub record Grows {A : Type 0} (run : Run A) : Type 0 where
  pub at : (w : World) → Later w (world_of (run w))

-- a world with one turn more
abbrev pub bump : World → World
bump w = record w { turns = w.turns + 1 }

-- t is the lesser bound and m the greater one
module _ (t m : ℕ) (least : t ≤ m) where
  -- an end within the lesser bound stays; a cut has used it up, and stays or has one turn more
  abbrev pub Below : {A : Type 0} → Outcome A → Outcome A → Type 0
  Below (Gives a x) r = (x.turns ≤ t) × (r ≡ Gives a x)
  Below (Stops end x) r = (x.turns ≤ t) × (r ≡ Stops end x)
  Below (More x) r = (x.turns ≡ t) × ((r ≡ More x) ⊎ Later (bump x) (world_of r))
