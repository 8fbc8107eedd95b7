-- What a machine does for a run of the meaning: it reaches what the run gives, stops as the run
-- does, or the stack was short at a world on the way.
use Rattle.std.specs.Prelude.{◌≡◌, ◌+◌, ◌*◌, ◌<◌, ◌≤◌, ◌⊎◌, ℕ, pos}
use Rattle.host_script.specs.declared.event.End.{End}
use Rattle.host_script.specs.declared.event.End.TheVariants.{Done, Exit, Error, Stray}
use Rattle.pawn_meaning.specs.World.{World}
use Rattle.pawn_meaning.specs.Run.{Outcome, Gives, Stops, More}
use Rattle.pawn_meaning.specs.Told.{events_of}
use Rattle.pawn_meaning.specs.Later.{Later}
use Rattle.amx_ops.specs.Runs.{Moved, Finish, Over, iterate}
use Rattle.amx_ops.specs.Moves.{Config}

-- the machine goes on, or is over
pub data How : Type 0 where
  Running : How
  Closed : End → How

-- nothing is said of the machine from a stray access on
abbrev pub how_of : End → How
how_of (Done v) = Closed (Done v)
how_of (Exit v tag) = Closed (Exit v tag)
how_of (Error code) = Closed (Error code)
how_of Stray = Running

-- a whole run gives no value
abbrev pub nothing : ⊥ → World → Config → Type 0
nothing a w t = Unit {0}

module _ (mv : Config → Moved Config End) (cells room : ℕ) where
  -- where a machine is after so many steps more: one that is over stays as it is
  abbrev pub iterated : How → Config → ℕ → Finish Config End
  iterated Running t k = iterate mv k t
  iterated (Closed e) t k = Over e t

  -- from s with u turns done, the machine comes to where the world is w; c is the code's share of
  -- the steps, beside that of each turn
  pub record Reach (c u : ℕ) (s : Config) (w : World) (how : How)
      (P : Config → Type 0) : Type 0 where
    pub steps : ℕ
    pub config : Config
    pub by : (k : ℕ) → iterate mv (steps + k) s ≡ iterated how config k
    pub said : config.events ≡ events_of w.entries
    pub least : w.turns ≤ steps + u
    pub most : steps + cells * u ≤ c + cells * w.turns
    pub holds : P config

  -- error 3 at a world on the way to w, whose live calls need more than there is
  pub record Short (c u : ℕ) (s : Config) (w : World) : Type 0 where
    pub at : World
    pub later : Later at w
    pub deep : room < at.peak + 16
    pub reach : Reach c u s at (Closed (Error (pos 3))) (λ t. Unit {0})

  -- what an outcome asks of the machine, unless the stack was short on the way
  abbrev pub Then : {A : Type 0} → ℕ → ℕ → Config → Outcome A → (A → World → Config → Type 0)
      → Type 0
  Then c u s (Gives a w) Q = Short c u s w ⊎ Reach c u s w Running (Q a w)
  Then c u s (Stops e w) Q = Short c u s w ⊎ Reach c u s w (how_of e) (λ t. Unit {0})
  Then c u s (More w) Q = Short c u s w ⊎ Reach c u s w Running (λ t. Unit {0})

  -- the machine does what gives this outcome, as a record of its own
  pub record Does {A : Type 0} (c u : ℕ) (s : Config) (o : Outcome A)
      (Q : A → World → Config → Type 0) : Type 0 where
    pub does : Then c u s o Q
