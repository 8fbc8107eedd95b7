-- When a trace over bounds is that of a meaning, both ways.
use Rattle.std.specs.Prelude.{◌≡◌, ◌≢◌, ◌+◌, ◌*◌, ◌≤◌, ℕ, List, length}
use Rattle.host_script.specs.declared.event.End.{End}
use Rattle.host_script.specs.declared.event.End.TheVariants.{Stray}
use Rattle.pawn_meaning.specs.Told.{Ended, Told, events_of}
use Rattle.amx_ops.specs.Cuts.{slept_in}
use Rattle.amx_ops.specs.Moves.{Config}
use Rattle.amx_ops.specs.Runs.{Traced}
use Rattle.gen_agrees.specs.AgreesOn.{Meanings, IsPrefix, AgreesOn}
use Rattle.gen_agrees.specs.Gives.{AreAtLeast, HasEnough, EndsAs}

-- what is meant within a bound on turns, ended or not, met no stray access; the room has its peak
-- and 16 cells, and there is a bound more than it sleeps, each of so many steps for each turn and
-- one more
pub record HasEnoughSoFar (told : Told) (cells room : ℕ) (bounds : List ℕ) : Type 0 where
  pub astray : told.last ≢ Ended Stray
  pub room_enough : told.peak + 16 ≤ room
  pub bounds_enough : AreAtLeast (cells * (told.turns + 1)) bounds
  pub sleeps : slept_in (events_of told.entries) + 1 ≤ length bounds

-- for code of so many cells, in a room of so many
pub record IsTraceOf (means : Meanings) (cells room : ℕ) (bounds : List ℕ)
    (t : Traced Config End) : Type 0 where
  -- nothing but what is meant, and its end with it
  pub agrees : AgreesOn means cells room t
  -- all that is meant and its end, where it ends
  pub whole : (limit : ℕ) (end : End) → HasEnough (means limit) end cells room bounds
      → EndsAs (means limit) end t
  -- and all that is meant so far, whether it ends or not
  pub so_far : (limit : ℕ) → HasEnoughSoFar (means limit) cells room bounds
      → IsPrefix (events_of (means limit).entries) t.config.events
