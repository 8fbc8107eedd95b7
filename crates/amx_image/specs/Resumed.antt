-- A run and its resumes, each from an image of where the one before fell asleep.
use Rattle.std.specs.Prelude.{◌≡◌, ◌++◌, ℕ, List, [], ◌∷◌}
use Rattle.std.specs.List.{flat_map}
use Rattle.host_script.specs.declared.script.Script.{Script}
use Rattle.host_script.specs.declared.event.End.{End}
use Rattle.host_script.specs.Ranges.{IsScript}
use Rattle.host_script.specs.Text.{event_text}
use Rattle.amx_ops.specs.declared.amx.Amx.{Amx}
use Rattle.amx_ops.specs.Keeps.{IsRunnable}
use Rattle.amx_ops.specs.Moves.{Config, move}
use Rattle.amx_ops.specs.Runs.{Stop, Steps, Asleep, Over_by, segment, joined}
use Rattle.amx_ops.specs.State.{State}
use Rattle.amx_ops.specs.States.{IsState, IsRestorable}
use Rattle.amx_image.specs.declared.version.Version.{Version}
use Rattle.amx_image.specs.Image.{IsImage}

-- no bytes are the images of two versions, states or positions
abbrev pub AnImageIsOfOneState : Type 0
AnImageIsOfOneState = (amx : Amx) (v w : Version) (s t : State) (p q : ℕ) (digest bytes : List ℕ)
    → IsRestorable amx s → IsRestorable amx t
    → IsImage v s p digest bytes → IsImage w t q digest bytes → (v ≡ w) × (s ≡ t) × (p ≡ q)

-- ---- a segment goes on where another fell asleep

-- nothing was shown yet
abbrev pub begun : State → ℕ → Config
begun s position = record { state = s; position = position; events = [] }

-- a state and a position that were read of an image of another state and position
pub record IsHandedOn (amx : Amx) (digest : List ℕ) (saved : Config) (s : State)
    (position : ℕ) : Type 0 where
  pub bytes : List ℕ
  pub saved_as : Version
  pub read_as : Version
  pub saved_in : IsImage saved_as saved.state saved.position digest bytes
  pub read : IsImage read_as s position digest bytes
  pub restorable : IsRestorable amx s

-- the lines of what was shown, and why the last segment stopped
pub record Written : Type 0 where
  pub lines : List ℕ
  pub stop : Stop End

-- of a configuration in which the last segment stopped
abbrev pub written : Config → Stop End → Written
written c stop = record { lines = flat_map event_text c.events; stop = stop }

-- with lines before
abbrev pub behind : Config → Written → Written
behind c w = record { lines = flat_map event_text c.events ++ w.lines; stop = w.stop }

-- what is written from a configuration on by a segment and, while it falls asleep, by further ones
-- from images, with a bound each
abbrev pub Writes : Amx → Script → List ℕ → Config → ℕ → List ℕ → Written → Type 0
Writes amx script digest c bound [] all =
    let made = segment (move amx script) bound 0 c in all ≡ written made.config made.stop
Writes amx script digest c bound (next ∷ bounds) all =
    let made = segment (move amx script) bound 0 c in elim made.stop [
      | Steps ↦ all ≡ written made.config made.stop
      | Asleep ↦
          (s : State) × (position : ℕ) × (rest : Written) × IsHandedOn amx digest made.config s position
          × Writes amx script digest (begun s position) next bounds rest
          × (all ≡ behind made.config rest)
      | Over_by e ↦ all ≡ written made.config made.stop
    ]

-- that is what the trace over the bounds shows, and why it stops
pub record ImagesKeepTheTrace : Type 0 where
  -- the segment from what was read is the segment from what was saved
  pub segments : (amx : Amx) (script : Script) (bound : ℕ) (digest : List ℕ) (saved : Config)
      (s : State) (position : ℕ) → IsRestorable amx saved.state
      → IsHandedOn amx digest saved s position
      → segment (move amx script) bound 0 (begun s position)
      ≡ segment (move amx script) bound 0 (begun saved.state saved.position)
  pub traces : (amx : Amx) (script : Script) (bound : ℕ) (bounds : List ℕ) (digest : List ℕ)
      (c : Config) (all : Written) → IsRunnable amx → IsScript script
      → IsState amx c.state → Writes amx script digest c bound bounds all
      → all ≡ (let t = joined (move amx script) bound bounds c in written t.config t.stop)
