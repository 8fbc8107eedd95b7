-- When the trace of a file agrees with a meaning. The meaning is told for each bound on turns, the
-- trace stopped at an end, at a sleep or for want of steps.
use Rattle.std.specs.Prelude.{◌≡◌, ◌≢◌, ◌⊎◌, ◌+◌, ◌*◌, ◌<◌, ◌≤◌, ℕ, pos, Bool, true, false, List}
use Rattle.std.specs.Prelude.{[], ◌∷◌, ◌++◌, Some, length, map, slice_get}
use Rattle.host_script.specs.declared.event.Event.{Event}
use Rattle.host_script.specs.declared.event.End.{End}
use Rattle.host_script.specs.declared.event.End.TheVariants.{Error, Stray}
use Rattle.pawn_meaning.specs.World.{Entry}
use Rattle.pawn_meaning.specs.Told.{Last, Ended, Cut, Told, events_of}
use Rattle.amx_ops.specs.Runs.{Steps, Over_by, Traced}
use Rattle.amx_ops.specs.Moves.{Config}

-- what a program means, for each bound on turns
abbrev pub Meanings : Type 0
Meanings = ℕ → Told

-- some events are the first ones of others
pub record IsPrefix (first all : List Event) : Type 0 where
  pub rest : List Event
  pub all_is : first ++ rest ≡ all

-- an entry of a meaning, or its outcome, with the turns and the peak up to it
pub record Mark : Type 0 where
  pub turns : ℕ
  pub peak : ℕ
  pub is_cut : Bool

-- the turns were used up before an end
abbrev pub is_cut : Last → Bool
is_cut (Ended end) = false
is_cut Cut = true

-- where the events of a meaning stand, in their order, and then its outcome
abbrev pub marks : Told → List Mark
marks told =
    map (λ (entry : Entry). record { turns = entry.turns; peak = entry.peak; is_cut = false })
    told.entries
    ++ record { turns = told.turns; peak = told.peak; is_cut = is_cut told.last } ∷ []

module _ (means : Meanings) where
  -- the meaning has exactly these events and this end
  pub record Is (events : List Event) (end : End) : Type 0 where
    pub limit : ℕ
    pub events_are : events_of (means limit).entries ≡ events
    pub end_is : (means limit).last ≡ Ended end

  -- a stray access came within so many events
  pub record IsLost (count : ℕ) : Type 0 where
    pub limit : ℕ
    pub is_stray : (means limit).last ≡ Ended Stray
    pub within : length (means limit).entries ≤ count

  -- the live calls need more than the stack has, up to the event or end after so many
  pub record IsShort (count room : ℕ) : Type 0 where
    pub limit : ℕ
    pub mark : Mark
    pub next : slice_get (marks (means limit)) count ≡ Some mark
    pub deep : room < mark.peak + 16

  -- the events shown are the meaning's first ones
  pub record Shows (events : List Event) : Type 0 where
    pub limit : ℕ
    pub first : IsPrefix events (events_of (means limit).entries)

  -- the meaning's events were shown up to a stray access
  pub record ShowsUpToStray (events : List Event) : Type 0 where
    pub limit : ℕ
    pub is_stray : (means limit).last ≡ Ended Stray
    pub first : IsPrefix (events_of (means limit).entries) events

  -- for code of so many cells, in a room of so many
  pub record AgreesOn (cells room : ℕ) (t : Traced Config End) : Type 0 where
    -- events: none but the meaning's, in its order
    pub prefix : Shows t.config.events ⊎ ShowsUpToStray t.config.events
    -- end: an end other than error 3 is the meaning's
    pub end : (e : End) → t.stop ≡ Over_by e → e ≢ Error (pos 3)
        → IsLost (length t.config.events) ⊎ Is t.config.events e
    -- stack: error 3 is the meaning's, or the stack is short
    pub stack : t.stop ≡ Over_by (Error (pos 3))
        → IsLost (length t.config.events)
        ⊎ (Is t.config.events (Error (pos 3)) ⊎ IsShort (length t.config.events) room)
    -- steps: a bound is used up only below so many steps for each turn
    pub steps : t.stop ≡ Steps → (limit : ℕ) (mark : Mark)
        → slice_get (marks (means limit)) (length t.config.events) ≡ Some mark
        → mark.is_cut ≡ false → IsLost (length t.config.events)
        ⊎ (t.bound < cells * (mark.turns + 1))
