-- What its own events alone give a machine of a host.
use Rattle.std.specs.Prelude.{◌≡◌, ◌==◌, ℕ, List, Some, filter, map, slice_get}
use Rattle.host_many.specs.declared.turn.Turn.{Turn}
use Rattle.host_many.specs.Own.{Guest, own}
use Rattle.host_many.specs.Serves.{Line, Serving, machine_of, served}

-- those of one machine, in their order
abbrev pub events_of : ℕ → List Turn → List Turn
events_of machine turns = filter (λ turn. machine_of turn == machine) turns

-- the lines with its number, in their order, without it
abbrev pub lines_of : ℕ → List Line → List (List ℕ)
lines_of machine lines = map (λ line. line.text) (filter (λ line. line.machine == machine) lines)

-- its lines and its state are those that its own events give
pub record IsItsOwn (machine : ℕ) (g : Guest) (turns : List Turn) (it : Serving) : Type 0 where
  pub lines : lines_of machine it.lines ≡ (own g (events_of machine turns)).lines
  pub guest : slice_get it.guests machine ≡ Some (own g (events_of machine turns)).guest

-- so it is of each machine
abbrev pub EachIsItsOwn : Type 0
EachIsItsOwn = (guests : List Guest) (turns : List Turn) (machine : ℕ) (g : Guest)
    → slice_get guests machine ≡ Some g → IsItsOwn machine g turns (served guests turns)

-- two servings agree on a machine
pub record AgreeOn (machine : ℕ) (a b : Serving) : Type 0 where
  pub lines : lines_of machine a.lines ≡ lines_of machine b.lines
  pub guest : slice_get a.guests machine ≡ slice_get b.guests machine

-- two hosts that agree on a machine and on its events give it the same lines and state
abbrev pub NoneSeesAnother : Type 0
NoneSeesAnother = (a b : List Guest) (s t : List Turn) (machine : ℕ) (g : Guest)
    → slice_get a machine ≡ Some g → slice_get b machine ≡ Some g
    → events_of machine s ≡ events_of machine t
    → AgreeOn machine (served a s) (served b t)
