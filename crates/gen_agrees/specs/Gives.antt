-- What agreement gives: with room and bounds enough, a file shows all that its program means, and
-- ends so.
use Rattle.std.specs.Prelude.{◌≡◌, ◌≢◌, ◌+◌, ◌*◌, ◌≤◌, ℕ, ℤ, List, [], ◌∷◌, Some, length}
use Rattle.host_script.specs.declared.script.Script.{Script}
use Rattle.host_script.specs.declared.event.End.{End}
use Rattle.host_script.specs.declared.event.End.TheVariants.{Stray}
use Rattle.host_script.specs.Ranges.{IsScript}
use Rattle.pawn_meaning.specs.Program.{Program}
use Rattle.pawn_meaning.specs.Told.{Ended, Told, meaning, events_of}
use Rattle.amx_ops.specs.declared.amx.Amx.{Amx}
use Rattle.amx_ops.specs.Runs.{Over_by, Traced}
use Rattle.amx_ops.specs.Moves.{Config}
use Rattle.amx_ops.specs.Cuts.{slept_in}
use Rattle.amx_ops.specs.Trace.{Entry, address_of, trace_from}
use Rattle.gen_agrees.specs.Agrees.{Agrees, Serves, IsRoom, function_of}

-- each of some bounds is so great
abbrev pub AreAtLeast : ℕ → List ℕ → Type 0
AreAtLeast least [] = Unit {0}
AreAtLeast least (bound ∷ bounds) = (least ≤ bound) × AreAtLeast least bounds

-- a meaning that ended without a stray access, in a room of its peak and 16 cells, with a bound
-- more than it sleeps, each of so many steps for each turn
pub record HasEnough (told : Told) (end : End) (cells room : ℕ) (bounds : List ℕ) : Type 0 where
  pub ended : told.last ≡ Ended end
  pub astray : end ≢ Stray
  pub room_enough : told.peak + 16 ≤ room
  pub bounds_enough : AreAtLeast (cells * (told.turns + 1)) bounds
  pub sleeps : slept_in (events_of told.entries) + 1 ≤ length bounds

-- the trace shows these events, and has this end
pub record EndsAs (told : Told) (end : End) (t : Traced Config End) : Type 0 where
  pub stops : t.stop ≡ Over_by end
  pub events : t.config.events ≡ events_of told.entries

-- so it is for every program and file that agree, whatever script serves the natives
abbrev pub WhatAgreementGives : Type 0
WhatAgreementGives = (program : Program) (amx : Amx) → Agrees program amx
    → (script : Script) (room : ℕ) (entry : Entry) (f : ℕ) (address : ℤ) (bound : ℕ)
    (bounds : List ℕ)
    → IsScript script → Serves script program.natives → IsRoom amx room
    → function_of program entry ≡ Some f → address_of amx entry ≡ Some address
    → (limit : ℕ) (end : End) → HasEnough (meaning program script f limit) end
    (length amx.code) room (bound ∷ bounds)
    → EndsAs (meaning program script f limit) end (trace_from amx room script address bound bounds)
