-- The world of a run: what is alive, what the host was shown, and what was used up.
use Rattle.std.specs.Prelude.{ℕ, List, [], ◌∷◌, ◌++◌, None, max, map, length, replicate}
use Rattle.host_script.specs.declared.event.Event.{Event}
use Rattle.pawn_meaning.specs.Program.{StaticObject, Program}
use Rattle.pawn_meaning.specs.Memory.{Object, Frame, Memory, live_need}

-- an event with the turns and the peak up to it
pub record Entry : Type 0 where
  pub event : Event
  pub turns : ℕ
  pub peak : ℕ

-- the state of a run at one moment
pub record World : Type 0 where
  pub memory : Memory
  -- what the host was shown
  pub entries : List Entry
  -- how many answers of the script were taken
  pub position : ℕ
  -- the passes into loops' bodies and the calls so far
  pub turns : ℕ
  -- the greatest need of all calls alive together so far
  pub peak : ℕ
  -- at the beginning of each call, the entry's too, the functions of all calls that were alive,
  -- with the new one, the innermost first
  pub chains : List (List ℕ)

-- ---- before the run

-- an object with its first cells
abbrev pub first_object : StaticObject → Object
first_object it = record { sizes = it.sizes; cells = it.first }

-- each automaton is in no state
abbrev pub first_memory : Program → Memory
first_memory program = record {
  objects = map first_object program.objects;
  frames = [];
  heap = [];
  states = replicate (length program.automata) None;
}

-- the world in which a program begins
abbrev pub first_world : Program → World
first_world program = record {
  memory = first_memory program;
  entries = [];
  position = 0;
  turns = 0;
  peak = 0;
  chains = [];
}

-- ---- how it goes on

-- the host was shown an event
abbrev pub said : Event → World → World
said event w =
    record w {
      entries = w.entries
          ++ record { event = event; turns = w.turns; peak = w.peak } ∷ [];
    }

-- the functions of frames
abbrev pub chain_of : List Frame → List ℕ
chain_of frames = map (λ (frame : Frame). frame.function) frames

-- other frames, with the peak and the chain that they make
abbrev pub with_frames : List Frame → World → World
with_frames frames w = record w {
  memory = record w.memory { frames = frames };
  peak = max w.peak (live_need frames);
  chains = w.chains ++ chain_of frames ∷ [];
}

-- a call is alive
abbrev pub entered : Frame → World → World
entered frame w = with_frames (frame ∷ w.memory.frames) w

-- all frames but the innermost
abbrev pub but_first : List Frame → List Frame
but_first [] = []
but_first (frame ∷ frames) = frames

-- and isn't any more
abbrev pub left : World → World
left w = record w { memory = record w.memory { frames = but_first w.memory.frames } }
