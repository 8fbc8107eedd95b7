-- What is held after a file was to be put.
use Rattle.std.specs.Prelude.{◌≡◌, ℕ, List, Option, Result, Ok, Err}
use Rattle.pawn_outside.specs.Held.{Held, with_put, without}
use Rattle.command_parts.specs.declared.stop.Stop.{Stop}
use Rattle.command_parts.specs.declared.stop.Stop.TheVariants.{FileFault, NoMemory}

-- after a fault nothing is told of that name, and all others are as they were
pub data NotPut (held after : Option Held) (name : List ℕ) : Stop → Type 0 where
  failed : without after name ≡ without held name → NotPut held after name FileFault
  no_memory : after ≡ held → NotPut held after name NoMemory

-- under its name are these bytes, and all others are as they were; or it wasn't put
abbrev pub IsPut : {T : Type 0} → Option Held → Option Held → List ℕ → List ℕ → Result T Stop
    → Type 0
IsPut held after name bytes (Ok t) = after ≡ with_put held name bytes
IsPut held after name bytes (Err stop) = NotPut held after name stop
