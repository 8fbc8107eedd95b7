-- A valid program never comes to an object, a function, a native or an automaton that it doesn't
-- have: whatever stands behind its own, it means the same.
use Rattle.std.specs.Prelude.{◌≡◌, ◌<◌, ◌++◌, ℕ, length}
use Rattle.host_script.specs.declared.script.Script.{Script}
use Rattle.pawn_meaning.specs.Program.{Program}
use Rattle.pawn_meaning.specs.Told.{meaning}
use Rattle.pawn_meaning.specs.Valid.{IsValid}

-- a program with the objects, functions, natives and automata of another behind its own
abbrev pub with_tables : Program → Program → Program
with_tables extra program = record program {
  objects = program.objects ++ extra.objects;
  functions = program.functions ++ extra.functions;
  natives = program.natives ++ extra.natives;
  automata = program.automata ++ extra.automata;
}

-- from each function, with each script, with at most so many turns
abbrev pub NumbersAreInRange : Type 0
NumbersAreInRange = (program : Program) → IsValid program
    → (extra : Program) (script : Script) (f limit : ℕ) → f < length program.functions
    → meaning (with_tables extra program) script f limit ≡ meaning program script f limit
