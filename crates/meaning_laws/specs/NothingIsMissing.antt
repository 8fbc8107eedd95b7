-- A valid program asks for nothing that isn't there: no slot that wasn't made, no place of the
-- wrong size or kind, nothing past the cells of an object. Whatever end stands for that, it means
-- the same. So it comes to a stray access only where `meaning_with` still has one: by an index
-- outside an array whose size isn't known, by a native that can't see an argument by its form, or
-- from a function with parameters.
use Rattle.std.specs.Prelude.{◌≡◌, ◌<◌, ℕ, length}
use Rattle.host_script.specs.declared.script.Script.{Script}
use Rattle.host_script.specs.NativeCall.{Trap}
use Rattle.pawn_meaning.specs.Program.{Program}
use Rattle.pawn_meaning.specs.Told.{meaning}
use Rattle.pawn_meaning.specs.Valid.{IsValid}
use Rattle.meaning_laws.specs.MeaningWith.{meaning_with}

-- from each function, with each script, with at most so many turns
abbrev pub NothingIsMissing : Type 0
NothingIsMissing = (program : Program) → IsValid program
    → (missing : Trap) (script : Script) (f limit : ℕ) → f < length program.functions
    → meaning_with missing program script f limit ≡ meaning program script f limit
