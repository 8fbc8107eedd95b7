-- The stop at a source that isn't compiled.
use Rattle.std.proofs.Common.{◌≡◌, ◌∙◌, inl, inr, ℕ, List, Option, refl, sym}
use Rattle.pawn_outside.specs.Held.{Held}
use Rattle.pawn_front.specs.declared.fault.CompileFault.{CompileFault}
use Rattle.pawn_front.specs.declared.fault.CompileFault.TheVariants as compile
use Rattle.pawn_front.specs.Faults.{NotCompiled}
use Rattle.command_parts.specs.declared.stop.Stop.{Stop}
use Rattle.command_parts.specs.declared.stop.Stop.TheVariants as stop
use Rattle.command_parts.specs.Unread.{IsStopOf}
use Rattle.commands.specs.Made.{NoSource, stop_of}

pub source_stop : (held : Option Held) (src : List ℕ) (fault : CompileFault) (told : Stop)
    → NotCompiled held src fault
    → IsStopOf (stop_of src fault) told → NoSource held src told
source_stop held src fault told cause (inl e) = record { fault = fault; cause = cause; is = e }
source_stop held src fault told cause (inr e) =
    record { fault = compile.Memory; cause = tt; is = e }

files_only : (src : List ℕ) (fault : CompileFault) → stop_of src fault ≡ stop.FileFault
    → fault ≡ compile.Files
files_only src (compile.Refused kind file line) e = absurd (cc e)
files_only src compile.NoSource e = absurd (cc e)
files_only src (compile.TooLarge name) e = absurd (cc e)
files_only src compile.Files e = refl
files_only src compile.Memory e = absurd (cc e)

-- a fault of the files is told only where they failed
pub stop_fault : (src : List ℕ) (fault : CompileFault) (told : Stop)
    → IsStopOf (stop_of src fault) told → told ≡ stop.FileFault → fault ≡ compile.Files
stop_fault src fault told (inl e) f = files_only src fault (sym e ∙ f)
stop_fault src fault told (inr e) f = absurd (cc (e, f))
