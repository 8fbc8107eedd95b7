-- A source that has a program, and a script that is one, stop no `go`.
use Rattle.std.proofs.Common.{◌≡◌, ◌⊎◌, ℕ, List, Option, None, Some, inl, inr, sym, subst}
use Rattle.pawn_outside.specs.Held.{Held}
use Rattle.host_script.specs.declared.script.Script.{Script}
use Rattle.pawn_meaning.specs.Program.{Program}
use Rattle.pawn_front.specs.declared.compiled.Warning.{Warning}
use Rattle.pawn_front.specs.declared.fault.CompileFault.{CompileFault}
use Rattle.pawn_front.specs.declared.fault.CompileFault.TheVariants as compile
use Rattle.pawn_front.specs.Means.{Means}
use Rattle.pawn_front.proofs.SourceLaws.{what_means_is_not_refused}
use Rattle.amx_ops.specs.declared.amx.Amx.{Amx}
use Rattle.amx_ops.specs.Trace.{Main, address_of}
use Rattle.command_parts.specs.declared.stop.Stop.{Stop}
use Rattle.command_parts.specs.ScriptFile.{IsNoScript}
use Rattle.commands.specs.Made.{NoSource, stop_of}
use Rattle.command_parts.specs.declared.command.GoWords.{GoWords}
use Rattle.commands.specs.Goes.{NotGood, no_source, no_natives}
use Rattle.commands.specs.Natives.{HasNatives, LacksNatives}
use Rattle.commands.specs.Served.{AreServed, unregistered, no_memory}
use Rattle.commands.specs.ReadyFile.{NotReady, no_main, no_native, wants_memory}
use Rattle.commands.specs.Good as good
use Rattle.commands.specs.Good.{IsFree}
use Rattle.commands.specs.GoodSource.{GoodSourcesGo}
use Rattle.commands.proofs.GoodLaws.{read_free, same_bytes, faultless}

-- the stop at a fault of the files, or at want of memory
free_stop : (src : List ℕ) (fault : CompileFault)
    → (fault ≡ compile.Files) ⊎ (fault ≡ compile.Memory) → IsFree (stop_of src fault)
free_stop src fault (inl e) =
    let P : CompileFault → Type 0 = λ f. IsFree (stop_of src f) in subst P (sym e) good.file_fault
free_stop src fault (inr e) =
    let P : CompileFault → Type 0 = λ f. IsFree (stop_of src f) in subst P (sym e) good.no_memory

module _ (map : Held) where
  source_free : (src : List ℕ) (program : Program) (warnings : List Warning) (stop : Stop)
      → Means (Some map) src program warnings
      → NoSource (Some map) src stop → IsFree stop
  source_free src program warnings stop means none =
      subst IsFree (sym none.is) (free_stop src none.fault
      (what_means_is_not_refused map src program warnings none.fault means none.cause))

  natives_free : (script : Option (List ℕ)) (natives : Script) (stop : Stop)
      → HasNatives (Some map) script natives → LacksNatives (Some map) script stop
      → IsFree stop
  natives_free None natives stop is e =
      let P : Stop → Type 0 = IsFree in subst P (sym e) good.no_memory
  natives_free (Some name) natives stop is (inl unread) = read_free map name _ stop is unread
  natives_free (Some name) natives stop is (inr none) =
      let P : List ℕ → Type 0 = λ b. IsNoScript b stop in
      let at = subst P (same_bytes map name is none) none.is in
      absurd (faultless is.bytes natives is.is at.fault at.has at.refused)

  reads : (words : GoWords) (program : Program) (warnings : List Warning) (script : Script)
      (stop : Stop)
      → Means (Some map) words.src program warnings
      → HasNatives (Some map) words.script script
      → NotGood (Some map) words stop → IsFree stop
  reads words program warnings script stop means natives (no_source none) =
      source_free words.src program warnings stop means none
  reads words program warnings script stop means natives (no_natives it made none) =
      natives_free words.script script stop natives none

starts : (amx : Amx) (script : Script) (stop : Stop) → address_of amx Main ≡ Some amx.entry
    → AreServed amx script → NotReady amx script stop → IsFree stop
starts amx script stop main served (no_main none) = absurd (cc (main, none))
starts amx script stop main served (no_native cause there (unregistered number first)) =
    absurd (cc (served, first))
starts amx script stop main served (no_native cause there no_memory) = good.no_memory
starts amx script stop main served wants_memory = good.no_memory

pub good_sources : GoodSourcesGo
good_sources = record { made = source_free; read = reads; starts = starts }
