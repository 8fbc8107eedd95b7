-- What keeps a machine from being ready, as the code meets it.
use Rattle.std.proofs.Common.{◌≡◌, ◌≢◌, inl, inr, ℤ, negsuc, Bool, true, false, None, Some}
use Rattle.std.proofs.Common.{Ok, Err, Result, if◌then◌else◌, refl, sym, ap, subst}
use Rattle.pawn_cells.specs.Cells.{equal}
use Rattle.host_script.specs.declared.script.Script.{Script}
use Rattle.amx_ops.specs.declared.amx.Amx.{Amx}
use Rattle.amx_ops.specs.Trace.{Main, address_of}
use Rattle.amx_machine.specs.Machine.{Machine}
use Rattle.command_parts.specs.Unread.{IsStopOf}
use Rattle.host_run.specs.declared.entry.TheConstants.{MAIN}
use Rattle.command_parts.specs.declared.stop.Stop.{Stop}
use Rattle.command_parts.specs.declared.stop.Stop.TheVariants.{NoEntry, FileFault}
use Rattle.commands.specs.declared.ready_file.ReadyFile.{ReadyFile}
use Rattle.commands.specs.ReadyFile.{IsReadyFile, NotReady, no_main, no_native, wants_memory}
use Rattle.commands.specs.ReadyFile.{ServesFile, Readies}
use Rattle.commands.proofs.PreparedLaws.{unserved_no_fault}

there_by : (b : Bool) (entry address : ℤ) → (if b then None else Some entry) ≡ Some address
    → (if b then None else Some entry) ≡ Some entry
there_by true entry address e = absurd (cc e)
there_by false entry address e = refl

module _ (amx : Amx) (script : Script) where
  -- main isn't there
  pub main_missing : (read : Amx) (stop : Stop) → read ≡ amx → None ≡ address_of read Main
      → IsStopOf (NoEntry MAIN) stop → NotReady amx script stop
  main_missing read stop same none (inl is) =
      let P : Stop → Type 0 = NotReady amx script in
      let Q : Amx → Type 0 = λ a. None ≡ address_of a Main in
      subst P (sym is) (no_main (sym (subst Q same none)))
  main_missing read stop same none (inr is) =
      let P : Stop → Type 0 = NotReady amx script in subst P (sym is) wants_memory

  -- it is
  pub main_there : (read : Amx) (address : ℤ) → read ≡ amx → Some address ≡ address_of read Main
      → address_of amx Main ≡ Some amx.entry
  main_there read address same some =
      let Q : Amx → Type 0 = λ a. Some address ≡ address_of a Main in
      there_by (equal amx.entry (negsuc 0)) amx.entry address (sym (subst Q same some))

  pub readies : (result : Result ReadyFile Stop) → address_of amx Main ≡ Some amx.entry
      → ServesFile amx script result → Readies amx script result
  readies (Ok ready) main serves = record { main = main; serves = serves }
  readies (Err stop) main none = no_native stop main none

  pub file_of : (ready : ReadyFile) → IsReadyFile amx script ready → ready.machine.amx ≡ amx
  file_of ready it = ap (λ (m : Machine). m.amx) it.serves.machine

  pub ready_itself : (ready : ReadyFile) → IsReadyFile amx script ready
      → IsReadyFile ready.machine.amx script ready
  ready_itself ready it =
      let P : Amx → Type 0 = λ a. IsReadyFile a script ready in subst P (sym (file_of ready it)) it

pub ready_no_fault : {amx : Amx} {script : Script} {stop : Stop} → NotReady amx script stop
    → stop ≢ FileFault
ready_no_fault (no_main none) = λ f. absurd (cc f)
ready_no_fault (no_native stop main none) = unserved_no_fault none
ready_no_fault wants_memory = λ f. absurd (cc f)
