-- What keeps a program from its start.
use Rattle.std.proofs.Common.{◌≡◌, ◌≢◌, ◌∙◌, ℕ, List, None, Some, inl, inr}
use Rattle.std.proofs.Common.{sym, ap, subst}
use Rattle.host_script.specs.declared.script.Script.{Script}
use Rattle.amx_ops.specs.declared.amx.Amx.{Amx}
use Rattle.host_run.specs.Bound.{unserved}
use Rattle.amx_ops.specs.Moves.{name_of}
use Rattle.amx_machine.specs.Machine.{Machine}
use Rattle.command_parts.specs.declared.stop.Stop.{Stop}
use Rattle.command_parts.specs.declared.stop.Stop.TheVariants.{NoEntry, Unregistered, FileFault}
use Rattle.command_parts.specs.Unread.{IsStopOf}
use Rattle.command_parts.specs.declared.program.Program.{Program}
use Rattle.commands.specs.declared.ready_segment.ReadySegment.{ReadySegment}
use Rattle.host_run.specs.Entry.{address_named}
use Rattle.commands.specs.Prepared.{IsPrepared, NoStart, no_entry, wants_memory}
use Rattle.commands.specs.ReadySegment.{program_of}
use Rattle.commands.specs.Served.{HasUnserved, unregistered, no_memory}

pub unserved_is : (amx : Amx) (script : Script) (number : ℕ) (name : List ℕ) (stop : Stop)
    → unserved script amx.natives ≡ Some number
    → name ≡ name_of amx.natives number → IsStopOf (Unregistered name) stop
    → HasUnserved amx script stop
unserved_is amx script number name stop first e (inl is) =
    let P : Stop → Type 0 = HasUnserved amx script in
    subst P (sym (is ∙ ap Unregistered e)) (unregistered number first)
unserved_is amx script number name stop first e (inr is) =
    let P : Stop → Type 0 = HasUnserved amx script in subst P (sym is) no_memory

pub entry_missing : (program : Program) (name : List ℕ) (stop : Stop)
    → address_named program.file name ≡ None → IsStopOf (NoEntry name) stop
    → NoStart program name stop
entry_missing program name stop none (inl is) =
    let P : Stop → Type 0 = NoStart program name in subst P (sym is) (no_entry none)
entry_missing program name stop none (inr is) =
    let P : Stop → Type 0 = NoStart program name in subst P (sym is) wants_memory

-- ---- the program that a machine is ready for

module _ (program : Program) (ready : ReadySegment) (is : IsPrepared program ready) where
  pub prepared_file : ready.machine.amx ≡ program.file
  prepared_file = ap (λ (m : Machine). m.amx) is.machine

  pub prepared_program : program_of ready ≡ program
  prepared_program =
      ap (λ (file : Amx). record { file = file; digest = ready.digest; script = ready.script })
      prepared_file
      ∙ ap (λ digest. record { file = program.file; digest = digest; script = ready.script })
      is.digest
      ∙ ap (λ script. record { file = program.file; digest = program.digest; script = script })
      is.script

  pub is_prepared : IsPrepared (program_of ready) ready
  is_prepared = subst (λ it. IsPrepared it ready) (sym prepared_program) is

-- ---- none of these is a fault of the files

pub entry_no_fault : (name : List ℕ) (stop : Stop) → IsStopOf (NoEntry name) stop → stop ≢ FileFault
entry_no_fault name stop (inl is) = λ f. absurd (cc (is, f))
entry_no_fault name stop (inr is) = λ f. absurd (cc (is, f))

pub unserved_no_fault : {amx : Amx} {script : Script} {stop : Stop} → HasUnserved amx script stop
    → stop ≢ FileFault
unserved_no_fault (unregistered number first) = λ f. absurd (cc f)
unserved_no_fault no_memory = λ f. absurd (cc f)
