-- What bytes that are read by their name are.
use Rattle.std.proofs.Common.{◌≡◌, ◌∙◌, ◌≤◌, ◌⊎◌, ℕ, List, Option, Some, Err, Ok, Result}
use Rattle.std.proofs.Common.{inl, inr, sym, subst, length}
use Rattle.pawn_outside.specs.Held.{Held, Tells}
use Rattle.host_script.specs.declared.script.Script.{Script}
use Rattle.amx_ops.specs.declared.amx.Amx.{Amx}
use Rattle.script_reader.specs.declared.fault.ScriptFault.{ScriptFault}
use Rattle.script_reader.specs.declared.fault.ScriptFault.TheVariants.{Json, Shape, Range, Memory}
use Rattle.script_reader.specs.Reading.{ReadsScript}
use Rattle.command_parts.specs.declared.stop.Stop.{Stop}
use Rattle.command_parts.specs.declared.stop.Stop.TheVariants.{FileFault, NoMemory}
use Rattle.command_parts.specs.Unread.{IsRead, Unread, no_memory}
use Rattle.command_parts.specs.ScriptFile.{IsScriptRead, IsScriptFileRead, IsScriptOf, IsNoScript}
use Rattle.command_parts.specs.ScriptFile.{NoScript, stop_at}
use Rattle.command_parts.specs.declared.script.TheConstants.{SCRIPT_LIMIT}
use Rattle.command_parts.specs.Program.{IsFileNamed, NoProgram, no_script}

module _ {held : Option Held} {name bytes lent : List ℕ} {limit : ℕ}
    (tells : Tells held name (Some bytes) × (length bytes ≤ limit)) (same : lent ≡ bytes) where
  -- they keep this
  pub read_is : (P : List ℕ → Type 0) → P lent → IsRead held name limit P
  read_is P it =
      record { bytes = bytes; tells = tells.0; within = tells.1; is = subst P same it }

  -- or stop a command
  pub stops_so : (P : List ℕ → Type 0) (stop : Stop) → (stop ≡ NoMemory) ⊎ P lent
      → Unread held name limit stop ⊎ IsRead held name limit P
  stops_so P stop (inl memory) =
      let Q : Stop → Type 0 = Unread held name limit in inl (subst Q (sym memory) no_memory)
  stops_so P stop (inr it) = inr (read_is P it)

-- ---- scripts

pub fault_found : (bytes : List ℕ) (fault : ScriptFault) (stop : Stop)
    → ReadsScript bytes (Err fault) → stop ≡ stop_at fault
    → IsScriptRead bytes (Err stop)
fault_found bytes Json stop h e =
    inr (record { fault = Json; has = h; refused = λ f. absurd (cc f); stop_is = e })
fault_found bytes (Shape field) stop h e =
    inr (record { fault = Shape field; has = h; refused = λ f. absurd (cc f); stop_is = e })
fault_found bytes (Range field) stop h e =
    inr (record { fault = Range field; has = h; refused = λ f. absurd (cc f); stop_is = e })
fault_found bytes Memory stop h e = inl e

pub script_named : (held : Option Held) (name : List ℕ) {bytes lent : List ℕ}
    (result : Result Script Stop)
    → Tells held name (Some bytes) × (length bytes ≤ SCRIPT_LIMIT) → lent ≡ bytes
    → IsScriptRead lent result → IsScriptFileRead held name result
script_named held name (Ok script) tells e it = read_is tells e (λ b. IsScriptOf b script) it
script_named held name (Err stop) tells e it = stops_so tells e (λ b. IsNoScript b stop) stop it

stop_no_fault : (fault : ScriptFault) → stop_at fault ≡ FileFault → ⊥
stop_no_fault Json e = absurd (cc e)
stop_no_fault (Shape field) e = absurd (cc e)
stop_no_fault (Range field) e = absurd (cc e)
stop_no_fault Memory e = absurd (cc e)

pub script_no_fault : (bytes : List ℕ) (result : Result Script Stop) → IsScriptRead bytes result
    → result ≡ Err FileFault → ⊥
script_no_fault bytes (Ok script) it e = absurd (cc e)
script_no_fault bytes (Err stop) (inl memory) e = absurd (cc (memory, e))
script_no_fault bytes (Err stop) (inr none) e =
    let is : stop ≡ FileFault = cc e in stop_no_fault none.fault (sym none.stop_is ∙ is)

-- behind a good file
pub script_stops : (held mid : Option Held) (amx script : List ℕ) (stop : Stop) (file : Amx)
    (digest : List ℕ) → mid ≡ held
    → IsFileNamed held amx file digest → NoScript mid script stop
    → NoProgram held amx script stop
script_stops held mid amx script stop file digest same good none =
    let P : Option Held → Type 0 = λ h. NoScript h script stop in
    no_script file digest good (subst P same none)
