-- The file of a program: it has a main where the program has one, and by its agreement its runs
-- tell what the program means.
use Rattle.std.proofs.Common.{◌≡◌, ◌≢◌, ℕ, negsuc, None, Some, if◌then◌else◌, replicate, ap, subst}
use Rattle.std.proofs.Common.{arith}
use Rattle.std.proofs.lemmas.Bool.{false_from_ne_true}
use Rattle.std.proofs.lemmas.Bool.Decides.{Decides-int_eq}
use Rattle.pawn_cells.specs.Cells.{equal}
use Rattle.host_script.specs.declared.script.Script.{Script}
use Rattle.host_script.specs.Ranges.{IsScript}
use Rattle.pawn_meaning.specs.Program.{Program}
use Rattle.amx_ops.specs.declared.amx.Amx.{Amx}
use Rattle.amx_ops.specs.Trace.{Main, address_of}
use Rattle.gen_agrees.specs.Agrees.{Agrees, IsRoom, Serves}
use Rattle.gen_agrees.specs.Shape.{HasEntry}
use Rattle.run_laws.proofs.WholeLaws.{agreement_is_whole_lem}
use Rattle.commands.specs.Meant.{IsMeant}
use Rattle.commands.specs.Served.{AreServed}
use Rattle.commands.proofs.BoundNativeLaws.{serves}

module _ (program : Program) (amx : Amx) (agrees : Agrees program amx) (f : ℕ)
    (main : program.entry ≡ Some f) where
  has_main : amx.entry ≢ negsuc 0
  has_main = subst (λ entry. HasEntry entry amx.entry) main agrees.shape.entry

  pub main_address : address_of amx Main ≡ Some amx.entry
  main_address =
      ap (λ b. if b then None else Some amx.entry) (false_from_ne_true (equal amx.entry (negsuc 0))
      (λ same. has_main ((Decides-int_eq amx.entry (negsuc 0)).0 same)))

  within : IsRoom amx amx.room
  within = omega (arith, agrees.shape.writable.memory)

  pub meant : (steps sleeps : ℕ) (script : Script) → IsScript script → AreServed amx script
      → IsMeant program f amx script steps sleeps
  meant steps sleeps script keeps served =
      let all : Serves script program.natives =
      serves script amx.natives program.natives agrees.shape.natives served in
      agreement_is_whole_lem program amx agrees script amx.room Main f amx.entry steps
      (replicate sleeps steps) keeps all within main main_address
