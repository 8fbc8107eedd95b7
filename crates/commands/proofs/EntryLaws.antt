-- A start at a number is one at its address.
use Rattle.std.proofs.Common.{◌≡◌, ◌∙◌, zero, suc, ℤ, pos, negsuc, [], Some, option_and_then, ap}
use Rattle.std.proofs.lemmas.List.Elements.{All-nil}
use Rattle.pawn_cells.specs.Cells.{IsCell}
use Rattle.amx_ops.specs.declared.amx.Amx.{Amx}
use Rattle.amx_ops.specs.State.{State}
use Rattle.amx_ops.specs.States.{IsState}
use Rattle.amx_ops.specs.Keeps.{IsRunnable}
use Rattle.amx_ops.specs.Trace.{Main, Public, start_at}
use Rattle.amx_ops.proofs.KeepsLaws.{keeps_states}
use Rattle.amx_machine.specs.Starts.{address_by}

-- a start at a number is one at its address, and leaves a state in its form
module _ (amx : Amx) (s t : State) (address : ℤ) (runs : IsRunnable amx) (h : IsState amx s)
    (e : start_at amx address [] s ≡ Some t) where
  pub started_is : (number : ℤ) → address_by amx number ≡ Some address → IsState amx t
  started_is (pos n) at =
      keeps_states.starts amx (Public n) [] s t runs (All-nil IsCell) h
      (ap (option_and_then (λ a. start_at amx a [] s)) at ∙ e)
  started_is (negsuc zero) at =
      keeps_states.starts amx Main [] s t runs (All-nil IsCell) h
      (ap (option_and_then (λ a. start_at amx a [] s)) at ∙ e)
  started_is (negsuc (suc n)) at = absurd (cc at)
