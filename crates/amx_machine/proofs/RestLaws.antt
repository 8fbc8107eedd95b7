-- What is seen of a state in a mode.
use Rattle.std.proofs.Common.{◌≡◌, ◌/◌, ℕ, ℤ, pos, List, length, replicate, refl, sym, ap, arith}
use Rattle.std.proofs.lemmas.List.{length-replicate}
use Rattle.pawn_cells.specs.Cells.{bits_of}
use Rattle.amx_ops.specs.declared.amx.Amx.{Amx}
use Rattle.amx_ops.specs.State.{State, swept}
use Rattle.amx_ops.specs.Moves.{live_from, arguments}
use Rattle.amx_step.specs.declared.host_registers.Registers.{Registers}
use Rattle.amx_step.specs.Hosting.{AreInOrder, registers_of, cleared}
use Rattle.amx_machine.specs.declared.mode.Mode.{Mode}
use Rattle.amx_machine.specs.declared.mode.Mode.TheVariants as mode
use Rattle.amx_machine.specs.Machine.{resting, IsClean}
use Rattle.amx_machine.proofs.SleepLaws.{swept_again, swept_length, live_stays, arguments_stay}
use Rattle.amx_machine.proofs.SleepLaws.{zeros_stay}

pub registers_in : (m : Mode) (s : State) → registers_of s ≡ registers_of (resting m s)
registers_in mode.Loaded s = refl
registers_in mode.Running s = refl
registers_in mode.Asleep s = refl
registers_in mode.Waiting s = refl
registers_in (mode.Halted code) s = refl
registers_in (mode.Failed code) s = refl

module _ (amx : Amx) (s : State) (o : AreInOrder amx s) where
  pub live_in : (m : Mode) (at : ℕ) → live_from s at ≡ live_from (resting m s) at
  live_in mode.Loaded at = refl
  live_in mode.Running at = refl
  live_in mode.Asleep at = sym (live_stays amx s o at)
  live_in mode.Waiting at = refl
  live_in (mode.Halted code) at = refl
  live_in (mode.Failed code) at = refl

  pub arguments_in : (m : Mode) → arguments s ≡ arguments (resting m s)
  arguments_in mode.Loaded = refl
  arguments_in mode.Running = refl
  arguments_in mode.Asleep = sym (arguments_stay amx s o)
  arguments_in mode.Waiting = refl
  arguments_in (mode.Halted code) = refl
  arguments_in (mode.Failed code) = refl

  pub length_in : (m : Mode) → length s.cells ≡ length (resting m s).cells
  length_in mode.Loaded = refl
  length_in mode.Running = refl
  length_in mode.Asleep = sym (swept_length amx s o)
  length_in mode.Waiting = refl
  length_in (mode.Halted code) = refl
  length_in (mode.Failed code) = refl

  pub clean_in : (m : Mode) → IsClean m (resting m s)
  clean_in mode.Loaded = tt
  clean_in mode.Running = tt
  clean_in mode.Asleep = swept_again amx s o
  clean_in mode.Waiting = tt
  clean_in (mode.Halted code) = tt
  clean_in (mode.Failed code) = tt

  asleep_in_order : AreInOrder amx (swept s)
  asleep_in_order =
      record {
        whole = o.whole;
        order =
            (o.order.0, o.order.1, omega (arith, o.order.2, swept_length amx s o));
      }

  pub order_in : (m : Mode) → AreInOrder amx (resting m s)
  order_in mode.Loaded = o
  order_in mode.Running = o
  order_in mode.Asleep = asleep_in_order
  order_in mode.Waiting = o
  order_in (mode.Halted code) = o
  order_in (mode.Failed code) = o

  pub cleared_in : (m : Mode) (r : Registers) → cleared r s ≡ cleared r (resting m s)
  cleared_in m r = ap (λ n. record (cleared r s) { cells = replicate n (pos 0) }) (length_in m)

-- cleared cells have nothing to sweep
pub cleared_rests : (amx : Amx) (s : State) (r : Registers) → AreInOrder amx (cleared r s)
    → cleared r s ≡ swept (cleared r s)
cleared_rests amx s r o =
    ap (λ (cells : List ℤ). record (cleared r s) { cells = cells })
    (sym (zeros_stay (length s.cells) (bits_of r.hea / 4) (bits_of r.stk / 4)
    (omega (arith, o.order.1))
    (omega (arith, o.order.2, length-replicate (length s.cells) (pos 0)))))
