-- Live cells are among all cells.
use Rattle.std.proofs.Common.{◌≤◌, ◌/◌, ◌%◌, ◌==◌, ℕ, ℤ, List, [], Bool, true, false, length, take, drop, nat_le, nat_lt}
use Rattle.std.proofs.Common.{arith, length-take, length-drop}
use Rattle.std.specs.Prelude.{if◌then◌else◌}
use Rattle.amx_ops.specs.State.{State}
use Rattle.amx_ops.specs.Moves.{live_from}

length_by : (aligned below from : Bool) (front all : List ℤ) (n : ℕ) → length front ≤ n → length all ≤ n
    → length (if aligned then (if below then front else (if from then all else [])) else []) ≤ n
length_by true true from front all n h k = h
length_by true false true front all n h k = k
length_by true false false front all n h k = omega arith
length_by false below from front all n h k = omega arith

pub live_length : (s : State) (at : ℕ) → length (live_from s at) ≤ length s.cells
live_length s at =
    length_by (at % 4 == 0) (nat_lt at s.hea) (nat_le s.stk at)
    (drop (at / 4) (take (s.hea / 4) s.cells)) (drop (at / 4) s.cells) (length s.cells)
    (omega (
      arith,
      length-drop (at / 4) (take (s.hea / 4) s.cells),
      length-take (s.hea / 4) s.cells,
    ))
    (omega (arith, length-drop (at / 4) s.cells))
