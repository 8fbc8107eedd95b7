-- States that a machine comes to, and those that it can be set to at a sleep.
use Rattle.std.specs.Prelude.{◌≡◌, ◌%◌, ◌^◌, ◌<◌, ◌≤◌, All, IsTrue}
use Rattle.pawn_cells.specs.Cells.{IsCell}
use Rattle.amx_ops.specs.declared.amx.Amx.{Amx}
use Rattle.amx_ops.specs.Instructions.{is_start}
use Rattle.amx_ops.specs.State.{State, stp, first_hea, swept}
use Rattle.amx_ops.specs.Writable.{memory_limit}

-- what every state keeps: numbers in their ranges, and first HEA, HEA, STK and STP in their order,
-- in whole cells
pub record IsState (amx : Amx) (s : State) : Type 0 where
  pub pri : IsCell s.pri
  pub alt : IsCell s.alt
  pub frm : s.frm < 2 ^ 32
  pub cip : s.cip < 2 ^ 32
  pub cells : All IsCell s.cells
  pub size : stp s ≤ memory_limit
  pub whole : (s.hea % 4 ≡ 0) × (s.stk % 4 ≡ 0)
  pub order : (first_hea amx ≤ s.hea) × (s.hea ≤ s.stk) × (s.stk ≤ stp s)

-- one that an image can hold: it stands at an instruction, and what lies between heap and stack is
-- 0
pub record IsRestorable (amx : Amx) (s : State) : Type 0 where
  pub state : IsState amx s
  pub starts : IsTrue (is_start amx.code s.cip)
  pub clean : swept s ≡ s
