-- The code of loops. Each pass begins with an instruction of its own: a jump back of its condition,
-- or a NOP.
use Rattle.std.specs.Prelude.{◌+◌, ℕ, List, [], ◌∷◌, ◌++◌, true}
use Rattle.pawn_meaning.specs.Program.{Slot}
use Rattle.amx_ops.specs.declared.op.Op.TheVariants as op
use Rattle.gen_sim.specs.Items.{Item, past}
use Rattle.gen_sim.specs.SimpleCode.{alone}
use Rattle.gen_sim.specs.JumpCode.{jump_to}
use Rattle.gen_sim.specs.Here.{Exits}
use Rattle.gen_sim.specs.FlowCode.{leave_code}

-- ---- a body, a step, and a condition behind them, whose jumps lead back to the body

-- behind the jump to the condition, which begins a loop
abbrev pub body_at : ℕ → ℕ
body_at top = top + 8

-- behind the body: `continue` leads here
abbrev pub step_at : ℕ → List Item → ℕ
step_at top body = past (body_at top) body

-- behind the step
abbrev pub loop_test : ℕ → (body step : List Item) → ℕ
loop_test top body step = past (step_at top body) step

-- behind the condition: `break` leads here
abbrev pub loop_end : ℕ → (test body step : List Item) → ℕ
loop_end top test body step = past (loop_test top body step) test

-- where `break` and `continue` of the body lead
abbrev pub loop_exits : ℕ → (test body step : List Item) → Exits
loop_exits top test body step =
    record { looped = true; broke = loop_end top test body step; continued = step_at top body }

-- a jump leads to the condition first
abbrev pub loop_code : ℕ → (test body step : List Item) → List Item
loop_code top test body step =
    jump_to op.Jump (loop_test top body step) ∷ (body ++ (step ++ test))

-- what it does first makes locals, which are dropped at its end
abbrev pub for_code : List Slot → List ℕ → ℕ → (first test body step : List Item) → List Item
for_code slots made begin first test body step =
    first ++ (loop_code (past begin first) test body step ++ leave_code slots made)

-- ---- a body, and a test behind it

-- behind the NOP and the body: `continue` leads here
abbrev pub test_at : ℕ → List Item → ℕ
test_at top body = past (top + 4) body

-- behind the jump that leaves the loop and the jump back: `break` leads here
abbrev pub until_end : ℕ → (body test : List Item) → ℕ
until_end top body test = past (test_at top body) test + 8 + 8

-- where `break` and `continue` of the body lead
abbrev pub until_exits : ℕ → (body test : List Item) → Exits
until_exits top body test =
    record { looped = true; broke = until_end top body test; continued = test_at top body }

-- `do`: a test that doesn't hold leaves the loop, and else a jump goes back to the NOP
abbrev pub until_code : ℕ → (body test : List Item) → List Item
until_code top body test =
    alone op.Nop ∷ (body ++ (test ++
    (jump_to op.Jzer (until_end top body test) ∷ jump_to op.Jump top ∷ [])))
