-- A loop with a test behind its body by its parts, each by its address, and the body by its exits
-- too.
use Rattle.std.specs.Prelude.{◌+◌, ℕ, List, [], ◌∷◌, ◌++◌, true}
use Rattle.amx_ops.specs.declared.op.Op.TheVariants as op
use Rattle.gen_sim.specs.Items.{Item, past}
use Rattle.gen_sim.specs.SimpleCode.{alone}
use Rattle.gen_sim.specs.JumpCode.{jump_to}
use Rattle.gen_sim.specs.Here.{Exits}

-- exits of a loop whose end isn't known yet
abbrev pub nowhere : Exits
nowhere = record { looped = true; broke = 0; continued = 0 }

-- a body from an address on, and a test behind it
abbrev pub until_tail : ℕ → (Exits → ℕ → List Item) → (ℕ → List Item) → List Item
until_tail p body test =
    let next = past (p + 4) (body nowhere (p + 4)) in
    let more = test next in
    let all =
    body (record { looped = true; broke = past next more + 8 + 8; continued = next })
    (p + 4) in
    alone op.Nop ∷ (all ++ (more ++
    (jump_to op.Jzer (past (past (p + 4) all) more + 8 + 8) ∷ jump_to op.Jump p ∷ [])))
