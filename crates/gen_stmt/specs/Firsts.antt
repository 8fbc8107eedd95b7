-- A condition and the first of two parts, with a jump over the second one.
use Rattle.std.specs.Prelude.{ℕ, List, [], ◌∷◌, ◌++◌}
use Rattle.amx_ops.specs.declared.op.Op.TheVariants as op
use Rattle.gen_sim.specs.Items.{Item, past}
use Rattle.gen_sim.specs.JumpCode.{jump_to}
use Rattle.gen_sim.specs.FlowCode.{else_at}

-- the condition by where its jumps lead, and the part by its address
abbrev pub first_code : (begin end : ℕ) → (condition first : ℕ → List Item) → List Item
first_code begin end condition first =
    let p = past begin (condition 0) in
    let one = first p in
    (condition (else_at p one) ++ one) ++ jump_to op.Jump end ∷ []
