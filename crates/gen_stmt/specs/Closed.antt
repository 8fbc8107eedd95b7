-- What stands behind a loop's parts, with its body's jumps led to its exits.
use Rattle.std.specs.Prelude.{◌+◌, ◌*◌, ℤ, pos, List, [], ◌∷◌, length}
use Rattle.amx_ops.specs.declared.op.Op.TheVariants as op
use Rattle.gen_sim.specs.SimpleCode.{taking}
use Rattle.gen_expr.specs.Built.{Built, with_items}
use Rattle.gen_stmt.specs.declared.draft.Draft.{Draft}
use Rattle.gen_stmt.specs.declared.draft.Hole.{Hole}
use Rattle.gen_stmt.specs.Led.{all_led}

-- behind a loop's condition, whose jumps lead back to the body: the loop ends there
abbrev pub closed_by : Draft → (start more : ℤ) → List Hole → Built
closed_by told start more holes =
    all_led (pos (4 * length told.code.code)) more holes
    (all_led start (pos 0) told.holes told.code)

-- behind a test at the end: the jump out of the loop, and the jump back to the top
abbrev pub ended_by : (top more : ℤ) → List Hole → Built → Built
ended_by top more holes b =
    let end = pos (4 * length b.code + 16) in
    all_led end more holes (with_items (taking op.Jzer end ∷ taking op.Jump top ∷ []) b)
