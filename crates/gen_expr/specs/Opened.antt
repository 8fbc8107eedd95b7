-- What an update does before it makes the new value: the address goes below what was there, in ALT,
-- and the operand.
use Rattle.std.specs.Prelude.{List, [], ◌∷◌, ◌++◌}
use Rattle.pawn_meaning.specs.Program.{Scalar}
use Rattle.amx_ops.specs.declared.op.Op.TheVariants as op
use Rattle.gen_sim.specs.Items.{Item}
use Rattle.gen_sim.specs.SimpleCode.{alone}
use Rattle.gen_sim.specs.AccessCode.{load_code}

-- the address still waits on the stack; what was there comes to ALT and the operand to PRI
abbrev pub opened_code : Scalar → List Item
opened_code p =
    alone op.PopAlt ∷ alone op.PushAlt ∷ alone op.Xchg ∷ (load_code p ++ alone op.Xchg ∷ [])
