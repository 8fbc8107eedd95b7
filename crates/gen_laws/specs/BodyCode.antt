-- The code of a body: its statement, and behind it the value 0 and RETN. A function without a route
-- is PROC and its body.
use Rattle.std.specs.Prelude.{◌+◌, ℕ, List, [], ◌∷◌, ◌++◌, Bool, true, false}
use Rattle.pawn_meaning.specs.Program.{Slot, Body, Program}
use Rattle.pawn_meaning.specs.Valid.{body_scope}
use Rattle.amx_ops.specs.declared.op.Op.TheVariants as op
use Rattle.gen_sim.specs.Items.{Item}
use Rattle.gen_sim.specs.SimpleCode.{alone}
use Rattle.gen_sim.specs.Here.{Exits, Here}
use Rattle.gen_laws.specs.GoesOn.{never_goes_on}
use Rattle.gen_laws.specs.StmtCode.{stmt_items}

-- no loop is around a body
abbrev pub no_exits : Exits
no_exits = record { looped = false; broke = 0; continued = 0 }

-- where its statement stands
abbrev pub body_here : Program → List Slot → Body → Here
body_here program params body =
    record { scope = body_scope program params body; since = []; exits = no_exits }

-- a body left through its end gives 0. Where control never comes there RETN stands all the same, so
-- that an instruction starts where the statement ends
abbrev pub end_code : Bool → List Item
end_code true = alone op.Retn ∷ []
end_code false = alone op.ZeroPri ∷ alone op.Retn ∷ []

-- with its end behind it
abbrev pub body_items : Program → List Slot → ℕ → Body → List Item
body_items program params begin body =
    stmt_items (body_here program params body) begin body.stmt
    ++ end_code (never_goes_on body.stmt)

-- at the function's address PROC begins the frame
abbrev pub single_items : Program → List Slot → ℕ → Body → List Item
single_items program params begin body = alone op.Proc ∷ body_items program params (begin + 4) body
