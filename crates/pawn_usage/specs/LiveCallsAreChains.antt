-- The calls that are alive in a run are chains.
use Rattle.std.specs.Prelude.{ℕ, All, Contains, reverse}
use Rattle.host_script.specs.declared.script.Script.{Script}
use Rattle.pawn_meaning.specs.Program.{Program}
use Rattle.pawn_meaning.specs.Told.{meaning}
use Rattle.pawn_usage.specs.Chains.{starts, IsChain}

-- at the beginning of each call, the entry's too, the functions of all calls that are alive are a
-- chain, the innermost being its last. Between two such moments calls only end, so that what is
-- alive is none or the front of a chain
abbrev pub LiveCallsAreChains : Type 0
LiveCallsAreChains = (program : Program) (script : Script) (f limit : ℕ)
    → Contains (starts program) f
    → All (λ live. IsChain program (reverse live)) (meaning program script f limit).chains
