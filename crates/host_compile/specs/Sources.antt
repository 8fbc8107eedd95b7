-- What contracts see of sources in memory.
use Rattle.std.specs.Prelude.{ℕ, List, Option, None, Result}
use Rattle.std.specs.FinMap.{empty, insert}
use Rattle.pawn_outside.specs.Held.{Held}
use Rattle.pawn_front.specs.declared.compiled.Compiled.{Compiled}
use Rattle.pawn_front.specs.declared.fault.CompileFault.{CompileFault}

-- what a source that was compiled came to
abbrev pub Answer : Type 0
Answer = Result Compiled CompileFault

-- the bytes by name, and what the last source that was compiled came to
pub record Sources : Type 0 where
  pub held : Held
  pub answer : Option Answer

-- no source
abbrev pub no_sources : Sources
no_sources = record { held = empty; answer = None }

-- the name holds these bytes
abbrev pub with_source : Sources → List ℕ → List ℕ → Sources
with_source it name bytes = record it { held = insert it.held name bytes }
