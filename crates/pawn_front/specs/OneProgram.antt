-- A source has one program at most, and isn't refused where it has one.
use Rattle.std.specs.Prelude.{◌≡◌, ◌⊎◌, ℕ, List, Some}
use Rattle.pawn_outside.specs.Held.{Held}
use Rattle.pawn_meaning.specs.Program.{Program}
use Rattle.pawn_front.specs.declared.compiled.Warning.{Warning}
use Rattle.pawn_front.specs.declared.fault.CompileFault.{CompileFault}
use Rattle.pawn_front.specs.declared.fault.CompileFault.TheVariants.{Files, Memory}
use Rattle.pawn_front.specs.Faults.{NotCompiled}
use Rattle.pawn_front.specs.Means.{Means}

-- files and a name mean one program with one list of warnings, if any
abbrev pub ASourceHasOneProgram : Type 0
ASourceHasOneProgram =
    (held : Held) (name : List ℕ) (program other : Program) (warnings others : List Warning)
    → Means (Some held) name program warnings → Means (Some held) name other others
    → (program ≡ other) × (warnings ≡ others)

-- only files that fail or want of memory keep such a source from being compiled
abbrev pub WhatMeansIsNotRefused : Type 0
WhatMeansIsNotRefused =
    (held : Held) (name : List ℕ) (program : Program) (warnings : List Warning)
    (fault : CompileFault) → Means (Some held) name program warnings
    → NotCompiled (Some held) name fault → (fault ≡ Files) ⊎ (fault ≡ Memory)
