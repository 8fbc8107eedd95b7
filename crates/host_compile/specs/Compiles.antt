-- Sources that are held and compiled.
use Rattle.std.specs.Prelude.{◌≡◌, ◌≢◌, ℕ, List, Option, Some, Result, Ok, Err}
use Rattle.amx_format.specs.declared.encoding.Encoding.{Encoding}
use Rattle.pawn_front.specs.declared.fault.CompileFault.TheVariants.{Files}
use Rattle.pawn_front.specs.Compiled.{Compiles}
use Rattle.host_compile.specs.Sources.{Answer, Sources, no_sources, with_source}

-- sources are made in a slot, which for want of memory is as it was
abbrev pub MakesIn : {T E : Type 0} → Option Sources → Result T E → Option Sources → Type 0
MakesIn old (Ok t) new = new ≡ Some no_sources
MakesIn old (Err e) new = new ≡ old

-- a source is held, or for want of memory nothing is changed
abbrev pub HoldsSo : {T E : Type 0} → Sources → List ℕ → List ℕ → Result T E → Sources → Type 0
HoldsSo old name bytes (Ok t) new = new ≡ with_source old name bytes
HoldsSo old name bytes (Err e) new = new ≡ old

-- the answer agrees with what the source means over these files, which never fail
abbrev pub IsAnswer : Sources → List ℕ → Encoding → Answer → Type 0
IsAnswer it name encoding answer =
    Compiles (Some it.held) name encoding answer × (answer ≢ Err Files)

-- it is kept
abbrev pub CompilesSo : Sources → List ℕ → Encoding → Sources → Type 0
CompilesSo old name encoding new =
    (answer : Answer) × IsAnswer old name encoding answer
    × (new ≡ record old { answer = Some answer })
