-- Sources that C holds and compiles.
use Rattle.std.specs.Prelude.{◌≡◌, ◌++◌, ◌⊎◌, ℕ, ℤ, pos, List, Bool, true, false, Option, None}
use Rattle.std.specs.Prelude.{Some, Result, Ok, Err, length, take, drop, slice_get, IsUtf8}
use Rattle.pawn_base.specs.declared.memory.Memory.{Memory}
use Rattle.amx_format.specs.declared.encoding.Encoding.{Encoding}
use Rattle.amx_format.specs.declared.encoding.Encoding.TheVariants.{Plain, Compact}
use Rattle.pawn_front.specs.declared.compiled.Warning.{Warning}
use Rattle.host_compile.specs.Sources.{Answer, Sources}
use Rattle.host_compile.specs.Answers.{file_of, line_of, rule_of, status_of, warnings_of}
use Rattle.host_compile.specs.Compiles.{CompilesSo, HoldsSo, MakesIn}

-- 15 for want of memory
abbrev pub memory_code : {T : Type 0} → Result T Memory → ℤ
memory_code (Ok t) = pos 0
memory_code (Err memory) = pos 15

-- sources are made in a slot, or for want of memory not
abbrev pub MakesFor : Option Sources → ℤ → Option Sources → Type 0
MakesFor old code new =
    (answer : Result (Unit {0}) Memory) × MakesIn old answer new × (code ≡ memory_code answer)

-- a name that isn't UTF-8 is 3, and nothing is changed
abbrev pub IsNoName : List ℕ → Sources → ℤ → Sources → Type 0
IsNoName name old code new = (¬ IsUtf8 name) × (code ≡ pos 3) × (new ≡ old)

-- a name is given bytes, or for want of memory not
abbrev pub IsHeld : Sources → List ℕ → List ℕ → ℤ → Sources → Type 0
IsHeld old name bytes code new =
    (answer : Result (Unit {0}) Memory) × HoldsSo old name bytes answer new
    × (code ≡ memory_code answer)

-- one of the two
abbrev pub HoldsFor : Sources → List ℕ → List ℕ → ℤ → Sources → Type 0
HoldsFor old name bytes code new =
    IsHeld old name bytes code new ⊎ IsNoName name old code new

-- how code and data stand in the file
abbrev pub encoding_of : Bool → Encoding
encoding_of true = Compact
encoding_of false = Plain

-- what a source comes to is kept, and its status told
abbrev pub CompilesFor : Sources → List ℕ → Bool → ℤ → Sources → Type 0
CompilesFor old name compact code new =
    (CompilesSo old name (encoding_of compact) new × (code ≡ status_of new.answer))
    ⊎ IsNoName name old code new

-- ---- what it came to

-- as many bytes of a name as there is room for, its size and a line
abbrev pub IsTold : List ℕ → ℕ → List ℕ → List ℕ → ℕ × ℕ → Type 0
IsTold name line old new told =
    (new ≡ take (length old) name ++ drop (length name) old) × (told ≡ (length name, line))

-- of a warning, or 20 and nothing changed where there is none
abbrev pub IsWarning : Option Warning → ℤ → List ℕ → List ℕ → ℕ × ℕ → ℕ × ℕ → Type 0
IsWarning (Some it) code old new before told =
    (code ≡ pos 0) × IsTold it.file it.line old new told
IsWarning None code old new before told = (code ≡ pos 20) × (new ≡ old) × (told ≡ before)

-- with a number
abbrev pub WarnsFor : Option Answer → ℕ → ℤ → List ℕ → List ℕ → ℕ × ℕ → ℕ × ℕ → Type 0
WarnsFor answer number = IsWarning (slice_get (warnings_of answer) number)

-- the number of the rule that is broken, with its place
abbrev pub RefusesFor : Option Answer → ℤ → List ℕ → List ℕ → ℕ × ℕ → Type 0
RefusesFor answer code old new told =
    (code ≡ pos (rule_of answer)) × IsTold (file_of answer) (line_of answer) old new told
