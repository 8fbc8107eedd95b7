-- What reading a count of cells answers, and the cause of each refusal: the first in the order of
-- the bytes (Implementer's Guide, "File format", on compact encoding).
use Rattle.std.specs.Prelude.{◌≡◌, ◌<◌, ◌≤◌, ◌++◌, ℕ, List, [], ℤ, Option, None, Some, Result, Ok}
use Rattle.std.specs.Prelude.{Err, length}
use Rattle.amx_compact.specs.declared.fault.CompactFault.{CompactFault}
use Rattle.amx_compact.specs.declared.fault.CompactFault.TheVariants.{Short, OpenGroup}
use Rattle.amx_compact.specs.declared.fault.CompactFault.TheVariants.{GroupTooLong, TooMany, Memory}
use Rattle.amx_compact.specs.Spelled.{GoesOn, SpelledAll}

-- a number of cells, and then these bytes
pub record Leaves (bytes : List ℕ) (count : ℕ) (rest : List ℕ) : Type 0 where
  pub front : List ℕ
  pub cells : List ℤ
  pub spelled : SpelledAll cells front
  pub counted : length cells ≡ count
  pub whole : bytes ≡ front ++ rest

-- fewer cells than these, and then bytes that no cell begins
pub record Stops (bytes : List ℕ) (count : ℕ) (P : List ℕ → Type 0) : Type 0 where
  pub before : ℕ
  pub fewer : before < count
  pub rest : List ℕ
  pub leaves : Leaves bytes before rest
  pub stops : P rest

-- bytes that end within a cell
pub record IsOpen (bytes : List ℕ) : Type 0 where
  pub begun : 0 < length bytes
  pub short : length bytes ≤ 5
  pub goes_on : GoesOn bytes

-- five bytes that go on, and a sixth
pub record IsTooLong (bytes : List ℕ) : Type 0 where
  pub five : List ℕ
  pub more : List ℕ
  pub counted : length five ≡ 5
  pub goes_on : GoesOn five
  pub follows : 0 < length more
  pub whole : bytes ≡ five ++ more

-- what the bytes are, where this many cells are wanted. Want of memory has no cause here
abbrev pub Answers : List ℕ → ℕ → Result (List ℤ) CompactFault → Type 0
Answers bytes count (Ok cells) = SpelledAll cells bytes × (length cells ≡ count)
Answers bytes count (Err Short) = Stops bytes count (λ rest. rest ≡ [])
Answers bytes count (Err OpenGroup) = Stops bytes count IsOpen
Answers bytes count (Err GroupTooLong) = Stops bytes count IsTooLong
Answers bytes count (Err TooMany) = (rest : List ℕ) × Leaves bytes count rest × (0 < length rest)
Answers bytes count (Err Memory) = Unit {0}

-- the number that a refusal is printed with
abbrev pub number_of : CompactFault → Option ℕ
number_of Short = Some 80
number_of OpenGroup = Some 81
number_of GroupTooLong = Some 82
number_of TooMany = Some 83
number_of Memory = None

-- why no cell stands at the front
abbrev pub HasNoCell : List ℕ → CompactFault → Type 0
HasNoCell bytes Short = bytes ≡ []
HasNoCell bytes OpenGroup = IsOpen bytes
HasNoCell bytes GroupTooLong = IsTooLong bytes
HasNoCell bytes TooMany = ⊥
HasNoCell bytes Memory = ⊥
