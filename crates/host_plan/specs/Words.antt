-- The parts of a line: what stands before and behind a byte, words of printable bytes, numbers.
use denote.Ref.{Bor}
use Rattle.std.specs.Prelude.{◌≡◌, ◌≢◌, ◌<◌, ◌≤◌, ◌^◌, ◌++◌, ◌∷◌, ◌&&◌, ℕ, List, Bool, All, Option}
use Rattle.std.specs.Prelude.{None, Some, nat_le}
use Rattle.std.specs.Fmt.{decimal}
use Rattle.std.specs.List.{list_all}

-- a byte stands nowhere among some
abbrev pub Lacks : ℕ → List ℕ → Type 0
Lacks byte bytes = All (λ it. it ≢ byte) bytes

-- what stands before and behind the first
pub record AreSides (byte : ℕ) (text front behind : List ℕ) : Type 0 where
  pub is : text ≡ front ++ byte ∷ behind
  pub first : Lacks byte front

-- or it stands nowhere
abbrev pub Splits : ℕ → List ℕ → Option (Bor (List ℕ) × Bor (List ℕ)) → Type 0
Splits byte text None = Lacks byte text
Splits byte text (Some it) = AreSides byte text it.0.now it.1.now

-- whether each is printable and no blank
abbrev pub are_graphic : List ℕ → Bool
are_graphic bytes = list_all (λ byte. nat_le 33 byte && nat_le byte 126) bytes

-- the number that a word spells, if it spells one
abbrev pub IsNumberOf : List ℕ → Option ℕ → Type 0
IsNumberOf word None = (number : ℕ) → number < 2 ^ 64 → word ≢ decimal number
IsNumberOf word (Some number) = word ≡ decimal number

-- the same below 2^32
abbrev pub IsSmallNumberOf : List ℕ → Option ℕ → Type 0
IsSmallNumberOf word None = (number : ℕ) → number < 2 ^ 32 → word ≢ decimal number
IsSmallNumberOf word (Some number) = word ≡ decimal number
