-- What the code answers for a line to be expanded.
use Rattle.std.specs.Prelude.{◌≡◌, ℕ, Option, Some, None, Result, Ok, Err, List, length, take}
use Rattle.std.specs.Prelude.{false}
use Rattle.pawn_pre.specs.declared.refusal.Refusal.{Refusal}
use Rattle.pawn_pre.specs.declared.refusal.Refusal.TheVariants as refusal
use Rattle.pawn_pre.specs.declared.substitution.Spot.{Spot}
use Rattle.pawn_pre.specs.Substitution.{Cursor, is_long}

-- the same value or the same fault; want of memory is free
abbrev pub Tells : {A : Type 0} → Result A ℕ → Result A Refusal → Type 0
Tells outcome (Ok value) = outcome ≡ Ok value
Tells outcome (Err (refusal.Fault kind)) = outcome ≡ Err kind
Tells outcome (Err refusal.Memory) = Unit {0}

-- as many bytes as show that a line is too long: one more than the most
unfoldable pub up_to_long : List ℕ → List ℕ
up_to_long bytes = take 4096 bytes

-- the whole text, or bytes in its place where both are too long for a line
abbrev pub IsCut : List ℕ → List ℕ → Type 0
IsCut whole built =
    (is_long (length built) ≡ is_long (length whole)) ×
    (is_long (length built) ≡ false → built ≡ whole)

-- the same of a text that is there
abbrev pub IsCutOf : List ℕ → Option (List ℕ) → Type 0
IsCutOf built None = ⊥
IsCutOf built (Some whole) = IsCut whole built

-- what stands from a place on
abbrev pub IsPlace : Option (List ℕ) → Option (List ℕ) → Type 0
IsPlace found None = found ≡ None
IsPlace found (Some built) = IsCutOf built found

-- the bytes before a place, and what stands from it on
abbrev pub IsCursor : Option Cursor → List ℕ → List ℕ → Type 0
IsCursor None before built = ⊥
IsCursor (Some cursor) before built = (cursor.before ≡ before) × IsCut cursor.after built

-- the same of a place that was found
abbrev pub IsSpot : Option Cursor → Option Spot → Type 0
IsSpot found None = found ≡ None
IsSpot found (Some spot) = IsCursor found spot.before.now spot.after
