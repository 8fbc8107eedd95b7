-- What each answer of files and of a sink says.
use Rattle.std.specs.Prelude.{◌≡◌, ◌<◌, ◌≤◌, ℕ, List, Option, None, Some, length}
use Rattle.pawn_outside.specs.declared.files.ReadAnswer.{ReadAnswer}
use Rattle.pawn_outside.specs.declared.files.ReadAnswer.TheVariants.{Got, Missing, TooLarge}
use Rattle.pawn_outside.specs.declared.files.ReadAnswer.TheVariants.{Failed, Memory}
use Rattle.pawn_outside.specs.declared.files.PutAnswer.{PutAnswer}
use Rattle.pawn_outside.specs.declared.files.PutAnswer.TheVariants as put
use Rattle.pawn_outside.specs.declared.sink.WriteAnswer.{WriteAnswer}
use Rattle.pawn_outside.specs.declared.sink.WriteAnswer.TheVariants as write
use Rattle.pawn_outside.specs.Held.{Held, Tells, HoldsThat, with_put, without}
use Rattle.pawn_outside.specs.Taken.{with_more, WroteFront}

-- told or not, no more bytes come than the limit
abbrev pub IsRead : Option Held → List ℕ → ℕ → ReadAnswer → Type 0
IsRead held name limit (Got bytes) = Tells held name (Some bytes) × (length bytes ≤ limit)
IsRead held name limit Missing = Tells held name None
IsRead held name limit TooLarge = HoldsThat held name (λ bytes. limit < length bytes)
IsRead held name limit Failed = Unit {0}
IsRead held name limit Memory = Unit {0}

-- after a fault nothing is told of the name; all others are as they were
abbrev pub IsPut : Option Held → List ℕ → List ℕ → PutAnswer → Option Held → Type 0
IsPut old name bytes put.Kept new = new ≡ with_put old name bytes
IsPut old name bytes put.Failed new = without new name ≡ without old name
IsPut old name bytes put.Memory new = new ≡ old

-- a write takes all the bytes, or a prefix of them where it failed
abbrev pub IsWrite : Option (List ℕ) → List ℕ → WriteAnswer → Option (List ℕ) → Type 0
IsWrite old bytes write.Taken new = new ≡ with_more old bytes
IsWrite old bytes write.Failed new = WroteFront old new bytes
