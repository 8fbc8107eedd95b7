-- Cells that C writes, and where those of a start stand.
use Rattle.std.specs.Prelude.{◌≡◌, ℕ, ℤ, pos, List, Bool, Option, None, Some}
use Rattle.host_embed.specs.Held.{Held}
use Rattle.host_embed.specs.Memory.{TellsText, WritesSo, WritesText}
use Rattle.host_embed.specs.Starts.{place_of}
use Rattle.sulkhen_c.specs.Shows.{Codes}
use Rattle.sulkhen_c.specs.Sees.{told}

-- all of them, or none
abbrev pub WritesFor : Held → ℤ → List ℤ → ℤ → Held → Type 0
WritesFor old at cells code new =
    Codes {T = Unit {0}} (λ answer. WritesSo old at cells answer new) code

-- all cells of a text, or none
abbrev pub WritesTextFor : Held → ℤ → Bool → List ℕ → ℤ → Held → Type 0
WritesTextFor old at packed text code new =
    Codes {T = Unit {0}} (λ answer. WritesText old at packed text answer new) code

-- the characters of a text, and their count
abbrev pub TextFor : Held → ℤ → ℤ → List ℤ → List ℤ → ℕ → ℕ → Type 0
TextFor old at code out out' size size' =
    Codes (λ answer. TellsText old.machine at out answer out' × (size' ≡ told answer size)) code

-- an address, or 3 where there is none
abbrev pub IsPlace : Option ℤ → ℤ → ℤ → ℤ → Type 0
IsPlace (Some place) code old new = (code ≡ pos 0) × (new ≡ place)
IsPlace None code old new = (code ≡ pos 3) × (new ≡ old)

-- of so many cells
abbrev pub PlacesFor : Held → ℕ → ℤ → ℤ → ℤ → Held → Type 0
PlacesFor old count code place place' new =
    IsPlace (place_of old.machine.state.cells count) code place place' × (new ≡ old)
