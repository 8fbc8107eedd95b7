-- Images that C saves and restores.
use Rattle.std.specs.Prelude.{◌≡◌, ℕ, ℤ, List}
use Rattle.host_embed.specs.Held.{Held}
use Rattle.host_embed.specs.Images.{RestoresSo, SavesSo}
use Rattle.sulkhen_c.specs.Shows.{Codes}
use Rattle.sulkhen_c.specs.Sees.{told}

-- at a sleep alone
abbrev pub SavesFor : Held → ℕ → ℤ → Held → Type 0
SavesFor old position code new =
    Codes {T = Unit {0}} (λ answer. SavesSo old position answer new) code

-- with the number that was kept, or nothing changed
abbrev pub RestoresFor : Held → List ℕ → ℤ → ℕ → ℕ → Held → Type 0
RestoresFor old bytes code kept kept' new =
    Codes (λ answer. RestoresSo old bytes answer new × (kept' ≡ told answer kept)) code
