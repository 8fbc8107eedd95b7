-- Where division that rounds towards zero differs from division that rounds down.
use Rattle.std.specs.Prelude.{◌⊎◌, ℤ, pos, ◌≤ℤ◌, ◌<ℤ◌}

-- the remainder, which has the dividend's sign, has another one than the divisor
abbrev pub IsOpposite : ℤ → ℤ → Type 0
IsOpposite rest d = ((pos 0 <ℤ rest) × (d <ℤ pos 0)) ⊎ ((rest <ℤ pos 0) × (pos 0 ≤ℤ d))
