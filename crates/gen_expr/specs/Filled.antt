-- Code with another cell in the place of one that is there.
use Rattle.std.specs.Prelude.{ℕ, ℤ, slice_set}
use Rattle.gen_expr.specs.Built.{Built}

-- what waits stays the same
abbrev pub filled : ℕ → ℤ → Built → Built
filled at v b = record { code = slice_set b.code at v; waits = b.waits }
