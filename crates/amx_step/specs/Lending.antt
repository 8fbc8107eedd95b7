-- What a machine ends as, once a part of its memory that was lent is given back.
use Rattle.std.specs.Prelude.{ℕ, ℤ, List}
use Rattle.std.specs.Borrow.{Lends, MutBor, Fml, Array, i32}
use Rattle.amx_step.specs.Machine.{Machine}
use Rattle.amx_step.specs.Hosting.{with_live}
use Rattle.amx_step.specs.contracts.registers.Core.{the_row}

-- the live memory from an address on is lent, and what it ends as is written there
abbrev pub LendsLive : MutBor Machine → ℕ → MutBor (List ℤ) → Fml
LendsLive m at part =
    Lends the_row (Array i32 0) m part
    (λ new. record m.now { state = with_live m.now.state at new })
