-- A row that is among the first of some rows, or among those behind them.
use Rattle.std.proofs.Common.{◌≡◌, Option, None, Some, is_some, IsTrue, refl, sym}
use Rattle.std.proofs.lemmas.Bool.{false≢true}
use Rattle.std.proofs.lemmas.Option.{none-some}
use Rattle.amx_ops.specs.Table.{Row}
use Rattle.amx_step.specs.Machine.{Machine}
use Rattle.amx_step.specs.Groups.{first}
use Rattle.amx_step.specs.Done.{IsReady}

pub first_some : (o rest : Option Row) → IsTrue (is_some o) → first o rest ≡ o
first_some None rest h = absurd (false≢true h)
first_some (Some row) rest h = refl

pub ready_first : (m : Machine) (o rest : Option Row) → IsReady m (first o rest) → IsReady m o
ready_first m None rest h = tt
ready_first m (Some row) rest h = h

pub ready_rest : (m : Machine) (o rest : Option Row) → IsReady m (first o rest) → o ≡ None
    → IsReady m rest
ready_rest m None rest h e = h
ready_rest m (Some row) rest h e = absurd (none-some row (sym e))
