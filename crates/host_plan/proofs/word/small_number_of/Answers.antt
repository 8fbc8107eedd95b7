use Rattle.std.proofs.Common.{◌∙◌, sym, arith}
use Rattle.std.proofs.lemmas.Fmt.{decimal_injective}
use Rattle.host_plan.proofs.word.small_number_of.Goals as goal

pub returns-else-number-le4294967295 : goal.returns-else-number-le4294967295
returns-else-number-le4294967295 c = λ n small is.
    (let same =
    decimal_injective c.in_ok-number.number n (omega arith) (omega (arith, small))
    (sym c.in_ok-number.ensures ∙ is) in
    omega (arith, same, small, c.if-number-le4294967295.false))
