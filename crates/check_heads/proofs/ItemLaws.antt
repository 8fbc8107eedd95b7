-- The value of a constant that doesn't stand.
use Rattle.std.proofs.Common.{◌≡◌, ◌<◌, ◌≢◌, None, refl, arith}
use Rattle.names_rules.specs.Verdict.{Verdict, Stands, Breaks}
use Rattle.types_rules.specs.Constants.{Constant}
use Rattle.types_rules.specs.Enums.{value_of}
use Rattle.check_nodes.specs.declared.fault.PartFault.{PartFault}
use Rattle.check_nodes.specs.declared.fault.PartFault.TheVariants.{Source, Fallen, Memory}
use Rattle.check_nodes.specs.PartAnswers.{FailsPart}

pub no_value : (w : Verdict Constant) (fault : PartFault)
    → FailsPart w fault → fault ≢ Memory → value_of w ≡ None
no_value (Breaks found) fault h ne = refl
no_value (Stands it) (Source kind place) h ne =
    let k : h.cause.0 < 0 = h.cause.1 in absurd (omega (arith, k))
no_value (Stands it) Fallen h ne = absurd (cc h.cause)
no_value (Stands it) Memory h ne = absurd (ne refl)
