-- What the definitions see of a value with its tag.
use Rattle.names_rules.specs.Worth as worth
use Rattle.names_sight.specs.declared.constants.Valued.{Valued}

-- the two together
abbrev pub valued_view : Valued → worth.Valued
valued_view x = record { value = x.value; tag = x.tag }
