-- What holds behind the code of a condition, as the definitions of code have it.
use Rattle.std.specs.Prelude.{Option, option_map}
use Rattle.gen_sim.specs.TestCode.{Test, IsZero, IsSet, AreSame, AreOther, IsLess, IsAtMost}
use Rattle.gen_sim.specs.TestCode.{IsGreater, IsAtLeast}
use Rattle.gen_expr.specs.declared.conditions.Test as held
use Rattle.gen_expr.specs.declared.conditions.Test.TheVariants as by

-- by its name
abbrev pub test_view : held.Test → Test
test_view by.IsZero = IsZero
test_view by.IsSet = IsSet
test_view by.AreSame = AreSame
test_view by.AreOther = AreOther
test_view by.IsLess = IsLess
test_view by.IsAtMost = IsAtMost
test_view by.IsGreater = IsGreater
test_view by.IsAtLeast = IsAtLeast

-- where there is one
abbrev pub perhaps_test : Option held.Test → Option Test
perhaps_test t = option_map test_view t
