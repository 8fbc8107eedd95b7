-- Tests by which a jump is taken, and what stands before it.
use Rattle.std.specs.Prelude.{ℤ, List, ◌++◌, pos, Bool, true, not as no, Option}
use Rattle.std.specs.Prelude.{None, Some}
use Rattle.pawn_cells.specs.declared.operator.Comparison.{Comparison}
use Rattle.pawn_cells.specs.declared.operator.Comparison.TheVariants as comparison
use Rattle.pawn_cells.specs.Cells.{is_zero, equal, less, less_eq}
use Rattle.amx_ops.specs.declared.op.Op.{Op}
use Rattle.amx_ops.specs.declared.op.Op.TheVariants as op
use Rattle.gen_sim.specs.Items.{Item}
use Rattle.gen_sim.specs.OperandCode.{Right, Known, Placed, Waiting, bring_code}

-- that PRI is 0 or isn't, or how it compares with ALT
pub data Test : Type 0 where
  IsZero : Test
  IsSet : Test
  AreSame : Test
  AreOther : Test
  IsLess : Test
  IsAtMost : Test
  IsGreater : Test
  IsAtLeast : Test

-- it holds of these values of PRI and ALT
abbrev pub holds : Test → (pri alt : ℤ) → Bool
holds IsZero y z = is_zero y
holds IsSet y z = no (is_zero y)
holds AreSame y z = equal y z
holds AreOther y z = no (equal y z)
holds IsLess y z = less y z
holds IsAtMost y z = less_eq y z
holds IsGreater y z = less z y
holds IsAtLeast y z = less_eq z y

-- the jump that is taken where it holds
abbrev pub test_op : Test → Op
test_op IsZero = op.Jzer
test_op IsSet = op.Jnz
test_op AreSame = op.Jeq
test_op AreOther = op.Jneq
test_op IsLess = op.Jsless
test_op IsAtMost = op.Jsleq
test_op IsGreater = op.Jsgrtr
test_op IsAtLeast = op.Jsgeq

-- what holds where it doesn't
abbrev pub opposite : Test → Test
opposite IsZero = IsSet
opposite IsSet = IsZero
opposite AreSame = AreOther
opposite AreOther = AreSame
opposite IsLess = IsAtLeast
opposite IsAtMost = IsGreater
opposite IsGreater = IsAtMost
opposite IsAtLeast = IsLess

-- ---- of two operands

-- a comparison, with the left operand in PRI and the right one in ALT
abbrev pub link_test : Comparison → Test
link_test comparison.Less = IsLess
link_test comparison.LessEqual = IsAtMost
link_test comparison.Greater = IsGreater
link_test comparison.GreaterEqual = IsAtLeast

-- the same of PRI and ALT the other way round
abbrev pub mirrored : Test → Test
mirrored IsLess = IsGreater
mirrored IsAtMost = IsAtLeast
mirrored IsGreater = IsLess
mirrored IsAtLeast = IsAtMost
mirrored t = t

-- by how the right operand was brought
abbrev pub test_by : Right → Test → Test
test_by (Known v) t = t
test_by (Placed d) t = t
test_by Waiting t = mirrored t

-- of a right operand that is 0: the left one is tested by itself
abbrev pub zero_by : Test → Bool → Option Test
zero_by AreSame true = Some IsZero
zero_by AreOther true = Some IsSet
zero_by t b = None

-- where the right operand is known to be 0
abbrev pub zero_test : Test → Right → Option Test
zero_test t (Known v) = zero_by t (equal v (pos 0))
zero_test t (Placed d) = None
zero_test t Waiting = None

-- the items before the jump, and its test
abbrev pub test_code : Option Test → Right → (left right : List Item) → List Item
test_code None how left right = left ++ bring_code how right
test_code (Some u) how left right = left

abbrev pub test_behind : Option Test → Right → Test → Test
test_behind None how t = test_by how t
test_behind (Some u) how t = u
