-- How many literals stand in an expression. A text under `sizeof` is none.
use Rattle.std.specs.Prelude.{ℕ, ◌+◌}
use Rattle.pawn_tree.specs.Expressions.{Expr, Number, Text, Name, Paren, Sizeof, Tagof, Prefix}
use Rattle.pawn_tree.specs.Expressions.{Tagged, Postfix, Index, Character, Binary, Chain, Choice}
use Rattle.pawn_tree.specs.Expressions.{Assign, Call, Arg, Value, Default, Named, Args, no_args}
use Rattle.pawn_tree.specs.Expressions.{then_arg, Link, Compare, Links, no_links, then_link}

abbrev mutual
  -- one for each text that is a value
  pub literals : Expr → ℕ
  literals (Number at v) = 0
  literals (Text at bytes packed) = 1
  literals (Name at name) = 0
  literals (Paren at e) = literals e
  literals (Sizeof at operand) = 0
  literals (Tagof at operand) = 0
  literals (Prefix at sign e) = literals e
  literals (Tagged at tag e) = literals e
  literals (Postfix at sign e) = literals e
  literals (Index at a i) = literals a + literals i
  literals (Character at a i) = literals a + literals i
  literals (Binary at sign l r) = literals l + literals r
  literals (Chain at e links) = literals e + link_literals links
  literals (Choice at c a b) = literals c + (literals a + literals b)
  literals (Assign at sign l r) = literals l + literals r
  literals (Call at name args bare) = arg_literals args

  -- of the links of a chain
  pub link_literals : Links → ℕ
  link_literals no_links = 0
  link_literals (then_link link more) = literals_of_link link + link_literals more

  -- those in a comparison of a chain
  pub literals_of_link : Link → ℕ
  literals_of_link (Compare sign e) = literals e

  -- of arguments
  pub arg_literals : Args → ℕ
  arg_literals no_args = 0
  arg_literals (then_arg arg more) = literals_of_arg arg + arg_literals more

  -- `_` has none
  pub literals_of_arg : Arg → ℕ
  literals_of_arg (Value e) = literals e
  literals_of_arg (Default at) = 0
  literals_of_arg (Named name e) = literals e
