-- The names that are called in an expression, in token order.
use Rattle.std.specs.Prelude.{ℕ, List, [], ◌∷◌, ◌++◌}
use Rattle.pawn_tree.specs.Expressions.{Expr, Number, Text, Name, Paren, Sizeof, Tagof, Prefix}
use Rattle.pawn_tree.specs.Expressions.{Tagged, Postfix, Index, Character, Binary, Chain, Choice}
use Rattle.pawn_tree.specs.Expressions.{Assign, Call, Arg, Value, Default, Named, Args, no_args}
use Rattle.pawn_tree.specs.Expressions.{then_arg, Link, Compare, Links, no_links, then_link}

abbrev mutual
  -- the names called in an expression
  pub called : Expr → List (List ℕ)
  called (Number at v) = []
  called (Text at bytes packed) = []
  called (Name at name) = []
  called (Paren at e) = called e
  called (Sizeof at operand) = []
  called (Tagof at operand) = []
  called (Prefix at sign e) = called e
  called (Tagged at tag e) = called e
  called (Postfix at sign e) = called e
  called (Index at a i) = called a ++ called i
  called (Character at a i) = called a ++ called i
  called (Binary at sign l r) = called l ++ called r
  called (Chain at e links) = called e ++ called_by_links links
  called (Choice at c a b) = called c ++ (called a ++ called b)
  called (Assign at sign l r) = called l ++ called r
  called (Call at name args bare) = name ∷ called_by_args args

  -- in the links of a chain
  pub called_by_links : Links → List (List ℕ)
  called_by_links no_links = []
  called_by_links (then_link link more) = called_by_link link ++ called_by_links more

  -- those in a comparison of a chain
  pub called_by_link : Link → List (List ℕ)
  called_by_link (Compare sign e) = called e

  -- in arguments
  pub called_by_args : Args → List (List ℕ)
  called_by_args no_args = []
  called_by_args (then_arg arg more) = called_by_arg arg ++ called_by_args more

  -- the name of a parameter is no call
  pub called_by_arg : Arg → List (List ℕ)
  called_by_arg (Value e) = called e
  called_by_arg (Default at) = []
  called_by_arg (Named name e) = called e
