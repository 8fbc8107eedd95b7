-- The objects that the texts in an expression are, in token order. A text under `sizeof` is none.
use Rattle.std.specs.Prelude.{List, [], ◌∷◌, ◌++◌}
use Rattle.pawn_tree.specs.Expressions.{Expr, Number, Text, Name, Paren, Sizeof, Tagof, Prefix}
use Rattle.pawn_tree.specs.Expressions.{Tagged, Postfix, Index, Character, Binary, Chain, Choice}
use Rattle.pawn_tree.specs.Expressions.{Assign, Call, Arg, Value, Default, Named, Args, no_args}
use Rattle.pawn_tree.specs.Expressions.{then_arg, Link, Compare, Links, no_links, then_link}
use Rattle.pawn_meaning.specs.Program.{StaticObject}
use Rattle.types_rules.specs.Texts.{text_object}

abbrev mutual
  -- of an expression
  pub texts : Expr → List StaticObject
  texts (Number at v) = []
  texts (Text at bytes packed) = text_object packed bytes ∷ []
  texts (Name at name) = []
  texts (Paren at e) = texts e
  texts (Sizeof at operand) = []
  texts (Tagof at operand) = []
  texts (Prefix at sign e) = texts e
  texts (Tagged at tag e) = texts e
  texts (Postfix at sign e) = texts e
  texts (Index at a i) = texts a ++ texts i
  texts (Character at a i) = texts a ++ texts i
  texts (Binary at sign l r) = texts l ++ texts r
  texts (Chain at e links) = texts e ++ link_texts links
  texts (Choice at c a b) = texts c ++ (texts a ++ texts b)
  texts (Assign at sign l r) = texts l ++ texts r
  texts (Call at name args bare) = arg_texts args

  -- of the links of a chain
  pub link_texts : Links → List StaticObject
  link_texts no_links = []
  link_texts (then_link link more) = texts_of_link link ++ link_texts more

  -- of a link
  pub texts_of_link : Link → List StaticObject
  texts_of_link (Compare sign e) = texts e

  -- of arguments
  pub arg_texts : Args → List StaticObject
  arg_texts no_args = []
  arg_texts (then_arg arg more) = texts_of_arg arg ++ arg_texts more

  -- of an argument
  pub texts_of_arg : Arg → List StaticObject
  texts_of_arg (Value e) = texts e
  texts_of_arg (Default at) = []
  texts_of_arg (Named name e) = texts e
