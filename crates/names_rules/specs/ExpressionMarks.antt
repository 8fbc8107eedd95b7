-- The marks of an expression, behind those before it: the names that occur in it, and the tags.
use Rattle.std.specs.Prelude.{ℕ, List, ◌∷◌}
use Rattle.pawn_tree.specs.declared.name.At.{At}
use Rattle.pawn_tree.specs.declared.expression.SizeofOperand.{SizeofOperand}
use Rattle.pawn_tree.specs.declared.expression.SizeofOperand.TheVariants as sized
use Rattle.pawn_tree.specs.declared.expression.TagofOperand.{TagofOperand}
use Rattle.pawn_tree.specs.declared.expression.TagofOperand.TheVariants as tagged
use Rattle.pawn_tree.specs.Expressions.{Expr, Arg, Args, Link, Links, Number, Text, Name, Paren}
use Rattle.pawn_tree.specs.Expressions.{Sizeof, Tagof, Prefix, Tagged, Postfix, Index, Character}
use Rattle.pawn_tree.specs.Expressions.{Binary, Chain, Choice, Assign, Call, Value, Default, Named}
use Rattle.pawn_tree.specs.Expressions.{Compare, no_args, then_arg, no_links, then_link}
use Rattle.names_rules.specs.Mark.{Mark, Uses, Mentions}

-- a name occurs
abbrev pub occurs : List ℕ → At → At → Mark
occurs name at node = Uses (record { name = name; token = at.token; place = node.place })

-- of an operand of `sizeof`: its name occurs in the node of the operator
abbrev pub sizeof_marks : At → SizeofOperand → List Mark → List Mark
sizeof_marks at (sized.Name name brackets) before = occurs name.bytes name.at at ∷ before
sizeof_marks at (sized.Text text brackets) before = before

-- of an operand of `tagof`: its name occurs, or its tag is mentioned
abbrev pub tagof_marks : At → TagofOperand → List Mark → List Mark
tagof_marks at (tagged.Name name) before = occurs name.bytes name.at at ∷ before
tagof_marks at (tagged.Tag name) before = Mentions name.bytes ∷ before

abbrev mutual
  -- of an expression, from left to right
  pub expr_marks : Expr → List Mark → List Mark
  expr_marks (Number at value) before = before
  expr_marks (Text at bytes packed) before = before
  expr_marks (Name at name) before = occurs name at at ∷ before
  expr_marks (Paren at x) before = expr_marks x before
  expr_marks (Sizeof at x) before = sizeof_marks at x before
  expr_marks (Tagof at x) before = tagof_marks at x before
  expr_marks (Prefix at sign x) before = expr_marks x before
  expr_marks (Tagged at tag x) before = expr_marks x (Mentions tag ∷ before)
  expr_marks (Postfix at sign x) before = expr_marks x before
  expr_marks (Index at x y) before = expr_marks y (expr_marks x before)
  expr_marks (Character at x y) before = expr_marks y (expr_marks x before)
  expr_marks (Binary at sign x y) before = expr_marks y (expr_marks x before)
  expr_marks (Chain at x links) before = links_marks links (expr_marks x before)
  expr_marks (Choice at x y z) before = expr_marks z (expr_marks y (expr_marks x before))
  expr_marks (Assign at sign x y) before = expr_marks y (expr_marks x before)
  expr_marks (Call at name args bare) before = args_marks args (occurs name at at ∷ before)

  -- of an argument: the name of its parameter is none that occurs
  pub arg_marks : Arg → List Mark → List Mark
  arg_marks (Value x) before = expr_marks x before
  arg_marks (Default at) before = before
  arg_marks (Named name x) before = expr_marks x before

  -- of a call's arguments from left to right
  pub args_marks : Args → List Mark → List Mark
  args_marks no_args before = before
  args_marks (then_arg x xs) before = args_marks xs (arg_marks x before)

  -- of a comparison's right operand
  pub link_marks : Link → List Mark → List Mark
  link_marks (Compare sign x) before = expr_marks x before

  -- of the comparisons of a chain
  pub links_marks : Links → List Mark → List Mark
  links_marks no_links before = before
  links_marks (then_link x xs) before = links_marks xs (link_marks x before)
