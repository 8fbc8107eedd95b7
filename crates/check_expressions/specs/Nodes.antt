-- The rules of the nodes that have one operand, and of those that have two.
use Rattle.pawn_tree.specs.declared.name.At.{At}
use Rattle.names_rules.specs.Verdict.{Verdict, Stands}
use Rattle.types_rules.specs.Around.{Around}
use Rattle.types_rules.specs.Assignments.{assign_rule}
use Rattle.types_rules.specs.Indexes.{character_rule, index_rule}
use Rattle.types_rules.specs.Operators.{binary_rule, paren_rule, tagged_rule}
use Rattle.types_rules.specs.Prefixes.{postfix_rule, prefix_rule}
use Rattle.types_rules.specs.Typed.{Typed}
use Rattle.check_expressions.specs.declared.nodes.Single.{Single}
use Rattle.check_expressions.specs.declared.nodes.Single.TheVariants as single
use Rattle.check_expressions.specs.declared.nodes.Double.{Double}
use Rattle.check_expressions.specs.declared.nodes.Double.TheVariants as double

-- what is made of one operand
abbrev pub single_rule : Around → At → Single → Typed → Verdict Typed
single_rule cx at single.Paren x = Stands (paren_rule at x)
single_rule cx at (single.Prefix sign) x = prefix_rule cx at sign x
single_rule cx at (single.Tagged tag) x = Stands (tagged_rule cx at tag.now x)
single_rule cx at (single.Postfix sign) x = postfix_rule cx at sign x

-- and of two
abbrev pub double_rule : Around → At → Double → Typed → Typed → Verdict Typed
double_rule cx at double.Index x y = index_rule at x y
double_rule cx at double.Character x y = character_rule at x y
double_rule cx at (double.Binary sign) x y = binary_rule cx at sign x y
double_rule cx at (double.Assign sign) x y = assign_rule cx at sign x y
