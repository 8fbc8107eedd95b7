-- The signs before and behind one operand.
use Rattle.std.specs.Prelude.{true, false}
use Rattle.pawn_token.specs.declared.sign.Sign.{Sign}
use Rattle.pawn_token.specs.declared.sign.Sign.TheVariants as sign
use Rattle.pawn_tree.specs.declared.name.At.{At}
use Rattle.types_rules.specs.declared.fault.TheConstants.{UNDEFINED}
use Rattle.names_rules.specs.Verdict.{Verdict}
use Rattle.types_rules.specs.Rule.{broken}
use Rattle.types_rules.specs.Typed.{Typed}
use Rattle.types_rules.specs.Around.{Around}
use Rattle.types_rules.specs.Operators.{not_rule, negate_rule, invert_rule}
use Rattle.types_rules.specs.Assignments.{step_rule}

-- no tree that spells tokens has another sign before an operand
abbrev pub prefix_rule : Around → At → Sign → Typed → Verdict Typed
prefix_rule cx at sign.Exclamation x = not_rule cx at x
prefix_rule cx at sign.Minus x = negate_rule cx at x
prefix_rule cx at sign.Tilde x = invert_rule at x
prefix_rule cx at sign.Increment x = step_rule cx at true true x
prefix_rule cx at sign.Decrement x = step_rule cx at false true x
prefix_rule cx at _ x = broken UNDEFINED at

-- and none another behind it
abbrev pub postfix_rule : Around → At → Sign → Typed → Verdict Typed
postfix_rule cx at sign.Increment x = step_rule cx at true false x
postfix_rule cx at sign.Decrement x = step_rule cx at false false x
postfix_rule cx at _ x = broken UNDEFINED at
