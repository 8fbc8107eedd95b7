-- Which typed node each expression is, behind so many objects: a literal is the object that is
-- counted so.
use Rattle.std.specs.Prelude.{ℕ, ◌+◌, List, [], ◌∷◌}
use Rattle.pawn_tree.specs.Expressions.{Expr, Number, Text, Name, Paren, Sizeof, Tagof, Prefix}
use Rattle.pawn_tree.specs.Expressions.{Tagged, Postfix, Index, Character, Binary, Chain, Choice}
use Rattle.pawn_tree.specs.Expressions.{Assign, Call, Arg, Value, Default, Named, Args, no_args}
use Rattle.pawn_tree.specs.Expressions.{then_arg, Link, Compare, Links, no_links, then_link}
use Rattle.names_rules.specs.Verdict.{Verdict, Stands, after, both}
use Rattle.types_rules.specs.Rule.{pair}
use Rattle.types_rules.specs.Typed.{Typed}
use Rattle.types_rules.specs.Around.{Around}
use Rattle.types_rules.specs.Scope.{Scope, found}
use Rattle.types_rules.specs.NamesAndNumbers.{number_rule, text_rule, name_rule}
use Rattle.types_rules.specs.NamesAndNumbers.{sizeof_rule, tagof_rule}
use Rattle.types_rules.specs.Operators.{binary_rule, paren_rule, tagged_rule}
use Rattle.types_rules.specs.Prefixes.{prefix_rule, postfix_rule}
use Rattle.types_rules.specs.Chains.{Compared, link_rule, chain_rule}
use Rattle.types_rules.specs.Choices.{choice_rule}
use Rattle.types_rules.specs.Indexes.{index_rule, character_rule}
use Rattle.types_rules.specs.Assignments.{assign_rule}
use Rattle.types_rules.specs.Filling.{Offer, Positional, Skipped}
use Rattle.types_rules.specs.Filling as filling
use Rattle.types_rules.specs.Calls.{callee_rule, call_rule}
use Rattle.types_rules.specs.Literals.{literals, literals_of_arg, literals_of_link}

module _ (cx : Around) (scope : Scope) where
  abbrev mutual
    -- an expression, by the typed nodes of its parts
    pub expr : ℕ → Expr → Verdict Typed
    expr before (Number at v) = Stands (number_rule at v)
    expr before (Text at bytes packed) = text_rule before at bytes packed
    expr before (Name at name) = name_rule at (found scope name)
    expr before (Paren at e) = after (expr before e) (λ x. Stands (paren_rule at x))
    expr before (Sizeof at operand) = sizeof_rule scope at operand
    expr before (Tagof at operand) = tagof_rule cx scope at operand
    expr before (Prefix at sign e) = after (expr before e) (prefix_rule cx at sign)
    expr before (Tagged at tag e) = after (expr before e) (λ x. Stands (tagged_rule cx at tag x))
    expr before (Postfix at sign e) = after (expr before e) (postfix_rule cx at sign)
    expr before (Index at a i) = both (expr before a) (expr (before + literals a) i) (index_rule at)
    expr before (Character at a i) =
        both (expr before a) (expr (before + literals a) i) (character_rule at)
    expr before (Binary at sign l r) =
        both (expr before l) (expr (before + literals l) r) (binary_rule cx at sign)
    expr before (Chain at e links) =
        both (expr before e) (chain (before + literals e) links) (chain_rule cx at)
    expr before (Choice at c a b) =
        both (expr before c)
        (pair (expr (before + literals c) a) (expr (before + (literals c + literals a)) b))
        (λ x parts. choice_rule cx at x parts.0 parts.1)
    expr before (Assign at sign l r) =
        both (expr before l) (expr (before + literals l) r) (assign_rule cx at sign)
    expr before (Call at name args bare) =
        after (offers before args) (λ offered.
        after (callee_rule cx at (found scope name)) (λ callee. call_rule cx at callee offered))

    -- the links of a chain
    pub chain : ℕ → Links → Verdict (List Compared)
    chain before no_links = Stands []
    chain before (then_link link more) =
        both (linked before link) (chain (before + literals_of_link link) more)
        (λ x rest. Stands (x ∷ rest))

    -- a comparison of a chain
    pub linked : ℕ → Link → Verdict Compared
    linked before (Compare sign e) = after (expr before e) (λ x. link_rule x.at sign x)

    -- what a call is offered
    pub offers : ℕ → Args → Verdict (List Offer)
    offers before no_args = Stands []
    offers before (then_arg arg more) =
        both (offer before arg) (offers (before + literals_of_arg arg) more)
        (λ x rest. Stands (x ∷ rest))

    -- an argument of a call as it stands
    pub offer : ℕ → Arg → Verdict Offer
    offer before (Value e) = after (expr before e) (λ x. Stands (Positional x))
    offer before (Default at) = Stands Skipped
    offer before (Named name e) = after (expr before e) (λ x. Stands (filling.Named name.bytes x))
