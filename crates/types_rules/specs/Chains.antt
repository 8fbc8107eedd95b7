-- Chains of comparisons (Language Guide, "Relational operators"): each link chooses its operator by
-- itself, by the tags of its operand and the one before it.
use Rattle.std.specs.Prelude.{ℕ, ℤ, List, [], ◌∷◌, ◌++◌, false, Option, None, Some, flat_map}
use Rattle.pawn_token.specs.declared.sign.Sign.{Sign}
use Rattle.pawn_cells.specs.Operators as cells
use Rattle.pawn_cells.specs.declared.operator.Comparison.{Comparison}
use Rattle.pawn_tree.specs.declared.name.At.{At}
use Rattle.pawn_tags.specs.Overloads.{choice}
use Rattle.pawn_tags.specs.declared.op.Op.{Op}
use Rattle.pawn_tags.specs.declared.operators.Choice.{Choice}
use Rattle.pawn_meaning.specs.Program.{Expr, Chain, Links, no_links, then_link}
use Rattle.types_rules.specs.declared.fault.TheConstants.{UNDEFINED}
use Rattle.names_rules.specs.Verdict.{Verdict, Stands, both}
use Rattle.types_rules.specs.Rule.{broken}
use Rattle.types_rules.specs.Typed.{Typed, Value, cell}
use Rattle.types_rules.specs.Around.{Around, function_tag}
use Rattle.types_rules.specs.Tests.{tested_either}
use Rattle.names_rules.specs.Signs.{Link, Compares, No_link, link_of}
use Rattle.types_rules.specs.Operators.{bool_tag}

-- a comparison, under which name a user may define it, and its right operand
pub record Compared : Type 0 where
  pub sign : Comparison
  pub user : Op
  pub operand : Typed

-- no tree that spells tokens has another sign there
abbrev pub compared : At → Link → Typed → Verdict Compared
compared at No_link x = broken UNDEFINED at
compared at (Compares sign user) x = Stands (record { sign = sign; user = user; operand = x })

-- a comparison of a chain, by its sign and right operand
abbrev pub link_rule : At → Sign → Typed → Verdict Compared
link_rule at sign x = compared at (link_of sign) x

-- the user operator of a link, behind an operand of this tag
abbrev pub link_choice : Around → ℕ → Compared → Option Choice
link_choice cx left link = choice cx.operators link.user left link.operand.tag

-- ---- the parts of a chain, behind an operand of a tag

-- a link's code: the user operator for its two operands, or the built-in comparison
abbrev pub link_code : Comparison → Expr → Option Choice → Links → Links
link_code sign e None more = then_link sign e None false more
link_code sign e (Some by) more = then_link sign e (Some by.function) by.swapped more

-- the links themselves
unfoldable pub links_code : Around → At → ℕ → List Compared → Verdict Links
links_code cx at left [] = Stands no_links
links_code cx at left (link ∷ more) =
    both (cell at link.operand) (links_code cx at link.operand.tag more) (λ e rest.
    Stands (link_code link.sign e (link_choice cx left link) rest))

-- what a link warns of: its operands' tags are tested where no user operator is chosen
abbrev pub link_warned : Around → ℕ → Typed → Option Choice → List At
link_warned cx left x None = tested_either cx left x.tag x.at ++ x.warned
link_warned cx left x (Some by) = x.warned

-- what the links warn of
unfoldable pub links_warned : Around → ℕ → List Compared → List At
links_warned cx left [] = []
links_warned cx left (link ∷ more) =
    link_warned cx left link.operand (link_choice cx left link)
    ++ links_warned cx link.operand.tag more

-- a link of a constant expression: no user operator is chosen, and its operand has a value
abbrev pub link_value : Comparison → Option ℤ → Option Choice → Option (Comparison × ℤ)
link_value sign None by = None
link_value sign (Some v) (Some by) = None
link_value sign (Some v) None = Some (sign, v)

-- links are known where all of them are
abbrev pub and_more : Option (Comparison × ℤ) → Option (List (Comparison × ℤ))
    → Option (List (Comparison × ℤ))
and_more None more = None
and_more (Some link) None = None
and_more (Some link) (Some more) = Some (link ∷ more)

-- the constants that the links compare, where all are constant and no user operator stands there
unfoldable pub links_value : Around → ℕ → List Compared → Option (List (Comparison × ℤ))
links_value cx left [] = Some []
links_value cx left (link ∷ more) =
    and_more (link_value link.sign link.operand.value (link_choice cx left link))
    (links_value cx link.operand.tag more)

-- ---- the whole

-- the value of a chain in a constant expression
abbrev pub chain_value : Option ℤ → Option (List (Comparison × ℤ)) → Option ℤ
chain_value None links = None
chain_value (Some v) None = None
chain_value (Some v) (Some links) = Some (cells.chain v links)

-- a comparison gives a truth value, a user operator what its function gives
abbrev pub link_tag : Around → Option Choice → ℕ
link_tag cx None = bool_tag
link_tag cx (Some by) = function_tag cx by.function

-- a chain of one link gives what its operator gives, a longer one a truth value
abbrev pub chain_tag : Around → ℕ → List Compared → ℕ
chain_tag cx left [] = bool_tag
chain_tag cx left (link ∷ []) = link_tag cx (link_choice cx left link)
chain_tag cx left (link ∷ second ∷ more) = bool_tag

-- a chain of comparisons, each operand standing once
unfoldable pub chain_rule : Around → At → Typed → List Compared → Verdict Typed
chain_rule cx at x links =
    both (cell at x) (links_code cx at x.tag links) (λ e more. Stands (record {
      at = at;
      form = Value (Chain e more);
      tag = chain_tag cx x.tag links;
      value = chain_value x.value (links_value cx x.tag links);
      literals = x.literals ++ flat_map (λ (link : Compared). link.operand.literals) links;
      warned = x.warned ++ links_warned cx x.tag links;
    }))
