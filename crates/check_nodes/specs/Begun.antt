-- A chain of comparisons so far: the tag of the last operand, the links, the value, and what was
-- made.
use Rattle.std.specs.Prelude.{ℕ, ℤ, List, [], ◌++◌, Bool, true, ◌&&◌, Option, None, Some, map}
use Rattle.std.specs.Prelude.{option_map}
use Rattle.pawn_cells.specs.Cells.{truth}
use Rattle.pawn_cells.specs.Operators.{compare}
use Rattle.pawn_cells.specs.declared.operator.Comparison.{Comparison}
use Rattle.pawn_tree.specs.declared.name.At.{At}
use Rattle.pawn_tags.specs.declared.operators.Choice.{Choice}
use Rattle.pawn_meaning.specs.Program.{Expr, Links, no_links, then_link, StaticObject}
use Rattle.pawn_meaning.specs.View.{links_view, object_view}
use Rattle.names_rules.specs.Verdict.{Verdict, Stands, after}
use Rattle.types_rules.specs.Typed.{cell}
use Rattle.types_rules.specs.Around.{Around}
use Rattle.types_rules.specs.Tests.{tested_either}
use Rattle.types_rules.specs.Chains.{Compared, link_choice, link_code, link_value}
use Rattle.check_nodes.specs.declared.chains.Begun as held

-- what further links of the chain are put to
pub record Begun : Type 0 where
  pub left : ℕ
  pub links : Links
  -- the last operand's value, and whether all links hold so far, where all is constant
  pub value : Option (ℤ × Bool)
  pub literals : List StaticObject
  pub warned : List At

-- the same as code holds it
abbrev pub begun_view : held.Begun → Begun
begun_view it = record {
  left = it.left;
  links = links_view it.links;
  value = it.value;
  literals = map object_view it.made.literals;
  warned = it.made.warned;
}

-- links with others behind them
abbrev pub behind : Links → Links → Links
behind no_links others = others
behind (then_link sign e function swapped more) others =
    then_link sign e function swapped (behind more others)

-- before any link all of them hold
abbrev pub holding : Option ℤ → Option (ℤ × Bool)
holding value = option_map (λ v. (v, true)) value

-- its value in the end
abbrev pub ended_value : Option (ℤ × Bool) → Option ℤ
ended_value None = None
ended_value (Some so_far) = Some (truth so_far.1)

-- a link more: it compares the operand before it with its own
abbrev pub value_with : Option (ℤ × Bool) → Option (Comparison × ℤ) → Option (ℤ × Bool)
value_with None link = None
value_with (Some so_far) None = None
value_with (Some so_far) (Some link) =
    Some (link.1, so_far.1 && compare link.0 so_far.0 link.1)

-- a user operator asks for no test of the tags
abbrev pub link_tests : Around → ℕ → ℕ → At → Option Choice → List At
link_tests cx left right at None = tested_either cx left right at
link_tests cx left right at (Some by) = []

-- with one more link, by the user operator that is chosen or the built-in comparison
abbrev pub with_link : Around → Begun → Compared → Expr → Option Choice → Begun
with_link cx done it e by = record {
  left = it.operand.tag;
  links = behind done.links (link_code it.sign e by no_links);
  value = value_with done.value (link_value it.sign it.operand.value by);
  literals = done.literals ++ it.operand.literals;
  warned = done.warned
      ++ (link_tests cx done.left it.operand.tag it.operand.at by ++ it.operand.warned);
}

-- with one more link
abbrev pub link_step : Around → At → Begun → Compared → Verdict Begun
link_step cx at done it =
    after (cell at it.operand) (λ e.
    Stands (with_link cx done it e (link_choice cx done.left it)))
