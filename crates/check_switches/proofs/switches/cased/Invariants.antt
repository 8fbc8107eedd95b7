use Rattle.std.proofs.Common.{length}
use Rattle.names_rules.specs.Verdict.{Stands}
use Rattle.types_rules.specs.Statements.{no_cased}
use Rattle.check_nodes.specs.ContextView.{around_view}
use Rattle.check_switches.specs.CaseView.{part_view, cased_view}
use Rattle.check_switches.specs.Cased.{cased_behind, bare_verdict}
use Rattle.check_switches.specs.Switching.{case_rule, cased_in}
use Rattle.check_switches.proofs.TakenLaws.{Taken}
use Rattle.check_switches.proofs.RuleLaws.{cased_row}
use Rattle.check_switches.proofs.switches.cased.Given as goal

abbrev pub invariant-loop-part : goal.invariant-loop-part
invariant-loop-part l =
    Taken cased_behind no_cased (case_rule (around_view l.cx) l.at l.tag)
    (λ parts. bare_verdict (cased_in (around_view l.cx) l.at l.tag parts))
    part_view (cased_row (around_view l.cx) l.at l.tag) l.fn.parts.items (length l.yielded)
    (Stands (cased_view l.done))
