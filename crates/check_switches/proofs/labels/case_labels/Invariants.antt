use Rattle.std.proofs.Common.{[], length}
use Rattle.names_rules.specs.Verdict.{Stands}
use Rattle.types_rules.specs.Switches.{labels}
use Rattle.check_nodes.specs.ContextView.{around_view}
use Rattle.check_switches.specs.CaseView.{ends_view, labels_view}
use Rattle.check_switches.specs.Cased.{label_join}
use Rattle.check_switches.proofs.TakenLaws.{Taken}
use Rattle.check_switches.proofs.RuleLaws.{one_label, label_row}
use Rattle.check_switches.proofs.labels.case_labels.Given as goal

abbrev pub invariant-loop-it : goal.invariant-loop-it
invariant-loop-it l =
    Taken label_join (record { ranges = []; warned = [] }) (one_label (around_view l.cx) l.at l.tag)
    (labels (around_view l.cx) l.at l.tag)
    ends_view (label_row (around_view l.cx) l.at l.tag) l.fn.ends.items (length l.yielded)
    (Stands (labels_view l.done))
