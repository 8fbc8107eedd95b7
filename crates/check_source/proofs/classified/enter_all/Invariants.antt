use Rattle.std.proofs.Common.{◌≡◌, length}
use Rattle.check_source.specs.AutomataView.{automata_view}
use Rattle.check_source.specs.GroupsView.{groups_view}
use Rattle.check_source.proofs.EnteredLaws.{enter_first}
use Rattle.check_source.proofs.classified.enter_all.Given as goal

abbrev pub invariant-loop-number : goal.invariant-loop-number
invariant-loop-number l =
    (automata_view l.automata ≡ enter_first (groups_view l.groups) l.number
    (automata_view l.initial.automata))
    × (length l.automata ≡ length l.initial.automata)
