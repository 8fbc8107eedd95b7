use Rattle.std.proofs.Common.{◌≡◌, List, get_or, ap, ◌∙◌, length, arith}
use Rattle.check_source.specs.declared.automata.KnownAutomaton.{KnownAutomaton}
use Rattle.check_source.specs.AutomataView.{automata_view, known_entered}
use Rattle.check_source.proofs.PlaceLaws.{length_updated}
use Rattle.check_source.specs.GroupsView.{groups_view}
use Rattle.check_source.proofs.EnteredLaws.{entered_more, entered_all}
use Rattle.check_source.proofs.classified.enter_all.Goals as goal

pub loop-number-preserved : goal.loop-number-preserved
loop-number-preserved c = (
  entered_more (groups_view c.args.groups.now) (automata_view c.args.automata) c.loop-number.number
      c.loop-number.automata c.enter.new.self
      c.index-as_slice-number.result c.entry_of-function.result c.loop-number.invariant.0
      (omega arith)
      (c.index-as_slice-number.is
      ∙ ap (λ (its : List KnownAutomaton). get_or its c.loop-number.number
      c.index-as_slice-number.result) c.as_slice.ensures)
      c.entry_of-function.ensures c.enter.ensures,
  ap length c.enter.ensures ∙ length_updated c.loop-number.automata c.loop-number.number
      (known_entered c.entry_of-function.result)
      ∙ c.loop-number.invariant.1,
)

pub returns : goal.returns
returns c =
    let end : c.loop-number.number ≡ length c.args.automata = omega arith in
    entered_all (groups_view c.args.groups.now) c.args.automata c.loop-number.automata
    c.loop-number.number c.loop-number.invariant.0 end
