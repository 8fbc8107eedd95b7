-- The state that a `state` names, as code holds it.
use Rattle.types_rules.specs.States as plain
use Rattle.check_statements.specs.declared.states.StateAt.{StateAt}

-- the numbers of an automaton and of a state of it
abbrev pub reached_view : StateAt → plain.Reached
reached_view it = record { automaton = it.automaton; state = it.state }
