use Rattle.std.proofs.Common.{drop}
use Rattle.gen_module.specs.Few.{AreFew}
use Rattle.gen_module.proofs.states.states_fit.Given as goal

abbrev pub invariant-loop-automaton : goal.invariant-loop-automaton
invariant-loop-automaton l = AreFew (drop l.automaton-index l.automata) → AreFew l.automata
