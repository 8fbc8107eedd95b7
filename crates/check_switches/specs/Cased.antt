-- The cases of a `switch` with their values, one behind another.
use Rattle.std.specs.Prelude.{[], ◌++◌}
use Rattle.pawn_meaning.specs.Program as code
use Rattle.names_rules.specs.Verdict.{Verdict, Stands, after}
use Rattle.types_rules.specs.Stood.{Stood, stood_behind}
use Rattle.types_rules.specs.Switches.{Labels}
use Rattle.types_rules.specs.Statements.{Cased, case_before, no_cased}

-- ranges behind others
abbrev pub label_join : Labels → Labels → Labels
label_join x y = record { ranges = x.ranges ++ y.ranges; warned = x.warned ++ y.warned }

-- what a `switch` takes of its cases: their statements stand in the program's cases alone
abbrev pub bare : Cased → Cased
bare it = record it { stood = record it.stood { stmts = [] } }

-- a case behind which no other stands
abbrev pub one_cased : Labels → Stood → Cased
one_cased x s = case_before x s no_cased

-- the same where they stand
abbrev pub bare_verdict : Verdict Cased → Verdict Cased
bare_verdict verdict = after verdict (λ it. Stands (bare it))

-- cases of the program behind others
abbrev pub cases_behind : code.Cases → code.Cases → code.Cases
cases_behind code.no_cases more = more
cases_behind (code.then_case ranges s rest) more =
    code.then_case ranges s (cases_behind rest more)

-- cases behind others
abbrev pub cased_behind : Cased → Cased → Cased
cased_behind x y = record {
  stood = stood_behind x.stood y.stood;
  cases = cases_behind x.cases y.cases;
  ranges = x.ranges ++ y.ranges;
}
