-- The rules of a `switch`, which hang on what is known of the source alone.
use Rattle.std.specs.Prelude.{ℕ, List, []}
use Rattle.pawn_tree.specs.declared.name.At.{At}
use Rattle.names_rules.specs.Verdict.{Verdict, Stands, after}
use Rattle.types_rules.specs.Typed.{Typed}
use Rattle.types_rules.specs.Around.{Around}
use Rattle.types_rules.specs.Stood.{Stood}
use Rattle.types_rules.specs.Switches.{labels}
use Rattle.types_rules.specs.Statements as rules
use Rattle.types_rules.specs.Statements.{Used, CasePart, Cased, Other}
use Rattle.check_switches.specs.Cased.{bare, one_cased}

module _ (cx : Around) where
  -- a case with its values
  abbrev pub case_rule : At → ℕ → CasePart → Verdict Cased
  case_rule at tag x =
      after (labels cx at tag x.ends) (λ values. Stands (bare (one_cased values x.stood)))

  -- all cases, for any automata and any result
  abbrev pub cased_in : At → ℕ → List CasePart → Verdict Cased
  cased_in = rules.cased cx [] 0

  -- one cell that a node wants
  abbrev pub use_in : At → Typed → Verdict Used
  use_in = rules.use_at cx [] 0

  -- a `switch` by its parts
  abbrev pub switch_in : At → Typed → List CasePart → Other → Verdict Stood
  switch_in = rules.switch_by cx [] 0
