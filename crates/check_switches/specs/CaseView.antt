-- Cases and their values, as the rules of statements see them.
use Rattle.std.specs.Prelude.{List, [], map, option_map}
use Rattle.types_rules.specs.Switches as plain
use Rattle.types_rules.specs.Statements as rules
use Rattle.check_nodes.specs.TypedView.{typed_view}
use Rattle.pawn_meaning.specs.View.{cases_view}
use Rattle.check_locals.specs.StoodView.{stood_of, stood_view}
use Rattle.check_switches.specs.declared.ends.Ends.{Ends}
use Rattle.check_switches.specs.declared.ends.AllEnds.{AllEnds}
use Rattle.check_switches.specs.declared.case_parts.CasePart.{CasePart}
use Rattle.check_switches.specs.declared.case_parts.CaseParts.{CaseParts}
use Rattle.check_switches.specs.declared.labels.Labels.{Labels}
use Rattle.check_switches.specs.declared.switches.Cases.{Cases}

-- the ends of a range
abbrev pub ends_view : Ends → plain.Ends
ends_view it = record { first = typed_view it.first; last = option_map typed_view it.last }

-- the ends of all ranges
abbrev pub all_ends_view : AllEnds → List plain.Ends
all_ends_view it = map ends_view it.items.items

-- ranges with what they warn of
abbrev pub labels_view : Labels → plain.Labels
labels_view it = record { ranges = it.ranges; warned = it.warned }

-- a case, before its values are looked at
abbrev pub part_view : CasePart → rules.CasePart
part_view it = record { ends = all_ends_view it.ends; stood = stood_view it.stood }

-- all cases
abbrev pub parts_view : CaseParts → List rules.CasePart
parts_view it = map part_view it.items.items

-- cases with their values, whose statements stand in the program's cases alone
abbrev pub cased_view : Cases → rules.Cased
cased_view it =
    record { stood = stood_of [] it.parts; cases = cases_view it.cases; ranges = it.ranges }
