-- Which places are those of a source's first headings.
use Rattle.std.specs.Prelude.{map}
use Rattle.check_source.specs.GroupsView.{groups_view}
use Rattle.check_source.specs.declared.source.Source.{Source}
use Rattle.check_source.specs.HeadingView.{heading_view}
use Rattle.check_functions.specs.declared.firsts.Firsts.{Firsts}
use Rattle.check_functions.specs.Own.{AreFirsts}

-- what code holds of them, of a source that it holds
abbrev pub AreFirstsOf : Source → Firsts → Type 0
AreFirstsOf source firsts =
    AreFirsts source.tags source.fallback.now (groups_view source.groups)
    (map heading_view source.headings) firsts.own.items firsts.entry
