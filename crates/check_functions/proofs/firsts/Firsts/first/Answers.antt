use Rattle.std.proofs.Common.{map}
use Rattle.check_source.specs.KeyView.{key_view}
use Rattle.check_source.specs.GroupsView.{groups_view}
use Rattle.check_source.specs.HeadingView.{heading_view}
use Rattle.check_functions.proofs.OwnLaws.{first_found}
use Rattle.check_functions.proofs.firsts.Firsts.first.Goals as goal

pub returns : goal.returns
returns c = λ known.
    first_found c.args.source.now.tags c.args.source.now.fallback.now
    (groups_view c.args.source.now.groups)
    (map heading_view c.args.source.now.headings) c.args.self.now.own.items c.args.self.now.entry
    (key_view c.args.key)
    c.number_of.result c.own_first-own.result c.first_by.result c.requires known c.number_of.ensures
    c.own_first-own.ensures c.first_by.ensures
