use Rattle.types_rules.specs.Groups.{body_key}
use Rattle.check_source.specs.WrittenView.{written_view}
use Rattle.check_source.specs.GroupsView.{groups_view}
use Rattle.check_source.proofs.NamingLaws.{other_at}
use Rattle.check_source.proofs.classified.has_other.Goals as goal

pub returns : goal.returns
returns c =
    let naming = c.requires.naming in
    cc (
      other_at c.args.known.now.tags.now c.args.known.now.fallback.now
          (groups_view c.args.known.now.groups.now)
          (body_key c.args.known.now.tags.now c.args.known.now.fallback.now
          (written_view c.args.it.now)),
      naming,
    )
