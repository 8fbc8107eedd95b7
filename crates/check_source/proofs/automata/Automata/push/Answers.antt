use Rattle.check_source.proofs.AutomataLaws.{unnamed}
use Rattle.check_source.proofs.automata.Automata.push.Goals as goal

pub push-requires : goal.push-requires
push-requires c =
    unnamed c.self.inside.items.items c.args.self.now c.self.inside.names c.args.name.now
    c.self.invariant c.self.view_is c.requires
