use Rattle.std.proofs.Common.{◌∷◌, [], ◌++◌, List, ℕ, sym, ap, ◌∙◌, arith}
use Rattle.std.specs.Prelude.{option_map}
use Rattle.check_declarations.proofs.ListLaws.{listed_more, listed_all, name_there}
use Rattle.check_declarations.proofs.automata.list_of.Goals as goal

pub unreachable-requires : goal.unreachable-requires
unreachable-requires c =
    name_there c.args.names.now c.loop-place.place (omega arith)
    (sym c.get.ensures ∙ ap (option_map (λ name. name.now)) c.in_default.is)

pub loop-place-preserved : goal.loop-place-preserved
loop-place-preserved c =
    listed_more c.args.names.now c.loop-place.place c.in-Some.name.now c.loop-place.list _
    c.loop-place.invariant (sym c.in-Some.ensures)
    (c.in_ok-push.ensures.ok ∙ ap (λ (copy : List ℕ). c.loop-place.list ++ copy ∷ [])
    c.in_ok-copy.ensures)

pub returns : goal.returns
returns c =
    listed_all c.args.names.now c.loop-place.place c.loop-place.list c.loop-place.invariant
    (omega arith)
