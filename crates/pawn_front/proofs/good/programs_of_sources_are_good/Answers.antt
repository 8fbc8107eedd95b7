use Rattle.pawn_front.proofs.good.programs_of_sources_are_good.Goals as goal

pub returns : goal.returns
returns c = λ lines program places bounded bytes is.
    c.sources_are_good.ensures lines.lines is.tokens is.typed.tree lines.dynamic program
    places bytes
    bounded.small is.are_tokens is.typed.is_tree is.typed.is_typed
