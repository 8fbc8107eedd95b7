use Rattle.std.proofs.Common.{List, map, sym, ◌∙◌, arith}
use Rattle.std.proofs.lemmas.List.{at_drop_all}
use Rattle.check_source.specs.declared.written.Written.{Written}
use Rattle.check_source.specs.Distinct.{distinct_view, bodies_distinct}
use Rattle.check_source.specs.WrittenView.{written_view}
use Rattle.check_source.proofs.DistinctLaws.{fallback_is}
use Rattle.check_source.proofs.fallback.entry_fallback.Goals as goal

pub returns : goal.returns
returns c =
    c.only.ensures
    ∙ fallback_is (map written_view c.args.bodies.now) (distinct_view c.loop-it.found)
    (sym (at_drop_all (λ (its : List Written). bodies_distinct (distinct_view c.loop-it.found)
    (map written_view its)) c.args.bodies.now c.loop-it.it-index (omega arith))
    ∙ c.loop-it.invariant)
