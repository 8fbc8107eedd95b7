use Rattle.std.proofs.Common.{rules}
use Rattle.std.proofs.lemmas.List.Sorted.{answers_always}
use Rattle.check_declarations.proofs.PublicLaws.{before, in_order, sorted_is}
use Rattle.check_declarations.proofs.sorting.sort_publics.Goals as goal

pub returns : goal.returns
returns c =
    rw c.from_vec.ensures (sorted_is _ _
    (c.in_ok-sort_by.ensures.sorted before in_order
    (answers_always _ _ _ (λ f a r g h. search rules)))
    (c.in_ok-sort_by.ensures.stable before in_order
    (answers_always _ _ _ (λ f a r g h. search rules))))
