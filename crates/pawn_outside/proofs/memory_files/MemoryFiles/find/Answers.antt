use Rattle.std.proofs.Common.{ap, sym, ◌∙◌, arith}
use Rattle.std.proofs.lemmas.Grind.{common_steps}
use Rattle.std.specs.Ordering.{nat_cmp}
use Rattle.std.proofs.lemmas.Cmp.{nat_list_cmp_total}
use Rattle.std.specs.Cmp.Lexicographic.{slice_cmp, texts_ties}
use Rattle.std.specs.FinMap.{get, find, get-from_entries}
use Rattle.pawn_outside.proofs.memory_files.MemoryFiles.find.Goals as goal

pub loop-known-init : goal.loop-known-init
loop-known-init c =
    ap (λ files. get files.held c.args.name.now) (sym c.self.view_is)
    ∙ get-from_entries nat_list_cmp_total _ _
    ∙ ap (find (slice_cmp nat_cmp) c.args.name.now)
    (sym c.into_iter-known-iterator.ensures.into_iter_gives.0)

pub returns-then-eq : goal.returns-then-eq
returns-then-eq c =
    let e = texts_ties c.as_bytes.result.now c.as_slice.result.now in
    grind (arith, common_steps)

pub loop-known-preserved : goal.loop-known-preserved
loop-known-preserved c =
    let e = texts_ties c.as_bytes.result.now c.as_slice.result.now in
    grind (arith, common_steps)
