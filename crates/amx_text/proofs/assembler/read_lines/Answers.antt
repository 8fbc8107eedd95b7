use Rattle.std.proofs.Common.{◌≡◌, ◌∙◌, ◌+◌, true, false, sym, ap, subst, arith, true≢false}
use Rattle.std.proofs.lemmas.Result.{err_from_is_err_and}
use Rattle.amx_text.specs.declared.last.Last.TheVariants as last
use Rattle.amx_text.specs.Drafts.{ReadsAll}
use Rattle.amx_text.proofs.DraftLaws.{onward_none, onward_more, onward_all, onward_stops}
use Rattle.amx_text.proofs.SmallLaws.{onward_small, shorter}
use Rattle.amx_text.proofs.assembler.read_lines.Goals as goal

pub loop-draft-init : goal.loop-draft-init
loop-draft-init c = onward_none c.args.text.now c.new-draft.result c.new-draft.ensures

pub take-requires-clause-room : goal.take-requires-clause-room
take-requires-clause-room c =
    let few =
    onward_small c.args.text.now c.loop-draft.draft c.loop-draft.rest.now c.loop-draft.invariant in
    omega (arith, few, c.requires.lines)

pub returns-in_err-more : goal.returns-in_err-more
returns-in_err-more c =
    let p = err_from_is_err_and c.from_residual.result c.from_residual.ensures.1 in
    rw (p.1, p.2) tt

pub loop-draft-smaller : goal.loop-draft-smaller
loop-draft-smaller c =
    let taken = rw c.in-Some.is at c.in_ok-more.ensures.line in shorter taken

pub loop-draft-preserved : goal.loop-draft-preserved
loop-draft-preserved c =
    let taken = rw c.in-Some.is at c.in_ok-more.ensures.line in
    onward_more c.in-Some.more.now c.take.new.self c.loop-draft.invariant taken

pub overflow_cast-result : goal.overflow_cast-result
overflow_cast-result c =
    let none = rw c.in_default.is at c.in_ok-more.ensures.line in
    let few =
    onward_small c.args.text.now c.loop-draft.draft c.loop-draft.rest.now c.loop-draft.invariant in
    omega (arith, none.lines, few, c.requires.lines)

pub overflow_add-result : goal.overflow_add-result
overflow_add-result c =
    let none = rw c.in_default.is at c.in_ok-more.ensures.line in
    let few =
    onward_small c.args.text.now c.loop-draft.draft c.loop-draft.rest.now c.loop-draft.invariant in
    omega (arith, none.lines, few, c.requires.lines)

pub returns-then-is_whole : goal.returns-then-is_whole
returns-then-is_whole c =
    let none = rw c.in_default.is at c.in_ok-more.ensures.line in
    let ends = c.is_whole.ensures.0 c.if-is_whole.true in
    let before : c.loop-draft.draft.last ≡ last.End = sym none.last ∙ ends.0 in
    subst (ReadsAll c.args.text.now) (sym (c.in_ok-more.ensures.kept before))
    (onward_all c.args.text.now c.loop-draft.draft c.loop-draft.rest.now c.loop-draft.invariant
    before ends.1)

pub returns-else-is_whole : goal.returns-else-is_whole
returns-else-is_whole c =
    let none = rw c.in_default.is at c.in_ok-more.ensures.line in
    onward_stops c.args.text.now c.loop-draft.draft c.take.new.self c.loop-draft.rest.now _
    c.loop-draft.invariant none
    (λ e rest. (let whole : c.is_whole.result ≡ true = c.is_whole.ensures.1 (none.last ∙ e, rest) in
    let not_whole : c.is_whole.result ≡ false = c.if-is_whole.false in
    true≢false (sym whole ∙ not_whole)))
    (ap (λ n. n + 1) none.lines)
