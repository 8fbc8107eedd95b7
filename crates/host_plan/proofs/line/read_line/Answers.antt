use Rattle.std.proofs.Common.{◌∙◌, sym}
use Rattle.host_plan.proofs.LineLaws.{no_blank, one_blank, no_kind, three_are}
use Rattle.host_plan.proofs.SideLaws.{other_bytes}
use Rattle.host_plan.proofs.line.read_line.Goals as goal

pub returns-in_default : goal.returns-in_default
returns-in_default c = λ it fits e. no_blank c.args.text.now c.in_default.ensures it e

pub returns-in_default-split_at : goal.returns-in_default-split_at
returns-in_default-split_at c = λ it fits e.
    one_blank c.args.text.now c.in-Some.kind.now c.in-Some.rest.now c.in-Some.ensures
    c.in_default-split_at.ensures it e

pub returns-else-eq-3 : goal.returns-else-eq-3
returns-else-eq-3 c = λ it fits e.
    no_kind c.in-Some.kind.now c.in-Some-split_at.second.now c.in-Some-split_at.third.now
    c.in-Some.ensures.first c.in-Some-split_at.ensures.first
    (other_bytes c.in-Some.kind.now _ (rw c.as_slice.ensures at c.if-eq.ensures))
    (other_bytes c.in-Some.kind.now _ (rw c.as_slice-else-eq.ensures at c.if-eq-2.ensures))
    (other_bytes c.in-Some.kind.now _ (rw c.as_slice-else-eq-2.ensures at c.if-eq-3.ensures)) it fits
    (sym (three_are c.args.text.now c.in-Some.kind.now c.in-Some.rest.now
    c.in-Some-split_at.second.now c.in-Some-split_at.third.now c.in-Some.ensures
    c.in-Some-split_at.ensures) ∙ e)
