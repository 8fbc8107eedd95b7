use Rattle.std.proofs.Common.{ℕ, ap, ◌∙◌}
use Rattle.std.proofs.lemmas.Result.{err_from_is_err_and}
use Rattle.names_sight.specs.declared.outside.FirstHead.{FirstHead}
use Rattle.names_sight.specs.FileTable.{role_view}
use Rattle.names_rules.proofs.SightLaws.{inserted}
use Rattle.names_sight.proofs.FileLaws.{name_added}
use Rattle.names_sight.proofs.outside.FileNames.add.Goals as goal

pub returns-in_err-seen : goal.returns-in_err-seen
returns-in_err-seen c = λ tags before x whole named tag.
    let p = err_from_is_err_and c.from_residual.result c.from_residual.ensures.1 in
    rw (p.1, p.2) (c.in_err-seen.ensures tags before x whole named)

pub returns : goal.returns
returns c = λ tags before x whole named tag.
    let head : ℕ → FirstHead = λ (t : ℕ). record { token = c.args.name.now.at.token; tag = t } in
    name_added x before c.args.name.now c.args.place
    (role_view c.args.role) named tags c.args.self.now whole
    c.insert.new.self.entries c.as_slice.result c.in_ok-seen.seen (head c.args.tag)
    (c.in_ok-seen.ensures tags before x whole named) c.as_slice.ensures (ap head tag)
    (c.in-Ok.ensures.entries ∙ ap (λ t. inserted t c.as_slice.result c.with.result) c.self.view_is
    ∙ ap (λ seen. inserted c.args.self.now c.as_slice.result seen) c.with.ensures)
