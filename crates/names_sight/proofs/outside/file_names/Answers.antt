use Rattle.std.proofs.Common.{refl, arith}
use Rattle.std.proofs.lemmas.Result.{err_from_is_err_and}
use Rattle.names_rules.specs.FileNames.{decl_names}
use Rattle.names_rules.proofs.NameLaws.{decls_follow}
use Rattle.names_sight.proofs.AddLaws.{adds_fail}
use Rattle.names_sight.proofs.outside.file_names.Goals as goal

pub returns-in_err-add_decl : goal.returns-in_err-add_decl
returns-in_err-add_decl c =
    let p = err_from_is_err_and c.from_residual.result c.from_residual.ensures.1 in
    rw (p.1, p.2, ← c.as_slice-items.ensures)
    (adds_fail decl_names (λ x xs now. refl) c.index-items-i.result _ decls_follow
    c.loop-i.invariant (omega arith) c.index-items-i.is (λ now w. c.in_err-add_decl.ensures now w))
