use Rattle.std.proofs.Common.{refl}
use Rattle.std.proofs.lemmas.Result.{err_from_is_err_and}
use Rattle.names_sight.specs.MarkView.{use_view}
use Rattle.pawn_names.proofs.BehindLaws.{use_done, use_fails}
use Rattle.pawn_names.proofs.resolver.Resolver.uses.Goals as goal

pub returns-in_err-declared : goal.returns-in_err-declared
returns-in_err-declared c = λ around marks h.
    let p = err_from_is_err_and c.from_residual.result c.from_residual.ensures.1 in
    rw (p.1, p.2) (use_fails around marks c.args.self.now h
    (use_view c.args.it.now) _ c.in_err-declared.ensures)

pub returns-in_err-push_use : goal.returns-in_err-push_use
returns-in_err-push_use c = λ around marks h.
    let p =
    err_from_is_err_and c.from_residual-in_err-push_use.result
    c.from_residual-in_err-push_use.ensures.1 in
    rw (p.1, p.2) (record { cause = tt })

pub returns : goal.returns
returns c = λ around marks h.
    use_done around marks c.args.self.now _ h (use_view c.args.it.now) c.in_ok-declared.declared
    c.in_ok-declared.ensures refl c.in_ok-push_use.ensures refl
