use Rattle.std.proofs.Common.{refl}
use Rattle.std.proofs.lemmas.Result.{err_from_is_err_and}
use Rattle.names_sight.specs.MarkView.{declaration_view}
use Rattle.pawn_names.proofs.BehindLaws.{again_fails, kind_fails, declared_so}
use Rattle.pawn_names.proofs.resolver.Resolver.declares.Goals as goal

pub returns-in_err-is_first_here : goal.returns-in_err-is_first_here
returns-in_err-is_first_here c = λ around marks h.
    let p = err_from_is_err_and c.from_residual.result c.from_residual.ensures.1 in
    rw (p.1, p.2) (again_fails around marks c.args.self.now h
    (declaration_view c.args.it.now) _ c.in_err-is_first_here.ensures)

pub returns-in_err-kind : goal.returns-in_err-kind
returns-in_err-kind c = λ around marks h.
    let p =
    err_from_is_err_and c.from_residual-in_err-kind.result
    c.from_residual-in_err-kind.ensures.1 in
    rw (p.1, p.2) (kind_fails around marks c.args.self.now h
    (declaration_view c.args.it.now) _ c.in_err-kind.ensures)

pub returns-in_err-push_value : goal.returns-in_err-push_value
returns-in_err-push_value c = λ around marks h.
    let p =
    err_from_is_err_and c.from_residual-in_err-push_value.result
    c.from_residual-in_err-push_value.ensures.1 in
    rw (p.1, p.2) (record { cause = tt })

pub returns-in_err-declare : goal.returns-in_err-declare
returns-in_err-declare c = λ around marks h.
    let p =
    err_from_is_err_and c.from_residual-in_err-declare.result
    c.from_residual-in_err-declare.ensures.1 in
    rw (p.1, p.2) (record { cause = tt })

pub returns : goal.returns
returns c = λ around marks h.
    declared_so around marks c.args.self.now h _ (declaration_view c.args.it.now) c.in_ok-kind.kind
    c.known_of-known.result c.as_slice.result.now
    c.known_of-known.ensures c.as_slice.ensures c.in_ok-is_first_here.ensures c.in_ok-kind.ensures
    c.in_ok-push_value.ensures refl c.in_ok-declare.ensures
