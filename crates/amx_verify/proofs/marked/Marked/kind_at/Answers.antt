use Rattle.std.proofs.Common.{◌∙◌, ◌<◌, ap, arith, length, subst, sym}
use Rattle.amx_verify.specs.Kinds.{StartsAs, kind}
use Rattle.amx_verify.proofs.KindLaws.{length-kinds, kind-at, kind-none, kind-some}
use Rattle.amx_verify.proofs.marked.Marked.kind_at.Goals as goal

pub kind_in-requires : goal.kind_in-requires
kind_in-requires c =
    let amx = c.self.inside.amx in
    let found = ap length c.self.invariant.kinds ∙ length-kinds 0 amx.code in
    omega (arith, ap length c.as_slice.ensures.value, found, c.self.invariant.memory)

pub returns-clause-is : goal.returns-clause-is
returns-clause-is c =
    let inside = c.self.inside in
    c.kind_in.ensures
    ∙ rw (← c.self.view_is) (kind-at inside.amx.code c.as_slice.result.now c.args.at
    (c.as_slice.ensures.value ∙ c.self.invariant.kinds))

pub returns-clause-none : goal.returns-clause-none
returns-clause-none c z =
    kind-none c.args.self.now.code c.args.at (sym (returns-clause-is c) ∙ z)

pub returns-clause-some : goal.returns-clause-some
returns-clause-some c h =
    let is = returns-clause-is c in
    let some : 0 < kind c.args.self.now.code c.args.at = subst (λ n. 0 < n) is h in
    subst (StartsAs c.args.self.now.code c.args.at) (sym is)
    (kind-some c.args.self.now.code c.args.at some)
