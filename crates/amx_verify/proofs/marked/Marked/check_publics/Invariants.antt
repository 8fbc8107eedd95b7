use Rattle.std.proofs.Common.{◌≡◌, drop, map}
use Rattle.amx_ops.specs.Valid as valid
use Rattle.amx_verify.proofs.marked.Marked.check_publics.Given as goal

abbrev pub invariant-loop-number : goal.invariant-loop-number
invariant-loop-number l =
    valid.publics_fault l.self.code l.number (drop l.number (map (λ it. it.address) l.publics))
    ≡ valid.publics_fault l.self.code 0 (map (λ it. it.address) l.publics)
