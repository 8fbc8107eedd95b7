-- What a handle ends as, once the machine behind it was lent and is given back.
use Rattle.std.specs.Borrow.{Lends, MutBor, Fml}
use Rattle.host_embed.specs.Held.{Held}
use Rattle.host_embed.specs.declared.handle.Sulkhen.{Sulkhen}
use Rattle.host_embed.specs.contracts.held.Held as held
use Rattle.host_embed.specs.contracts.handle.Sulkhen as handle

-- it owns what comes back
abbrev pub LendsHeld : MutBor Sulkhen → MutBor Held → Fml
LendsHeld m part =
    Lends handle.the_row held.the_row m part (λ new. record m.now { value = new })
