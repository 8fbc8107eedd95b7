-- What a handle ends as, once the sources behind it were lent and are given back.
use Rattle.std.specs.Borrow.{Lends, MutBor, Fml}
use Rattle.host_compile.specs.Sources.{Sources}
use Rattle.host_compile.specs.declared.handle.SulkhenSources.{SulkhenSources}
use Rattle.host_compile.specs.contracts.sources.Sources as sources
use Rattle.host_compile.specs.contracts.handle.SulkhenSources as handle

-- it owns what comes back
abbrev pub LendsSources : MutBor SulkhenSources → MutBor Sources → Fml
LendsSources m part =
    Lends handle.the_row sources.the_row m part (λ new. record m.now { value = new })
