use Rattle.std.proofs.Common.{arith}
use Rattle.amx_compact.proofs.ReadLemmas.{scanned_next, too_long, never_stops}
use Rattle.amx_compact.proofs.read.fits.Goals as goal

pub unreachable-requires : goal.unreachable-requires
unreachable-requires c =
    never_stops c.args.bytes.now c.loop-index.rest.now c.loop-index.index c.args.count c.requires.0
    c.in-Err.field-0 c.loop-index.invariant c.requires.1 c.requires.2
    c.loop-index-test.true c.in-Err.ensures.fault

pub loop-index-preserved : goal.loop-index-preserved
loop-index-preserved c =
    scanned_next c.args.bytes.now c.loop-index.rest.now c.in-Ok.after.now c.loop-index.index _
    c.loop-index.invariant c.in-Ok.ensures.found (omega (arith, c.if-bytes-rest.false))

pub returns-then-bytes-rest : goal.returns-then-bytes-rest
returns-then-bytes-rest c = (
  λ f. absurd (cc f),
  λ fits. absurd (too_long c.args.bytes.now c.loop-index.rest.now c.in-Ok.after.now
      c.loop-index.index _ c.loop-index.invariant c.in-Ok.ensures.found
      (omega (arith, c.if-bytes-rest.true)) fits),
)
