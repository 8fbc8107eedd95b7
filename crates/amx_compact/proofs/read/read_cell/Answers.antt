use Rattle.std.proofs.Common.{rules, ◌+◌, ◌^◌, ◌<◌, arith, take, drop, length-drop, sym, ap, ◌∙◌}
use Rattle.std.proofs.Common.{◌++◌, subst}
use Rattle.std.proofs.Math.ListN.{take-append-drop}
use Rattle.std.proofs.lemmas.List.{length-take-le, take_rest}
use Rattle.amx_compact.specs.Spelled.{GoesOn}
use Rattle.amx_compact.proofs.SpelledLemmas.{goes_on_next, spelled_at, sum_next}
use Rattle.amx_compact.proofs.read.read_cell.Goals as goal

pub returns-then-index-eq5-clause-fault : goal.returns-then-index-eq5-clause-fault
returns-then-index-eq5-clause-fault c =
    let bytes = c.args.bytes.now in
    record {
      five = take 5 bytes;
      more = drop 5 bytes;
      counted = length-take-le 5 bytes (omega arith);
      goes_on =
          subst (λ i. GoesOn (take i bytes)) c.if-index-eq5.true c.loop-index.invariant.goes_on;
      follows = omega (arith, length-drop 5 bytes);
      whole = sym (take-append-drop 5 bytes);
    }

pub returns-then-byte-lt128-clause-found : goal.returns-then-byte-lt128-clause-found
returns-then-byte-lt128-clause-found c =
    let bytes = c.args.bytes.now in
    let i = c.loop-index.index in
    let bits : c.loop-index.sum-bits < 2 ^ 32 = search rules in
    let sum =
    sum_next bytes i c.loop-index.sum-bits c.from.result c.loop-index-test.true bits
    c.from.ensures c.loop-index.invariant.sum in (
      take (i + 1) bytes,
      spelled_at bytes i _ c.loop-index-test.true
          (omega arith) c.loop-index.invariant.goes_on c.if-byte-lt128.true sum,
      sym (ap (λ rest. take (i + 1) bytes ++ rest) (take_rest bytes (i + 1))
          ∙ take-append-drop (i + 1) bytes),
    )

pub loop-index-preserved : goal.loop-index-preserved
loop-index-preserved c =
    let bytes = c.args.bytes.now in
    let i = c.loop-index.index in
    let bits : c.loop-index.sum-bits < 2 ^ 32 = search rules in
    record {
      within = omega arith;
      goes_on =
          goes_on_next bytes i c.loop-index-test.true c.loop-index.invariant.goes_on
          c.if-byte-lt128.false (c.type_inv.bytes i).fits;
      sum =
          sum_next bytes i c.loop-index.sum-bits c.from.result c.loop-index-test.true bits
          c.from.ensures c.loop-index.invariant.sum;
    }
