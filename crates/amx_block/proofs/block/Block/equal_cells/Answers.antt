use Rattle.std.proofs.Common.{◌≡◌, ◌/◌, ◌≤◌, length, drop, ap, arith, length-take}
use Rattle.std.proofs.lemmas.List.{length-drop}
use Rattle.amx_block.proofs.CompareLaws.{same_bytes, same_cell}
use Rattle.amx_block.proofs.block.Block.equal_cells.Goals as goal

pub returns-clause-same : goal.returns-clause-same
returns-clause-same c =
    let a = c.args in
    let m = a.self.now.memory in
    let e = c.equal_front.ensures in
    let few : c.equal_front.result ≤ a.count =
    omega (arith, e.few, ap length c.part.ensures, length-take a.count (drop (a.at / 4) m)) in
    same_bytes m c.part.result.now c.part-2.result.now a.at a.to a.count c.equal_front.result
    c.requires.aligned.0 c.requires.aligned.1 few c.part.ensures c.part-2.ensures e.same

pub returns-clause-differ : goal.returns-clause-differ
returns-clause-differ c less same =
    let a = c.args in
    let m = a.self.now.memory in
    let e = c.equal_front.ensures in
    let long : length c.part.result.now ≡ a.count =
    omega (
      arith,
      ap length c.part.ensures,
      length-take a.count (drop (a.at / 4) m),
      length-drop (a.at / 4) m,
      c.requires.within.0,
      c.requires.aligned.0,
    ) in
    e.differ (omega (arith, less, long))
    (same_cell m c.part.result.now c.part-2.result.now a.at a.to a.count c.equal_front.result
    c.requires.aligned.0 c.requires.aligned.1 (omega (arith, less)) c.part.ensures
    c.part-2.ensures less same)
