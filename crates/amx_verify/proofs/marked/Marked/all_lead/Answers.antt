use Rattle.std.proofs.Common.{◌≡◌, ◌+◌, ◌∷◌, ◌∙◌, true, false, ap, rules}
use Rattle.pawn_cells.specs.Cells.{bits_of}
use Rattle.amx_ops.specs.Instructions.{is_start}
use Rattle.amx_ops.specs.Valid.{leads, all_lead}
use Rattle.amx_verify.proofs.LinkLaws.{one_more_address, address_astray}
use Rattle.amx_verify.proofs.marked.Marked.all_lead.Goals as goal

pub returns-then-not-leads : goal.returns-then-not-leads
returns-then-not-leads c =
    let starts = is_start c.args.self.now.code in
    let is : c.loop-done.rest.now ≡ c.in-Some.address.now ∷ c.in-Some.after.now = search rules in
    let bad : leads starts c.in-Some.address.now ≡ false = search rules in
    let total : c.from-total.result ≡ bits_of c.args.count = search rules in
    address_astray starts (c.from-total.result + 1) c.loop-done.done _ c.loop-done.rest.now
    c.in-Some.after.now c.in-Some.address.now c.loop-done-test.true is c.loop-done.invariant bad
    ∙ ap (λ n. all_lead starts (n + 1) c.from_cell-rest.result.now) total
    ∙ ap (all_lead starts (bits_of c.args.count + 1)) c.from_cell-rest.ensures

pub loop-done-preserved : goal.loop-done-preserved
loop-done-preserved c =
    let starts = is_start c.args.self.now.code in
    let is : c.loop-done.rest.now ≡ c.in-Some.address.now ∷ c.in-Some.after.now = search rules in
    let good : leads starts c.in-Some.address.now ≡ true = search rules in
    one_more_address starts (c.from-total.result + 1) c.loop-done.done _ c.loop-done.rest.now
    c.in-Some.after.now c.in-Some.address.now c.loop-done-test.true is c.loop-done.invariant
    c.behind-rest.result.now good c.behind-rest.ensures
