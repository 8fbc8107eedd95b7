use Rattle.std.proofs.Common.{◌≡◌, rules}
use Rattle.names_rules.specs.Overloads as overloads
use Rattle.check_source.proofs.KeyLaws.{signature_found}
use Rattle.check_source.proofs.operators.signature.Goals as goal

pub returns-in-Some : goal.returns-in-Some
returns-in-Some c =
    let tag : c.tag_number.result ≡ overloads.tag_number c.args.tags.now c.args.head.now.tag =
    search rules in
    signature_found c.signature_with.result c.in-Some.op c.right_tag-right.result
    c.tag_number.result
    (overloads.tag_number c.args.tags.now c.args.head.now.tag) c.len.result c.args.tags.now
    c.args.head.now.params c.as_slice.result.now c.args.sign
    c.signature_with.ensures c.as_slice.ensures c.right_tag-right.ensures tag c.in-Some.ensures
    c.len.ensures
