use Rattle.std.proofs.Common.{◌≡◌, ◌≢◌, ◌<◌, ◌≤◌, arith, length, take, sym, ap, ◌∙◌}
use Rattle.std.proofs.lemmas.List.{length-take-le, take_all}
use Rattle.std.proofs.lemmas.List.Elements.{All-same}
use Rattle.amx_ops.specs.Names.{name_from}
use Rattle.amx_ops.proofs.NameLaws.{name_from-take, name_from-all, name_from-long}
use Rattle.amx_ops.proofs.name.name_within.Goals as goal

pub returns-then-byte-eq0 : goal.returns-then-byte-eq0
returns-then-byte-eq0 c =
    let text = c.args.text.now in
    let i = c.loop-index.index in
    let name : take i text ≡ name_from text =
    name_from-take text i (omega (arith, c.loop-index-test.true)) c.loop-index.invariant.none
    (grind arith) in
    let long : length (take i text) ≡ i =
    length-take-le i text (omega (arith, c.loop-index-test.true)) in
    let same : length (name_from text) ≡ i = sym (ap length name) ∙ long in
    (name, omega (arith, same, c.loop-index.invariant.few))

pub returns-then-index-most : goal.returns-then-index-most
returns-then-index-most c =
    let text = c.args.text.now in
    let i = c.loop-index.index in
    let long : i < length (name_from text) =
    name_from-long text i (omega (arith, c.loop-index-test.true)) c.loop-index.invariant.none
    (grind arith) in
    omega (arith, long, c.if-index-most.true)

pub returns : goal.returns
returns c =
    let text = c.args.text.now in
    let i = c.loop-index.index in
    let done : length text ≤ i = omega (arith, c.loop-index-test.false) in
    let whole : text ≡ name_from text =
    name_from-all text (All-same (λ byte. byte ≢ 0) text (take i text)
    (sym (take_all i text done)) c.loop-index.invariant.none) in
    let same : length text ≡ length (name_from text) = ap length whole in
    (whole, omega (arith, same, done, c.loop-index.invariant.few))
