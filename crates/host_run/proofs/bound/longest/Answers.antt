use Rattle.std.proofs.Common.{◌≡◌, ◌≤◌, ◌∙◌, ap, arith, get_or, length}
use Rattle.host_script.specs.declared.script.Native.{Native}
use Rattle.host_run.proofs.NameLaws.{longest_more, longest_names}
use Rattle.host_run.proofs.bound.longest.Goals as goal

pub loop-native-preserved : goal.loop-native-preserved
loop-native-preserved c =
    let i = c.loop-native.native-index in
    let it = c.native-item.result in
    let same : c.len.result ≡ length (get_or c.args.natives.now i it).name =
    c.len.ensures ∙ ap (λ (it : Native). length it.name) c.native-item.is in
    let rises : c.loop-native.most ≤ c.max-most.result = grind (arith, c.max-most.ensures) in
    let more : c.len.result ≤ c.max-most.result = grind (arith, c.max-most.ensures) in
    longest_more c.args.natives.now i it c.loop-native.most c.max-most.result
    c.loop-native-test.true c.loop-native.invariant rises (omega (arith, same, more))

pub returns : goal.returns
returns c =
    longest_names c.args.natives.now c.loop-native.native-index c.loop-native.most
    (omega (arith, c.loop-native-test.false)) c.loop-native.invariant
