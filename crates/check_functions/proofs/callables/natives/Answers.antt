use Rattle.std.proofs.Common.{◌≤◌, ◌∙◌, Bool, suc, if◌then◌else◌, map, length, sym, ap, arith}
use Rattle.check_nodes.specs.ContextView.{callable_view}
use Rattle.check_source.specs.HeadingView.{heading_view}
use Rattle.check_source.specs.SourceView.{source_view}
use Rattle.check_functions.specs.HeadsView.{heads_view}
use Rattle.check_functions.proofs.AtLaws.{seen_at, past}
use Rattle.check_functions.proofs.CallableLaws.{native_other, native_more}
use Rattle.check_functions.proofs.EndLaws.{native_is, pushed_is, natives_past}
use Rattle.check_functions.proofs.callables.natives.Goals as goal

pub loop-i-preserved-then-not-is_native : goal.loop-i-preserved-then-not-is_native
loop-i-preserved-then-not-is_native c =
    let at = seen_at heading_view c.as_slice-headings.ensures c.index-headings-i.is (omega arith) in
    native_other (source_view c.args.source.now) (map heading_view c.args.source.now.headings)
    (heads_view c.args.heads.now) c.loop-i.i
    (heading_view c.index-headings-i.result) at c.loop-i.number
    (map callable_view c.loop-i.list) _ c.loop-i.invariant (sym c.if-not-is_native.ensures)

pub loop-i-preserved : goal.loop-i-preserved
loop-i-preserved c =
    let at = seen_at heading_view c.as_slice-headings.ensures c.index-headings-i.is (omega arith) in
    native_more (source_view c.args.source.now) (map heading_view c.args.source.now.headings)
    (heads_view c.args.heads.now) c.loop-i.i
    (heading_view c.index-headings-i.result) at c.loop-i.number c.in_ok-next.next
    (map callable_view c.loop-i.list) (map callable_view c.push.new.self) _
    c.loop-i.invariant (sym c.if-not-is_native.ensures)
    (pushed_is c.loop-i.list c.push.new.self c.in_ok-native.native _ c.in_ok-push.ensures.ok
    (native_is (source_view c.args.source.now) (map heading_view c.args.source.now.headings)
    (heads_view c.args.heads.now) c.loop-i.i c.in_ok-place.place c.loop-i.number
    (heading_view c.index-headings-i.result)
    (callable_view c.in_ok-native.native) at c.in_ok-place.ensures c.in_ok-native.ensures))
    (c.in_ok-next.ensures ∙ ap (λ (b : Bool). if b then suc c.loop-i.number else c.loop-i.number)
    c.is_called.ensures)

pub returns : goal.returns
returns c =
    let le : length c.as_slice-headings.result.now ≤ c.loop-i.i = omega arith in
    natives_past (source_view c.args.source.now) (map heading_view c.args.source.now.headings)
    (heads_view c.args.heads.now) c.loop-i.i c.loop-i.number
    (map callable_view c.loop-i.list) _
    (past heading_view c.args.source.now.headings c.as_slice-headings.result.now c.loop-i.i
    c.as_slice-headings.ensures le)
    c.loop-i.invariant
