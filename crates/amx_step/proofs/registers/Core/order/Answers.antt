use Rattle.std.proofs.Common.{◌+◌}
use Rattle.amx_step.proofs.ByteLaws.{read_as, order_from, order_less, order_more, order_next}
use Rattle.amx_step.proofs.registers.Core.order.Goals as goal

pub loop-done-init : goal.loop-done-init
loop-done-init c =
    let e = c.equal_front-equal.ensures in
    order_from c.args.self.now.state.cells c.args.at c.args.to c.args.count
    c.equal_front-equal.result e.few e.same

pub returns-then-first-second : goal.returns-then-first-second
returns-then-first-second c =
    let d = c.loop-done.done in
    let first = read_as (c.args.at + d) c.read_byte-first.ensures c.self.view_is in
    let second = read_as (c.args.to + d) c.read_byte-second.ensures c.self.view_is in
    order_less c.args.self.now.state.cells c.args.at c.args.to c.args.count d _
    c.loop-done-test.true c.loop-done.invariant
    c.read_byte-first.result c.read_byte-second.result first second c.if-first-second.true

pub returns-then-first-second-2 : goal.returns-then-first-second-2
returns-then-first-second-2 c =
    let d = c.loop-done.done in
    let first = read_as (c.args.at + d) c.read_byte-first.ensures c.self.view_is in
    let second = read_as (c.args.to + d) c.read_byte-second.ensures c.self.view_is in
    order_more c.args.self.now.state.cells c.args.at c.args.to c.args.count d _
    c.loop-done-test.true c.loop-done.invariant
    c.read_byte-first.result c.read_byte-second.result first second c.if-first-second.false
    c.if-first-second-2.true

pub loop-done-preserved : goal.loop-done-preserved
loop-done-preserved c =
    let d = c.loop-done.done in
    let first = read_as (c.args.at + d) c.read_byte-first.ensures c.self.view_is in
    let second = read_as (c.args.to + d) c.read_byte-second.ensures c.self.view_is in
    order_next c.args.self.now.state.cells c.args.at c.args.to c.args.count d _
    c.loop-done-test.true c.loop-done.invariant
    c.read_byte-first.result c.read_byte-second.result first second c.if-first-second.false
    c.if-first-second-2.false
