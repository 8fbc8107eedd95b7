use Rattle.std.proofs.Common.{rules, ◌≡◌, ◌<◌, ◌∙◌, length, sym}
use Rattle.std.specs.Fmt.{decimal}
use Rattle.host_many.proofs.ServeLaws.{guests_next, machines_cut, text_cut, text_next}
use Rattle.host_many.proofs.host.serve_all.Goals as goal

pub returns-in-Err-clause-text : goal.returns-in-Err-clause-text
returns-in-Err-clause-text g c =
    let inside : c.machine-number.result < length c.loop-turn.seats = search rules in
    let shown : c.as_bytes.result.now ≡ decimal c.machine-number.result =
    c.as_bytes.ensures.value ∙ c.format.ensures.text in
    text_cut c.args.seats.now c.loop-turn.seats c.args.events.now c.loop-turn.turn-index
    c.machine-number.result c.turn-item.result c.index-seats-number.result c.serve.new.self
    c.as_bytes.result.now c.loop-turn-test.true c.loop-turn.invariant.seats c.turn-item.is
    c.machine-number.ensures inside shown
    c.loop-turn.invariant.text c.in-Err.ensures.text

pub returns-in-Err-clause-machines : goal.returns-in-Err-clause-machines
returns-in-Err-clause-machines g c =
    let inside : c.machine-number.result < length c.loop-turn.seats = search rules in
    let shown : c.as_bytes.result.now ≡ decimal c.machine-number.result =
    c.as_bytes.ensures.value ∙ c.format.ensures.text in
    machines_cut c.args.seats.now c.loop-turn.seats c.args.events.now c.loop-turn.turn-index
    c.machine-number.result c.turn-item.result c.index-seats-number.result c.serve.new.self
    c.as_bytes.result.now c.loop-turn-test.true c.loop-turn.invariant.seats c.turn-item.is
    c.machine-number.ensures inside shown
    c.loop-turn.invariant.text c.in-Err.ensures.guest

pub loop-turn-preserved : goal.loop-turn-preserved
loop-turn-preserved g c =
    let inside : c.machine-number.result < length c.loop-turn.seats = search rules in
    let shown : c.as_bytes.result.now ≡ decimal c.machine-number.result =
    c.as_bytes.ensures.value ∙ c.format.ensures.text in
    record {
      text = text_next c.args.seats.now c.loop-turn.seats c.args.events.now c.loop-turn.turn-index
          c.machine-number.result c.turn-item.result c.index-seats-number.result c.serve.new.self
          c.as_bytes.result.now c.loop-turn-test.true c.loop-turn.invariant.seats c.turn-item.is
          c.machine-number.ensures inside shown
          c.loop-turn.invariant.text c.in-Ok.ensures.text;
      seats = guests_next c.args.seats.now c.loop-turn.seats c.args.events.now c.loop-turn.turn-index
          c.machine-number.result c.turn-item.result c.index-seats-number.result c.serve.new.self
          c.as_bytes.result.now c.loop-turn-test.true c.loop-turn.invariant.seats c.turn-item.is
          c.machine-number.ensures inside shown
          c.in-Ok.ensures.guest;
    }
