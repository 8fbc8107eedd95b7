use Rattle.std.proofs.Common.{◌≡◌, ◌∙◌, codes, ap, sym, arith}
use Rattle.pawn_outside.specs.Taken.{joined}
use Rattle.host_many.specs.declared.standing.Standing.TheVariants.{Runs, Over}
use Rattle.host_many.specs.declared.turn.Turn.TheVariants as turn
use Rattle.host_many.specs.Guests.{standing_of}
use Rattle.host_many.specs.Own.{Guest, started}
use Rattle.host_many.specs.Serves as cut
use Rattle.host_many.proofs.TurnLaws.{line_said, line_turn}
use Rattle.host_many.proofs.seat.Seat.start.Goals as goal

pub returns-in-Runs-clause-text : goal.returns-in-Runs-clause-text
returns-in-Runs-clause-text g c =
    let old = c.args.self.now in
    let name = c.args.name.now in
    let runs : old.standing ≡ Runs =
    ap (λ (x : Guest). x.standing) (sym c.self.view_is) ∙ ap standing_of (sym c.mode.ensures)
    ∙ sym c.standing_of.ensures ∙ c.in-Runs.is in
    line_said (joined c.args.front.now) (codes "busy\n") (turn.Start 0 name) old c.args.out.now
    c.say_row.new.out c.say_row.result _ (ap (λ standing. started name standing old) runs)
    c.say_row.ensures

pub returns-in-Runs-clause-guest : goal.returns-in-Runs-clause-guest
returns-in-Runs-clause-guest g c = λ number.
    let old = c.args.self.now in
    let name = c.args.name.now in
    let runs : old.standing ≡ Runs =
    ap (λ (x : Guest). x.standing) (sym c.self.view_is) ∙ ap standing_of (sym c.mode.ensures)
    ∙ sym c.standing_of.ensures ∙ c.in-Runs.is in
    line_turn (joined c.args.front.now) (codes "busy\n") (turn.Start number name) old
    c.args.out.now c.say_row.new.out c.say_row.result
    (ap (λ standing. started name standing old) runs) (cut.start number name) (omega arith)
    c.say_row.ensures

pub returns-in-Over-clause-text : goal.returns-in-Over-clause-text
returns-in-Over-clause-text g c =
    let old = c.args.self.now in
    let name = c.args.name.now in
    let over : old.standing ≡ Over =
    ap (λ (x : Guest). x.standing) (sym c.self.view_is) ∙ ap standing_of (sym c.mode.ensures)
    ∙ sym c.standing_of.ensures ∙ c.in-Over.is in
    line_said (joined c.args.front.now) (codes "over\n") (turn.Start 0 name) old c.args.out.now
    c.say_row-in-Over.new.out c.say_row-in-Over.result _
    (ap (λ standing. started name standing old) over) c.say_row-in-Over.ensures

pub returns-in-Over-clause-guest : goal.returns-in-Over-clause-guest
returns-in-Over-clause-guest g c = λ number.
    let old = c.args.self.now in
    let name = c.args.name.now in
    let over : old.standing ≡ Over =
    ap (λ (x : Guest). x.standing) (sym c.self.view_is) ∙ ap standing_of (sym c.mode.ensures)
    ∙ sym c.standing_of.ensures ∙ c.in-Over.is in
    line_turn (joined c.args.front.now) (codes "over\n") (turn.Start number name) old
    c.args.out.now c.say_row-in-Over.new.out c.say_row-in-Over.result
    (ap (λ standing. started name standing old) over) (cut.start number name) (omega arith)
    c.say_row-in-Over.ensures
