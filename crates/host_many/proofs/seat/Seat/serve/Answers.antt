use Rattle.host_many.proofs.seat.Seat.serve.Goals as goal

pub returns-in-Start-clause-guest : goal.returns-in-Start-clause-guest
returns-in-Start-clause-guest g c =
    rw c.in-Start.is (rw c.as_slice.ensures at (c.start.ensures.guest c.in-Start.machine))

pub returns-in-Go-clause-guest : goal.returns-in-Go-clause-guest
returns-in-Go-clause-guest g c = rw c.in-Go.is (c.go.ensures.guest _)
