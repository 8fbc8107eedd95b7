-- The end of a session behind which there is no going on.
use Rattle.std.specs.Prelude.{Option, None, Some}
use Rattle.host_run.specs.declared.end.SessionEnd.{SessionEnd}
use Rattle.host_run.specs.declared.end.SessionEnd.TheVariants as session

-- any but a sleep
abbrev pub unless_asleep : SessionEnd → Option SessionEnd
unless_asleep (session.Done value) = Some (session.Done value)
unless_asleep (session.Exit value tag) = Some (session.Exit value tag)
unless_asleep (session.Error code) = Some (session.Error code)
unless_asleep (session.Asleep value tag) = None
unless_asleep session.Steps = Some session.Steps
unless_asleep session.SinkFault = Some session.SinkFault
