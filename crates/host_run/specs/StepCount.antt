-- How many steps a session did, by its bound and its end.
use Rattle.std.specs.Prelude.{◌≡◌, ◌≢◌, ◌≤◌, ℕ, List, Option}
use Rattle.host_script.specs.declared.script.Script.{Script}
use Rattle.host_run.specs.Segments.{Place, segment_of}
use Rattle.host_run.specs.Session.{Sessions}
use Rattle.host_run.specs.declared.end.SessionEnd.{SessionEnd}
use Rattle.host_run.specs.declared.end.SessionEnd.TheVariants as session

-- all of the bound where it ended for want of steps; else at least the one that ended it
pub record IsStepCount (bound count : ℕ) (given : SessionEnd) : Type 0 where
  pub within : count ≤ bound
  pub all : given ≡ session.Steps → count ≡ bound
  pub some : given ≢ session.Steps → 1 ≤ count

-- whatever a session came to
abbrev pub SessionsAreBounded : Type 0
SessionsAreBounded = (script : Script) (taken after : Option (List ℕ)) (bound count : ℕ)
    (old new : Place) (given : SessionEnd)
    → Sessions (segment_of script old) taken after bound old count given new
    → IsStepCount bound count given
