-- A greater bound on turns only extends the run of a program. What the host is told of it is
-- `LaterTurnsExtend`.
use Rattle.std.specs.Prelude.{◌≤◌, ℕ}
use Rattle.host_script.specs.declared.script.Script.{Script}
use Rattle.pawn_meaning.specs.Program.{Program}
use Rattle.pawn_meaning.specs.Later.{Below}
use Rattle.pawn_meaning.specs.Told.{scene_of, whole}

-- so for each program, script and function that is entered, and each two bounds
abbrev pub RunsExtend : Type 0
RunsExtend = (t m : ℕ) (least : t ≤ m) (program : Program) (script : Script) (f : ℕ)
    → Below t m least (whole (scene_of program script t) f) (whole (scene_of program script m) f)
