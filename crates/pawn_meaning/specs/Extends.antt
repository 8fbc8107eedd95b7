-- What a greater bound on turns adds to a meaning.
use Rattle.std.specs.Prelude.{◌≡◌, ◌+◌, ◌≤◌, ◌⊎◌, ℕ, List, [], ◌∷◌, ◌++◌}
use Rattle.host_script.specs.declared.script.Script.{Script}
use Rattle.pawn_meaning.specs.Program.{Program}
use Rattle.pawn_meaning.specs.World.{Entry}
use Rattle.pawn_meaning.specs.Told.{Last, Ended, Cut, Told, meaning}

-- from one pair of turns and peak by way of entries to another, neither ever falls
abbrev pub Rises : ℕ → ℕ → List Entry → ℕ → ℕ → Type 0
Rises turns peak [] last_turns last_peak = (turns ≤ last_turns) × (peak ≤ last_peak)
Rises turns peak (entry ∷ entries) last_turns last_peak =
    (turns ≤ entry.turns) × (peak ≤ entry.peak)
    × Rises entry.turns entry.peak entries last_turns last_peak

-- further entries, each with at least so many turns
pub record GoesOn (turns : ℕ) (first more : Told) : Type 0 where
  pub new : List Entry
  pub entries : more.entries ≡ first.entries ++ new
  pub rises : Rises turns first.peak new more.turns more.peak

-- an end within a bound stays; a cut has used the bound up, and stays or has one turn more
abbrev pub Extends : ℕ → Told → Last → Told → Type 0
Extends limit first (Ended end) more = (first.turns ≤ limit) × (more ≡ first)
Extends limit first Cut more =
    (first.turns ≡ limit) × ((more ≡ first) ⊎ GoesOn (limit + 1) first more)

-- so for each program, script and function that is entered, and each two bounds
abbrev pub LaterTurnsExtend : Type 0
LaterTurnsExtend = (program : Program) (script : Script) (f : ℕ) (limit more : ℕ) → limit ≤ more
    → Extends limit (meaning program script f limit) (meaning program script f limit).last
    (meaning program script f more)

-- and along one meaning turns and peaks never fall
abbrev pub TurnsNeverFall : Type 0
TurnsNeverFall = (program : Program) (script : Script) (f : ℕ) (limit : ℕ)
    → let told = meaning program script f limit in Rises 0 0 told.entries told.turns told.peak
