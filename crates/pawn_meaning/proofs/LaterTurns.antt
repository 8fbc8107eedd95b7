-- The law on meanings as they are told.
use Rattle.std.proofs.Common.{◌≡◌, ◌+◌, ◌≤◌, ◌⊎◌, inl, inr, ℕ, sym, ap, arith}
use Rattle.pawn_meaning.specs.World.{World, first_world}
use Rattle.pawn_meaning.specs.Run.{Outcome, Gives, Stops, More}
use Rattle.pawn_meaning.specs.Program.{Program}
use Rattle.pawn_meaning.specs.Told.{Cut, told_of, told_by, scene_of, whole}
use Rattle.pawn_meaning.specs.Extends.{Rises, GoesOn, Extends, LaterTurnsExtend, TurnsNeverFall}
use Rattle.pawn_meaning.specs.Later.{Later, world_of, bump, Below}
use Rattle.pawn_meaning.proofs.Monotone.{whole_below, whole_grows}

goes_on : (t : ℕ) (x : World) (r : Outcome ⊥) → x.turns ≡ t → Later (bump x) (world_of r)
    → GoesOn (t + 1) (told_by Cut x) (told_of r)
goes_on t x (Gives a y) e l = elim a [ ]
goes_on t x (Stops end y) e l =
    record { new = l.new; entries = l.entries; rises = rw (sym e) l.rises }
goes_on t x (More y) e l = record { new = l.new; entries = l.entries; rises = rw (sym e) l.rises }

cut_or_on : (t : ℕ) (x : World) (r : Outcome ⊥) → x.turns ≡ t
    → (r ≡ More x) ⊎ Later (bump x) (world_of r)
    → (told_of r ≡ told_by Cut x) ⊎ GoesOn (t + 1) (told_by Cut x) (told_of r)
cut_or_on t x r e (inl same) = inl (ap told_of same)
cut_or_on t x r e (inr l) = inr (goes_on t x r e l)

extends : (t m : ℕ) (least : t ≤ m) (o r : Outcome ⊥) → Below t m least o r
    → Extends t (told_of o) (told_of o).last (told_of r)
extends t m least (Gives a x) r b = elim a [ ]
extends t m least (Stops end x) r b = (b.0, ap told_of b.1)
extends t m least (More x) r b = (b.0, cut_or_on t x r b.0 b.1)

pub later_turns_extend_lem : LaterTurnsExtend
later_turns_extend_lem program script f limit more h =
    extends limit more h _ _ (whole_below limit more h program script f)

never_falls : (program : Program) (o : Outcome ⊥) → Later (first_world program) (world_of o)
    → Rises 0 0 (told_of o).entries (told_of o).turns (told_of o).peak
never_falls program (Gives a x) l = elim a [ ]
never_falls program (Stops end x) l = rw l.entries l.rises
never_falls program (More x) l = rw l.entries l.rises

pub turns_never_fall_lem : TurnsNeverFall
turns_never_fall_lem program script f limit =
    never_falls program (whole (scene_of program script limit) f)
    (whole_grows limit limit (omega arith) program script f)
