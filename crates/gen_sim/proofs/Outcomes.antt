-- What an outcome tells: its entries, and the marks of these with its own behind them.
use Rattle.std.proofs.Common.{◌≡◌, ◌+◌, ◌≤◌, ℕ, true, false, ◌++◌, Some, length, slice_get, refl}
use Rattle.std.proofs.Common.{sym, ap, subst, ◌∙◌}
use Rattle.pawn_meaning.specs.World.{World}
use Rattle.pawn_meaning.specs.Run.{Outcome, Gives, Stops, More}
use Rattle.pawn_meaning.specs.Told.{told_of}
use Rattle.pawn_meaning.specs.Extends.{Rises}
use Rattle.pawn_meaning.specs.Later.{Later, world_of, bump}
use Rattle.gen_agrees.specs.AgreesOn.{Mark, marks, is_cut}
use Rattle.gen_sim.proofs.Marks.{marked, mark_last, mark_above, NextMark, next_mark}

pub entries_are : (o : Outcome ⊥) → (told_of o).entries ≡ (world_of o).entries
entries_are (Gives a w) = elim a [ ]
entries_are (Stops e w) = refl
entries_are (More w) = refl

-- the rest of a world that lies on the way to an outcome
rises_to : (w : World) (o : Outcome ⊥) (l : Later w (world_of o))
    → Rises w.turns w.peak l.new (told_of o).turns (told_of o).peak
rises_to w (Gives a x) l = elim a [ ]
rises_to w (Stops e x) l = l.rises
rises_to w (More x) l = l.rises

abbrev pub last_mark : Outcome ⊥ → Mark
last_mark o =
    record {
      turns = (told_of o).turns;
      peak = (told_of o).peak;
      is_cut = is_cut (told_of o).last;
    }

-- the mark right behind the entries of a world on the way
pub next_on_way : (o : Outcome ⊥) (w : World) (l : Later w (world_of o))
    → NextMark w.entries l.new w.peak (last_mark o)
next_on_way o w l = next_mark w.entries l.new w.turns w.peak (last_mark o) (rises_to w o l)

-- behind the entries of a meaning that was cut stands the cut
pub cut_is_last : (o : Outcome ⊥) (n : ℕ) (mark : Mark) (w : World) → o ≡ More w
    → slice_get (marks (told_of o)) n ≡ Some mark → mark.is_cut ≡ false → length w.entries ≤ n → ⊥
cut_is_last o n mark w is e never h =
    let f : slice_get (marks (told_of (More w))) n ≡ Some mark =
    subst (λ x. slice_get (marks (told_of x)) n ≡ Some mark) is e in
    let same =
    ap (λ (k : Mark). k.is_cut) (mark_last w.entries (last_mark (More w)) n mark f h) in
    clash (sym same ∙ never)
  where
    clash : true ≡ false → ⊥
    clash e = cc

-- and behind what was cut before, more turns
pub more_is_above : (o : Outcome ⊥) (n : ℕ) (mark : Mark) (w : World)
    → Later (bump w) (world_of o) → slice_get (marks (told_of o)) n ≡ Some mark
    → length w.entries ≤ n → w.turns + 1 ≤ mark.turns
more_is_above o n mark w l e h =
    let f : slice_get (marked (w.entries ++ l.new) (last_mark o)) n ≡ Some mark =
    subst (λ es. slice_get (marked es (last_mark o)) n ≡ Some mark) (entries_are o ∙ l.entries) e in
    mark_above w.entries l.new (w.turns + 1) w.peak (last_mark o) n mark (rises_to (bump w) o l) f h
