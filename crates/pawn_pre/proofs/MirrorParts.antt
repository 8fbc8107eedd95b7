-- Steps and turns at the lines of conditionals in a chosen part.
use Rattle.std.proofs.Common.{◌≡◌, ℕ, List, [], ◌∷◌, Bool, true, false, not, if◌then◌else◌, Ok}
use Rattle.std.proofs.Common.{refl}
use Rattle.pawn_cells.specs.Cells.{is_zero}
use Rattle.pawn_outside.specs.Held.{Held}
use Rattle.pawn_pre.specs.declared.directive.Word.TheVariants as word
use Rattle.pawn_pre.specs.declared.state.Part.TheVariants.{Chosen, Waiting}
use Rattle.pawn_pre.specs.Work.{act, begin_if, turn_elseif, turn_else, end_if, elseif_by, else_by}
use Rattle.pawn_pre.specs.Work.{end_by, push, part_of_value}
use Rattle.pawn_pre.specs.Conditionals.{if_by, if_not_past, endif_by, dropped_elseif, dropped_else}
use Rattle.pawn_pre.specs.Lists.{first_of}
use Rattle.pawn_pre.specs.Marks.{Mark, Opens, Closes, begun, kept, rules, settings, conditionals}
use Rattle.pawn_pre.specs.Level.{Level}
use Rattle.pawn_pre.specs.OpenLines.{place}
use Rattle.pawn_pre.specs.Page as page
use Rattle.pawn_pre.specs.Partner.{partner}
use Rattle.pawn_pre.specs.Evaluation.{Value}
use Rattle.pawn_pre.specs.Walk.{On, worked, with_work}
use Rattle.pawn_pre.proofs.Mirror.{Reads, Drops, Waits, Passes, Covers, Mirrors, all_chosen, passed}
use Rattle.pawn_pre.proofs.Mirror.{shown, shown_stays, lines_open}
use Rattle.pawn_pre.proofs.MirrorKept.{by_result, chosen_then, reads_on}

module _ (value : Value) (map : Held) (marks : List Mark) (lower : List (List Bool)) (top : Level)
    (below : List Level) (covers : Covers lower below) (number : ℕ) where
  -- the condition's value opens the part, or waits for another
  pub opened_by : (outer : List Bool) → conditionals marks ≡ outer ∷ lower → (zero : Bool) →
      Mirrors value map (On (with_work (shown marks Reads outer top below)
      (push (shown marks Reads outer top below).work (if zero then Waiting else Chosen))))
      (if_by (not zero) marks (lines_open top below))
  unfolding all_chosen passed begun kept rules settings conditionals
  opened_by outer opens true =
      shown_stays value map marks (Drops Waits []) outer lower top below opens covers
  opened_by outer opens false =
      reads_on value map marks lower top below covers number (Opens false ∷ marks) (false ∷ outer)
      (rw opens refl)

  pub ifs : (outer : List Bool) → conditionals marks ≡ outer ∷ lower → (bytes : List ℕ) →
      Mirrors value map (worked (shown marks Reads outer top below) number
      (act value (shown marks Reads outer top below).work word.If bytes))
      (page.direct value map marks (place top.file number) word.If bytes (lines_open top below))
  unfolding act begin_if
  ifs outer opens bytes =
      chosen_then value map marks lower top below covers number outer opens _ _ _
      (by_result value map marks lower top below covers number Reads outer
      (page.condition_at value marks bytes)
      (λ v. Ok (push (shown marks Reads outer top below).work (part_of_value v)))
      (λ v. if_by (not (is_zero v)) marks (lines_open top below))
      (λ v. opened_by outer opens (is_zero v)))

  elseifs_by : (outer : List Bool) → conditionals marks ≡ outer ∷ lower → (bytes : List ℕ) →
      Mirrors value map (worked (shown marks Reads outer top below) number
      (elseif_by value (shown marks Reads outer top below).work bytes
      (first_of (all_chosen outer))))
      (if_not_past marks (place top.file number) (first_of outer)
      (dropped_elseif marks (partner [] (lines_open top below))))
  unfolding all_chosen passed
  elseifs_by [] opens bytes = refl
  elseifs_by (true ∷ outer) opens bytes = refl
  elseifs_by (false ∷ outer) opens bytes =
      shown_stays value map marks (Drops (Passes false) []) outer lower top below opens covers

  pub elseifs : (outer : List Bool) → conditionals marks ≡ outer ∷ lower → (bytes : List ℕ) →
      Mirrors value map (worked (shown marks Reads outer top below) number
      (act value (shown marks Reads outer top below).work word.ElseIf bytes))
      (page.direct value map marks (place top.file number) word.ElseIf bytes (lines_open top below))
  unfolding act turn_elseif
  elseifs outer opens bytes = rw opens (elseifs_by outer opens bytes)

  elses_by : (outer : List Bool) → conditionals marks ≡ outer ∷ lower →
      Mirrors value map (worked (shown marks Reads outer top below) number
      (else_by (shown marks Reads outer top below).work (first_of (all_chosen outer))))
      (if_not_past marks (place top.file number) (first_of outer)
      (dropped_else marks (partner [] (lines_open top below))))
  unfolding all_chosen passed
  elses_by [] opens = refl
  elses_by (true ∷ outer) opens = refl
  elses_by (false ∷ outer) opens =
      shown_stays value map marks (Drops (Passes true) []) outer lower top below opens covers

  pub elses : (outer : List Bool) → conditionals marks ≡ outer ∷ lower → (bytes : List ℕ) →
      Mirrors value map (worked (shown marks Reads outer top below) number
      (act value (shown marks Reads outer top below).work word.Else bytes))
      (page.direct value map marks (place top.file number) word.Else bytes (lines_open top below))
  unfolding act turn_else
  elses outer opens bytes = rw opens (elses_by outer opens)

  endifs_by : (outer : List Bool) → conditionals marks ≡ outer ∷ lower →
      Mirrors value map (worked (shown marks Reads outer top below) number
      (end_by (shown marks Reads outer top below).work (first_of (all_chosen outer))))
      (endif_by marks (place top.file number) (first_of outer) (lines_open top below))
  unfolding all_chosen begun kept rules settings conditionals
  endifs_by [] opens = refl
  endifs_by (past ∷ outer) opens =
      reads_on value map marks lower top below covers number (Closes ∷ marks) outer (rw opens refl)

  pub endifs : (outer : List Bool) → conditionals marks ≡ outer ∷ lower → (bytes : List ℕ) →
      Mirrors value map (worked (shown marks Reads outer top below) number
      (act value (shown marks Reads outer top below).work word.Endif bytes))
      (page.direct value map marks (place top.file number) word.Endif bytes (lines_open top below))
  unfolding act end_if
  endifs outer opens bytes = rw opens (endifs_by outer opens)
