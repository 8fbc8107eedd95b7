-- Marks in the order of the source, as code goes through them: one more, all of them, and that a
-- fault of those so far is one of all.
use Rattle.std.proofs.Common.{◌≡◌, ◌+◌, ◌<◌, ◌≤◌, ℕ, List, ◌∷◌, length, take, get_or, sym, ap}
use Rattle.std.proofs.Common.{subst, ◌∙◌}
use Rattle.std.specs.List.{Contains}
use Rattle.std.proofs.lemmas.List.{take_all}
use Rattle.names_sight.specs.declared.mark.Mark as held
use Rattle.names_sight.specs.MarkView.{mark_view, marks_view}
use Rattle.names_rules.specs.Around.{Around}
use Rattle.names_rules.specs.Faults.{marks_faults}
use Rattle.names_rules.proofs.ExtendLaws.{faults_stay}
use Rattle.names_rules.proofs.OrderLaws.{next_mark, all_marks_extend}
use Rattle.pawn_verdict.specs.declared.fault.CheckFault.{CheckFault}
use Rattle.pawn_verdict.specs.declared.fault.CheckFault.TheVariants.{Source, Memory}
use Rattle.pawn_verdict.specs.Answers.{Fails}

pub marks_more : (marks : List held.Mark) (i : ℕ) (mark : held.Mark) → i < length marks
    → mark ≡ get_or marks i mark
    → mark_view mark ∷ marks_view (take i marks) ≡ marks_view (take (i + 1) marks)
marks_more marks i mark lt e =
    ap (λ m. mark_view m ∷ marks_view (take i marks)) e ∙ sym (next_mark mark_view marks i mark lt)

pub marks_all : (marks : List held.Mark) (i : ℕ) → length marks ≤ i
    → marks_view (take i marks) ≡ marks_view marks
marks_all marks i le = ap marks_view (take_all i marks le)

pub marks_fail : (around : Around) (marks : List held.Mark) (i : ℕ) (mark : held.Mark)
    (fault : CheckFault) → i < length marks → mark ≡ get_or marks i mark
    → Fails (marks_faults around (mark_view mark ∷ marks_view (take i marks))) fault
    → Fails (marks_faults around (marks_view marks)) fault
marks_fail around marks i mark (Source kind place) lt e h = record {
  cause =
      faults_stay around (marks_view (take (i + 1) marks)) (marks_view marks)
      (record { kind = kind; place = place }) (all_marks_extend mark_view marks (i + 1))
      (subst (λ m. Contains (marks_faults around m) (record { kind = kind; place = place }))
      (marks_more marks i mark lt e) h.cause);
}
marks_fail around marks i mark Memory lt e h = record { cause = tt }
