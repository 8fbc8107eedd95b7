-- Marks in the order of the source, as code goes through them: those before a mark, and those that
-- follow.
use Rattle.std.proofs.Common.{◌≡◌, ◌+◌, ◌<◌, ℕ, List, [], ◌∷◌, map, length, take, drop, get_or}
use Rattle.std.proofs.Common.{reverse, ap, ◌∙◌, sym}
use Rattle.std.proofs.lemmas.List.{take_more, take-append-drop, reverse-append, map-append}
use Rattle.names_rules.specs.Mark.{Mark}
use Rattle.names_rules.specs.Extends.{Extends}

-- what stands before the mark behind is one mark more
pub next_mark : {H : Type 0} (view : H → Mark) (marks : List H) (i : ℕ) (d : H) → i < length marks
    → map view (reverse (take (i + 1) marks))
    ≡ view (get_or marks i d) ∷ map view (reverse (take i marks))
next_mark view marks i d lt =
    ap (λ some. map view (reverse some)) (take_more marks i d lt)
    ∙ ap (map view) (reverse-append (take i marks) (get_or marks i d ∷ []))

-- all marks stand behind those before one of them
pub all_marks_extend : {H : Type 0} (view : H → Mark) (marks : List H) (i : ℕ)
    → Extends (map view (reverse (take i marks))) (map view (reverse marks))
all_marks_extend view marks i = record {
  more = map view (reverse (drop i marks));
  same = ap (λ some. map view (reverse some)) (sym (take-append-drop i marks))
      ∙ ap (map view) (reverse-append (take i marks) (drop i marks))
      ∙ map-append view (reverse (drop i marks)) (reverse (take i marks));
}
