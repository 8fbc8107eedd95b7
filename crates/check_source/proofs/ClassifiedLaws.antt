-- Automata body by body.
use Rattle.std.proofs.Common.{◌≡◌, ◌≤◌, ◌<◌, ◌+◌, ℕ, List, [], ◌∷◌, map, length, get_or, drop, Some}
use Rattle.std.proofs.Common.{refl, sym, ap, ◌∙◌, arith}
use Rattle.std.proofs.lemmas.List.{drop_more}
use Rattle.pawn_tree.specs.declared.name.StateName.{StateName}
use Rattle.pawn_meaning.specs.Program.{Automaton}
use Rattle.types_rules.specs.Clauses.{items}
use Rattle.types_rules.specs.Groups as plain
use Rattle.types_rules.specs.Groups.{Group}
use Rattle.types_rules.specs.Automata.{with_items, with_classifier, classified}
use Rattle.check_source.specs.declared.written.Written.{Written}
use Rattle.check_source.specs.WrittenView.{written_view}

pub some_states : (names : List (List ℕ)) (fallback : List ℕ) (groups : List Group)
    (automata : List Automaton) (it : plain.Written) (states : List StateName)
    → 1 ≤ length states → with_classifier names fallback groups automata it (Some states)
    ≡ with_items automata (items states)
some_states names fallback groups automata it [] h = absurd (omega (arith, h))
some_states names fallback groups automata it (state ∷ more) h = refl

pub classified_more : (names : List (List ℕ)) (fallback : List ℕ) (groups : List Group)
    (bodies : List Written) (i : ℕ) (x : Written) (old now whole : List Automaton)
    → classified names fallback groups old (map written_view (drop i bodies)) ≡ whole
    → i < length bodies → x ≡ get_or bodies i x
    → now ≡ with_classifier names fallback groups old (written_view x)
    (written_view x).function.states
    → classified names fallback groups now (map written_view (drop (i + 1) bodies)) ≡ whole
unfolding classified
classified_more names fallback groups bodies i x old now whole h lt is e =
    let cut : drop i bodies ≡ x ∷ drop (i + 1) bodies =
    drop_more bodies i x lt ∙ ap (λ (y : Written). y ∷ drop (i + 1) bodies) (sym is) in
    ap (λ (n : List Automaton). classified names fallback groups n
    (map written_view (drop (i + 1) bodies))) e
    ∙ ap (λ (its : List Written). classified names fallback groups old (map written_view its))
    (sym cut) ∙ h
