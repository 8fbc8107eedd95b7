-- The faults of bodies by their classifiers, as code goes through them.
use Rattle.std.proofs.Common.{◌≡◌, ◌<◌, ◌+◌, ℕ, Bool, List, [], ◌∷◌, map, length, get_or, drop}
use Rattle.std.proofs.Common.{Result, Err, sym, ap, ap₂, subst, ◌∙◌}
use Rattle.std.proofs.lemmas.List.{drop_more}
use Rattle.pawn_tree.specs.declared.name.At.{At}
use Rattle.pawn_states.specs.declared.clause.Clause.{Clause}
use Rattle.pawn_states.specs.Classifier.{first_fault}
use Rattle.names_rules.specs.Verdict.{Fault}
use Rattle.pawn_verdict.specs.declared.fault.CheckFault.{CheckFault}
use Rattle.types_rules.specs.Groups as plain
use Rattle.types_rules.specs.Functions.{clause_faults, has_classifier}
use Rattle.check_source.specs.declared.written.Written.{Written}
use Rattle.check_source.specs.WrittenView.{written_view}
use Rattle.check_functions.specs.Bare.{bodies_by, states_by}
use Rattle.check_functions.specs.Clauses.{clauses_by, places_by}
use Rattle.check_functions.specs.Finds.{Finds}
use Rattle.check_functions.proofs.ClauseLaws.{places_are}
use Rattle.check_functions.proofs.FindsLaws.{finds_first}

pub body_fails : (classified again : Bool) (items : List Written) (i : ℕ) (it : Written)
    (whole : List Fault) (fault : CheckFault)
    → whole ≡ bodies_by classified again (map written_view (drop i items)) → i < length items
    → it ≡ get_or items i it
    → Finds (states_by classified again (written_view it) (written_view it).function.states)
    (Err fault) → Finds whole (Err fault)
body_fails classified again items i it whole fault h lt is e =
    let cut : drop i items ≡ it ∷ drop (i + 1) items =
    drop_more items i it lt ∙ ap (λ (y : Written). y ∷ drop (i + 1) items) (sym is) in
    subst (λ (fs : List Fault). Finds fs (Err fault))
    (sym (h ∙ ap (λ (its : List Written). bodies_by classified again (map written_view its))
    cut))
    (finds_first _ _ fault e)

pub clauses_found : (places : List At) (clauses all : List Clause) (bodies : List plain.Written)
    (result : Result (Unit {0}) CheckFault)
    → places ≡ map (λ (it : plain.Written). it.at) bodies → clauses ≡ all
    → Finds (clauses_by places clauses) result
    → Finds (clause_faults bodies (first_fault [] all)) result
clauses_found places clauses all bodies result p c h =
    subst (λ (fs : List Fault). Finds fs result)
    (ap₂ (λ (ps : List At) (cs : List Clause). places_by ps (first_fault [] cs)) p c
    ∙ places_are bodies (first_fault [] all)) h
