-- A chain, link by link: those so far hold or not, and the rest goes on from the last operand.
use Rattle.std.proofs.Common.{◌≡◌, ◌+◌, ◌<◌, ◌≤◌, ℕ, Bool, true, false, ◌&&◌, List, [], ◌∷◌, Option}
use Rattle.std.proofs.Common.{map, length, drop, get_or, refl, sym, ap, ◌∙◌}
use Rattle.std.proofs.lemmas.List.{drop_all, drop_more}
use Rattle.pawn_cells.specs.declared.place.Place.{Place}
use Rattle.pawn_tree.specs.Expressions.{links}
use Rattle.pawn_tree.specs.View.{link_view}
use Rattle.pawn_tree.specs.declared.expression.Link as held
use Rattle.names_rules.specs.Verdict.{Verdict, Stands, Breaks, faults_of, after, both}
use Rattle.names_rules.specs.Signs.{link_of}
use Rattle.names_rules.specs.Known.{Known}
use Rattle.names_rules.specs.Around.{Around}
use Rattle.names_rules.specs.Worth.{Valued, links_hold, link_worth, linked}
use Rattle.names_rules.specs.Worth as spec
use Rattle.names_sight.specs.Links.{link_sign}
use Rattle.pawn_verdict.specs.declared.fault.CheckFault.{CheckFault}
use Rattle.pawn_verdict.specs.Answers.{Fails}
use Rattle.pawn_verdict.proofs.VerdictLaws.{fails_after, fails_first, none_fails}

-- with those so far
abbrev pub joined : Bool → Verdict Bool → Verdict Bool
joined holds rest = after rest (λ more. Stands (holds && more))

joined_true : (w : Verdict Bool) → joined true w ≡ w
joined_true (Stands more) = refl
joined_true (Breaks faults) = refl

joined_twice : (a b : Bool) (w : Verdict Bool) → joined a (joined b w) ≡ joined (a && b) w
joined_twice true b (Stands more) = refl
joined_twice false b (Stands more) = refl
joined_twice a b (Breaks faults) = refl

ended : (holds : Bool) → joined holds (Stands true) ≡ Stands holds
ended true = refl
ended false = refl

module _ (around : Around) (place : Place) (means : List ℕ → Option Known) (first : Valued)
    (list : List held.Link) where
  pub record SoFar (i : ℕ) (left : Valued) (holds : Bool) : Type 0 where
    pub same : links_hold around place means first (links (map link_view list))
        ≡ joined holds (links_hold around place means left (links (map link_view (drop i list))))

  pub chain_begins : SoFar 0 first true
  chain_begins = record { same = sym (joined_true _) }

  sign_is : (x : held.Link) → link_sign x ≡ spec.link_sign around place (link_view x)
  sign_is (held.Compare sign y) = refl

  -- what the next link makes of its operand, and what it comes to
  abbrev next_rule : ℕ → held.Link → Valued → Valued → Verdict Bool
  next_rule i x left right =
      both (linked around place (link_of (link_sign x)) left right)
      (links_hold around place means right (links (map link_view (drop (i + 1) list))))
      (λ here rest. Stands (here && rest))

  abbrev next_worth : ℕ → held.Link → Valued → Verdict Bool
  next_worth i x left = after (link_worth around place means (link_view x)) (next_rule i x left)

  next_link : {i : ℕ} {left : Valued} {holds : Bool} (x : held.Link) → SoFar i left holds
      → i < length list → x ≡ get_or list i x
      → links_hold around place means first (links (map link_view list))
      ≡ joined holds (next_worth i x left)
  next_link {i} {left} {holds} x h lt e =
      h.same
      ∙ ap (λ rest. joined holds (links_hold around place means left (links (map link_view rest))))
      (drop_more list i x lt)
      ∙ ap (λ y. joined holds (links_hold around place means left
      (links (map link_view (y ∷ drop (i + 1) list))))) (sym e)
      ∙ ap (λ sign. joined holds (after (link_worth around place means (link_view x)) (λ right.
      both (linked around place (link_of sign) left right)
      (links_hold around place means right (links (map link_view (drop (i + 1) list))))
      (λ here rest. Stands (here && rest))))) (sym (sign_is x))

  pub link_goes_on : {i : ℕ} {left : Valued} {holds : Bool} (x : held.Link) (right : Valued)
      (here : Bool) → SoFar i left holds → i < length list → x ≡ get_or list i x
      → link_worth around place means (link_view x) ≡ Stands right
      → linked around place (link_of (link_sign x)) left right ≡ Stands here
      → SoFar (i + 1) right (holds && here)
  link_goes_on {i} {left} {holds} x right here h lt e worth link = record {
    same = next_link x h lt e
        ∙ rw (worth, link) (joined_twice holds here
        (links_hold around place means right (links (map link_view (drop (i + 1) list)))));
  }

  pub link_worth_fails : {i : ℕ} {left : Valued} {holds : Bool} (x : held.Link) (fault : CheckFault)
      → SoFar i left holds → i < length list → x ≡ get_or list i x
      → Fails (faults_of (link_worth around place means (link_view x))) fault
      → Fails (faults_of (links_hold around place means first (links (map link_view list)))) fault
  link_worth_fails {i} {left} {holds} x fault h lt e fails = rw (next_link x h lt e)
      (fails_after (next_worth i x left) (λ more. Stands (holds && more)) fault
      (fails_after (link_worth around place means (link_view x)) (next_rule i x left) fault fails))

  pub link_fails : {i : ℕ} {left : Valued} {holds : Bool} (x : held.Link) (right : Valued)
      (fault : CheckFault) → SoFar i left holds → i < length list → x ≡ get_or list i x
      → link_worth around place means (link_view x) ≡ Stands right
      → Fails (faults_of (linked around place (link_of (link_sign x)) left right)) fault
      → Fails (faults_of (links_hold around place means first (links (map link_view list)))) fault
  link_fails {i} {left} {holds} x right fault h lt e worth fails = rw (next_link x h lt e, worth)
      (fails_after (next_rule i x left right) (λ more. Stands (holds && more)) fault
      (fails_first (linked around place (link_of (link_sign x)) left right)
      (links_hold around place means right (links (map link_view (drop (i + 1) list))))
      (λ here rest. Stands (here && rest)) fault fails))

  pub chain_ends : {i : ℕ} {left : Valued} {holds : Bool} → SoFar i left holds → length list ≤ i
      → links_hold around place means first (links (map link_view list)) ≡ Stands holds
  chain_ends {i} {left} {holds} h le =
      h.same ∙ ap (λ rest. joined holds
      (links_hold around place means left (links (map link_view rest)))) (drop_all i list le)
      ∙ ended holds
