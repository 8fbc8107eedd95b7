-- The value that is computed is the one of the expression that a text spells, and no other is.
use Rattle.std.proofs.Common.{◌≡◌, ℕ, ℤ, Option, Some, None, Result, Ok, Err, List, [], map, refl}
use Rattle.std.proofs.Common.{sym, ap, subst, ◌∙◌}
use Rattle.std.specs.Prelude.{MatchOption, IfOk}
use Rattle.pawn_pre.specs.declared.part.Part.{Part}
use Rattle.pawn_pre.specs.declared.reading.Reading.{Reading}
use Rattle.pawn_pre.specs.Condition.{HasValue, IsValue}
use Rattle.pawn_pre.specs.ConditionMachine.{operand, value_by, value_of_parts, value_if}
use Rattle.pawn_pre.specs.ConditionMachine.{value_of}
use Rattle.pawn_pre.specs.Expression.{value}
use Rattle.pawn_pre.specs.Nested.{parts, reading}
use Rattle.pawn_pre.specs.ConditionParts.{parts_from, parts_of}
use Rattle.pawn_pre.proofs.ConditionComplete.{complete}
use Rattle.pawn_pre.proofs.ConditionSound.{sound}
use Rattle.pawn_pre.proofs.NestedLaws.{word, nest, spelled, nests, valued, regroup}
use Rattle.pawn_pre.proofs.NestedLaws.{regroup_nests, regroup_fits}
use Rattle.pawn_pre.proofs.PartLaws.{kinds_spelled, spelled_parts}
use Rattle.pawn_pre.proofs.TextLaws.{told, tokens_there}

-- a text with a value is computed to it
computed : (control : ℕ) (text : List ℕ) (v : ℤ) → HasValue control text v
    → value_of control text ≡ Some v
unfolding value_of value_of_parts
computed control text v h =
    let nested = nest h.tree in
    let all : parts_from control 0 text ≡ Some (parts nested) =
    told control text 0 h.kinds h.tokenised
    ∙ spelled_parts h.kinds (parts nested) (spelled h.tree ∙ h.spelled) in
    ap value_if all ∙ ap value_by (complete nested (nests h.tree 13 h.fits))
    ∙ sym (valued h.tree 13 h.fits) ∙ h.value_is

-- and what is computed is a text's value
has : (control : ℕ) (text : List ℕ) (all : List Part) (r : Reading) (v : ℤ)
    → parts_from control 0 text ≡ Some all → operand all [] ≡ Some r
    → r.value ≡ Some v → HasValue control text v
has control text all r v e f g =
    let there = tokens_there control text 0 all e in
    let whole = sound all r f in
    let kinds_parts : parts_of there.0 ≡ Some all = sym (told control text 0 there.0 there.1) ∙ e in
    let tree = regroup whole.tree in
    let fits = regroup_fits whole.tree 13 whole.fits in
    let same = regroup_nests whole.tree in
    record {
      kinds = there.0;
      tokenised = there.1;
      tree = tree;
      fits = fits;
      spelled =
          sym (spelled tree) ∙ ap (λ n. map word (parts n)) same ∙ ap (map word) whole.spelled
          ∙ kinds_spelled there.0 all kinds_parts;
      value_is =
          valued tree 13 fits ∙ ap (λ n. (reading n).value) same
          ∙ ap (λ (x : Reading). x.value) whole.is ∙ g;
    }

by_reading : (control : ℕ) (text : List ℕ) (all : List Part) (o : Option Reading) (v : ℤ)
    → parts_from control 0 text ≡ Some all → operand all [] ≡ o
    → value_by o ≡ Some v → HasValue control text v
by_reading control text all None v e f g = absurd (never g)
  where
    never : (let none : Option ℤ = None in none) ≡ Some v → ⊥
    never h = cc
by_reading control text all (Some r) v e f g = has control text all r v e f g

by_parts : (control : ℕ) (text : List ℕ) (o : Option (List Part)) (v : ℤ)
    → parts_from control 0 text ≡ o → value_if o ≡ Some v → HasValue control text v
unfolding value_of_parts
by_parts control text None v e g = absurd (never g)
  where
    never : (let none : Option ℤ = None in none) ≡ Some v → ⊥
    never h = cc
by_parts control text (Some all) v e g = by_reading control text all (operand all []) v e refl g

found : (control : ℕ) (text : List ℕ) (v : ℤ) → value_of control text ≡ Some v
    → HasValue control text v
unfolding value_of
found control text v e = by_parts control text (parts_from control 0 text) v refl e

by_value : (control : ℕ) (text : List ℕ) (o : Option ℤ) → value_of control text ≡ o
    → MatchOption o ((v : ℤ) → ¬ (HasValue control text v)) (λ v. HasValue control text v)
by_value control text None e = λ v h. not_both v (sym e ∙ computed control text v h)
  where
    not_both : (v : ℤ) → (let none : Option ℤ = None in none) ≡ Some v → ⊥
    not_both v k = cc
by_value control text (Some v) e = found control text v e

-- the function that gives each text its value
pub value_of_is : IsValue value_of
value_of_is control text = by_value control text (value_of control text) refl

-- what is answered for a text
pub told_value : {E : Type 0} (control : ℕ) (text : List ℕ) (r : Result (Option ℤ) E)
    → IfOk r (λ found. found ≡ value_of control text)
    → IfOk r (λ found. MatchOption found ((v : ℤ) → ¬ (HasValue control text v))
    (λ v. HasValue control text v))
told_value control text (Ok o) e =
    subst (λ o. MatchOption o ((v : ℤ) → ¬ (HasValue control text v))
    (λ v. HasValue control text v)) (sym e) (value_of_is control text)
told_value control text (Err m) e = tt

value_same : (v w : ℤ) → (let some : Option ℤ = Some v in some) ≡ Some w → v ≡ w
value_same v w e = cc

pub one_value : (control : ℕ) (text : List ℕ) (v w : ℤ) → HasValue control text v
    → HasValue control text w → v ≡ w
one_value control text v w h k =
    value_same v w (sym (computed control text v h) ∙ computed control text w k)

alike : (control : ℕ) (text : List ℕ) (a b : Option ℤ)
    → MatchOption a ((v : ℤ) → ¬ (HasValue control text v)) (λ v. HasValue control text v)
    → MatchOption b ((v : ℤ) → ¬ (HasValue control text v)) (λ v. HasValue control text v) → a ≡ b
alike control text None None h k = refl
alike control text None (Some w) h k = absurd (h w k)
alike control text (Some v) None h k = absurd (k v h)
alike control text (Some v) (Some w) h k = ap (λ x. Some x) (one_value control text v w h k)

-- no other function does
pub same_value : (value : ℕ → List ℕ → Option ℤ) → IsValue value → (control : ℕ) (text : List ℕ)
    → value_of control text ≡ value control text
same_value value is control text =
    alike control text (value_of control text) (value control text) (value_of_is control text)
    (is control text)

pub only_value : (value : ℕ → List ℕ → Option ℤ) → IsValue value → value_of ≡ value
only_value value is = λ i control text. same_value value is control text i

pub told_by : {E : Type 0} (control : ℕ) (text : List ℕ) (r : Result (Option ℤ) E)
    → IfOk r (λ found. found ≡ value_of control text)
    → (value : ℕ → List ℕ → Option ℤ) → IsValue value → IfOk r (λ found. found ≡ value control text)
told_by control text (Ok o) e value is = e ∙ same_value value is control text
told_by control text (Err m) e value is = tt
