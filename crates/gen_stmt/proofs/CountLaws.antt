-- The values of ranges and of cases, from a number on.
use Rattle.std.proofs.Common.{◌≡◌, ◌+◌, ◌<◌, ℕ, suc, ℤ, List, drop, get_or, length, add-one, sym}
use Rattle.std.proofs.Common.{ap, ◌∙◌, arith}
use Rattle.std.proofs.Math.Seq.{drop-cons}
use Rattle.std.proofs.lemmas.List.{drop_all}
use Rattle.pawn_meaning.specs.View.{cases_view}
use Rattle.pawn_meaning.specs.declared.node.Case.{Case}
use Rattle.pawn_meaning.specs.Weight.{values_in}
use Rattle.gen_laws.specs.SwitchCode.{values_of, cases_values}

pub values_more : (ranges : List (ℤ × ℤ)) (i : ℕ) (range : ℤ × ℤ) → i < length ranges
    → range ≡ get_or ranges i range
    → values_of (drop i ranges) ≡ values_in range + values_of (drop (i + 1) ranges)
values_more ranges i range within is =
    ap values_of (drop-cons ranges i range within)
    ∙ ap (λ r. values_in r + values_of (drop (suc i) ranges)) (sym is)
    ∙ ap (λ k. values_in range + values_of (drop k ranges)) (sym (add-one i))

pub no_values : (ranges : List (ℤ × ℤ)) (i : ℕ) → i ≡ length ranges → values_of (drop i ranges) ≡ 0
no_values ranges i e = ap values_of (drop_all i ranges (omega (arith, e)))

pub cases_more : (cases : List Case) (i : ℕ) (case : Case) → i < length cases
    → case ≡ get_or cases i case
    → cases_values (cases_view (drop i cases))
    ≡ values_of case.ranges + cases_values (cases_view (drop (i + 1) cases))
cases_more cases i case within is =
    ap (λ l. cases_values (cases_view l)) (drop-cons cases i case within)
    ∙ ap (λ (c : Case). values_of c.ranges + cases_values (cases_view (drop (suc i) cases)))
    (sym is)
    ∙ ap (λ k. values_of case.ranges + cases_values (cases_view (drop k cases))) (sym (add-one i))

pub no_cases_values : (cases : List Case) (i : ℕ) → i ≡ length cases
    → cases_values (cases_view (drop i cases)) ≡ 0
no_cases_values cases i e =
    ap (λ l. cases_values (cases_view l)) (drop_all i cases (omega (arith, e)))
