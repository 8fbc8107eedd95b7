-- Ranges, values and cases as rows.
use Rattle.std.proofs.Common.{◌≡◌, ℕ, ℤ, List, [], ◌∷◌, ◌++◌, refl, sym, ap, ◌∙◌, append_assoc}
use Rattle.std.proofs.lemmas.List.{append-nil}
use Rattle.pawn_tree.specs.declared.name.At.{At}
use Rattle.pawn_tree.specs.Statements.{Range}
use Rattle.pawn_meaning.specs.Program as code
use Rattle.pawn_meaning.specs.View.{cases_view, stmt_view}
use Rattle.pawn_meaning.specs.declared.node.Case as held
use Rattle.names_rules.specs.Verdict.{Verdict, Stands, Breaks, Fault, faults_of, after, both}
use Rattle.types_rules.specs.Rule.{each}
use Rattle.types_rules.specs.Around.{Around}
use Rattle.types_rules.specs.Stood.{Stood, stood_behind, nothing_stood}
use Rattle.types_rules.specs.Switches.{Labels, Ends, label_by, labels}
use Rattle.types_rules.specs.Statements.{CasePart, Cased, case_before, no_cased, cased}
use Rattle.check_locals.specs.Rows.{joined}
use Rattle.check_locals.proofs.VarLaws.{stood_assoc, nothing_first, nothing_last}
use Rattle.check_switches.specs.Cased.{bare, bare_verdict, one_cased, cases_behind, cased_behind}
use Rattle.check_switches.specs.Cased.{label_join}
use Rattle.check_switches.specs.Switching.{case_rule, cased_in}
use Rattle.check_switches.proofs.TakenLaws.{IsRow}
use Rattle.check_switches.proofs.OneLaws.{alone_is}

-- ---- each of a list

abbrev pub single : {A B : Type 0} → (B → Verdict A) → B → Verdict (List A)
single rule x = after (rule x) (λ y. Stands (y ∷ []))

each_by : {A : Type 0} (v : Verdict A) (w : Verdict (List A))
    → both v w (λ y ys. Stands (y ∷ ys)) ≡ joined (λ x y. x ++ y) (after v (λ y. Stands (y ∷ []))) w
each_by (Stands x) (Stands ys) = refl
each_by (Stands x) (Breaks faults) = refl
each_by (Breaks faults) w = refl

pub each_row : {A B : Type 0} (rule : B → Verdict A)
    → IsRow (λ x y. x ++ y) [] (single rule) (each rule)
unfolding each
each_row rule = record {
  assoc = λ x y z. sym (append_assoc x y z);
  first = λ x. refl;
  last = append-nil;
  base = refl;
  step = λ x xs. each_by (rule x) (each rule xs);
}

pub pushed : {A : Type 0} (done : Verdict (List A)) (v : Verdict A)
    → both done v (λ ys y. Stands (ys ++ y ∷ []))
    ≡ joined (λ x y. x ++ y) done (after v (λ y. Stands (y ∷ [])))
pushed (Stands ys) (Stands y) = refl
pushed (Stands ys) (Breaks faults) = refl
pushed (Breaks fs) (Stands y) = refl
pushed (Breaks fs) (Breaks faults) = refl

-- ---- values

label_assoc : (x y z : Labels) → label_join x (label_join y z) ≡ label_join (label_join x y) z
label_assoc x y z =
    rw (append_assoc x.ranges y.ranges z.ranges, append_assoc x.warned y.warned z.warned) refl

label_last : (x : Labels) → label_join x (record { ranges = []; warned = [] }) ≡ x
label_last x = rw (append-nil x.ranges, append-nil x.warned) refl

abbrev pub one_label : Around → At → ℕ → Ends → Verdict Labels
one_label cx at tag it = label_by cx at tag it.first it.last

pub label_row : (cx : Around) (at : At) (tag : ℕ)
    → IsRow label_join (record { ranges = []; warned = [] }) (one_label cx at tag)
    (labels cx at tag)
unfolding labels
label_row cx at tag = record {
  assoc = label_assoc;
  first = λ x. refl;
  last = label_last;
  base = refl;
  step = λ x xs. refl;
}

-- ---- cases

cases_assoc : (x y z : code.Cases)
    → cases_behind x (cases_behind y z) ≡ cases_behind (cases_behind x y) z
cases_assoc code.no_cases y z = refl
cases_assoc (code.then_case ranges s more) y z =
    ap (λ (it : code.Cases). code.then_case ranges s it) (cases_assoc more y z)

cases_last : (x : code.Cases) → cases_behind x code.no_cases ≡ x
cases_last code.no_cases = refl
cases_last (code.then_case ranges s more) =
    ap (λ (it : code.Cases). code.then_case ranges s it) (cases_last more)

pub cases_onto : (xs ys : List held.Case)
    → cases_view (xs ++ ys) ≡ cases_behind (cases_view xs) (cases_view ys)
cases_onto [] ys = refl
cases_onto (x ∷ xs) ys =
    ap (λ (it : code.Cases). code.then_case x.ranges (stmt_view x.stmt) it) (cases_onto xs ys)

cased_assoc : (x y z : Cased) → cased_behind x (cased_behind y z)
    ≡ cased_behind (cased_behind x y) z
cased_assoc x y z =
    rw (
      sym (stood_assoc x.stood y.stood z.stood),
      sym (cases_assoc x.cases y.cases z.cases),
      append_assoc x.ranges y.ranges z.ranges,
    ) refl

cased_last : (x : Cased) → cased_behind x no_cased ≡ x
cased_last x = rw (nothing_last x.stood, cases_last x.cases, append-nil x.ranges) refl

case_by : (v : Verdict Labels) (w : Verdict Cased) (s : Stood)
    → bare_verdict (both v w (λ values rest. Stands (case_before values s rest)))
    ≡ joined cased_behind (after v (λ values. Stands (bare (one_cased values s)))) (bare_verdict w)
case_by (Stands values) (Stands rest) s =
    ap (λ it. Stands it) (sym (ap (λ (it : Cased). cased_behind it (bare rest))
    (alone_is values s)))
case_by (Stands values) (Breaks faults) s = refl
case_by (Breaks fs) (Stands rest) s = refl
case_by (Breaks fs) (Breaks faults) s = refl

pub cased_row : (cx : Around) (at : At) (tag : ℕ)
    → IsRow cased_behind no_cased (case_rule cx at tag)
    (λ parts. bare_verdict (cased_in cx at tag parts))
unfolding cased
cased_row cx at tag = record {
  assoc = cased_assoc;
  first = λ x. refl;
  last = cased_last;
  base = refl;
  step = λ x xs. case_by (labels cx at tag x.ends) (cased_in cx at tag xs) x.stood;
}
