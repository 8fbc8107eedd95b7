-- A switch, by what its parts appended.
use Rattle.std.proofs.Common.{◌≡◌, ◌*◌, ℕ, ℤ, List, [], ◌∷◌, ◌++◌, length, refl, ap, arith}
use Rattle.std.proofs.Common.{length-append, Result, Ok, Err, IfOk}
use Rattle.pawn_meaning.specs.Program.{Cases, no_cases, then_case, Else}
use Rattle.gen_sim.specs.Items.{Item, past}
use Rattle.gen_sim.specs.Here.{Exits, Here}
use Rattle.gen_laws.specs.SwitchCode.{cases_values, cases_at, table_code}
use Rattle.gen_laws.specs.ClosedCode.{closed_switch}
use Rattle.gen_laws.specs.StmtCode.{else_items, cases_items, cases_table}
use Rattle.gen_stmt.specs.Over.{ranges_pairs, cases_pairs}
use Rattle.gen_stmt.proofs.WriteLaws.{length_ranges_pairs}
use Rattle.gen_stmt.specs.declared.draft.Draft.{Draft}
use Rattle.gen_stmt.specs.Grown.{Grown}
use Rattle.gen_stmt.proofs.GrownLaws.{grown_as, part_grown, plain_grown}
use Rattle.gen_stmt.specs.declared.place.Place.{Place}
use Rattle.gen_stmt.specs.Tabled.{unled_table}
use Rattle.gen_stmt.proofs.SwitchLaws.{switch_grown, cells_of_table}
use Rattle.gen_stmt.specs.declared.cases.Cased.{Cased}
use Rattle.gen_stmt.specs.Cased.{count_of, tabled, closed_cases, IsCased}
use Rattle.gen_stmt.specs.Standing.{here_in}

length_cases_pairs : (cases : Cases) (tos : List ℤ) → length tos ≡ count_of cases
    → length (cases_pairs cases tos) ≡ 2 * cases_values cases
length_cases_pairs no_cases tos e = refl
length_cases_pairs (then_case ranges s cases) [] e = absurd (omega (arith, e))
length_cases_pairs (then_case ranges s cases) (to ∷ tos) e =
    omega (
      arith,
      length-append (ranges_pairs ranges to) (cases_pairs cases tos),
      length_ranges_pairs ranges to,
      length_cases_pairs cases tos (omega (arith, e)),
    )

pub switch_done : {E : Type 0} (place : Place) (made : List ℕ) (since : ℕ) (b c g d : Draft)
    (it : Cased) (r : Result Draft E) (cases : Cases)
    (last : Else) (value : List Item) → Grown b c (λ exits. value)
    → IsCased place made since cases c g it
    → Grown g d (λ exits. else_items (here_in place made since exits) (4 * length g.code.code) last)
    → IfOk r (λ x. x ≡ closed_cases it cases d)
    → IfOk r (λ x. Grown b x (λ exits.
    let here = here_in place made since exits in
    let p = past (4 * length b.code.code) value in
    closed_switch p cases value (cases_table here (cases_at p cases) cases)
    (λ end. cases_items here (cases_at p cases) end cases) (λ q. else_items here q last)))
switch_done place made since b c g d it (Err fault) cases last value gc gi gd er = er
switch_done place made since b c g d it (Ok x) cases last value gc gi gd er =
    let here : Exits → Here = λ exits. here_in place made since exits in
    let o : Draft = tabled cases c in
    let p = 4 * length c.code.code in
    let other : Exits → ℕ → List Item = λ exits q. else_items (here exits) q last in
    let from : ℕ → Exits → ℕ → List Item = λ first exits q.
    let items : ℕ → List Item = λ end. cases_items (here exits) first end cases in
    let default_at = past (cases_at q cases) (items 0) in
    table_code q cases default_at (cases_table (here exits) first cases)
    (items (past default_at (other exits default_at)) ++ other exits default_at) in
    let begins : 4 * length o.code.code ≡ cases_at p cases =
    omega (arith, cells_of_table c o cases refl) in
    let whole : Grown c x (λ exits. from (4 * length o.code.code) exits p) =
    switch_grown c o g d x cases it.ends
    (λ exits end. cases_items (here exits) (4 * length o.code.code) end cases) other
    (λ exits. cases_table (here exits) (4 * length o.code.code) cases)
    (cases_pairs cases it.begins) it.at it.default
    refl gi.code gd gi.at gi.default (length_cases_pairs cases it.begins gi.count)
    (λ h exits. gi.table ((plain_grown c o (unled_table p cases) refl).inside h) exits) er in
    let there : Grown c x (λ exits. from (cases_at p cases) exits p) =
    grown_as c x (λ exits. from (4 * length o.code.code) exits p)
    (λ exits. from (cases_at p cases) exits p)
    (λ h exits. ap (λ first. from first exits p) begins) whole in
    part_grown b c x (λ exits. value) (λ exits q. from (cases_at q cases) exits q) gc there
