-- The table of parameters, filled from the last one to the first.
use Rattle.std.specs.Prelude.{IfSome}
use Rattle.std.proofs.Common.{◌≡◌, ◌+◌, ◌-◌, ◌<◌, ◌≤◌, ℕ, cond, if◌then◌else◌, List, [], length}
use Rattle.std.proofs.Common.{drop, get_or, Option, Some, map, position, sym, ap, subst, ◌∙◌}
use Rattle.std.specs.List.{position_from}
use Rattle.std.specs.Str.{bytes_eq}
use Rattle.std.proofs.lemmas.List.{drop_all}
use Rattle.std.proofs.lemmas.Iterator.Adapters.{position_from-zero}
use Rattle.types_rules.specs.Around as around
use Rattle.check_nodes.specs.declared.context.Param.{Param}
use Rattle.check_nodes.specs.ContextView.{param_view}
use Rattle.check_nodes.proofs.ThreadLaws.{next}
use Rattle.check_calls.specs.declared.numbers.Numbers.{Numbers}
use Rattle.check_calls.specs.Numbers.{Table, number_in, AreNumbers}
use Rattle.check_calls.proofs.NameLaws.{place_is}

abbrev first_from : List ℕ → ℕ → List Param → Option ℕ
first_from name i params = position_from (λ (param : Param). bytes_eq param.name name) i params

-- the table has the parameters from the one with a number on
pub record AreFrom (params : List Param) (i : ℕ) (table : Table) : Type 0 where
  pub told : (name : List ℕ) → number_in name table ≡ first_from name i (drop i params)

pub no_numbers : (params : List Param) (i : ℕ) (table : Table) → length params ≤ i → table ≡ []
    → AreFrom params i table
no_numbers params i table end e = record {
  told = λ name. ap (number_in name) e ∙ sym (ap (first_from name i) (drop_all i params end));
}

pub number_more : (params : List Param) (done i : ℕ) (param : Param) (name : List ℕ)
    (table now : Table)
    → AreFrom params (length params - done) table → length params - done ≡ i + 1
    → i ≡ length params - (done + 1)
    → i < length params → param ≡ get_or params i param → name ≡ param.name
    → ((other : List ℕ) → number_in other now
    ≡ (if bytes_eq name other then Some i else number_in other table))
    → AreFrom params (length params - (done + 1)) now
number_more params done i param name table now so_far before after lt is named put =
    subst (λ (n : ℕ). AreFrom params n now) after
    (record {
      told = λ other.
          put other
          ∙ ap (λ (known : List ℕ). if bytes_eq known other then Some i else number_in other table)
          named
          ∙ ap (cond (bytes_eq param.name other) (Some i))
          (so_far.told other ∙ ap (λ (n : ℕ). first_from other n (drop n params)) before)
          ∙ sym (ap (first_from other i) (next params i param lt is));
    })

pub all_numbers : (params : List Param) (i : ℕ) (table : Table) → AreFrom params i table → i ≡ 0
    → AreNumbers params table
all_numbers params i table so_far e = record {
  told = λ name.
      so_far.told name
      ∙ ap (λ (n : ℕ). first_from name n (drop n params)) e
      ∙ sym (position_from-zero (λ (param : Param). bytes_eq param.name name) params);
}

-- where there is a table, it finds what rules find
pub looked_up : (numbers : Option Numbers) (it : Numbers) (params : List Param)
    (known name : List ℕ)
    → IfSome numbers (λ (it : Numbers). AreNumbers params it.table.entries) → numbers ≡ Some it
    → known ≡ name
    → number_in known it.table.entries
    ≡ position (λ (param : around.Param). bytes_eq param.name name) (map param_view params)
looked_up numbers it params known name all e same =
    let here : IfSome (Some it) (λ (it : Numbers). AreNumbers params it.table.entries) =
    subst (λ (o : Option Numbers). IfSome o (λ (it : Numbers). AreNumbers params it.table.entries))
    e all in
    ap (λ (n : List ℕ). number_in n it.table.entries) same
    ∙ here.told name
    ∙ place_is name params
