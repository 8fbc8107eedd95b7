-- Names outside all functions, added one by one: those so far, and which fault is one of all.
use Rattle.std.proofs.Common.{◌≡◌, ◌+◌, ◌<◌, ◌≤◌, ℕ, List, [], ◌∷◌, map, length, drop, get_or, refl}
use Rattle.std.proofs.Common.{sym, ap, ◌∙◌}
use Rattle.std.proofs.lemmas.List.{drop_all, drop_more}
use Rattle.names_rules.specs.FileNames.{FileName, twice_faults}
use Rattle.names_rules.proofs.NameLaws.{Follows, twice_stays_behind}
use Rattle.pawn_verdict.specs.declared.fault.CheckFault.{CheckFault}
use Rattle.pawn_verdict.specs.declared.fault.CheckFault.TheVariants.{Source, Memory}
use Rattle.pawn_verdict.specs.Answers.{Fails}
use Rattle.names_sight.specs.FileTable.{Table}
use Rattle.names_sight.specs.Steps.{IsWhole}

-- names that follow keep the faults of those before them
pub fails_behind : {before now : List FileName} (fault : CheckFault) → Follows before now
    → Fails (twice_faults before) fault → Fails (twice_faults now) fault
fails_behind {before} {now} (Source kind place) follows h =
    record { cause = twice_stays_behind _ follows h.cause }
fails_behind {before} {now} Memory follows h = record { cause = tt }

abbrev pub Names : Type 0 → Type 0
Names A = List A → List FileName → List FileName

-- so many of a list are added to the names before
pub record AddedSoFar {H A : Type 0} (view : H → A) (names : Names A) (tags : List (List ℕ))
    (list : List H) (before : List FileName) (i : ℕ) (table : Table) : Type 0 where
  pub now : List FileName
  pub whole : IsWhole tags now table
  pub same : names (map view list) before ≡ names (map view (drop i list)) now

module _ {H A : Type 0} {view : H → A} {names : Names A} {tags : List (List ℕ)} {list : List H}
    {before : List FileName} where
  pub adds_begin : {table : Table} → IsWhole tags before table
      → AddedSoFar view names tags list before 0 table
  adds_begin whole = record { now = before; whole = whole; same = refl }

  pub adds_end : {i : ℕ} {table : Table} → ((now : List FileName) → names [] now ≡ now)
      → AddedSoFar view names tags list before i table
      → length list ≤ i → IsWhole tags (names (map view list) before) table
  adds_end {i} {table} ends h le =
      rw (h.same ∙ ap (λ rest. names (map view rest) h.now) (drop_all i list le) ∙ ends h.now)
      h.whole

  module _ (one : A → List FileName → List FileName)
      (goes : (x : A) (xs : List A) (now : List FileName)
      → names (x ∷ xs) now ≡ names xs (one x now)) where
    next : {i : ℕ} {table : Table} (x : H) (h : AddedSoFar view names tags list before i table)
        → i < length list → x ≡ get_or list i x
        → names (map view list) before ≡ names (map view (drop (i + 1) list)) (one (view x) h.now)
    next {i} {table} x h lt e =
        h.same ∙ ap (λ rest. names (map view rest) h.now) (drop_more list i x lt)
        ∙ ap (λ y. names (map view (y ∷ drop (i + 1) list)) h.now) (sym e)
        ∙ goes (view x) (map view (drop (i + 1) list)) h.now

    pub adds_go_on : {i : ℕ} {table new : Table} (x : H)
        → AddedSoFar view names tags list before i table → i < length list → x ≡ get_or list i x
        → ((now : List FileName) → IsWhole tags now table → IsWhole tags (one (view x) now) new)
        → AddedSoFar view names tags list before (i + 1) new
    adds_go_on {i} {table} {new} x h lt e step = record {
      now = one (view x) h.now;
      whole = step h.now h.whole;
      same = next x h lt e;
    }

    pub adds_fail : {i : ℕ} {table : Table} (x : H) (fault : CheckFault)
        → ((xs : List A) (now : List FileName) → Follows now (names xs now))
        → AddedSoFar view names tags list before i table → i < length list → x ≡ get_or list i x
        → ((now : List FileName) → IsWhole tags now table
        → Fails (twice_faults (one (view x) now)) fault)
        → Fails (twice_faults (names (map view list) before)) fault
    adds_fail {i} {table} x fault follow h lt e step =
        rw (next x h lt e) (fails_behind fault
        (follow (map view (drop (i + 1) list)) (one (view x) h.now)) (step h.now h.whole))
