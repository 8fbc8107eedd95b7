-- One more name outside all functions: whether it stands twice, and what stands under each name
-- then.
use Rattle.std.proofs.Common.{◌≡◌, ℕ, Bool, true, false, ◌&&◌, ◌||◌, if◌then◌else◌, List, [], ◌∷◌}
use Rattle.std.proofs.Common.{Option, Some, None, is_some, option_map, refl, sym, ap, ◌∙◌, lit<}
use Rattle.std.specs.Option.{option_or}
use Rattle.std.specs.Borrow.{Bor}
use Rattle.std.specs.Cmp.Lexicographic.{bytes_decides, nat_list_eq_equiv}
use Rattle.std.specs.Str.{bytes_eq}
use Rattle.std.proofs.lemmas.Bool.{false≢true}
use Rattle.std.proofs.lemmas.Option.{same_Some}
use Rattle.pawn_cells.specs.Constants.{predefined}
use Rattle.names_rules.specs.FileNames as plain
use Rattle.names_rules.specs.FileNames.{FileName, Role, clash, is_twice, twice_faults}
use Rattle.names_rules.specs.Around.{is_defined, is_function, defines, first_head, function}
use Rattle.names_rules.specs.Around.{function_named}
use Rattle.names_rules.specs.Taken.{is_alone, is_single, is_taken, is_taken_by, clashes}
use Rattle.names_rules.proofs.TakenLaws.{clash_is}
use Rattle.pawn_verdict.specs.declared.fault.CheckFault.TheVariants.{Source}
use Rattle.names_sight.specs.declared.outside.FirstHead.{FirstHead}
use Rattle.names_sight.specs.declared.outside.Seen.{Seen}
use Rattle.pawn_verdict.specs.Answers.{Fails}
use Rattle.names_sight.specs.Views.{head_view}
use Rattle.names_sight.specs.FileTable.{Table, Holds, function_in, head_in, seen_in, seen_of}
use Rattle.names_sight.specs.FileTable.{head_of, tag_of, clash_seen, nothing_seen, with_role}
use Rattle.pawn_verdict.specs.declared.fault.CheckFault.{CheckFault}
use Rattle.names_sight.specs.Steps.{IsWhole, IsNamed, IsFree, seen_or}
use Rattle.pawn_tree.specs.declared.name.Name as n
use Rattle.pawn_cells.specs.declared.place.Place.{Place}
use Rattle.pawn_verdict.proofs.VerdictLaws.{fails_right}
use Rattle.names_rules.proofs.SightLaws.{stands_after, inserted}

-- ---- twice or once

pub twice_is : (x : FileName) (before : List FileName) → is_twice x before ≡ true
    → Fails (twice_faults (x ∷ before)) (Source 51 x.place)
twice_is x before h =
    rw h (fails_right (twice_faults before) _ (Source 51 x.place)
    (record { cause = (0, lit< tt, refl) }))

pub once_is : (x : FileName) (before : List FileName) → twice_faults before ≡ []
    → is_twice x before ≡ false → twice_faults (x ∷ before) ≡ []
once_is x before h k = rw (h, k) refl

or_first : (a b : Bool) → a ≡ true → (a || b) ≡ true
or_first a b h = rw h refl

or_second : (a b : Bool) → b ≡ true → (a || b) ≡ true
or_second true b h = refl
or_second false b h = h

or_none : (a b : Bool) → a ≡ false → b ≡ false → (a || b) ≡ false
or_none a b h k = rw (h, k) refl

pub twice_predefined : (x : FileName) (before : List FileName)
    → is_some (predefined x.name.bytes) ≡ true → is_twice x before ≡ true
twice_predefined x before h = or_first _ _ h

-- ---- what a name is taken by

same_some : {A : Type 0} {x y : A} → Some x ≡ Some y → x ≡ y
same_some {A} {x} {y} h = same_Some x y h

-- what is seen, where something has the name
taken_some : (taken : Bool) (it seen : Seen) → (if taken then Some it else None) ≡ Some seen
    → (taken ≡ true) × (it ≡ seen)
taken_some true it seen h = (refl, same_some h)
taken_some false it seen h = absurd (let no : ⊥ = cc in no)

taken_none : (taken : Bool) (it : Seen) → (if taken then Some it else None) ≡ None → taken ≡ false
taken_none true it h = absurd (let no : ⊥ = cc in no)
taken_none false it h = refl

clash_by : (tags : List (List ℕ)) (x : FileName) (role : Role) (before : List FileName)
    (seen : Seen)
    → seen_of tags before x.name.bytes ≡ Some seen → clashes before x role ≡ clash_seen role seen
clash_by tags x plain.Value before seen h = (taken_some _ _ seen h).0
clash_by tags x plain.Native' before seen h = (taken_some _ _ seen h).0
clash_by tags x plain.Forward' before seen h = ap (λ s. s.alone) (taken_some _ _ seen h).1
clash_by tags x (plain.Body true) before seen h = ap (λ s. s.alone) (taken_some _ _ seen h).1
clash_by tags x (plain.Body false) before seen h =
    ap (λ s. s.alone || s.plain) (taken_some _ _ seen h).1

pub twice_seen : (tags : List (List ℕ)) (x : FileName) (before : List FileName) (seen : Seen)
    → seen_of tags before x.name.bytes ≡ Some seen
    → clash_seen x.role seen ≡ true → is_twice x before ≡ true
twice_seen tags x before seen h k =
    or_second _ _ (clash_is x before ∙ clash_by tags x x.role before seen h ∙ k)

pub once_seen : (tags : List (List ℕ)) (x : FileName) (before : List FileName) (seen : Seen)
    → is_some (predefined x.name.bytes) ≡ false
    → seen_of tags before x.name.bytes ≡ Some seen → clash_seen x.role seen ≡ false
    → is_twice x before ≡ false
once_seen tags x before seen p h k =
    or_none _ _ p (clash_is x before ∙ clash_by tags x x.role before seen h ∙ k)

none_at : (same kind taken by : Bool) → (same || taken) ≡ false → (taken ≡ false → by ≡ false)
    → ((same && kind) || by) ≡ false
none_at true kind taken by h rest = absurd (false≢true (sym h))
none_at false kind taken by h rest = rest h

none_by : (kind : Role → Bool) (before : List FileName) (name : List ℕ)
    → is_taken before name ≡ false → is_taken_by kind before name ≡ false
none_by kind [] name h = refl
none_by kind (y ∷ before) name h =
    none_at (bytes_eq name y.name.bytes) (kind y.role) (is_taken before name)
    (is_taken_by kind before name) h (λ e. none_by kind before name e)

none_clashes : (x : FileName) (role : Role) (before : List FileName)
    → is_taken before x.name.bytes ≡ false → clashes before x role ≡ false
none_clashes x plain.Value before h = h
none_clashes x plain.Native' before h = h
none_clashes x plain.Forward' before h = none_by is_alone before x.name.bytes h
none_clashes x (plain.Body true) before h = none_by is_alone before x.name.bytes h
none_clashes x (plain.Body false) before h =
    or_none _ _ (none_by is_alone before x.name.bytes h) (none_by is_single before x.name.bytes h)

pub once_unseen : (tags : List (List ℕ)) (x : FileName) (before : List FileName)
    → is_some (predefined x.name.bytes) ≡ false
    → seen_of tags before x.name.bytes ≡ None → is_twice x before ≡ false
once_unseen tags x before p h =
    or_none _ _ p (clash_is x before ∙ none_clashes x x.role before (taken_none _ _ h))

-- ---- with one more

turned_and : (a b : Bool) → (a && b) ≡ (b && a)
turned_and true true = refl
turned_and true false = refl
turned_and false true = refl
turned_and false false = refl

same_name : (x y : List ℕ) → bytes_eq x y ≡ bytes_eq y x
same_name x y = nat_list_eq_equiv.symm x y

defines_more : (x : FileName) (before : List FileName) (name : List ℕ)
    → defines (x ∷ before) name ≡ ((bytes_eq name x.name.bytes && is_defined x.role)
    || defines before name)
defines_more x before name =
    ap (λ here. here || defines before name)
    (turned_and (is_defined x.role) (bytes_eq x.name.bytes name)
    ∙ ap (λ same. same && is_defined x.role) (same_name x.name.bytes name))

first_more : (x : FileName) (before : List FileName) (name : List ℕ)
    → first_head (x ∷ before) name
    ≡ option_or (first_head before name)
    (if bytes_eq name x.name.bytes && is_function x.role then Some x else None)
first_more x before name =
    ap (λ here. option_or (first_head before name) (if here then Some x else None))
    (turned_and (is_function x.role) (bytes_eq x.name.bytes name)
    ∙ ap (λ same. same && is_function x.role) (same_name x.name.bytes name))

undefined_at : (same : Bool) (y : FileName) (defined taken : Bool) (first : Option FileName)
    → (same || taken) ≡ false
    → (taken ≡ false → (defined ≡ false) × (first ≡ None))
    → (((same && is_defined y.role) || defined) ≡ false)
    × (option_or first (if same && is_function y.role then Some y else None) ≡ None)
undefined_at true y defined taken first h rest = absurd (false≢true (sym h))
undefined_at false y defined taken first h rest =
    let p = rest h in (p.0, ap (λ f. option_or f None) p.1)

undefined : (before : List FileName) (name : List ℕ) → is_taken before name ≡ false
    → (defines before name ≡ false) × (first_head before name ≡ None)
undefined [] name h = (refl, refl)
undefined (y ∷ before) name h =
    let p =
    undefined_at (bytes_eq name y.name.bytes) y (defines before name) (is_taken before name)
    (first_head before name) h
    (λ e. undefined before name e) in
    (defines_more y before name ∙ p.0, first_more y before name ∙ p.1)

head_with : (tags : List (List ℕ)) (first : Option FileName) (x : FileName) (is_one : Bool)
    → head_of tags (option_or first (if is_one then Some x else None))
    ≡ option_or (head_of tags first)
    (if is_one then Some (record { token = x.name.at.token; tag = tag_of tags x }) else None)
head_with tags None x true = refl
head_with tags None x false = refl
head_with tags (Some y) x is_one = refl

or_nothing : {A : Type 0} (first : Option A) → option_or first None ≡ first
or_nothing None = refl
or_nothing (Some x) = refl

abbrev head_for : List (List ℕ) → FileName → FirstHead
head_for tags x = record { token = x.name.at.token; tag = tag_of tags x }

abbrev seen_before : List (List ℕ) → List FileName → List ℕ → Seen
seen_before tags before name = record {
  alone = is_taken_by is_alone before name;
  plain = is_taken_by is_single before name;
  defined = defines before name;
  head = head_of tags (first_head before name);
}

abbrev seen_with : Bool → List (List ℕ) → FileName → List FileName → List ℕ → Seen
seen_with same tags x before name = record {
  alone = (same && is_alone x.role) || is_taken_by is_alone before name;
  plain = (same && is_single x.role) || is_taken_by is_single before name;
  defined = (same && is_defined x.role) || defines before name;
  head =
      head_of tags (option_or (first_head before name)
      (if same && is_function x.role then Some x else None));
}

seen_by : (same taken : Bool) (tags : List (List ℕ)) (x : FileName) (before : List FileName)
    (name : List ℕ) → is_taken before name ≡ taken
    → (if same || taken then Some (seen_with same tags x before name) else None)
    ≡ (if same then Some (with_role
    (seen_or (if taken then Some (seen_before tags before name) else None)) x.role
    (head_for tags x))
    else (if taken then Some (seen_before tags before name) else None))
seen_by true true tags x before name h =
    ap (λ head. Some (record (seen_with true tags x before name) { head = head }))
    (head_with tags (first_head before name) x (is_function x.role))
seen_by true false tags x before name h =
    let p = undefined before name h in
    rw (none_by is_alone before name h, none_by is_single before name h, p.0, p.1)
    (ap (λ head. Some (record (with_role nothing_seen x.role (head_for tags x)) { head = head }))
    (head_with tags None x (is_function x.role)))
seen_by false true tags x before name h =
    ap (λ first. Some (record (seen_before tags before name) { head = head_of tags first }))
    (or_nothing (first_head before name))
seen_by false false tags x before name h = refl

pub seen_more : (tags : List (List ℕ)) (x : FileName) (before : List FileName) (name : List ℕ)
    → seen_of tags (x ∷ before) name
    ≡ (if bytes_eq name x.name.bytes
    then Some (with_role (seen_or (seen_of tags before name)) x.role (head_for tags x))
    else seen_of tags before name)
seen_more tags x before name =
    rw (defines_more x before name, first_more x before name)
    (seen_by (bytes_eq name x.name.bytes) (is_taken before name) tags x before name refl)

-- ---- the table after one more name

at_same : (same : Bool) (x y : Seen) (rest : Option Seen) → (same ≡ true → x ≡ y)
    → (if same then Some x else rest) ≡ if same then Some y else rest
at_same true x y rest h = ap Some (h refl)
at_same false x y rest h = refl

pub holds_more : (tags : List (List ℕ)) (x : FileName) (before : List FileName) (table : Table)
    (key : Bor (List ℕ)) (seen : Seen)
    → Holds tags before table → key.now ≡ x.name.bytes
    → seen ≡ with_role (seen_or (seen_in table x.name.bytes)) x.role (head_for tags x)
    → Holds tags (x ∷ before) (inserted table key seen)
holds_more tags x before table key seen h e s = record {
  seen = λ name. stands_after table key seen name
      ∙ rw (e, h.seen name, s, h.seen x.name.bytes)
      (at_same (bytes_eq name x.name.bytes) _ _ (seen_of tags before name)
      (λ same. ap (λ n. with_role (seen_or (seen_of tags before n)) x.role (head_for tags x))
      (sym ((bytes_decides name x.name.bytes).0 same)))
      ∙ sym (seen_more tags x before name));
}

pub nothing_holds : (tags : List (List ℕ)) → Holds tags [] []
nothing_holds tags = record { seen = λ name. refl }

-- ---- one name more, as code adds it

module _ (x : FileName) (before : List FileName) (name : n.Name) (place : Place) (role : Role)
    (named : IsNamed x name place role) where
  twice_at : (fault : CheckFault) → fault ≡ Source 51 place → is_twice x before ≡ true
      → Fails (twice_faults (x ∷ before)) fault
  twice_at fault e h = rw (e, ← named.place_is) (twice_is x before h)

  pub is_predefined : (fault : CheckFault) → fault ≡ Source 51 place
      → is_some (predefined name.bytes) ≡ true → Fails (twice_faults (x ∷ before)) fault
  is_predefined fault e h =
      twice_at fault e (twice_predefined x before
      (ap (λ n. is_some (predefined n.bytes)) named.name_is ∙ h))

  module _ (tags : List (List ℕ)) (table : Table) (whole : IsWhole tags before table) where
    seen_here : (seen : Option Seen) → seen ≡ seen_in table name.bytes
        → seen_of tags before x.name.bytes ≡ seen
    seen_here seen e =
        sym (e ∙ ap (λ n. seen_in table n.bytes) (sym named.name_is)
        ∙ whole.holds.seen x.name.bytes)

    pub is_clash : (seen : Seen) (fault : CheckFault) → fault ≡ Source 51 place
        → Some seen ≡ seen_in table name.bytes → clash_seen role seen ≡ true
        → Fails (twice_faults (x ∷ before)) fault
    is_clash seen fault e s h =
        twice_at fault e (twice_seen tags x before seen (seen_here (Some seen) s)
        (ap (λ r. clash_seen r seen) named.role_is ∙ h))

    pub is_free : (seen : Seen) → is_some (predefined name.bytes) ≡ false
        → Some seen ≡ seen_in table name.bytes → clash_seen role seen ≡ false
        → IsFree x before table seen
    is_free seen p s h = record {
      once =
          once_seen tags x before seen (ap (λ n. is_some (predefined n.bytes)) named.name_is ∙ p)
          (seen_here (Some seen) s)
          (ap (λ r. clash_seen r seen) named.role_is ∙ h);
      same = ap seen_or (s ∙ ap (λ n. seen_in table n.bytes) (sym named.name_is));
    }

    pub is_unseen : is_some (predefined name.bytes) ≡ false → None ≡ seen_in table name.bytes
        → IsFree x before table nothing_seen
    is_unseen p s = record {
      once =
          once_unseen tags x before (ap (λ n. is_some (predefined n.bytes)) named.name_is ∙ p)
          (seen_here None s);
      same = ap seen_or (s ∙ ap (λ n. seen_in table n.bytes) (sym named.name_is));
    }

    pub name_added : (new : Table) (key : Bor (List ℕ)) (seen : Seen) (head : FirstHead)
        → IsFree x before table seen → key.now ≡ name.bytes
        → head ≡ record { token = name.at.token; tag = tag_of tags x }
        → new ≡ inserted table key (with_role seen role head)
        → IsWhole tags (x ∷ before) new
    name_added new key seen head free k h e = rw e (record {
      holds =
          holds_more tags x before table key (with_role seen role head) whole.holds
          (k ∙ ap (λ n. n.bytes) (sym named.name_is))
          (rw (free.same, ← named.role_is, h, ← named.name_is) refl);
      once = once_is x before whole.once free.once;
    })

-- ---- functions

by_defined : (tags : List (List ℕ)) (b : Bool) (first : Option FileName)
    → option_map head_view (if b then head_of tags first else None)
    ≡ option_map (function tags) (if b then first else None)
by_defined tags true (Some x) = refl
by_defined tags true None = refl
by_defined tags false first = refl

by_taken : (tags : List (List ℕ)) (names : List FileName) (name : List ℕ) (taken : Bool)
    → is_taken names name ≡ taken
    → option_map head_view (head_in (if taken then Some (seen_before tags names name) else None))
    ≡ option_map (function tags) (function_named names name)
by_taken tags names name true h = by_defined tags (defines names name) (first_head names name)
by_taken tags names name false h = let p = undefined names name h in rw p.0 refl

-- the table tells of each function what the definitions say
pub functions_are : (tags : List (List ℕ)) (names : List FileName) (table : Table) (name : List ℕ)
    → Holds tags names table
    → option_map head_view (function_in table name)
    ≡ option_map (function tags) (function_named names name)
functions_are tags names table name h =
    rw (h.seen name) (by_taken tags names name (is_taken names name) refl)
