-- Names of functions beside the program of a tree.
use Rattle.std.proofs.Common.{◌≡◌, ◌+◌, ℕ, suc, ℤ, List, [], ◌∷◌, Bool, true, false, if◌then◌else◌}
use Rattle.std.proofs.Common.{map, length, Some, refl, sym, ap, subst, ◌∙◌, arith}
use Rattle.std.specs.Prelude.{slice_get, option_map, Result, Ok, Err, IfOk}
use Rattle.std.specs.List.{AllByRecursion}
use Rattle.std.proofs.lemmas.List.{length-map}
use Rattle.std.proofs.lemmas.Option.{slice_get-map}
use Rattle.pawn_tree.specs.Declarations.{Tree}
use Rattle.pawn_meaning.specs.Program.{Public}
use Rattle.names_rules.specs.Mark.{Mark}
use Rattle.names_rules.specs.TreeMarks.{tree_marks}
use Rattle.names_rules.specs.Verdict.{Verdict, Stands, Breaks, after, both}
use Rattle.types_rules.specs.Groups.{Group}
use Rattle.types_rules.specs.Sources.{Source, Stated, source_of, all_stated}
use Rattle.types_rules.specs.Declarations.{Bodied, Done}
use Rattle.types_rules.specs.Publics.{not_above, inserted, sorted, group_name, is_public}
use Rattle.types_rules.specs.Publics.{publics_from, publics}
use Rattle.types_rules.specs.Programs.{program_functions, program_of}
use Rattle.types_rules.specs.TypedTrees.{Checked, unless, whole_faults, source_faults, sum_faults}
use Rattle.types_rules.specs.TypedTrees.{within_sums, done, checked_of, typed}
use Rattle.check_declarations.specs.NumberedNames as names
use Rattle.pawn_check.specs.FunctionNames.{function_names, AreNames}

-- ---- the program of a source

module _ (source : Source) (all : List Stated) where
  functions_long : (number : ℕ) (groups : List Group) (bodies : List Bodied)
      → length (program_functions source all number groups bodies) ≡ length groups
  unfolding program_functions
  functions_long number [] bodies = refl
  functions_long number (group ∷ more) bodies = ap suc (functions_long (number + 1) more bodies)

-- a public function has its own name
abbrev Own : List (List ℕ) → Public → Type 0
Own list it = slice_get list it.function ≡ Some it.name

abbrev AllOwn : List (List ℕ) → List Public → Type 0
AllOwn list all = AllByRecursion (Own list) all

module _ (list : List (List ℕ)) where
  put_by : (b : Bool) (it other : Public) (more : List Public) → Own list it
      → AllOwn list (other ∷ more)
      → AllOwn list (inserted it more)
      → AllOwn list (if b then other ∷ inserted it more else it ∷ (other ∷ more))
  put_by true it other more h k ih = (k.0, ih)
  put_by false it other more h k ih = (h, k)

  inserted_own : (it : Public) (all : List Public) → Own list it → AllOwn list all
      → AllOwn list (inserted it all)
  inserted_own it [] h k = (h, k)
  inserted_own it (other ∷ more) h k =
      put_by (not_above other.name it.name) it other more h k (inserted_own it more h k.1)

  sorted_own : (front all : List Public) → AllOwn list front → AllOwn list all
      → AllOwn list (sorted front all)
  unfolding sorted
  sorted_own front [] h k = h
  sorted_own front (it ∷ more) h k =
      sorted_own (inserted it front) more (inserted_own it front k.0 h) k.1

  keep_by : (b : Bool) (it : Public) (rest : List Public) → Own list it → AllOwn list rest
      → AllOwn list (if b then it ∷ rest else rest)
  keep_by true it rest h k = (h, k)
  keep_by false it rest h k = k

  from_own : (source : Source) (number : ℕ) (groups : List Group)
      → ((i : ℕ) (group : Group) → slice_get groups i ≡ Some group
      → slice_get list (number + i) ≡ Some (group_name group.bodies))
      → AllOwn list (publics_from source number groups)
  unfolding publics_from
  from_own source number [] k = tt
  from_own source number (group ∷ more) k =
      keep_by (is_public source group)
      (record { name = group_name group.bodies; function = number })
      (publics_from source (number + 1) more)
      (ap (slice_get list) (nothing_more number) ∙ k 0 group refl)
      (from_own source (number + 1) more
      (λ i it e. ap (slice_get list) (one_more number i) ∙ k (suc i) it e))
    where
      nothing_more : (m : ℕ) → m ≡ m + 0
      nothing_more m = omega arith

      one_more : (m j : ℕ) → m + 1 + j ≡ m + suc j
      one_more m j = omega arith

named_at : (groups : List Group) (i : ℕ) (group : Group) → slice_get groups i ≡ Some group
    → slice_get (map (λ (it : Group). group_name it.bodies) groups) (0 + i)
    ≡ Some (group_name group.bodies)
named_at groups i group e =
    ap (slice_get (map (λ (it : Group). group_name it.bodies) groups)) (nothing_before i)
    ∙ slice_get-map (λ (it : Group). group_name it.bodies) groups i
    ∙ ap (option_map (λ (it : Group). group_name it.bodies)) e
  where
    nothing_before : (m : ℕ) → 0 + m ≡ m
    nothing_before m = omega arith

program_names : (source : Source) (all : List Stated) (marks : List Mark) (dynamic : ℤ) (it : Done)
    → AreNames (program_of source all marks dynamic it) (names.function_names source)
program_names source all marks dynamic it = record {
  long = length-map source.groups (λ (group : Group). group_name group.bodies)
      ∙ sym (functions_long source all 0 source.groups it.bodies);
  publics = sorted_own (names.function_names source) [] (publics_from source 0 source.groups) tt
      (from_own (names.function_names source) source 0 source.groups (named_at source.groups));
}

-- ---- that of a tree, where it stands

-- what is so of a tree's program, where there is one
record Holds (P : Checked → Type 0) (it : Verdict Checked) : Type 0 where
  of : (x : Checked) → it ≡ Stands x → P x

holds_after : {A : Type 0} (P : Checked → Type 0) (v : Verdict A) (rule : A → Verdict Checked)
    → ((x : A) → Holds P (rule x)) → Holds P (after v rule)
holds_after P (Stands x) rule k = k x
holds_after P (Breaks faults) rule k = record { of = λ x e. absurd (let no : ⊥ = cc in no) }

holds_both : {A B : Type 0} (P : Checked → Type 0) (v : Verdict A) (w : Verdict B)
    (rule : A → B → Verdict Checked)
    → ((x : A) (y : B) → Holds P (rule x y)) → Holds P (both v w rule)
holds_both P (Stands x) w rule k = holds_after P w (rule x) (k x)
holds_both P (Breaks faults) w rule k = record { of = λ x e. absurd (let no : ⊥ = cc in no) }

holds_itself : (P : Checked → Type 0) (it : Checked) → P it → Holds P (Stands it)
holds_itself P it h = record { of = λ x e. let same : it ≡ x = cc in subst P same h }

module _ (tree : Tree) (dynamic : ℤ) where
  abbrev Named : Checked → Type 0
  Named it = AreNames it.program (function_names tree)

  checked_names : (it : Done) → Named (checked_of tree dynamic it)
  checked_names it =
      program_names (source_of tree) (all_stated (source_of tree) tree) (tree_marks tree) dynamic it

  sums_names : (it : Done) → Holds Named (within_sums (checked_of tree dynamic it))
  sums_names it =
      holds_after Named (unless (sum_faults (checked_of tree dynamic it).program))
      (λ ok. Stands (checked_of tree dynamic it))
      (λ ok. holds_itself Named (checked_of tree dynamic it) (checked_names it))

  typed_names : Holds Named (typed tree dynamic)
  typed_names =
      holds_both Named (unless (whole_faults tree dynamic)) (done tree dynamic)
      (λ ok it. after (unless (source_faults tree dynamic it.bodies))
      (λ ok2. within_sums (checked_of tree dynamic it)))
      (λ ok it. holds_after Named (unless (source_faults tree dynamic it.bodies))
      (λ ok2. within_sums (checked_of tree dynamic it))
      (λ ok2. sums_names it))

are_names : (tree : Tree) (list : List (List ℕ)) → list ≡ function_names tree
    → (dynamic : ℤ) (it : Checked)
    → typed tree dynamic ≡ Stands it → AreNames it.program list
are_names tree list e dynamic it h =
    subst (AreNames it.program) (sym e) ((typed_names tree dynamic).of it h)

pub are_names_where : {E : Type 0} (tree : Tree) (result : Result (List (List ℕ)) E)
    → IfOk result (λ (list : List (List ℕ)). list ≡ function_names tree)
    → IfOk result (λ (list : List (List ℕ)). (dynamic : ℤ) (it : Checked)
    → typed tree dynamic ≡ Stands it → AreNames it.program list)
are_names_where tree (Ok list) h = are_names tree list h
are_names_where tree (Err e) h = tt
