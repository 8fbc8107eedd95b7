-- A tree stands, or it has a fault.
use Rattle.std.proofs.Common.{◌≡◌, ◌⊎◌, inl, inr, ◌+◌, ℕ, ℤ, List, [], ◌∷◌, refl, arith}
use Rattle.std.specs.Prelude.{flat_map, pos, Option, None, Some}
use Rattle.std.specs.List.{Contains}
use Rattle.pawn_tree.specs.Declarations.{Tree}
use Rattle.names_rules.specs.Verdict.{Fault, Verdict, Stands, Breaks, faults_of}
use Rattle.types_rules.specs.Headings.{Heading, Role, IsNative, IsForward, IsBody}
use Rattle.types_rules.specs.Keys.{Key, Named, Operates, Enters, Misshapen}
use Rattle.types_rules.specs.Groups.{Group}
use Rattle.types_rules.specs.Sources.{Source, Stated, source_of, around_of, beginning, stated}
use Rattle.types_rules.specs.Sources.{natives_in, group_tag, function_entry, function_entries}
use Rattle.types_rules.specs.Sources.{entry_by, entering_tag, native_entries, forward_entry}
use Rattle.types_rules.specs.Sources.{forward_entries}
use Rattle.types_rules.specs.TypedTrees.{Checked, unless, sum_faults}
use Rattle.types_rules.specs.TypedTrees.{whole_faults, source_faults, done}
use Rattle.types_rules.specs.TypedTrees.{checked_of, typed}
use Rattle.types_laws.specs.Faulted.{FaultsAreGiven, DeclarationsHaveFaults}
use Rattle.types_laws.proofs.Blames.{Blames, stood, blamed, blames_after, blames_both}
use Rattle.types_laws.proofs.PathLaws.{AllEntries, all_append, meant_first}
use Rattle.types_laws.proofs.RuleFaults.{IsKnown}
use Rattle.types_laws.proofs.StatementFaults.{KnownAt}
use Rattle.types_laws.proofs.DeclarationFaults.{declarations_blame}

-- ---- the beginning of the file

module _ (source : Source) where
  forward_known : (it : Heading) (role : Role) → AllEntries IsKnown (forward_entry source it role)
  forward_known it IsNative = tt
  forward_known it IsForward = (λ same. let no : ⊥ = cc in no, tt)
  forward_known it IsBody = tt

  forwards_known : (all : List Heading)
      → AllEntries IsKnown (flat_map (λ (it : Heading). forward_entry source it it.role) all)
  forwards_known [] = tt
  forwards_known (it ∷ more) =
      all_append IsKnown (forward_entry source it it.role) _ (forward_known it it.role)
      (forwards_known more)

  natives_known : (number : ℕ) (all : List Stated)
      → AllEntries IsKnown (native_entries source number all)
  unfolding native_entries
  natives_known number [] = tt
  natives_known number (it ∷ more) =
      (λ same. let no : ⊥ = cc in no, natives_known (number + 1) more)

  function_known : (number tag : ℕ) (key : Key)
      → AllEntries IsKnown (function_entry source number tag key)
  function_known number tag (Named name) = (λ same. let no : ⊥ = cc in no, tt)
  function_known number tag (Operates it) = tt
  function_known number tag (Enters name) = tt
  function_known number tag Misshapen = tt

  functions_known : (number : ℕ) (all : List Stated) (groups : List Group)
      → AllEntries IsKnown (function_entries source number all groups)
  unfolding function_entries
  functions_known number all [] = tt
  functions_known number all (group ∷ more) =
      all_append IsKnown (function_entry source number (group_tag source all group) group.key) _
      (function_known number (group_tag source all group) group.key)
      (functions_known (number + 1) all more)

  entry_known : (tag : Option ℕ) → AllEntries IsKnown (entry_by source tag)
  entry_known None = tt
  entry_known (Some tag) = (λ same. let no : ⊥ = cc in no, tt)

  beginning_known : KnownAt (beginning source)
  beginning_known =
      let all : List Stated = stated source source.headings [] in
      meant_first IsKnown _
      (all_append IsKnown (forward_entries source) _ (forwards_known source.headings)
      (all_append IsKnown (native_entries source 0 (natives_in source all)) _
      (natives_known 0 (natives_in source all))
      (all_append IsKnown (function_entries source 0 all source.groups) _
      (functions_known 0 all source.groups) (entry_known (entering_tag source all)))))
      (λ name x e same. let no : ⊥ = cc in no)

-- ---- the whole

done_blames : (tree : Tree) (dynamic : ℤ) → Blames (done tree dynamic)
done_blames tree dynamic =
    declarations_blame (source_of tree) (around_of (source_of tree) tree)
    (beginning (source_of tree)) (beginning_known (source_of tree)) tree

pub have_faults : DeclarationsHaveFaults
have_faults tree e = (done_blames tree (pos 0)).some e

unless_blames : (found : List Fault) → Blames (unless found)
unless_blames [] = stood _
unless_blames (it ∷ more) = blamed _ _

typed_blames : (tree : Tree) (dynamic : ℤ) → Blames (typed tree dynamic)
typed_blames tree dynamic =
    blames_both (unless_blames (whole_faults tree dynamic)) (λ ok e. done_blames tree dynamic)
    (λ ok it e e2.
    blames_after (unless_blames (source_faults tree dynamic it.bodies)) (λ ok2 e3.
    blames_after (unless_blames (sum_faults (checked_of tree dynamic it).program))
    (λ ok3 e4. stood _)))

one_of : (w : Verdict Checked) → Blames w
    → ((it : Checked) × (w ≡ Stands it)) ⊎ ((fault : Fault) × Contains (faults_of w) fault)
one_of (Stands it) h = inl (it, refl)
one_of (Breaks []) h = absurd (h.some refl)
one_of (Breaks (fault ∷ more)) h = inr (fault, (0, omega arith, refl))

pub faults_given : FaultsAreGiven
faults_given tree dynamic = one_of (typed tree dynamic) (typed_blames tree dynamic)
