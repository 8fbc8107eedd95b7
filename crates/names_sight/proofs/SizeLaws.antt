-- Sizes as code keeps them.
use Rattle.std.proofs.Common.{Bool, true, false, pos, ◌≡◌, ◌-◌, ◌<◌, ◌≤◌, drop, length-drop, ◌+◌, ℕ}
use Rattle.std.proofs.Common.{zero, suc, ℤ, List, [], ◌∷◌, ◌++◌, map, take, length, get_or, Option}
use Rattle.std.proofs.Common.{Result, refl, sym, ap, ◌∙◌, arith, append_assoc}
use Rattle.std.specs.List.{Contains, slice_index_or}
use Rattle.std.proofs.lemmas.List.{take_all, take_more, map-append}
use Rattle.pawn_cells.specs.declared.place.Place.{Place}
use Rattle.pawn_tree.specs.declared.variable.Dim as held
use Rattle.pawn_tree.specs.declared.name.At.{At}
use Rattle.pawn_tree.specs.declared.variable.Init as held_init
use Rattle.pawn_tree.specs.Variables.{Init, Braces, inits}
use Rattle.pawn_tree.specs.View.{dim_view, init_view}
use Rattle.pawn_tree.proofs.ViewLaws.{braces_view}
use Rattle.names_rules.specs.Verdict.{Verdict, Stands, Breaks, Fault, faults_of}
use Rattle.names_rules.specs.Known.{Known}
use Rattle.names_rules.specs.Around.{Around}
use Rattle.names_rules.specs.Sizes.{dim_size, init_count, init_gives, first_size, open_size}
use Rattle.names_rules.specs.Sizes.{variable_sizes, parameter_sizes}
use Rattle.pawn_verdict.specs.declared.fault.CheckFault.TheVariants.{Source}
use Rattle.names_sight.specs.declared.fault.Fault as kept
use Rattle.pawn_verdict.specs.Answers.{Fails}
use Rattle.names_sight.specs.Views.{size_view}
use Rattle.names_sight.specs.Counted.{counted}
use Rattle.names_sight.specs.Narrower.{Narrower, NarrowerSize, AreNarrower}

-- ---- one size

pub stands_narrower : {A : Type 0} (w : Verdict A) (x : A) → w ≡ Stands x → Narrower (Stands x) w
stands_narrower w x h = rw h (record { stands = λ y e. e; faults = λ fault c. c })

only_at : (i : ℕ) (one fault : Fault) → i < 1 → slice_index_or (one ∷ []) i fault ≡ fault
    → one ≡ fault
only_at zero one fault lt e = e
only_at (suc i) one fault lt e = absurd (omega (arith, lt))

pub fault_narrower : (w : Verdict ℤ) (kind : ℕ) (place : Place)
    → Fails (faults_of w) (Source kind place)
    → Narrower (Breaks (record { kind = kind; place = place } ∷ [])) w
fault_narrower w kind place h = record {
  stands = λ x e. absurd (let no : ⊥ = cc in no);
  faults =
      λ fault c. let same = only_at c.0 (record { kind = kind; place = place }) fault c.1 c.2 in rw
      (← same) h.cause;
}

-- ---- one size more

narrower_more : (kept sizes : List (Verdict ℤ)) (k v : Verdict ℤ) → AreNarrower kept sizes
    → Narrower k v → AreNarrower (kept ++ k ∷ []) (sizes ++ v ∷ [])
narrower_more [] [] k v h n = (n, tt)
narrower_more (x ∷ kept) (y ∷ sizes) k v h n = (h.0, narrower_more kept sizes k v h.1 n)
narrower_more [] (y ∷ sizes) k v h n = absurd h
narrower_more (x ∷ kept) [] k v h n = absurd h

module _ (around : Around) (place : Place) (means : List ℕ → Option Known) where
  abbrev dims_to : ℕ → List held.Dim → List (Verdict ℤ)
  dims_to i dims = map (dim_size around place means) (map dim_view (take i dims))

  dims_more : (dims : List held.Dim) (i : ℕ) (dim : held.Dim) → i < length dims
      → dim ≡ get_or dims i dim
      → dims_to (i + 1) dims ≡ dims_to i dims ++ dim_size around place means (dim_view dim) ∷ []
  dims_more dims i dim lt e =
      ap (λ some. map (dim_size around place means) (map dim_view some)) (take_more dims i dim lt)
      ∙ ap (λ x. map (dim_size around place means) (map dim_view (take i dims ++ x ∷ []))) (sym e)
      ∙ ap (map (dim_size around place means)) (map-append dim_view (take i dims) (dim ∷ []))
      ∙ map-append (dim_size around place means) (map dim_view (take i dims)) (dim_view dim ∷ [])

  pub size_goes_on : (sizes : List (Result ℤ kept.Fault)) (size : Result ℤ kept.Fault)
      (verdicts : List (Verdict ℤ)) (dims : List held.Dim) (i : ℕ) (dim : held.Dim)
      → AreNarrower (map size_view sizes) (verdicts ++ dims_to i dims) → i < length dims
      → dim ≡ get_or dims i dim
      → NarrowerSize size (dim_size around place means (dim_view dim))
      → AreNarrower (map size_view (sizes ++ size ∷ [])) (verdicts ++ dims_to (i + 1) dims)
  size_goes_on sizes size verdicts dims i dim h lt e n =
      rw (
        map-append size_view sizes (size ∷ []),
        dims_more dims i dim lt e,
        ← append_assoc verdicts (dims_to i dims) (dim_size around place means (dim_view dim) ∷ []),
      )
      (narrower_more (map size_view sizes) (verdicts ++ dims_to i dims) (size_view size)
      (dim_size around place means (dim_view dim)) h n)

-- ---- lists in braces

inits_count : (list : List held_init.Init) → init_count (inits (map init_view list)) ≡ length list
inits_count [] = refl
inits_count (x ∷ list) = ap suc (inits_count list)

gives_by : (around : Around) (place : Place) (means : List ℕ → Option Known) (at : At)
    (list : List held_init.Init) (goes_on : Bool)
    → init_gives around place means (Braces at (inits (map init_view list)) goes_on)
    ≡ counted around place (length list) goes_on
gives_by around place means at list true = refl
gives_by around place means at list false = ap (λ count. Stands (pos count)) (inits_count list)

pub list_gives : (around : Around) (place : Place) (means : List ℕ → Option Known) (at : At)
    (list : List held_init.Init) (goes_on : Bool)
    → init_gives around place means (init_view (held_init.Braces at list goes_on))
    ≡ counted around place (length list) goes_on
list_gives around place means at list goes_on =
    ap (λ x. init_gives around place means x) (braces_view at list goes_on)
    ∙ gives_by around place means at list goes_on

-- ---- the first size and the others

pub parameter_parts : (around : Around) (place : Place) (means : List ℕ → Option Known)
    (dims : List held.Dim) (first : held.Dim)
    → 1 ≤ length dims → first ≡ get_or dims 0 first
    → parameter_sizes around place means (map dim_view dims)
    ≡ (open_size around place means (dim_view first) ∷ [])
    ++ map (dim_size around place means) (map dim_view (drop 1 dims))
parameter_parts around place means [] first le e = absurd (omega (arith, le))
parameter_parts around place means (x ∷ dims) first le e =
    ap (λ y. open_size around place means (dim_view y)
    ∷ map (dim_size around place means) (map dim_view dims)) (sym e)

pub variable_parts : (around : Around) (place : Place) (means : List ℕ → Option Known)
    (init : Option Init) (dims : List held.Dim) (first : held.Dim)
    → 1 ≤ length dims → first ≡ get_or dims 0 first
    → variable_sizes around place means (map dim_view dims) init
    ≡ (first_size around place means (dim_view first) init ∷ [])
    ++ map (dim_size around place means) (map dim_view (drop 1 dims))
variable_parts around place means init [] first le e = absurd (omega (arith, le))
variable_parts around place means init (x ∷ dims) first le e =
    ap (λ y. first_size around place means (dim_view y) init
    ∷ map (dim_size around place means) (map dim_view dims)) (sym e)

-- what stands behind the first of a list
pub behind_first : {A : Type 0} (dims : List A) → take (length dims - 1) (drop 1 dims) ≡ drop 1 dims
behind_first dims = take_all (length dims - 1) (drop 1 dims) (omega (arith, length-drop 1 dims))
