-- The names of natives are those of their heads.
use Rattle.std.proofs.Common.{◌+◌, ◌≤◌, ℕ, List, [], ◌∷◌, Bool, true, false, Option, None, cond}
use Rattle.std.proofs.Common.{arith}
use Rattle.std.specs.Prelude.{length, map, filter}
use Rattle.pawn_tree.specs.declared.name.At.{At}
use Rattle.pawn_tree.specs.declared.declaration.HeadName.{HeadName}
use Rattle.pawn_tree.specs.declared.declaration.HeadName.TheVariants as called
use Rattle.pawn_tree.specs.Declarations.{Decl, Variables, Constant, Enum, Native, Forward, Function}
use Rattle.pawn_tree.specs.Declarations.{Tree}
use Rattle.pawn_meaning.specs.ProgramNames.{IsName}
use Rattle.types_rules.specs.Around as typed
use Rattle.types_rules.specs.Around.{Around}
use Rattle.types_rules.proofs.VerdictLaws.{Holds, stands_itself, breaks_holds, holds_after}
use Rattle.types_rules.proofs.VerdictLaws.{holds_both, holds_all}
use Rattle.types_rules.specs.Points.{Point}
use Rattle.types_rules.specs.Headings.{Heading, Role, IsNative, IsForward, IsBody, headings}
use Rattle.types_rules.specs.Headings.{public_name}
use Rattle.types_rules.specs.Paths.{behind_decl}
use Rattle.types_rules.specs.Sources.{Source, Stated, is_native, name_of, is_called, stated}
use Rattle.types_rules.specs.Sources.{natives_in}
use Rattle.types_rules.specs.Declarations.{nothing_done, native_name, bare_head, decl_rule}
use Rattle.types_rules.specs.Declarations.{declarations}
use Rattle.types_rules.specs.Programs.{natives}
use Rattle.types_laws.specs.Objects.{Each}
use Rattle.types_laws.proofs.Sizes.{sizes}
use Rattle.types_laws.proofs.TreeCounts.{IsNamedDecl}

abbrev pub size_by : Role → Heading → ℕ
size_by IsNative it = length (name_of it.head.name)
size_by IsForward it = 0
size_by IsBody it = 0

abbrev pub heading_sizes : List Heading → ℕ
heading_sizes [] = 0
heading_sizes (it ∷ more) = size_by it.role it + heading_sizes more

abbrev pub named_by : Role → Heading → Type 0
named_by IsNative it = IsName (name_of it.head.name)
named_by IsForward it = Unit {0}
named_by IsBody it = Unit {0}

abbrev pub IsNamedNative : Heading → Type 0
IsNamedNative it = named_by it.role it

-- ---- natives are no operators

abbrev IsCalledSo : HeadName → Type 0
IsCalledSo (called.Name name) = Unit {0}
IsCalledSo (called.Operator at sign) = ⊥

abbrev pub IsPlainDecl : Decl → Type 0
IsPlainDecl (Variables at it) = Unit {0}
IsPlainDecl (Constant at it) = Unit {0}
IsPlainDecl (Enum at name items) = Unit {0}
IsPlainDecl (Native at head) = IsCalledSo head.name
IsPlainDecl (Forward at is_public head) = Unit {0}
IsPlainDecl (Function at it) = Unit {0}

called_so : (at : At) (name : HeadName) → Holds (λ k. IsCalledSo name) (native_name at name)
called_so at (called.Name name) = stands_itself _ _ tt
called_so at (called.Operator sign_at sign) = breaks_holds _ _

module _ (source : Source) (cx : Around) where
  decl_plain : (point : Point) (x : Decl) → Holds (λ d. IsPlainDecl x) (decl_rule source cx point x)
  decl_plain point (Variables at it) = record { of = λ d e. tt }
  decl_plain point (Constant at it) = record { of = λ d e. tt }
  decl_plain point (Enum at name items) = record { of = λ d e. tt }
  decl_plain point (Native at head) =
      holds_after (holds_all (bare_head source cx point at head)) (λ d t.
      holds_after (called_so at head.name) (λ k q. stands_itself _ _ q))
  decl_plain point (Forward at is_public head) = record { of = λ d e. tt }
  decl_plain point (Function at it) = record { of = λ d e. tt }

  pub all_plain : (point : Point) (all : Tree)
      → Holds (λ d. Each IsPlainDecl all) (declarations source cx point all)
  unfolding declarations
  all_plain point [] = stands_itself _ nothing_done tt
  all_plain point (x ∷ more) =
      holds_both (decl_plain point x) (all_plain (behind_decl cx point x) more)
      (λ d e p q. stands_itself _ _ (p, q))

plain_name : (name : HeadName) → IsCalledSo name → IsName (public_name name) → IsName (name_of name)
plain_name (called.Name name) h k = k
plain_name (called.Operator at sign) h k = absurd h

pub headings_named : (tree : Tree) → Each IsPlainDecl tree → Each IsNamedDecl tree
    → Each IsNamedNative (headings tree)
headings_named [] h k = tt
headings_named (Variables at of ∷ more) h k = headings_named more h.1 k.1
headings_named (Constant at of ∷ more) h k = headings_named more h.1 k.1
headings_named (Enum at name items ∷ more) h k = headings_named more h.1 k.1
headings_named (Native at head ∷ more) h k =
    (plain_name head.name h.0 k.0, headings_named more h.1 k.1)
headings_named (Forward at is_public head ∷ more) h k = (tt, headings_named more h.1 k.1)
headings_named (Function at of ∷ more) h k = (tt, headings_named more h.1 k.1)

-- ---- natives that are called

abbrev name_at : Stated → List ℕ
name_at it = name_of it.heading.head.name

module _ (source : Source) where
  abbrev names_of : List Stated → List (List ℕ)
  names_of all =
      map name_at (filter (λ (it : Stated). is_called source it.heading) (natives_in source all))

  called_size : (it : Stated) (rest : List Stated) (b : Bool) (total : ℕ)
      → sizes (map name_at (filter (λ (st : Stated). is_called source st.heading) rest)) ≤ total
      → sizes (map name_at (cond b (it ∷ filter (λ (st : Stated). is_called source st.heading) rest)
      (filter (λ (st : Stated). is_called source st.heading) rest)))
      ≤ length (name_at it) + total
  called_size it rest true total h = omega (arith, h)
  called_size it rest false total h = omega (arith, h)

  one_size : (it : Stated) (rest : List Stated) (total : ℕ)
      → sizes (names_of rest) ≤ total
      → sizes (names_of (it ∷ rest)) ≤ size_by it.heading.role it.heading + total
  one_size it rest total h = by it.heading.role
    where
      by : (r : Role)
          → sizes (map name_at (filter (λ (st : Stated). is_called source st.heading)
          (cond (is_native r) (it ∷ natives_in source rest) (natives_in source rest))))
          ≤ size_by r it.heading + total
      by IsNative = called_size it (natives_in source rest) (is_called source it.heading) total h
      by IsForward = omega (arith, h)
      by IsBody = omega (arith, h)

  natives_by : (its : List Heading) (heads : List (Option typed.Head))
      → sizes (names_of (stated source its heads)) ≤ heading_sizes its
  natives_by [] heads = omega arith
  natives_by (it ∷ more) [] =
      one_size (record { heading = it; head = None }) (stated source more []) (heading_sizes more)
      (natives_by more [])
  natives_by (it ∷ more) (head ∷ heads) =
      one_size (record { heading = it; head = head }) (stated source more heads)
      (heading_sizes more)
      (natives_by more heads)

  called_named : (it : Stated) (rest : List Stated) (b : Bool) → IsName (name_at it)
      → Each IsName (map name_at (filter (λ (st : Stated). is_called source st.heading) rest))
      → Each IsName (map name_at (cond b
      (it ∷ filter (λ (st : Stated). is_called source st.heading) rest)
      (filter (λ (st : Stated). is_called source st.heading) rest)))
  called_named it rest true h k = (h, k)
  called_named it rest false h k = k

  one_named : (it : Stated) (rest : List Stated) → IsNamedNative it.heading
      → Each IsName (names_of rest) → Each IsName (names_of (it ∷ rest))
  one_named it rest h k = by it.heading.role h
    where
      by : (r : Role) → named_by r it.heading
          → Each IsName (map name_at (filter (λ (st : Stated). is_called source st.heading)
          (cond (is_native r) (it ∷ natives_in source rest) (natives_in source rest))))
      by IsNative n = called_named it (natives_in source rest) (is_called source it.heading) n k
      by IsForward n = k
      by IsBody n = k

  named_natives : (its : List Heading) (heads : List (Option typed.Head))
      → Each IsNamedNative its → Each IsName (names_of (stated source its heads))
  named_natives [] heads h = tt
  named_natives (it ∷ more) [] h =
      one_named (record { heading = it; head = None }) (stated source more []) h.0
      (named_natives more [] h.1)
  named_natives (it ∷ more) (head ∷ heads) h =
      one_named (record { heading = it; head = head }) (stated source more heads) h.0
      (named_natives more heads h.1)

  pub natives_size : (its : List Heading) (heads : List (Option typed.Head))
      → sizes (natives source (stated source its heads)) ≤ heading_sizes its
  natives_size its heads = natives_by its heads

  pub natives_named : (its : List Heading) (heads : List (Option typed.Head))
      → Each IsNamedNative its → Each IsName (natives source (stated source its heads))
  natives_named its heads h = named_natives its heads h
