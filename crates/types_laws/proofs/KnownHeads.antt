-- What is known of each head of a source: its defaults, and its slots where all of its parameters
-- take plain values.
use Rattle.std.proofs.Common.{◌≡◌, ◌+◌, ℕ, zero, suc, List, [], ◌∷◌, Bool, true, false, Option}
use Rattle.std.proofs.Common.{None, Some, refl, ap, ◌∙◌, cond}
use Rattle.std.specs.Prelude.{if◌then◌else◌, length, map, filter, replicate, slice_get}
use Rattle.std.specs.Option.{option_and_then}
use Rattle.pawn_tree.specs.declared.name.At.{At}
use Rattle.pawn_tree.specs.Declarations as tree
use Rattle.pawn_tree.specs.Declarations.{Variables, Constant, Enum, Native, Forward, Function, Tree}
use Rattle.pawn_meaning.specs.Program.{ScalarSlot}
use Rattle.names_rules.specs.Overloads.{plain_tags}
use Rattle.types_rules.specs.Around.{Around, Callable, Head}
use Rattle.types_rules.proofs.VerdictLaws.{Holds}
use Rattle.types_rules.specs.Points.{Point}
use Rattle.types_rules.specs.Params.{head_rule, head_of}
use Rattle.types_rules.specs.Keys.{Key}
use Rattle.types_rules.specs.Groups.{Group}
use Rattle.types_rules.specs.Headings.{headings, belongs}
use Rattle.types_rules.specs.Paths.{behind_decl, heads}
use Rattle.types_rules.specs.Sources.{Source, Stated, stated, is_native, is_called, first_head}
use Rattle.types_rules.specs.Sources.{group_head, group_tag, stated_tag, functions_from}
use Rattle.types_rules.specs.Sources.{natives_from, natives_in}
use Rattle.types_laws.specs.Known.{slot_of, HasDefaults}
use Rattle.types_laws.specs.Objects.{Each}
use Rattle.types_laws.specs.Written.{IsAnyName}
use Rattle.types_laws.specs.Plain.{IsPlainPath, HasTags}
use Rattle.types_laws.specs.WrittenDeclarations.{IsWrittenHead, IsWrittenTree}
use Rattle.types_laws.specs.SameHeads.{AreThere}
use Rattle.types_laws.proofs.FirstHeads.{find_each}
use Rattle.types_laws.proofs.PlainPaths.{plain_inside, decl_plain}
use Rattle.types_laws.proofs.HeadDefaults.{FineHead, params_fit, head_defaults, head_plain}
use Rattle.types_laws.proofs.HeadDefaults.{own_written}

-- a head as it is written, beside what calls see of it
pub record IsFineHead (written : tree.Head) (o : Option Head) : Type 0 where
  pub defaults : (head : Head) → o ≡ Some head → HasDefaults head
  pub plain : (head : Head) → o ≡ Some head → (names : List (List ℕ)) (tags : List ℕ)
      → plain_tags names written.params ≡ Some tags
      → map slot_of head.params ≡ replicate (length written.params) ScalarSlot

abbrev pub IsFine : Stated → Type 0
IsFine st = IsFineHead st.heading.head st.head

-- a head is there
abbrev pub IsThere : Option Head → Type 0
IsThere None = ⊥
IsThere (Some head) = Unit {0}

there_first : (o : Option Head) (more : List (Option Head)) → AreThere (o ∷ more)
    → IsThere o × AreThere more
there_first None more h = absurd h
there_first (Some head) more h = (tt, h)

module _ (source : Source) (cx : Around) (tags : HasTags cx) where
  head_fine : (at : At) (point : Point) (written : tree.Head) → IsPlainPath point.scope
      → IsWrittenHead written
      → IsFineHead written (head_of (head_rule cx at point.scope written))
  head_fine at point written known w =
      let fit : Holds (FineHead written.params) (head_rule cx at point.scope written) =
      params_fit cx tags at ([] ∷ point.scope) (plain_inside point.scope known) 0 written.params w
      in
      record {
        defaults = head_defaults written.params (head_rule cx at point.scope written) fit;
        plain = head_plain written.params (head_rule cx at point.scope written) fit;
      }

  pub heads_fine : (point : Point) (all : Tree) → IsWrittenTree IsAnyName all
      → IsPlainPath point.scope → Each IsFine (stated source (headings all) (heads cx point all))
  unfolding heads
  heads_fine point [] w known = tt
  heads_fine point (Variables at of ∷ more) w known =
      heads_fine (behind_decl cx point (Variables at of)) more w.1
      (decl_plain cx tags point (Variables at of) w.0 known)
  heads_fine point (Constant at of ∷ more) w known =
      heads_fine (behind_decl cx point (Constant at of)) more w.1
      (decl_plain cx tags point (Constant at of) w.0 known)
  heads_fine point (Enum at name items ∷ more) w known =
      heads_fine (behind_decl cx point (Enum at name items)) more w.1
      (decl_plain cx tags point (Enum at name items) w.0 known)
  heads_fine point (Native at head ∷ more) w known =
      (head_fine at point head known w.0, heads_fine point more w.1 known)
  heads_fine point (Forward at is_public head ∷ more) w known = (
    head_fine at point head known (own_written head.params w.0),
    heads_fine point more w.1 known,
  )
  heads_fine point (Function at of ∷ more) w known = (
    head_fine at point of.head known (own_written of.head.params w.0.0),
    heads_fine (behind_decl cx point (Function at of)) more w.1
        (decl_plain cx tags point (Function at of) w.0 known),
  )

  pub heads_there : (point : Point) (all : Tree) → AreThere (heads cx point all)
      → Each (λ (st : Stated). IsThere st.head) (stated source (headings all) (heads cx point all))
  unfolding heads
  heads_there point [] h = tt
  heads_there point (Variables at of ∷ more) h =
      heads_there (behind_decl cx point (Variables at of)) more h
  heads_there point (Constant at of ∷ more) h =
      heads_there (behind_decl cx point (Constant at of)) more h
  heads_there point (Enum at name items ∷ more) h =
      heads_there (behind_decl cx point (Enum at name items)) more h
  heads_there point (Native at head ∷ more) h =
      let r = there_first (head_of (head_rule cx at point.scope head)) _ h in
      (r.0, heads_there point more r.1)
  heads_there point (Forward at is_public head ∷ more) h =
      let r = there_first (head_of (head_rule cx at point.scope head)) _ h in
      (r.0, heads_there point more r.1)
  heads_there point (Function at of ∷ more) h =
      let r = there_first (head_of (head_rule cx at point.scope of.head)) _ h in
      (r.0, heads_there (behind_decl cx point (Function at of)) more r.1)

-- ---- functions and natives with their heads

kept : {A : Type 0} (P : A → Type 0) (b : Bool) (x : A) (rest : List A) → P x → Each P rest
    → Each P (cond b (x ∷ rest) rest)
kept P true x rest h k = (h, k)
kept P false x rest h k = k

each_filter : {A : Type 0} (P : A → Type 0) (p : A → Bool) (xs : List A) → Each P xs
    → Each P (filter p xs)
each_filter P p [] h = tt
each_filter P p (x ∷ xs) h = kept P (p x) x (filter p xs) h.0 (each_filter P p xs h.1)

module _ (source : Source) where
  native_defaults : (number : ℕ) (all : List Stated) → Each IsFine all → (k : ℕ) (it : Callable)
      (head : Head) → slice_get (natives_from source number all) k ≡ Some it
      → it.head ≡ Some head → HasDefaults head
  unfolding natives_from
  native_defaults number [] h k it head e f = absurd (let no : ⊥ = cc in no)
  native_defaults number (st ∷ more) h zero it head e f =
      let same : record { number = number; tag = stated_tag source st; head = st.head } ≡ it = cc in
      h.0.defaults head (ap (λ (c : Callable). c.head) same ∙ f)
  native_defaults number (st ∷ more) h (suc k) it head e f =
      native_defaults (if is_called source st.heading then suc number else number) more h.1 k it
      head e f

  pub natives_defaults : (all : List Stated) → Each IsFine all → (k : ℕ) (it : Callable)
      (head : Head) → slice_get (natives_from source 0 (natives_in source all)) k ≡ Some it
      → it.head ≡ Some head → HasDefaults head
  natives_defaults all h k it head e f =
      native_defaults 0 (natives_in source all)
      (each_filter IsFine (λ (st : Stated). is_native st.heading.role) all h) k it head e f

  first_defaults : (all : List Stated) (key : Key) (head : Head) (o : Option Stated)
      → first_head source all key ≡ o → Each IsFine all
      → option_and_then (λ (st : Stated). st.head) o ≡ Some head → HasDefaults head
  first_defaults all key head None e h f = absurd (let no : ⊥ = cc in no)
  first_defaults all key head (Some st) e h f =
      let first = find_each (λ (it : Stated). belongs source.tags source.fallback key it.heading)
      IsFine all st h e in
      first.0.defaults head f

  pub function_defaults : (number : ℕ) (all : List Stated) (groups : List Group)
      → Each IsFine all → (f : ℕ) (it : Callable) (head : Head)
      → slice_get (functions_from source number all groups) f ≡ Some it → it.head ≡ Some head
      → HasDefaults head
  unfolding functions_from
  function_defaults number all [] h f it head e g = absurd (let no : ⊥ = cc in no)
  function_defaults number all (group ∷ more) h zero it head e g =
      let same : record {
        number = number;
        tag = group_tag source all group;
        head = group_head source all group;
      } ≡ it = cc in
      first_defaults all group.key head (first_head source all group.key) refl h
      (ap (λ (c : Callable). c.head) same ∙ g)
  function_defaults number all (group ∷ more) h (suc f) it head e g =
      function_defaults (number + 1) all more h f it head e g
