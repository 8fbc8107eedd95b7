-- Each function has a head that its calls see, and its bodies have the parameters of that.
use Rattle.std.proofs.Common.{◌≡◌, ◌+◌, ◌≤◌, ℕ, zero, suc, List, [], ◌∷◌, Bool, true, false, Option}
use Rattle.std.proofs.Common.{None, Some, refl, ap, ◌∙◌, cond, arith}
use Rattle.std.specs.Prelude.{length, find, slice_get, nat_eq}
use Rattle.std.specs.Option.{option_and_then}
use Rattle.std.proofs.lemmas.Bool.{eqb-true}
use Rattle.pawn_tree.specs.declared.name.At.{At}
use Rattle.pawn_tree.specs.declared.name.StateName.{StateName}
use Rattle.pawn_tree.specs.Declarations as tree
use Rattle.pawn_tree.specs.Declarations.{Decl, Variables, Constant, Enum, Native, Forward, Function}
use Rattle.pawn_tree.specs.Declarations.{Tree}
use Rattle.types_rules.specs.Around.{Around, Head}
use Rattle.types_rules.specs.Points.{Point}
use Rattle.types_rules.specs.Keys.{Key, same_key}
use Rattle.types_rules.specs.Groups.{Written, Group, written, body_key}
use Rattle.types_rules.specs.Params.{head_rule, head_of}
use Rattle.types_rules.specs.Headings.{Role, IsNative, IsForward, IsBody, headings, belongs}
use Rattle.types_rules.specs.Paths.{behind_decl, heads}
use Rattle.types_rules.specs.Sources.{Source, Stated, stated, first_head, group_head, group_tag}
use Rattle.types_rules.specs.Sources.{functions_from}
use Rattle.types_rules.specs.Declarations.{Bodied}
use Rattle.types_rules.specs.Programs.{bodies_of}
use Rattle.types_laws.specs.Objects.{Each}
use Rattle.types_laws.proofs.ArrayValues.{each_at}
use Rattle.types_laws.proofs.GroupLaws.{place}
use Rattle.types_laws.proofs.FirstHeads.{find_each}
use Rattle.types_laws.proofs.KnownHeads.{IsThere}
use Rattle.types_laws.proofs.GroupBodies.{placed_at}
use Rattle.types_laws.proofs.ClauseLaws.{found_at}
use Rattle.types_laws.proofs.RouteLaws.{IsReady, owned}

-- ---- what isn't found

none_by : {A : Type 0} (p : A → Bool) (x : A) (rest : Option A) (b : Bool) → p x ≡ b
    → cond b (Some x) rest ≡ None → (p x ≡ false) × (rest ≡ None)
none_by p x rest true s e = absurd (let never : ⊥ = cc in never)
none_by p x rest false s e = (s, e)

not_found : {A : Type 0} (p : A → Bool) (x : A) (more : List A) → find p (x ∷ more) ≡ None
    → (p x ≡ false) × (find p more ≡ None)
not_found p x more e = none_by p x (find p more) (p x) refl e

true_all : {A : Type 0} (xs : List A) → Each (λ x. Unit {0}) xs
true_all [] = tt
true_all (x ∷ xs) = (tt, true_all xs)

module _ (source : Source) where
  abbrev belongs_at : Key → Stated → Bool
  belongs_at key st = belongs source.tags source.fallback key st.heading

  -- where no head belongs to a key, no body does
  abbrev NoBody : Key → Written → Type 0
  NoBody key it = same_key key (body_key source.tags source.fallback it) ≡ false

  abbrev stated_head : At → Role → Bool → tree.Head → Option (List StateName) → Option Head → Stated
  stated_head at role is_public head states typed = record {
    heading = record { at = at; role = role; is_public = is_public; head = head; states = states };
    head = typed;
  }

  none_written : (cx : Around) (key : Key) (point : Point) (all : Tree)
      → find (belongs_at key) (stated source (headings all) (heads cx point all)) ≡ None
      → Each (NoBody key) (written all)
  unfolding heads
  none_written cx key point [] e = tt
  none_written cx key point (Variables at of ∷ more) e =
      none_written cx key (behind_decl cx point (Variables at of)) more e
  none_written cx key point (Constant at of ∷ more) e =
      none_written cx key (behind_decl cx point (Constant at of)) more e
  none_written cx key point (Enum at name items ∷ more) e =
      none_written cx key (behind_decl cx point (Enum at name items)) more e
  none_written cx key point (Native at head ∷ more) e =
      none_written cx key point more
      (not_found (belongs_at key) (stated_head at IsNative false head None
      (head_of (head_rule cx at point.scope head)))
      (stated source (headings more) (heads cx point more)) e).1
  none_written cx key point (Forward at is_public head ∷ more) e =
      none_written cx key point more
      (not_found (belongs_at key) (stated_head at IsForward is_public head None
      (head_of (head_rule cx at point.scope head)))
      (stated source (headings more) (heads cx point more)) e).1
  none_written cx key point (Function at of ∷ more) e =
      let r = not_found (belongs_at key)
      (stated_head at IsBody of.is_public of.head of.states
      (head_of (head_rule cx at point.scope of.head)))
      (stated source (headings more) (heads cx (behind_decl cx point (Function at of)) more)) e in
      (r.0, none_written cx key (behind_decl cx point (Function at of)) more r.1)

  -- a body with a function's place has its key
  placed_key : (f : ℕ) (group : Group) (key : Key) → slice_get source.groups f ≡ Some group
      → place source.groups key ≡ f → same_key group.key key ≡ true
  placed_key f group key there e =
      (find_each (λ (g : Group). same_key g.key key) (λ g. Unit {0}) source.groups group
      (true_all source.groups)
      (found_at (λ (g : Group). same_key g.key key) source.groups group f e there)).1

  none_placed : (f : ℕ) (group : Group) → slice_get source.groups f ≡ Some group
      → (all : List Written) → Each (NoBody group.key) all
      → placed_at source.tags source.fallback source.groups f all ≡ []
  none_placed f group there [] h = refl
  none_placed f group there (it ∷ more) h =
      by (nat_eq (place source.groups (body_key source.tags source.fallback it)) f) refl
      (none_placed f group there more h.1)
    where
      by : (b : Bool) → nat_eq (place source.groups (body_key source.tags source.fallback it)) f ≡ b
          → placed_at source.tags source.fallback source.groups f more ≡ []
          → cond b (it ∷ placed_at source.tags source.fallback source.groups f more)
          (placed_at source.tags source.fallback source.groups f more) ≡ []
      by true e none =
          let key = body_key source.tags source.fallback it in
          let same = placed_key f group key there (eqb-true (place source.groups key) f e) in
          let other = h.0 in
          absurd (let never : ⊥ = cc in never)
      by false e none = none

  -- calls see a head of the function
  pub record HasHead (all : List Stated) (group : Group) : Type 0 where
    pub head : Head
    pub is : group_head source all group ≡ Some head

  there_head : (o : Option Head) → IsThere o → (k : Head → Type 0) → ((h : Head) → o ≡ Some h → k h)
      → (h : Head) × k h
  there_head None h k go = absurd h
  there_head (Some x) h k go = (x, go x refl)

  pub has_head : (cx : Around) (point : Point) (tree : Tree) (bodies : List Bodied)
      → IsReady source (written tree) bodies
      → Each (λ (st : Stated). IsThere st.head)
      (stated source (headings tree) (heads cx point tree))
      → (f : ℕ) (group : Group) → slice_get source.groups f ≡ Some group
      → HasHead (stated source (headings tree) (heads cx point tree)) group
  has_head cx point tree bodies ready there f group at =
      by (first_head source all group.key) refl
    where
      all : List Stated
      all = stated source (headings tree) (heads cx point tree)

      by : (o : Option Stated) → first_head source all group.key ≡ o → HasHead all group
      by None e =
          let none =
          none_placed f group at (written tree) (none_written cx group.key point tree e) in
          let some =
          each_at (λ (g : Group). 1 ≤ length g.bodies) source.groups f group
          ready.have at in
          let same = ap length (owned source (written tree) bodies ready f group at ∙ none) in
          absurd (omega (arith, some, same))
      by (Some st) e =
          let first =
          find_each (belongs_at group.key)
          (λ (s : Stated). IsThere s.head) all st there e in
          let h = there_head st.head first.0 (λ head. st.head ≡ Some head) (λ head is. is) in
          record {
            head = h.0;
            is = ap (λ (o : Option Stated). option_and_then (λ (s : Stated). s.head) o) e ∙ h.1;
          }

  -- ---- functions that are known

  pub callable_at : (all : List Stated) (n : ℕ) (groups : List Group) (f : ℕ) (group : Group)
      → slice_get groups f ≡ Some group
      → slice_get (functions_from source n all groups) f
      ≡ Some (record {
        number = n + f;
        tag = group_tag source all group;
        head = group_head source all group;
      })
  unfolding functions_from
  callable_at all n [] f group e = absurd (let never : ⊥ = cc in never)
  callable_at all n (x ∷ more) zero group e =
      let same : x ≡ group = cc in
      let plus : n ≡ n + 0 = omega arith in
      ap (λ (g : Group). Some (record {
        number = n;
        tag = group_tag source all g;
        head = group_head source all g;
      })) same
      ∙ ap (λ (m : ℕ). Some (record {
        number = m;
        tag = group_tag source all group;
        head = group_head source all group;
      })) plus
  callable_at all n (x ∷ more) (suc f) group e =
      let plus : n + 1 + f ≡ n + suc f = omega arith in
      callable_at all (n + 1) more f group e
      ∙ ap (λ (m : ℕ). Some (record {
        number = m;
        tag = group_tag source all group;
        head = group_head source all group;
      })) plus

-- ---- bodies by number

same_by : (f : ℕ) (P : Bodied → Type 0) (b : Bodied) (rest : List Bodied) (t : Bool)
    → nat_eq b.number f ≡ t → (nat_eq b.number f ≡ true → P b) → Each P rest
    → Each P (cond t (b ∷ rest) rest)
same_by f P b rest true e h k = (h e, k)
same_by f P b rest false e h k = k

pub bodies_have : (f : ℕ) (P : Bodied → Type 0) (bodies : List Bodied)
    → Each (λ (b : Bodied). nat_eq b.number f ≡ true → P b) bodies → Each P (bodies_of bodies f)
bodies_have f P [] h = tt
bodies_have f P (b ∷ more) h =
    same_by f P b (bodies_of more f) (nat_eq b.number f) refl h.0 (bodies_have f P more h.1)
