-- A user operator is a function with a body whose key it is, so that its calls see a head.
use Rattle.std.proofs.Common.{◌≡◌, ◌⊎◌, inl, inr, ◌+◌, ℕ, zero, suc, List, [], ◌∷◌, ◌++◌, Bool}
use Rattle.std.proofs.Common.{true, false, Option, None, Some, refl, sym, ap, ◌∙◌, subst, cond}
use Rattle.std.proofs.Common.{arith}
use Rattle.std.specs.Prelude.{if◌then◌else◌, find, slice_get}
use Rattle.std.specs.Map.{lookup}
use Rattle.pawn_tree.specs.Declarations.{Variables, Constant, Enum, Native, Forward, Function, Tree}
use Rattle.pawn_tags.specs.declared.op.Op.{Op}
use Rattle.pawn_tags.specs.declared.op.Signature.{Signature}
use Rattle.pawn_tags.specs.Overloads.{Overloads, is_for}
use Rattle.pawn_tags.proofs.OverloadLaws.{only_for}
use Rattle.types_rules.specs.Around.{Callable, Head}
use Rattle.types_rules.specs.Keys.{Key, Named, Operates, Enters, Misshapen, same_key}
use Rattle.types_rules.specs.Groups.{Written, Group, written, with_body, body_key, grouped}
use Rattle.types_rules.specs.Groups.{is_entry}
use Rattle.types_rules.specs.Headings.{Heading, Role, IsNative, IsForward, IsBody, headings}
use Rattle.types_rules.specs.Headings.{heading_key, is_enters, is_of, belongs}
use Rattle.types_rules.specs.Sources.{Source, Stated, stated, group_head, group_tag, functions_from}
use Rattle.types_rules.specs.Sources.{operators_from, operator_of}
use Rattle.types_laws.specs.Objects.{Each}
use Rattle.types_laws.proofs.OperatorHeads.{some_is}

-- ---- which function a user operator is

module _ (source : Source) where
  pub record OperatorAt (number : ℕ) (groups : List Group) (it : Op) (f : ℕ) : Type 0 where
    pub place : ℕ
    pub number_is : f ≡ number + place
    pub group : Group
    pub there : slice_get groups place ≡ Some group
    pub signature : Signature
    pub key_is : group.key ≡ Operates signature
    pub op_is : signature.op ≡ it

  later : (number : ℕ) (group : Group) (more : List Group) (it : Op) (f : ℕ)
      → OperatorAt (number + 1) more it f → OperatorAt number (group ∷ more) it f
  later number group more it f r = record {
    place = suc r.place;
    number_is = omega (arith, r.number_is);
    group = r.group;
    there = r.there;
    signature = r.signature;
    key_is = r.key_is;
    op_is = r.op_is;
  }

  here_or_later : (number : ℕ) (group : Group) (more : List Group) (it : Op) (left right f : ℕ)
      (signature : Signature) (rest : Option ℕ) (b : Bool) → group.key ≡ Operates signature
      → is_for it left right signature ≡ b → cond b (Some number) rest ≡ Some f
      → (rest ≡ Some f → OperatorAt (number + 1) more it f) → OperatorAt number (group ∷ more) it f
  here_or_later number group more it left right f signature rest true k s e ih =
      let same : number ≡ f = some_is number f e in
      record {
        place = 0;
        number_is = omega (arith, same);
        group = group;
        there = refl;
        signature = signature;
        key_is = k;
        op_is = ap (λ (x : Signature). x.op) (sym (only_for it left right signature s));
      }
  here_or_later number group more it left right f signature rest false k s e ih =
      later number group more it f (ih e)

  by_key : (number : ℕ) (group : Group) (more : List Group) (it : Op) (left right f : ℕ) (key : Key)
      (rest : Overloads) → group.key ≡ key
      → lookup (is_for it left right) (operator_of source number key ++ rest) ≡ Some f
      → (lookup (is_for it left right) rest ≡ Some f → OperatorAt (number + 1) more it f)
      → OperatorAt number (group ∷ more) it f
  by_key number group more it left right f (Named name) rest k e ih =
      later number group more it f (ih e)
  by_key number group more it left right f (Operates signature) rest k e ih =
      here_or_later number group more it left right f signature
      (lookup (is_for it left right) rest) (is_for it left right signature) k refl e ih
  by_key number group more it left right f (Enters name) rest k e ih =
      later number group more it f (ih e)
  by_key number group more it left right f Misshapen rest k e ih =
      later number group more it f (ih e)

  pub operator_at : (number : ℕ) (groups : List Group) (it : Op) (left right f : ℕ)
      → lookup (is_for it left right) (operators_from source number groups) ≡ Some f
      → OperatorAt number groups it f
  unfolding operators_from
  operator_at number [] it left right f e = absurd (let no : ⊥ = cc in no)
  operator_at number (group ∷ more) it left right f e =
      by_key number group more it left right f group.key (operators_from source (number + 1) more)
      refl e (operator_at (number + 1) more it left right f)

  -- what calls see of it
  abbrev pub callable : ℕ → List Stated → Group → Callable
  callable number all group =
      record {
        number = number;
        tag = group_tag source all group;
        head = group_head source all group;
      }

  pub callable_at : (number : ℕ) (all : List Stated) (groups : List Group) (f : ℕ) (group : Group)
      → slice_get groups f ≡ Some group
      → slice_get (functions_from source number all groups) f
      ≡ Some (callable (number + f) all group)
  unfolding functions_from
  callable_at number all [] f group e = absurd (let no : ⊥ = cc in no)
  callable_at number all (x ∷ more) zero group e =
      let same : x ≡ group = some_is x group e in
      let plus : number ≡ number + 0 = omega arith in
      ap (λ (g : Group). Some (callable number all g)) same
      ∙ ap (λ (n : ℕ). Some (callable n all group)) plus
  callable_at number all (x ∷ more) (suc f) group e =
      let plus : number + 1 + f ≡ number + suc f = omega arith in
      callable_at (number + 1) all more f group e
      ∙ ap (λ (n : ℕ). Some (callable n all group)) plus

-- ---- each key is that of a body

module _ (names : List (List ℕ)) (fallback : List ℕ) where
  -- some body has this key
  abbrev pub HasKey : List Written → Key → Type 0
  HasKey [] key = ⊥
  HasKey (it ∷ more) key = (body_key names fallback it ≡ key) ⊎ HasKey more key

  abbrev pub AreKeyed : List Written → List Group → Type 0
  AreKeyed all groups = Each (λ (group : Group). HasKey all group.key) groups

  keyed_by : (all : List Written) (group : Group) (more : List Group) (key : Key) (it : Written)
      (b : Bool) → HasKey all group.key → AreKeyed all more → AreKeyed all (with_body more key it)
      → AreKeyed all (if b then record group { bodies = group.bodies ++ it ∷ [] } ∷ more
      else group ∷ with_body more key it)
  keyed_by all group more key it true h k l = (h, k)
  keyed_by all group more key it false h k l = (h, l)

  keyed_with : (all : List Written) (groups : List Group) (key : Key) (it : Written)
      → HasKey all key → AreKeyed all groups → AreKeyed all (with_body groups key it)
  keyed_with all [] key it k h = (k, tt)
  keyed_with all (group ∷ more) key it k h =
      keyed_by all group more key it (same_key group.key key) h.0 h.1
      (keyed_with all more key it k h.1)

  keyed_from : (all : List Written) (groups : List Group) (rest : List Written)
      → ((key : Key) → HasKey rest key → HasKey all key) → AreKeyed all groups
      → AreKeyed all (grouped names fallback groups rest)
  unfolding grouped
  keyed_from all groups [] k h = h
  keyed_from all groups (it ∷ more) k h =
      keyed_from all (with_body groups (body_key names fallback it) it) more
      (λ key other. k key (inr other))
      (keyed_with all groups (body_key names fallback it) it
      (k (body_key names fallback it) (inl refl)) h)

  pub all_keyed : (all : List Written) → AreKeyed all (grouped names fallback [] all)
  all_keyed all = keyed_from all [] all (λ key h. h) tt

  -- some heading of a body has this key
  abbrev pub HasHeading : List Heading → Key → Type 0
  HasHeading [] key = ⊥
  HasHeading (it ∷ more) key =
      ((it.role ≡ IsBody) × (heading_key names fallback it ≡ key)) ⊎ HasHeading more key

  function_headed : (it : Heading) (more : List Heading) (all : List Written) (key own : Key)
      → it.role ≡ IsBody → heading_key names fallback it ≡ own
      → (HasKey all key → HasHeading more key) → (own ≡ key) ⊎ HasKey all key
      → HasHeading (it ∷ more) key
  function_headed it more all key own r e k (inl same) = inl (r, e ∙ same)
  function_headed it more all key own r e k (inr other) = inr (k other)

  pub key_headed : (tree : Tree) (key : Key) → HasKey (written tree) key
      → HasHeading (headings tree) key
  key_headed [] key h = h
  key_headed (Variables at of ∷ more) key h = key_headed more key h
  key_headed (Constant at of ∷ more) key h = key_headed more key h
  key_headed (Enum at name items ∷ more) key h = key_headed more key h
  key_headed (Native at head ∷ more) key h = inr (key_headed more key h)
  key_headed (Forward at is_public head ∷ more) key h = inr (key_headed more key h)
  key_headed (Function at of ∷ more) key h =
      let own : Heading = record {
        at = at;
        role = IsBody;
        is_public = of.is_public;
        head = of.head;
        states = of.states;
      } in
      function_headed own (headings more) (written more) key (heading_key names fallback own) refl
      refl (key_headed more key) h

  -- ---- its first heading

  abbrev pub IsFound : Option Stated → Type 0
  IsFound None = ⊥
  IsFound (Some it) = Unit {0}

  found_here : (b : Bool) (it : Stated) (rest : Option Stated) → b ≡ true
      → IsFound (cond b (Some it) rest)
  found_here true it rest e = tt
  found_here false it rest e = absurd (let no : ⊥ = cc in no)

  found_later : (b : Bool) (it : Stated) (rest : Option Stated) → IsFound rest
      → IsFound (cond b (Some it) rest)
  found_later true it rest h = tt
  found_later false it rest h = h

  own_belongs : (key : Key) (it : Heading) → same_key key key ≡ true → it.role ≡ IsBody
      → heading_key names fallback it ≡ key → belongs names fallback key it ≡ true
  own_belongs key it own r e =
      subst (λ (role : Role). is_of names fallback key it role ≡ true) (sym r)
      (subst (λ (k : Key). same_key key k ≡ true) (sym e) own)

  abbrev pub of_key : Key → Stated → Bool
  of_key key it = belongs names fallback key it.heading

  found_first : (key : Key) (it : Stated) (more : List Stated) (rest : List Heading)
      → same_key key key ≡ true → HasHeading (it.heading ∷ rest) key
      → (HasHeading rest key → IsFound (find (of_key key) more))
      → IsFound (find (of_key key) (it ∷ more))
  found_first key it more rest own (inl h) k =
      found_here (of_key key it) it (find (of_key key) more)
      (own_belongs key it.heading own h.0 h.1)
  found_first key it more rest own (inr h) k =
      found_later (of_key key it) it (find (of_key key) more) (k h)

  pub key_found : (source : Source) (key : Key) (all : List Heading) (heads : List (Option Head))
      → same_key key key ≡ true → HasHeading all key
      → IsFound (find (of_key key) (stated source all heads))
  key_found source key [] heads own h = absurd h
  key_found source key (it ∷ more) [] own h =
      found_first key (record { heading = it; head = None }) (stated source more []) more own h
      (key_found source key more [] own)
  key_found source key (it ∷ more) (head ∷ heads) own h =
      found_first key (record { heading = it; head = head }) (stated source more heads) more own h
      (key_found source key more heads own)

  -- ---- a heading of an operator

  by_entry : (b : Bool) (it : Signature) (key : Key)
      → (if b then is_enters (Operates it) else same_key (Operates it) key) ≡ true
      → same_key (Operates it) key ≡ true
  by_entry true it key e = absurd (let no : ⊥ = cc in no)
  by_entry false it key e = e

  belongs_by : (it : Signature) (heading : Heading) (role : Role)
      → is_of names fallback (Operates it) heading role ≡ true
      → same_key (Operates it) (heading_key names fallback heading) ≡ true
  belongs_by it heading IsNative e = absurd (let no : ⊥ = cc in no)
  belongs_by it heading IsForward e =
      by_entry (is_entry heading.head.name) it (heading_key names fallback heading) e
  belongs_by it heading IsBody e = e

  pub operator_belongs : (it : Signature) (heading : Heading)
      → belongs names fallback (Operates it) heading ≡ true
      → same_key (Operates it) (heading_key names fallback heading) ≡ true
  operator_belongs it heading e = belongs_by it heading heading.role e
