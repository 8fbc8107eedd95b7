-- The bodies of a function have the parameters of the head that its calls see.
use Rattle.std.proofs.Common.{◌≡◌, ◌⊎◌, inl, inr, ◌+◌, ◌<◌, ℕ, zero, suc, ℤ, List, [], ◌∷◌, ◌++◌}
use Rattle.std.proofs.Common.{Bool, true, false, Option, None, Some, refl, sym, ap, ◌∙◌, subst}
use Rattle.std.proofs.Common.{cond, arith}
use Rattle.std.specs.Prelude.{length, map, slice_get, unwrap_or, nat_eq}
use Rattle.std.specs.Option.{option_and_then}
use Rattle.std.proofs.lemmas.Bool.{eqb-true, eq-eqb}
use Rattle.std.proofs.lemmas.List.Quantifiers.{position-Some}
use Rattle.std.proofs.lemmas.Option.{get_or_from_slice_get, slice_get_within}
use Rattle.pawn_tree.specs.declared.name.At.{At}
use Rattle.pawn_tree.specs.Declarations.{Variables, Constant, Enum, Native, Forward, Function, Tree}
use Rattle.pawn_tree.specs.Declarations.{FunctionOf}
use Rattle.names_rules.specs.Verdict.{Verdict, Stands, Breaks}
use Rattle.names_rules.specs.Mark.{Mark}
use Rattle.types_rules.specs.Around.{Around, Callable, Head}
use Rattle.types_rules.proofs.VerdictLaws.{Holds, stands_itself, breaks_holds, holds_after}
use Rattle.types_rules.proofs.VerdictLaws.{holds_both, holds_all, holds_also, holds_unless}
use Rattle.types_rules.specs.Points.{Point}
use Rattle.types_rules.specs.Params.{Headed, head_rule, head_of}
use Rattle.types_rules.specs.Keys.{Key, same_key}
use Rattle.types_rules.specs.Groups.{Group, written, number_of}
use Rattle.types_rules.specs.Headings.{Role, IsBody, headings, heading_key, is_of, belongs}
use Rattle.types_rules.specs.Paths.{behind_decl, heads}
use Rattle.types_rules.specs.Sources.{Source, Stated, source_of, stated, first_head, group_head}
use Rattle.types_rules.specs.Sources.{group_tag, functions_from, all_stated, around_of, beginning}
use Rattle.types_rules.specs.Functions.{head_faults, heads_of_group}
use Rattle.types_rules.specs.Functions.{group_faults, classifier_faults}
use Rattle.types_rules.specs.Functions.{param_faults}
use Rattle.types_rules.specs.Declarations.{Bodied, Done, nothing_done, shaped_key, native_name}
use Rattle.types_rules.specs.Declarations.{function_key, function_with, function_rule, declarations}
use Rattle.types_rules.specs.Programs as programs
use Rattle.types_rules.specs.Programs.{bodies_of, params_of, function_of, program_of}
use Rattle.types_laws.specs.Known.{slot_of}
use Rattle.types_laws.specs.Objects.{Each}
use Rattle.types_laws.specs.Written.{IsAnyName}
use Rattle.types_laws.proofs.Facts.{if_holds}
use Rattle.types_laws.proofs.ArrayValues.{each_at}
use Rattle.types_laws.proofs.BareLaws.{globals_bare, bare_bare, constant_bare, enum_bare}
use Rattle.types_laws.proofs.BareLaws.{shaped_is}
use Rattle.types_laws.specs.WrittenDeclarations.{IsOwnHead, IsWrittenTree}
use Rattle.types_laws.specs.SameHeads.{HeadsAreSame}
use Rattle.types_laws.specs.HeadedFunctions.{KeepTogether, HaveParams, IsHeadedBy}
use Rattle.types_laws.specs.HeadedFunctions.{FunctionsAreHeaded}
use Rattle.types_laws.proofs.GroupLaws.{IsShaped, AreShaped, IsHit, HavePlaces, Numbers, place}
use Rattle.types_laws.proofs.GroupLaws.{number_is, keys_of, all_numbers}
use Rattle.types_laws.proofs.SlotLaws.{OwnHead, params_own}
use Rattle.types_laws.proofs.FirstHeads.{append_none, some_same, find_each, HasSlots}
use Rattle.types_laws.proofs.FirstHeads.{slots_same}

own_rest : (w : Verdict Headed) → Holds OwnHead w → (h : Head) → head_of w ≡ Some h
    → h.rest ≡ None
own_rest (Stands x) p h e =
    let same : record { params = x.params; rest = x.rest } ≡ h = cc in
    ap (λ (z : Head). z.rest) (sym same) ∙ (p.of x refl).rest
own_rest (Breaks found) p h e = absurd (let no : ⊥ = cc in no)

module _ (source : Source) where
  abbrev key_at : Stated → Key
  key_at st = heading_key source.tags source.fallback st.heading

  -- a body with its heading
  record FitBody (st : Stated) (b : Bodied) : Type 0 where
    pub role : st.heading.role ≡ IsBody
    pub number : b.number ≡ unwrap_or (number_of source.groups (key_at st)) 0
    pub head : Head
    pub there : st.head ≡ Some head
    pub params : b.params ≡ map slot_of head.params
    pub own : head.rest ≡ None
    pub shaped : IsShaped (key_at st)

  -- no function has a head with `...`
  record HasNoRest (st : Stated) : Type 0 where
    pub none : (key : Key) → belongs source.tags source.fallback key st.heading ≡ true
        → (head : Head)
        → st.head ≡ Some head → head.rest ≡ None

  -- headings with the bodies and the keys of bodies
  data BodiesFit : List Stated → List Bodied → List Key → Type 0 where
    fit_none : BodiesFit [] [] []
    fit_body : {st : Stated} {more : List Stated} {b : Bodied} {rest : List Bodied}
        {keys : List Key} → FitBody st b → BodiesFit more rest keys
        → BodiesFit (st ∷ more) (b ∷ rest) (key_at st ∷ keys)
    fit_other : {st : Stated} {more : List Stated} {rest : List Bodied} {keys : List Key}
        → HasNoRest st → BodiesFit more rest keys → BodiesFit (st ∷ more) rest keys

  module _ (cx : Around) where
    abbrev stated_body : Point → At → FunctionOf → Stated
    stated_body point at of = record {
      heading = record {
        at = at;
        role = IsBody;
        is_public = of.is_public;
        head = of.head;
        states = of.states;
      };
      head = head_of (head_rule cx at point.scope of.head);
    }

    record OneBody (point : Point) (at : At) (of : FunctionOf) (d : Done) : Type 0 where
      pub body : Bodied
      pub is : d.bodies ≡ body ∷ []
      pub number : body.number ≡ unwrap_or (number_of source.groups (function_key source cx of)) 0
      pub head : Head
      pub there : head_of (head_rule cx at point.scope of.head) ≡ Some head
      pub params : body.params ≡ map slot_of head.params
      pub own : head.rest ≡ None

    function_one : (point : Point) (at : At) (of : FunctionOf) → IsOwnHead of.head
        → Holds (OneBody point at of) (function_with source cx point at of
        (function_key source cx of))
    function_one point at of w =
        holds_unless _ (holds_both {P = λ h. (head_rule cx at point.scope of.head ≡ Stands h)
        × OwnHead h}
        (record {
          of = λ h e. (e, (params_own cx at ([] ∷ point.scope) 0 of.head.params w).of h e);
        })
        (holds_all _) (λ h x p t.
        if_holds _ (stands_itself _ _ (record {
          body = _;
          is = refl;
          number = refl;
          head = record { params = h.params; rest = h.rest };
          there = ap head_of p.0;
          params = p.1.slots;
          own = p.1.rest;
        })) (breaks_holds _ _)))

    fit_function : (point : Point) (at : At) (of : FunctionOf) → IsOwnHead of.head
        → Holds (λ d. OneBody point at of d × IsShaped (function_key source cx of))
        (function_rule source cx point at of)
    fit_function point at of w =
        holds_after (function_one point at of w) (λ d p.
        holds_after (shaped_is at (function_key source cx of)) (λ k q. stands_itself _ _ (p, q)))

    joined : (sts : List Stated) (x y : List Bodied) (keys : List Key) → x ≡ []
        → BodiesFit sts y keys → BodiesFit sts (x ++ y) keys
    joined sts x y keys e h =
        subst (λ (l : List Bodied). BodiesFit sts (l ++ y) keys) (sym e) h

    with_body : (point : Point) (at : At) (of : FunctionOf) (x y : Done) (sts : List Stated)
        (keys : List Key) → OneBody point at of x → IsShaped (function_key source cx of)
        → BodiesFit sts y.bodies keys
        → BodiesFit (stated_body point at of ∷ sts) (x.bodies ++ y.bodies)
        (function_key source cx of ∷ keys)
    with_body point at of x y sts keys p shaped h =
        subst (λ (l : List Bodied). BodiesFit (stated_body point at of ∷ sts) (l ++ y.bodies)
        (function_key source cx of ∷ keys)) (sym p.is)
        (fit_body (record {
          role = refl;
          number = p.number;
          head = p.head;
          there = p.there;
          params = p.params;
          own = p.own;
          shaped = shaped;
        }) h)

    bodies_fit : (point : Point) (all : Tree) → IsWrittenTree IsAnyName all
        → Holds (λ d. BodiesFit (stated source (headings all) (heads cx point all)) d.bodies
        (keys_of source.tags source.fallback (written all)))
        (declarations source cx point all)
    unfolding declarations heads
    bodies_fit point [] w = stands_itself _ nothing_done fit_none
    bodies_fit point (Variables at of ∷ more) w =
        holds_both (holds_unless _ (globals_bare source cx point at of.constant of.vars))
        (bodies_fit (behind_decl cx point (Variables at of)) more w.1)
        (λ x y p q. stands_itself _ _ (joined _ x.bodies y.bodies _ p.bodies q))
    bodies_fit point (Constant at of ∷ more) w =
        holds_both (constant_bare source cx point at of)
        (bodies_fit (behind_decl cx point (Constant at of)) more w.1)
        (λ x y p q. stands_itself _ _ (joined _ x.bodies y.bodies _ p.bodies q))
    bodies_fit point (Enum at name items ∷ more) w =
        holds_both (enum_bare source cx point at name items)
        (bodies_fit (behind_decl cx point (Enum at name items)) more w.1)
        (λ x y p q. stands_itself _ _ (joined _ x.bodies y.bodies _ p.bodies q))
    bodies_fit point (Native at head ∷ more) w =
        holds_both (holds_also (native_name at head.name) (bare_bare source cx point at head))
        (bodies_fit (behind_decl cx point (Native at head)) more w.1)
        (λ x y p q. stands_itself _ _ (fit_other
        (record { none = λ key no h e. absurd (let never : ⊥ = cc in never) })
        (joined _ x.bodies y.bodies _ p.bodies q)))
    bodies_fit point (Forward at is_public head ∷ more) w =
        holds_both (holds_also (shaped_key at _) (bare_bare source cx point at head))
        (bodies_fit (behind_decl cx point (Forward at is_public head)) more w.1)
        (λ x y p q. stands_itself _ _ (fit_other
        (record {
          none = λ key is h e.
              own_rest (head_rule cx at point.scope head)
              (params_own cx at ([] ∷ point.scope) 0 head.params w.0) h e;
        })
        (joined _ x.bodies y.bodies _ p.bodies q)))
    bodies_fit point (Function at of ∷ more) w =
        holds_both (fit_function point at of w.0.0)
        (bodies_fit (behind_decl cx point (Function at of)) more w.1)
        (λ x y p q. stands_itself _ _ (with_body point at of x y _ _ p.0 p.1 q))

fit_shaped : (source : Source) (sts : List Stated) (bodies : List Bodied) (keys : List Key)
    → BodiesFit source sts bodies keys → AreShaped keys
fit_shaped source _ _ _ fit_none = tt
fit_shaped source _ _ _ (fit_body p more) = (p.shaped, fit_shaped source _ _ _ more)
fit_shaped source _ _ _ (fit_other r more) = fit_shaped source _ _ _ more

module _ (source : Source) where
  -- ---- the bodies of a function

  belongs_to : (key : Key) (st : Stated) → st.heading.role ≡ IsBody
      → same_key key (key_at source st) ≡ true
      → belongs source.tags source.fallback key st.heading ≡ true
  belongs_to key st role same =
      subst (λ (r : Role). is_of source.tags source.fallback key st.heading r ≡ true)
      (sym role) same

  placed : (key : Key) (f : ℕ) (group : Group) → slice_get source.groups f ≡ Some group
      → place source.groups key < length source.groups → place source.groups key ≡ f
      → same_key group.key key ≡ true
  placed key f group there lt is =
      let p = position-Some (λ (it : Group). same_key it.key key) source.groups f group
      (number_is source.groups key lt ∙ ap (λ z. Some z) is) in
      subst (λ (it : Group). same_key it.key key ≡ true)
      (get_or_from_slice_get source.groups f group group there) p.1

  number_place : (key : Key) → place source.groups key < length source.groups
      → unwrap_or (number_of source.groups key) 0 ≡ place source.groups key
  number_place key lt = ap (λ (z : Option ℕ). unwrap_or z 0) (number_is source.groups key lt)

  bodies_have : (f : ℕ) (group : Group) (head : Head) → slice_get source.groups f ≡ Some group
      → (sts : List Stated) (bodies : List Bodied) (keys : List Key)
      → BodiesFit source sts bodies keys
      → Each (λ y. belongs source.tags source.fallback group.key y.heading ≡ true
      → HasSlots source head y) sts
      → HavePlaces source.groups keys → HaveParams bodies f head
  bodies_have f group head there _ _ _ fit_none same places = tt
  bodies_have f group head there _ _ _ (fit_body {st = st} {b = b} p more) same places = (
    λ t. p.params ∙ same.0 (belongs_to group.key st p.role
        (placed (key_at source st) f group there places.0
        (sym (number_place (key_at source st) places.0) ∙ sym p.number ∙ eqb-true b.number f t)))
        p.head
        p.there,
    bodies_have f group head there _ _ _ more same.1 places.1,
  )
  bodies_have f group head there _ _ _ (fit_other r more) same places =
      bodies_have f group head there _ _ _ more same.1 places

  first_by : (f : ℕ) (head : Head) (b : Bodied) (bodies : List Bodied) (t : Bool)
      → nat_eq b.number f ≡ t → (nat_eq b.number f ≡ true → b.params ≡ map slot_of head.params)
      → (t ≡ false → params_of (bodies_of bodies f) ≡ map slot_of head.params)
      → params_of (cond t (b ∷ bodies_of bodies f) (bodies_of bodies f)) ≡ map slot_of head.params
  first_by f head b bodies true e h k = h e
  first_by f head b bodies false e h k = k refl

  first_params : (f : ℕ) (head : Head) (sts : List Stated) (bodies : List Bodied) (keys : List Key)
      → BodiesFit source sts bodies keys → HavePlaces source.groups keys
      → IsHit source.groups f keys → HaveParams bodies f head
      → params_of (bodies_of bodies f) ≡ map slot_of head.params
  first_params f head _ _ _ fit_none places hit have = absurd hit
  first_params f head _ _ _ (fit_other r more) places hit have =
      first_params f head _ _ _ more places hit have
  first_params f head _ _ _ (fit_body {st = st} {b = b} {rest = rest} p more) places hit have =
      first_by f head b rest (nat_eq b.number f) refl have.0 (λ e.
      first_params f head _ _ _ more places.1 (later _ e hit) have.1)
    where
      later : (keys : List Key) → nat_eq b.number f ≡ false
          → (place source.groups (key_at source st) ≡ f) ⊎ IsHit source.groups f keys
          → IsHit source.groups f keys
      later keys e (inr h) = h
      later keys e (inl is) =
          let own : nat_eq b.number f ≡ true = eq-eqb b.number f
          (p.number ∙ number_place (key_at source st) places.0 ∙ is) in
          absurd (let no : ⊥ = cc in no)

  -- ---- functions by number

  record FunctionAt (all : List Stated) (groups : List Group) (number f : ℕ)
      (it : Callable) : Type 0 where
    pub group : Group
    pub there : slice_get groups f ≡ Some group
    pub number_is : it.number ≡ number + f
    pub head_is : it.head ≡ group_head source all group

  function_at : (number : ℕ) (all : List Stated) (groups : List Group) (f : ℕ) (it : Callable)
      → slice_get (functions_from source number all groups) f ≡ Some it
      → FunctionAt all groups number f it
  unfolding functions_from
  function_at number all [] f it e = absurd (let no : ⊥ = cc in no)
  function_at number all (group ∷ more) zero it e =
      let same : record {
        number = number;
        tag = group_tag source all group;
        head = group_head source all group;
      } ≡ it = cc in
      record {
        group = group;
        there = refl;
        number_is = sym (ap (λ (z : Callable). z.number) same) ∙ plus_nothing number;
        head_is = sym (ap (λ (z : Callable). z.head) same);
      }
    where
      plus_nothing : (n : ℕ) → n ≡ n + 0
      plus_nothing n = omega arith
  function_at number all (group ∷ more) (suc f) it e =
      let r = function_at (number + 1) all more f it e in
      record {
        group = r.group;
        there = r.there;
        number_is = omega (arith, r.number_is);
        head_is = r.head_is;
      }

  program_at : (all : List Stated) (number : ℕ) (groups : List Group) (bodies : List Bodied) (f : ℕ)
      (group : Group) → slice_get groups f ≡ Some group
      → slice_get (programs.program_functions source all number groups bodies) f
      ≡ Some (function_of source.automata (group_tag source all group) group
      (bodies_of bodies (number + f)))
  unfolding programs.program_functions
  program_at all number [] bodies f group e = absurd (let no : ⊥ = cc in no)
  program_at all number (x ∷ more) bodies zero group e =
      let same : x ≡ group = cc in
      let plus : number ≡ number + 0 = omega arith in
      ap (λ (g : Group). Some (function_of source.automata (group_tag source all g) g
      (bodies_of bodies number))) same
      ∙ ap (λ (n : ℕ). Some (function_of source.automata (group_tag source all group) group
      (bodies_of bodies n))) plus
  program_at all number (x ∷ more) bodies (suc f) group e =
      let plus : number + 1 + f ≡ number + suc f = omega arith in
      program_at all (number + 1) more bodies f group e
      ∙ ap (λ (n : ℕ). Some (function_of source.automata (group_tag source all group) group
      (bodies_of bodies n))) plus

  all_no_rest : (sts : List Stated) (bodies : List Bodied) (keys : List Key)
      → BodiesFit source sts bodies keys → Each (λ (st : Stated). HasNoRest source st) sts
  all_no_rest _ _ _ fit_none = tt
  all_no_rest _ _ _ (fit_other r more) = (r, all_no_rest _ _ _ more)
  all_no_rest _ _ _ (fit_body p more) = (
    record {
      none = λ key is h e.
          let same : p.head ≡ h = some_same (sym p.there ∙ e) in
          ap (λ (z : Head). z.rest) (sym same) ∙ p.own;
    },
    all_no_rest _ _ _ more,
  )

  record HeadFound (all : List Stated) (key : Key) (head : Head) : Type 0 where
    pub stated_there : Stated
    pub found : first_head source all key ≡ Some stated_there
    pub has : stated_there.head ≡ Some head

  head_found : (all : List Stated) (key : Key) (head : Head) (it : Option Stated)
      → first_head source all key ≡ it → option_and_then (λ (st : Stated). st.head) it ≡ Some head
      → HeadFound all key head
  head_found all key head None e h = absurd (let no : ⊥ = cc in no)
  head_found all key head (Some st) e h = record { stated_there = st; found = e; has = h }

  headed : (all : List Stated) (marks : List Mark) (dynamic : ℤ) (done : Done) (keys : List Key)
      → BodiesFit source all done.bodies keys → Numbers source.groups keys
      → KeepTogether source all → (f : ℕ) (it : Callable) (head : Head)
      → slice_get (functions_from source 0 all source.groups) f ≡ Some it → it.head ≡ Some head
      → IsHeadedBy (program_of source all marks dynamic done) done.bodies f it head
  headed all marks dynamic done keys fit numbers together f it head e h =
      let r = function_at 0 all source.groups f it e in
      let number : it.number ≡ f = r.number_is ∙ nothing_plus f in
      let at_head = head_found all r.group.key head (first_head source all r.group.key) refl
      (sym r.head_is ∙ h) in
      let none = append_none (classifier_faults r.group) _
      (each_at (λ (group : Group). group_faults source all group ≡ []) source.groups f r.group
      together
      r.there) in
      let heads_none =
      append_none (param_faults r.group)
      (head_faults source (heads_of_group source all r.group)) none.1 in
      let same =
      slots_same source (λ (st : Stated). belongs source.tags source.fallback r.group.key
      st.heading)
      all at_head.stated_there head at_head.found at_head.has heads_none.1 in
      let first_is =
      find_each (λ (st : Stated). belongs source.tags source.fallback r.group.key
      st.heading)
      (λ (st : Stated). HasNoRest source st) all at_head.stated_there
      (all_no_rest all done.bodies keys fit)
      at_head.found in
      let have = bodies_have f r.group head r.there all done.bodies keys fit same numbers.places in
      record {
        number = number;
        headed = record {
          takes = record {
            function = function_of source.automata (group_tag source all r.group) r.group
                (bodies_of done.bodies f);
            there = subst (λ (n : ℕ).
                slice_get (programs.program_functions source all 0 source.groups done.bodies) n
                ≡ Some (function_of source.automata (group_tag source all r.group) r.group
                (bodies_of done.bodies f)))
                (sym number)
                (program_at all 0 source.groups done.bodies f r.group r.there
                ∙ ap (λ (n : ℕ). Some (function_of source.automata
                (group_tag source all r.group) r.group
                (bodies_of done.bodies n))) (nothing_plus f));
            params_are = first_params f head all done.bodies keys fit numbers.places
                (numbers.hit f (slice_get_within source.groups f r.group r.there)) have;
          };
          no_rest = first_is.0.none r.group.key first_is.1 head at_head.has;
        };
        params = have;
      }
    where
      nothing_plus : (n : ℕ) → 0 + n ≡ n
      nothing_plus n = omega arith

pub functions_headed : HeadsAreSame → FunctionsAreHeaded
functions_headed law tree done marks dynamic w e together f it head there h =
    let source : Source = source_of tree in
    let all : List Stated = all_stated source tree in
    let same = law source all (stated source source.headings []) (beginning source) tree done e in
    let fit = (bodies_fit source (around_of source tree) (beginning source) tree w).of done e in
    headed source all marks dynamic done (keys_of source.tags source.fallback (written tree))
    (subst (λ (hs : List (Option Head)). BodiesFit source
    (stated source source.headings hs) done.bodies
    (keys_of source.tags source.fallback (written tree))) (sym same.same) fit)
    (all_numbers source.tags source.fallback (written tree) (fit_shaped source _ _ _ fit)) together
    f it head there h
