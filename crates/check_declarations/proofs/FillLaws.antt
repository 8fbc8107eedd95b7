-- Functions with their bodies, one body after another.
use Rattle.std.proofs.Common.{◌≡◌, ◌+◌, ◌<◌, ◌≤◌, ℕ, zero, suc, true, false, List, [], ◌∷◌, ◌++◌}
use Rattle.std.proofs.Common.{cond, map, length, drop, get_or, set, refl, sym, ap, ap₂, ◌∙◌, arith}
use Rattle.std.proofs.Common.{append_assoc, append-nil}
use Rattle.std.specs.Prelude.{Bool, IsTrue, ◌↔◌, nat_eq, option_map, slice_get, Some}
use Rattle.std.proofs.lemmas.Bool.{false≢true}
use Rattle.std.proofs.lemmas.Bool.Decides.{nat_tests}
use Rattle.std.proofs.lemmas.List.{map-append, drop_all, drop_more}
use Rattle.std.proofs.lemmas.List.Elements.{filter-append}
use Rattle.std.proofs.lemmas.Option.{slice_get_within, get_or_from_slice_get}
use Rattle.pawn_meaning.specs.Program.{Slot, Body, Function, Automaton}
use Rattle.pawn_meaning.specs.View.{body_view, function_view, route_view, slot_view}
use Rattle.pawn_meaning.specs.declared.program.Function as held
use Rattle.pawn_meaning.specs.declared.program.Body as held_body
use Rattle.types_rules.specs.Groups.{Group}
use Rattle.types_rules.specs.Declarations.{Bodied}
use Rattle.types_rules.specs.Functions.{clauses}
use Rattle.types_rules.specs.Sources.{Source, Stated, group_tag}
use Rattle.types_rules.specs.Programs.{bodies_of, dispatch_by, function_of, program_functions}
use Rattle.check_source.specs.Update.{updated}
use Rattle.check_declarations.specs.Filled.{params_by, with_params, with_body, filled}

-- ---- numbers

differs : (m n : ℕ) → m < n → nat_eq m n ≡ false
differs m n lt = grind (arith, nat_tests)

differs_behind : (m n i : ℕ) → m ≡ n + suc i → nat_eq m n ≡ false
differs_behind m n i e = grind (arith, nat_tests)

equals : (m n : ℕ) → m ≡ n + 0 → nat_eq m n ≡ true
equals m n e = grind (arith, nat_tests)

-- ---- a body more

bodies_push : (bodies : List Bodied) (it : Bodied) (number : ℕ)
    → bodies_of (bodies ++ it ∷ []) number
    ≡ bodies_of bodies number ++ cond (nat_eq it.number number) (it ∷ []) []
bodies_push bodies it number =
    filter-append (λ (it : Bodied). nat_eq it.number number) bodies (it ∷ [])

of_this : (bodies : List Bodied) (it : Bodied) (number : ℕ) → nat_eq it.number number ≡ true
    → bodies_of (bodies ++ it ∷ []) number ≡ bodies_of bodies number ++ it ∷ []
of_this bodies it number h =
    bodies_push bodies it number ∙ ap (λ b. bodies_of bodies number ++ cond b (it ∷ []) []) h

of_another : (bodies : List Bodied) (it : Bodied) (number : ℕ) → nat_eq it.number number ≡ false
    → bodies_of (bodies ++ it ∷ []) number ≡ bodies_of bodies number
of_another bodies it number h =
    bodies_push bodies it number ∙ ap (λ b. bodies_of bodies number ++ cond b (it ∷ []) []) h
    ∙ append-nil (bodies_of bodies number)

function_push : (automata : List Automaton) (tag : ℕ) (group : Group) (row : List Bodied)
    (it : Bodied)
    → function_of automata tag group (row ++ it ∷ [])
    ≡ with_body it.params it.body (function_of automata tag group row)
function_push automata tag group [] it = refl
function_push automata tag group (x ∷ row) it =
    ap (λ (rest : List Body). record {
      params = x.params;
      tag = tag;
      dispatch = dispatch_by automata (clauses group);
      bodies = x.body ∷ rest;
    })
    (map-append (λ (it : Bodied). it.body) row (it ∷ []))

module _ (source : Source) (all : List Stated) where
  -- functions behind that of a body
  untouched : (number : ℕ) (groups : List Group) (bodies : List Bodied) (it : Bodied)
      → it.number < number
      → program_functions source all number groups (bodies ++ it ∷ [])
      ≡ program_functions source all number groups bodies
  unfolding program_functions
  untouched number [] bodies it lt = refl
  untouched number (group ∷ more) bodies it lt =
      let less : it.number < number + 1 = omega (arith, lt) in
      ap₂ (λ (f : Function) (fs : List Function). f ∷ fs)
      (ap (function_of source.automata (group_tag source all group) group)
      (of_another bodies it number (differs it.number number lt)))
      (untouched (number + 1) more bodies it less)

  body_push : (number : ℕ) (groups : List Group) (bodies : List Bodied) (it : Bodied) (i : ℕ)
      → it.number ≡ number + i
      → program_functions source all number groups (bodies ++ it ∷ [])
      ≡ updated (program_functions source all number groups bodies) i (with_body it.params it.body)
  unfolding program_functions
  body_push number [] bodies it i e = refl
  body_push number (group ∷ more) bodies it zero e =
      let less : it.number < number + 1 = omega (arith, e) in
      ap₂ (λ (f : Function) (fs : List Function). f ∷ fs)
      (ap (function_of source.automata (group_tag source all group) group)
      (of_this bodies it number (equals it.number number e))
      ∙ function_push source.automata (group_tag source all group) group
      (bodies_of bodies number) it)
      (untouched (number + 1) more bodies it less)
  body_push number (group ∷ more) bodies it (suc i) e =
      let next : it.number ≡ number + 1 + i = omega (arith, e) in
      ap₂ (λ (f : Function) (fs : List Function). f ∷ fs)
      (ap (function_of source.automata (group_tag source all group) group)
      (of_another bodies it number (differs_behind it.number number i e)))
      (body_push (number + 1) more bodies it i next)

  filled_all : (groups : List Group) (bodies more : List Bodied)
      → filled (program_functions source all 0 groups bodies) more
      ≡ program_functions source all 0 groups (bodies ++ more)
  filled_all groups bodies [] = ap (program_functions source all 0 groups) (sym (append-nil bodies))
  filled_all groups bodies (it ∷ more) =
      let number : it.number ≡ 0 + it.number = omega arith in
      ap (λ (fs : List Function). filled fs more)
      (sym (body_push 0 groups bodies it it.number number))
      ∙ filled_all groups (bodies ++ it ∷ []) more
      ∙ ap (program_functions source all 0 groups) (append_assoc bodies (it ∷ []) more)

  -- functions with all bodies
  pub all_filled : (groups : List Group) (old new : List Function) (bodies : List Bodied)
      → old ≡ program_functions source all 0 groups [] → new ≡ filled old bodies
      → new ≡ program_functions source all 0 groups bodies
  all_filled groups old new bodies h e =
      e ∙ ap (λ (fs : List Function). filled fs bodies) h ∙ filled_all groups [] bodies

  -- ---- functions without bodies

  pub bare_more : (groups : List Group) (i : ℕ) (group : Group) (list pushed : List held.Function)
      (it : held.Function) (whole : List Function)
      → map function_view list ++ program_functions source all i (drop i groups) [] ≡ whole
      → slice_get groups i ≡ Some group → pushed ≡ list ++ it ∷ []
      → function_view it ≡ function_of source.automata (group_tag source all group) group []
      → map function_view pushed ++ program_functions source all (i + 1)
      (drop (i + 1) groups) [] ≡ whole
  unfolding program_functions
  bare_more groups i group list pushed it whole h here p e =
      let made : Function = function_of source.automata (group_tag source all group) group [] in
      let rest : List Function = program_functions source all (i + 1) (drop (i + 1) groups) [] in
      let cut : drop i groups ≡ group ∷ drop (i + 1) groups =
      drop_more groups i group (slice_get_within groups i group here)
      ∙ ap (λ (g : Group). g ∷ drop (i + 1) groups)
      (get_or_from_slice_get groups i group group here) in
      ap (λ (fs : List Function). fs ++ rest)
      (ap (map function_view) p ∙ map-append function_view list (it ∷ [])
      ∙ ap (λ (f : Function). map function_view list ++ f ∷ []) e)
      ∙ append_assoc (map function_view list) (made ∷ []) rest
      ∙ ap (λ (gs : List Group). map function_view list ++ program_functions source all i gs [])
      (sym cut) ∙ h

  pub bare_all : (groups : List Group) (i : ℕ) (done whole : List Function) → length groups ≤ i
      → done ++ program_functions source all i (drop i groups) [] ≡ whole → done ≡ whole
  unfolding program_functions
  bare_all groups i done whole le h =
      sym (append-nil done) ∙ ap (λ (gs : List Group). done ++ program_functions source all i gs [])
      (sym (drop_all i groups le)) ∙ h

-- ---- a function changed where it stands

params_by_some : (new old : List Slot) (bodies : List held_body.Body) → (bodies ≡ [] → ⊥)
    → old ≡ params_by new old (map body_view bodies)
params_by_some new old [] some = absurd (some refl)
params_by_some new old (it ∷ more) some = refl

none_by : (b : Bool) (bodies : List held_body.Body) → IsTrue b ↔ (bodies ≡ []) → b ≡ false
    → bodies ≡ [] → ⊥
none_by true bodies is off none = false≢true (sym off)
none_by false bodies is off none = false≢true (is.1 none)

-- where there is a body, parameters stay
pub params_stay : (params : List Slot) (it : held.Function) (b : Bool) → IsTrue b ↔ (it.bodies ≡ [])
    → b ≡ false
    → function_view it ≡ with_params params (function_view it)
params_stay params it b is off =
    ap (λ (slots : List Slot). record {
      params = slots;
      tag = it.tag;
      dispatch = option_map route_view it.dispatch;
      bodies = map body_view it.bodies;
    }) (params_by_some params (map slot_view it.params) it.bodies (none_by b it.bodies is off))

pub pushed_at : (functions : List held.Function) (i : ℕ) (x y : held.Function) (params : List Slot)
    (body : Body) → x ≡ get_or functions i x
    → function_view y ≡ with_body params body (function_view x)
    → map function_view (set functions i y)
    ≡ updated (map function_view functions) i (with_body params body)
pushed_at [] i x y params body is to = refl
pushed_at (z ∷ zs) zero x y params body is to =
    ap (λ w. w ∷ map function_view zs) (to ∙ ap (λ f. with_body params body (function_view f)) is)
pushed_at (z ∷ zs) (suc i) x y params body is to =
    ap (λ w. function_view z ∷ w) (pushed_at zs i x y params body is to)

pub none_pushed : (functions : List held.Function) (i : ℕ) (change : Function → Function)
    → length functions ≤ i
    → map function_view functions ≡ updated (map function_view functions) i change
none_pushed [] i change le = refl
none_pushed (x ∷ xs) zero change le = absurd (omega (arith, le))
none_pushed (x ∷ xs) (suc i) change le =
    let less : length xs ≤ i = omega (arith, le) in
    ap (λ ys. function_view x ∷ ys) (none_pushed xs i change less)
