-- What the slots of a frame hold, by the slots of its body; and which parts arrays are.
use Rattle.std.proofs.Common.{◌≡◌, ◌∙◌, ◌⊎◌, ◌++◌, ◌-◌, ◌*◌, ◌<◌, ◌≤◌, ◌==◌, ℕ, zero, suc, List}
use Rattle.std.proofs.Common.{[], ◌∷◌, Bool, true, false, Option, None, Some, IsSome, length}
use Rattle.std.proofs.Common.{slice_get}
use Rattle.std.proofs.Common.{refl, sym, ap, subst, arith, inl, inr}
use Rattle.std.proofs.Common.{if◌then◌else◌}
use Rattle.std.specs.Prelude.{slice_set, slice_index_or, Any}
use Rattle.std.proofs.Math.Nat.{suc-mul}
use Rattle.std.proofs.lemmas.Bool.{cases_lt}
use Rattle.std.proofs.lemmas.Nat.{mul-le}
use Rattle.std.proofs.lemmas.Option.{slice_get_within}
use Rattle.pawn_arrays.specs.Sizes.{elements_in}
use Rattle.pawn_meaning.specs.Program.{Program, Slot, ScalarSlot, ReferenceSlot, ArraySlot}
use Rattle.pawn_meaning.specs.Program.{OpenSlot}
use Rattle.pawn_meaning.specs.Memory.{Static, Local, Temporary, Reference}
use Rattle.pawn_meaning.specs.References.{first_size, other_sizes, row_at, rest_from, cell_at}
use Rattle.pawn_meaning.specs.References.{character_at}
use Rattle.pawn_meaning.specs.Scope.{Extent, known_extent, row_extent, rest_extent, IsLine, HasRows}
use Rattle.pawn_meaning.specs.Scope.{HasInner, HasCells}
use Rattle.meaning_laws.proofs.Outlines.{Drawn, Keeps, Leads, Blank, Outline, frame_in, drawn_in}
use Rattle.meaning_laws.proofs.Outlines.{kept_in}
use Rattle.meaning_laws.proofs.Outlines.{sizes_at}
use Rattle.meaning_laws.proofs.Accesses.{lay, innermost, IsFine, IsPlaceOf, Stays, fine_stays}

-- ---- lists

-- among numbers
abbrev pub IsIn : ℕ → List ℕ → Type 0
IsIn s [] = ⊥
IsIn s (x ∷ xs) = (x ≡ s) ⊎ IsIn s xs

found_in : (s : ℕ) (xs : List ℕ) (k x : ℕ) → k < length xs → slice_index_or xs k x ≡ x → x ≡ s
    → IsIn s xs
found_in s [] k x h e i = absurd (omega (arith, h))
found_in s (y ∷ xs) zero x h e i = inl (cc (e, i))
found_in s (y ∷ xs) (suc k) x h e i = inr (found_in s xs k x (omega (arith, h)) e i)

pub is_in : (s : ℕ) (xs : List ℕ) → Any (λ x. x ≡ s) xs → IsIn s xs
is_in s xs h = found_in s xs h.0 h.1 h.2 h.3 h.4

in_front : (s : ℕ) (xs us : List ℕ) → IsIn s xs → IsIn s (xs ++ us)
in_front s [] us h = absurd h
in_front s (x ∷ xs) us (inl e) = inl e
in_front s (x ∷ xs) us (inr h) = inr (in_front s xs us h)

in_last : (s t : ℕ) (xs : List ℕ) → IsIn s (xs ++ t ∷ []) → IsIn s xs ⊎ (t ≡ s)
in_last s t [] (inl e) = inr e
in_last s t [] (inr h) = absurd h
in_last s t (x ∷ xs) (inl e) = inl (inl e)
in_last s t (x ∷ xs) (inr h) = by (in_last s t xs h) where
  by : IsIn s xs ⊎ (t ≡ s) → IsIn s (x ∷ xs) ⊎ (t ≡ s)
  by (inl i) = inl (inr i)
  by (inr e) = inr e

-- behind a change of one element
got_set : {X : Type 0} (xs : List X) (s t : ℕ) (x : X) → s < length xs
    → ((s ≡ t) × (slice_get (slice_set xs s x) t ≡ Some x))
    ⊎ ((¬ (s ≡ t)) × (slice_get (slice_set xs s x) t ≡ slice_get xs t))
got_set [] s t x h = absurd (omega (arith, h))
got_set (y ∷ xs) zero zero x h = inl (refl, refl)
got_set (y ∷ xs) zero (suc t) x h = inr ((λ e. absurd (omega (arith, e))), refl)
got_set (y ∷ xs) (suc s) zero x h = inr ((λ e. absurd (omega (arith, e))), refl)
got_set (y ∷ xs) (suc s) (suc t) x h = by (got_set xs s t x (omega (arith, h))) where
  by : ((s ≡ t) × (slice_get (slice_set xs s x) t ≡ Some x))
      ⊎ ((¬ (s ≡ t)) × (slice_get (slice_set xs s x) t ≡ slice_get xs t))
      → ((suc s ≡ suc t) × (slice_get (slice_set xs s x) t ≡ Some x))
      ⊎ ((¬ (suc s ≡ suc t)) × (slice_get (slice_set xs s x) t ≡ slice_get xs t))
  by (inl e) = inl (ap suc e.0, e.1)
  by (inr e) = inr ((λ i. e.0 (omega (arith, i))), e.1)

-- ---- parts

-- a part reaches as far as is known of an array
abbrev pub FirstIs : Option ℕ → ℕ → Type 0
FirstIs None size = Unit {0}
FirstIs (Some first) size = first ≡ size

abbrev pub ArrayFits : Option Extent → Reference → Type 0
ArrayFits None r = ⊥
ArrayFits (Some whole) r = (size : ℕ) × (r.sizes ≡ size ∷ whole.inner) × FirstIs whole.first size

pub known_fits : (sizes : List ℕ) (r : Reference) → r.sizes ≡ sizes → IsSome (known_extent sizes)
    → ArrayFits (known_extent sizes) r
known_fits [] r e h = absurd (cc h)
known_fits (size ∷ inner) r e h = (size, e, refl)

pub rows_known : (inner : List ℕ) → ¬ (inner ≡ []) → IsSome (known_extent inner)
rows_known [] h = absurd (h refl)
rows_known (size ∷ inner) h = refl

pub known_sizes : (o : Option Extent) (sizes : List ℕ) (r : Reference) → o ≡ known_extent sizes
    → ArrayFits o r → r.sizes ≡ sizes
known_sizes None sizes r e h = absurd h
known_sizes (Some whole) [] r e h = absurd (cc e)
known_sizes (Some whole) (size ∷ inner) r e h =
    let same : whole ≡ record { first = Some size; inner = inner } = cc e in
    let is : FirstIs (Some size) h.0 = subst (λ (z : Extent). FirstIs z.first h.0) same h.2 in
    h.1 ∙ ap (λ (z : Extent). h.0 ∷ z.inner) same ∙ ap (λ n. n ∷ inner) (sym is)

pub inner_sizes : (inner : List ℕ) (o : Option Extent) (r : Reference) → HasInner inner o → ArrayFits o r
    → (size : ℕ) × (r.sizes ≡ size ∷ inner)
inner_sizes inner None r i h = absurd i
inner_sizes inner (Some whole) r i h = (h.0, h.1 ∙ ap (λ z. h.0 ∷ z) i)

-- one dimension
pub line_sizes : (o : Option Extent) (r : Reference) → IsLine o → ArrayFits o r
    → (size : ℕ) × (r.sizes ≡ size ∷ [])
line_sizes None r i h = absurd i
line_sizes (Some whole) r i h = (h.0, h.1 ∙ ap (λ z. h.0 ∷ z) i)

pub cells_fit : (n : ℕ) (o : Option Extent) (r : Reference) → HasCells n o → ArrayFits o r
    → n ≤ elements_in r.sizes
cells_fit n o r i h =
    let most = i.2 in
    let count : elements_in (i.0 ∷ []) ≡ i.0 = omega arith in
    let all : elements_in r.sizes ≡ i.0 = ap elements_in (known_sizes o (i.0 ∷ []) r i.1 h) ∙ count in
    omega (arith, most, all)

pub row_fits : (o : Option Extent) (r : Reference) (i : ℕ) → HasRows o → ArrayFits o r
    → ArrayFits (row_extent o) (row_at r i)
row_fits None r i n h = absurd n
row_fits (Some whole) r i n h =
    known_fits whole.inner (row_at r i) (ap other_sizes h.1) (rows_known whole.inner n)

pub rest_fits : (o : Option Extent) (r : Reference) (i : ℕ) → ArrayFits o r
    → ArrayFits (rest_extent o) (rest_from r i)
rest_fits None r i h = absurd h
rest_fits (Some whole) r i h =
    (first_size r.sizes - i, ap (λ z. (first_size r.sizes - i) ∷ other_sizes z) h.1, tt)

module _ (program : Program) where
  abbrev Fine : Outline → Reference → Type 0
  Fine l r = IsFine program l r

  pub line_cell : (l : Outline) (r : Reference) (size i : ℕ) → r.sizes ≡ size ∷ [] → Fine l r
      → i < first_size r.sizes → IsPlaceOf program l (cell_at r i)
  line_cell l r size i e f h =
      let inside = f.inside in
      let first : first_size r.sizes ≡ size = ap first_size e in
      let count : elements_in (size ∷ []) ≡ size = omega arith in
      let all : elements_in r.sizes ≡ size = ap elements_in e ∙ count in
      record { sizes = f.sizes; there = f.there; inside = omega (arith, inside, first, all, h) }

  pub line_character : (l : Outline) (r : Reference) (size i : ℕ) → r.sizes ≡ size ∷ [] → Fine l r
      → i < 4 * first_size r.sizes → IsPlaceOf program l (character_at r i)
  line_character l r size i e f h =
      let inside = f.inside in
      let first : first_size r.sizes ≡ size = ap first_size e in
      let count : elements_in (size ∷ []) ≡ size = omega arith in
      let all : elements_in r.sizes ≡ size = ap elements_in e ∙ count in
      record { sizes = f.sizes; there = f.there; inside = omega (arith, inside, first, all, h) }

  pub row_fine : (l : Outline) (r : Reference) (size i : ℕ) (inner : List ℕ) → r.sizes ≡ size ∷ inner
      → Fine l r → i < first_size r.sizes → Fine l (row_at r i)
  row_fine l r size i inner e f h =
      let inside = f.inside in
      let first : first_size r.sizes ≡ size = ap first_size e in
      let part = elements_in (other_sizes r.sizes) in
      let all : elements_in r.sizes ≡ size * part =
      ap elements_in e ∙ ap (λ z. size * elements_in (other_sizes z)) (sym e) in
      let next = suc-mul i part in
      let most = mul-le (suc i) part size part (omega (arith, first, h)) (omega arith) in
      record { sizes = f.sizes; there = f.there; inside = omega (arith, inside, all, next, most) }

  pub rest_fine : (l : Outline) (r : Reference) (size i : ℕ) → r.sizes ≡ size ∷ [] → Fine l r
      → i < first_size r.sizes → Fine l (rest_from r i)
  rest_fine l r size i e f h =
      let inside = f.inside in
      let first : first_size r.sizes ≡ size = ap first_size e in
      let count : elements_in (size ∷ []) ≡ size = omega arith in
      let all : elements_in r.sizes ≡ size = ap elements_in e ∙ count in
      let left = first_size r.sizes - i in
      let few : elements_in (left ∷ other_sizes r.sizes) ≡ left =
      ap (λ z. elements_in (left ∷ other_sizes z)) e ∙ (omega arith) in
      record { sizes = f.sizes; there = f.there; inside = omega (arith, inside, first, all, few, h) }

  pub single_cell : (l : Outline) (r : Reference) → r.sizes ≡ [] → Fine l r
      → IsPlaceOf program l (cell_at r 0)
  single_cell l r e f =
      let inside = f.inside in
      let one : elements_in r.sizes ≡ 1 = ap elements_in e in
      record { sizes = f.sizes; there = f.there; inside = omega (arith, inside, one) }

  -- ---- slots

  -- a parameter
  abbrev pub ParamFits : Outline → Slot → Drawn → Type 0
  ParamFits l ScalarSlot (Keeps sizes) = sizes ≡ 1 ∷ []
  ParamFits l ScalarSlot (Leads r) = ⊥
  ParamFits l ScalarSlot Blank = ⊥
  ParamFits l ReferenceSlot (Keeps sizes) = ⊥
  ParamFits l ReferenceSlot (Leads r) = (r.sizes ≡ []) × IsFine program l r
  ParamFits l ReferenceSlot Blank = ⊥
  ParamFits l (ArraySlot z) (Keeps sizes) = ⊥
  ParamFits l (ArraySlot z) (Leads r) = (r.sizes ≡ z) × IsFine program l r
  ParamFits l (ArraySlot z) Blank = ⊥
  ParamFits l (OpenSlot inner) (Keeps sizes) = ⊥
  ParamFits l (OpenSlot inner) (Leads r) =
      ((size : ℕ) × (r.sizes ≡ size ∷ inner)) × IsFine program l r
  ParamFits l (OpenSlot inner) Blank = ⊥

  -- a local
  abbrev pub LocalFits : Slot → Drawn → Type 0
  LocalFits ScalarSlot (Keeps sizes) = sizes ≡ 1 ∷ []
  LocalFits ScalarSlot (Leads r) = ⊥
  LocalFits ScalarSlot Blank = Unit {0}
  LocalFits ReferenceSlot (Keeps sizes) = ⊥
  LocalFits ReferenceSlot (Leads r) = ⊥
  LocalFits ReferenceSlot Blank = Unit {0}
  LocalFits (ArraySlot z) (Keeps sizes) = sizes ≡ z
  LocalFits (ArraySlot z) (Leads r) = ⊥
  LocalFits (ArraySlot z) Blank = Unit {0}
  LocalFits (OpenSlot inner) (Keeps sizes) = ⊥
  LocalFits (OpenSlot inner) (Leads r) = ⊥
  LocalFits (OpenSlot inner) Blank = Unit {0}

  pub record SlotIs (l : Outline) (params s : ℕ) (kind : Slot) (o : Option Drawn) : Type 0 where
    pub drawn : Drawn
    pub there : o ≡ Some drawn
    pub param : s < params → ParamFits l kind drawn
    pub local : params ≤ s → LocalFits kind drawn

  -- the frame that runs is one of this scope
  pub record Here (slots : List Slot) (params : ℕ) (made : List ℕ) (current : List Drawn)
      (outer : List (List Drawn)) (heap : List (List ℕ)) : Type 0 where
    pub typed : (s : ℕ) (kind : Slot) → slice_get slots s ≡ Some kind
        → SlotIs (lay current outer heap) params s kind (slice_get current s)
    pub owned : (s : ℕ) → IsIn s made → (sizes : List ℕ) × (slice_get current s ≡ Some (Keeps sizes))

  param_stays : (l k : Outline) (kind : Slot) (drawn : Drawn) → Stays program l k
      → ParamFits l kind drawn → ParamFits k kind drawn
  param_stays l k ScalarSlot (Keeps sizes) stays h = h
  param_stays l k ScalarSlot (Leads r) stays h = h
  param_stays l k ScalarSlot Blank stays h = h
  param_stays l k ReferenceSlot (Keeps sizes) stays h = h
  param_stays l k ReferenceSlot (Leads r) stays h = (h.0, fine_stays program l k r stays h.1)
  param_stays l k ReferenceSlot Blank stays h = h
  param_stays l k (ArraySlot z) (Keeps sizes) stays h = h
  param_stays l k (ArraySlot z) (Leads r) stays h = (h.0, fine_stays program l k r stays h.1)
  param_stays l k (ArraySlot z) Blank stays h = h
  param_stays l k (OpenSlot inner) (Keeps sizes) stays h = h
  param_stays l k (OpenSlot inner) (Leads r) stays h = (h.0, fine_stays program l k r stays h.1)
  param_stays l k (OpenSlot inner) Blank stays h = h

  slot_stays : (l k : Outline) (params s : ℕ) (kind : Slot) (o : Option Drawn) → Stays program l k
      → SlotIs l params s kind o → SlotIs k params s kind o
  slot_stays l k params s kind o stays h = record {
    drawn = h.drawn;
    there = h.there;
    param = λ below. param_stays l k kind h.drawn stays (h.param below);
    local = h.local;
  }

  -- with more temporary arguments
  pub here_stays : (slots : List Slot) (params : ℕ) (made : List ℕ) (current : List Drawn)
      (outer : List (List Drawn)) (heap more : List (List ℕ))
      → Stays program (lay current outer heap) (lay current outer more)
      → Here slots params made current outer heap → Here slots params made current outer more
  here_stays slots params made current outer heap more stays h = record {
    typed = λ s kind e.
        slot_stays (lay current outer heap) (lay current outer more) params s kind
        (slice_get current s) stays (h.typed s kind e);
    owned = h.owned;
  }

  -- with fewer slots in force
  pub here_weaker : (slots : List Slot) (params : ℕ) (made new : List ℕ) (current : List Drawn)
      (outer : List (List Drawn)) (heap : List (List ℕ)) → Here slots params (made ++ new) current outer heap
      → Here slots params made current outer heap
  here_weaker slots params made new current outer heap h = record {
    typed = h.typed;
    owned = λ s i. h.owned s (in_front s made new i);
  }

  -- ---- what slots in sight are

  keeps_one : (l : Outline) (drawn : Drawn) → ParamFits l ScalarSlot drawn → drawn ≡ Keeps (1 ∷ [])
  keeps_one l (Keeps sizes) h = ap Keeps h
  keeps_one l (Leads r) h = absurd h
  keeps_one l Blank h = absurd h

  local_one : (drawn : Drawn) (sizes : List ℕ) → Some drawn ≡ Some (Keeps sizes)
      → LocalFits ScalarSlot drawn → drawn ≡ Keeps (1 ∷ [])
  local_one (Keeps other) sizes e h = ap Keeps h
  local_one (Leads r) sizes e h = absurd h
  local_one Blank sizes e h = absurd (cc e)

  local_sizes : (drawn : Drawn) (sizes z : List ℕ) → Some drawn ≡ Some (Keeps sizes)
      → LocalFits (ArraySlot z) drawn → drawn ≡ Keeps z
  local_sizes (Keeps other) sizes z e h = ap Keeps h
  local_sizes (Leads r) sizes z e h = absurd h
  local_sizes Blank sizes z e h = absurd (cc e)

  no_param : (l : Outline) (drawn : Drawn) (sizes z : List ℕ) → Some drawn ≡ Some (Keeps sizes)
      → ParamFits l (ArraySlot z) drawn → drawn ≡ Keeps z
  no_param l (Keeps other) sizes z e h = absurd h
  no_param l (Leads r) sizes z e h = absurd (cc e)
  no_param l Blank sizes z e h = absurd (cc e)

  module _ (slots : List Slot) (params : ℕ) (made : List ℕ) (current : List Drawn)
      (outer : List (List Drawn)) (heap : List (List ℕ)) (here : Here slots params made current outer heap) where
    abbrev l : Outline
    l = lay current outer heap

    pub name_sizes : (s : ℕ) (sizes : List ℕ) → slice_get current s ≡ Some (Keeps sizes)
        → sizes_at program l (Local (length outer) s) ≡ Some sizes
    name_sizes s sizes e =
        ap (λ d. kept_in (drawn_in d s)) (innermost current outer) ∙ ap kept_in e

    pub own_cell : (s : ℕ) → slice_get slots s ≡ Some ScalarSlot → (s < params) ⊎ IsIn s made
        → slice_get current s ≡ Some (Keeps (1 ∷ []))
    own_cell s e (inl h) =
        let it = here.typed s ScalarSlot e in it.there ∙ ap Some (keeps_one l it.drawn (it.param h))
    own_cell s e (inr h) = by (cases_lt s params) where
      by : (s < params) ⊎ (params ≤ s) → slice_get current s ≡ Some (Keeps (1 ∷ []))
      by (inl h) =
          let it = here.typed s ScalarSlot e in
          it.there ∙ ap Some (keeps_one l it.drawn (it.param h))
      by (inr k) =
          let it = here.typed s ScalarSlot e in
          let own = here.owned s h in
          it.there ∙ ap Some (local_one it.drawn own.0 (sym it.there ∙ own.1) (it.local k))

    pub own_array : (s : ℕ) (z : List ℕ) → slice_get slots s ≡ Some (ArraySlot z) → IsIn s made
        → slice_get current s ≡ Some (Keeps z)
    own_array s z e h = by (cases_lt s params) where
      by : (s < params) ⊎ (params ≤ s) → slice_get current s ≡ Some (Keeps z)
      by (inl k) =
          let it = here.typed s (ArraySlot z) e in
          let own = here.owned s h in
          it.there ∙ ap Some (no_param l it.drawn own.0 z (sym it.there ∙ own.1) (it.param k))
      by (inr k) =
          let it = here.typed s (ArraySlot z) e in
          let own = here.owned s h in
          it.there ∙ ap Some (local_sizes it.drawn own.0 z (sym it.there ∙ own.1) (it.local k))

    pub led : (s : ℕ) (kind : Slot) → slice_get slots s ≡ Some kind → s < params → ¬ (kind ≡ ScalarSlot)
        → (r : Reference) × (slice_get current s ≡ Some (Leads r)) × ParamFits l kind (Leads r)
    led s kind e h n =
        let it = here.typed s kind e in by kind it.drawn it.there (it.param h) n where
          by : (kind : Slot) (drawn : Drawn) → slice_get current s ≡ Some drawn → ParamFits l kind drawn
              → ¬ (kind ≡ ScalarSlot)
              → (r : Reference) × (slice_get current s ≡ Some (Leads r)) × ParamFits l kind (Leads r)
          by ScalarSlot drawn e f n = absurd (n refl)
          by ReferenceSlot (Keeps sizes) e f n = absurd f
          by ReferenceSlot (Leads r) e f n = (r, e, f)
          by ReferenceSlot Blank e f n = absurd f
          by (ArraySlot z) (Keeps sizes) e f n = absurd f
          by (ArraySlot z) (Leads r) e f n = (r, e, f)
          by (ArraySlot z) Blank e f n = absurd f
          by (OpenSlot inner) (Keeps sizes) e f n = absurd f
          by (OpenSlot inner) (Leads r) e f n = (r, e, f)
          by (OpenSlot inner) Blank e f n = absurd f

    -- ---- a slot is made

    module _ (s : ℕ) (kind : Slot) (sizes : List ℕ) (is : slice_get slots s ≡ Some kind)
        (behind : params ≤ s) (fits : LocalFits kind (Keeps sizes)) where
      abbrev next : List Drawn
      next = slice_set current s (Keeps sizes)

      pub within : s < length current
      within = let it = here.typed s kind is in slice_get_within current s it.drawn it.there

      same_sizes : (kind : Slot) (drawn : Drawn) (z : List ℕ) → LocalFits kind drawn
          → LocalFits kind (Keeps sizes) → drawn ≡ Keeps z → z ≡ sizes
      same_sizes ScalarSlot (Keeps other) z h f e =
          let same : other ≡ z = cc e in sym same ∙ h ∙ sym f
      same_sizes ScalarSlot (Leads r) z h f e = absurd h
      same_sizes ScalarSlot Blank z h f e = absurd (cc e)
      same_sizes ReferenceSlot drawn z h f e = absurd f
      same_sizes (ArraySlot y) (Keeps other) z h f e =
          let same : other ≡ z = cc e in sym same ∙ h ∙ sym f
      same_sizes (ArraySlot y) (Leads r) z h f e = absurd h
      same_sizes (ArraySlot y) Blank z h f e = absurd (cc e)
      same_sizes (OpenSlot inner) drawn z h f e = absurd f

      kept_some : (o : Option Drawn) (z : List ℕ) → kept_in o ≡ Some z → o ≡ Some (Keeps z)
      kept_some None z e = absurd (cc e)
      kept_some (Some (Keeps y)) z e = let same : y ≡ z = cc e in ap (λ q. Some (Keeps q)) same
      kept_some (Some (Leads r)) z e = absurd (cc e)
      kept_some (Some Blank) z e = absurd (cc e)

      kept_next : (t : ℕ) (z : List ℕ) → kept_in (slice_get current t) ≡ Some z
          → kept_in (slice_get next t) ≡ Some z
      kept_next t z e = by (got_set current s t (Keeps sizes) within) where
        by : ((s ≡ t) × (slice_get next t ≡ Some (Keeps sizes))) ⊎ ((¬ (s ≡ t)) × (slice_get next t ≡ slice_get current t))
            → kept_in (slice_get next t) ≡ Some z
        by (inl i) =
            let it = here.typed s kind is in
            let was : slice_get current s ≡ Some (Keeps z) =
            ap (slice_get current) i.0 ∙ kept_some (slice_get current t) z e in
            let same : it.drawn ≡ Keeps z = cc (it.there, was) in
            ap kept_in i.1 ∙ ap Some (sym (same_sizes kind it.drawn z (it.local behind) fits same))
        by (inr i) = ap kept_in i.1 ∙ e

      local_next : (b : Bool) (o : Option (List Drawn)) (t : ℕ) (z : List ℕ)
          → kept_in (drawn_in (if b then Some current else o) t) ≡ Some z
          → kept_in (drawn_in (if b then Some next else o) t) ≡ Some z
      local_next true o t z e = kept_next t z e
      local_next false o t z e = e

      pub made_stays : Stays program l (lay next outer heap)
      made_stays (Static o) z e = e
      made_stays (Local below t) z e = local_next (length outer == below) (frame_in outer below) t z e
      made_stays (Temporary n) z e = e

      typed_next : (t : ℕ) (other : Slot) → slice_get slots t ≡ Some other
          → SlotIs (lay next outer heap) params t other (slice_get next t)
      typed_next t other e = by (got_set current s t (Keeps sizes) within) where
        by : ((s ≡ t) × (slice_get next t ≡ Some (Keeps sizes))) ⊎ ((¬ (s ≡ t)) × (slice_get next t ≡ slice_get current t))
            → SlotIs (lay next outer heap) params t other (slice_get next t)
        by (inl i) =
            let same : kind ≡ other = cc (is, e, i.0) in
            let at = i.0 in
            record {
              drawn = Keeps sizes;
              there = i.1;
              param = λ h. absurd (omega (arith, h, at, behind));
              local = λ h. subst (λ k. LocalFits k (Keeps sizes)) same fits;
            }
        by (inr i) =
            subst (λ o. SlotIs (lay next outer heap) params t other o) (sym i.1)
            (slot_stays l (lay next outer heap) params t other (slice_get current t) made_stays
            (here.typed t other e))

      owned_next : (t : ℕ) → IsIn t made ⊎ (s ≡ t)
          → (z : List ℕ) × (slice_get next t ≡ Some (Keeps z))
      owned_next t i = by i (got_set current s t (Keeps sizes) within) where
        by : IsIn t made ⊎ (s ≡ t)
            → ((s ≡ t) × (slice_get next t ≡ Some (Keeps sizes))) ⊎ ((¬ (s ≡ t)) × (slice_get next t ≡ slice_get current t))
            → (z : List ℕ) × (slice_get next t ≡ Some (Keeps z))
        by i (inl e) = (sizes, e.1)
        by (inl i) (inr e) = let own = here.owned t i in (own.0, e.1 ∙ own.1)
        by (inr i) (inr e) = absurd (e.0 i)

      pub here_made : Here slots params (made ++ s ∷ []) next outer heap
      here_made = record {
        typed = typed_next;
        owned = λ t i. owned_next t (in_last t s made i);
      }
