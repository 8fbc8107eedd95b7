-- A function begins in a frame that holds its arguments.
use Rattle.std.proofs.Common.{◌≡◌, ◌∙◌, ◌⊎◌, ◌++◌, ◌<◌, ◌≤◌, ◌==◌, ℕ, zero, suc}
use Rattle.std.proofs.Common.{List, []}
use Rattle.std.proofs.Common.{◌∷◌, Bool, true, false, Option, None, Some}
use Rattle.std.proofs.Common.{length, slice_get}
use Rattle.std.proofs.Common.{take, map, replicate, refl, sym, ap, subst, arith, inl, inr}
use Rattle.std.proofs.Common.{if◌then◌else◌, ◌+◌, ◌-◌}
use Rattle.std.proofs.lemmas.Bool.{cases_lt, eqb-true}
use Rattle.std.proofs.lemmas.List.{length-map}
use Rattle.std.proofs.lemmas.Option.{slice_get_within}
use Rattle.pawn_meaning.specs.Program.{Slot, Body}
use Rattle.pawn_meaning.specs.Program.{Program}
use Rattle.pawn_meaning.specs.Program.{ScalarSlot, ReferenceSlot, ArraySlot, OpenSlot}
use Rattle.pawn_meaning.specs.Memory as memory
use Rattle.pawn_meaning.specs.Memory.{Static}
use Rattle.pawn_meaning.specs.Memory.{Unmade}
use Rattle.pawn_meaning.specs.Natives.{Held, Value, Refers}
use Rattle.pawn_meaning.specs.Calls.{held_in_slot}
use Rattle.pawn_meaning.specs.Valid.{IsValidBody}
use Rattle.meaning_laws.proofs.Outlines.{Each, Drawn, Keeps, Leads, Blank, HoldsIs}
use Rattle.meaning_laws.proofs.Outlines.{Outline, frame_in, drawn_in, kept_in}
use Rattle.meaning_laws.proofs.Accesses as found
use Rattle.meaning_laws.proofs.Accesses.{lay, IsFine, Stays}
use Rattle.meaning_laws.proofs.Typings.{ParamFits, LocalFits}
use Rattle.meaning_laws.proofs.Typings.{SlotIs, Here}

taken_get : {X : Type 0} (xs : List X) (n i : ℕ) → i < n → slice_get (take n xs) i ≡ slice_get xs i
taken_get xs zero i h = absurd (omega (arith, h))
taken_get [] (suc n) i h = refl
taken_get (x ∷ xs) (suc n) zero h = refl
taken_get (x ∷ xs) (suc n) (suc i) h = taken_get xs n i (omega (arith, h))

blank_at : {X : Type 0} (xs : List X) (x : X) (n i : ℕ) → length xs ≤ i → i < length xs + n
    → slice_get (xs ++ replicate n x) i ≡ Some x
blank_at [] x zero i h k = absurd (omega (arith, k))
blank_at [] x (suc n) zero h k = refl
blank_at [] x (suc n) (suc i) h k = blank_at [] x n i (omega arith) (omega (arith, k))
blank_at (y ∷ xs) x n zero h k = absurd (omega (arith, h))
blank_at (y ∷ xs) x n (suc i) h k = blank_at xs x n i (omega (arith, h)) (omega (arith, k))

-- ---- what a function is called with

abbrev pub drawn_held : Held → Drawn
drawn_held (Value v) = Keeps (1 ∷ [])
drawn_held (Refers r) = Leads r

abbrev pub drawn_of : List Held → ℕ → List Drawn
drawn_of held n = map drawn_held held ++ replicate n Blank

blanks_are : (n : ℕ) → Each HoldsIs (replicate n Blank) (replicate n Unmade)
blanks_are zero = tt
blanks_are (suc n) = (tt, blanks_are n)

pub drawn_is : (held : List Held) (n : ℕ)
    → Each HoldsIs (drawn_of held n) (map held_in_slot held ++ replicate n Unmade)
drawn_is [] n = blanks_are n
drawn_is (Value v ∷ held) n = ((refl, refl), drawn_is held n)
drawn_is (Refers r ∷ held) n = (refl, drawn_is held n)

module _ (program : Program) where
  -- an argument is of a parameter's kind
  abbrev pub HeldFits : Outline → Slot → Held → Type 0
  HeldFits l ScalarSlot (Value v) = Unit {0}
  HeldFits l ScalarSlot (Refers r) = ⊥
  HeldFits l ReferenceSlot (Value v) = ⊥
  HeldFits l ReferenceSlot (Refers r) = (r.sizes ≡ []) × IsFine program l r
  HeldFits l (ArraySlot z) (Value v) = ⊥
  HeldFits l (ArraySlot z) (Refers r) = (r.sizes ≡ z) × IsFine program l r
  HeldFits l (OpenSlot inner) (Value v) = ⊥
  HeldFits l (OpenSlot inner) (Refers r) =
      ((size : ℕ) × (r.sizes ≡ size ∷ inner)) × IsFine program l r

  abbrev pub AllFit : Outline → List Slot → List Held → Type 0
  AllFit l [] [] = Unit {0}
  AllFit l [] (held ∷ others) = ⊥
  AllFit l (kind ∷ kinds) [] = ⊥
  AllFit l (kind ∷ kinds) (held ∷ others) = HeldFits l kind held × AllFit l kinds others

  all_count : (l : Outline) (kinds : List Slot) (held : List Held) → AllFit l kinds held
      → length kinds ≡ length held
  all_count l [] [] h = refl
  all_count l [] (it ∷ held) h = absurd h
  all_count l (kind ∷ kinds) [] h = absurd h
  all_count l (kind ∷ kinds) (it ∷ held) h = ap suc (all_count l kinds held h.1)

  below_by : (frame : List Drawn) (frames : List (List Drawn)) (below : ℕ) (d : List Drawn) (b : Bool)
      → (length frames == below) ≡ b → (frame_in frames below ≡ Some d → below < length frames)
      → (if b then Some frame else frame_in frames below) ≡ Some d → below < length (frame ∷ frames)
  below_by frame frames below d true same less e =
      let is = eqb-true (length frames) below same in omega (arith, is)
  below_by frame frames below d false same less e = let it = less e in omega (arith, it)

  frame_below : (frames : List (List Drawn)) (below : ℕ) (d : List Drawn)
      → frame_in frames below ≡ Some d → below < length frames
  frame_below [] below d e = absurd (cc e)
  frame_below (frame ∷ frames) below d e =
      below_by frame frames below d (length frames == below) refl (frame_below frames below d) e

  enters_by : (frames : List (List Drawn)) (drawn : List Drawn) (below s : ℕ) (z : List ℕ) (b : Bool)
      → (length frames == below) ≡ b → (o : Option (List Drawn)) → frame_in frames below ≡ o
      → kept_in (drawn_in o s) ≡ Some z → kept_in (drawn_in (if b then Some drawn else o) s) ≡ Some z
  enters_by frames drawn below s z false same o e h = h
  enters_by frames drawn below s z true same None e h = absurd (cc h)
  enters_by frames drawn below s z true same (Some d) e h =
      let is = eqb-true (length frames) below same in
      let less = frame_below frames below d e in
      absurd (omega (arith, is, less))

  -- objects stay where a frame is entered
  enters_stay : (l : Outline) (drawn : List Drawn)
      → Stays program l (lay drawn l.frames l.heap)
  enters_stay l drawn (Static o) z e = e
  enters_stay l drawn (memory.Local below s) z e =
      enters_by l.frames drawn below s z (length l.frames == below) refl (frame_in l.frames below) refl e
  enters_stay l drawn (memory.Temporary n) z e = e

  param_held : (l k : Outline) (kind : Slot) (held : Held) → Stays program l k
      → HeldFits l kind held → ParamFits program k kind (drawn_held held)
  param_held l k ScalarSlot (Value v) stays h = refl
  param_held l k ScalarSlot (Refers r) stays h = absurd h
  param_held l k ReferenceSlot (Value v) stays h = absurd h
  param_held l k ReferenceSlot (Refers r) stays h =
      (h.0, found.fine_stays program l k r stays h.1)
  param_held l k (ArraySlot z) (Value v) stays h = absurd h
  param_held l k (ArraySlot z) (Refers r) stays h =
      (h.0, found.fine_stays program l k r stays h.1)
  param_held l k (OpenSlot inner) (Value v) stays h = absurd h
  param_held l k (OpenSlot inner) (Refers r) stays h =
      (h.0, found.fine_stays program l k r stays h.1)

  param_drawn : (l k : Outline) (kinds : List Slot) (held : List Held) (n s : ℕ) (kind : Slot)
      → Stays program l k → AllFit l kinds held → slice_get kinds s ≡ Some kind
      → (drawn : Drawn) × (slice_get (drawn_of held n) s ≡ Some drawn)
      × ParamFits program k kind drawn
  param_drawn l k [] held n s kind stays h e = absurd (cc e)
  param_drawn l k (other ∷ kinds) [] n s kind stays h e = absurd h
  param_drawn l k (other ∷ kinds) (it ∷ held) n zero kind stays h e =
      let same : other ≡ kind = cc e in (
        drawn_held it,
        refl,
        param_held l k kind it stays (subst (λ z. HeldFits l z it) same h.0),
      )
  param_drawn l k (other ∷ kinds) (it ∷ held) n (suc s) kind stays h e =
      param_drawn l k kinds held n s kind stays h.1 e

  local_blank : (kind : Slot) → LocalFits program kind Blank
  local_blank ScalarSlot = tt
  local_blank ReferenceSlot = tt
  local_blank (ArraySlot z) = tt
  local_blank (OpenSlot inner) = tt

  -- in a frame that begins the parameters are in sight
  begins_typed : (l : Outline) (params : List Slot) (body : Body) (held : List Held)
      → IsValidBody program params body → AllFit l params held
      → (s : ℕ) (kind : Slot) → slice_get body.slots s ≡ Some kind
      → (s < length params) ⊎ (length params ≤ s)
      → SlotIs program
      (lay (drawn_of held (length body.slots - length held)) l.frames l.heap) (length params) s kind
      (slice_get (drawn_of held (length body.slots - length held)) s)
  begins_typed l params body held it fits s kind e (inl h) =
      let drawn = drawn_of held (length body.slots - length held) in
      let here : slice_get params s ≡ Some kind =
      ap (λ z. slice_get z s) (sym it.begins) ∙ taken_get body.slots (length params) s h ∙ e in
      let at =
      param_drawn l (lay drawn l.frames l.heap) params held (length body.slots - length held) s kind
      (enters_stay l drawn) fits here in
      record {
        drawn = at.0;
        there = at.1;
        param = λ k. at.2;
        local = λ k. absurd (omega (arith, h, k));
      }
  begins_typed l params body held it fits s kind e (inr h) =
      let inside = slice_get_within body.slots s kind e in
      let same = all_count l params held fits in
      let long = length-map held drawn_held in
      record {
        drawn = Blank;
        there = blank_at (map drawn_held held) Blank (length body.slots - length held) s
            (omega (arith, h, same, long)) (omega (arith, inside, h, same, long));
        param = λ k. absurd (omega (arith, h, k));
        local = λ k. local_blank kind;
      }

  pub begins_here : (l : Outline) (params : List Slot) (body : Body) (held : List Held)
      → IsValidBody program params body → AllFit l params held
      → Here program body.slots (length params) []
      (drawn_of held (length body.slots - length held)) l.frames l.heap
  begins_here l params body held it fits = record {
    typed = λ s kind e. begins_typed l params body held it fits s kind e (cases_lt s (length params));
    owned = λ s i. absurd i;
  }
