-- What places, arrays and arguments are in a frame of a scope.
use Rattle.std.proofs.Common.{◌≡◌, ◌∙◌, ◌⊎◌, ◌++◌, ◌<◌, ℕ}
use Rattle.std.proofs.Common.{List, []}
use Rattle.std.proofs.Common.{◌∷◌, Bool, true, false, Option, None, Some, IsSome}
use Rattle.std.proofs.Common.{slice_get}
use Rattle.std.proofs.Common.{refl, sym, ap, subst, inl, inr}
use Rattle.std.proofs.Common.{append-nil}
use Rattle.std.proofs.Common.{append_assoc}
use Rattle.pawn_meaning.specs.Program.{Scalar, Array}
use Rattle.pawn_meaning.specs.Program.{Arg, Ref, Whole, Temp, Args, no_args}
use Rattle.pawn_meaning.specs.Program.{then_arg}
use Rattle.pawn_meaning.specs.Program.{Slot}
use Rattle.pawn_meaning.specs.Program.{Program}
use Rattle.pawn_meaning.specs.Program.{ScalarSlot, ReferenceSlot, ArraySlot, OpenSlot}
use Rattle.pawn_meaning.specs.Program as node
use Rattle.pawn_meaning.specs.Memory.{Reference, Place}
use Rattle.pawn_meaning.specs.Natives.{Held, Value, Refers}
use Rattle.pawn_meaning.specs.Scope.{Scope, extent}
use Rattle.pawn_meaning.specs.Scope.{param_extent}
use Rattle.pawn_meaning.specs.Scope.{IsInSight}
use Rattle.pawn_meaning.specs.ValidExprs.{IsNoChar, ArgAgrees}
use Rattle.pawn_meaning.specs.ValidExprs.{ArgsAgree}
use Rattle.meaning_laws.proofs.Outlines.{Drawn, Leads}
use Rattle.meaning_laws.proofs.Outlines.{Outline}
use Rattle.meaning_laws.proofs.Accesses as found
use Rattle.meaning_laws.proofs.Accesses.{lay, grown, IsFine, IsPlaceOf, Stays}
use Rattle.meaning_laws.proofs.NativeFinds.{HeldFine, AllFine}
use Rattle.meaning_laws.proofs.Typings.{IsIn, is_in, ArrayFits, known_fits, known_sizes}
use Rattle.meaning_laws.proofs.Typings.{inner_sizes}
use Rattle.meaning_laws.proofs.Typings.{Here}
use Rattle.meaning_laws.proofs.Typings.{led}
use Rattle.meaning_laws.proofs.ValidParts.{scope}
use Rattle.meaning_laws.proofs.Entries as entries
use Rattle.meaning_laws.proofs.Steps.{IsACell, SingleIn}

module _ (program : Program) (slots : List Slot) (params : ℕ) (made : List ℕ)
    (current : List Drawn) (outer : List (List Drawn)) where
  abbrev pub here_scope : Scope
  here_scope = scope program slots params made

  abbrev pub at_heap : List (List ℕ) → Outline
  at_heap heap = lay current outer heap

  abbrev pub IsHere : List (List ℕ) → Type 0
  IsHere heap = Here program slots params made current outer heap

  abbrev pub IsSingle : Outline → Held → Type 0
  IsSingle l held = SingleIn program l held

  abbrev HeldFits : Outline → Slot → Held → Type 0
  HeldFits l kind held = entries.HeldFits program l kind held

  abbrev AllFit : Outline → List Slot → List Held → Type 0
  AllFit l kinds held = entries.AllFit program l kinds held

  -- what a place is
  abbrev pub PlaceIs : Outline → Scalar → Place → Type 0
  PlaceIs l p at = IsPlaceOf program l at × (IsNoChar p → IsACell at)

  -- and an array
  abbrev pub PartIs : Outline → Array → Reference → Type 0
  PartIs l a r = ArrayFits (extent here_scope a) r × IsFine program l r

  -- and an argument
  abbrev pub HeldBy : Outline → Arg → Held → Type 0
  HeldBy l (node.Value e) (Value v) = Unit {0}
  HeldBy l (node.Value e) (Refers r) = ⊥
  HeldBy l (Ref p) held = IsSingle l held
  HeldBy l (Whole a) (Value v) = ⊥
  HeldBy l (Whole a) (Refers r) = PartIs l a r
  HeldBy l (Temp e) held = IsSingle l held

  abbrev pub HeldsBy : Outline → Args → List Held → Type 0
  HeldsBy l no_args [] = Unit {0}
  HeldsBy l no_args (held ∷ others) = ⊥
  HeldsBy l (then_arg a args) [] = ⊥
  HeldsBy l (then_arg a args) (held ∷ others) = HeldBy l a held × HeldsBy l args others

  -- the temporary arguments behind an argument
  abbrev pub after_arg : Arg → List (List ℕ) → List (List ℕ)
  after_arg (node.Value e) heap = heap
  after_arg (Ref p) heap = heap
  after_arg (Whole a) heap = heap
  after_arg (Temp e) heap = grown heap

  abbrev pub after_args : Args → List (List ℕ) → List (List ℕ)
  after_args no_args heap = heap
  after_args (then_arg a args) heap = after_arg a (after_args args heap)

  pub arg_more : (a : Arg) (heap : List (List ℕ))
      → (more : List (List ℕ)) × (after_arg a heap ≡ heap ++ more)
  arg_more (node.Value e) heap = ([], sym (append-nil heap))
  arg_more (Ref p) heap = ([], sym (append-nil heap))
  arg_more (Whole a) heap = ([], sym (append-nil heap))
  arg_more (Temp e) heap = ((1 ∷ []) ∷ [], refl)

  pub args_more : (args : Args) (heap : List (List ℕ))
      → (more : List (List ℕ)) × (after_args args heap ≡ heap ++ more)
  args_more no_args heap = ([], sym (append-nil heap))
  args_more (then_arg a args) heap =
      let others = args_more args heap in
      let first = arg_more a (after_args args heap) in (
        others.0 ++ first.0,
        first.1 ∙ ap (λ z. z ++ first.0) others.1 ∙ append_assoc heap others.0 first.0,
      )

  pub stays_by : (heap other more : List (List ℕ)) → other ≡ heap ++ more
      → Stays program (at_heap heap) (at_heap other)
  stays_by heap other more e =
      subst (λ z. Stays program (at_heap heap) (at_heap z)) (sym e)
      (found.more_stays program (at_heap heap) more)

  single_stays : (l k : Outline) (held : Held) → Stays program l k → IsSingle l held
      → IsSingle k held
  single_stays l k (Value v) stays h = absurd h
  single_stays l k (Refers r) stays h = (h.0, found.fine_stays program l k r stays h.1)

  held_stays : (l k : Outline) (a : Arg) (held : Held) → Stays program l k → HeldBy l a held
      → HeldBy k a held
  held_stays l k (node.Value e) (Value v) stays h = h
  held_stays l k (node.Value e) (Refers r) stays h = absurd h
  held_stays l k (Ref p) held stays h = single_stays l k held stays h
  held_stays l k (Whole a) (Value v) stays h = absurd h
  held_stays l k (Whole a) (Refers r) stays h =
      (h.0, found.fine_stays program l k r stays h.1)
  held_stays l k (Temp e) held stays h = single_stays l k held stays h

  pub helds_stay : (l k : Outline) (args : Args) (all : List Held) → Stays program l k
      → HeldsBy l args all → HeldsBy k args all
  helds_stay l k no_args [] stays h = h
  helds_stay l k no_args (held ∷ all) stays h = absurd h
  helds_stay l k (then_arg a args) [] stays h = absurd h
  helds_stay l k (then_arg a args) (held ∷ all) stays h =
      (held_stays l k a held stays h.0, helds_stay l k args all stays h.1)

  single_fine : (l : Outline) (held : Held) → IsSingle l held → HeldFine program l held
  single_fine l (Value v) h = absurd h
  single_fine l (Refers r) h = h.1

  held_fine : (l : Outline) (a : Arg) (held : Held) → HeldBy l a held
      → HeldFine program l held
  held_fine l (node.Value e) (Value v) h = tt
  held_fine l (node.Value e) (Refers r) h = absurd h
  held_fine l (Ref p) held h = single_fine l held h
  held_fine l (Whole a) (Value v) h = absurd h
  held_fine l (Whole a) (Refers r) h = h.1
  held_fine l (Temp e) held h = single_fine l held h

  pub helds_fine : (l : Outline) (args : Args) (all : List Held) → HeldsBy l args all
      → AllFine program l all
  helds_fine l no_args [] h = tt
  helds_fine l no_args (held ∷ all) h = absurd h
  helds_fine l (then_arg a args) [] h = absurd h
  helds_fine l (then_arg a args) (held ∷ all) h =
      (held_fine l a held h.0, helds_fine l args all h.1)

  single_fits : (l : Outline) (held : Held) → IsSingle l held → HeldFits l ReferenceSlot held
  single_fits l (Value v) h = absurd h
  single_fits l (Refers r) h = h

  held_fits : (l : Outline) (kind : Slot) (a : Arg) (held : Held)
      → ArgAgrees here_scope kind a → HeldBy l a held → HeldFits l kind held
  held_fits l ScalarSlot (node.Value e) (Value v) g h = tt
  held_fits l ScalarSlot (node.Value e) (Refers r) g h = absurd h
  held_fits l ScalarSlot (Ref p) held g h = absurd g
  held_fits l ScalarSlot (Whole a) held g h = absurd g
  held_fits l ScalarSlot (Temp e) held g h = absurd g
  held_fits l ReferenceSlot (node.Value e) held g h = absurd g
  held_fits l ReferenceSlot (Ref p) held g h = single_fits l held h
  held_fits l ReferenceSlot (Whole a) held g h = absurd g
  held_fits l ReferenceSlot (Temp e) held g h = single_fits l held h
  held_fits l (ArraySlot z) (node.Value e) held g h = absurd g
  held_fits l (ArraySlot z) (Ref p) held g h = absurd g
  held_fits l (ArraySlot z) (Whole a) (Value v) g h = absurd h
  held_fits l (ArraySlot z) (Whole a) (Refers r) g h =
      (known_sizes (extent here_scope a) z r g h.0, h.1)
  held_fits l (ArraySlot z) (Temp e) held g h = absurd g
  held_fits l (OpenSlot inner) (node.Value e) held g h = absurd g
  held_fits l (OpenSlot inner) (Ref p) held g h = absurd g
  held_fits l (OpenSlot inner) (Whole a) (Value v) g h = absurd h
  held_fits l (OpenSlot inner) (Whole a) (Refers r) g h =
      (inner_sizes inner (extent here_scope a) r g h.0, h.1)
  held_fits l (OpenSlot inner) (Temp e) held g h = absurd g

  pub helds_fit : (l : Outline) (kinds : List Slot) (args : Args) (all : List Held)
      → ArgsAgree here_scope kinds args → HeldsBy l args all → AllFit l kinds all
  helds_fit l [] no_args [] g h = tt
  helds_fit l [] no_args (held ∷ all) g h = absurd h
  helds_fit l [] (then_arg a args) all g h = absurd g
  helds_fit l (kind ∷ kinds) no_args all g h = absurd g
  helds_fit l (kind ∷ kinds) (then_arg a args) [] g h = absurd h
  helds_fit l (kind ∷ kinds) (then_arg a args) (held ∷ all) g h =
      (held_fits l kind a held g.0 h.0, helds_fit l kinds args all g.1 h.1)

  pub in_sight : (s : ℕ) → IsInSight here_scope s → (s < params) ⊎ IsIn s made
  in_sight s (inl h) = inl h
  in_sight s (inr h) = inr (is_in s made h)

  -- the array of a parameter
  pub param_is : (heap : List (List ℕ)) → IsHere heap → (s : ℕ) (it : Option Slot)
      → slice_get slots s ≡ it → (known : Bool) → IsSome (param_extent it known) → s < params
      → (r : Reference) × (slice_get current s ≡ Some (Leads r))
      × ArrayFits (param_extent it known) r × IsFine program (at_heap heap) r
  param_is heap here s None e known h less = absurd (cc h)
  param_is heap here s (Some ScalarSlot) e known h less = absurd (cc h)
  param_is heap here s (Some ReferenceSlot) e known h less = absurd (cc h)
  param_is heap here s (Some (ArraySlot z)) e true h less =
      let it =
      led program slots params made current outer heap here s (ArraySlot z) e less
      (λ i. absurd (cc i)) in
      (it.0, it.1, known_fits z it.0 it.2.0 h, it.2.1)
  param_is heap here s (Some (ArraySlot z)) e false h less = absurd (cc h)
  param_is heap here s (Some (OpenSlot inner)) e true h less = absurd (cc h)
  param_is heap here s (Some (OpenSlot inner)) e false h less =
      let it =
      led program slots params made current outer heap here s (OpenSlot inner) e less
      (λ i. absurd (cc i)) in
      (it.0, it.1, (it.2.0.0, it.2.0.1, tt), it.2.1)
