-- The arguments of a call, each at its parameter, are valid and of the parameters' kinds.
use Rattle.std.proofs.Common.{◌≡◌, ◌+◌, ℕ, zero, suc, List, [], ◌∷◌, ◌++◌, Option, None, Some, refl}
use Rattle.std.proofs.Common.{sym, subst}
use Rattle.std.specs.Prelude.{pos, map, slice_get, slice_set}
use Rattle.pawn_tree.specs.declared.name.At.{At}
use Rattle.pawn_cells.specs.Cells.{IsCell}
use Rattle.pawn_meaning.specs.Program.{Arg, Slot}
use Rattle.pawn_meaning.specs.Scope as program
use Rattle.pawn_meaning.specs.ValidExprs.{ArgAgrees, IsValidArg}
use Rattle.types_rules.specs.Rule.{thread}
use Rattle.types_rules.specs.Typed.{Typed}
use Rattle.types_rules.specs.Around.{Around, Head, Param}
use Rattle.types_rules.proofs.VerdictLaws.{Holds, stands_itself, breaks_holds, holds_after}
use Rattle.types_rules.specs.Given.{Given, rest_rule}
use Rattle.types_rules.specs.Filling.{Offer, Positional, Skipped, Filling}
use Rattle.types_rules.specs.Filling.{Filled, Argument, Default}
use Rattle.types_rules.specs.Filling.{nothing_filled, put_in, put, for_param, for_rest, positional}
use Rattle.types_rules.specs.Filling.{skipped_rest, skipped, named_param, named, number_of_param}
use Rattle.types_rules.specs.Filling.{offer_step, fill, Argued, in_slot}
use Rattle.types_rules.specs.Filling as filling
use Rattle.types_laws.specs.Known.{slot_of, KnowsAround}
use Rattle.types_laws.proofs.BasicLaws.{Sound}
use Rattle.types_laws.proofs.GivenLaws.{SoundGiven, given_sound, rest_valid}

-- an argument in its slot
pub record SoundArgued (scope : program.Scope) (slot : Slot) (it : Argued) : Type 0 where
  pub valid : IsValidArg scope it.code
  pub agrees : ArgAgrees scope slot it.code
  pub size : IsCell (pos it.size)

sound_in_slot : (scope : program.Scope) (slot : Slot) (given : Given) → SoundGiven scope slot given
    → SoundArgued scope slot (in_slot given)
sound_in_slot scope slot given g = record { valid = g.valid; agrees = g.agrees; size = g.size }

abbrev pub IsFilled : program.Scope → Param → Option Filled → Type 0
IsFilled scope param None = Unit {0}
IsFilled scope param (Some (Argument it)) = SoundArgued scope (slot_of param) it
IsFilled scope param (Some Default) = Unit {0}

abbrev pub AreFilled : program.Scope → List Param → List (Option Filled) → Type 0
AreFilled scope [] [] = Unit {0}
AreFilled scope [] (it ∷ more) = ⊥
AreFilled scope (param ∷ params) [] = Unit {0}
AreFilled scope (param ∷ params) (it ∷ more) =
    IsFilled scope param it × AreFilled scope params more

abbrev pub AreValidRest : program.Scope → List Arg → Type 0
AreValidRest scope [] = Unit {0}
AreValidRest scope (arg ∷ more) = IsValidArg scope arg × AreValidRest scope more

pub record SoundFilling (scope : program.Scope) (head : Head) (done : Filling) : Type 0 where
  pub slots : AreFilled scope head.params done.slots
  pub rest : AreValidRest scope done.rest
  pub no_rest : head.rest ≡ None → done.rest ≡ []

record SoundSlots (scope : program.Scope) (params : List Param) (slots : List (Option Filled))
    : Type 0 where
  pub filled : AreFilled scope params slots

abbrev pub IsSoundOffer : program.Scope → Offer → Type 0
IsSoundOffer scope (Positional x) = Sound scope x
IsSoundOffer scope Skipped = Unit {0}
IsSoundOffer scope (filling.Named name x) = Sound scope x

abbrev pub AreSoundOffers : program.Scope → List Offer → Type 0
AreSoundOffers scope [] = Unit {0}
AreSoundOffers scope (it ∷ more) = IsSoundOffer scope it × AreSoundOffers scope more

-- ---- slots

none_filled : (scope : program.Scope) (params : List Param)
    → AreFilled scope params (map (λ param. None) params)
none_filled scope [] = tt
none_filled scope (param ∷ params) = (tt, none_filled scope params)

set_filled : (scope : program.Scope) (params : List Param) (slots : List (Option Filled)) (i : ℕ)
    (param : Param) (it : Filled) → slice_get params i ≡ Some param
    → IsFilled scope param (Some it) → AreFilled scope params slots
    → AreFilled scope params (slice_set slots i (Some it))
set_filled scope [] slots i param it e f h = absurd (let no : ⊥ = cc in no)
set_filled scope (p ∷ ps) [] i param it e f h = tt
set_filled scope (p ∷ ps) (s ∷ ss) zero param it e f h =
    let same : p ≡ param = cc in
    (subst (λ (q : Param). IsFilled scope q (Some it)) (sym same) f, h.1)
set_filled scope (p ∷ ps) (s ∷ ss) (suc i) param it e f h =
    (h.0, set_filled scope ps ss i param it e f h.1)

rest_append : (scope : program.Scope) (xs : List Arg) (arg : Arg) → AreValidRest scope xs
    → IsValidArg scope arg → AreValidRest scope (xs ++ arg ∷ [])
rest_append scope [] arg h p = (p, tt)
rest_append scope (x ∷ xs) arg h p = (h.0, rest_append scope xs arg h.1 p)

module _ (scope : program.Scope) (cx : Around) (known : KnowsAround scope.program cx) (at : At)
    (head : Head) where
  put_in_sound : (i : ℕ) (it : Filled) (slots : List (Option Filled))
      (there : Option (Option Filled))
      → AreFilled scope head.params (slice_set slots i (Some it))
      → Holds (SoundSlots scope head.params) (put_in at i it slots there)
  put_in_sound i it slots None h = breaks_holds _ _
  put_in_sound i it slots (Some None) h = stands_itself _ _ (record { filled = h })
  put_in_sound i it slots (Some (Some old)) h = breaks_holds _ _

  put_sound : (i : ℕ) (it : Filled) (param : Param) (slots : List (Option Filled))
      → slice_get head.params i ≡ Some param → IsFilled scope param (Some it)
      → AreFilled scope head.params slots
      → Holds (SoundSlots scope head.params) (put at i it slots)
  put_sound i it param slots e f h =
      put_in_sound i it slots (slice_get slots i)
      (set_filled scope head.params slots i param it e f h)

  -- ---- one argument

  for_param_sound : (done : Filling) (i : ℕ) (param : Param) (x : Typed) (next : ℕ)
      → slice_get head.params i ≡ Some param → Sound scope x → SoundFilling scope head done
      → Holds (SoundFilling scope head) (for_param cx at head done i param x next)
  for_param_sound done i param x next e p h =
      holds_after (given_sound scope cx known at param x p) (λ given g.
      holds_after (put_sound i (Argument (in_slot given)) param done.slots e
      (sound_in_slot scope (slot_of param) given g) h.slots) (λ slots s.
      stands_itself _ _ (record { slots = s.filled; rest = h.rest; no_rest = h.no_rest })))

  for_rest_sound : (done : Filling) (tags : Option (List ℕ)) (x : Typed) → head.rest ≡ tags
      → Sound scope x → SoundFilling scope head done
      → Holds (SoundFilling scope head) (for_rest cx at head done tags x)
  unfolding rest_rule
  for_rest_sound done None x same p h = breaks_holds _ _
  for_rest_sound done (Some tags) x same p h =
      stands_itself _ _ (record {
        slots = h.slots;
        rest = rest_append scope done.rest _ h.rest (rest_valid scope cx known x.form p.form);
        no_rest = λ none. absurd (let no : ⊥ = cc in no);
      })

  positional_sound : (done : Filling) (param : Option Param) (x : Typed)
      → slice_get head.params done.next ≡ param → Sound scope x → SoundFilling scope head done
      → Holds (SoundFilling scope head) (positional cx at head done param x)
  positional_sound done None x e p h = for_rest_sound done head.rest x refl p h
  positional_sound done (Some param) x e p h =
      for_param_sound done done.next param x (done.next + 1) e p h

  skipped_rest_sound : (tags : Option (List ℕ))
      → Holds (SoundFilling scope head) (skipped_rest cx at head tags)
  skipped_rest_sound None = breaks_holds _ _
  skipped_rest_sound (Some tags) = breaks_holds _ _

  skipped_sound : (done : Filling) (param : Option Param)
      → slice_get head.params done.next ≡ param → SoundFilling scope head done
      → Holds (SoundFilling scope head) (skipped cx at head done param)
  skipped_sound done None e h = skipped_rest_sound head.rest
  skipped_sound done (Some param) e h =
      holds_after (put_sound done.next Default param done.slots e tt h.slots) (λ slots s.
      stands_itself _ _ (record { slots = s.filled; rest = h.rest; no_rest = h.no_rest }))

  named_param_sound : (done : Filling) (i : ℕ) (param : Option Param) (x : Typed)
      → slice_get head.params i ≡ param → Sound scope x → SoundFilling scope head done
      → Holds (SoundFilling scope head) (named_param cx at head done i param x)
  named_param_sound done i None x e p h = breaks_holds _ _
  named_param_sound done i (Some param) x e p h = for_param_sound done i param x done.next e p h

  named_sound : (done : Filling) (i : Option ℕ) (x : Typed) → Sound scope x
      → SoundFilling scope head done → Holds (SoundFilling scope head) (named cx at head done i x)
  named_sound done None x p h = breaks_holds _ _
  named_sound done (Some i) x p h = named_param_sound done i (slice_get head.params i) x refl p h

  step_sound : (done : Filling) (it : Offer) → IsSoundOffer scope it
      → SoundFilling scope head done
      → Holds (SoundFilling scope head) (offer_step cx at head done it)
  step_sound done (Positional x) p h =
      positional_sound done (slice_get head.params done.next) x refl p h
  step_sound done Skipped p h = skipped_sound done (slice_get head.params done.next) refl h
  step_sound done (filling.Named name x) p h =
      named_sound done (number_of_param cx at head name) x p h

  thread_sound : (done : Filling) (offers : List Offer) → AreSoundOffers scope offers
      → SoundFilling scope head done
      → Holds (SoundFilling scope head) (thread (offer_step cx at head) done offers)
  unfolding thread
  thread_sound done [] p h = stands_itself _ done h
  thread_sound done (it ∷ more) p h =
      holds_after (step_sound done it p.0 h) (λ next s. thread_sound next more p.1 s)

  -- ---- all of them

  pub fill_sound : (offers : List Offer) → AreSoundOffers scope offers
      → Holds (SoundFilling scope head) (fill cx at head offers)
  fill_sound offers p =
      thread_sound (nothing_filled head) offers p (record {
        slots = none_filled scope head.params;
        rest = tt;
        no_rest = λ none. refl;
      })
