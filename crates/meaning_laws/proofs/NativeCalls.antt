-- A native's call, by what holds of what is handed over and of where it may write.
use Rattle.std.proofs.Common.{◌≡◌, ◌∙◌, ℕ, zero, suc, ℤ, List, [], ◌∷◌, Option, None, Some, IfSome}
use Rattle.std.proofs.Common.{length, slice_get, refl, ap}
use Rattle.host_script.specs.declared.script.Form.{Form}
use Rattle.host_script.specs.declared.script.Script.{Script}
use Rattle.host_script.specs.declared.script.Answer.{Answer}
use Rattle.host_script.specs.declared.script.Answer.TheVariants.{Given, Error}
use Rattle.host_script.specs.declared.script.Write.{Write}
use Rattle.host_script.specs.Script.{Turn, native_of, forms_of, turn_of}
use Rattle.host_script.specs.NativeCall.{Sight, Sees, Blind, Hold, Sought, Put, Called, Ends_there}
use Rattle.host_script.specs.NativeCall.{Answers, with_sight, see_all, put_into, put_for, with_put}
use Rattle.host_script.specs.NativeCall.{puts_of, answered, called_by, called_with, called_on}
use Rattle.host_script.specs.NativeCall.{native_call}

-- it holds of each
abbrev pub AllHold : {A : Type 0} → (A → Type 0) → List A → Type 0
AllHold Fits [] = Unit {0}
AllHold Fits (it ∷ others) = Fits it × AllHold Fits others

-- it holds of where a call writes
abbrev pub CalledFits : {P : Type 0} → (Put P → Type 0) → Called P → Type 0
CalledFits PutFits (Ends_there trap position) = Unit {0}
CalledFits PutFits (Answers event result position puts) = AllHold PutFits puts

-- and of where an argument that was seen may be written to
abbrev pub SightFits : {P : Type 0} → (Hold P → Type 0) → Sight (Sought P) → Type 0
SightFits HoldFits (Sees it) = IfSome it.hold HoldFits
SightFits HoldFits (Blind trap) = Unit {0}

-- two sides see the same of what fits
module _ {A P : Type 0} (Fits : A → Type 0) (see see' : A → Form → Sight (Sought P))
    (same : (held : A) (it : Form) → Fits held → see' held it ≡ see held it) where
  all_same_seen : (all : List A) (forms : List Form) → AllHold Fits all
      → see_all see' all forms ≡ see_all see all forms
  all_same_seen [] forms f = refl
  all_same_seen (held ∷ all) [] f = refl
  all_same_seen (held ∷ all) (it ∷ forms) f =
      ap (λ s. with_sight s (λ sought. with_sight (see_all see' all forms)
      (λ others. Sees (sought ∷ others)))) (same held it f.0)
      ∙ ap (λ t. with_sight (see held it) (λ sought. with_sight t
      (λ others. Sees (sought ∷ others)))) (all_same_seen all forms f.1)

  on_same : (name : List ℕ) (all : List A) (position : ℕ) (turn : Turn)
      (forms : Option (List Form)) → AllHold Fits all
      → called_on see' name all position turn forms ≡ called_on see name all position turn forms
  on_same name all position turn None f = refl
  on_same name all position turn (Some forms) f =
      ap (called_with name position turn) (all_same_seen all forms f)

  pub call_same : (script : Script) (name : List ℕ) (all : List A) (position : ℕ)
      → AllHold Fits all
      → native_call script see' name all position ≡ native_call script see name all position
  call_same script name all position f =
      let native = native_of script name in
      on_same name all position (turn_of script native position) (forms_of native (length all)) f

-- what a call writes goes to where it saw
module _ {A P : Type 0} (Fits : A → Type 0) (HoldFits : Hold P → Type 0) (PutFits : Put P → Type 0)
    (see : A → Form → Sight (Sought P))
    (see_fits : (held : A) (it : Form) → Fits held → SightFits HoldFits (see held it))
    (into : (hold : Hold P) (values : List ℤ) → HoldFits hold
    → IfSome (put_into (Some hold) values) PutFits) where
  abbrev SoughtFits : Sought P → Type 0
  SoughtFits it = IfSome it.hold HoldFits

  abbrev AllSeen : Sight (List (Sought P)) → Type 0
  AllSeen (Sees all) = AllHold SoughtFits all
  AllSeen (Blind trap) = Unit {0}

  abbrev AllPut : List (Put P) → Type 0
  AllPut puts = AllHold PutFits puts

  more_seen : (s : Sight (Sought P)) (t : Sight (List (Sought P))) → SightFits HoldFits s
      → AllSeen t
      → AllSeen (with_sight s (λ sought. with_sight t (λ others. Sees (sought ∷ others))))
  more_seen (Blind trap) t f g = tt
  more_seen (Sees it) (Blind trap) f g = tt
  more_seen (Sees it) (Sees others) f g = (f, g)

  all_seen : (all : List A) (forms : List Form) → AllHold Fits all
      → AllSeen (see_all see all forms)
  all_seen [] forms f = tt
  all_seen (held ∷ all) [] f = tt
  all_seen (held ∷ all) (it ∷ forms) f =
      more_seen (see held it) (see_all see all forms) (see_fits held it f.0)
      (all_seen all forms f.1)

  sought_at : (all : List (Sought P)) (i : ℕ) → AllHold SoughtFits all
      → IfSome (slice_get all i) SoughtFits
  sought_at [] i f = tt
  sought_at (it ∷ all) zero f = f.0
  sought_at (it ∷ all) (suc i) f = sought_at all i f.1

  into_fits : (o : Option (Hold P)) (values : List ℤ) → IfSome o HoldFits
      → IfSome (put_into o values) PutFits
  into_fits None values f = tt
  into_fits (Some hold) values f = into hold values f

  for_fits : (o : Option (Sought P)) (values : List ℤ) → IfSome o SoughtFits
      → IfSome (put_for o values) PutFits
  for_fits None values f = tt
  for_fits (Some it) values f = into_fits it.hold values f

  with_fits : (o : Option (Put P)) (others : Option (List (Put P))) → IfSome o PutFits
      → IfSome others AllPut → IfSome (with_put o others) AllPut
  with_fits None others f g = tt
  with_fits (Some it) None f g = tt
  with_fits (Some it) (Some others) f g = (f, g)

  puts_fit : (all : List (Sought P)) (writes : List Write) → AllHold SoughtFits all
      → IfSome (puts_of all writes) AllPut
  puts_fit all [] f = tt
  puts_fit all (write ∷ writes) f =
      with_fits (put_for (slice_get all write.arg) write.cells) (puts_of all writes)
      (for_fits (slice_get all write.arg) write.cells (sought_at all write.arg f))
      (puts_fit all writes f)

  answered_fits : (name : List ℕ) (all : List (Sought P)) (result : ℤ) (position : ℕ)
      (o : Option (List (Put P))) → IfSome o AllPut
      → CalledFits PutFits (answered name all result position o)
  answered_fits name all result position None f = tt
  answered_fits name all result position (Some puts) f = f

  by_fits : (name : List ℕ) (all : List (Sought P)) (answer : Answer) (position : ℕ)
      → AllHold SoughtFits all → CalledFits PutFits (called_by name all answer position)
  by_fits name all (Given result writes) position f =
      answered_fits name all result position (puts_of all writes) (puts_fit all writes f)
  by_fits name all (Error code) position f = tt

  seen_fits : (name : List ℕ) (position : ℕ) (turn : Turn) (s : Sight (List (Sought P)))
      → AllSeen s → CalledFits PutFits (called_with name position turn s)
  seen_fits name position turn (Sees all) f = by_fits name all turn.answer turn.position f
  seen_fits name position turn (Blind trap) f = tt

  on_fits : (name : List ℕ) (all : List A) (position : ℕ) (turn : Turn)
      (forms : Option (List Form)) → AllHold Fits all
      → CalledFits PutFits (called_on see name all position turn forms)
  on_fits name all position turn None f = tt
  on_fits name all position turn (Some forms) f =
      seen_fits name position turn (see_all see all forms) (all_seen all forms f)

  pub call_fits : (script : Script) (name : List ℕ) (all : List A) (position : ℕ)
      → AllHold Fits all → CalledFits PutFits (native_call script see name all position)
  call_fits script name all position f =
      let native = native_of script name in
      on_fits name all position (turn_of script native position) (forms_of native (length all)) f
