-- One call of a native on two sides that see alike, whatever a place is on each: no machine, no
-- world.
use Rattle.std.proofs.Common.{◌≡◌, ◌≤◌, ℕ, zero, suc, ℤ, List, [], ◌∷◌, Option, None, Some, Bool}
use Rattle.std.proofs.Common.{true, false, map, length, slice_get, nat_le, refl, ap, sym}
use Rattle.std.proofs.lemmas.Bool.{leb-true}
use Rattle.host_script.specs.declared.script.Script.{Script}
use Rattle.host_script.specs.declared.script.Form.{Form}
use Rattle.host_script.specs.declared.script.Answer.{Answer}
use Rattle.host_script.specs.declared.script.Answer.TheVariants.{Given, Error}
use Rattle.host_script.specs.declared.script.Write.{Write}
use Rattle.host_script.specs.declared.event.Event.TheVariants as event
use Rattle.host_script.specs.Script.{Turn, native_of, forms_of, turn_of}
use Rattle.host_script.specs.NativeCall.{Lost, Fault, Sight, Sees, Blind, Hold, Sought, Put, Called}
use Rattle.host_script.specs.NativeCall.{Ends_there, Answers, with_sight, see_all, put_into}
use Rattle.host_script.specs.NativeCall.{put_for, with_put, puts_of, answered, called_by}
use Rattle.host_script.specs.NativeCall.{called_with, called_on, native_call}

module _ {A B P Q : Type 0} (see : A → Form → Sight (Sought P)) (look : B → Form → Sight (Sought Q))
    (R : A → B → Type 0) (S : ℕ → P → Q → Type 0)
    (closed : (n k : ℕ) (p : P) (q : Q) → k ≤ n → S n p q → S k p q) where
  abbrev pub NearHold : Option (Hold P) → Option (Hold Q) → Type 0
  NearHold None None = Unit {0}
  NearHold None (Some k) = ⊥
  NearHold (Some h) None = ⊥
  NearHold (Some h) (Some k) = (h.cells ≡ k.cells) × S h.cells h.at k.at

  pub record NearSought (x : Sought P) (y : Sought Q) : Type 0 where
    pub seen_is : x.seen ≡ y.seen
    pub hold : NearHold x.hold y.hold

  abbrev pub NearSight : Sight (Sought P) → Sight (Sought Q) → Type 0
  NearSight (Sees x) b = (y : Sought Q) × (b ≡ Sees y) × NearSought x y
  NearSight (Blind Lost) b = Unit {0}
  NearSight (Blind (Fault code)) b = b ≡ Blind (Fault code)

  abbrev pub Alike : List A → List B → Type 0
  Alike [] [] = Unit {0}
  Alike [] (b ∷ bs) = ⊥
  Alike (a ∷ helds) [] = ⊥
  Alike (a ∷ helds) (b ∷ bs) = R a b × Alike helds bs

  abbrev pub AllNear : List (Sought P) → List (Sought Q) → Type 0
  AllNear [] [] = Unit {0}
  AllNear [] (y ∷ ys) = ⊥
  AllNear (x ∷ xs) [] = ⊥
  AllNear (x ∷ xs) (y ∷ ys) = NearSought x y × AllNear xs ys

  abbrev pub NearSights : Sight (List (Sought P)) → Sight (List (Sought Q)) → Type 0
  NearSights (Sees xs) b = (ys : List (Sought Q)) × (b ≡ Sees ys) × AllNear xs ys
  NearSights (Blind Lost) b = Unit {0}
  NearSights (Blind (Fault code)) b = b ≡ Blind (Fault code)

  pub record NearPut (x : Put P) (y : Put Q) : Type 0 where
    pub values_are : x.values ≡ y.values
    pub to : S (length x.values) x.to y.to

  abbrev pub NearPuts : List (Put P) → List (Put Q) → Type 0
  NearPuts [] [] = Unit {0}
  NearPuts [] (y ∷ ys) = ⊥
  NearPuts (x ∷ xs) [] = ⊥
  NearPuts (x ∷ xs) (y ∷ ys) = NearPut x y × NearPuts xs ys

  abbrev pub Near : Called P → Called Q → Type 0
  Near (Ends_there Lost position) y = Unit {0}
  Near (Ends_there (Fault code) position) y = y ≡ Ends_there (Fault code) position
  Near (Answers e result position puts) y =
      (puts' : List (Put Q)) × (y ≡ Answers e result position puts') × NearPuts puts puts'

  -- ---- all arguments

  one_more : (x : Sought P) (b : Sight (Sought Q)) (xs : Sight (List (Sought P)))
      (ys : Sight (List (Sought Q))) → NearSight (Sees x) b → NearSights xs ys
      → NearSights (with_sight xs (λ others. Sees (x ∷ others)))
      (with_sight b (λ y. with_sight ys (λ others. Sees (y ∷ others))))
  one_more x b (Sees xs) ys n m = (n.0 ∷ m.0, rw (n.1, m.1) refl, (n.2, m.2))
  one_more x b (Blind Lost) ys n m = tt
  one_more x b (Blind (Fault code)) ys n m = rw (n.1, m) refl

  joined : (a : Sight (Sought P)) (b : Sight (Sought Q)) (xs : Sight (List (Sought P)))
      (ys : Sight (List (Sought Q))) → NearSight a b → NearSights xs ys
      → NearSights (with_sight a (λ x. with_sight xs (λ others. Sees (x ∷ others))))
      (with_sight b (λ y. with_sight ys (λ others. Sees (y ∷ others))))
  joined (Sees x) b xs ys n m = one_more x b xs ys n m
  joined (Blind Lost) b xs ys n m = tt
  joined (Blind (Fault code)) b xs ys n m = rw n refl

  sights_near : ((a : A) (b : B) (f : Form) → R a b → NearSight (see a f) (look b f))
      → (helds : List A) (bs : List B) (forms : List Form) → Alike helds bs
      → NearSights (see_all see helds forms) (see_all look bs forms)
  sights_near near [] [] forms h = ([], refl, tt)
  sights_near near [] (b ∷ bs) forms h = elim h [ ]
  sights_near near (a ∷ helds) [] forms h = elim h [ ]
  sights_near near (a ∷ helds) (b ∷ bs) [] h = ([], refl, tt)
  sights_near near (a ∷ helds) (b ∷ bs) (form ∷ forms) h =
      joined (see a form) (look b form) (see_all see helds forms) (see_all look bs forms)
      (near a b form h.0) (sights_near near helds bs forms h.1)

  -- ---- writes

  abbrev NearOne : Option (Put P) → Option (Put Q) → Type 0
  NearOne None y = y ≡ None
  NearOne (Some x) y = (z : Put Q) × (y ≡ Some z) × NearPut x z

  abbrev NearAll : Option (List (Put P)) → Option (List (Put Q)) → Type 0
  NearAll None y = y ≡ None
  NearAll (Some xs) y = (zs : List (Put Q)) × (y ≡ Some zs) × NearPuts xs zs

  hold_by : (h : Hold P) (k : Hold Q) (values : List ℤ) (b : Bool)
      → nat_le (length values) h.cells ≡ b → (h.cells ≡ k.cells) × S h.cells h.at k.at
      → NearOne (put_into (Some h) values) (put_into (Some k) values)
  hold_by h k values true e n =
      let f : nat_le (length values) k.cells ≡ true = rw (sym n.0) e in
      rw (e, f) (
        record { to = k.at; values = values },
        refl,
        record {
          values_are = refl;
          to = closed h.cells (length values) h.at k.at
              (leb-true _ _ e) n.1;
        },
      )
  hold_by h k values false e n =
      let f : nat_le (length values) k.cells ≡ false = rw (sym n.0) e in rw (e, f) refl

  into_near : (h : Option (Hold P)) (k : Option (Hold Q)) (values : List ℤ) → NearHold h k
      → NearOne (put_into h values) (put_into k values)
  into_near None None values n = refl
  into_near None (Some k) values n = elim n [ ]
  into_near (Some h) None values n = elim n [ ]
  into_near (Some h) (Some k) values n = hold_by h k values _ refl n

  for_near : (xs : List (Sought P)) (ys : List (Sought Q)) (i : ℕ) (values : List ℤ) → AllNear xs ys
      → NearOne (put_for (slice_get xs i) values) (put_for (slice_get ys i) values)
  for_near [] [] i values n = refl
  for_near [] (y ∷ ys) i values n = elim n [ ]
  for_near (x ∷ xs) [] i values n = elim n [ ]
  for_near (x ∷ xs) (y ∷ ys) zero values n = into_near x.hold y.hold values n.0.hold
  for_near (x ∷ xs) (y ∷ ys) (suc i) values n = for_near xs ys i values n.1

  with_near : (x : Option (Put P)) (y : Option (Put Q)) (xs : Option (List (Put P)))
      (ys : Option (List (Put Q))) → NearOne x y → NearAll xs ys
      → NearAll (with_put x xs) (with_put y ys)
  with_near None y xs ys n m = rw n refl
  with_near (Some x) y None ys n m = rw (n.1, m) refl
  with_near (Some x) y (Some xs) ys n m = rw (n.1, m.1) (n.0 ∷ m.0, refl, (n.2, m.2))

  puts_near : (xs : List (Sought P)) (ys : List (Sought Q)) (writes : List Write) → AllNear xs ys
      → NearAll (puts_of xs writes) (puts_of ys writes)
  puts_near xs ys [] n = ([], refl, tt)
  puts_near xs ys (write ∷ writes) n =
      with_near (put_for (slice_get xs write.arg) write.cells)
      (put_for (slice_get ys write.arg) write.cells) (puts_of xs writes) (puts_of ys writes)
      (for_near xs ys write.arg write.cells n) (puts_near xs ys writes n)

  seen_same : (xs : List (Sought P)) (ys : List (Sought Q)) → AllNear xs ys
      → map (λ (x : Sought P). x.seen) xs ≡ map (λ (y : Sought Q). y.seen) ys
  seen_same [] [] n = refl
  seen_same [] (y ∷ ys) n = elim n [ ]
  seen_same (x ∷ xs) [] n = elim n [ ]
  seen_same (x ∷ xs) (y ∷ ys) n = rw (n.0.seen_is, seen_same xs ys n.1) refl

  answered_near : (name : List ℕ) (xs : List (Sought P)) (ys : List (Sought Q)) (result : ℤ)
      (position : ℕ) (p : Option (List (Put P))) (q : Option (List (Put Q))) → AllNear xs ys
      → NearAll p q
      → Near (answered name xs result position p) (answered name ys result position q)
  answered_near name xs ys result position None q n m = rw m refl
  answered_near name xs ys result position (Some puts) q n m =
      rw m.1 (
        m.0,
        ap (λ l. Answers (event.Native name l result) result position m.0)
            (sym (seen_same xs ys n)),
        m.2,
      )

  called_near : (name : List ℕ) (xs : List (Sought P)) (ys : List (Sought Q)) (answer : Answer)
      (position : ℕ) → AllNear xs ys
      → Near (called_by name xs answer position) (called_by name ys answer position)
  called_near name xs ys (Given result writes) position n =
      answered_near name xs ys result position (puts_of xs writes) (puts_of ys writes) n
      (puts_near xs ys writes n)
  called_near name xs ys (Error code) position n = refl

  sighted_near : (name : List ℕ) (position : ℕ) (turn : Turn) (x : Sight (List (Sought P)))
      (y : Sight (List (Sought Q))) → NearSights x y
      → Near (called_with name position turn x) (called_with name position turn y)
  sighted_near name position turn (Sees xs) y n =
      rw n.1 (called_near name xs n.0 turn.answer turn.position n.2)
  sighted_near name position turn (Blind Lost) y n = tt
  sighted_near name position turn (Blind (Fault code)) y n = rw n refl

  same_length : (helds : List A) (bs : List B) → Alike helds bs → length helds ≡ length bs
  same_length [] [] h = refl
  same_length [] (b ∷ bs) h = elim h [ ]
  same_length (a ∷ helds) [] h = elim h [ ]
  same_length (a ∷ helds) (b ∷ bs) h = ap suc (same_length helds bs h.1)

  on_near : ((a : A) (b : B) (f : Form) → R a b → NearSight (see a f) (look b f))
      → (name : List ℕ) (helds : List A) (bs : List B) (position : ℕ) (turn : Turn)
      (forms : Option (List Form)) → Alike helds bs
      → Near (called_on see name helds position turn forms)
      (called_on look name bs position turn forms)
  on_near near name helds bs position turn None h = refl
  on_near near name helds bs position turn (Some forms) h =
      sighted_near name position turn (see_all see helds forms) (see_all look bs forms)
      (sights_near near helds bs forms h)

  pub native_near : ((a : A) (b : B) (f : Form) → R a b → NearSight (see a f) (look b f))
      → (script : Script) (name : List ℕ) (helds : List A) (bs : List B) (position : ℕ)
      → Alike helds bs
      → Near (native_call script see name helds position) (native_call script look name bs position)
  native_near near script name helds bs position h =
      rw (same_length helds bs h) (on_near near name helds bs position
      (turn_of script (native_of script name) position)
      (forms_of (native_of script name) (length bs)) h)
