-- Runs of a class: what they are, and that no longer front of the bytes is in the class.
use Rattle.std.proofs.Common.{◌≡◌, ◌<◌, ◌≤◌, ◌⊎◌, inl, inr, ℕ, zero, suc, List, [], ◌∷◌, ◌++◌, Bool}
use Rattle.std.proofs.Common.{true, false, ◌&&◌, cond, length, drop, refl, sym, ap, ◌∙◌, arith}
use Rattle.std.specs.List.{list_all, prefix_len}
use Rattle.std.proofs.lemmas.List.{take-append-drop}
use Rattle.std.proofs.lemmas.List.Sums.{take_while-cons}
use Rattle.std.proofs.lemmas.Bool.Decides.{nat_tests}
use Rattle.pawn_token.specs.declared.class.Class.{Class}
use Rattle.pawn_token.specs.declared.class.Class.TheVariants as class
use Rattle.pawn_token.specs.Class.{is_in, run, after, byte_at}

pub bool_cases : (b : Bool) → (b ≡ true) ⊎ (b ≡ false)
bool_cases true = inl refl
bool_cases false = inr refl

pub both : (a b : Bool) → (a && b) ≡ true → (a ≡ true) × (b ≡ true)
both true b e = (refl, e)
both false b e = absurd (cc)

-- no class has 0, which stands for a place behind the last byte
pub zero_is_out : (class : Class) → is_in class 0 ≡ false
unfolding is_in
zero_is_out class.Blank = refl
zero_is_out class.NameStart = refl
zero_is_out class.NameByte = refl
zero_is_out class.Digit = refl
zero_is_out class.Hexadecimal = refl
zero_is_out class.Binary = refl

pub letter_is_word : (byte : ℕ) → is_in class.NameStart byte ≡ true
    → is_in class.NameByte byte ≡ true
unfolding is_in
letter_is_word byte h = grind (arith, nat_tests)

pub digit_is_no_letter : (byte : ℕ) → is_in class.Digit byte ≡ true
    → is_in class.NameStart byte ≡ false
unfolding is_in
digit_is_no_letter byte h = grind (arith, nat_tests)

pub binary_is_digit : (byte : ℕ) → is_in class.Binary byte ≡ true → is_in class.Digit byte ≡ true
unfolding is_in
binary_is_digit byte h = grind (arith, nat_tests)

-- a byte of a class at the front: there is a first byte
pub first_is : (class : Class) (bytes : List ℕ) → is_in class (byte_at bytes 0) ≡ true
    → 0 < length bytes
first_is class [] h = absurd (cc (zero_is_out class))
first_is class (byte ∷ bytes) h = omega arith

pub run-after : (class : Class) (bytes : List ℕ) → bytes ≡ run class bytes ++ after class bytes
run-after class bytes = sym (take-append-drop (prefix_len (is_in class) bytes) bytes)

pub run-cons : (class : Class) (byte : ℕ) (bytes : List ℕ) → is_in class byte ≡ true
    → run class (byte ∷ bytes) ≡ byte ∷ run class bytes
run-cons class byte bytes h =
    take_while-cons (is_in class) byte bytes ∙ ap (λ b. cond b (byte ∷ run class bytes) []) h

pub run-stop : (class : Class) (byte : ℕ) (bytes : List ℕ) → is_in class byte ≡ false
    → run class (byte ∷ bytes) ≡ []
run-stop class byte bytes h =
    take_while-cons (is_in class) byte bytes ∙ ap (λ b. cond b (byte ∷ run class bytes) []) h

-- each byte of a run is in the class
pub run_passes : (class : Class) (bytes : List ℕ) → list_all (is_in class) (run class bytes) ≡ true
run_passes class [] = refl
run_passes class (byte ∷ bytes) =
    elim (bool_cases (is_in class byte)) [
      | inl passes ↦
          ap (list_all (is_in class)) (run-cons class byte bytes passes)
          ∙ ap (λ b. b && list_all (is_in class) (run class bytes)) passes ∙ run_passes class bytes
      | inr fails ↦ ap (list_all (is_in class)) (run-stop class byte bytes fails)
    ]

-- a front whose bytes all are in the class is no longer than the run
pub run_all : (class : Class) (front more : List ℕ) → list_all (is_in class) front ≡ true
    → length front ≤ length (run class (front ++ more))
run_all class [] more h = omega arith
run_all class (byte ∷ front) more h =
    let parts = both (is_in class byte) (list_all (is_in class) front) h in
    let longer = ap length (run-cons class byte (front ++ more) parts.0) in
    let rest = run_all class front more parts.1 in
    omega (arith, longer, rest)

-- the first byte of a run
pub run_first : (class : Class) (bytes : List ℕ) → is_in class (byte_at bytes 0) ≡ true
    → byte_at (run class bytes) 0 ≡ byte_at bytes 0
run_first class [] h = absurd (cc (zero_is_out class))
run_first class (byte ∷ bytes) h = ap (λ front. byte_at front 0) (run-cons class byte bytes h)

pub run_some : (class : Class) (bytes : List ℕ) → is_in class (byte_at bytes 0) ≡ true
    → 0 < length (run class bytes)
run_some class [] h = absurd (cc (zero_is_out class))
run_some class (byte ∷ bytes) h =
    let longer = ap length (run-cons class byte bytes h) in
    omega (arith, longer)

-- the first byte of two lists together
pub first-append : (front more : List ℕ) → 0 < length front
    → byte_at (front ++ more) 0 ≡ byte_at front 0
first-append [] more h = absurd (omega (arith, h))
first-append (byte ∷ front) more h = refl

-- bytes of a class at a place below the length
pub all_at : (class : Class) (bytes : List ℕ) (i : ℕ) → list_all (is_in class) bytes ≡ true
    → i < length bytes → is_in class (byte_at bytes i) ≡ true
all_at class [] i h below = absurd (omega (arith, below))
all_at class (byte ∷ bytes) zero h below =
    (both (is_in class byte) (list_all (is_in class) bytes) h).0
all_at class (byte ∷ bytes) (suc i) h below =
    all_at class bytes i (both (is_in class byte) (list_all (is_in class) bytes) h).1
    (omega (arith, below))

-- two bytes at the front
pub two_at_front : (bytes : List ℕ) (x y : ℕ) → byte_at bytes 0 ≡ x → byte_at bytes 1 ≡ y → 0 < x
    → 0 < y → bytes ≡ x ∷ y ∷ drop 2 bytes
two_at_front [] x y first second some more = absurd (omega (arith, first, some))
two_at_front (a ∷ []) x y first second some more = absurd (omega (arith, second, more))
two_at_front (a ∷ b ∷ bytes) x y first second some more =
    ap (λ n. n ∷ b ∷ bytes) first ∙ ap (λ n. x ∷ n ∷ bytes) second

pub one_at_front : (bytes : List ℕ) (x : ℕ) → byte_at bytes 0 ≡ x → 0 < x → bytes ≡ x ∷ drop 1 bytes
one_at_front [] x first some = absurd (omega (arith, first, some))
one_at_front (a ∷ bytes) x first some = ap (λ n. n ∷ bytes) first

-- two fronts of one list that are as long are one, with one rest
pub both_parts : (a b more rest : List ℕ) → a ++ more ≡ b ++ rest → length a ≡ length b
    → (a ≡ b) × (more ≡ rest)
both_parts [] [] more rest e h = (refl, e)
both_parts [] (y ∷ b) more rest e h = absurd (omega (arith, h))
both_parts (x ∷ a) [] more rest e h = absurd (omega (arith, h))
both_parts (x ∷ a) (y ∷ b) more rest e h =
    let heads : x ≡ y = ap (λ bytes. byte_at bytes 0) e in
    let tails = both_parts a b more rest (ap (drop 1) e) (omega (arith, h)) in
    (ap (λ n. n ∷ a) heads ∙ ap (λ bytes. y ∷ bytes) tails.0, tails.1)

-- one front, two rests
pub same_front : (front more rest : List ℕ) → front ++ more ≡ front ++ rest → more ≡ rest
same_front front more rest e = (both_parts front front more rest e refl).1
