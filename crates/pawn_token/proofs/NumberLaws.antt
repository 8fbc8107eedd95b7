-- Numbers: the one that is read is the longest at its place, and bytes are at most one number.
use Rattle.std.proofs.Common.{◌≡◌, ◌<◌, ◌≤◌, inl, inr, ℕ, List, [], ◌∷◌, ◌++◌, Bool, true, false}
use Rattle.std.proofs.Common.{◌&&◌, ◌==◌, cond, length, drop, refl, sym, ap, subst, ◌∙◌, arith}
use Rattle.std.proofs.Common.{length-append}
use Rattle.std.specs.List.{list_all}
use Rattle.std.specs.Str.Parse.{digits_value}
use Rattle.std.proofs.lemmas.Bool.{eqb-true}
use Rattle.std.proofs.lemmas.Bool.Decides.{nat_tests}
use Rattle.pawn_token.specs.declared.class.Class.{Class}
use Rattle.pawn_token.specs.declared.class.Class.TheVariants as class
use Rattle.pawn_token.specs.declared.number.Radix.{Radix}
use Rattle.pawn_token.specs.declared.number.Radix.TheVariants.{Ten, Sixteen, Two}
use Rattle.pawn_token.specs.Class.{is_in, run, byte_at}
use Rattle.pawn_token.specs.Number.{prefix, digit_class, base, IsNumeral}
use Rattle.pawn_token.specs.Reading.{radix_at, digits_at}
use Rattle.pawn_token.proofs.ClassLaws.{bool_cases, both, run_all, all_at, two_at_front, same_front}

-- what tells in which radix the number at the front is read
abbrev pub RadixFacts : List ℕ → Radix → Type 0
RadixFacts at Ten =
    (byte_at at 0 ≡ 48 → byte_at at 1 ≡ 120 → is_in class.Hexadecimal (byte_at at 2) ≡ true → ⊥)
    × (byte_at at 0 ≡ 48 → byte_at at 1 ≡ 98 → is_in class.Binary (byte_at at 2) ≡ true → ⊥)
RadixFacts at Sixteen =
    (byte_at at 0 ≡ 48) × (byte_at at 1 ≡ 120) × (is_in class.Hexadecimal (byte_at at 2) ≡ true)
RadixFacts at Two =
    (byte_at at 0 ≡ 48) × (byte_at at 1 ≡ 98) × (is_in class.Binary (byte_at at 2) ≡ true)

three : (a b : ℕ) (c : Bool) (x y : ℕ) → (a == x && b == y && c) ≡ true
    → (a ≡ x) × (b ≡ y) × (c ≡ true)
three a b c x y h =
    let outer = both (a == x && b == y) c h in
    let inner = both (a == x) (b == y) outer.0 in
    (eqb-true a x inner.0, eqb-true b y inner.1, outer.1)

not_three : (a b : ℕ) (c : Bool) (x y : ℕ) → (a == x && b == y && c) ≡ false → a ≡ x → b ≡ y
    → c ≡ true → ⊥
not_three a b c x y h first second third =
    grind (arith, nat_tests)

pub radix_facts : (at : List ℕ) → RadixFacts at (radix_at at)
unfolding radix_at
radix_facts at =
    let hex = byte_at at 0 == 48 && byte_at at 1 == 120 && is_in class.Hexadecimal (byte_at at 2) in
    let bin = byte_at at 0 == 48 && byte_at at 1 == 98 && is_in class.Binary (byte_at at 2) in
    elim (bool_cases hex) [
      | inl found ↦
          subst (RadixFacts at) (sym (ap (λ b. cond b Sixteen (cond bin Two Ten)) found))
          (three (byte_at at 0) (byte_at at 1)
          (is_in class.Hexadecimal (byte_at at 2)) 48 120 found)
      | inr no_hex ↦
          elim (bool_cases bin) [
            | inl found ↦
                subst (RadixFacts at) (sym (ap (λ b. cond b Sixteen (cond bin Two Ten)) no_hex
                ∙ ap (λ b. cond b Two Ten) found))
                (three (byte_at at 0) (byte_at at 1)
                (is_in class.Binary (byte_at at 2)) 48 98 found)
            | inr no_bin ↦
                subst (RadixFacts at) (sym (ap (λ b. cond b Sixteen (cond bin Two Ten)) no_hex
                ∙ ap (λ b. cond b Two Ten) no_bin)) (
                  not_three (byte_at at 0) (byte_at at 1)
                      (is_in class.Hexadecimal (byte_at at 2)) 48 120 no_hex,
                  not_three (byte_at at 0) (byte_at at 1)
                      (is_in class.Binary (byte_at at 2)) 48 98 no_bin,
                )
          ]
    ]

-- the number that is read stands at the front, with all its digits
pub number_read : (at : List ℕ) (radix : Radix) → RadixFacts at radix
    → is_in class.Digit (byte_at at 0) ≡ true
    → (at ≡ prefix radix ++ drop (length (prefix radix)) at)
    × (is_in (digit_class radix) (byte_at (drop (length (prefix radix)) at) 0) ≡ true)
number_read at Ten facts digit = (refl, digit)
number_read [] Sixteen facts digit = absurd (omega (arith, facts.0))
number_read (a ∷ []) Sixteen facts digit = absurd (omega (arith, facts.1))
number_read (a ∷ b ∷ at) Sixteen facts digit =
    (two_at_front (a ∷ b ∷ at) 48 120 facts.0 facts.1 (omega arith) (omega arith), facts.2)
number_read [] Two facts digit = absurd (omega (arith, facts.0))
number_read (a ∷ []) Two facts digit = absurd (omega (arith, facts.1))
number_read (a ∷ b ∷ at) Two facts digit =
    (two_at_front (a ∷ b ∷ at) 48 98 facts.0 facts.1 (omega arith) (omega arith), facts.2)

-- digits behind the first byte of a number are no letter
tail_digit : (digits more : List ℕ) (byte : ℕ) → list_all (is_in class.Digit) digits ≡ true
    → byte_at (digits ++ more) 1 ≡ byte
    → is_in class.Digit byte ≡ false → length digits ≤ 1
tail_digit [] more byte all here fails = omega arith
tail_digit (a ∷ []) more byte all here fails = omega arith
tail_digit (a ∷ b ∷ digits) more byte all here fails =
    let second = all_at class.Digit (a ∷ b ∷ digits) 1 all (omega arith) in
    absurd (cc)

x_is_no_digit : is_in class.Digit 120 ≡ false
unfolding is_in
x_is_no_digit = refl

b_is_no_digit : is_in class.Digit 98 ≡ false
unfolding is_in
b_is_no_digit = refl

-- digits behind a prefix are no more than those of the run there
digits_within : (radix : Radix) (at digits more : List ℕ) → at ≡ (prefix radix ++ digits) ++ more
    → list_all (is_in (digit_class radix)) digits ≡ true
    → length digits ≤ length (digits_at radix at)
digits_within Ten at digits more e all =
    subst (λ bytes. length digits ≤ length (run class.Digit bytes)) (sym e)
    (run_all class.Digit digits more all)
digits_within Sixteen at digits more e all =
    subst (λ bytes. length digits ≤ length (run class.Hexadecimal bytes)) (sym (ap (drop 2) e))
    (run_all class.Hexadecimal digits more all)
digits_within Two at digits more e all =
    subst (λ bytes. length digits ≤ length (run class.Binary bytes)) (sym (ap (drop 2) e))
    (run_all class.Binary digits more all)

third : (class : Class) (digits more : List ℕ) → 0 < length digits
    → list_all (is_in class) digits ≡ true → is_in class (byte_at (digits ++ more) 0) ≡ true
third class [] more some all = absurd (omega (arith, some))
third class (digit ∷ digits) more some all =
    (both (is_in class digit) (list_all (is_in class) digits) all).0

-- no number at the place is longer than the one that is read
pub number_longest : (at more digits : List ℕ) (radix other : Radix) → RadixFacts at radix
    → at ≡ (prefix other ++ digits) ++ more
    → 0 < length digits → list_all (is_in (digit_class other)) digits ≡ true
    → length (prefix other ++ digits) ≤ length (prefix radix ++ digits_at radix at)
number_longest at more digits Ten Ten facts e some all = digits_within Ten at digits more e all
number_longest at more digits Ten Sixteen facts e some all =
    absurd (facts.0 (ap (λ bytes. byte_at bytes 0) e) (ap (λ bytes. byte_at bytes 1) e)
    (ap (λ bytes. is_in class.Hexadecimal (byte_at bytes 2)) e
    ∙ third class.Hexadecimal digits more some all))
number_longest at more digits Ten Two facts e some all =
    absurd (facts.1 (ap (λ bytes. byte_at bytes 0) e) (ap (λ bytes. byte_at bytes 1) e)
    (ap (λ bytes. is_in class.Binary (byte_at bytes 2)) e
    ∙ third class.Binary digits more some all))
number_longest at more digits Sixteen Ten facts e some all =
    let short =
    tail_digit digits more 120 all
    (sym (ap (λ bytes. byte_at bytes 1) e) ∙ facts.1) x_is_no_digit in
    let longer = length-append (prefix Sixteen) (digits_at Sixteen at) in
    omega (arith, short, longer)
number_longest at more digits Sixteen Sixteen facts e some all =
    let within = digits_within Sixteen at digits more e all in
    omega (
      arith,
      within,
      length-append (prefix Sixteen) digits,
      length-append (prefix Sixteen) (digits_at Sixteen at),
    )
number_longest at more digits Sixteen Two facts e some all =
    let second : byte_at at 1 ≡ 98 = ap (λ bytes. byte_at bytes 1) e in
    absurd (omega (arith, second, facts.1))
number_longest at more digits Two Ten facts e some all =
    let short =
    tail_digit digits more 98 all (sym (ap (λ bytes. byte_at bytes 1) e) ∙ facts.1)
    b_is_no_digit in
    let longer = length-append (prefix Two) (digits_at Two at) in
    omega (arith, short, longer)
number_longest at more digits Two Sixteen facts e some all =
    let second : byte_at at 1 ≡ 120 = ap (λ bytes. byte_at bytes 1) e in
    absurd (omega (arith, second, facts.1))
number_longest at more digits Two Two facts e some all =
    let within = digits_within Two at digits more e all in
    omega (
      arith,
      within,
      length-append (prefix Two) digits,
      length-append (prefix Two) (digits_at Two at),
    )

-- the radix shows in the second byte
radix_tag : ℕ → Radix
radix_tag byte = cond (byte == 120) Sixteen (cond (byte == 98) Two Ten)

digit_tag : (byte : ℕ) → is_in class.Digit byte ≡ true → radix_tag byte ≡ Ten
unfolding radix_tag is_in
digit_tag byte h =
    let low : 48 ≤ byte = grind (arith, nat_tests) in
    let high : byte ≤ 57 = grind (arith, nat_tests) in
    let no_x : (byte == 120) ≡ false = grind (arith, nat_tests) in
    let no_b : (byte == 98) ≡ false = grind (arith, nat_tests) in
    ap (λ b. cond b Sixteen (cond (byte == 98) Two Ten)) no_x ∙ ap (λ b. cond b Two Ten) no_b

tag_is : (radix : Radix) (digits : List ℕ) → list_all (is_in (digit_class radix)) digits ≡ true
    → 0 < length digits → radix ≡ radix_tag (byte_at (prefix radix ++ digits) 1)
unfolding radix_tag is_in
tag_is Ten [] all some = absurd (omega (arith, some))
tag_is Ten (a ∷ []) all some = refl
tag_is Ten (a ∷ b ∷ digits) all some =
    let second = all_at class.Digit (a ∷ b ∷ digits) 1 all (omega arith) in
    sym (digit_tag b second)
tag_is Sixteen digits all some = refl
tag_is Two digits all some = refl

-- bytes are at most one number
numeral_same : (radix : Radix) (a b : List ℕ) → prefix radix ++ a ≡ prefix radix ++ b
    → digits_value (base radix) a ≡ digits_value (base radix) b
numeral_same radix a b e = ap (digits_value (base radix)) (same_front (prefix radix) a b e)

pub numeral_one : (spelling : List ℕ) (n m : ℕ) → IsNumeral spelling n
    → IsNumeral spelling m → n ≡ m
numeral_one spelling n m a b =
    let first = tag_is a.radix a.digits a.all a.some in
    let second = tag_is b.radix b.digits b.all b.some in
    let between = ap (λ bytes. radix_tag (byte_at bytes 1)) (sym a.spelled ∙ b.spelled) in
    let same : a.radix ≡ b.radix = first ∙ between ∙ sym second in
    let spelled : prefix b.radix ++ a.digits ≡ prefix b.radix ++ b.digits =
    ap (λ radix. prefix radix ++ a.digits) (sym same) ∙ sym a.spelled ∙ b.spelled in
    a.value_is ∙ ap (λ radix. digits_value (base radix) a.digits) same
    ∙ numeral_same b.radix a.digits b.digits spelled ∙ sym b.value_is
