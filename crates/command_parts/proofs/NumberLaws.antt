-- A word is the decimal form of one number at most.
use Rattle.std.proofs.Common.{◌≡◌, ◌∙◌, ◌^◌, ◌<◌, ◌≤◌, ◌&&◌, ℕ, List, Bool, true, false, None, Some}
use Rattle.std.proofs.Common.{refl, sym, ap, arith, nat_le, if◌then◌else◌, le-leb, leb-true}
use Rattle.std.specs.Fmt.{decimal}
use Rattle.std.specs.Str.{bytes_eq}
use Rattle.std.specs.Str.Parse.{digits_value}
use Rattle.std.specs.Cmp.Lexicographic.{bytes_decides}
use Rattle.std.proofs.lemmas.Fmt.{decimal_is_IsNumeral}
use Rattle.command_parts.specs.Options.{number_up_to}

value_is : (n : ℕ) (word : List ℕ) → n < 2 ^ 64 → word ≡ decimal n → digits_value 10 word ≡ n
value_is n word small is = ap (digits_value 10) is ∙ (decimal_is_IsNumeral n small).1

pub is_number : (most n : ℕ) (word : List ℕ) → n < 2 ^ 64 → n ≤ most → word ≡ decimal n
    → Some n ≡ number_up_to most word
is_number most n word small low is =
    let v = value_is n word small is in
    let a : nat_le n most ≡ true = le-leb n most low in
    let b : bytes_eq (decimal n) word ≡ true = (bytes_decides (decimal n) word).1 (sym is) in
    let e : number_up_to most word ≡ Some n = rw (v, a, b) refl in
    sym e

none_unless : (a b : Bool) (n : ℕ) → (a ≡ true → b ≡ true → ⊥)
    → None ≡ (if a && b then Some n else None)
none_unless true true n h = absurd (h refl refl)
none_unless true false n h = refl
none_unless false b n h = refl

pub no_number : (most : ℕ) (word : List ℕ) → most < 2 ^ 64
    → ((n : ℕ) → n < 2 ^ 64 → n ≤ most → word ≡ decimal n → ⊥)
    → None ≡ number_up_to most word
no_number most word small h =
    let v : ℕ = digits_value 10 word in
    none_unless (nat_le v most) (bytes_eq (decimal v) word) v (λ a b.
    let low : v ≤ most = leb-true v most a in
    h v (omega arith) low (sym ((bytes_decides (decimal v) word).0 b)))
