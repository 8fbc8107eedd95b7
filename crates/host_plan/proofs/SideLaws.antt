-- The sides of the first of some bytes; words and numbers, in which no blank stands.
use Rattle.std.proofs.Common.{◌≡◌, ◌≢◌, ◌∙◌, ◌<◌, ◌≤◌, ◌^◌, ◌+◌, ◌%◌, ◌/◌, ◌++◌, ◌&&◌, ◌==◌, ℕ, List}
use Rattle.std.proofs.Common.{[], ◌∷◌, Bool, true, false, not, All, codes, length, nat_le, refl, sym, ap}
use Rattle.std.proofs.Common.{subst, arith, le-leb, false-eqb, true≢false}
use Rattle.std.specs.Fmt.{decimal}
use Rattle.std.specs.List.{list_all}
use Rattle.std.specs.Cmp.Lexicographic.{bytes_decides}
use Rattle.std.specs.Str.{bytes_eq}
use Rattle.std.proofs.lemmas.Bool.Decides.{nat_tests}
use Rattle.std.proofs.lemmas.Fmt.{decimal_by_steps}
use Rattle.std.proofs.lemmas.List.Elements.{All-nil, All-cons, All-head, All-tail, All-append, All-weaker}
use Rattle.std.proofs.lemmas.List.Sums.{AllPass-from_list_all, list_all-from_AllPass}
use Rattle.host_plan.specs.Plans.{IsGraphic, IsWord}
use Rattle.host_plan.specs.Words.{Lacks, are_graphic}

-- ---- sides

lacks_head : (byte x : ℕ) (xs : List ℕ) → Lacks byte (x ∷ xs) → x ≢ byte
lacks_head byte x xs h = All-head (λ it. it ≢ byte) x xs h

lacks_tail : (byte x : ℕ) (xs : List ℕ) → Lacks byte (x ∷ xs) → Lacks byte xs
lacks_tail byte x xs h = All-tail (λ it. it ≢ byte) x xs h

pub lacks_more : (byte x : ℕ) (xs : List ℕ) → x ≢ byte → Lacks byte xs → Lacks byte (x ∷ xs)
lacks_more byte x xs h k = All-cons (λ it. it ≢ byte) x xs h k

pub lacks_both : (byte : ℕ) (xs ys : List ℕ) → Lacks byte xs → Lacks byte ys → Lacks byte (xs ++ ys)
lacks_both byte xs ys h k = All-append (λ it. it ≢ byte) xs ys h k

-- it stands in the middle
pub not_lacking : (byte : ℕ) (front behind : List ℕ) → Lacks byte (front ++ byte ∷ behind) → ⊥
not_lacking byte [] behind h = lacks_head byte byte behind h refl
not_lacking byte (x ∷ front) behind h =
    not_lacking byte front behind (lacks_tail byte x (front ++ byte ∷ behind) h)

pub same_sides : (byte : ℕ) (front other behind more : List ℕ) → Lacks byte front
    → Lacks byte other → front ++ byte ∷ behind ≡ other ++ byte ∷ more
    → (front ≡ other) × (behind ≡ more)
same_sides byte [] [] behind more h k e = (refl, cc)
same_sides byte [] (y ∷ other) behind more h k e =
    absurd (lacks_head byte y other k (let same : y ≡ byte = cc in same))
same_sides byte (x ∷ front) [] behind more h k e =
    absurd (lacks_head byte x front h (let same : x ≡ byte = cc in same))
same_sides byte (x ∷ front) (y ∷ other) behind more h k e =
    let tails : front ++ byte ∷ behind ≡ other ++ byte ∷ more = cc in
    let heads : x ≡ y = cc in
    let it =
    same_sides byte front other behind more (lacks_tail byte x front h) (lacks_tail byte y other k)
    tails in
    (cc (heads, it.0), it.1)

-- ---- bytes that are known

pub lacks_by : (byte : ℕ) (bytes : List ℕ) → list_all (λ it. not (it == byte)) bytes ≡ true
    → Lacks byte bytes
lacks_by byte bytes e =
    All-weaker (λ it. not (it == byte) ≡ true) (λ it. it ≢ byte)
    (λ it h. λ same. grind (arith, nat_tests, h, same)) bytes
    (AllPass-from_list_all (λ it. not (it == byte)) bytes e)

-- ---- words

pub graphic_lacks : (byte : ℕ) (bytes : List ℕ) → byte < 33 → All IsGraphic bytes → Lacks byte bytes
graphic_lacks byte bytes low h =
    All-weaker IsGraphic (λ it. it ≢ byte) (λ it g. λ same. omega (arith, g.0, same, low)) bytes h

pub word_lacks : (byte : ℕ) (word : List ℕ) → byte < 33 → IsWord word → Lacks byte word
word_lacks byte word low h = graphic_lacks byte word low h.graphic

-- ---- numbers

pub decimal_lacks : (byte : ℕ) → byte < 48 → (n : ℕ) → n < 2 ^ 64 → Lacks byte (decimal n)
decimal_lacks byte low =
    decimal_by_steps (λ n digits. Lacks byte digits)
    (λ n small. lacks_more byte (48 + n) [] (λ same. omega (arith, low, same))
    (All-nil (λ it. it ≢ byte)))
    (λ n digits large h. lacks_both byte digits ((48 + n % 10) ∷ []) h
    (lacks_more byte (48 + n % 10) [] (λ same. omega (arith, low, same))
    (All-nil (λ it. it ≢ byte))))

-- ---- tests

pub some_bytes : (bytes : List ℕ) → false ≡ (length bytes == 0) → 1 ≤ length bytes
some_bytes [] e = absurd (false-eqb 0 0 e refl)
some_bytes (x ∷ bytes) e = omega arith

graphic_is : (byte : ℕ) → (nat_le 33 byte && nat_le byte 126) ≡ true → IsGraphic byte
graphic_is byte h = (grind (arith, nat_tests), grind (arith, nat_tests))

graphic_back : (byte : ℕ) → IsGraphic byte → (nat_le 33 byte && nat_le byte 126) ≡ true
graphic_back byte g = rw (le-leb 33 byte g.0, le-leb byte 126 g.1) refl

pub word_test : (bytes : List ℕ) (t : Bool) → 1 ≤ length bytes → t ≡ are_graphic bytes
    → (t ≡ true → IsWord bytes) × (IsWord bytes → t ≡ true)
word_test bytes t some e = (
  λ h. record {
    some = some;
    graphic =
        All-weaker (λ byte. (nat_le 33 byte && nat_le byte 126) ≡ true) IsGraphic graphic_is bytes
        (AllPass-from_list_all (λ byte. nat_le 33 byte && nat_le byte 126) bytes (sym e ∙ h));
  },
  λ it. e ∙ list_all-from_AllPass (λ byte. nat_le 33 byte && nat_le byte 126) bytes
      (All-weaker IsGraphic (λ byte. (nat_le 33 byte && nat_le byte 126) ≡ true) graphic_back bytes
      it.graphic),
)

-- bytes that aren't these
pub other_bytes : (bytes others : List ℕ) → false ≡ bytes_eq bytes others → bytes ≢ others
other_bytes bytes others e same =
    true≢false (sym ((bytes_decides bytes others).1 same) ∙ sym e)
