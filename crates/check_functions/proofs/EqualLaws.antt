-- Heads that are equal to one head are equal to the same others.
use Rattle.std.proofs.Common.{◌≡◌, ℕ, Bool, true, false, List, [], ◌∷◌, Option, Some, None, refl}
use Rattle.std.proofs.Common.{ap₂}
use Rattle.std.specs.Prelude.{◌&&◌, nat_eq}
use Rattle.std.specs.Cmp.{nat_eq_equiv, int_eq_equiv}
use Rattle.std.specs.Cmp.Lexicographic.{nat_list_eq_equiv}
use Rattle.std.specs.Str.{bytes_eq}
use Rattle.std.proofs.lemmas.Bool.{false≢true}
use Rattle.pawn_meaning.specs.Scope.{Extent}
use Rattle.types_rules.specs.Around.{Default, NoDefault, Always, SizeOf, TagOf, Param, Head}
use Rattle.types_rules.specs.SameHeads.{same_truth, same_default, same_first}
use Rattle.types_rules.specs.SameHeads.{same_extent, same_rest}
use Rattle.types_rules.specs.SameHeads.{same_param, same_params, same_head}

pub both : (a b : Bool) → (a && b) ≡ true → (a ≡ true) × (b ≡ true)
both true b e = (refl, e)
both false b e = absurd (false≢true e)

-- two tests, each of which is the same of x and y
same_both : {A B : Type 0} (p : A → A → Bool) (q : B → B → Bool) (x y : A) (u v : B)
    → ((z : A) → p x z ≡ p y z) → ((w : B) → q u w ≡ q v w) → (z : A) (w : B)
    → (p x z && q u w) ≡ (p y z && q v w)
same_both p q x y u v h k z w = ap₂ (λ (a b : Bool). a && b) (h z) (k w)

-- ---- each is equal to itself

truth_itself : (b : Bool) → same_truth b b ≡ true
truth_itself true = refl
truth_itself false = refl

default_itself : (d : Default) → same_default d d ≡ true
default_itself NoDefault = refl
default_itself (Always v tag) = int_eq_equiv.refl v
default_itself (SizeOf i) = nat_eq_equiv.refl i
default_itself (TagOf i) = nat_eq_equiv.refl i

first_itself : (n : Option ℕ) → same_first n n ≡ true
first_itself None = refl
first_itself (Some n) = nat_eq_equiv.refl n

pub with_both : (a b : Bool) → a ≡ true → b ≡ true → (a && b) ≡ true
with_both a b e f = ap₂ (λ (x y : Bool). x && y) e f

extent_itself : (x : Option Extent) → same_extent x x ≡ true
extent_itself None = refl
extent_itself (Some x) =
    with_both (same_first x.first x.first) (bytes_eq x.inner x.inner) (first_itself x.first)
    (nat_list_eq_equiv.refl x.inner)

rest_itself : (x : Option (List ℕ)) → same_rest x x ≡ true
rest_itself None = refl
rest_itself (Some x) = nat_list_eq_equiv.refl x

param_itself : (x : Param) → same_param x x ≡ true
param_itself x =
    with_both (bytes_eq x.name x.name) _ (nat_list_eq_equiv.refl x.name)
    (with_both (same_truth x.constant x.constant) _ (truth_itself x.constant)
    (with_both (same_truth x.reference x.reference) _ (truth_itself x.reference)
    (with_both (bytes_eq x.tags x.tags) _ (nat_list_eq_equiv.refl x.tags)
    (with_both (same_extent x.extent x.extent) _ (extent_itself x.extent)
    (default_itself x.default)))))

params_itself : (xs : List Param) → same_params xs xs ≡ true
params_itself [] = refl
params_itself (x ∷ xs) =
    with_both (same_param x x) (same_params xs xs) (param_itself x) (params_itself xs)

pub head_itself : (tag : ℕ) (x : Head) → same_head tag x tag x ≡ true
head_itself tag x =
    with_both (nat_eq tag tag) _ (nat_eq_equiv.refl tag)
    (with_both (same_params x.params x.params) (same_rest x.rest x.rest) (params_itself x.params)
    (rest_itself x.rest))

-- ---- what is equal to one is equal to the same others

truth_alike : (x y : Bool) → same_truth x y ≡ true → (z : Bool) → same_truth x z ≡ same_truth y z
truth_alike true true h z = refl
truth_alike true false h z = absurd (false≢true h)
truth_alike false true h z = absurd (false≢true h)
truth_alike false false h z = refl

default_alike : (x y : Default) → same_default x y ≡ true → (z : Default)
    → same_default x z ≡ same_default y z
default_alike NoDefault NoDefault h z = refl
default_alike NoDefault (Always v tag) h z = absurd (false≢true h)
default_alike NoDefault (SizeOf i) h z = absurd (false≢true h)
default_alike NoDefault (TagOf i) h z = absurd (false≢true h)
default_alike (Always v tag) NoDefault h z = absurd (false≢true h)
default_alike (Always v tag) (Always w other) h NoDefault = refl
default_alike (Always v tag) (Always w other) h (Always u third) = int_eq_equiv.congr v w u h
default_alike (Always v tag) (Always w other) h (SizeOf i) = refl
default_alike (Always v tag) (Always w other) h (TagOf i) = refl
default_alike (Always v tag) (SizeOf i) h z = absurd (false≢true h)
default_alike (Always v tag) (TagOf i) h z = absurd (false≢true h)
default_alike (SizeOf i) NoDefault h z = absurd (false≢true h)
default_alike (SizeOf i) (Always v tag) h z = absurd (false≢true h)
default_alike (SizeOf i) (SizeOf j) h NoDefault = refl
default_alike (SizeOf i) (SizeOf j) h (Always v tag) = refl
default_alike (SizeOf i) (SizeOf j) h (SizeOf k) = nat_eq_equiv.congr i j k h
default_alike (SizeOf i) (SizeOf j) h (TagOf k) = refl
default_alike (SizeOf i) (TagOf j) h z = absurd (false≢true h)
default_alike (TagOf i) NoDefault h z = absurd (false≢true h)
default_alike (TagOf i) (Always v tag) h z = absurd (false≢true h)
default_alike (TagOf i) (SizeOf j) h z = absurd (false≢true h)
default_alike (TagOf i) (TagOf j) h NoDefault = refl
default_alike (TagOf i) (TagOf j) h (Always v tag) = refl
default_alike (TagOf i) (TagOf j) h (SizeOf k) = refl
default_alike (TagOf i) (TagOf j) h (TagOf k) = nat_eq_equiv.congr i j k h

first_alike : (x y : Option ℕ) → same_first x y ≡ true → (z : Option ℕ)
    → same_first x z ≡ same_first y z
first_alike None None h z = refl
first_alike None (Some n) h z = absurd (false≢true h)
first_alike (Some m) None h z = absurd (false≢true h)
first_alike (Some m) (Some n) h None = refl
first_alike (Some m) (Some n) h (Some k) = nat_eq_equiv.congr m n k h

extent_alike : (x y : Option Extent) → same_extent x y ≡ true → (z : Option Extent)
    → same_extent x z ≡ same_extent y z
extent_alike None None h z = refl
extent_alike None (Some y) h z = absurd (false≢true h)
extent_alike (Some x) None h z = absurd (false≢true h)
extent_alike (Some x) (Some y) h None = refl
extent_alike (Some x) (Some y) h (Some z) =
    let parts = both (same_first x.first y.first) (bytes_eq x.inner y.inner) h in
    same_both same_first bytes_eq x.first y.first x.inner y.inner
    (first_alike x.first y.first parts.0)
    (λ k. nat_list_eq_equiv.congr x.inner y.inner k parts.1) z.first z.inner

rest_alike : (x y : Option (List ℕ)) → same_rest x y ≡ true → (z : Option (List ℕ))
    → same_rest x z ≡ same_rest y z
rest_alike None None h z = refl
rest_alike None (Some y) h z = absurd (false≢true h)
rest_alike (Some x) None h z = absurd (false≢true h)
rest_alike (Some x) (Some y) h None = refl
rest_alike (Some x) (Some y) h (Some z) = nat_list_eq_equiv.congr x y z h

param_alike : (x y : Param) → same_param x y ≡ true → (z : Param) → same_param x z ≡ same_param y z
param_alike x y h z =
    let named = both (bytes_eq x.name y.name) _ h in
    let constant = both (same_truth x.constant y.constant) _ named.1 in
    let reference = both (same_truth x.reference y.reference) _ constant.1 in
    let tags = both (bytes_eq x.tags y.tags) _ reference.1 in
    let extent = both (same_extent x.extent y.extent) (same_default x.default y.default) tags.1 in
    ap₂ (λ (a b : Bool). a && b) (nat_list_eq_equiv.congr x.name y.name z.name named.0)
    (ap₂ (λ (a b : Bool). a && b) (truth_alike x.constant y.constant constant.0 z.constant)
    (ap₂ (λ (a b : Bool). a && b) (truth_alike x.reference y.reference reference.0 z.reference)
    (ap₂ (λ (a b : Bool). a && b) (nat_list_eq_equiv.congr x.tags y.tags z.tags tags.0)
    (ap₂ (λ (a b : Bool). a && b) (extent_alike x.extent y.extent extent.0 z.extent)
    (default_alike x.default y.default extent.1 z.default)))))

params_alike : (xs ys : List Param) → same_params xs ys ≡ true → (zs : List Param)
    → same_params xs zs ≡ same_params ys zs
params_alike [] [] h zs = refl
params_alike [] (y ∷ ys) h zs = absurd (false≢true h)
params_alike (x ∷ xs) [] h zs = absurd (false≢true h)
params_alike (x ∷ xs) (y ∷ ys) h [] = refl
params_alike (x ∷ xs) (y ∷ ys) h (z ∷ zs) =
    let parts = both (same_param x y) (same_params xs ys) h in
    ap₂ (λ (a b : Bool). a && b) (param_alike x y parts.0 z) (params_alike xs ys parts.1 zs)

pub head_alike : (tag other third : ℕ) (x y z : Head) → same_head tag x other y ≡ true
    → same_head tag x third z ≡ same_head other y third z
head_alike tag other third x y z h =
    let tags = both (nat_eq tag other) _ h in
    let parts = both (same_params x.params y.params) (same_rest x.rest y.rest) tags.1 in
    ap₂ (λ (a b : Bool). a && b) (nat_eq_equiv.congr tag other third tags.0)
    (ap₂ (λ (a b : Bool). a && b) (params_alike x.params y.params parts.0 z.params)
    (rest_alike x.rest y.rest parts.1 z.rest))
