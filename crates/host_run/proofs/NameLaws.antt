-- Names of natives, each once, and their places.
use Rattle.std.proofs.Common.{◌≡◌, ◌+◌, ◌<◌, ◌≤◌, ℕ, zero, suc, Bool, false, ◌||◌, not, cond, nat_lt}
use Rattle.std.proofs.Common.{List, [], ◌∷◌, ◌++◌, Option, None, Some, length, map, take, get_or}
use Rattle.std.proofs.Common.{refl, sym, ap, ap₂, ◌∙◌, arith}
use Rattle.std.specs.Prelude.{All, position, is_none, nat_eq, if◌then◌else◌}
use Rattle.std.specs.List.{IsDistinct, AllByRecursion, position_from, position_or_len}
use Rattle.std.specs.Str.{bytes_eq}
use Rattle.std.specs.Cmp.Lexicographic.{pointwise, unequal}
use Rattle.std.proofs.lemmas.Cmp.{nat_list_eq_equiv}
use Rattle.std.proofs.lemmas.List.{take-map, get_or-map, length-map, map-append, take_more, take_all}
use Rattle.std.proofs.lemmas.List.Elements.{All-head, All-tail, All-same, All-more, All-weaker, All-map}
use Rattle.std.proofs.lemmas.Iterator.Adapters.{position_from-zero}
use Rattle.pawn_base.specs.Among.{is_among}
use Rattle.host_script.specs.declared.script.Script.{Script}
use Rattle.host_script.specs.declared.script.Native.{Native}
use Rattle.amx_ops.specs.declared.amx.Record.{Record}
use Rattle.host_run.specs.declared.bound.BoundNative.{BoundNative}
use Rattle.host_run.specs.Bound.{names_of, entry_of, natives_of, unserved}

pub flip : (x y : List ℕ) → bytes_eq x y ≡ bytes_eq y x
flip x y = nat_list_eq_equiv.symm x y

at_place : (P : List ℕ → Type 0) (xs : List (List ℕ)) (i : ℕ) → AllByRecursion P xs → i < length xs
    → P (get_or xs i [])
at_place P [] i h k = absurd (omega (arith, k))
at_place P (x ∷ xs) zero h k = h.0
at_place P (x ∷ xs) (suc i) h k = at_place P xs i h.1 (omega (arith, k))

-- a name isn't among those before it
pub first_time : (names : List (List ℕ)) (i : ℕ) → IsDistinct (pointwise nat_eq) names
    → i < length names → is_among (get_or names i []) (take i names) ≡ false
unfolding IsDistinct
first_time [] i d k = absurd (omega (arith, k))
first_time (x ∷ xs) zero d k = refl
first_time (x ∷ xs) (suc i) d k =
    let within : i < length xs = omega (arith, k) in
    ap₂ (λ a b. a || b) (flip (get_or xs i []) x
    ∙ at_place (λ y. pointwise nat_eq x y ≡ false) xs i d.0 within) (first_time xs i d.1 within)

module _ {X : Type 0} (name_of : X → List ℕ) (name : List ℕ) where
  passed : (xs : List X) → position_or_len (bytes_eq name) (map name_of xs)
      ≡ position_or_len (λ x. pointwise nat_eq (name_of x) name) xs
  passed [] = refl
  passed (x ∷ xs) = ap₂ (λ b n. cond (not b) (1 + n) 0) (flip name (name_of x)) (passed xs)

  sized : (xs : List X) → length (map name_of xs) ≡ length xs
  sized [] = refl
  sized (x ∷ xs) = ap suc (sized xs)

  -- a name's place among the names
  pub place_of : (xs : List X) → position (bytes_eq name) (map name_of xs)
      ≡ position (λ x. pointwise nat_eq (name_of x) name) xs
  place_of xs = ap₂ (λ n size. cond (nat_lt n size) (Some n) None) (passed xs) (sized xs)

-- ---- names that are too long

longer_from : (name : List ℕ) (names : List (List ℕ)) (most i : ℕ) → most < length name
    → All (λ it. length it ≤ most) names → position_from (bytes_eq name) i names ≡ None
longer_from name [] most i h few = refl
longer_from name (x ∷ names) most i h few =
    let head : length x ≤ most = All-head (λ (it : List ℕ). length it ≤ most) x names few in
    let differs : bytes_eq name x ≡ false =
    unequal nat_eq name x (λ e. omega (arith, h, head, e)) in
    ap (λ b. cond b (Some i) (position_from (bytes_eq name) (i + 1) names)) differs
    ∙ longer_from name names most (i + 1) h
    (All-tail (λ (it : List ℕ). length it ≤ most) x names few)

-- a name that has more bytes than each of some names is none of them
pub longer_is_none : (name : List ℕ) (names : List (List ℕ)) (most : ℕ) → most < length name
    → All (λ it. length it ≤ most) names → position (bytes_eq name) names ≡ None
longer_is_none name names most h few =
    position_from-zero (bytes_eq name) names ∙ longer_from name names most 0 h few

-- the longest of the natives that were passed, and one more
pub longest_more : (natives : List Native) (i : ℕ) (d : Native) (most more : ℕ)
    → i < length natives → All (λ (it : Native). length it.name ≤ most) (take i natives)
    → most ≤ more → length (get_or natives i d).name ≤ more
    → All (λ (it : Native). length it.name ≤ more) (take (i + 1) natives)
longest_more natives i d most more h few rises last =
    All-more (λ (it : Native). length it.name ≤ more) natives i d h
    (All-weaker (λ (it : Native). length it.name ≤ most) (λ (it : Native). length it.name ≤ more)
    (λ it k. omega (arith, k, rises)) (take i natives) few) last

pub longest_names : (natives : List Native) (i most : ℕ) → length natives ≤ i
    → All (λ (it : Native). length it.name ≤ most) (take i natives)
    → All (λ it. length it ≤ most) (names_of natives)
longest_names natives i most h few =
    All-map (λ (it : List ℕ). length it ≤ most) (λ (it : Native). it.name) natives
    (All-same (λ (it : Native). length it.name ≤ most) natives (take i natives)
    (sym (take_all i natives h)) few)

-- ---- bound natives

module _ {X Y : Type 0} (f : X → Y) (p : Y → Bool) where
  position_from-map : (i : ℕ) (xs : List X)
      → position_from p i (map f xs) ≡ position_from (λ x. p (f x)) i xs
  position_from-map i [] = refl
  position_from-map i (x ∷ xs) = ap (λ o. cond (p (f x)) (Some i) o) (position_from-map (i + 1) xs)

-- the first of them that isn't served, by their entries
pub unserved_is : (script : Script) (natives : List Record) (bound : List BoundNative)
    (o : Option ℕ) → bound ≡ natives_of script natives
    → o ≡ (if script.others then None else position_from (λ it. is_none it.entry) 0 bound)
    → unserved script natives ≡ o
unserved_is script natives bound o is e =
    sym (e ∙ ap (λ all. if script.others then None
    else position_from (λ (it : BoundNative). is_none it.entry) 0 all) is
    ∙ ap (λ first. if script.others then None else first)
    (position_from-map (λ (it : Record). record { name = it.name; entry = entry_of script it.name })
    (λ (it : BoundNative). is_none it.entry) 0 natives))

-- ---- names that are added one by one

not_yet : (natives : List Native) (i : ℕ) (d : Native)
    → IsDistinct (pointwise nat_eq) (names_of natives) → i < length natives
    → is_among (get_or natives i d).name (names_of (take i natives)) ≡ false
not_yet natives i d distinct h =
    let name_of : Native → List ℕ = λ native. native.name in
    let within : i < length (map name_of natives) = omega (arith, h, length-map natives name_of) in
    ap₂ is_among (sym (get_or-map name_of natives i d [] h)) (sym (take-map name_of i natives))
    ∙ first_time (map name_of natives) i distinct within

pub is_new : (natives : List Native) (i : ℕ) (d : Native) (name : List ℕ) (names : List (List ℕ))
    → name ≡ (get_or natives i d).name
    → names ≡ names_of (take i natives) → IsDistinct (pointwise nat_eq) (names_of natives)
    → i < length natives → is_among name names ≡ false
is_new natives i d name names e n distinct h = ap₂ is_among e n ∙ not_yet natives i d distinct h

-- one native more
pub bound_next : (script : Script) (natives : List Record) (i : ℕ) (d : Record)
    (names : List (List ℕ)) (bound more : List BoundNative) (name : List ℕ) (native : BoundNative)
    → more ≡ bound ++ native ∷ [] → native
    ≡ record { name = name; entry = position (bytes_eq name) names }
    → name ≡ (get_or natives i d).name
    → names ≡ names_of script.natives → bound ≡ natives_of script (take i natives)
    → i < length natives
    → more ≡ natives_of script (take (i + 1) natives)
bound_next script natives i d names bound more name native pushed is n all so_far h =
    let bound_it : Record → BoundNative =
    λ it. record { name = it.name; entry = entry_of script it.name } in
    let x = get_or natives i d in
    let entry : position (bytes_eq name) names ≡ entry_of script x.name =
    ap₂ (λ a b. position (bytes_eq a) b) n all
    ∙ place_of (λ (it : Native). it.name) x.name script.natives in
    pushed ∙ ap₂ (λ a b. a ++ b ∷ []) so_far
    (is ∙ ap₂ (λ a b. record { name = a; entry = b }) n entry)
    ∙ sym (ap (map bound_it) (take_more natives i d h)
    ∙ map-append bound_it (take i natives) (x ∷ []))
