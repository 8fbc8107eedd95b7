-- What a script says of a name, by its entry.
use Rattle.std.proofs.Common.{◌≡◌, ◌+◌, ◌<◌, ◌≤◌, ℕ, zero, suc, pos, List, [], ◌∷◌, Bool, true}
use Rattle.std.proofs.Common.{false, not, cond, All, Option, None, Some, length, map, get_or}
use Rattle.std.proofs.Common.{nat_lt, slice_get, refl, sym, ap, ◌∙◌, arith}
use Rattle.std.specs.Prelude.{nat_eq, option_map, unwrap_or}
use Rattle.std.specs.List.{position_or_len}
use Rattle.std.specs.Cmp.Lexicographic.{pointwise}
use Rattle.std.proofs.lemmas.Bool.{ltb-true, ltb-false}
use Rattle.std.proofs.lemmas.List.Folds.{find_at}
use Rattle.std.proofs.lemmas.List.Elements.{All-head, All-tail}
use Rattle.std.proofs.lemmas.Option.{slice_get_past}
use Rattle.host_script.specs.declared.script.Script.{Script}
use Rattle.host_script.specs.declared.script.Native.{Native}
use Rattle.host_script.specs.declared.script.Form.TheVariants.{Cell}
use Rattle.host_script.specs.Ranges.{IsNative, IsScript}
use Rattle.host_script.specs.Script.{native_of, listed_or, unlisted}
use Rattle.amx_ops.specs.declared.amx.Record.{Record}
use Rattle.amx_ops.specs.Moves.{name_of}
use Rattle.host_run.specs.declared.bound.BoundNative.{BoundNative}
use Rattle.host_run.specs.declared.guest.Guest.{Guest}
use Rattle.host_run.specs.Bound.{entry_of, natives_of}
use Rattle.host_run.specs.Advance.{IsGuest}

there : (natives : List Native) (n : ℕ) (d : Native) → n < length natives
    → slice_get natives n ≡ Some (get_or natives n d)
there [] n d h = absurd (omega (arith, h))
there (native ∷ natives) zero d h = refl
there (native ∷ natives) (suc n) d h = there natives n d (omega (arith, h))

-- the entry with a number, if there is one
abbrev at_entry : List Native → Option ℕ → Option Native
at_entry natives None = None
at_entry natives (Some place) = slice_get natives place

module _ (script : Script) (name : List ℕ) where
  abbrev is_it : Native → Bool
  is_it native = pointwise nat_eq native.name name

  abbrev place : ℕ
  place = position_or_len is_it script.natives

  found_by : (b : Bool) → nat_lt place (length script.natives) ≡ b
      → slice_get script.natives place ≡ at_entry script.natives (cond b (Some place) None)
  found_by true e = refl
  found_by false e = slice_get_past script.natives place (ltb-false place (length script.natives) e)

  native_is : (entry : Option ℕ) → entry ≡ entry_of script name
      → native_of script name ≡ listed_or (at_entry script.natives entry) name
  native_is entry e =
      ap (λ o. listed_or o name) (find_at is_it script.natives
      ∙ found_by (nat_lt place (length script.natives)) refl
      ∙ ap (at_entry script.natives) (sym e))

  by_listed : (guest : Guest) (native : Native) → native_of script name ≡ native
      → guest.forms.now ≡ native.forms → guest.rest ≡ native.rest → guest.result ≡ native.result
      → IsGuest script name guest
  by_listed guest native is f r a = record {
    forms = f ∙ ap (λ (it : Native). it.forms) (sym is);
    rest = r ∙ ap (λ (it : Native). it.rest) (sym is);
    result = a ∙ ap (λ (it : Native). it.result) (sym is);
  }

  -- no entry
  pub guest_none : (guest : Guest) → None ≡ entry_of script name → guest.forms.now ≡ []
      → guest.rest ≡ Some Cell → guest.result ≡ Some (pos 0) → IsGuest script name guest
  guest_none guest e f r a = by_listed guest (unlisted name) (native_is None e) f r a

  -- an entry that isn't there
  pub guest_past : (guest : Guest) (at : ℕ) → Some at ≡ entry_of script name
      → None ≡ slice_get script.natives at
      → guest.forms.now ≡ [] → guest.rest ≡ Some Cell → guest.result ≡ Some (pos 0)
      → IsGuest script name guest
  guest_past guest at e past f r a =
      by_listed guest (unlisted name)
      (native_is (Some at) e ∙ ap (λ o. listed_or o name) (sym past)) f r a

  pub guest_some : (guest : Guest) (at : ℕ) (native : Native) → Some at ≡ entry_of script name
      → Some native ≡ slice_get script.natives at
      → guest.forms.now ≡ native.forms → guest.rest ≡ native.rest → guest.result ≡ native.result
      → IsGuest script name guest
  guest_some guest at native e there f r a =
      by_listed guest native (native_is (Some at) e ∙ ap (λ o. listed_or o name) (sym there)) f r a

  pub guest_listed : (guest : Guest) (at : ℕ) (native : Native) (natives : List Native)
      → Some at ≡ entry_of script name → natives ≡ script.natives
      → at < length natives → native ≡ get_or natives at native → guest.forms.now ≡ native.forms
      → guest.rest ≡ native.rest → guest.result ≡ native.result
      → IsGuest script name guest
  guest_listed guest at native natives e all within is f r a =
      guest_some guest at native e (ap Some is ∙ sym (there natives at native within)
      ∙ ap (λ its. slice_get its at) all) f r a

pub ruleset guests = (guest_none, guest_past, guest_some)

-- ---- by a native's number

got : {A B : Type 0} (f : A → B) (xs : List A) (n : ℕ)
    → slice_get (map f xs) n ≡ option_map f (slice_get xs n)
got f [] n = refl
got f (x ∷ xs) zero = refl
got f (x ∷ xs) (suc n) = got f xs n

-- the empty name is none of them
unnamed : (name : List ℕ) → 1 ≤ length name → pointwise nat_eq name [] ≡ false
unnamed [] h = absurd (omega (arith, h))
unnamed (x ∷ name) h = refl

none_passes : (natives : List Native) → All IsNative natives
    → position_or_len (λ (native : Native). pointwise nat_eq native.name []) natives
    ≡ length natives
none_passes [] h = refl
none_passes (native ∷ natives) h =
    ap (λ b. cond (not b) (1 + position_or_len
    (λ (it : Native). pointwise nat_eq it.name []) natives) 0)
    (unnamed native.name (All-head IsNative native natives h).name.some)
    ∙ ap (λ n. 1 + n) (none_passes natives (All-tail IsNative native natives h))
    ∙ (let e : 1 + length natives ≡ suc (length natives) = omega arith in e)

not_less : (n : ℕ) → nat_lt n n ≡ false
not_less n = by (nat_lt n n) refl where
  by : (b : Bool) → nat_lt n n ≡ b → b ≡ false
  by false e = refl
  by true e = let h = ltb-true n n e in absurd (omega (arith, h))

pub no_entry : (script : Script) → IsScript script → entry_of script [] ≡ None
no_entry script is =
    ap (λ n. cond (nat_lt n (length script.natives)) (Some n) None)
    (none_passes script.natives is.natives)
    ∙ ap (λ b. cond b (Some (length script.natives)) None) (not_less (length script.natives))

abbrev bound_it : Script → Record → BoundNative
bound_it script it = record { name = it.name; entry = entry_of script it.name }

module _ (script : Script) (natives : List Record) (bound : List BoundNative) (number : ℕ)
    (all : bound ≡ natives_of script natives) where
  of_it : slice_get bound number ≡ option_map (bound_it script) (slice_get natives number)
  of_it = ap (λ its. slice_get its number) all ∙ got (bound_it script) natives number

  none_by : (o : Option Record) → option_map (bound_it script) o ≡ None
      → unwrap_or (option_map (λ (it : Record). it.name) o) [] ≡ []
  none_by None e = refl
  none_by (Some it) e = absurd (cc e)

  -- one that isn't there
  pub named_none : None ≡ slice_get bound number → [] ≡ name_of natives number
  named_none e = sym (none_by (slice_get natives number) (sym (e ∙ of_it)))

  some_by : (o : Option Record) (native : BoundNative)
      → Some native ≡ option_map (bound_it script) o
      → (native.name ≡ unwrap_or (option_map (λ (it : Record). it.name) o) [])
      × (native.entry ≡ entry_of script native.name)
  some_by None native e = absurd (cc e)
  some_by (Some it) native e =
      let same : native ≡ record { name = it.name; entry = entry_of script it.name } = cc in (
        ap (λ (x : BoundNative). x.name) same,
        ap (λ (x : BoundNative). x.entry) same
            ∙ ap (entry_of script) (sym (ap (λ (x : BoundNative). x.name) same)),
      )

  -- one that is there
  pub named_some : (native : BoundNative) → Some native ≡ slice_get bound number
      → (native.name ≡ name_of natives number) × (native.entry ≡ entry_of script native.name)
  named_some native e = some_by (slice_get natives number) native (e ∙ of_it)
