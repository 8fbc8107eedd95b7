-- Whole lines: what is spelled is read, and what is read is spelled.
use Rattle.std.proofs.Common.{◌≡◌, ◌≢◌, ◌∙◌, ◌/◌, ◌%◌, ◌^◌, ◌<◌, ◌≤◌, ◌==◌, ◌&&◌, ◌++◌, ℕ, ℤ}
use Rattle.std.proofs.Common.{pos, List, [], ◌∷◌, Bool, true, false, cond, Option, None, Some, All}
use Rattle.std.proofs.Common.{refl, sym, ap, subst, arith, codes, nat_le, append_assoc, le-leb}
use Rattle.std.proofs.Common.{leb-true}
use Rattle.std.specs.Fmt.{decimal, signed_decimal}
use Rattle.std.specs.List.{flat_map}
use Rattle.std.specs.Prelude.{option_and_then}
use Rattle.std.proofs.lemmas.Bool.{and_parts, and_from}
use Rattle.std.proofs.lemmas.Bool.Decides.{nat_tests}
use Rattle.std.proofs.lemmas.List.Elements.{All-nil, All-cons, All-head, All-tail}
use Rattle.host_script.specs.Text.{character_text}
use Rattle.amx_ops.specs.declared.amx.Record.{Record}
use Rattle.amx_text.specs.Lines.{Header, header_text}
use Rattle.amx_text.specs.Forms.{HeaderFits, RecordFits}
use Rattle.amx_text.specs.Readers.{after_word, number_at, cell_at, character_at, Run, Whole}
use Rattle.amx_text.specs.Readers.{field_at, fits_flags, fits_version, header_end, entry_at}
use Rattle.amx_text.specs.Readers.{room_at}
use Rattle.amx_text.specs.Readers.{store_at, code_at, version_at, header_at, record_text}
use Rattle.amx_text.proofs.LineLaws.{characters_are}
use Rattle.amx_text.proofs.ReaderLaws.{same_pair, word_is, word_found, Stops, number_found}
use Rattle.amx_text.proofs.ReaderLaws.{number_is, cell_found, cell_is}
use Rattle.amx_text.proofs.PartReads.{IsNamed, character_found, character_is, run_is, run_found}
use Rattle.amx_text.proofs.PartReads.{run_one}

-- ---- one part behind another

pub and_then_some : {A B : Type 0} (f : A → Option B) (o : Option A) (y : B)
    → option_and_then f o ≡ Some y → (x : A) × ((o ≡ Some x) × (f x ≡ Some y))
and_then_some f None y e = absurd (let no : ⊥ = cc in no)
and_then_some f (Some x) y e = (x, (refl, e))

-- a part between a word and what stands behind it
pub part_of : (word digits more rest : List ℕ)
    → (word ++ (digits ++ more)) ++ rest ≡ word ++ (digits ++ (more ++ rest))
part_of word digits more rest =
    append_assoc word (digits ++ more) rest ∙ ap (λ t. word ++ t) (append_assoc digits more rest)

-- ---- the header

field_found : (word : List ℕ) (n : ℕ) (rest : List ℕ) → n < 2 ^ 32 → Stops rest
    → field_at word (word ++ (decimal n ++ rest)) ≡ Some (n, rest)
field_found word n rest small h =
    ap (option_and_then number_at) (word_found word (decimal n ++ rest))
    ∙ number_found n rest small h

record IsField (word : List ℕ) (n : ℕ) (text rest : List ℕ) : Type 0 where
  fits : n < 2 ^ 32
  is : text ≡ word ++ (decimal n ++ rest)

field_is : (word : List ℕ) (n : ℕ) (text rest : List ℕ) → field_at word text ≡ Some (n, rest)
    → IsField word n text rest
field_is word n text rest e =
    let it = and_then_some number_at (after_word word text) (n, rest) e in
    let number = number_is n it.0 rest it.1.1 in
    record {
      fits = number.fits;
      is = word_is word text it.0 it.1.0 ∙ ap (λ t. word ++ t) number.is;
    }

-- the text of a header, with what stands behind its line
abbrev behind_entry : Header → List ℕ → List ℕ
behind_entry it rest = signed_decimal it.entry ++ (10 ∷ rest)

abbrev behind_room : Header → List ℕ → List ℕ
behind_room it rest = codes " entry " ++ behind_entry it rest

abbrev behind_store : Header → List ℕ → List ℕ
behind_store it rest = codes " room " ++ (decimal it.room ++ behind_room it rest)

abbrev behind_code : Header → List ℕ → List ℕ
behind_code it rest = codes " data " ++ (decimal it.store ++ behind_store it rest)

abbrev behind_version : Header → List ℕ → List ℕ
behind_version it rest = codes " code " ++ (decimal it.code ++ behind_code it rest)

abbrev behind_flags : Header → List ℕ → List ℕ
behind_flags it rest = codes " version " ++ (decimal it.version ++ behind_version it rest)

header_parts : (it : Header) (rest : List ℕ)
    → header_text it ++ rest ≡ codes "amx flags " ++ (decimal it.flags ++ behind_flags it rest)
header_parts it rest =
    let a : List ℕ → List ℕ = λ t. codes "amx flags " ++ (decimal it.flags ++ t) in
    let b : List ℕ → List ℕ = λ t. a (codes " version " ++ (decimal it.version ++ t)) in
    let c : List ℕ → List ℕ = λ t. b (codes " code " ++ (decimal it.code ++ t)) in
    let d : List ℕ → List ℕ = λ t. c (codes " data " ++ (decimal it.store ++ t)) in
    let e : List ℕ → List ℕ = λ t. d (codes " room " ++ (decimal it.room ++ t)) in
    part_of (codes "amx flags ") (decimal it.flags) _ rest
    ∙ ap a (part_of (codes " version ") (decimal it.version) _ rest)
    ∙ ap b (part_of (codes " code ") (decimal it.code) _ rest)
    ∙ ap c (part_of (codes " data ") (decimal it.store) _ rest)
    ∙ ap d (part_of (codes " room ") (decimal it.room) _ rest)
    ∙ ap e (part_of (codes " entry ") (signed_decimal it.entry) (10 ∷ []) rest)

flags_fit : (it : Header) → HeaderFits it → fits_flags it.flags ≡ true
flags_fit it h =
    and_from (nat_le it.flags 65535) (it.flags / 2 % 4 == 0)
    (le-leb it.flags 65535 (omega (arith, h.flags.0))) (rw h.flags.1 refl)

version_fits : (it : Header) → HeaderFits it → fits_version it.version ≡ true
version_fits it h =
    and_from (nat_le 1 it.version) (nat_le it.version 8) (le-leb 1 it.version h.version.0)
    (le-leb it.version 8 h.version.1)

closed : (it : Header) (rest : List ℕ) → HeaderFits it
    → header_end it (10 ∷ rest) ≡ Some (it, rest)
closed it rest h = rw (flags_fit it h, version_fits it h) refl

pub header_found : (it : Header) (rest : List ℕ) → HeaderFits it
    → header_at (header_text it ++ rest) ≡ Some (it, rest)
header_found it rest h =
    let entry : option_and_then cell_at (after_word (codes " entry ") (behind_room it rest))
    ≡ Some (it.entry, 10 ∷ rest) =
    ap (option_and_then cell_at) (word_found (codes " entry ") (behind_entry it rest))
    ∙ cell_found it.entry (10 ∷ rest) h.entry refl in
    ap header_at (header_parts it rest)
    ∙ ap (option_and_then version_at)
    (field_found (codes "amx flags ") it.flags (behind_flags it rest) (omega (arith, h.flags.0))
    refl)
    ∙ ap (option_and_then (code_at it.flags))
    (field_found (codes " version ") it.version (behind_version it rest)
    (omega (arith, h.version.1)) refl)
    ∙ ap (option_and_then (store_at it.flags it.version))
    (field_found (codes " code ") it.code (behind_code it rest) h.code refl)
    ∙ ap (option_and_then (room_at it.flags it.version it.code))
    (field_found (codes " data ") it.store (behind_store it rest) h.store refl)
    ∙ ap (option_and_then (entry_at it.flags it.version it.code it.store))
    (field_found (codes " room ") it.room (behind_room it rest) h.room refl)
    ∙ ap (λ o. option_and_then (λ (found : ℤ × List ℕ). header_end (record {
      flags = it.flags;
      version = it.version;
      code = it.code;
      store = it.store;
      room = it.room;
      entry = found.0;
    }) found.1) o) entry
    ∙ closed it rest h

pub record IsHeader (it : Header) (text rest : List ℕ) : Type 0 where
  pub fits : HeaderFits it
  pub is : text ≡ header_text it ++ rest

fitting : (a b : Bool) (it found : Header) (text rest : List ℕ)
    → cond {A = Option (Header × List ℕ)} (a && b) (Some (found, text)) None ≡ Some (it, rest)
    → (a ≡ true) × (b ≡ true) × (found ≡ it) × (text ≡ rest)
fitting true true it found text rest e =
    let pair : (found ≡ it) × (text ≡ rest) = same_pair e in (refl, refl, pair.0, pair.1)
fitting true false it found text rest e = absurd (let no : ⊥ = cc in no)
fitting false b it found text rest e = absurd (let no : ⊥ = cc in no)

flags_are : (flags : ℕ) → fits_flags flags ≡ true → (flags < 2 ^ 16) × (flags / 2 % 4 ≡ 0)
flags_are flags h =
    let both = and_parts (nat_le flags 65535) (flags / 2 % 4 == 0) h in
    let low = leb-true flags 65535 both.0 in
    (omega (arith, low), grind (arith, nat_tests, both.1))

version_is : (version : ℕ) → fits_version version ≡ true → (1 ≤ version) × (version ≤ 8)
version_is version h =
    let both = and_parts (nat_le 1 version) (nat_le version 8) h in
    (leb-true 1 version both.0, leb-true version 8 both.1)

pub header_is : (it : Header) (text rest : List ℕ) → header_at text ≡ Some (it, rest)
    → IsHeader it text rest
header_is it text rest e =
    let a = and_then_some version_at (field_at (codes "amx flags ") text) (it, rest) e in
    let flags : ℕ = a.0.0 in
    let b = and_then_some (code_at a.0.0) (field_at (codes " version ") a.0.1) (it, rest) a.1.1 in
    let c =
    and_then_some (store_at a.0.0 b.0.0) (field_at (codes " code ") b.0.1) (it, rest) b.1.1 in
    let d =
    and_then_some (room_at a.0.0 b.0.0 c.0.0) (field_at (codes " data ") c.0.1) (it, rest)
    c.1.1 in
    let f =
    and_then_some (entry_at a.0.0 b.0.0 c.0.0 d.0.0) (field_at (codes " room ") d.0.1) (it, rest)
    d.1.1 in
    entry_parts a.0.0 b.0.0 c.0.0 d.0.0 f.0 it text rest {a = a.0.1} {b = b.0.1} {c = c.0.1}
    {d = d.0.1}
    (field_is (codes "amx flags ") a.0.0 text a.0.1 a.1.0)
    (field_is (codes " version ") b.0.0 a.0.1 b.0.1 b.1.0)
    (field_is (codes " code ") c.0.0 b.0.1 c.0.1 c.1.0)
    (field_is (codes " data ") d.0.0 c.0.1 d.0.1 d.1.0)
    (field_is (codes " room ") f.0.0 d.0.1 f.0.1 f.1.0) f.1.1
  where
    entry_parts : (flags version code store : ℕ) (room : ℕ × List ℕ) (it : Header)
        (text rest : List ℕ) {a b c d : List ℕ}
        → IsField (codes "amx flags ") flags text a → IsField (codes " version ") version a b
        → IsField (codes " code ") code b c → IsField (codes " data ") store c d
        → IsField (codes " room ") room.0 d room.1
        → entry_at flags version code store room ≡ Some (it, rest) → IsHeader it text rest
    entry_parts flags version code store room it text rest k l m n o e =
        let head : ℤ → Header = λ entry. record {
          flags = flags;
          version = version;
          code = code;
          store = store;
          room = room.0;
          entry = entry;
        } in
        let p =
        and_then_some (λ (found : ℤ × List ℕ). header_end (record {
          flags = flags;
          version = version;
          code = code;
          store = store;
          room = room.0;
          entry = found.0;
        }) found.1)
        (option_and_then cell_at (after_word (codes " entry ") room.1)) (it, rest) e in
        let q =
        and_then_some cell_at (after_word (codes " entry ") room.1) p.0 p.1.0 in
        let cell = cell_is p.0.0 q.0 p.0.1 q.1.1 in
        let r =
        and_then_some (λ (end : List ℕ).
        cond (fits_flags flags && fits_version version) (Some (head p.0.0, end)) None)
        (after_word (codes "\n") p.0.1) (it, rest) p.1.1 in
        let s =
        fitting (fits_flags flags) (fits_version version) it (head p.0.0) r.0 rest r.1.1 in
        let found : Header = head p.0.0 in
        let entry_is : room.1 ≡ behind_room (head p.0.0) r.0 =
        word_is (codes " entry ") room.1 q.0 q.1.0
        ∙ ap (λ t. codes " entry " ++ t)
        (cell.is ∙ ap (λ t. signed_decimal p.0.0 ++ t) (word_is (codes "\n") p.0.1 r.0 r.1.0)) in
        let whole : text ≡ header_text (head p.0.0) ++ r.0 =
        k.is
        ∙ ap (λ t. codes "amx flags " ++ (decimal flags ++ t)) (l.is
        ∙ ap (λ t. codes " version " ++ (decimal version ++ t)) (m.is
        ∙ ap (λ t. codes " code " ++ (decimal code ++ t)) (n.is
        ∙ ap (λ t. codes " data " ++ (decimal store ++ t)) (o.is
        ∙ ap (λ t. codes " room " ++ (decimal room.0 ++ t)) entry_is))))
        ∙ sym (header_parts (head p.0.0) r.0) in
        let fits : HeaderFits (head p.0.0) = record {
          flags = flags_are flags s.0;
          version = version_is version s.1;
          code = m.fits;
          store = n.fits;
          room = o.fits;
          entry = cell.fits;
        } in
        subst (λ x. IsHeader x text rest) s.2
        (subst (λ t. IsHeader (head p.0.0) text t) s.3 (record { fits = fits; is = whole }))

-- ---- records

named_of : (name : List ℕ) → All (λ byte. byte < 256) name → All (λ byte. byte ≢ 0) name
    → All IsNamed name
named_of [] h k = All-nil IsNamed
named_of (byte ∷ name) h k =
    All-cons IsNamed byte name
    (record {
      small = All-head (λ byte. byte < 256) byte name h;
      some = All-head (λ byte. byte ≢ 0) byte name k;
    })
    (named_of name (All-tail (λ byte. byte < 256) byte name h)
    (All-tail (λ byte. byte ≢ 0) byte name k))

small_of : (name : List ℕ) → All IsNamed name → All (λ byte. byte < 256) name
small_of [] h = All-nil (λ byte. byte < 256)
small_of (byte ∷ name) h =
    All-cons (λ byte. byte < 256) byte name (All-head IsNamed byte name h).small
    (small_of name (All-tail IsNamed byte name h))

some_of : (name : List ℕ) → All IsNamed name → All (λ byte. byte ≢ 0) name
some_of [] h = All-nil (λ byte. byte ≢ 0)
some_of (byte ∷ name) h =
    All-cons (λ byte. byte ≢ 0) byte name (All-head IsNamed byte name h).some
    (some_of name (All-tail IsNamed byte name h))

-- the characters of a name
abbrev characters : List ℕ → List ℕ
characters name = flat_map (λ byte. character_text (pos byte)) name

pub name_whole : (name rest : List ℕ) → All IsNamed name
    → Whole character_at name (characters name ++ (34 ∷ rest)) (34 ∷ rest)
name_whole name rest h = record {
  run =
      (run_found character_at (λ byte. character_text (pos byte)) IsNamed (λ t. Unit {0})
      (λ byte t k u. character_found byte t k) (λ byte t. tt) name (34 ∷ rest) h tt).0;
  stops = refl;
}

ending : (c rest : List ℕ)
    → ((c ++ (34 ∷ [])) ++ (10 ∷ [])) ++ rest ≡ c ++ (34 ∷ 10 ∷ rest)
ending c rest = append_assoc (c ++ (34 ∷ [])) (10 ∷ []) rest ∙ append_assoc c (34 ∷ []) (10 ∷ rest)

record_shape : (it : Record) (rest : List ℕ)
    → record_text it ++ rest
    ≡ signed_decimal it.address ++ (32 ∷ 34 ∷ (characters it.name ++ (34 ∷ 10 ∷ rest)))
record_shape it rest =
    append_assoc (signed_decimal it.address) _ rest
    ∙ ap (λ t. signed_decimal it.address ++ (32 ∷ 34 ∷ t))
    (ap (λ c. ((c ++ (34 ∷ [])) ++ (10 ∷ [])) ++ rest) (sym (characters_are it.name))
    ∙ ending (characters it.name) rest)

-- no record stands there
abbrev pub NoRecord : List ℕ → Type 0
NoRecord text = (it : Record) (rest : List ℕ) → RecordFits it → text ≡ record_text it ++ rest → ⊥

record_address : (it : Record) (text rest : List ℕ) → RecordFits it
    → text ≡ record_text it ++ rest
    → cell_at text ≡ Some (it.address, 32 ∷ 34 ∷ (characters it.name ++ (34 ∷ 10 ∷ rest)))
record_address it text rest h is =
    ap cell_at (is ∙ record_shape it rest) ∙ cell_found it.address _ h.address refl

pub no_address : (text : List ℕ) → cell_at text ≡ None → NoRecord text
no_address text e it rest h is =
    let a = record_address it text rest h is in let no : ⊥ = cc in no

module _ (text : List ℕ) (address : ℤ) (behind : List ℕ)
    (first : cell_at text ≡ Some (address, behind)) where
  quote_is : (it : Record) (rest : List ℕ) → RecordFits it → text ≡ record_text it ++ rest
      → behind ≡ 32 ∷ 34 ∷ (characters it.name ++ (34 ∷ 10 ∷ rest))
  quote_is it rest h is =
      let a = record_address it text rest h is in
      let pair : (address ≡ it.address)
      × (behind ≡ 32 ∷ 34 ∷ (characters it.name ++ (34 ∷ 10 ∷ rest))) =
      same_pair (sym first ∙ a) in
      pair.1

  pub no_quote : after_word (codes " \"") behind ≡ None → NoRecord text
  no_quote e it rest h is =
      let a = ap (after_word (codes " \"")) (quote_is it rest h is)
      ∙ word_found (codes " \"") (characters it.name ++ (34 ∷ 10 ∷ rest)) in
      let no : ⊥ = cc in no

  module _ (chars : List ℕ) (quote : after_word (codes " \"") behind ≡ Some chars) where
    chars_are : (it : Record) (rest : List ℕ) → RecordFits it → text ≡ record_text it ++ rest
        → chars ≡ characters it.name ++ (34 ∷ 10 ∷ rest)
    chars_are it rest h is =
        let a = ap (after_word (codes " \"")) (quote_is it rest h is)
        ∙ word_found (codes " \"") (characters it.name ++ (34 ∷ 10 ∷ rest)) in
        let both : Some chars ≡ Some (characters it.name ++ (34 ∷ 10 ∷ rest)) = sym quote ∙ a in
        let same : chars ≡ characters it.name ++ (34 ∷ 10 ∷ rest) = cc in same

    module _ (name end : List ℕ) (whole : Whole character_at name chars end) where
      end_is : (it : Record) (rest : List ℕ) → RecordFits it → text ≡ record_text it ++ rest
          → end ≡ 34 ∷ 10 ∷ rest
      end_is it rest h is =
          let w = name_whole it.name (10 ∷ rest) (named_of it.name h.bytes h.name.no_zero) in
          (run_one character_at name it.name chars end (34 ∷ 10 ∷ rest) whole.run whole.stops
          (subst (λ t. Run character_at it.name t (34 ∷ 10 ∷ rest)) (sym (chars_are it rest h is))
          w.run) w.stops).1

      pub no_name : after_word (codes "\"") end ≡ None → NoRecord text
      no_name e it rest h is =
          let a = ap (after_word (codes "\"")) (end_is it rest h is)
          ∙ word_found (codes "\"") (10 ∷ rest) in
          let no : ⊥ = cc in no

      module _ (line : List ℕ) (closes : after_word (codes "\"") end ≡ Some line) where
        pub no_line : after_word (codes "\n") line ≡ None → NoRecord text
        no_line e it rest h is =
            let a = ap (after_word (codes "\"")) (end_is it rest h is)
            ∙ word_found (codes "\"") (10 ∷ rest) in
            let both : Some line ≡ Some (10 ∷ rest) = sym closes ∙ a in
            let same : line ≡ 10 ∷ rest = cc in
            let b = ap (after_word (codes "\n")) same ∙ word_found (codes "\n") rest in
            let no : ⊥ = cc in no

        pub a_record : (rest : List ℕ) → after_word (codes "\n") line ≡ Some rest
            → RecordFits (record { address = address; name = name })
            × (text ≡ record_text (record { address = address; name = name }) ++ rest)
        a_record rest e =
            let cell = cell_is address text behind first in
            let it =
            run_is character_at (λ byte. character_text (pos byte)) IsNamed
            (λ byte t r k. let c = character_is byte t r k in (c.named, c.is)) name chars end
            whole.run in
            let tail : end ≡ 34 ∷ 10 ∷ rest =
            word_is (codes "\"") end line closes
            ∙ ap (λ t. 34 ∷ t) (word_is (codes "\n") line rest e) in
            let spelled : text
            ≡ signed_decimal address ++ (32 ∷ 34 ∷ (characters name ++ (34 ∷ 10 ∷ rest))) =
            cell.is
            ∙ ap (λ t. signed_decimal address ++ t) (word_is (codes " \"") behind chars quote
            ∙ ap (λ t. 32 ∷ 34 ∷ t) (it.1 ∙ ap (λ t. characters name ++ t) tail)) in (
              record {
                address = cell.fits;
                bytes = small_of name it.0;
                name = record { no_zero = some_of name it.0 };
              },
              spelled ∙ sym (record_shape (record { address = address; name = name }) rest),
            )
