-- Tables and their names, read back: a front, the records, what is between, the names, and the
-- rest.
use Rattle.std.proofs.Common.{◌≡◌, ◌+◌, ◌*◌, ◌^◌, ◌<◌, ◌≤◌, ℕ, zero, suc, List, [], ◌∷◌, ◌++◌}
use Rattle.std.proofs.Common.{get_or, length, drop, take, refl, sym, ap, ap₂, ◌∙◌, arith}
use Rattle.std.specs.Prelude.{FitsSigned, All, slice_index}
use Rattle.std.specs.Int.{w32, cast_unsigned}
use Rattle.std.proofs.lemmas.List.{append_assoc, drop_at, take_at, length-append}
use Rattle.std.proofs.lemmas.List.Elements.{All-head, All-tail}
use Rattle.amx_ops.specs.declared.amx.Record.{Record}
use Rattle.amx_ops.specs.Writable.{IsWritableName, names_size}
use Rattle.amx_format.specs.Numbers.{word_at, cell_at}
use Rattle.amx_ops.specs.Names.{name_from}
use Rattle.amx_format.specs.Records.{record_at, records_at}
use Rattle.amx_format.specs.Layout.{word, table, names}
use Rattle.amx_format.specs.Ranges.{AddressesFit}
use Rattle.amx_format.proofs.Numbers.{length-word, word_at-word, cell_at-word, name_from-name}
use Rattle.amx_format.proofs.RowLaws.{names_size-cons}

pub length-table : (place : ℕ) (records : List Record)
    → length (table place records) ≡ 8 * length records
length-table place [] = refl
length-table place (it ∷ records) =
    let ih = length-table (place + (length it.name + 1)) records in
    simp (length-append, length-word) (omega (arith, ih))

pub length-names : (records : List Record) → length (names records) ≡ names_size records
length-names [] = refl
length-names (it ∷ records) =
    let ih = length-names records in
    let size = names_size-cons it records in
    simp length-append (omega (arith, ih, size))

-- ---- the records of a front and of what is behind

pub length-records_at : (bytes : List ℕ) (place n : ℕ) → length (records_at bytes place n) ≡ n
length-records_at bytes place zero = refl
length-records_at bytes place (suc n) =
    let ih = length-records_at bytes (place + 8) n in omega (arith, ih)

records_at-suc : (bytes : List ℕ) (place n m : ℕ) → n ≡ suc m
    → records_at bytes place n ≡ record_at bytes place ∷ records_at bytes (place + 8) m
records_at-suc bytes place n m e = rw e refl

records_at-split : (bytes : List ℕ) (place n m : ℕ)
    → records_at bytes place (n + m)
    ≡ records_at bytes place n ++ records_at bytes (place + 8 * n) m
records_at-split bytes place zero m =
    sym (ap (λ k. records_at bytes k m) (omega arith) ∙ ap (records_at bytes place) (omega arith))
records_at-split bytes place (suc n) m =
    let moved : records_at bytes (place + 8 + 8 * n) m ≡ records_at bytes (place + 8 * suc n) m =
    ap (λ k. records_at bytes k m) (omega arith) in
    records_at-suc bytes place (suc n + m) (n + m) (omega arith)
    ∙ ap (λ (rs : List Record). record_at bytes place ∷ rs) (records_at-split bytes (place + 8) n m)
    ∙ ap (λ (rs : List Record). record_at bytes place ∷ (records_at bytes (place + 8) n ++ rs))
    moved

pub record Parted (bytes : List ℕ) (place : ℕ) (a b : List Record) : Type 0 where
  pub first : records_at bytes place (length a) ≡ a
  pub rest : records_at bytes (place + 8 * length a) (length b) ≡ b

pub parted : (bytes : List ℕ) (place : ℕ) (a b : List Record)
    → records_at bytes place (length (a ++ b)) ≡ a ++ b → Parted bytes place a b
parted bytes place a b e =
    let n : ℕ = length a in
    let joined : records_at bytes place n ++ records_at bytes (place + 8 * n) (length b) ≡ a ++ b =
    sym (ap (records_at bytes place) (length-append a b)
    ∙ records_at-split bytes place n (length b)) ∙ e in
    let long : length (records_at bytes place n) ≡ n = length-records_at bytes place n in
    record {
      first =
          sym (take_at (records_at bytes place n)
          (records_at bytes (place + 8 * n) (length b)) n long) ∙ ap (take n) joined
          ∙ take_at a b n refl;
      rest =
          sym (drop_at (records_at bytes place n)
          (records_at bytes (place + 8 * n) (length b)) n long) ∙ ap (drop n) joined
          ∙ drop_at a b n refl;
    }

-- ---- the records that the writer puts

-- the shape of a record, its table, and what is around them
module _ (front a b table mid name names back : List ℕ) where
  abbrev whole : List ℕ
  whole = front ++ ((a ++ (b ++ table)) ++ (mid ++ ((name ++ 0 ∷ names) ++ back)))

  at_address : whole ≡ front ++ (a ++ (b ++ (table ++ (mid ++ ((name ++ 0 ∷ names) ++ back)))))
  at_address = simp append_assoc

  at_place : whole ≡ (front ++ a) ++ (b ++ (table ++ (mid ++ ((name ++ 0 ∷ names) ++ back))))
  at_place = simp append_assoc

  at_rest : whole ≡ (front ++ (a ++ b)) ++ (table ++ ((mid ++ (name ++ 0 ∷ [])) ++ (names ++ back)))
  at_rest = simp append_assoc

  at_name : whole ≡ (front ++ ((a ++ (b ++ table)) ++ mid)) ++ (name ++ 0 ∷ (names ++ back))
  at_name = simp append_assoc

  at_zero : whole ≡ ((front ++ ((a ++ (b ++ table)) ++ mid)) ++ name) ++ 0 ∷ (names ++ back)
  at_zero = simp append_assoc

-- records at a place, and the place where their names begin
pub record Stand (front mid : List ℕ) (at place : ℕ) (records : List Record) : Type 0 where
  pub front_long : length front ≡ at
  pub mid_long : at + 8 * length records + length mid ≡ place
  pub below : place + names_size records < 2 ^ 32

rest_stands : (front mid a b : List ℕ) (at place : ℕ) (it : Record) (records : List Record)
    → length a ≡ 4 → length b ≡ 4
    → Stand front mid at place (it ∷ records)
    → Stand (front ++ (a ++ b)) (mid ++ (it.name ++ 0 ∷ [])) (at + 8)
    (place + (length it.name + 1)) records
rest_stands front mid a b at place it records la lb s = record {
  front_long = simp length-append (omega (arith, la, lb, s.front_long));
  mid_long = simp length-append (omega (arith, s.mid_long));
  below = omega (arith, s.below, names_size-cons it records);
}

-- what is put for a record and those behind it, with what is around them
abbrev put_down : (front mid back : List ℕ) (place : ℕ) (it : Record) (records : List Record)
    → List ℕ
put_down front mid back place it records =
    whole front (word (cast_unsigned w32 it.address)) (word place)
    (table (place + (length it.name + 1)) records) mid it.name (names records) back

-- the place of its name
pointed : (front mid back : List ℕ) (at place spot : ℕ) (it : Record) (records : List Record)
    → Stand front mid at place (it ∷ records) → spot ≡ at + 4
    → word_at (put_down front mid back place it records) spot ≡ place
pointed front mid back at place spot it records s e =
    let a = word (cast_unsigned w32 it.address) in
    let rest : List ℕ = table (place + (length it.name + 1)) records in
    let size = names_size-cons it records in
    ap (λ (bytes : List ℕ). word_at bytes spot)
    (at_place front a (word place) rest mid it.name (names records) back)
    ∙ word_at-word (front ++ a) (rest ++ (mid ++ ((it.name ++ 0 ∷ names records) ++ back))) spot
    place (simp (length-append, length-word) (omega (arith, s.front_long, e)))
    (omega (arith, size, s.below))

pub records_at-table : (front mid back : List ℕ) (at place : ℕ) (records : List Record)
    → AddressesFit records → All IsWritableName records
    → Stand front mid at place records
    → records_at (front ++ (table place records ++ (mid ++ (names records ++ back)))) at
    (length records) ≡ records
records_at-table front mid back at place [] fits good s = refl
records_at-table front mid back at place (it ∷ records) fits good s =
    let a = word (cast_unsigned w32 it.address) in
    let b = word place in
    let next : ℕ = place + (length it.name + 1) in
    let rest : List ℕ = table next records in
    let size = names_size-cons it records in
    let known : length rest ≡ 8 * length records = length-table next records in
    let text : List ℕ = whole front a b rest mid it.name (names records) back in
    let address : cell_at text at ≡ it.address =
    ap (λ (bytes : List ℕ). cell_at bytes at)
    (at_address front a b rest mid it.name (names records) back)
    ∙ cell_at-word front (b ++ (rest ++ (mid ++ ((it.name ++ 0 ∷ names records) ++ back)))) at
    it.address s.front_long
    (All-head (λ (r : Record). FitsSigned w32 r.address) it records fits) in
    let pointer : word_at text (at + 4) ≡ place =
    pointed front mid back at place (at + 4) it records s refl in
    let there : drop place text ≡ it.name ++ 0 ∷ (names records ++ back) =
    ap (drop place) (at_name front a b rest mid it.name (names records) back)
    ∙ drop_at (front ++ ((a ++ (b ++ rest)) ++ mid)) (it.name ++ 0 ∷ (names records ++ back)) place
    (simp (length-append, length-word) (omega (arith, known, s.front_long, s.mid_long))) in
    let name : name_from (drop (word_at text (at + 4)) text) ≡ it.name =
    ap (λ n. name_from (drop n text)) pointer ∙ ap name_from there
    ∙ name_from-name it.name (names records ++ back)
    (All-head IsWritableName it records good).no_zero in
    let tail : records_at text (at + 8) (length records) ≡ records =
    ap (λ (bytes : List ℕ). records_at bytes (at + 8) (length records))
    (at_rest front a b rest mid it.name (names records) back)
    ∙ records_at-table (front ++ (a ++ b)) (mid ++ (it.name ++ 0 ∷ [])) back (at + 8) next records
    (All-tail (λ (r : Record). FitsSigned w32 r.address) it records fits)
    (All-tail IsWritableName it records good)
    (rest_stands front mid a b at place it records (length-word _) (length-word place) s) in
    rw (address, name, tail) refl

-- a name from a place on, which ends before another
pub record IsNamed (text : List ℕ) (first past place : ℕ) : Type 0 where
  pub behind : first ≤ place
  pub end : ℕ
  pub from : place ≤ end
  pub before : end < past
  pub zero_ : slice_index text end ≡ 0

-- the byte behind a front
get_or-at : (front rest : List ℕ) (byte place : ℕ) → length front ≡ place
    → get_or (front ++ byte ∷ rest) place 0 ≡ byte
get_or-at [] rest byte zero e = refl
get_or-at [] rest byte (suc place) e = absurd (omega (arith, e))
get_or-at (x ∷ front) rest byte zero e = absurd (omega (arith, e))
get_or-at (x ∷ front) rest byte (suc place) e = get_or-at front rest byte place (omega (arith, e))

-- the zero byte behind its name
ended : (front mid back : List ℕ) (at place : ℕ) (it : Record) (records : List Record)
    → Stand front mid at place (it ∷ records)
    → slice_index (put_down front mid back place it records) (place + length it.name) ≡ 0
ended front mid back at place it records s =
    let a = word (cast_unsigned w32 it.address) in
    let rest : List ℕ = table (place + (length it.name + 1)) records in
    let known = length-table (place + (length it.name + 1)) records in
    ap (λ (bytes : List ℕ). get_or bytes (place + length it.name) 0)
    (at_zero front a (word place) rest mid it.name (names records) back)
    ∙ get_or-at ((front ++ ((a ++ (word place ++ rest)) ++ mid)) ++ it.name) (names records ++ back)
    0 (place + length it.name)
    (simp (length-append, length-word) (omega (arith, known, s.front_long, s.mid_long)))

pub named-table : (front mid back : List ℕ) (at place : ℕ) (records : List Record)
    → Stand front mid at place records
    → (index : ℕ) → index < length records
    → IsNamed (front ++ (table place records ++ (mid ++ (names records ++ back)))) place
    (place + names_size records)
    (word_at (front ++ (table place records ++ (mid ++ (names records ++ back))))
    (at + 8 * index + 4))
named-table front mid back at place [] s index h = absurd (omega arith)
named-table front mid back at place (it ∷ records) s zero h =
    let size = names_size-cons it records in
    let pointer = pointed front mid back at place (at + 8 * 0 + 4) it records s (omega arith) in
    record {
      behind = omega (arith, pointer);
      end = place + length it.name;
      from = omega (arith, pointer);
      before = omega (arith, size);
      zero_ = ended front mid back at place it records s;
    }
named-table front mid back at place (it ∷ records) s (suc index) h =
    let a = word (cast_unsigned w32 it.address) in
    let b = word place in
    let next : ℕ = place + (length it.name + 1) in
    let rest : List ℕ = table next records in
    let size = names_size-cons it records in
    let text : List ℕ = whole front a b rest mid it.name (names records) back in
    let other : List ℕ =
    (front ++ (a ++ b)) ++ (rest ++
    ((mid ++ (it.name ++ 0 ∷ [])) ++ (names records ++ back))) in
    let same : text ≡ other = at_rest front a b rest mid it.name (names records) back in
    let known : IsNamed other next (next + names_size records)
    (word_at other (at + 8 + 8 * index + 4)) =
    named-table (front ++ (a ++ b)) (mid ++ (it.name ++ 0 ∷ [])) back (at + 8) next records
    (rest_stands front mid a b at place it records (length-word _) (length-word place) s) index
    (omega arith) in
    let pointer : word_at text (at + 8 * suc index + 4) ≡ word_at other (at + 8 + 8 * index + 4) =
    ap₂ (λ (bytes : List ℕ) (n : ℕ). word_at bytes n) same (omega arith) in
    record {
      behind = omega (arith, pointer, known.behind);
      end = known.end;
      from = omega (arith, pointer, known.from);
      before = omega (arith, known.before, size);
      zero_ = ap (λ (bytes : List ℕ). get_or bytes known.end 0) same ∙ known.zero_;
    }
