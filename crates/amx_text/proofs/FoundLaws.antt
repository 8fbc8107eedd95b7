-- The first fault of a draft, part by part: its size, its addresses and its counts, then what the
-- verifier tells.
use Rattle.std.proofs.Common.{◌≡◌, ◌∙◌, ◌+◌, ◌*◌, ◌/◌, ◌<◌, ◌≤◌, ◌^◌, ◌-◌, ◌==◌, ◌&&◌, ◌++◌, ℕ}
use Rattle.std.proofs.Common.{ℤ, List}
use Rattle.std.proofs.Common.{[], ◌∷◌, Bool, true, false, cond, not, Option, None, Some, Result, Ok}
use Rattle.std.proofs.Common.{Err, length}
use Rattle.std.proofs.Common.{take, min, max, nat_le, nat_lt, refl, sym, ap, subst, arith, ◌⊎◌, inl}
use Rattle.std.proofs.Common.{inr, get_or}
use Rattle.std.proofs.Common.{length-append, leb-true, ltb-true, ltb-false, eqb-true, lt-ltb}
use Rattle.std.proofs.Common.{le-leb, unwrap_or}
use Rattle.std.specs.List.{position, position_or_len}
use Rattle.std.specs.Option.{option_or}
use Rattle.std.specs.Prelude.{if◌then◌else◌, option_map}
use Rattle.std.proofs.lemmas.Bool.{and_parts, and_from}
use Rattle.std.proofs.lemmas.List.{take_more}
use Rattle.std.proofs.lemmas.List.Sums.{sum_by-append, prefix_len-le-length}
use Rattle.amx_ops.specs.declared.amx.Amx.{Amx}
use Rattle.amx_ops.specs.declared.amx.Record.{Record}
use Rattle.amx_ops.specs.Valid.{Fault, Opcode, Cut, Target, CaseTable, Native, Register, ByteCount}
use Rattle.amx_ops.specs.Valid.{Entry}
use Rattle.amx_ops.specs.Writable.{code_place, cells_limit, memory_limit, table_size, names_size}
use Rattle.amx_ops.specs.Writable.{names_end}
use Rattle.amx_verify.specs.declared.fault.VerifyFault.{VerifyFault}
use Rattle.amx_verify.specs.declared.fault.VerifyFault.TheVariants as verifier
use Rattle.amx_verify.specs.Verdict.{fault_in, Tells}
use Rattle.amx_text.specs.declared.draft.Draft.{Draft}
use Rattle.amx_text.specs.declared.fault.AsmFault.{AsmFault}
use Rattle.amx_text.specs.declared.fault.AsmFault.TheVariants as asm
use Rattle.amx_text.specs.Lines.{Header}
use Rattle.amx_text.specs.Faults.{is_within}
use Rattle.amx_text.specs.Drafts.{header_by, limit_by, address_by, counts_by, lines_fault_by}
use Rattle.amx_text.specs.Drafts.{invalid_by}
use Rattle.amx_text.specs.Drafts.{fault_by, line_at, line_by, Finishes, Verifies, IsTold, IsSmall}
use Rattle.amx_text.proofs.AssembleLaws.{or_none, within_by}
use Rattle.amx_text.proofs.FileLaws.{counted}

-- ---- where the code begins

-- the bytes of records with their names
abbrev pub records_size : List Record → ℕ
records_size records = table_size records + names_size records

-- one record more
pub size_more : (records : List Record) (i : ℕ) (it : Record) → i < length records
    → it ≡ get_or records i it
    → records_size (take (i + 1) records) ≡ records_size (take i records) + 9 + length it.name
size_more records i it h is =
    let more : take (i + 1) records ≡ take i records ++ (it ∷ []) =
    take_more records i it h ∙ ap (λ (r : Record). take i records ++ (r ∷ [])) (sym is) in
    omega (
      arith,
      ap records_size more,
      length-append (take i records) (it ∷ []),
      sum_by-append (λ (r : Record). length r.name + 1) (take i records) (it ∷ []),
    )

-- two sizes together, up to the greatest number of 64 bits
pub size_joined : (a b s t : ℕ) → s ≡ min a (2 ^ 64 - 1) → t ≡ min b (2 ^ 64 - 1)
    → min (s + t) (2 ^ 64 - 1) ≡ min (a + b) (2 ^ 64 - 1)
size_joined a b s t e f = omega (arith, e, f)

-- a record more, step by step
pub size_step : (before after size nine name all : ℕ) → size ≡ min before (2 ^ 64 - 1)
    → nine ≡ min (size + 9) (2 ^ 64 - 1) → all ≡ min (nine + name) (2 ^ 64 - 1)
    → after ≡ before + 9 + name → all ≡ min after (2 ^ 64 - 1)
size_step before after size nine name all e f g h = omega (arith, e, f, g, h)

-- all five tables of a file
abbrev pub tables_size : Amx → ℕ
tables_size amx =
    records_size amx.publics + records_size amx.natives + records_size amx.libraries
    + records_size amx.variables + records_size amx.tags

place_is : (amx : Amx) → code_place amx ≡ (61 + tables_size amx) / 4 * 4
place_is amx =
    let same : names_end amx + 3 ≡ 61 + tables_size amx = omega arith in
    ap (λ n. n / 4 * 4) same

pub place_exact : (amx : Amx) (whole : ℕ) → whole ≡ min (61 + tables_size amx) (2 ^ 64 - 1)
    → whole / 4 * 4 < 2 ^ 31 → code_place amx ≡ whole / 4 * 4
place_exact amx whole e few =
    let same : whole ≡ 61 + tables_size amx = omega (arith, e, few) in
    place_is amx ∙ ap (λ n. n / 4 * 4) (sym same)

pub place_large : (amx : Amx) (whole : ℕ) → whole ≡ min (61 + tables_size amx) (2 ^ 64 - 1)
    → 2 ^ 31 ≤ whole / 4 * 4 → 2 ^ 31 ≤ code_place amx
place_large amx whole e many =
    let more : whole ≤ 61 + tables_size amx = omega (arith, e) in
    omega (arith, place_is amx, more, many)

-- ---- within the limits

same_truth : (a b : Bool) → (a ≡ true → b ≡ true) → (b ≡ true → a ≡ true) → a ≡ b
same_truth true b f g = sym (f refl)
same_truth false true f g = g refl
same_truth false false f g = refl

-- what the limits are for a header and tables
pub record Limits (it : Header) (amx : Amx) : Type 0 where
  pub memory : 4 * (it.code + it.store + it.room) ≤ memory_limit
  pub size : code_place amx + 5 * (it.code + it.store) < 2 ^ 31
  pub top : code_place amx + 4 * (it.code + it.store + it.room) < 2 ^ 31

pub limits : (it : Header) (amx : Amx) → is_within it amx ≡ true → Limits it amx
limits it amx h =
    let cells = it.code + it.store in
    let a = nat_le (4 * (cells + it.room)) memory_limit in
    let b = nat_lt (code_place amx + 5 * cells) (2 ^ 31) in
    let c = nat_lt (code_place amx + 4 * (cells + it.room)) (2 ^ 31) in
    let last = and_parts (a && b) c h in
    let first = and_parts a b last.0 in
    record {
      memory = leb-true (4 * (cells + it.room)) memory_limit first.0;
      size = ltb-true (code_place amx + 5 * cells) (2 ^ 31) first.1;
      top = ltb-true (code_place amx + 4 * (cells + it.room)) (2 ^ 31) last.1;
    }

is_limited : (it : Header) (amx : Amx) → Limits it amx → is_within it amx ≡ true
is_limited it amx h =
    let cells = it.code + it.store in
    let a = nat_le (4 * (cells + it.room)) memory_limit in
    let b = nat_lt (code_place amx + 5 * cells) (2 ^ 31) in
    let c = nat_lt (code_place amx + 4 * (cells + it.room)) (2 ^ 31) in
    and_from (a && b) c
    (and_from a b (le-leb (4 * (cells + it.room)) memory_limit h.memory)
    (lt-ltb (code_place amx + 5 * cells) (2 ^ 31) h.size))
    (lt-ltb (code_place amx + 4 * (cells + it.room)) (2 ^ 31) h.top)

-- by the place where the code would begin, and past which byte memory would end
pub within_is : (it : Header) (amx : Amx) (whole place past : ℕ)
    → whole ≡ 4 * (it.code + it.store + it.room) → whole ≤ memory_limit
    → (place < 2 ^ 31 → code_place amx ≡ place) → (2 ^ 31 ≤ place → 2 ^ 31 ≤ code_place amx)
    → past ≡ min (place + max whole (5 * (it.code + it.store))) (2 ^ 64 - 1)
    → nat_lt past (2 ^ 31) ≡ is_within it amx
within_is it amx whole place past is few exact large past_is =
    same_truth (nat_lt past (2 ^ 31)) (is_within it amx)
    (λ low.
    (let below : past < 2 ^ 31 = ltb-true past (2 ^ 31) low in
    let small : place < 2 ^ 31 = omega (arith, below, past_is) in
    let same : code_place amx ≡ place = exact small in
    is_limited it amx (record {
      memory = omega (arith, is, few);
      size = omega (arith, below, past_is, same);
      top = omega (arith, below, past_is, same, is);
    })))
    (λ within.
    (let h = limits it amx within in
    let place_low : code_place amx < 2 ^ 31 = omega (arith, h.size) in
    let small : place < 2 ^ 31 = low_place (code_place amx) place large place_low in
    let same : code_place amx ≡ place = exact small in
    lt-ltb past (2 ^ 31) (omega (arith, past_is, same, h.size, h.top, is))))
  where
    low_place : (real place : ℕ) → (2 ^ 31 ≤ place → 2 ^ 31 ≤ real) → real < 2 ^ 31
        → place < 2 ^ 31
    low_place real place large low = by (nat_lt place (2 ^ 31)) refl
      where
        by : (t : Bool) → nat_lt place (2 ^ 31) ≡ t → place < 2 ^ 31
        by true e = ltb-true place (2 ^ 31) e
        by false e = absurd (omega (arith, large (ltb-false place (2 ^ 31) e), low))

pub without : (it : Header) (amx : Amx) (whole : ℕ)
    → whole ≡ 4 * (it.code + it.store + it.room) → memory_limit < whole
    → nat_le whole memory_limit ≡ is_within it amx
without it amx whole is many =
    same_truth (nat_le whole memory_limit) (is_within it amx)
    (λ e. absurd (omega (arith, leb-true whole memory_limit e, many)))
    (λ within. absurd (omega (arith, (limits it amx within).memory, is, many)))

-- ---- what the lines show

-- whether it is within the limits, its first other address, whether its counts are right
pub lines_fault : (draft : Draft) (within code store : Bool) (o : Option ℕ)
    → is_within (header_by draft) draft.amx ≡ within → draft.misplaced ≡ o
    → (length draft.amx.code == draft.code) ≡ code → (length draft.amx.store == draft.store) ≡ store
    → option_or (if within then None else Some asm.Limit) (option_or (address_by o)
    (if code then (if store then None else Some (asm.Count draft.lines))
    else Some (asm.Count (draft.data_mark + 1)))) ≡ lines_fault_by draft
lines_fault draft within code store o e f g h =
    ap (λ t. option_or (if t then None else Some asm.Limit) (option_or (address_by o)
    (if code then (if store then None else Some (asm.Count draft.lines))
    else Some (asm.Count (draft.data_mark + 1))))) (sym e)
    ∙ ap (λ n. option_or (limit_by draft) (option_or (address_by n)
    (if code then (if store then None else Some (asm.Count draft.lines))
    else Some (asm.Count (draft.data_mark + 1))))) (sym f)
    ∙ ap (λ t. option_or (limit_by draft) (option_or (address_by draft.misplaced)
    (if t then (if store then None else Some (asm.Count draft.lines))
    else Some (asm.Count (draft.data_mark + 1))))) (sym g)
    ∙ ap (λ t. option_or (limit_by draft) (option_or (address_by draft.misplaced)
    (if length draft.amx.code == draft.code
    then (if t then None else Some (asm.Count draft.lines))
    else Some (asm.Count (draft.data_mark + 1))))) (sym h)

-- they show none
pub record IsClear (draft : Draft) : Type 0 where
  pub within : is_within (header_by draft) draft.amx ≡ true
  pub misplaced : draft.misplaced ≡ None
  pub code : length draft.amx.code ≡ draft.code
  pub store : length draft.amx.store ≡ draft.store

no_address : (o : Option ℕ) → address_by o ≡ None → o ≡ None
no_address None e = refl
no_address (Some before) e = absurd (let no : ⊥ = cc in no)

pub clear : (draft : Draft) → lines_fault_by draft ≡ None → IsClear draft
clear draft e =
    let a = or_none (limit_by draft) (option_or (address_by draft.misplaced) (counts_by draft)) e in
    let b = or_none (address_by draft.misplaced) (counts_by draft) a.1 in
    let c = counted (length draft.amx.code == draft.code) (length draft.amx.store == draft.store)
    (asm.Count draft.lines) (asm.Count (draft.data_mark + 1)) b.1 in
    record {
      within = within_by (is_within (header_by draft) draft.amx) a.0;
      misplaced = no_address draft.misplaced b.0;
      code = eqb-true (length draft.amx.code) draft.code c.0;
      store = eqb-true (length draft.amx.store) draft.store c.1;
    }

-- then the verifier may be asked
pub record IsChecked (draft : Draft) : Type 0 where
  pub small : draft.code_mark + length draft.starts + 2 < 2 ^ 32
  pub memory : length draft.amx.code + length draft.amx.store + draft.amx.room ≤ cells_limit
  pub tables : (length draft.amx.publics < 2 ^ 31) × (length draft.amx.natives < 2 ^ 31)

pub checked : (draft : Draft) → IsSmall draft → None ≡ lines_fault_by draft → IsChecked draft
checked draft h e =
    let none = clear draft (sym e) in
    let low = limits (header_by draft) draft.amx none.within in
    let place : (61 + tables_size draft.amx) / 4 * 4 < 2 ^ 31 =
    omega (arith, place_is draft.amx, low.size) in
    record {
      small = omega (arith, h.code none.misplaced, h.lines);
      memory = omega (arith, low.memory, none.code, none.store);
      tables = (omega (arith, place), omega (arith, place));
    }

-- ---- the first fault

or_behind : (a b c d : Option AsmFault)
    → option_or a (option_or b (option_or c d)) ≡ option_or (option_or a (option_or b c)) d
or_behind None None None d = refl
or_behind None None (Some x) d = refl
or_behind None (Some x) c d = refl
or_behind (Some x) b c d = refl

fault_parts : (draft : Draft)
    → fault_by draft ≡ option_or (lines_fault_by draft) (invalid_by draft)
fault_parts draft =
    or_behind (limit_by draft) (address_by draft.misplaced) (counts_by draft) (invalid_by draft)

no_form : (within code store : Bool) (o : Option ℕ) (x y line : ℕ)
    → option_or (if within then None else Some asm.Limit) (option_or (address_by o)
    (if code then (if store then None else Some (asm.Count x)) else Some (asm.Count y)))
    ≡ Some (asm.Form line) → ⊥
no_form false code store o x y line e = let no : ⊥ = cc in no
no_form true code store (Some before) x y line e = let no : ⊥ = cc in no
no_form true false store None x y line e = let no : ⊥ = cc in no
no_form true true false None x y line e = let no : ⊥ = cc in no
no_form true true true None x y line e = let no : ⊥ = cc in no

-- what the lines show is the first
pub found : (draft : Draft) (fault : AsmFault) → Some fault ≡ lines_fault_by draft
    → Finishes draft (Err fault)
found draft fault e = by fault (sym e)
  where
    first : (it : AsmFault) → lines_fault_by draft ≡ Some it → fault_by draft ≡ Some it
    first it e = fault_parts draft ∙ ap (λ o. option_or o (invalid_by draft)) e

    by : (it : AsmFault) → lines_fault_by draft ≡ Some it → Finishes draft (Err it)
    by (asm.Form line) e =
        no_form (is_within (header_by draft) draft.amx) (length draft.amx.code == draft.code)
        (length draft.amx.store == draft.store) draft.misplaced draft.lines (draft.data_mark + 1)
        line e
    by asm.Limit e = first asm.Limit e
    by (asm.Address line) e = first (asm.Address line) e
    by (asm.Count line) e = first (asm.Count line) e
    by (asm.Invalid line) e = first (asm.Invalid line) e
    by asm.Memory e = tt

-- else the verifier's
pub finished : (draft : Draft) (result : Result Amx AsmFault) → None ≡ lines_fault_by draft
    → Verifies draft result → Finishes draft result
finished draft result e h = by result h
  where
    first : fault_by draft ≡ invalid_by draft
    first = fault_parts draft ∙ ap (λ o. option_or o (invalid_by draft)) (sym e)

    by : (r : Result Amx AsmFault) → Verifies draft r → Finishes draft r
    by (Ok amx) h = (
      first
          ∙ ap (option_map (λ (it : Fault). asm.Invalid (line_by draft.code_mark draft.starts it)))
          h.0,
      h.1,
    )
    by (Err (asm.Form line)) h = h
    by (Err asm.Limit) h = first ∙ h
    by (Err (asm.Address line)) h = first ∙ h
    by (Err (asm.Count line)) h = first ∙ h
    by (Err (asm.Invalid line)) h = first ∙ h
    by (Err asm.Memory) h = tt

-- ---- the verifier's fault with its line

pub refused : (draft : Draft) (fault : VerifyFault) (answer : AsmFault) (starts : List ℕ)
    → starts ≡ draft.starts → Tells fault (fault_in draft.amx)
    → IsTold fault starts draft.code_mark answer → Verifies draft (Err answer)
refused draft fault answer starts e tells told =
    by answer (subst (λ s. IsTold fault s draft.code_mark answer) e told)
  where
    by : (it : AsmFault) → IsTold fault draft.starts draft.code_mark it → Verifies draft (Err it)
    by (asm.Form line) h = h
    by asm.Limit h = h (fault_in draft.amx) tells
    by (asm.Address line) h = h (fault_in draft.amx) tells
    by (asm.Count line) h = h (fault_in draft.amx) tells
    by (asm.Invalid line) h = h (fault_in draft.amx) tells
    by asm.Memory h = tt

told_one : (fault : VerifyFault) (it : Fault) (starts : List ℕ) (mark line : ℕ)
    → ((found : Option Fault) → Tells fault found → found ≡ Some it)
    → line ≡ line_by mark starts it → IsTold fault starts mark (asm.Invalid line)
told_one fault it starts mark line tells is =
    λ found t. ap (option_map (λ (x : Fault). asm.Invalid (line_by mark starts x))) (tells found t)
    ∙ ap (λ n. Some (asm.Invalid n)) (sym is)

-- a fault of an instruction
pub told_at : (fault : VerifyFault) (starts : List ℕ) (mark at line : ℕ)
    → (fault ≡ verifier.Opcode at) ⊎ ((fault ≡ verifier.Cut at) ⊎ ((fault ≡ verifier.Target at)
    ⊎ ((fault ≡ verifier.CaseTable at) ⊎ ((fault ≡ verifier.Native at)
    ⊎ ((fault ≡ verifier.Register at) ⊎ (fault ≡ verifier.ByteCount at))))))
    → line ≡ line_at mark starts at → IsTold fault starts mark (asm.Invalid line)
told_at fault starts mark at line (inl e) is =
    told_one fault (Opcode at) starts mark line (λ o t. subst (λ f. Tells f o) e t) is
told_at fault starts mark at line (inr (inl e)) is =
    told_one fault (Cut at) starts mark line (λ o t. subst (λ f. Tells f o) e t) is
told_at fault starts mark at line (inr (inr (inl e))) is =
    told_one fault (Target at) starts mark line (λ o t. subst (λ f. Tells f o) e t) is
told_at fault starts mark at line (inr (inr (inr (inl e)))) is =
    told_one fault (CaseTable at) starts mark line (λ o t. subst (λ f. Tells f o) e t) is
told_at fault starts mark at line (inr (inr (inr (inr (inl e))))) is =
    told_one fault (Native at) starts mark line (λ o t. subst (λ f. Tells f o) e t) is
told_at fault starts mark at line (inr (inr (inr (inr (inr (inl e)))))) is =
    told_one fault (Register at) starts mark line (λ o t. subst (λ f. Tells f o) e t) is
told_at fault starts mark at line (inr (inr (inr (inr (inr (inr e)))))) is =
    told_one fault (ByteCount at) starts mark line (λ o t. subst (λ f. Tells f o) e t) is

-- a fault of an entry
pub told_entry : (fault : VerifyFault) (starts : List ℕ) (mark line : ℕ) (number : ℤ)
    → fault ≡ verifier.Entry number → line ≡ line_by mark starts (Entry number)
    → IsTold fault starts mark (asm.Invalid line)
told_entry fault starts mark line number e is =
    told_one fault (Entry number) starts mark line (λ o t. subst (λ f. Tells f o) e t) is

-- ---- a place in a list

pub place_low : (at : ℕ) (starts : List ℕ)
    → position_or_len (λ start. start == at) starts ≤ length starts
place_low at starts = prefix_len-le-length (λ start. not (start == at)) starts

pub or_length : (test : ℕ → Bool) (xs : List ℕ)
    → unwrap_or (position test xs) (length xs) ≡ position_or_len test xs
or_length test xs = by (nat_lt (position_or_len test xs) (length xs)) refl
  where
    by : (t : Bool) → nat_lt (position_or_len test xs) (length xs) ≡ t
        → unwrap_or (cond t (Some (position_or_len test xs)) None) (length xs)
        ≡ position_or_len test xs
    by true e = refl
    by false e =
        omega (
          arith,
          ltb-false (position_or_len test xs) (length xs) e,
          prefix_len-le-length (λ x. not (test x)) xs,
        )
