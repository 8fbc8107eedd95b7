-- The listing of a valid file that can be written is assembled to that file.
use Rattle.std.proofs.Common.{◌≡◌, ◌+◌, ◌*◌, ◌<◌, ◌^◌, ℕ, ◌&&◌, List, [], ◌∷◌, None, All, length}
use Rattle.std.proofs.Common.{nat_le, nat_lt, refl, sym, ap, subst, arith, le-leb, lt-ltb}
use Rattle.std.proofs.Common.{length-append, map}
use Rattle.std.specs.Prelude.{Ok, IsTrue}
use Rattle.std.specs.List.{flat_map}
use Rattle.std.proofs.lemmas.Bool.{and_from}
use Rattle.std.proofs.lemmas.List.Elements.{All-nil, All-cons}
use Rattle.std.proofs.lemmas.List.Sorted.{length_permutation, sum_by-IsPermutation}
use Rattle.amx_ops.specs.declared.amx.Amx.{Amx}
use Rattle.amx_ops.specs.declared.amx.Record.{Record}
use Rattle.amx_ops.specs.Instructions.{Placed}
use Rattle.amx_ops.specs.Writable.{IsWritable, names_size, code_place, memory_limit}
use Rattle.amx_ops.specs.Written.{Written, IsCodeOf, places, cells_of, read_as}
use Rattle.amx_ops.proofs.WrittenLaws.{code_is_instructions}
use Rattle.amx_format.specs.Sorts.{IsWritableSorted, with_publics}
use Rattle.amx_verify.specs.Verdict.{fault_in}
use Rattle.amx_text.specs.Listing.{header_of, listing}
use Rattle.amx_text.specs.Faults.{is_within}
use Rattle.amx_text.specs.Listed.{FieldsFit, PlacesFit}
use Rattle.amx_text.specs.Assembles.{IsAssembled, WhatIsListedIsAssembled}
use Rattle.amx_text.proofs.SortedLaws.{sorted, sorts}
use Rattle.amx_text.proofs.AnswerLaws.{a_text_has_one_answer}

-- instructions that end below an address begin below it
below_at : (at high : ℕ) (its : List Written) → at + 4 * length (flat_map cells_of its) < high
    → All (λ (it : Placed). it.at < high) (places at its)
below_at at high [] h = All-nil (λ (it : Placed). it.at < high)
below_at at high (it ∷ its) h =
    let size = length-append (cells_of it) (flat_map cells_of its) in
    All-cons (λ (it : Placed). it.at < high) (record { at = at; instr = read_as it })
    (places (at + 4 * length (cells_of it)) its) (omega (arith, h))
    (below_at (at + 4 * length (cells_of it)) high its (omega (arith, h, size)))

module _ (amx : Amx) (h : IsWritableSorted amx) where
  written : IsWritable (with_publics amx (sorted amx.publics))
  written = h (sorted amx.publics) (sorts amx.publics)

  -- the order of the publics doesn't move the code
  same_place : code_place (with_publics amx (sorted amx.publics)) ≡ code_place amx
  same_place =
      let count : length (sorted amx.publics) ≡ length amx.publics =
      length_permutation amx.publics (sorted amx.publics) (sorts amx.publics).same in
      let names : names_size (sorted amx.publics) ≡ names_size amx.publics =
      sum_by-IsPermutation (λ (it : Record). length it.name + 1) amx.publics (sorted amx.publics)
      (sorts amx.publics).same in
      omega (arith, count, names)

  pub within : IsTrue (is_within (header_of amx) amx)
  within =
      let cells = length amx.code + length amx.store in
      let place = same_place in
      let size : code_place amx + 5 * cells < 2 ^ 31 =
      subst (λ n. n + 5 * cells < 2 ^ 31) place written.size in
      let top : code_place amx + 4 * (cells + amx.room) < 2 ^ 31 =
      subst (λ n. n + 4 * (cells + amx.room) < 2 ^ 31) place written.top in
      let a = nat_le (4 * (cells + amx.room)) memory_limit in
      let b = nat_lt (code_place amx + 5 * cells) (2 ^ 31) in
      let c = nat_lt (code_place amx + 4 * (cells + amx.room)) (2 ^ 31) in
      and_from (a && b) c
      (and_from a b (le-leb (4 * (cells + amx.room)) memory_limit written.memory)
      (lt-ltb (code_place amx + 5 * cells) (2 ^ 31) size))
      (lt-ltb (code_place amx + 4 * (cells + amx.room)) (2 ^ 31) top)

  places_fit : (its : List Written) → IsCodeOf its amx.code → PlacesFit amx
  places_fit its code = record {
    code =
        subst (λ list. All (λ (it : Placed). it.at < 2 ^ 32) list) (sym code.placed)
        (below_at 0 (2 ^ 32) its (omega (arith, ap length code.cells, written.memory)));
    store = omega (arith, written.memory);
  }

  -- a valid file that can be written is assembled from its listing
  pub assembled : FieldsFit amx → fault_in amx ≡ None → IsAssembled (listing amx) amx
  assembled fields valid =
      let code =
      code_is_instructions.valid amx.code (length amx.natives) amx.entry
      (map (λ (it : Record). it.address) amx.publics) valid in
      record {
        listed =
            record {
              fields = fields;
              places = places_fit code.0 code.1;
              its = code.0;
              code = code.1;
              is = refl;
            };
        within = within;
        valid = valid;
      }

pub what_is_listed_is_assembled : WhatIsListedIsAssembled
what_is_listed_is_assembled amx fields writable valid answer h differs =
    a_text_has_one_answer (listing amx) answer (Ok amx) h (assembled amx writable fields valid)
    differs (λ e. let no : ⊥ = cc in no)
