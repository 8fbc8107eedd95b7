-- Where instructions lead, one instruction, address or entry after the other.
use Rattle.std.proofs.Common.{◌≡◌, ◌+◌, ◌-◌, ◌*◌, ◌<◌, ◌≤◌, ℕ, suc, ℤ, pos, Bool, true, false, ◌&&◌}
use Rattle.std.proofs.Common.{List, [], ◌∷◌, Option, None, Some, length, drop, map, get_or, refl}
use Rattle.std.proofs.Common.{sym, ap, ◌∙◌, arith, subst}
use Rattle.std.proofs.lemmas.List.{drop-drop, drop-map, drop_more}
use Rattle.std.proofs.Math.ListN.{drop_of_length-le}
use Rattle.amx_ops.specs.declared.amx.Amx.{Amx}
use Rattle.amx_ops.specs.declared.amx.Record.{Record}
use Rattle.amx_ops.specs.declared.instr.Instr.{Instr}
use Rattle.amx_ops.specs.Instructions.{placed_from, cells_in, front, is_start}
use Rattle.amx_ops.specs.Valid.{Fault, or_else, first_of, proper, broken, linked, leads, all_lead}
use Rattle.amx_ops.specs.Valid.{entry_fault, main_fault, publics_fault}
use Rattle.amx_verify.specs.declared.fault.VerifyFault.{VerifyFault}
use Rattle.amx_verify.specs.Verdict.{Tells, fault_in}
use Rattle.amx_verify.specs.Fronts.{whole_fault, link_fault_from}
use Rattle.amx_ops.proofs.FrontLaws.{placed_one, placed_front}
use Rattle.amx_verify.proofs.FrontLaws.{none_placed, tells_first, tells_next, none_next}

module _ (code rest : List ℤ) (place : ℕ) (is : rest ≡ drop place code)
    (so_far : link_fault_from code (4 * place) (drop place code) ≡ link_fault_from code 0 code)
  where
    abbrev its : List ℤ → ℕ → Option Fault
    its cells at = first_of (linked (is_start code) 0 code) (placed_from at 0 cells)

    first_is : (i : Instr) → front rest ≡ Some i → 1 ≤ i.cells → i.cells ≤ length rest
        → link_fault_from code 0 code ≡ or_else
        (linked (is_start code) 0 code (placed_one (4 * place) i))
        (its (drop i.cells rest) (4 * place + 4 * i.cells))
    first_is i e more within =
        sym so_far ∙ ap (link_fault_from code (4 * place)) (sym is)
        ∙ ap (first_of (linked (is_start code) 0 code))
        (placed_front (4 * place) i rest e more within)

    pub link_more : (i : Instr) (next : ℕ) → Some i ≡ front rest → 1 ≤ i.cells → i.cells ≤ length rest
        → linked (is_start code) 0 code (placed_one (4 * place) i) ≡ None → next ≡ place + i.cells
        → link_fault_from code (4 * next) (drop next code) ≡ link_fault_from code 0 code
    link_more i next e more within good n =
        let back : drop next code ≡ drop i.cells rest =
        ap (λ k. drop k code) n ∙ sym (drop-drop i.cells place code)
        ∙ ap (drop i.cells) (sym is) in
        let at : 4 * next ≡ 4 * place + 4 * i.cells = omega (arith, n) in
        ap (λ a. link_fault_from code a (drop next code)) at
        ∙ ap (link_fault_from code (4 * place + 4 * i.cells)) back
        ∙ sym (first_is i (sym e) more within
        ∙ ap (λ o. or_else o (its (drop i.cells rest) (4 * place + 4 * i.cells))) good)

    pub link_here : (i : Instr) (fault : VerifyFault) → Some i ≡ front rest → 1 ≤ i.cells
        → i.cells ≤ length rest
        → Tells fault (linked (is_start code) 0 code (placed_one (4 * place) i))
        → Tells fault (link_fault_from code 0 code)
    link_here i fault e more within t =
        subst (Tells fault) (sym (first_is i (sym e) more within))
        (tells_first fault (linked (is_start code) 0 code (placed_one (4 * place) i)) _ t)

    pub link_ends : None ≡ front rest → link_fault_from code 0 code ≡ None
    link_ends e =
        sym so_far ∙ ap (link_fault_from code (4 * place)) (sym is)
        ∙ ap (first_of (linked (is_start code) 0 code)) (none_placed (4 * place) rest (sym e))

pub links_over : (code : List ℤ) (place : ℕ) → length code ≤ place
    → link_fault_from code (4 * place) (drop place code) ≡ link_fault_from code 0 code
    → link_fault_from code 0 code ≡ None
links_over code place past so_far =
    sym so_far ∙ ap (link_fault_from code (4 * place)) (drop_of_length-le code past)

-- ---- the addresses of a case table

one_address : (starts : ℕ → Bool) (n : ℕ) (address : ℤ) (after : List ℤ)
    → all_lead starts (suc n) (address ∷ after)
    ≡ (leads starts address && all_lead starts n (drop 1 after))
one_address starts n address [] = refl
one_address starts n address (value ∷ cells) = refl

module _ (starts : ℕ → Bool) (total done : ℕ) (whole : Bool) (rest after : List ℤ) (address : ℤ)
    (less : done < total) (is : rest ≡ address ∷ after)
    (so_far : all_lead starts (total - done) rest ≡ whole) where
  first_address : (leads starts address && all_lead starts (total - (done + 1)) (drop 1 after))
      ≡ whole
  first_address =
      let left : total - done ≡ suc (total - (done + 1)) = omega (arith, less) in
      sym (one_address starts (total - (done + 1)) address after)
      ∙ sym (ap (λ n. all_lead starts n (address ∷ after)) left)
      ∙ sym (ap (all_lead starts (total - done)) is) ∙ so_far

  pub one_more_address : (behind : List ℤ) → leads starts address ≡ true → behind ≡ drop 1 after
      → all_lead starts (total - (done + 1)) behind ≡ whole
  one_more_address behind good b =
      ap (all_lead starts (total - (done + 1))) b
      ∙ sym (ap (λ g. g && all_lead starts (total - (done + 1)) (drop 1 after)) good)
      ∙ first_address

  pub address_astray : leads starts address ≡ false → false ≡ whole
  address_astray bad =
      sym (ap (λ g. g && all_lead starts (total - (done + 1)) (drop 1 after)) bad) ∙ first_address

pub no_address : (starts : ℕ → Bool) (total done : ℕ) (whole : Bool) (rest : List ℤ) → done < total
    → rest ≡ []
    → all_lead starts (total - done) rest ≡ whole → false ≡ whole
no_address starts total done whole rest less is so_far =
    let left : total - done ≡ suc (total - (done + 1)) = omega (arith, less) in
    sym (ap (λ n. all_lead starts n []) left) ∙ sym (ap (all_lead starts (total - done)) is)
    ∙ so_far

pub all_addresses : (starts : ℕ → Bool) (total done : ℕ) (whole : Bool) (rest : List ℤ)
    → total ≤ done
    → all_lead starts (total - done) rest ≡ whole → true ≡ whole
all_addresses starts total done whole rest h so_far =
    let none : total - done ≡ 0 = omega (arith, h) in
    sym (ap (λ n. all_lead starts n rest) none) ∙ so_far

-- ---- the publics

module _ (code : List ℤ) (publics : List Record) (n : ℕ) (it : Record) (h : n < length publics)
    (is : it ≡ get_or publics n it)
    (so_far : publics_fault code n (drop n (map (λ (it : Record). it.address) publics))
    ≡ publics_fault code 0 (map (λ (it : Record). it.address) publics)) where
  abbrev addresses : List ℤ
  addresses = map (λ (it : Record). it.address) publics

  first_public : publics_fault code 0 addresses
      ≡ or_else (entry_fault code (pos n) it.address)
      (publics_fault code (n + 1) (drop (n + 1) addresses))
  first_public =
      let address = λ (it : Record). it.address in
      let front : drop n addresses ≡ it.address ∷ drop (n + 1) addresses =
      drop-map address n publics ∙ ap (map address) (drop_more publics n it h)
      ∙ ap (λ (x : Record). x.address ∷ map address (drop (n + 1) publics)) (sym is)
      ∙ ap (λ others. it.address ∷ others) (sym (drop-map address (n + 1) publics)) in
      sym so_far ∙ ap (publics_fault code n) front

  pub public_more : entry_fault code (pos n) it.address ≡ None
      → publics_fault code (n + 1) (drop (n + 1) addresses) ≡ publics_fault code 0 addresses
  public_more good =
      sym (first_public ∙ ap (λ o. or_else o (publics_fault code (n + 1) (drop (n + 1) addresses)))
      good)

  pub public_here : (fault : VerifyFault) → Tells fault (entry_fault code (pos n) it.address)
      → Tells fault (publics_fault code 0 addresses)
  public_here fault t =
      subst (Tells fault) (sym first_public)
      (tells_first fault (entry_fault code (pos n) it.address) _ t)

-- ---- all of it

or_else_parts : (p b l r : Option Fault)
    → or_else (or_else p (or_else b l)) r ≡ or_else (or_else p b) (or_else l r)
or_else_parts None None l r = refl
or_else_parts None (Some f) l r = refl
or_else_parts (Some f) b l r = refl

abbrev entries : Amx → Option Fault
entries amx =
    or_else (main_fault amx.code amx.entry)
    (publics_fault amx.code 0 (map (λ (it : Record). it.address) amx.publics))

parts : (amx : Amx) → fault_in amx
    ≡ or_else (whole_fault (length amx.natives) 0 amx.code)
    (or_else (link_fault_from amx.code 0 amx.code) (entries amx))
parts amx =
    let its = placed_from 0 0 amx.code in
    or_else_parts (first_of (proper (length amx.natives)) its)
    (broken (drop (cells_in its) amx.code) (0 + 4 * cells_in its))
    (link_fault_from amx.code 0 amx.code) (entries amx)

module _ (amx marked : Amx) (code : List ℤ) (natives : ℕ) (code_is : code ≡ amx.code)
    (natives_are : natives ≡ length amx.natives) (same : marked ≡ amx)
    (whole : whole_fault natives 0 code ≡ None) where
  none_before : whole_fault (length amx.natives) 0 amx.code ≡ None
  none_before =
      sym (ap (λ n. whole_fault n 0 amx.code) natives_are)
      ∙ sym (ap (whole_fault natives 0) code_is) ∙ whole

  pub links_tell : (fault : VerifyFault) → Tells fault (link_fault_from marked.code 0 marked.code)
      → Tells fault (fault_in amx)
  links_tell fault t =
      subst (Tells fault) (sym (parts amx))
      (tells_next fault _ _ none_before
      (tells_first fault _ (entries amx)
      (subst (λ it. Tells fault (link_fault_from it.code 0 it.code)) same t)))

  module _ (links : link_fault_from marked.code 0 marked.code ≡ None) where
    no_links : link_fault_from amx.code 0 amx.code ≡ None
    no_links = subst (λ it. link_fault_from it.code 0 it.code ≡ None) same links

    pub entries_tell : (fault : VerifyFault) → Tells fault (entries marked)
        → Tells fault (fault_in amx)
    entries_tell fault t =
        subst (Tells fault) (sym (parts amx))
        (tells_next fault _ _ none_before
        (tells_next fault _ _ no_links (subst (λ it. Tells fault (entries it)) same t)))

    pub none_told : entries marked ≡ None → fault_in amx ≡ None
    none_told e =
        parts amx ∙ none_next _ _ none_before
        (none_next _ _ no_links (subst (λ it. entries it ≡ None) same e))
