-- A file of a program's form has an entry where the source has one, and it is the source's.
use Rattle.std.proofs.Common.{◌≡◌, ◌≢◌, ◌∙◌, ◌+◌, ℕ, suc, ℤ, negsuc, List, [], ◌∷◌, Bool, true}
use Rattle.std.proofs.Common.{false, cond, Option, None, Some, map, slice_get, option_map}
use Rattle.std.proofs.Common.{option_and_then, refl, ap, subst, arith}
use Rattle.std.specs.Prelude.{bytes_eq, find, if◌then◌else◌}
use Rattle.std.specs.List.{position_from}
use Rattle.std.proofs.lemmas.Bool.{false_from_ne_true}
use Rattle.std.proofs.lemmas.Bool.Decides.{Decides-int_eq}
use Rattle.pawn_cells.specs.Cells.{equal}
use Rattle.pawn_meaning.specs.Program.{Program, Public}
use Rattle.amx_ops.specs.declared.amx.Amx.{Amx}
use Rattle.amx_ops.specs.declared.amx.Record.{Record}
use Rattle.amx_ops.specs.Trace.{Entry, Main, address_of}
use Rattle.amx_ops.specs.Trace as trace
use Rattle.gen_agrees.specs.Agrees.{function_of}
use Rattle.gen_agrees.specs.Shape.{HasShape, HasEntry, names}
use Rattle.host_run.specs.declared.entry.TheConstants.{MAIN}
use Rattle.host_run.specs.Entry.{public_named, address_named}
use Rattle.pawn_laws.specs.EntryFunction.{function_named}

-- an entry of both, with its address
pub record IsEntry (program : Program) (amx : Amx) (name : List ℕ) (f : ℕ) : Type 0 where
  pub entry : Entry
  pub function : function_of program entry ≡ Some f
  pub address : ℤ
  pub there : address_of amx entry ≡ Some address
  pub named : address_named amx name ≡ Some address

-- ---- the first public with a name

abbrev found : List Public → List ℕ → Option ℕ
found publics name =
    option_map (λ (it : Public). it.function)
    (find (λ (it : Public). bytes_eq it.name name) publics)

-- it has a number, which is the same in both tables
record IsAt (records : List Record) (publics : List Public) (name : List ℕ) (f first : ℕ) : Type 0
  where
    at : ℕ
    number : position_from (λ (it : Record). bytes_eq it.name name) first records
        ≡ Some (first + at)
    function : option_map (λ (it : Public). it.function) (slice_get publics at) ≡ Some f
    address : ℤ
    there : option_map (λ (it : Record). it.address) (slice_get records at) ≡ Some address

at_by : (record_ : Record) (public_ : Public) (records : List Record) (publics : List Public)
    (name : List ℕ) (f first : ℕ) (b : Bool) → bytes_eq public_.name name ≡ b
    → record_.name ≡ public_.name
    → option_map (λ (it : Public). it.function)
    (cond b (Some public_) (find (λ (it : Public). bytes_eq it.name name) publics)) ≡ Some f
    → (found publics name ≡ Some f → IsAt records publics name f (first + 1))
    → IsAt (record_ ∷ records) (public_ ∷ publics) name f first
at_by record_ public_ records publics name f first true e same is rest =
    let here : bytes_eq record_.name name ≡ true = ap (λ n. bytes_eq n name) same ∙ e in
    let none : first ≡ first + 0 = omega arith in
    record {
      at = 0;
      number =
          ap (λ b. cond b (Some first) (position_from (λ (it : Record). bytes_eq it.name name)
          (first + 1) records)) here
          ∙ ap (λ (n : ℕ). Some n) none;
      function = is;
      address = record_.address;
      there = refl;
    }
at_by record_ public_ records publics name f first false e same is rest =
    let here : bytes_eq record_.name name ≡ false = ap (λ n. bytes_eq n name) same ∙ e in
    let it = rest is in
    let one : first + 1 + it.at ≡ first + suc it.at = omega arith in
    record {
      at = suc it.at;
      number =
          ap (λ b. cond b (Some first) (position_from (λ (it : Record). bytes_eq it.name name)
          (first + 1) records)) here
          ∙ it.number
          ∙ ap (λ (n : ℕ). Some n) one;
      function = it.function;
      address = it.address;
      there = it.there;
    }

is_at : (records : List Record) (publics : List Public) (name : List ℕ) (f first : ℕ)
    → names records ≡ map (λ (it : Public). it.name) publics
    → found publics name ≡ Some f → IsAt records publics name f first
is_at [] [] name f first same is = absurd (let no : ⊥ = cc in no)
is_at (record_ ∷ records) [] name f first same is = absurd (let no : ⊥ = cc in no)
is_at [] (public_ ∷ publics) name f first same is = absurd (let no : ⊥ = cc in no)
is_at (record_ ∷ records) (public_ ∷ publics) name f first same is =
    let one : record_.name ≡ public_.name = cc in
    let others : names records ≡ map (λ (it : Public). it.name) publics = cc in
    at_by record_ public_ records publics name f first (bytes_eq public_.name name) refl one is
    (λ k. is_at records publics name f (first + 1) others k)

-- ---- an entry

module _ (program : Program) (amx : Amx) (shape : HasShape program amx) (name : List ℕ)
    (f : ℕ) where
  main_there : program.entry ≡ Some f → address_of amx Main ≡ Some amx.entry
  main_there main =
      let has : amx.entry ≢ negsuc 0 =
      subst (λ entry. HasEntry entry amx.entry) main shape.entry in
      ap (λ b. if b then None else Some amx.entry)
      (false_from_ne_true (equal amx.entry (negsuc 0))
      (λ same. has ((Decides-int_eq amx.entry (negsuc 0)).0 same)))

  entry_by : (b : Bool) → bytes_eq name MAIN ≡ b
      → (if b then program.entry else found program.publics name) ≡ Some f
      → IsEntry program amx name f
  entry_by true e is =
      let there = main_there is in
      record {
        entry = Main;
        function = is;
        address = amx.entry;
        there = there;
        named =
            ap (λ b. option_and_then (address_of amx)
            (if b then Some Main else option_map trace.Public (public_named amx.publics name))) e
            ∙ there;
      }
  entry_by false e is =
      let it = is_at amx.publics program.publics name f 0 shape.publics is in
      let up : 0 + it.at ≡ it.at = omega arith in
      record {
        entry = trace.Public it.at;
        function = it.function;
        address = it.address;
        there = it.there;
        named =
            ap (λ b. option_and_then (address_of amx)
            (if b then Some Main else option_map trace.Public (public_named amx.publics name))) e
            ∙ ap (λ o. option_and_then (address_of amx) (option_map trace.Public o))
            (it.number ∙ ap (λ (n : ℕ). Some n) up)
            ∙ it.there;
      }

  pub entry_there : function_named program name ≡ Some f → IsEntry program amx name f
  entry_there is = entry_by (bytes_eq name MAIN) refl is
