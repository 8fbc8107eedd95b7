-- Tables of keys after an insertion.
use Rattle.std.proofs.Common.{◌≡◌, ℕ, Bool, true, false, cond, if◌then◌else◌, List, [], ◌∷◌, Option}
use Rattle.std.proofs.Common.{Some, None, refl, sym, ap, ◌∙◌}
use Rattle.std.proofs.lemmas.Bool.{false≢true}
use Rattle.std.specs.Borrow.{Bor}
use Rattle.std.specs.Cmp.Lexicographic.{bytes_decides, nat_list_eq_equiv}
use Rattle.std.specs.Map.{lookup}
use Rattle.std.specs.Str.{bytes_eq}
use Rattle.indexmap.specs.IndexMap.{insert_entry}
use Rattle.pawn_tags.specs.declared.op.Signature.{Signature}
use Rattle.pawn_tags.specs.Overloads.{is_for}
use Rattle.pawn_tags.proofs.OverloadLaws.{only_for, itself_for}
use Rattle.types_rules.specs.Keys.{Key, Named, Operates, Enters, Misshapen, same_key}
use Rattle.check_source.specs.declared.tables.Tables.{Tables}
use Rattle.check_source.specs.Found.{stands_at, found_in}

over : {X : Type 0} (b : Bool) (v x : X) (rest : Option X)
    → cond b (Some v) rest ≡ if b then Some v else cond b (Some x) rest
over true v x rest = refl
over false v x rest = refl

exchange : {X : Type 0} (n k : Bool) (x v : X) (rest : Option X) → (n ≡ true → k ≡ true → ⊥)
    → cond n (Some x) (if k then Some v else rest) ≡ if k then Some v else cond n (Some x) rest
exchange true true x v rest h = absurd (h refl refl)
exchange true false x v rest h = refl
exchange false true x v rest h = refl
exchange false false x v rest h = refl

-- `probe` looks for what `key` is where `hit` says so
module _ {K X : Type 0} (same : K → K → Bool) (probe : K → Bool) (key : K) (hit : Bool)
    (at_key : probe key ≡ hit)
    (at_same : (k : K) → same key k ≡ true → probe k ≡ hit)
    (apart : (k : K) → same key k ≡ false → probe k ≡ true → hit ≡ true → ⊥) where
  by_key : (b : Bool) (e : K × X) (es : List (K × X)) (v : X) → same key e.0 ≡ b
      → lookup probe (insert_entry same es key v) ≡ (if hit then Some v else lookup probe es)
      → lookup probe (if b then (e.0, v) ∷ es else e ∷ insert_entry same es key v)
      ≡ (if hit then Some v else cond (probe e.0) (Some e.1) (lookup probe es))
  by_key true e es v h rest =
      ap (λ (b : Bool). cond b (Some v) (lookup probe es)) (at_same e.0 h)
      ∙ over hit v e.1 (lookup probe es)
      ∙ ap (λ (b : Bool). if hit then Some v else cond b (Some e.1) (lookup probe es))
      (sym (at_same e.0 h))
  by_key false e es v h rest =
      ap (cond (probe e.0) (Some e.1)) rest
      ∙ exchange (probe e.0) hit e.1 v (lookup probe es) (apart e.0 h)

  looked_after : (table : List (K × X)) (v : X)
      → lookup probe (insert_entry same table key v) ≡ (if hit then Some v else lookup probe table)
  looked_after [] v = ap (λ (b : Bool). cond b (Some v) None) at_key
  looked_after (e ∷ es) v = by_key (same key e.0) e es v refl (looked_after es v)

-- ---- names

pub turned : (x y : List ℕ) → bytes_eq x y ≡ bytes_eq y x
turned x y = nat_list_eq_equiv.symm x y

apart_names : (name key known : List ℕ) → bytes_eq key known ≡ false → bytes_eq name known ≡ true
    → bytes_eq name key ≡ true → ⊥
apart_names name key known h n k =
    let same : key ≡ known = sym ((bytes_decides name key).0 k) ∙ (bytes_decides name known).0 n in
    false≢true (sym h ∙ (bytes_decides key known).1 same)

pub put_is : (table now : List (Bor (List ℕ) × ℕ)) (key : Bor (List ℕ)) (v : ℕ)
    → now ≡ insert_entry (λ (x y : Bor (List ℕ)). bytes_eq x.now y.now) table key v
    → (name : List ℕ) → stands_at name now
    ≡ (if bytes_eq name key.now then Some v else stands_at name table)
put_is table now key v e name =
    ap (stands_at name) e
    ∙ looked_after (λ (x y : Bor (List ℕ)). bytes_eq x.now y.now)
    (λ (k : Bor (List ℕ)). bytes_eq name k.now) key (bytes_eq name key.now) refl
    (λ k h. ap (bytes_eq name) (sym ((bytes_decides key.now k.now).0 h)))
    (λ k. apart_names name key.now k.now) table v

-- ---- operators

same_ways : (a b : Bool) → (a ≡ true → b ≡ true) → (b ≡ true → a ≡ true) → a ≡ b
same_ways true b f g = sym (f refl)
same_ways false true f g = g refl
same_ways false false f g = refl

abbrev same_signature : Signature → Signature → Bool
same_signature x y = is_for x.op x.left x.right y

itself : (x y : Signature) → x ≡ y → same_signature x y ≡ true
itself x y e = ap (same_signature x) (sym e) ∙ itself_for x.op x.left x.right

pub turned_signature : (x y : Signature) → same_signature x y ≡ same_signature y x
turned_signature x y =
    same_ways (same_signature x y) (same_signature y x)
    (λ h. itself y x (sym (only_for x.op x.left x.right y h)))
    (λ h. itself x y (sym (only_for y.op y.left y.right x h)))

apart_signatures : (it key known : Signature) → same_signature key known ≡ false
    → same_signature it known ≡ true → same_signature key it ≡ true → ⊥
apart_signatures it key known h n k =
    let same : key ≡ known =
    only_for key.op key.left key.right it k ∙ only_for it.op it.left it.right known n in
    false≢true (sym h ∙ itself key known same)

pub operators_after : (table now : List (Signature × ℕ)) (key : Signature) (v : ℕ)
    → now ≡ insert_entry same_signature table key v
    → (it : Signature) → lookup (same_signature it) now
    ≡ (if same_signature key it then Some v else lookup (same_signature it) table)
operators_after table now key v e it =
    ap (lookup (same_signature it)) e
    ∙ looked_after same_signature (same_signature it) key (same_signature key it)
    (turned_signature it key)
    (λ k h. ap (same_signature it) (sym (only_for key.op key.left key.right k h))
    ∙ turned_signature it key) (λ k. apart_signatures it key k) table v

-- ---- all tables

module _ (old now : Tables) where
  pub named_in : (key : List ℕ) (v : ℕ)
      → ((other : List ℕ) → stands_at other now.named.entries
      ≡ (if bytes_eq other key then Some v else stands_at other old.named.entries))
      → now.operators.entries ≡ old.operators.entries → now.entering.entries ≡ old.entering.entries
      → (other : Key) → found_in now other
      ≡ (if same_key (Named key) other then Some v else found_in old other)
  named_in key v h o e (Named x) =
      h x ∙ ap (λ (b : Bool). if b then Some v else stands_at x old.named.entries) (turned x key)
  named_in key v h o e (Operates it) = ap (lookup (same_signature it)) o
  named_in key v h o e (Enters x) = ap (stands_at x) e
  named_in key v h o e Misshapen = refl

  pub entering_in : (key : List ℕ) (v : ℕ)
      → ((other : List ℕ) → stands_at other now.entering.entries
      ≡ (if bytes_eq other key then Some v else stands_at other old.entering.entries))
      → now.named.entries ≡ old.named.entries → now.operators.entries ≡ old.operators.entries
      → (other : Key) → found_in now other
      ≡ (if same_key (Enters key) other then Some v else found_in old other)
  entering_in key v h n o (Named x) = ap (stands_at x) n
  entering_in key v h n o (Operates it) = ap (lookup (same_signature it)) o
  entering_in key v h n o (Enters x) =
      h x ∙ ap (λ (b : Bool). if b then Some v else stands_at x old.entering.entries) (turned x key)
  entering_in key v h n o Misshapen = refl

  pub operators_in : (key : Signature) (v : ℕ)
      → now.operators.entries ≡ insert_entry same_signature old.operators.entries key v
      → now.named.entries ≡ old.named.entries → now.entering.entries ≡ old.entering.entries
      → (other : Key) → found_in now other
      ≡ (if same_key (Operates key) other then Some v else found_in old other)
  operators_in key v h n e (Named x) = ap (stands_at x) n
  operators_in key v h n e (Operates it) =
      operators_after old.operators.entries now.operators.entries key v h it
  operators_in key v h n e (Enters x) = ap (stands_at x) e
  operators_in key v h n e Misshapen = refl

  pub kept_in : now.named.entries ≡ old.named.entries
      → now.operators.entries ≡ old.operators.entries → now.entering.entries ≡ old.entering.entries
      → (other : Key) → found_in now other ≡ found_in old other
  kept_in n o e (Named x) = ap (stands_at x) n
  kept_in n o e (Operates it) = ap (lookup (same_signature it)) o
  kept_in n o e (Enters x) = ap (stands_at x) e
  kept_in n o e Misshapen = refl

pub misshapen_in : (tables : Tables) (v : ℕ) (other : Key)
    → found_in tables other ≡ (if same_key Misshapen other then Some v else found_in tables other)
misshapen_in tables v (Named x) = refl
misshapen_in tables v (Operates it) = refl
misshapen_in tables v (Enters x) = refl
misshapen_in tables v Misshapen = refl

-- keys that are the same are equal
pub equal_keys : (x y : Key) → same_key x y ≡ true → x ≡ y
equal_keys (Named x) (Named y) h = ap Named ((bytes_decides x y).0 h)
equal_keys (Operates x) (Operates y) h = ap Operates (only_for x.op x.left x.right y h)
equal_keys (Enters x) (Enters y) h = ap Enters ((bytes_decides x y).0 h)
equal_keys x y h = absurd (false≢true h)
