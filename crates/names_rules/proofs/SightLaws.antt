-- The table of what is in sight stays right where declarations come and go.
use Rattle.std.proofs.Common.{◌≡◌, ◌<◌, ℕ, suc, Bool, true, false, cond, nat_eq, if◌then◌else◌}
use Rattle.std.proofs.Common.{List, [], ◌∷◌, ◌++◌, ◌+◌, ◌-◌, reverse, Option, Some, None}
use Rattle.std.proofs.Common.{refl, sym, ap, ◌∙◌, subst, arith}
use Rattle.std.proofs.lemmas.Bool.{false≢true}
use Rattle.std.proofs.lemmas.Bool.Decides.{nat_tests}
use Rattle.std.specs.Borrow.{Bor}
use Rattle.std.specs.Cmp.Lexicographic.{bytes_decides, nat_list_eq_equiv}
use Rattle.std.specs.Map.{lookup}
use Rattle.std.specs.Str.{bytes_eq}
use Rattle.std.proofs.lemmas.List.{reverse-append}
use Rattle.indexmap.specs.IndexMap.{insert_entry}
use Rattle.names_rules.specs.InSight.{Ways, depth_of, meant_by, Table, now_in, IsIndexed}

-- ---- a table of names after an insertion

apart : (name key known : List ℕ) → bytes_eq key known ≡ false → bytes_eq name known ≡ true
    → bytes_eq name key ≡ true → ⊥
apart name key known h n k =
    let same : key ≡ known = sym ((bytes_decides name key).0 k) ∙ (bytes_decides name known).0 n in
    false≢true (sym h ∙ (bytes_decides key known).1 same)

module _ {X : Type 0} where
  abbrev pub stands_at : List ℕ → List (Bor (List ℕ) × X) → Option X
  stands_at name table = lookup (λ key. bytes_eq name key.now) table

  over : (b : Bool) (v x : X) (rest : Option X)
      → cond b (Some v) rest ≡ if b then Some v else cond b (Some x) rest
  over true v x rest = refl
  over false v x rest = refl

  exchange : (n k : Bool) (x v : X) (rest : Option X) → (n ≡ true → k ≡ true → ⊥)
      → cond n (Some x) (if k then Some v else rest) ≡ if k then Some v else cond n (Some x) rest
  exchange true true x v rest h = absurd (h refl refl)
  exchange true false x v rest h = refl
  exchange false true x v rest h = refl
  exchange false false x v rest h = refl

  abbrev pub inserted : List (Bor (List ℕ) × X) → Bor (List ℕ) → X → List (Bor (List ℕ) × X)
  inserted table key v = insert_entry (λ x y. bytes_eq x.now y.now) table key v

  by_key : (b : Bool) (e : Bor (List ℕ) × X) (es : List (Bor (List ℕ) × X)) (key : Bor (List ℕ))
      (v : X) (name : List ℕ)
      → bytes_eq key.now e.0.now ≡ b
      → stands_at name (inserted es key v)
      ≡ (if bytes_eq name key.now then Some v else stands_at name es)
      → stands_at name (if b then (e.0, v) ∷ es else e ∷ inserted es key v)
      ≡ (if bytes_eq name key.now then Some v
      else cond (bytes_eq name e.0.now) (Some e.1) (stands_at name es))
  by_key true e es key v name h rest =
      let same : key.now ≡ e.0.now = (bytes_decides key.now e.0.now).0 h in
      rw same (over (bytes_eq name e.0.now) v e.1 (stands_at name es))
  by_key false e es key v name h rest =
      ap (cond (bytes_eq name e.0.now) (Some e.1)) rest
      ∙ exchange (bytes_eq name e.0.now) (bytes_eq name key.now) e.1 v (stands_at name es)
      (apart name key.now e.0.now h)

  pub stands_after : (table : List (Bor (List ℕ) × X)) (key : Bor (List ℕ)) (v : X) (name : List ℕ)
      → stands_at name (inserted table key v)
      ≡ (if bytes_eq name key.now then Some v else stands_at name table)
  stands_after [] key v name = refl
  stands_after (e ∷ es) key v name =
      by_key (bytes_eq key.now e.0.now) e es key v name refl (stands_after es key v name)

-- ---- what a name means now

turned : (x y : List ℕ) → bytes_eq x y ≡ bytes_eq y x
turned x y = nat_list_eq_equiv.symm x y

pub less_no : (x n : ℕ) → x < n → nat_eq x n ≡ false
less_no x n h = grind (arith, nat_tests)

pub on_top : {A : Type 0} (items : List A) (x : A) → reverse (items ++ x ∷ []) ≡ x ∷ reverse items
on_top items x = reverse-append items (x ∷ [])

module _ {D H : Type 0} (ways : Ways D H) where
  now_by : (b : Bool) (v : Option D) (rest : Option (Option D))
      → now_in (if b then Some v else rest) ≡ if b then v else now_in rest
  now_by true v rest = refl
  now_by false v rest = refl

  now_after : (table : Table D) (key : Bor (List ℕ)) (v : Option D) (name : List ℕ)
      → now_in (stands_at name (inserted table key v)) ≡ if bytes_eq name key.now then v
      else now_in (stands_at name table)
  now_after table key v name =
      ap now_in (stands_after table key v name)
      ∙ now_by (bytes_eq name key.now) v (stands_at name table)

  -- a declaration comes on top
  declared_on : (stack : List (Option H)) (table : Table D) (depth : ℕ) (it : H)
      → IsIndexed ways stack table depth
      → ways.depth (ways.declared it) ≡ depth
      → ways.before it ≡ now_in (stands_at (ways.name it).now table)
      → IsIndexed ways (Some it ∷ stack) (inserted table (ways.name it) (Some (ways.declared it)))
      depth
  declared_on stack table depth it h d e = record {
    index = λ name. now_after table (ways.name it) (Some (ways.declared it)) name
        ∙ rw (turned name (ways.name it).now, h.index name) refl;
    chain = (e ∙ h.index (ways.name it).now, d ∙ h.deep, h.chain);
    deep = h.deep;
  }

  -- a block comes on top
  pub entered_on : (stack : List (Option H)) (table : Table D) (depth : ℕ)
      → IsIndexed ways stack table depth → IsIndexed ways (None ∷ stack) table (depth + 1)
  entered_on stack table depth h =
      let e : depth ≡ depth_of stack = h.deep in
      record { index = h.index; chain = h.chain; deep = omega arith }

  -- the declaration on top goes
  back_to : (b : Bool) (same : List ℕ) (name : List ℕ) (before now : Option D) (it : D)
      (more : List (Option H)) → bytes_eq name same ≡ b
      → before ≡ meant_by ways more same → now ≡ (if b then Some it else meant_by ways more name)
      → (if b then before else now) ≡ meant_by ways more name
  back_to true same name before now it more e h k =
      let is : name ≡ same = (bytes_decides name same).0 e in
      rw is h
  back_to false same name before now it more e h k = k

  declared_off : (stack : List (Option H)) (table : Table D) (depth : ℕ) (it : H)
      → IsIndexed ways (Some it ∷ stack) table depth
      → IsIndexed ways stack (inserted table (ways.name it) (ways.before it)) depth
  declared_off stack table depth it h = record {
    index = λ name. now_after table (ways.name it) (ways.before it) name
        ∙ back_to (bytes_eq name (ways.name it).now) (ways.name it).now name (ways.before it)
        (now_in (stands_at name table)) (ways.declared it) stack refl h.chain.0
        (h.index name ∙ ap (λ b. if b then Some (ways.declared it) else meant_by ways stack name)
        (turned (ways.name it).now name));
    chain = h.chain.2;
    deep = h.deep;
  }

  -- the block on top goes
  pub left_on : (stack : List (Option H)) (table : Table D) (depth : ℕ)
      → IsIndexed ways (None ∷ stack) table depth → IsIndexed ways stack table (depth - 1)
  left_on stack table depth h =
      let e : depth ≡ suc (depth_of stack) = h.deep in
      record { index = h.index; chain = h.chain; deep = omega arith }

  -- ---- the list as code holds it, the latest last

  pub declared_now : (items : List (Option H)) (it : H) {pushed : List (Option H)}
      {table entries : Table D} {depth : ℕ}
      → IsIndexed ways (reverse items) table depth
      → ways.depth (ways.declared it) ≡ depth
      → ways.before it ≡ now_in (stands_at (ways.name it).now table)
      → pushed ≡ items ++ Some it ∷ []
      → entries ≡ inserted table (ways.name it) (Some (ways.declared it))
      → IsIndexed ways (reverse pushed) entries depth
  declared_now items it {pushed} {table} {entries} {depth} h d b p e =
      rw (p, e, on_top items (Some it)) (declared_on (reverse items) table depth it h d b)

-- the declaration on top is gone; `seen` sees no more than the blocks around the innermost one
module _ {D H B : Type 0} (ways : Ways D H) (seen : List (Option H) → B)
    (skips : (stack : List (Option H)) (it : H) → seen (Some it ∷ stack) ≡ seen stack)
    (items rest : List (Option H)) {top : Option H} {table : Table D} {depth : ℕ} {it : H}
    {outer : B} (before : IsIndexed ways (reverse items) table depth × (seen (reverse items) ≡ outer))
    (popped : items ≡ rest ++ top ∷ []) (is_it : top ≡ Some it) where
  on_it : reverse items ≡ Some it ∷ reverse rest
  on_it = ap reverse popped ∙ on_top rest top ∙ ap (λ x. x ∷ reverse rest) is_it

  indexed : IsIndexed ways (Some it ∷ reverse rest) table depth
  indexed = subst (λ stack. IsIndexed ways stack table depth) on_it before.0

  pub undeclared : {entries : Table D} → entries ≡ inserted table (ways.name it) (ways.before it)
      → IsIndexed ways (reverse rest) entries depth × (seen (reverse rest) ≡ outer)
  undeclared {entries} e = (
    rw e (declared_off ways (reverse rest) table depth it indexed),
    sym (skips (reverse rest) it) ∙ sym (ap seen on_it) ∙ before.1,
  )

  -- its name has an entry
  pub never_absent : stands_at (ways.name it).now table ≡ None → ⊥
  never_absent e =
      let same : bytes_eq (ways.name it).now (ways.name it).now ≡ true =
      (bytes_decides (ways.name it).now (ways.name it).now).1 refl in
      let is_some : meant_by ways (Some it ∷ reverse rest) (ways.name it).now
      ≡ Some (ways.declared it) =
      ap (λ b. if b then Some (ways.declared it)
      else meant_by ways (reverse rest) (ways.name it).now) same in
      let no : None ≡ Some (ways.declared it) =
      sym (ap now_in e) ∙ indexed.index (ways.name it).now ∙ is_some in
      cc
