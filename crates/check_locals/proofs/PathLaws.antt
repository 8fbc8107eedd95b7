-- The path of declarations behind some, and back again.
use Rattle.std.proofs.Common.{◌≡◌, ℕ, ◌+◌, ◌-◌, List, [], ◌∷◌, ◌++◌, map, take, length, refl}
use Rattle.std.proofs.Common.{sym, ap, ap₂, ◌∙◌, arith, append_assoc, length-append}
use Rattle.std.proofs.lemmas.List.{append-nil, take-map, take_at, length-map}
use Rattle.types_rules.specs.Scope.{Scope, Entry, with_entries}
use Rattle.check_nodes.specs.Scopes.{Block, Blocks, block_view, scope_view, without, outer_of}
use Rattle.check_nodes.specs.Scopes.{outer_by}

-- so many declarations more in the innermost block
pub record Extends (n : ℕ) (before after : Scope) : Type 0 where
  pub of : (block : List Entry) (outer : Scope) → before ≡ block ∷ outer
      → (entries : List Entry) × (after ≡ (block ++ entries) ∷ outer) × (length entries ≡ n)

pub extends_none : (scope : Scope) → Extends 0 scope scope
extends_none scope = record {
  of =
      λ block outer h. (
        [],
        h ∙ ap (λ (it : List Entry). it ∷ outer)
            (sym (append-nil block)),
        refl,
      );
}

pub extends_by : (scope : Scope) (entry : Entry) → Extends 1 scope (with_entries scope (entry ∷ []))
extends_by scope entry = record {
  of = λ block outer h. (entry ∷ [], ap (λ (it : Scope). with_entries it (entry ∷ [])) h, refl);
}

pub extends_then : (m n : ℕ) (a b c : Scope) → Extends m a b → Extends n b c → Extends (m + n) a c
extends_then m n a b c p q = record {
  of = λ block outer h.
      let first = p.of block outer h in
      let second = q.of (block ++ first.0) outer first.1 in
      let counted : length first.0 ≡ m = first.2 in
      let more : length second.0 ≡ n = second.2 in (
        first.0 ++ second.0,
        second.1 ∙ ap (λ (it : List Entry). it ∷ outer) (append_assoc block first.0 second.0),
        omega (arith, length-append first.0 second.0, counted, more),
      );
}

-- ---- back again

head_is : {A : Type 0} (x y : A) (xs ys : List A) → x ∷ xs ≡ y ∷ ys → x ≡ y
head_is x y xs ys h = cc

tail_is : {A : Type 0} (x y : A) (xs ys : List A) → x ∷ xs ≡ y ∷ ys → xs ≡ ys
tail_is x y xs ys h = cc

kept : (here : Block) (block entries : List Entry) (n : ℕ) → block_view here ≡ block ++ entries
    → length entries ≡ n
    → block_view (take (length here - n) here) ≡ block
kept here block entries n h k =
    let all : length here ≡ length block + length entries =
    sym (length-map here _) ∙ ap length h ∙ length-append block entries in
    let left : length block ≡ length here - n = omega (arith, all, k) in
    sym (take-map _ (length here - n) here) ∙ ap (take (length here - n)) h
    ∙ take_at block entries (length here - n) left

-- the declarations are forgotten
pub forgotten : (n : ℕ) (old new : Blocks) → Extends n (scope_view old) (scope_view new)
    → scope_view (without n new) ≡ scope_view old
forgotten n old new h =
    let it = h.of (block_view old.here) (map block_view old.outer) refl in
    ap₂ (λ (block : List Entry) (outer : Scope). block ∷ outer)
    (kept new.here (block_view old.here) it.0 n (head_is _ _ _ _ it.1) it.2)
    (tail_is _ _ _ _ it.1)

outer_is : (blocks : List Block) (block : List Entry) (outer : Scope)
    → map block_view blocks ≡ block ∷ outer → scope_view (outer_by blocks) ≡ block ∷ outer
outer_is [] block outer h = cc
outer_is (it ∷ more) block outer h = h

-- the block that was entered is left
pub left : (n : ℕ) (old new : Blocks) → Extends n ([] ∷ scope_view old) (scope_view new)
    → scope_view (outer_of new) ≡ scope_view old
left n old new h =
    let it = h.of [] (scope_view old) refl in
    outer_is new.outer _ _ (tail_is _ _ _ _ it.1)
