-- A set of names has those of a list; the names that bodies call, body by body.
use Rattle.std.proofs.Common.{◌≡◌, ◌+◌, ◌<◌, ℕ, Bool, true, false, ◌||◌, if◌then◌else◌, List, []}
use Rattle.std.proofs.Common.{◌∷◌, ◌++◌, map, length, get_or, drop, refl, sym, ap, ◌∙◌}
use Rattle.std.specs.Prelude.{flat_map}
use Rattle.std.specs.List.{list_any}
use Rattle.std.specs.Str.{bytes_eq}
use Rattle.std.specs.Cmp.Lexicographic.{bytes_decides}
use Rattle.std.proofs.lemmas.List.Folds.{list_any-append}
use Rattle.pawn_base.specs.Among.{is_among, with_name}
use Rattle.types_rules.specs.Groups as plain
use Rattle.check_source.specs.declared.written.Written.{Written}
use Rattle.check_source.specs.WrittenView.{written_view}
use Rattle.check_source.proofs.GatherLaws.{gathered}
use Rattle.check_source.specs.CalledView.{with_names, called_by}

or_assoc : (a b c : Bool) → (a || b) || c ≡ a || (b || c)
or_assoc true b c = refl
or_assoc false b c = refl

or_none : (a : Bool) → a || false ≡ a
or_none true = refl
or_none false = refl

or_kept : (a b : Bool) → (b ≡ true → a ≡ true) → a ≡ a || b
or_kept true b h = refl
or_kept false true h = h refl
or_kept false false h = refl

equal_among : (x name : List ℕ) (names : List (List ℕ)) → is_among name names ≡ true
    → bytes_eq x name ≡ true → is_among x names ≡ true
equal_among x name names h e =
    ap (λ (n : List ℕ). is_among n names) ((bytes_decides x name).0 e) ∙ h

by_among : (b : Bool) (x name : List ℕ) (names : List (List ℕ)) → is_among name names ≡ b
    → is_among x (if b then names else names ++ name ∷ []) ≡ is_among x names || bytes_eq x name
by_among true x name names h =
    or_kept (is_among x names) (bytes_eq x name) (equal_among x name names h)
by_among false x name names h =
    list_any-append (bytes_eq x) names (name ∷ [])
    ∙ ap (λ (b : Bool). is_among x names || b) (or_none (bytes_eq x name))

pub among_all : (x : List ℕ) (names more : List (List ℕ))
    → is_among x (with_names names more) ≡ is_among x names || is_among x more
among_all x names [] = sym (or_none (is_among x names))
among_all x names (name ∷ more) =
    among_all x (with_name names name) more
    ∙ ap (λ (b : Bool). b || is_among x more) (by_among (is_among name names) x name names refl)
    ∙ or_assoc (is_among x names) (bytes_eq x name) (is_among x more)

append_none : (xs : List (List ℕ)) → xs ≡ xs ++ []
append_none [] = refl
append_none (x ∷ xs) = ap (λ (r : List (List ℕ)). x ∷ r) (append_none xs)

called_more : (x : plain.Written) (xs : List plain.Written)
    → called_by (x ∷ xs) ≡ called_by (x ∷ []) ++ called_by xs
called_more x xs = ap (λ (r : List (List ℕ)). r ++ called_by xs) (append_none _)

pub called_on : (items : List Written) (i : ℕ) (x : Written) (old now : List (List ℕ))
    → old ++ called_by (map written_view (drop i items)) ≡ called_by (map written_view items)
    → i < length items → x ≡ get_or items i x → now ≡ old ++ called_by (written_view x ∷ [])
    → now ++ called_by (map written_view (drop (i + 1) items)) ≡ called_by (map written_view items)
called_on = gathered written_view called_by called_more
