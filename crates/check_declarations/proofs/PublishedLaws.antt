-- Public functions one by one, by their numbers.
use Rattle.std.proofs.Common.{◌≡◌, ◌≤◌, ◌+◌, ℕ, zero, suc, Bool, true, false, ◌||◌, ◌&&◌}
use Rattle.std.proofs.Common.{if◌then◌else◌, List, [], ◌∷◌, ◌++◌, length, drop, Some, refl}
use Rattle.std.proofs.Common.{sym, ap, ap₂, ◌∙◌, arith, append_assoc, append-nil}
use Rattle.std.proofs.lemmas.List.{drop_all, length-map}
use Rattle.std.specs.Prelude.{slice_get}
use Rattle.pawn_meaning.specs.Program.{Public}
use Rattle.types_rules.specs.Groups as plain
use Rattle.types_rules.specs.Headings.{is_enters}
use Rattle.types_rules.specs.Sources.{Source}
use Rattle.types_rules.specs.Publics.{is_public, group_name, begins_with_at, publics_from}
use Rattle.check_functions.proofs.OwnLaws.{has_number}
use Rattle.check_source.specs.declared.groups.Group.{Group}
use Rattle.check_source.specs.GroupsView.{group_view, groups_view}
use Rattle.check_declarations.specs.Marked.{AreMarked, flag_at, public_by}
use Rattle.check_functions.specs.Own.{number_in}
use Rattle.check_declarations.proofs.PublicMarkLaws.{says_is}

-- whether a function is public, by what is kept and by its name
pub public_is : (source : Source) (flags : List Bool) (entry : Bool) (group : plain.Group) (i : ℕ)
    (name : List ℕ) (shown : Bool)
    → AreMarked source.tags source.fallback source.groups source.headings flags entry
    → slice_get source.groups i ≡ Some group → name ≡ group_name group.bodies
    → shown ≡ (flag_at flags (number_in source.groups (Some group.key))
    || (is_enters group.key && entry)) || begins_with_at name
    → shown ≡ is_public source group
public_is source flags entry group i name shown h at n e =
    e ∙ ap₂ (λ (a b : Bool). a || b)
    (says_is source.tags source.fallback source.groups source.headings flags entry group.key h
    (has_number source.groups i group at)) (ap begins_with_at n)

pub pushed : (old now : List Public) (shown is : Bool) (name named : List ℕ) (i : ℕ)
    → shown ≡ is → name ≡ named → now ≡ old ++ public_by shown name i
    → now ≡ old ++ public_by is named i
pushed old now shown is name named i s n e =
    e ∙ ap₂ (λ (b : Bool) (bytes : List ℕ). old ++ public_by b bytes i) s n

dropped : (groups : List plain.Group) (i : ℕ) (group : plain.Group)
    → slice_get groups i ≡ Some group
    → drop i groups ≡ group ∷ drop (suc i) groups
dropped [] i group at = absurd (let no : ⊥ = cc in no)
dropped (x ∷ xs) zero group at = let same : x ≡ group = cc in ap (λ (g : plain.Group). g ∷ xs) same
dropped (x ∷ xs) (suc i) group at = dropped xs i group at

one_more : (source : Source) (b : Bool) (group : plain.Group) (i : ℕ) (rest : List plain.Group)
    → (if b then record { name = group_name group.bodies; function = i }
    ∷ publics_from source (i + 1) rest
    else publics_from source (i + 1) rest)
    ≡ public_by b (group_name group.bodies) i ++ publics_from source (i + 1) rest
one_more source true group i rest = refl
one_more source false group i rest = refl

-- so many functions are looked at
pub record Numbered (source : Source) (groups : List plain.Group) (i : ℕ)
    (done : List Public) : Type 0 where
  pub same : publics_from source 0 groups ≡ done ++ publics_from source i (drop i groups)

pub numbered_begin : (source : Source) (groups : List plain.Group) (done : List Public) → done ≡ []
    → Numbered source groups 0 done
numbered_begin source groups done e =
    record { same = ap (λ (xs : List Public). xs ++ publics_from source 0 groups) (sym e) }

pub numbered_more : (source : Source) (groups : List plain.Group) (i : ℕ) (group : plain.Group)
    (done now : List Public)
    → Numbered source groups i done → slice_get groups i ≡ Some group
    → now ≡ done ++ public_by (is_public source group) (group_name group.bodies) i
    → Numbered source groups (i + 1) now
unfolding publics_from
numbered_more source groups i group done now h at e =
    let next : suc i ≡ i + 1 = omega arith in
    let rest : List plain.Group = drop (i + 1) groups in
    let here : drop i groups ≡ group ∷ rest =
    dropped groups i group at ∙ ap (λ (n : ℕ). group ∷ drop n groups) next in
    record {
      same = h.same
          ∙ ap (λ (gs : List plain.Group). done ++ publics_from source i gs) here
          ∙ ap (λ (xs : List Public). done ++ xs)
          (one_more source (is_public source group) group i rest)
          ∙ sym (append_assoc done (public_by (is_public source group) (group_name group.bodies) i)
          (publics_from source (i + 1) rest))
          ∙ ap (λ (front : List Public). front ++ publics_from source (i + 1) rest) (sym e);
    }

pub numbered_all : (source : Source) (groups : List Group) (i : ℕ) (done : List Public)
    → Numbered source (groups_view groups) i done → length groups ≤ i
    → done ≡ publics_from source 0 (groups_view groups)
unfolding publics_from
numbered_all source groups i done h le =
    let long : length (groups_view groups) ≤ i = omega (arith, length-map groups group_view) in
    sym (h.same
    ∙ ap (λ (gs : List plain.Group). done ++ publics_from source i gs)
    (drop_all i (groups_view groups) long)
    ∙ append-nil done)
