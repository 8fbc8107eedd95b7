-- Names that marks mention; tags, one after another.
use Rattle.std.proofs.Common.{◌≡◌, ◌+◌, ◌<◌, ◌≤◌, ℕ, Bool, true, false, List, [], ◌∷◌, ◌++◌, cond}
use Rattle.std.proofs.Common.{map, length, take, drop, get_or, refl, sym, ap, ◌∙◌, append_assoc}
use Rattle.std.proofs.Common.{append-nil}
use Rattle.std.specs.Prelude.{◌&&◌, ◌||◌, not, nat_eq, slice_get, Some, None}
use Rattle.std.specs.Str.{bytes_eq}
use Rattle.std.proofs.lemmas.List.{map-append, drop_all, drop_more, take_all, take_more}
use Rattle.std.specs.Bool.{one_answer}
use Rattle.std.proofs.lemmas.Slice.Eq.{bytes_eq-Decides}
use Rattle.std.proofs.lemmas.Option.{slice_get_within, slice_get-get_or, get_or_from_slice_get}
use Rattle.std.proofs.lemmas.List.Folds.{list_any-append}
use Rattle.names_sight.proofs.MarkLaws.{one_more}
use Rattle.pawn_base.specs.Among.{is_among, with_name}
use Rattle.pawn_tags.specs.Tags.{untagged}
use Rattle.pawn_meaning.specs.Program as plain
use Rattle.pawn_meaning.specs.View.{tag_view}
use Rattle.pawn_meaning.specs.declared.program.Tag.{Tag}
use Rattle.names_rules.specs.Mark as plain_mark
use Rattle.names_rules.specs.Mark.{Opens, Closes, Mentions, Uses, Declares}
use Rattle.types_rules.specs.Programs.{mentions, tags_from}
use Rattle.names_sight.specs.declared.mark.Mark.{Mark}
use Rattle.names_sight.specs.MarkView.{mark_view, marks_view}
use Rattle.check_declarations.specs.Mentioned.{mentions_by, tag_by, Listed}

-- ---- mentions

bytes_eq-sym : (xs ys : List ℕ) → bytes_eq xs ys ≡ bytes_eq ys xs
bytes_eq-sym xs ys =
    let one = bytes_eq-Decides xs ys in
    let other = bytes_eq-Decides ys xs in
    one_answer (bytes_eq xs ys) (bytes_eq ys xs) one
    ((λ e. sym (other.0 e)), (λ h. other.1 (sym h)))

or_false : (b : Bool) → (b || false) ≡ b
or_false true = refl
or_false false = refl

or_swap : (a b : Bool) → (a || b) ≡ (b || a)
or_swap true true = refl
or_swap true false = refl
or_swap false true = refl
or_swap false false = refl

-- a name that is among others counts once
among_by : (name other : List ℕ) (names : List (List ℕ)) (b : Bool) → is_among name names ≡ b
    → (bytes_eq other name ≡ true → is_among other names ≡ b)
    → is_among other (cond b names (names ++ name ∷ []))
    ≡ (bytes_eq name other || is_among other names)
among_by name other names true e h =
    same (bytes_eq other name) (bytes_eq name other) (bytes_eq-sym other name) h
  where
    same : (a b : Bool) → a ≡ b → (a ≡ true → is_among other names ≡ true)
        → is_among other names ≡ (b || is_among other names)
    same true true e k = k refl
    same true false e k = absurd (let no : ⊥ = cc in no)
    same false true e k = absurd (let no : ⊥ = cc in no)
    same false false e k = refl
among_by name other names false e h =
    list_any-append (bytes_eq other) names (name ∷ [])
    ∙ ap (λ b. is_among other names || b)
    (or_false (bytes_eq other name) ∙ bytes_eq-sym other name)
    ∙ or_swap (is_among other names) (bytes_eq name other)

among_same : (name other : List ℕ) (names : List (List ℕ)) (b : Bool) → is_among name names ≡ b
    → bytes_eq other name ≡ true → is_among other names ≡ b
among_same name other names b h e =
    ap (λ n. is_among n names) ((bytes_eq-Decides other name).0 e) ∙ h

pub added_is : (names new : List (List ℕ)) (tag : List ℕ) → new ≡ with_name names tag
    → (name : List ℕ) → is_among name new ≡ (bytes_eq tag name || is_among name names)
added_is names new tag h name =
    ap (is_among name) h ∙ among_by tag name names (is_among tag names) refl
    (among_same tag name names (is_among tag names) refl)

mentions_is : (mark : plain_mark.Mark) (before : List plain_mark.Mark) (name : List ℕ)
    → mentions (mark ∷ before) name ≡ mentions_by mark name (mentions before name)
mentions_is Opens before name = refl
mentions_is Closes before name = refl
mentions_is (Mentions tag) before name = refl
mentions_is (Uses it) before name = refl
mentions_is (Declares it) before name = refl

-- the names of one mark more
pub mention_more : (marks : List Mark) (i : ℕ) (mark : Mark) (old new : List (List ℕ))
    → ((name : List ℕ) → is_among name old ≡ mentions (marks_view (take i marks)) name)
    → i < length marks → mark ≡ get_or marks i mark
    → ((name : List ℕ) → is_among name new ≡ mentions_by (mark_view mark) name (is_among name old))
    → (name : List ℕ) → is_among name new ≡ mentions (marks_view (take (i + 1) marks)) name
mention_more marks i mark old new before lt e step name =
    step name ∙ ap (mentions_by (mark_view mark) name) (before name)
    ∙ sym (mentions_is (mark_view mark) (marks_view (take i marks)) name)
    ∙ ap (λ ms. mentions ms name) (sym (one_more (take i marks) mark))
    ∙ ap (λ m. mentions (marks_view (take i marks ++ m ∷ [])) name) e
    ∙ ap (λ ms. mentions (marks_view ms) name) (sym (take_more marks i mark lt))

pub mention_all : (marks : List Mark) (i : ℕ) (names : List (List ℕ))
    → ((name : List ℕ) → is_among name names ≡ mentions (marks_view (take i marks)) name)
    → length marks ≤ i → (name : List ℕ) → is_among name names ≡ mentions (marks_view marks) name
mention_all marks i names all le name =
    all name ∙ ap (λ ms. mentions (marks_view ms) name) (take_all i marks le)

-- ---- tags

pub pushed_is : (list : List Tag) (tag : Tag)
    → map tag_view (list ++ tag ∷ []) ≡ map tag_view list ++ tag_view tag ∷ []
pushed_is list tag = map-append tag_view list (tag ∷ [])

tags_by : (marks : List plain_mark.Mark) (i : ℕ) (name : List ℕ) (rest : List (List ℕ)) (a b : Bool)
    → cond a (tags_from marks (i + 1) rest)
    (cond b (record { number = i; name = name } ∷ tags_from marks (i + 1) rest)
    (tags_from marks (i + 1) rest))
    ≡ tag_by (not a && b) i name ++ tags_from marks (i + 1) rest
tags_by marks i name rest true b = refl
tags_by marks i name rest false true = refl
tags_by marks i name rest false false = refl

tags_step : (marks : List plain_mark.Mark) (i : ℕ) (name : List ℕ) (rest : List (List ℕ))
    → tags_from marks i (name ∷ rest)
    ≡ tag_by (not (nat_eq i untagged) && mentions marks name) i name
    ++ tags_from marks (i + 1) rest
unfolding tags_from
tags_step marks i name rest = tags_by marks i name rest (nat_eq i untagged) (mentions marks name)

pub listed_begins : (marks : List plain_mark.Mark) (names : List (List ℕ)) → Listed marks names 0 []
listed_begins marks names = record { same = refl }

pub listed_more : {marks : List plain_mark.Mark} {names : List (List ℕ)} {i : ℕ}
    {list next : List Tag} (name : List ℕ) (spelled : Bool)
    → Listed marks names i list → slice_get names i ≡ Some name
    → spelled ≡ (not (nat_eq i untagged) && mentions marks name)
    → map tag_view next ≡ map tag_view list ++ tag_by spelled i name
    → Listed marks names (i + 1) next
listed_more {marks} {names} {i} {list} {next} name spelled done at is step =
    let lt = slice_get_within names i name at in
    let here : drop i names ≡ name ∷ drop (i + 1) names =
    drop_more names i name lt ∙ ap (λ n. n ∷ drop (i + 1) names)
    (get_or_from_slice_get names i name name at) in
    let rest : List plain.Tag = tags_from marks (i + 1) (drop (i + 1) names) in
    record {
      same =
          ap (λ ts. ts ++ rest) step ∙ append_assoc (map tag_view list) (tag_by spelled i name) rest
          ∙ ap (λ b. map tag_view list ++ (tag_by b i name ++ rest)) is
          ∙ ap (λ ts. map tag_view list ++ ts) (sym (tags_step marks i name (drop (i + 1) names)))
          ∙ ap (λ ns. map tag_view list ++ tags_from marks i ns) (sym here) ∙ done.same;
    }

pub listed_all : {marks : List plain_mark.Mark} {names : List (List ℕ)} {i : ℕ} {list : List Tag}
    → Listed marks names i list → length names ≤ i
    → map tag_view list ≡ tags_from marks 0 names
unfolding tags_from
listed_all {marks} {names} {i} {list} done le =
    sym (append-nil (map tag_view list)) ∙ ap (λ ts. map tag_view list ++ ts) (nothing i)
    ∙ ap (λ ns. map tag_view list ++ tags_from marks i ns) (sym (drop_all i names le))
    ∙ done.same
  where
    nothing : (i : ℕ) → [] ≡ tags_from marks i []
    nothing i = refl

-- a name that is there
pub name_there : (names : List (List ℕ)) (i : ℕ) → i < length names → slice_get names i ≡ None → ⊥
name_there names i lt e =
    let no : Some (get_or names i []) ≡ None = sym (slice_get-get_or names i [] lt) ∙ e in cc
