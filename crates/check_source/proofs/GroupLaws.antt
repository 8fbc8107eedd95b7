-- Functions by their keys, and a body more.
use Rattle.std.proofs.Common.{◌≡◌, ◌<◌, ◌+◌, ℕ, Bool, true, false, if◌then◌else◌, List, [], ◌∷◌}
use Rattle.std.proofs.Common.{◌++◌, map, length, get_or, set, drop, position, Option, Some, None}
use Rattle.std.proofs.Common.{refl, sym, ap, ◌∙◌}
use Rattle.std.specs.Option.{option_or}
use Rattle.std.proofs.lemmas.List.{map-append, drop_more, length-map}
use Rattle.types_rules.specs.Keys.{Key, same_key}
use Rattle.types_rules.specs.Groups as plain
use Rattle.types_rules.specs.Groups.{number_of, with_body, body_key, grouped}
use Rattle.check_source.specs.Update.{updated, with_first}
use Rattle.check_source.proofs.PlaceLaws.{place_is, place_map, first_at, first_new, map_updated}
use Rattle.check_source.proofs.PlaceLaws.{map_set, set_updates, position_push}
use Rattle.check_source.specs.KeyView.{key_view}
use Rattle.check_source.specs.declared.groups.Group.{Group}
use Rattle.check_source.specs.declared.tables.Tables.{Tables}
use Rattle.check_source.specs.declared.written.Written.{Written}
use Rattle.check_source.specs.WrittenView.{written_view}
use Rattle.check_source.specs.GroupsView.{group_view, groups_view, group_with}
use Rattle.check_source.specs.Found.{found_in}
use Rattle.check_source.specs.Numbered.{IsNumbered}
use Rattle.check_source.proofs.TableLaws.{equal_keys}

-- ---- numbers

abbrev pub keyed : Group → Key
keyed it = key_view it.key

abbrev has_key : Key → plain.Group → Bool
has_key key it = same_key it.key key

by_keys : (groups : List Group) (key : Key)
    → number_of (groups_view groups) key ≡ position (λ (k : Key). same_key k key) (map keyed groups)
by_keys groups key =
    place_is (has_key key) (groups_view groups) ∙ place_map group_view (has_key key) groups
    ∙ sym (place_map keyed (λ (k : Key). same_key k key) groups)
    ∙ sym (place_is (λ (k : Key). same_key k key) (map keyed groups))

pub numbered_set : (groups : List Group) (i : ℕ) (x y : Group) (tables : Tables)
    → x ≡ get_or groups i x → keyed y ≡ keyed x
    → IsNumbered groups tables → IsNumbered (set groups i y) tables
numbered_set groups i x y tables is k h = record {
  numbers = λ key. h.numbers key ∙ by_keys groups key
      ∙ ap (position (λ (it : Key). same_key it key)) (sym (map_set keyed groups i x y is k))
      ∙ sym (by_keys (set groups i y) key);
}

pub grown : (groups : List Group) (i : ℕ) (x : Group) (it : Written) (bodies : List Written)
    → x ≡ get_or groups i x
    → bodies ≡ x.bodies ++ it ∷ []
    → set groups i (record x { bodies = bodies }) ≡ updated groups i (group_with it)
grown groups i x it bodies is e =
    set_updates groups i x (record x { bodies = bodies }) (group_with it) is
    (ap (λ (b : List Written). record x { bodies = b }) e)

pub numbered_kept : (groups now : List Group) (old tables : Tables) → IsNumbered groups old
    → now ≡ groups → ((key : Key) → found_in tables key ≡ found_in old key)
    → IsNumbered now tables
numbered_kept groups now old tables h n e = record {
  numbers =
      λ key. e key ∙ h.numbers key ∙ ap (λ (its : List Group). number_of (groups_view its) key)
      (sym n);
}

number_push : (groups : List Group) (it : Group) (key : Key)
    → number_of (groups_view (groups ++ it ∷ [])) key
    ≡ option_or (number_of (groups_view groups) key)
    (if same_key (keyed it) key then Some (length groups) else None)
number_push groups it key =
    ap (λ (its : List plain.Group). number_of its key) (map-append group_view groups (it ∷ []))
    ∙ position_push (has_key key) (groups_view groups) (group_view it)
    ∙ ap (λ (n : ℕ). option_or (number_of (groups_view groups) key)
    (if same_key (keyed it) key then Some n else None)) (length-map groups group_view)

none_behind : (x : Option ℕ) → x ≡ option_or x None
none_behind None = refl
none_behind (Some n) = refl

push_by : (b : Bool) (found old : Option ℕ) (n : ℕ) → found ≡ old → (b ≡ true → old ≡ None)
    → (if b then Some n else found) ≡ option_or old (if b then Some n else None)
push_by true found old n e none = ap (λ (o : Option ℕ). option_or o (Some n)) (sym (none refl))
push_by false found old n e none = e ∙ none_behind old

pub numbered_push : (groups now : List Group) (old tables : Tables) (it : Group) (number : ℕ)
    → IsNumbered groups old → number_of (groups_view groups) (keyed it) ≡ None
    → number ≡ length groups
    → ((key : Key) → found_in tables key
    ≡ (if same_key (keyed it) key then Some number else found_in old key))
    → now ≡ groups ++ it ∷ [] → IsNumbered now tables
numbered_push groups now old tables it number h none n f e = record {
  numbers = λ key. f key
      ∙ ap (λ (m : ℕ). if same_key (keyed it) key then Some m else found_in old key) n
      ∙ push_by (same_key (keyed it) key) (found_in old key) (number_of (groups_view groups) key)
      (length groups) (h.numbers key)
      (λ same. ap (number_of (groups_view groups)) (sym (equal_keys (keyed it) key same)) ∙ none)
      ∙ sym (number_push groups it key)
      ∙ ap (λ (its : List Group). number_of (groups_view its) key) (sym e);
}

-- ---- a body more

abbrev with_the : plain.Written → plain.Group → plain.Group
with_the it group = record group { bodies = group.bodies ++ it ∷ [] }

first_body : (all : List plain.Group) (key : Key) (it : plain.Written)
    → with_body all key it ≡ with_first (has_key key) (with_the it)
    (record { key = key; bodies = it ∷ [] }) all
first_body [] key it = refl
first_body (group ∷ more) key it =
    ap (λ (rest : List plain.Group). if same_key group.key key then with_the it group ∷ more
    else group ∷ rest) (first_body more key it)

view_with : (it : Written) (group : Group)
    → group_view (group_with it group) ≡ with_the (written_view it) (group_view group)
view_with it group =
    ap (λ (b : List plain.Written). record { key = key_view group.key; bodies = b })
    (map-append written_view group.bodies (it ∷ []))

pub body_known : (all now : List Group) (key : Key) (it : Written) (i : ℕ)
    → number_of (groups_view all) key ≡ Some i → now ≡ updated all i (group_with it)
    → groups_view now ≡ with_body (groups_view all) key (written_view it)
body_known all now key it i h e =
    ap groups_view e ∙ map_updated group_view all i (group_with it) (with_the (written_view it))
    (view_with it)
    ∙ sym (first_body (groups_view all) key (written_view it)
    ∙ first_at (has_key key) (with_the (written_view it))
    (record { key = key; bodies = written_view it ∷ [] }) (groups_view all) i
    (sym (place_is (has_key key) (groups_view all)) ∙ h))

pub body_new : (all now : List Group) (group : Group) (it : Written)
    → number_of (groups_view all) (keyed group) ≡ None → group.bodies ≡ it ∷ []
    → now ≡ all ++ group ∷ [] → groups_view now
    ≡ with_body (groups_view all) (keyed group) (written_view it)
body_new all now group it h b e =
    ap groups_view e ∙ map-append group_view all (group ∷ [])
    ∙ ap (λ (bs : List Written). groups_view all
    ++ record { key = keyed group; bodies = map written_view bs } ∷ []) b
    ∙ sym (first_body (groups_view all) (keyed group) (written_view it)
    ∙ first_new (has_key (keyed group)) (with_the (written_view it))
    (record { key = keyed group; bodies = written_view it ∷ [] }) (groups_view all)
    (sym (place_is (has_key (keyed group)) (groups_view all)) ∙ h))

pub grouped_more : (names : List (List ℕ)) (fallback : List ℕ) (items : List Written) (i : ℕ)
    (x : Written) (old now whole : List plain.Group)
    → grouped names fallback old (map written_view (drop i items)) ≡ whole → i < length items
    → x ≡ get_or items i x
    → now ≡ with_body old (body_key names fallback (written_view x)) (written_view x)
    → grouped names fallback now (map written_view (drop (i + 1) items)) ≡ whole
unfolding grouped
grouped_more names fallback items i x old now whole h lt is e =
    let cut : drop i items ≡ x ∷ drop (i + 1) items =
    drop_more items i x lt ∙ ap (λ (y : Written). y ∷ drop (i + 1) items) (sym is) in
    ap (λ (n : List plain.Group). grouped names fallback n (map written_view (drop (i + 1) items)))
    e
    ∙ ap (λ (its : List Written). grouped names fallback old (map written_view its)) (sym cut) ∙ h
