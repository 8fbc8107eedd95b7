-- The pairs of constants and values rise in a tree whose names are resolved.
use Rattle.std.proofs.Common.{◌≡◌, ◌-◌, ◌≤◌, ℕ, suc, ℤ, Bool, true, false, if◌then◌else◌, List, []}
use Rattle.std.proofs.Common.{◌∷◌, ◌++◌, length, take, drop, Option, Some, None, refl, sym, ap, ap₂}
use Rattle.std.proofs.Common.{◌∙◌, subst, append_assoc, append-nil, length-append, arith}
use Rattle.pawn_token.specs.declared.sign.Sign.TheVariants as sign
use Rattle.pawn_cells.specs.declared.place.Place.{Place}
use Rattle.pawn_lex.specs.declared.token.Token.{Token}
use Rattle.pawn_tree.specs.declared.name.At.{At}
use Rattle.pawn_tree.specs.declared.name.Name as n
use Rattle.pawn_tree.specs.Expressions.{Expr}
use Rattle.pawn_tree.specs.Statements.{ConstantOf}
use Rattle.pawn_tree.specs.Declarations.{Item, Tree}
use Rattle.tree_rules.specs.Tokens.{at, spelling, tag_at, name_at, is_name, word, behind_tag}
use Rattle.tree_rules.specs.Tokens.{behind_sign}
use Rattle.tree_rules.specs.Lists.{Many, no_more, one_more, Behind, Several, several}
use Rattle.tree_rules.specs.Variables.{IsConstant, constant}
use Rattle.tree_rules.specs.Declarations.{IsItem, item_of, IsEnum, enum_of, maybe_name}
use Rattle.tree_rules.specs.Declarations.{behind_name}
use Rattle.tree_rules.specs.Spells.{Spells}
use Rattle.names_rules.specs.Verdict.{Stands, Breaks}
use Rattle.names_rules.specs.Mark as mark
use Rattle.names_rules.specs.Mark.{Mark, Opens, Closes, Mentions, Uses, Declares, Declaration}
use Rattle.names_rules.specs.Lists.{maybe_marks}
use Rattle.names_rules.specs.ExpressionMarks.{occurs, expr_marks}
use Rattle.names_rules.specs.VariableMarks.{tag_marks}
use Rattle.names_rules.specs.StatementMarks.{constant_marks}
use Rattle.names_rules.specs.TreeMarks.{item_sort, label_marks, item_marks, items_marks, tree_marks}
use Rattle.names_rules.specs.Known.{Known, Kind, Cells, Worth, Function}
use Rattle.names_rules.specs.Around.{Around, around_of}
use Rattle.names_rules.specs.Found.{meaning, declared, kind_of}
use Rattle.names_rules.specs.Values.{behind, with_pair, with_kind, values}
use Rattle.names_rules.specs.Resolves.{Names, Resolves}
use Rattle.names_rules.specs.ResolvedMeans.{HasValue, IsResolved}
use Rattle.names_rules.proofs.ResolvedLaws.{is_resolved}
use Rattle.types_laws.specs.Rising.{AreRising}
use Rattle.types_laws.proofs.Up.{Up, none_up, up_on, up_from, up_behind, up_around, up_more, rising}
use Rattle.types_laws.proofs.Grows.{Grows, Spans, many_order}
use Rattle.types_laws.proofs.Grows.{led_orders, maybe_tag_rises, ending_on}
use Rattle.types_laws.proofs.Grows.{sign_on}
use Rattle.types_laws.proofs.Nodes.{expr_rises, whole_orders, decl_orders}

-- ---- one pair more, before so many at the end

take_front : {A : Type 0} (front back : List A) → take (length front) (front ++ back) ≡ front
take_front [] back = refl
take_front (x ∷ front) back = ap (λ l. x ∷ l) (take_front front back)

drop_front : {A : Type 0} (front back : List A) → drop (length front) (front ++ back) ≡ back
drop_front [] back = refl
drop_front (x ∷ front) back = drop_front front back

with_pair_before : (pair : ℕ × ℤ) (front back : List (ℕ × ℤ))
    → with_pair (length back) pair (front ++ back) ≡ front ++ pair ∷ back
with_pair_before pair front back =
    let count : length (front ++ back) - length back ≡ length front =
    omega (arith, length-append front back) in
    ap (λ n. take n (front ++ back) ++ pair ∷ drop n (front ++ back)) count
    ∙ ap₂ (λ a b. a ++ pair ∷ b) (take_front front back) (drop_front front back)

abbrev IsWorth : Kind → Type 0
IsWorth (Cells sizes) = ⊥
IsWorth (Worth worth) = Unit {0}
IsWorth Function = ⊥

-- the pair of a declaration
record Paired (it : Declaration) (kind : Kind) (front back : List (ℕ × ℤ)) : Type 0 where
  pub value : ℤ
  pub stands : with_kind it kind (front ++ back) ≡ front ++ (it.name.at.token, value) ∷ back

paired : (it : Declaration) (kind : Kind) (front back : List (ℕ × ℤ)) → length back ≡ behind it.sort
    → IsWorth kind → HasValue kind → Paired it kind front back
paired it (Cells sizes) front back long w h = absurd w
paired it (Worth (Stands value)) front back long w h = record {
  value = value;
  stands =
      ap (λ n. with_pair n (it.name.at.token, value) (front ++ back)) (sym long)
      ∙ with_pair_before (it.name.at.token, value) front back;
}
paired it (Worth (Breaks faults)) front back long w h = absurd (grind (arith, h.1))
paired it Function front back long w h = absurd w

-- the last one
paired_last : (it : Declaration) (kind : Kind) (front : List (ℕ × ℤ)) → behind it.sort ≡ 0
    → IsWorth kind → HasValue kind
    → (value : ℤ) × (with_kind it kind front ≡ front ++ (it.name.at.token, value) ∷ [])
paired_last it kind front last w h =
    let x : Paired it kind front [] = paired it kind front [] (sym last) w h in
    (x.value, ap (with_kind it kind) (sym (append-nil front)) ∙ x.stands)

-- ---- marks whose constants have values

module _ (around : Around) where
  abbrev Valued : List Mark → Type 0
  Valued [] = Unit {0}
  Valued (Opens ∷ before) = Valued before
  Valued (Closes ∷ before) = Valued before
  Valued (Mentions tag ∷ before) = Valued before
  Valued (Uses it ∷ before) = Valued before
  Valued (Declares it ∷ before) = HasValue (declared around before it).kind × Valued before

  -- their pairs rise up to a token
  record Lifts (marks : List Mark) (end : ℕ) : Type 0 where
    pub up : Valued marks → Up 0 (values around marks) end

  none_lift : Lifts [] 0
  none_lift = record { up = λ v. none_up (omega arith) }

  lifts_on : {marks : List Mark} {m k : ℕ} → Lifts marks m → m ≤ k → Lifts marks k
  lifts_on x le = record { up = λ v. up_on (x.up v) le }

  lifts_mention : (tag : List ℕ) {marks : List Mark} {m : ℕ} → Lifts marks m
      → Lifts (Mentions tag ∷ marks) m
  lifts_mention tag x = record { up = x.up }

  lifts_occur : (ts : List Token) (name : List ℕ) (node : At) {marks : List Mark} {i : ℕ}
      → Lifts marks i → Lifts (occurs name (at ts i) node ∷ marks) (suc i)
  lifts_occur ts name node x = record { up = λ v. up_on (x.up v) (omega arith) }

  lifts_grow : {ts : List Token} → Grows ts Lifts
  lifts_grow {ts} = record {
    on = lifts_on;
    mention = λ {marks} {i} label r. lifts_on (lifts_mention (spelling ts i) r) (omega arith);
    occur = λ name node r. lifts_occur ts name node r;
  }

  maybe_name_lifts : (x : Option n.Name) {marks : List Mark} {m : ℕ} → Lifts marks m
      → Lifts (maybe_marks tag_marks x marks) m
  maybe_name_lifts None r = r
  maybe_name_lifts (Some tag) r = lifts_mention tag.bytes r

  -- ---- marks with no constants more

  record Same (first : List Mark) (least : ℕ) (marks : List Mark) (end : ℕ) : Type 0 where
    pub valued : Valued marks → Valued first
    pub same : values around marks ≡ values around first
    pub ahead : least ≤ end

  same_on : {first : List Mark} {least : ℕ} {marks : List Mark} {m k : ℕ} → Same first least marks m
      → m ≤ k → Same first least marks k
  same_on {least = least} {m = m} x le =
      let a : least ≤ m =
      x.ahead in record { valued = x.valued; same = x.same; ahead = omega arith }

  same_mention : {first : List Mark} {least : ℕ} (tag : List ℕ) {marks : List Mark} {m : ℕ}
      → Same first least marks m → Same first least (Mentions tag ∷ marks) m
  same_mention tag x = record { valued = x.valued; same = x.same; ahead = x.ahead }

  same_occur : {first : List Mark} {least : ℕ} (ts : List Token) (name : List ℕ)
      (node : At) {marks : List Mark} {i : ℕ} → Same first least marks i
      → Same first least (occurs name (at ts i) node ∷ marks) (suc i)
  same_occur {least = least} ts name node {i = i} x =
      let a : least ≤ i =
      x.ahead in record { valued = x.valued; same = x.same; ahead = omega arith }

  same_grow : {ts : List Token} (first : List Mark) (least : ℕ) → Grows ts (Same first least)
  same_grow {ts} first least = record {
    on = same_on;
    mention = λ {marks} {i} label r. same_on (same_mention (spelling ts i) r) (omega arith);
    occur = λ name node r. same_occur ts name node r;
  }

  same_first : (first : List Mark) (least : ℕ) → Same first least first least
  same_first first least = record { valued = λ v. v; same = refl; ahead = omega arith }

  -- ---- constants

  last_up : (it : Declaration) (kind : Kind) {pairs : List (ℕ × ℤ)} {end : ℕ} → behind it.sort ≡ 0
      → IsWorth kind → HasValue kind
      → Up 0 pairs it.name.at.token → suc it.name.at.token ≤ end
      → Up 0 (with_kind it kind pairs) end
  last_up it kind {pairs} {end} last w h x le =
      let y = paired_last it kind pairs last w h in
      subst (λ all. Up 0 all end) (sym y.1)
      (up_on (up_more (it.name.at.token, y.0) x (omega arith)) le)

  declares_lift : (it : Declaration) (first before : List Mark) {least end : ℕ} → behind it.sort ≡ 0
      → IsWorth (declared around before it).kind → Lifts first it.name.at.token
      → Same first least before end → suc it.name.at.token ≤ least
      → Lifts (Declares it ∷ before) end
  declares_lift it first before {least} {end} last w p s le =
      let a : least ≤ end = s.ahead in
      record {
        up = λ v.
            last_up it (declared around before it).kind last w v.0
            (subst (λ all. Up 0 all it.name.at.token) (sym s.same) (p.up (s.valued v.1)))
            (omega arith);
      }

  -- ---- constants of enumerations

  -- so many pairs more, from a token up to another
  record HasItems (pairs all : List (ℕ × ℤ)) (least count end : ℕ) : Type 0 where
    pub items : List (ℕ × ℤ)
    pub same : all ≡ pairs ++ items
    pub long : length items ≡ count
    pub up : Up least items end

  record Items (first : List Mark) (least count : ℕ) (marks : List Mark) (end : ℕ) : Type 0 where
    pub valued : Valued marks → Valued first
    pub has : Valued marks → HasItems (values around first) (values around marks) least count end

  no_items : (first : List Mark) (least : ℕ) → Items first least 0 first (suc least)
  no_items first least = record {
    valued = λ v. v;
    has =
        λ v. record {
          items = [];
          same = sym (append-nil (values around first));
          long = refl;
          up = none_up (omega arith);
        };
  }

  has_on : {pairs all : List (ℕ × ℤ)} {least count m k : ℕ} → HasItems pairs all least count m
      → m ≤ k → HasItems pairs all least count k
  has_on r le = record { items = r.items; same = r.same; long = r.long; up = up_on r.up le }

  items_on : {first : List Mark} {least count : ℕ} {marks : List Mark} {m k : ℕ}
      → Items first least count marks m → m ≤ k → Items first least count marks k
  items_on x le = record { valued = x.valued; has = λ v. has_on (x.has v) le }

  has_item : (it : Declaration) (kind : Kind) {pairs all : List (ℕ × ℤ)} {least count end : ℕ}
      → behind it.sort ≡ 0 → IsWorth kind → HasValue kind
      → HasItems pairs all least count it.name.at.token → suc it.name.at.token ≤ end
      → HasItems pairs (with_kind it kind all) least (suc count) end
  has_item it kind {pairs} {all} last w h r le =
      let x = paired_last it kind all last w h in
      record {
        items = r.items ++ (it.name.at.token, x.0) ∷ [];
        same =
            x.1 ∙ ap (λ l. l ++ (it.name.at.token, x.0) ∷ []) r.same
            ∙ append_assoc pairs r.items ((it.name.at.token, x.0) ∷ []);
        long = omega (arith, length-append r.items ((it.name.at.token, x.0) ∷ []), r.long);
        up = up_on (up_more (it.name.at.token, x.0) r.up (omega arith)) le;
      }

  declares_item : (it : Declaration) (first middle before : List Mark) {least count next end : ℕ}
      → behind it.sort ≡ 0 → IsWorth (declared around before it).kind
      → Items first least count middle it.name.at.token → Same middle next before end
      → suc it.name.at.token ≤ next → Items first least (suc count) (Declares it ∷ before) end
  declares_item it first middle before {least} {count} {next} {end} last w r s le =
      let a : next ≤ end = s.ahead in
      record {
        valued = λ v. r.valued (s.valued v.1);
        has = λ v.
            has_item it (declared around before it).kind last w v.0
            (subst (λ all. HasItems (values around first) all least count it.name.at.token)
            (sym s.same) (r.has (s.valued v.1))) (omega arith);
      }

  item_is_worth : (means : List ℕ → Option Known) (place : Place) (value : Option Expr)
      (last : Option n.Name) → IsWorth (kind_of around means place (item_sort value last))
  item_is_worth means place (Some value) last = tt
  item_is_worth means place None None = tt
  item_is_worth means place None (Some last) = tt

  item_behind : (value : Option Expr) (last : Option n.Name) → behind (item_sort value last) ≡ 0
  item_behind (Some value) last = refl
  item_behind None None = refl
  item_behind None (Some last) = refl

  -- ---- names of enumerations

  label_up : (it : Declaration) (kind : Kind) {pairs all : List (ℕ × ℤ)} {m least count end : ℕ}
      → count ≡ behind it.sort → IsWorth kind → HasValue kind
      → Up 0 pairs m → m ≤ it.name.at.token → HasItems pairs all least count end
      → suc it.name.at.token ≤ least → Up 0 (with_kind it kind all) end
  label_up it kind {pairs} {end = end} same w h p le r le2 =
      let y = paired it kind pairs r.items (r.long ∙ same) w h in
      subst (λ l. Up 0 l end) (sym (ap (with_kind it kind) r.same ∙ y.stands))
      (up_around (it.name.at.token, y.value) p le (up_from le2 r.up))

  declares_label : (it : Declaration) (first before : List Mark) {m least count end : ℕ}
      → count ≡ behind it.sort → IsWorth (declared around before it).kind
      → Lifts first m → m ≤ it.name.at.token → Items first least count before end
      → suc it.name.at.token ≤ least → Lifts (Declares it ∷ before) end
  declares_label it first before same w p le r le2 = record {
    up =
        λ v. label_up it (declared around before it).kind same w v.0 (p.up (r.valued v.1)) le
        (r.has v.1) le2;
  }

  -- an enumeration without a name
  no_label : {first before : List Mark} {m least count end : ℕ} → Lifts first m → m ≤ least
      → Items first least count before end → Lifts before end
  no_label {end = end} p le r = record {
    up =
        λ v. let x = r.has v in subst (λ l. Up 0 l end) (sym x.same)
        (up_behind (p.up (r.valued v)) (up_from le x.up));
  }

  -- an enumeration's name, if it has one, stands between two tokens
  abbrev Between : Option n.Name → ℕ → ℕ → Type 0
  Between None m k = m ≤ k
  Between (Some name) m k = (m ≤ name.at.token) × (suc name.at.token ≤ k)

  label_lifts : (place : Place) (tag last : Option n.Name) {first : List Mark}
      {m least count end : ℕ} → Between tag m least → Lifts first m
      → (before : List Mark) → Items first least count before end
      → Lifts (label_marks place tag last count before) end
  label_lifts place None last le p before r = no_label p le r
  label_lifts place (Some tag) None {m = m} {least = least} le p before r =
      let a : m ≤ tag.at.token = le.0 in
      let b : suc tag.at.token ≤ least = le.1 in
      no_label p (omega arith) r
  label_lifts place (Some tag) (Some last) {first = first} {count = count} le p before r =
      declares_label (record {
        name = tag;
        place = place;
        tag = Some tag;
        outside = true;
        sort = mark.Label last.bytes count;
      }) first before refl tt p le.0 r le.1

  module _ (ts : List Token) where
    constant_lifts : (place : Place) (outside : Bool) {h i j : ℕ} {x : ConstantOf}
        → IsConstant ts h x i j → (before : List Mark) → Lifts before i
        → Lifts (constant_marks place outside x before) j
    unfolding at
    constant_lifts place outside {i = i} (constant {j = j} {k = k} {x = value} c c2 x e) before r =
        declares_lift
        (record {
          name = name_at ts (behind_tag ts i);
          place = place;
          tag = tag_at ts i;
          outside = outside;
          sort = mark.Constant value;
        })
        (maybe_marks tag_marks (tag_at ts i) before)
        (expr_marks value (maybe_marks tag_marks (tag_at ts i) before)) refl tt
        (maybe_tag_rises lifts_grow i r)
        (same_on (expr_rises ts (same_grow (maybe_marks tag_marks (tag_at ts i) before)
        (suc (suc (behind_tag ts i)))) x.is_expr (maybe_marks tag_marks (tag_at ts i) before)
        (same_first (maybe_marks tag_marks (tag_at ts i) before) (suc (suc (behind_tag ts i)))))
        (ending_on ts j k e)) (omega arith)

    item_lifts : (place : Place) (tag last : Option n.Name) {first : List Mark}
        {least count h i j : ℕ} {x : Item} → IsItem ts h x i j
        → (before : List Mark) → Items first least count before i
        → Items first least (suc count) (item_marks place tag last x before) j
    unfolding at
    item_lifts place tag last {first = first} {i = i} (item_of {x = value} c x) before r =
        declares_item (record {
          name = name_at ts i;
          place = place;
          tag = tag;
          outside = true;
          sort = item_sort value last;
        })
        first before (maybe_marks expr_marks value before) (item_behind value last)
        (item_is_worth (meaning around (maybe_marks expr_marks value before)) place value last) r
        (led_orders (same_grow before (suc i)) (whole_orders ts (same_grow before (suc i))) x before
        (same_first before (suc i))) (omega arith)

    more_items_lift : (place : Place) (tag : Option n.Name) {more : ℕ → Bool} {first : List Mark}
        {m least h i j : ℕ} {xs : List Item} (last : Option n.Name) (count : ℕ)
        → Between tag m least → Lifts first m → Many more (Behind (IsItem ts)) h xs i j
        → (before : List Mark) → Items first least count before i
        → Lifts (items_marks place tag last count xs before) j
    more_items_lift place tag last count le p (no_more f) before r =
        label_lifts place tag last le p before r
    more_items_lift place tag last count le p (one_more {x = x} t it more) before r =
        more_items_lift place tag (Some x.name) (suc count) le p more _
        (item_lifts place tag last it before (items_on r (omega arith)))

    items_lift : (place : Place) (tag : Option n.Name) {more : ℕ → Bool}
        (first : List Mark) {m least h i j : ℕ} {xs : List Item}
        → Between tag m least → Lifts first m
        → Several more (IsItem ts) (Behind (IsItem ts)) h xs i j
        → Items first least 0 first i → Lifts (items_marks place tag None 0 xs first) j
    items_lift place tag first le p (several {x = x} it more) r =
        more_items_lift place tag (Some x.name) 1 le p more _ (item_lifts place tag None it first r)

    name_between : (b : Bool) (i : ℕ)
        → Between (if b then Some (name_at ts i) else None) i (if b then suc i else i)
    unfolding at
    name_between true i = (omega arith, omega arith)
    name_between false i = omega arith

    maybe_name_between : (i : ℕ) → Between (maybe_name ts i) i (behind_name ts i)
    unfolding maybe_name behind_name
    maybe_name_between i = name_between (is_name (word ts i)) i

    enum_lifts : (place : Place) {h i j : ℕ} {name : Option n.Name} {xs : List Item}
        → IsEnum ts h name xs i j → (before : List Mark) → Lifts before i
        → Lifts (items_marks place name None 0 xs (maybe_marks tag_marks name before)) j
    enum_lifts place {i = i} (enum_of {k = k} c m c2) before r =
        let b : k ≤ behind_sign ts sign.Comma k = sign_on ts sign.Comma k in
        let d : suc (behind_sign ts sign.Comma k)
        ≤ behind_sign ts sign.Semicolon (suc (behind_sign ts sign.Comma k)) =
        sign_on ts sign.Semicolon (suc (behind_sign ts sign.Comma k)) in
        lifts_on (items_lift place (maybe_name ts i)
        (maybe_marks tag_marks (maybe_name ts i) before) (maybe_name_between i)
        (maybe_name_lifts (maybe_name ts i) r) m
        (no_items (maybe_marks tag_marks (maybe_name ts i) before) (behind_name ts i)))
        (omega arith)

    lifts_span : Spans ts Lifts
    lifts_span = record {
      opens = λ x. record { up = x.up };
      closes = λ x. record { up = x.up };
      variable = λ place outside x before r. record { up = λ v. r.up v.1 };
      parameter =
          λ place constant reference tags name dims value before r. record { up = λ v. r.up v.1 };
      constant = constant_lifts;
      enum = enum_lifts;
    }

-- ---- the whole

module _ (tree : Tree) (resolved : IsResolved tree) where
  further : (mark : Mark) (before more : List Mark) → tree_marks tree ≡ more ++ mark ∷ before
      → tree_marks tree ≡ (more ++ mark ∷ []) ++ before
  further mark before more e = e ∙ sym (append_assoc more (mark ∷ []) before)

  all_valued : (marks more : List Mark) → tree_marks tree ≡ more ++ marks
      → Valued (around_of tree) marks
  all_valued [] more e = tt
  all_valued (Opens ∷ before) more e =
      all_valued before (more ++ Opens ∷ []) (further Opens before more e)
  all_valued (Closes ∷ before) more e =
      all_valued before (more ++ Closes ∷ []) (further Closes before more e)
  all_valued (Mentions tag ∷ before) more e =
      all_valued before (more ++ Mentions tag ∷ []) (further (Mentions tag) before more e)
  all_valued (Uses it ∷ before) more e =
      all_valued before (more ++ Uses it ∷ []) (further (Uses it) before more e)
  all_valued (Declares it ∷ before) more e = (
    resolved.valued before it (record { more = more; same = e }),
    all_valued before (more ++ Declares it ∷ []) (further (Declares it) before more e),
  )

pub values_rise : (ts : List Token) (tree : Tree) (names : Names) → Spells ts tree
    → Resolves tree names → AreRising 0 names.values
values_rise ts tree names spells resolves =
    let all =
    many_order {ts = ts} (lifts_grow (around_of tree))
    (decl_orders ts (lifts_grow (around_of tree)) (lifts_span (around_of tree) ts))
    spells.decls [] (none_lift (around_of tree)) in
    subst (AreRising 0) (sym resolves.values)
    (rising (all.up (all_valued tree (is_resolved tree names resolves)
    (tree_marks tree) [] refl)))
