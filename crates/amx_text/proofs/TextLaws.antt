-- Two readings of one text as lines are one, as far as both go.
use Rattle.std.proofs.Common.{◌≡◌, ◌⊎◌, ℕ, true, List, [], ◌∷◌, ◌++◌, Option, None, Some, All}
use Rattle.std.proofs.Common.{refl, sym, ap, subst, ◌∙◌, append_assoc, inl, inr, append-nil}
use Rattle.std.proofs.Common.{⊎_elim, length, ◌+◌}
use Rattle.std.specs.List.{flat_map, last_or}
use Rattle.std.proofs.lemmas.Bool.{and_parts}
use Rattle.std.proofs.lemmas.List.Elements.{All-head, All-tail}
use Rattle.amx_text.specs.Forms.{Line, line_text, Fits, may_follow}
use Rattle.amx_text.specs.Texts.{are_in_order, last_of, AreLines, HasLine, BreaksAt}
use Rattle.amx_text.proofs.PartLaws.{Parted, parted}
use Rattle.amx_text.proofs.EndLaws.{is_inner, IsLine, line_ends}
use Rattle.amx_text.proofs.FormLaws.{same_line}

-- ---- one line in front

ends_parted : (a b r s : List ℕ) → IsLine a → IsLine b → a ++ r ≡ b ++ s → Parted a b r s
ends_parted a b r s x y e =
    let left : a ++ r ≡ x.body ++ (10 ∷ r) =
    ap (λ text. text ++ r) x.is ∙ append_assoc x.body (10 ∷ []) r in
    let right : b ++ s ≡ y.body ++ (10 ∷ s) =
    ap (λ text. text ++ s) y.is ∙ append_assoc y.body (10 ∷ []) s in
    let it =
    parted is_inner x.body y.body (10 ∷ r) (10 ∷ s) x.inner y.inner refl refl
    (sym left ∙ e ∙ right) in
    let rest : 10 ∷ r ≡ 10 ∷ s = it.rest in
    record {
      front = x.is ∙ ap (λ body. body ++ (10 ∷ [])) it.front ∙ sym y.is;
      rest = cc;
    }

-- the same line in front of two texts that are one
pub record SameFirst (l m : Line) (r s : List ℕ) : Type 0 where
  pub line : l ≡ m
  pub rest : r ≡ s

pub first_parted : (l m : Line) (r s : List ℕ) → Fits l → Fits m
    → line_text l ++ r ≡ line_text m ++ s → SameFirst l m r s
first_parted l m r s h k e =
    let it = ends_parted (line_text l) (line_text m) r s (line_ends l h) (line_ends m k) e in
    record { line = same_line l m h k it.front; rest = it.rest }

-- ---- more lines

-- some lines are the others with a line more, which stands in what is behind those others
pub record Extends (shorter longer : List Line) (rest : List ℕ) : Type 0 where
  pub line : Line
  pub more : List Line
  pub is : longer ≡ shorter ++ (line ∷ more)
  pub fits : Fits line
  pub others : List ℕ
  pub stands : rest ≡ line_text line ++ others

-- the same lines with the same behind them
pub record Agrees (ls ms : List Line) (r s : List ℕ) : Type 0 where
  pub lines : ls ≡ ms
  pub rest : r ≡ s

-- of two readings one goes on
abbrev pub Compared : List Line → List Line → List ℕ → List ℕ → Type 0
Compared ls ms r s = Agrees ls ms r s ⊎ (Extends ls ms r ⊎ Extends ms ls s)

goes_on : (l m : Line) (ls ms : List Line) (r : List ℕ) → l ≡ m → Extends ls ms r
    → Extends (l ∷ ls) (m ∷ ms) r
goes_on l m ls ms r e x = record {
  line = x.line;
  more = x.more;
  is = ap (λ lines. m ∷ lines) x.is ∙ ap (λ line. line ∷ (ls ++ (x.line ∷ x.more))) (sym e);
  fits = x.fits;
  others = x.others;
  stands = x.stands;
}

compared-cons : (l m : Line) (ls ms : List Line) (r s : List ℕ) → l ≡ m → Compared ls ms r s
    → Compared (l ∷ ls) (m ∷ ms) r s
compared-cons l m ls ms r s e (inl x) =
    let lines : ls ≡ ms = x.lines in inl (record { lines = λ i. e i ∷ lines i; rest = x.rest })
compared-cons l m ls ms r s e (inr (inl x)) = inr (inl (goes_on l m ls ms r e x))
compared-cons l m ls ms r s e (inr (inr x)) = inr (inr (goes_on m l ms ls s (sym e) x))

pub compared : (ls ms : List Line) (r s : List ℕ) → All Fits ls → All Fits ms
    → flat_map line_text ls ++ r ≡ flat_map line_text ms ++ s → Compared ls ms r s
compared [] [] r s h k e = inl (record { lines = refl; rest = e })
compared [] (m ∷ ms) r s h k e =
    inr (inl (record {
      line = m;
      more = ms;
      is = refl;
      fits = All-head Fits m ms k;
      others = flat_map line_text ms ++ s;
      stands = e ∙ append_assoc (line_text m) (flat_map line_text ms) s;
    }))
compared (l ∷ ls) [] r s h k e =
    inr (inr (record {
      line = l;
      more = ls;
      is = refl;
      fits = All-head Fits l ls h;
      others = flat_map line_text ls ++ r;
      stands = sym e ∙ append_assoc (line_text l) (flat_map line_text ls) r;
    }))
compared (l ∷ ls) (m ∷ ms) r s h k e =
    let it =
    first_parted l m (flat_map line_text ls ++ r) (flat_map line_text ms ++ s)
    (All-head Fits l ls h) (All-head Fits m ms k)
    (sym (append_assoc (line_text l) (flat_map line_text ls) r) ∙ e
    ∙ append_assoc (line_text m) (flat_map line_text ms) s) in
    compared-cons l m ls ms r s it.line
    (compared ls ms r s (All-tail Fits l ls h) (All-tail Fits m ms k) it.rest)

-- ---- whole texts

no_line : (text others : List ℕ) → IsLine text → [] ≡ text ++ others → ⊥
no_line text others x e = by x.body (e ∙ ap (λ text. text ++ others) x.is) where
  by : (body : List ℕ) → [] ≡ (body ++ (10 ∷ [])) ++ others → ⊥
  by [] e = cc
  by (byte ∷ body) e = cc

nothing_more : {ls ms : List Line} → Extends ls ms [] → ⊥
nothing_more x = no_line (line_text x.line) x.others (line_ends x.line x.fits) x.stands

-- lines whose text is a text are the same lines
pub same_lines : (ls ms : List Line) → All Fits ls → All Fits ms
    → flat_map line_text ls ≡ flat_map line_text ms → ls ≡ ms
same_lines ls ms h k e =
    ⊎_elim (λ (x : Agrees ls ms [] []). x.lines)
    (λ (x : Extends ls ms [] ⊎ Extends ms ls []).
    absurd (⊎_elim (λ (x : Extends ls ms []). nothing_more x)
    (λ (x : Extends ms ls []). nothing_more x) x))
    (compared ls ms [] [] h k
    (append-nil (flat_map line_text ls) ∙ e ∙ sym (append-nil (flat_map line_text ms))))

pub lines_of_text : (text : List ℕ) (ls ms : List Line) → AreLines text ls → AreLines text ms
    → ls ≡ ms
lines_of_text text ls ms a b =
    same_lines ls ms a.whole.fit b.whole.fit
    (sym (append-nil (flat_map line_text ls)) ∙ sym a.whole.is ∙ b.whole.is
    ∙ append-nil (flat_map line_text ms))

-- ---- the first line without a form

order_at : (before : Option Line) (ls : List Line) (line : Line) (more : List Line)
    → are_in_order before (ls ++ (line ∷ more)) ≡ true → may_follow (last_or before ls) line ≡ true
order_at before [] line more h = (and_parts (may_follow before line) _ h).0
order_at before (l ∷ ls) line more h =
    order_at (Some l) ls line more (and_parts (may_follow before l) _ h).1

-- where a reading goes on, a line stands behind the shorter one
has_line : (ls ms : List Line) (rest : List ℕ) → are_in_order None ms ≡ true → Extends ls ms rest
    → HasLine (last_of ls) rest
has_line ls ms rest h x = record {
  line = x.line;
  others = x.others;
  fits = x.fits;
  follows =
      order_at None ls x.line x.more (subst (λ lines. are_in_order None lines ≡ true) x.is h);
  is = x.stands;
}

-- a text of lines has a form at each line
pub no_break : (text : List ℕ) (number : ℕ) (lines : List Line) → AreLines text lines
    → BreaksAt text number → ⊥
no_break text number lines are broken =
    let begins = broken.begins in
    ⊎_elim
    (λ (x : Agrees broken.lines lines broken.rest []).
    broken.unended (subst (AreLines text) (sym x.lines) are))
    (λ (x : Extends broken.lines lines broken.rest ⊎ Extends lines broken.lines []).
    ⊎_elim
    (λ (x : Extends broken.lines lines broken.rest).
    broken.stops (has_line broken.lines lines broken.rest are.whole.order x))
    (λ (x : Extends lines broken.lines []). nothing_more x) x)
    (compared broken.lines lines broken.rest [] begins.fit are.whole.fit
    (sym begins.is ∙ are.whole.is))

-- it breaks at one line
pub one_break : (text : List ℕ) (m n : ℕ) → BreaksAt text m → BreaksAt text n → m ≡ n
one_break text m n a b =
    ⊎_elim
    (λ (x : Agrees a.lines b.lines a.rest b.rest).
    a.is ∙ ap (λ (lines : List Line). length lines + 1) x.lines ∙ sym b.is)
    (λ (x : Extends a.lines b.lines a.rest ⊎ Extends b.lines a.lines b.rest).
    absurd (⊎_elim
    (λ (x : Extends a.lines b.lines a.rest).
    a.stops (has_line a.lines b.lines a.rest b.begins.order x))
    (λ (x : Extends b.lines a.lines b.rest).
    b.stops (has_line b.lines a.lines b.rest a.begins.order x)) x))
    (compared a.lines b.lines a.rest b.rest a.begins.fit b.begins.fit
    (sym a.begins.is ∙ b.begins.is))
