-- The scan of single bytes is the definition of comments.
use Rattle.std.proofs.Common.{◌≡◌, ℕ, ◌==◌, List, [], ◌∷◌, Bool, true, false, refl, sym, ap, subst}
use Rattle.std.proofs.Common.{◌∙◌}
use Rattle.std.specs.Prelude.{◌&&◌}
use Rattle.std.proofs.lemmas.Bool.{eqb-true}
use Rattle.pawn_pre.specs.Comments.{Text, Remark, clean, with_byte}
use Rattle.pawn_pre.specs.File.{part_at}
use Rattle.pawn_pre.specs.Quote.{is_outside, quote_after}
use Rattle.pawn_pre.specs.Scan.{scan, one, scan_end, before, mode_at}
use Rattle.pawn_pre.specs.declared.clean.Mode.{Mode}
use Rattle.pawn_pre.specs.declared.clean.Mode.TheVariants.{Reads, Slash, Over, Inside, Star}
use Rattle.pawn_pre.specs.declared.quote.Quote.{Quote}
use Rattle.pawn_pre.specs.declared.quote.Quote.TheVariants.{Outside, Within, Escaped}

-- what each mode makes of the bytes that are left
record Agrees (bs : List ℕ) : Type 0 where
  text : (quote : Quote) → scan (Reads quote) bs ≡ clean (Text quote) bs
  slash : scan Slash bs ≡ clean (Text Outside) (47 ∷ bs)
  over : scan Over bs ≡ record { bytes = []; unclosed = false }
  inside : scan Inside bs ≡ clean Remark bs
  star : scan Star bs ≡ clean Remark (42 ∷ bs)

-- a byte of the text that begins no comment
text_other : (quote : Quote) (b : ℕ) (bs : List ℕ) → (is_outside quote && (b == 47)) ≡ false →
    clean (Text quote) (b ∷ bs) ≡ with_byte b (clean (Text (quote_after 92 quote b)) bs)
unfolding clean
text_other quote b [] h = refl
text_other Outside b (c ∷ rest) h = rw h refl
text_other (Within q) b (c ∷ rest) h = refl
text_other (Escaped q) b (c ∷ rest) h = refl

-- the same bytes behind it
text_more : (quote : Quote) (b : ℕ) (bs : List ℕ) → Agrees bs
    → (is_outside quote && (b == 47)) ≡ false →
    before (b ∷ []) (scan (Reads (quote_after 92 quote b)) bs) ≡ clean (Text quote) (b ∷ bs)
unfolding before
text_more quote b bs ih h =
    ap (with_byte b) (ih.text (quote_after 92 quote b)) ∙ sym (text_other quote b bs h)

in_text : (quote : Quote) (b : ℕ) (bs : List ℕ) → Agrees bs → (t : Bool)
    → (is_outside quote && (b == 47)) ≡ t →
    scan (Reads quote) (b ∷ bs) ≡ clean (Text quote) (b ∷ bs)
unfolding scan one before
in_text Outside b bs ih true h =
    rw h (let P : ℕ → Type 0 = λ x. scan Slash bs ≡ clean (Text Outside) (x ∷ bs) in subst P
    (sym (eqb-true b 47 h)) ih.slash)
in_text (Within q) b bs ih true h = cc
in_text (Escaped q) b bs ih true h = cc
in_text quote b bs ih false h = rw h (text_more quote b bs ih h)

behind_slash : (b : ℕ) (bs : List ℕ) → Agrees bs → (t u : Bool) → (b == 47) ≡ t → (b == 42) ≡ u →
    scan Slash (b ∷ bs) ≡ clean (Text Outside) (47 ∷ b ∷ bs)
unfolding scan one before clean quote_after
behind_slash b bs ih true u h k = rw h (ap (before (32 ∷ [])) ih.over)
behind_slash b bs ih false true h k = rw h (rw k (ap (with_byte 32) ih.inside))
behind_slash b bs ih false false h k = rw h (rw k (ap (with_byte 47) (text_more Outside b bs ih h)))

remark_other : (c : ℕ) (cs : List ℕ) → (c == 42) ≡ false → clean Remark (c ∷ cs) ≡ clean Remark cs
unfolding clean
remark_other c [] e = refl
remark_other c (d ∷ cs) e = rw e refl

in_remark : (b : ℕ) (bs : List ℕ) → Agrees bs → (t : Bool) → (b == 42) ≡ t
    → scan Inside (b ∷ bs) ≡ clean Remark (b ∷ bs)
unfolding scan one before
in_remark b bs ih true h =
    rw h (let P : ℕ → Type 0 = λ x. scan Star bs ≡ clean Remark (x ∷ bs) in subst P
    (sym (eqb-true b 42 h)) ih.star)
in_remark b bs ih false h = rw h (ih.inside ∙ sym (remark_other b bs h))

behind_star : (b : ℕ) (bs : List ℕ) → Agrees bs → (t : Bool) → (b == 47) ≡ t →
    scan Inside (b ∷ bs) ≡ clean Remark (b ∷ bs) → scan Star (b ∷ bs) ≡ clean Remark (42 ∷ b ∷ bs)
unfolding scan one before clean
behind_star b bs ih true h rest = rw h (ih.text Outside)
behind_star b bs ih false h rest = rw h (rest)

agrees : (bs : List ℕ) → Agrees bs
unfolding scan clean one scan_end before
agrees [] = record {
  text = λ quote. refl;
  slash = refl;
  over = refl;
  inside = refl;
  star = refl;
}
agrees (b ∷ bs) =
    let ih : Agrees bs = agrees bs in
    let remark : scan Inside (b ∷ bs) ≡ clean Remark (b ∷ bs) = in_remark b bs ih _ refl in
    record {
      text = λ quote. in_text quote b bs ih _ refl;
      slash = behind_slash b bs ih _ _ refl refl;
      over = ih.over;
      inside = remark;
      star = behind_star b bs ih _ refl remark;
    }

pub scan_is_clean : (unclosed : Bool) (bs : List ℕ)
    → scan (mode_at unclosed) bs ≡ clean (part_at unclosed) bs
scan_is_clean true bs = (agrees bs).inside
scan_is_clean false bs = (agrees bs).text Outside

-- at a line's end
pub closed_is_clean : (out line rest : List ℕ) (mode : Mode) (unclosed : Bool) → rest ≡ [] →
    before out (scan mode rest) ≡ scan (mode_at unclosed) line →
    before out (scan_end mode) ≡ clean (part_at unclosed) line
unfolding scan
closed_is_clean out line rest mode unclosed e h =
    let P : List ℕ → Type 0 = λ r. before out (scan mode r) ≡ scan (mode_at unclosed) line in
    subst P e h ∙ scan_is_clean unclosed line
