-- A line is three words with one blank between them, and no two lines are spelled alike.
use Rattle.std.proofs.Common.{◌≡◌, ◌≢◌, ◌∙◌, ◌<◌, ◌≤◌, ◌^◌, ◌++◌, ℕ, List, [], ◌∷◌, All, codes, length}
use Rattle.std.proofs.Common.{Option, None, Ok, refl, sym, ap, subst, arith}
use Rattle.std.specs.Fmt.{decimal}
use Rattle.std.proofs.lemmas.Fmt.{decimal_injective}
use Rattle.host_many.specs.declared.turn.Turn.{Turn}
use Rattle.host_many.specs.declared.turn.Turn.TheVariants.{Start, Go}
use Rattle.host_plan.specs.declared.line.Line.{Line}
use Rattle.host_plan.specs.declared.line.Line.TheVariants.{Machine, Event}
use Rattle.host_plan.specs.declared.plan.MachineFiles.{MachineFiles}
use Rattle.host_plan.specs.Lines.{LineFits, Reads, line_text}
use Rattle.host_plan.specs.Plans.{IsName, IsWord, three_words}
use Rattle.host_plan.specs.Words.{Lacks, AreSides}
use Rattle.host_plan.proofs.SideLaws.{same_sides, not_lacking, lacks_by, word_lacks, decimal_lacks}

-- the first bytes of texts that are the same
pub heads : {x y : ℕ} {xs ys : List ℕ} → x ∷ xs ≡ y ∷ ys → x ≡ y
heads e = cc

-- its words
abbrev pub kind_word : Line → List ℕ
kind_word (Machine it) = codes "machine"
kind_word (Event (Start machine name)) = codes "start"
kind_word (Event (Go machine steps)) = codes "go"

abbrev pub second_word : Line → List ℕ
second_word (Machine it) = it.amx
second_word (Event (Start machine name)) = decimal machine
second_word (Event (Go machine steps)) = decimal machine

abbrev pub third_word : Line → List ℕ
third_word (Machine it) = it.script
third_word (Event (Start machine name)) = name
third_word (Event (Go machine steps)) = decimal steps

in_words : (it : Line) → line_text it ≡ three_words (kind_word it) (second_word it) (third_word it)
in_words (Machine it) = refl
in_words (Event (Start machine name)) = refl
in_words (Event (Go machine steps)) = refl

kind_lacks : (it : Line) → Lacks 32 (kind_word it)
kind_lacks (Machine it) = lacks_by 32 (codes "machine") refl
kind_lacks (Event (Start machine name)) = lacks_by 32 (codes "start") refl
kind_lacks (Event (Go machine steps)) = lacks_by 32 (codes "go") refl

second_lacks : (it : Line) → LineFits it → Lacks 32 (second_word it)
second_lacks (Machine it) fits = word_lacks 32 it.amx (omega arith) fits.amx
second_lacks (Event (Start machine name)) fits =
    decimal_lacks 32 (omega arith) machine (omega (arith, fits.0))
second_lacks (Event (Go machine steps)) fits =
    decimal_lacks 32 (omega arith) machine (omega (arith, fits.0))

-- words that a line has
pub record HasWords (it : Line) (kind second third : List ℕ) : Type 0 where
  pub kind_is : kind ≡ kind_word it
  pub second_is : second ≡ second_word it
  pub third_is : third ≡ third_word it

has_words : (it : Line) (kind second third : List ℕ) → LineFits it → Lacks 32 kind
    → Lacks 32 second → three_words kind second third ≡ line_text it
    → HasWords it kind second third
has_words it kind second third fits a b e =
    let p =
    same_sides 32 kind (kind_word it) (second ++ 32 ∷ third) (second_word it ++ 32 ∷ third_word it)
    a (kind_lacks it) (e ∙ in_words it) in
    let q =
    same_sides 32 second (second_word it) third (third_word it) b (second_lacks it fits) p.1 in
    record { kind_is = p.0; second_is = q.0; third_is = q.1 }

-- ---- texts that are no line

-- without a blank
pub no_blank : (text : List ℕ) → Lacks 32 text → (it : Line) → text ≢ line_text it
no_blank text h it e =
    not_lacking 32 (kind_word it) (second_word it ++ 32 ∷ third_word it)
    (subst (Lacks 32) (e ∙ in_words it) h)

-- with one blank
pub one_blank : (text kind rest : List ℕ) → AreSides 32 text kind rest → Lacks 32 rest
    → (it : Line) → text ≢ line_text it
one_blank text kind rest sides h it e =
    let p =
    same_sides 32 kind (kind_word it) rest (second_word it ++ 32 ∷ third_word it) sides.first
    (kind_lacks it) (sym sides.is ∙ e ∙ in_words it) in
    not_lacking 32 (second_word it) (third_word it) (subst (Lacks 32) p.1 h)

-- with another word at the front
pub no_kind : (kind second third : List ℕ) → Lacks 32 kind → Lacks 32 second
    → kind ≢ codes "machine" → kind ≢ codes "start" → kind ≢ codes "go"
    → (it : Line) → LineFits it → three_words kind second third ≢ line_text it
no_kind kind second third a b machine start go (Machine it) fits e =
    machine (has_words (Machine it) kind second third fits a b e).kind_is
no_kind kind second third a b machine start go (Event (Start number name)) fits e =
    start (has_words (Event (Start number name)) kind second third fits a b e).kind_is
no_kind kind second third a b machine start go (Event (Go number steps)) fits e =
    go (has_words (Event (Go number steps)) kind second third fits a b e).kind_is

-- ---- the words behind each

pub machine_words : (amx script : List ℕ) → Lacks 32 amx → (it : Line) → LineFits it
    → three_words (codes "machine") amx script ≡ line_text it → IsWord amx × IsWord script
machine_words amx script h (Machine it) fits e =
    let p =
    has_words (Machine it) (codes "machine") amx script fits (lacks_by 32 (codes "machine") refl) h
    e in
    (subst IsWord (sym p.second_is) fits.amx, subst IsWord (sym p.third_is) fits.script)
machine_words amx script h (Event (Start number name)) fits e =
    let p =
    has_words (Event (Start number name)) (codes "machine") amx script fits
    (lacks_by 32 (codes "machine") refl) h e in
    absurd (let no : codes "machine" ≡ codes "start" = p.kind_is in
    let first = heads no in omega (arith, first))
machine_words amx script h (Event (Go number steps)) fits e =
    let p =
    has_words (Event (Go number steps)) (codes "machine") amx script fits
    (lacks_by 32 (codes "machine") refl) h e in
    absurd (let no : codes "machine" ≡ codes "go" = p.kind_is in
    let first = heads no in omega (arith, first))

-- a machine's number and a name
pub record AreStart (number name : List ℕ) : Type 0 where
  pub machine : ℕ
  pub small : machine < 2 ^ 32
  pub number_is : number ≡ decimal machine
  pub name_is : IsName name

pub start_words : (number name : List ℕ) → Lacks 32 number → (it : Line) → LineFits it
    → three_words (codes "start") number name ≡ line_text it → AreStart number name
start_words number name h (Machine it) fits e =
    let p =
    has_words (Machine it) (codes "start") number name fits (lacks_by 32 (codes "start") refl) h e in
    absurd (let no : codes "start" ≡ codes "machine" = p.kind_is in
    let first = heads no in omega (arith, first))
start_words number name h (Event (Start machine given)) fits e =
    let p =
    has_words (Event (Start machine given)) (codes "start") number name fits
    (lacks_by 32 (codes "start") refl) h e in
    record {
      machine = machine;
      small = fits.0;
      number_is = p.second_is;
      name_is = subst IsName (sym p.third_is) fits.1;
    }
start_words number name h (Event (Go machine steps)) fits e =
    let p =
    has_words (Event (Go machine steps)) (codes "start") number name fits
    (lacks_by 32 (codes "start") refl) h e in
    absurd (let no : codes "start" ≡ codes "go" = p.kind_is in
    let first = heads no in omega (arith, first))

-- a machine's number and steps
pub record AreGo (number steps : List ℕ) : Type 0 where
  pub machine : ℕ
  pub small : machine < 2 ^ 32
  pub number_is : number ≡ decimal machine
  pub count : ℕ
  pub count_small : count < 2 ^ 64
  pub steps_are : steps ≡ decimal count

pub go_words : (number steps : List ℕ) → Lacks 32 number → (it : Line) → LineFits it
    → three_words (codes "go") number steps ≡ line_text it → AreGo number steps
go_words number steps h (Machine it) fits e =
    let p =
    has_words (Machine it) (codes "go") number steps fits (lacks_by 32 (codes "go") refl) h e in
    absurd (let no : codes "go" ≡ codes "machine" = p.kind_is in
    let first = heads no in omega (arith, first))
go_words number steps h (Event (Start machine name)) fits e =
    let p =
    has_words (Event (Start machine name)) (codes "go") number steps fits
    (lacks_by 32 (codes "go") refl) h e in
    absurd (let no : codes "go" ≡ codes "start" = p.kind_is in
    let first = heads no in omega (arith, first))
go_words number steps h (Event (Go machine count)) fits e =
    let p =
    has_words (Event (Go machine count)) (codes "go") number steps fits
    (lacks_by 32 (codes "go") refl) h e in
    record {
      machine = machine;
      small = fits.0;
      number_is = p.second_is;
      count = count;
      count_small = fits.1;
      steps_are = p.third_is;
    }

-- ---- one line for a text

both_words : (a b : Line) → LineFits a → LineFits b → line_text a ≡ line_text b
    → HasWords b (kind_word a) (second_word a) (third_word a)
both_words a b fits other e =
    has_words b (kind_word a) (second_word a) (third_word a) other (kind_lacks a)
    (second_lacks a fits) (sym (in_words a) ∙ e)

same_files : (amx other script given : List ℕ) → amx ≡ other → script ≡ given
    → Machine (record { amx = amx; script = script })
    ≡ Machine (record { amx = other; script = given })
same_files amx other script given e h =
    ap (λ x. Machine (record { amx = x; script = script })) e
    ∙ ap (λ x. Machine (record { amx = other; script = x })) h

pub same_line : (a b : Line) → LineFits a → LineFits b → line_text a ≡ line_text b → a ≡ b
same_line (Machine a) (Machine b) fits other e =
    let p = both_words (Machine a) (Machine b) fits other e in
    same_files a.amx b.amx a.script b.script p.second_is p.third_is
same_line (Machine a) (Event (Start machine name)) fits other e =
    let p = both_words (Machine a) (Event (Start machine name)) fits other e in
    absurd (let no : codes "machine" ≡ codes "start" = p.kind_is in
    let first = heads no in omega (arith, first))
same_line (Machine a) (Event (Go machine steps)) fits other e =
    let p = both_words (Machine a) (Event (Go machine steps)) fits other e in
    absurd (let no : codes "machine" ≡ codes "go" = p.kind_is in
    let first = heads no in omega (arith, first))
same_line (Event (Start machine name)) (Machine b) fits other e =
    let p = both_words (Event (Start machine name)) (Machine b) fits other e in
    absurd (let no : codes "start" ≡ codes "machine" = p.kind_is in
    let first = heads no in omega (arith, first))
same_line (Event (Start machine name)) (Event (Start number given)) fits other e =
    let p = both_words (Event (Start machine name)) (Event (Start number given)) fits other e in
    let numbers : machine ≡ number =
    decimal_injective machine number (omega (arith, fits.0)) (omega (arith, other.0)) p.second_is in
    let names : name ≡ given = p.third_is in
    ap (λ x. Event (Start x name)) numbers ∙ ap (λ x. Event (Start number x)) names
same_line (Event (Start machine name)) (Event (Go number steps)) fits other e =
    let p = both_words (Event (Start machine name)) (Event (Go number steps)) fits other e in
    absurd (let no : codes "start" ≡ codes "go" = p.kind_is in
    let first = heads no in omega (arith, first))
same_line (Event (Go machine steps)) (Machine b) fits other e =
    let p = both_words (Event (Go machine steps)) (Machine b) fits other e in
    absurd (let no : codes "go" ≡ codes "machine" = p.kind_is in
    let first = heads no in omega (arith, first))
same_line (Event (Go machine steps)) (Event (Start number name)) fits other e =
    let p = both_words (Event (Go machine steps)) (Event (Start number name)) fits other e in
    absurd (let no : codes "go" ≡ codes "start" = p.kind_is in
    let first = heads no in omega (arith, first))
same_line (Event (Go machine steps)) (Event (Go number count)) fits other e =
    let p = both_words (Event (Go machine steps)) (Event (Go number count)) fits other e in
    let numbers : machine ≡ number =
    decimal_injective machine number (omega (arith, fits.0)) (omega (arith, other.0)) p.second_is in
    let counts : steps ≡ count = decimal_injective steps count fits.1 other.1 p.third_is in
    ap (λ x. Event (Go x steps)) numbers ∙ ap (λ x. Event (Go number x)) counts

-- ---- what the readers answer

-- one of them gives none
pub reads_none : (first second third : List ℕ) (result : Option Line) → result ≡ None
    → ((it : Line) → LineFits it → three_words first second third ≢ line_text it)
    → Reads first second third (Ok result)
reads_none first second third result e none =
    let P : Option Line → Type 0 = λ it. Reads first second third (Ok it) in subst P (sym e) none

pub three_are : (text kind rest second third : List ℕ) → AreSides 32 text kind rest
    → AreSides 32 rest second third → text ≡ three_words kind second third
three_are text kind rest second third a b = a.is ∙ ap (λ it. kind ++ 32 ∷ it) b.is
