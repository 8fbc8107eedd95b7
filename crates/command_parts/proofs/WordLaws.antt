-- Words that are read one after another.
use Rattle.std.proofs.Common.{◌≡◌, ◌==◌, ℕ, List, [], ◌∷◌, Bool, true, false, not, Option, None}
use Rattle.std.proofs.Common.{Some, Result, codes, length, map, take, refl, sym, ap, arith}
use Rattle.std.proofs.Common.{true≢false, true-eqb, false-eqb}
use Rattle.std.proofs.lemmas.Bool.{false_from_ne_true}
use Rattle.std.specs.Option.{is_some, option_and_then}
use Rattle.std.specs.Str.{bytes_eq}
use Rattle.std.specs.Cmp.Lexicographic.{bytes_decides}
use Rattle.command_parts.specs.declared.asked_words.TheConstants.{MOST_NUMBER}
use Rattle.command_parts.specs.declared.command.Command.{Command}
use Rattle.command_parts.specs.declared.command.Command.TheVariants.{Explain, Help}
use Rattle.command_parts.specs.declared.options.Options.{Options}
use Rattle.command_parts.specs.declared.command_words.WordsFault.{WordsFault}
use Rattle.command_parts.specs.declared.command_words.WordsFault.TheVariants.{Bad, Memory}
use Rattle.command_parts.specs.Command.{is_plain, first_plain, optional_plain, alone, command_of}
use Rattle.command_parts.specs.Command.{command_by, verify_of, list_of, run_of, resume_of, go_of}
use Rattle.command_parts.specs.Command.{compile_of, assemble_of, many_of, compact_of, compact_word}
use Rattle.command_parts.specs.Command.{measure_by, sample_of, usage_of}
use Rattle.command_parts.specs.Command.{asked_by, explain_of, help_of, version_of, sizes_of}
use Rattle.command_parts.specs.Command.{explain_on, help_on}
use Rattle.command_parts.specs.Options.{number_up_to, once, options_from, with_option, with_steps, with_sleeps}
use Rattle.command_parts.specs.Options.{with_entry}
use Rattle.command_parts.specs.Reading.{IsBad, Reads}

-- behind what isn't read nothing is
pub none_then : {A B : Type 0} (said : Option A) (f : A → Option B) (fault : WordsFault)
    → IsBad fault (said ≡ None)
    → IsBad fault (option_and_then f said ≡ None)
none_then said f Bad e = rw e refl
none_then said f Memory e = tt

-- ---- plain words

same_test : (b : Bool) (xs ys : List ℕ) → (b ≡ true → xs ≡ ys) → (xs ≡ ys → b ≡ true)
    → b ≡ bytes_eq xs ys
same_test true xs ys f g = sym ((bytes_decides xs ys).1 (f refl))
same_test false xs ys f g =
    sym (false_from_ne_true (bytes_eq xs ys)
    (λ e. true≢false (sym (g ((bytes_decides xs ys).0 e)))))

pub empty_is : (word : List ℕ) → true ≡ (length word == 0) → false ≡ is_plain word
unfolding is_plain
empty_is [] e = refl
empty_is (byte ∷ bytes) e = absurd (omega (arith, true-eqb (length (byte ∷ bytes)) 0 e))

pub other_is : (word : List ℕ) (dashed : Bool) → false ≡ (length word == 0)
    → (dashed ≡ true → take 2 word ≡ codes "--") → (take 2 word ≡ codes "--" → dashed ≡ true)
    → not dashed ≡ is_plain word
unfolding is_plain
other_is [] dashed e f g = absurd (false-eqb 0 0 e refl)
other_is (byte ∷ bytes) dashed e f g =
    ap not (same_test dashed (take 2 (byte ∷ bytes)) (codes "--") f g)

module _ {X : Type 0} (f : X → List ℕ) where
  pub first_none : (words : List X) → length words ≡ 0 → first_plain (map f words) ≡ None
  first_none [] e = refl
  first_none (word ∷ words) e = absurd (omega (arith, e))

  pub first_other : (words rest : List X) (word : X) (name : List ℕ) → words ≡ word ∷ rest
      → name ≡ f word → false ≡ is_plain name
      → first_plain (map f words) ≡ None
  first_other words rest word name e n p = rw (e, ← n, sym p) refl

  pub first_is : (words rest : List X) (word : X) (name copy : List ℕ) → words ≡ word ∷ rest
      → name ≡ f word → true ≡ is_plain name
      → copy ≡ name → first_plain (map f words) ≡ Some (copy, map f rest)
  first_is words rest word name copy e n p c = rw (e, ← n, sym p, c) refl

  pub optional_none : (words : List X) → length words ≡ 0
      → optional_plain (map f words) ≡ (None, map f words)
  optional_none [] e = refl
  optional_none (word ∷ words) e = absurd (omega (arith, e))

  pub optional_other : (words rest : List X) (word : X) (name : List ℕ) → words ≡ word ∷ rest
      → name ≡ f word → false ≡ is_plain name
      → optional_plain (map f words) ≡ (None, map f words)
  optional_other words rest word name e n p = rw (e, ← n, sym p) refl

  pub optional_is : (words rest : List X) (word : X) (name copy : List ℕ) → words ≡ word ∷ rest
      → name ≡ f word → true ≡ is_plain name
      → copy ≡ name → optional_plain (map f words) ≡ (Some copy, map f rest)
  optional_is words rest word name copy e n p c = rw (e, ← n, sym p, c) refl

  pub alone_is : (command : Command) (words : List X) → true ≡ (length words == 0)
      → alone command (map f words) ≡ Some command
  alone_is command [] e = refl
  alone_is command (word ∷ words) e = absurd (omega (arith, true-eqb (length (word ∷ words)) 0 e))

  pub alone_no : (command : Command) (words : List X) → false ≡ (length words == 0)
      → alone command (map f words) ≡ None
  alone_no command [] e = absurd (false-eqb 0 0 e refl)
  alone_no command (word ∷ words) e = refl

  pub and_alone : (said : Option Command) (words : List X) → true ≡ (length words == 0)
      → option_and_then (λ command. alone command (map f words)) said ≡ said
  and_alone None words e = refl
  and_alone (Some command) words e = alone_is command words e

  pub and_more : (said : Option Command) (words : List X) → false ≡ (length words == 0)
      → option_and_then (λ command. alone command (map f words)) said ≡ None
  and_more None words e = refl
  and_more (Some command) words e = alone_no command words e

  pub compact_none : (words : List X) → length words ≡ 0 → Some false ≡ compact_of (map f words)
  compact_none [] e = refl
  compact_none (word ∷ words) e = absurd (omega (arith, e))

  pub compact_one : (words rest : List X) (word : X) (name : List ℕ) (result : Option Bool)
      → words ≡ word ∷ rest → name ≡ f word
      → true ≡ (length rest == 0) → result ≡ compact_word name → result ≡ compact_of (map f words)
  compact_one words [] word name result e n none is = rw (e, ← n) is
  compact_one words (next ∷ rest) word name result e n none is =
      absurd (omega (arith, true-eqb (length (next ∷ rest)) 0 none))

  pub compact_more : (words rest : List X) (word : X) → words ≡ word ∷ rest
      → false ≡ (length rest == 0) → None ≡ compact_of (map f words)
  compact_more words [] word e more = absurd (false-eqb 0 0 more refl)
  compact_more words (next ∷ rest) word e more = rw e refl

  pub command_none : (words : List X) → length words ≡ 0 → command_of (map f words) ≡ None
  command_none [] e = refl
  command_none (word ∷ words) e = absurd (omega (arith, e))

  pub command_is : (words rest : List X) (word : X) (name : List ℕ)
      (result : Result Command WordsFault) → words ≡ word ∷ rest
      → name ≡ f word → Reads (asked_by name (map f rest)) result
      → Reads (command_of (map f words)) result
  command_is words rest word name result e n reads = rw (e, ← n) reads

  pub explain_none : (words : List X) → length words ≡ 0
      → explain_of (map f words) ≡ Some (Explain None)
  explain_none [] e = refl
  explain_none (word ∷ words) e = absurd (omega (arith, e))

  pub explain_one : (words rest : List X) (word : X) (name : List ℕ)
      (result : Result Command WordsFault) → words ≡ word ∷ rest → name ≡ f word
      → true ≡ (length rest == 0) → Reads (explain_on (number_up_to MOST_NUMBER name)) result
      → Reads (explain_of (map f words)) result
  explain_one words [] word name result e n none is = rw (e, ← n) is
  explain_one words (next ∷ rest) word name result e n none is =
      absurd (omega (arith, true-eqb (length (next ∷ rest)) 0 none))

  pub explain_more : (words rest : List X) (word : X) → words ≡ word ∷ rest
      → false ≡ (length rest == 0) → explain_of (map f words) ≡ None
  explain_more words [] word e more = absurd (false-eqb 0 0 more refl)
  explain_more words (next ∷ rest) word e more = rw e refl

  pub help_none : (words : List X) → length words ≡ 0 → help_of (map f words) ≡ Some (Help None)
  help_none [] e = refl
  help_none (word ∷ words) e = absurd (omega (arith, e))

  pub help_one : (words rest : List X) (word : X) (name : List ℕ)
      (result : Result Command WordsFault) → words ≡ word ∷ rest → name ≡ f word
      → true ≡ (length rest == 0) → Reads (help_on name) result
      → Reads (help_of (map f words)) result
  help_one words [] word name result e n none is = rw (e, ← n) is
  help_one words (next ∷ rest) word name result e n none is =
      absurd (omega (arith, true-eqb (length (next ∷ rest)) 0 none))

  pub help_more : (words rest : List X) (word : X) → words ≡ word ∷ rest
      → false ≡ (length rest == 0) → help_of (map f words) ≡ None
  help_more words [] word e more = absurd (false-eqb 0 0 more refl)
  help_more words (next ∷ rest) word e more = rw e refl

-- ---- options

-- the first of some words
pub options_front : {X : Type 0} (f : X → List ℕ) (given : Options) (words rest : List X)
    (word : X) (flag : List ℕ) → words ≡ word ∷ rest → flag ≡ f word
    → options_from given (map f words) ≡ options_from given (flag ∷ map f rest)
options_front f given words rest word flag e n = rw (e, ← n) refl

pub once_no : {A B : Type 0} (before : Option A) (given : Option B) → true ≡ is_some before
    → once before given ≡ None
once_no None given e = absurd (cc e)
once_no (Some x) given e = refl

pub once_is : {A B : Type 0} (before : Option A) (given : Option B) → false ≡ is_some before
    → once before given ≡ given
once_is None given e = refl
once_is (Some x) given e = absurd (cc e)

module _ (flag value : List ℕ) (given : Options) (result : Result Options WordsFault) where
  pub option_steps : true ≡ bytes_eq flag (codes "--steps") → Reads (with_steps value given) result
      → Reads (with_option flag value given) result
  unfolding with_option
  option_steps a reads = rw (sym a) reads

  pub option_sleeps : false ≡ bytes_eq flag (codes "--steps")
      → true ≡ bytes_eq flag (codes "--sleeps")
      → Reads (with_sleeps value given) result → Reads (with_option flag value given) result
  unfolding with_option
  option_sleeps a b reads = rw (sym a, sym b) reads

  pub option_entry : false ≡ bytes_eq flag (codes "--steps")
      → false ≡ bytes_eq flag (codes "--sleeps")
      → true ≡ bytes_eq flag (codes "--entry") → Reads (with_entry value given) result
      → Reads (with_option flag value given) result
  unfolding with_option
  option_entry a b c reads = rw (sym a, sym b, sym c) reads

pub option_none : (flag value : List ℕ) (given : Options) → false ≡ bytes_eq flag (codes "--steps")
    → false ≡ bytes_eq flag (codes "--sleeps")
    → false ≡ bytes_eq flag (codes "--entry") → with_option flag value given ≡ None
unfolding with_option
option_none flag value given a b c = rw (sym a, sym b, sym c) refl

-- ---- a command by its word

module _ (word : List ℕ) (words : List (List ℕ)) (result : Result Command WordsFault) where
  pub by_explain : true ≡ bytes_eq word (codes "explain") → Reads (explain_of words) result
      → Reads (asked_by word words) result
  by_explain a reads = rw (sym a) reads

  pub by_help : false ≡ bytes_eq word (codes "explain") → true ≡ bytes_eq word (codes "help")
      → Reads (help_of words) result → Reads (asked_by word words) result
  by_help a b reads = rw (sym a, sym b) reads

  pub by_version : false ≡ bytes_eq word (codes "explain") → false ≡ bytes_eq word (codes "help")
      → true ≡ bytes_eq word (codes "version") → Reads (version_of words) result
      → Reads (asked_by word words) result
  by_version a b c reads = rw (sym a, sym b, sym c) reads

  pub by_sizes : false ≡ bytes_eq word (codes "explain") → false ≡ bytes_eq word (codes "help")
      → false ≡ bytes_eq word (codes "version") → true ≡ bytes_eq word (codes "sizes")
      → Reads (sizes_of words) result → Reads (asked_by word words) result
  by_sizes a b c d reads = rw (sym a, sym b, sym c, sym d) reads

  pub by_command : false ≡ bytes_eq word (codes "explain") → false ≡ bytes_eq word (codes "help")
      → false ≡ bytes_eq word (codes "version") → false ≡ bytes_eq word (codes "sizes")
      → Reads (command_by word words) result → Reads (asked_by word words) result
  by_command a b c d reads = rw (sym a, sym b, sym c, sym d) reads

  pub by_verify : true ≡ bytes_eq word (codes "verify") → Reads (verify_of words) result
      → Reads (command_by word words) result
  by_verify a reads = rw (sym a) reads

  pub by_list : false ≡ bytes_eq word (codes "verify") → true ≡ bytes_eq word (codes "list")
      → Reads (list_of words) result
      → Reads (command_by word words) result
  by_list a b reads = rw (sym a, sym b) reads

  pub by_run : false ≡ bytes_eq word (codes "verify") → false ≡ bytes_eq word (codes "list")
      → true ≡ bytes_eq word (codes "run")
      → Reads (run_of words) result → Reads (command_by word words) result
  by_run a b c reads = rw (sym a, sym b, sym c) reads

  pub by_resume : false ≡ bytes_eq word (codes "verify") → false ≡ bytes_eq word (codes "list")
      → false ≡ bytes_eq word (codes "run")
      → true ≡ bytes_eq word (codes "resume") → Reads (resume_of words) result
      → Reads (command_by word words) result
  by_resume a b c d reads = rw (sym a, sym b, sym c, sym d) reads

  pub by_go : false ≡ bytes_eq word (codes "verify") → false ≡ bytes_eq word (codes "list")
      → false ≡ bytes_eq word (codes "run")
      → false ≡ bytes_eq word (codes "resume") → true ≡ bytes_eq word (codes "go")
      → Reads (go_of words) result
      → Reads (command_by word words) result
  by_go a b c d e reads = rw (sym a, sym b, sym c, sym d, sym e) reads

  pub by_compile : false ≡ bytes_eq word (codes "verify") → false ≡ bytes_eq word (codes "list")
      → false ≡ bytes_eq word (codes "run")
      → false ≡ bytes_eq word (codes "resume") → false ≡ bytes_eq word (codes "go")
      → true ≡ bytes_eq word (codes "compile")
      → Reads (compile_of words) result → Reads (command_by word words) result
  by_compile a b c d e h reads = rw (sym a, sym b, sym c, sym d, sym e, sym h) reads

  pub by_assemble : false ≡ bytes_eq word (codes "verify") → false ≡ bytes_eq word (codes "list")
      → false ≡ bytes_eq word (codes "run")
      → false ≡ bytes_eq word (codes "resume") → false ≡ bytes_eq word (codes "go")
      → false ≡ bytes_eq word (codes "compile") → true ≡ bytes_eq word (codes "assemble")
      → Reads (assemble_of words) result → Reads (command_by word words) result
  by_assemble a b c d e h i reads =
      rw (sym a, sym b, sym c, sym d, sym e, sym h, sym i) reads

  pub by_many : false ≡ bytes_eq word (codes "verify") → false ≡ bytes_eq word (codes "list")
      → false ≡ bytes_eq word (codes "run")
      → false ≡ bytes_eq word (codes "resume") → false ≡ bytes_eq word (codes "go")
      → false ≡ bytes_eq word (codes "compile") → false ≡ bytes_eq word (codes "assemble")
      → true ≡ bytes_eq word (codes "many")
      → Reads (many_of words) result → Reads (command_by word words) result
  by_many a b c d e h i j reads =
      rw (sym a, sym b, sym c, sym d, sym e, sym h, sym i, sym j) reads

  pub by_measure : false ≡ bytes_eq word (codes "verify") → false ≡ bytes_eq word (codes "list")
      → false ≡ bytes_eq word (codes "run")
      → false ≡ bytes_eq word (codes "resume") → false ≡ bytes_eq word (codes "go")
      → false ≡ bytes_eq word (codes "compile") → false ≡ bytes_eq word (codes "assemble")
      → false ≡ bytes_eq word (codes "many")
      → Reads (measure_by word words) result
      → Reads (command_by word words) result
  by_measure a b c d e h i j reads =
      rw (sym a, sym b, sym c, sym d, sym e, sym h, sym i, sym j) reads

  pub by_sample : true ≡ bytes_eq word (codes "sample") → Reads (sample_of words) result
      → Reads (measure_by word words) result
  by_sample a reads = rw (sym a) reads

  pub by_usage : false ≡ bytes_eq word (codes "sample") → true ≡ bytes_eq word (codes "usage")
      → Reads (usage_of words) result
      → Reads (measure_by word words) result
  by_usage a b reads = rw (sym a, sym b) reads

pub by_none : (word : List ℕ) (words : List (List ℕ)) → false ≡ bytes_eq word (codes "sample")
    → false ≡ bytes_eq word (codes "usage")
    → measure_by word words ≡ None
by_none word words a b = rw (sym a, sym b) refl
