-- The scan of single bytes is the definition of how far a parameter reaches.
use Rattle.std.proofs.Common.{◌≡◌, ◌-◌, ◌<◌, ◌≤◌, ◌==◌, ℕ, zero, suc, List, [], ◌∷◌, Bool, true}
use Rattle.std.proofs.Common.{false, Option, Some, None, if◌then◌else◌, length, refl, sym, ap, ◌∙◌}
use Rattle.std.proofs.Common.{arith}
use Rattle.std.specs.Prelude.{◌&&◌}
use Rattle.std.specs.Option.{option_map, option_and_then}
use Rattle.std.proofs.lemmas.Option.{option_and_then_some}
use Rattle.std.proofs.lemmas.Bool.{eqb-true}
use Rattle.std.proofs.lemmas.Bool.Decides.{nat_tests}
use Rattle.pawn_pre.specs.declared.quote.Quote.{Quote}
use Rattle.pawn_pre.specs.declared.quote.Quote.TheVariants.{Outside, Within, Escaped}
use Rattle.pawn_pre.specs.Quote.{is_outside, quote_after, is_quote_mark}
use Rattle.pawn_pre.specs.Group.{closer_of, is_closer, past_literal, past_part, past, reach}
use Rattle.pawn_pre.specs.GroupScan.{Look, Here, Fails, On, look, reach_bytewise, bytewise_by}
use Rattle.pawn_pre.specs.GroupScan.{close_group, is_none_awaited}

some_same : {x y : List ℕ} → Some x ≡ Some y → x ≡ y
some_same h = cc

none_some : {P : Type 0} (r : List ℕ) (o : Option (List ℕ)) → o ≡ None → o ≡ Some r → P
none_some r o h k = absurd (cc)

-- a literal takes at least its last quote
literal_one : (control : ℕ) (quote : Quote) (b : ℕ) (rest r : List ℕ) →
    ((q : Quote) → past_literal control q rest ≡ Some r → length r < length rest) →
    (t : Bool) → is_outside (quote_after control quote b) ≡ t
    → past_literal control quote (b ∷ rest) ≡ Some r → length r < length (b ∷ rest)
unfolding past_literal
literal_one control quote b rest r ih true e h =
    let same : Some rest ≡ Some r = rw e at h in
    let k = ap length (some_same same) in omega (arith, k)
literal_one control quote b rest r ih false e h =
    let k = ih (quote_after control quote b) (rw e at h) in omega (arith, k)

literal_shorter : (control : ℕ) (bytes r : List ℕ) (quote : Quote)
    → past_literal control quote bytes ≡ Some r → length r < length bytes
unfolding past_literal
literal_shorter control [] r quote h = none_some r None refl h
literal_shorter control (b ∷ rest) r quote h =
    literal_one control quote b rest r (λ q. literal_shorter control rest r q)
    (is_outside (quote_after control quote b)) refl h

-- a part takes its first byte at least
module _ (control b : ℕ) (rest r : List ℕ) (up_to : ℕ → Option (List ℕ))
    (within : (c : ℕ) → up_to c ≡ Some r → length r ≤ length rest) where
  byte_within : (u : Bool) → (if u then None else Some rest) ≡ Some r → length r ≤ length rest
  byte_within true h = none_some r None refl h
  byte_within false h = let k = ap length (some_same h) in omega (arith, k)

  group_within : (o : Option ℕ) → closer_of b ≡ o → is_quote_mark b ≡ false
      → past_part control b rest up_to ≡ Some r → length r ≤ length rest
  group_within (Some c) e q h = within c (rw e at (rw q at h))
  group_within None e q h = byte_within (is_closer b) (rw e at (rw q at h))

  quote_within : (t : Bool) → is_quote_mark b ≡ t → past_part control b rest up_to ≡ Some r
      → length r ≤ length rest
  quote_within true e h =
      let k = literal_shorter control rest r (Within b) (rw e at h) in omega (arith, k)
  quote_within false e h = group_within (closer_of b) refl e h

  part_within : past_part control b rest up_to ≡ Some r → length r ≤ length rest
  part_within h = quote_within (is_quote_mark b) refl h

past_one : (control more stop b : ℕ) (rest r : List ℕ) →
    ((s : ℕ) (bytes r' : List ℕ) → past control more s bytes ≡ Some r' → length r' < length bytes) →
    (t : Bool) → (b == stop) ≡ t → past control (suc more) stop (b ∷ rest) ≡ Some r
    → length r < length (b ∷ rest)
unfolding past
past_one control more stop b rest r ih true e h =
    let same : Some rest ≡ Some r = rw e at h in
    let k = ap length (some_same same) in omega (arith, k)
past_one control more stop b rest r ih false e h =
    option_and_then_some (λ behind. past control more stop behind)
    (past_part control b rest (λ c. past control more c rest)) r (rw e at h)
    (λ behind found goes.
    let j = ih stop behind r goes in
    let k =
    part_within control b rest behind (λ c. past control more c rest)
    (λ c up. let l = ih c rest behind up in omega (arith, l)) found in
    omega (arith, j, k))

past_shorter : (control more stop : ℕ) (bytes r : List ℕ) → past control more stop bytes ≡ Some r
    → length r < length bytes
unfolding past
past_shorter control zero stop bytes r h = none_some r None refl h
past_shorter control (suc more) stop [] r h = none_some r None refl h
past_shorter control (suc more) stop (b ∷ rest) r h =
    past_one control more stop b rest r (λ s bytes r'. past_shorter control more s bytes r')
    (b == stop) refl h

-- parts and what follows them, by the same functions
and_then_same : (f g : List ℕ → Option (List ℕ)) (o p : Option (List ℕ)) → o ≡ p →
    ((r : List ℕ) → o ≡ Some r → f r ≡ g r) → option_and_then f o ≡ option_and_then g p
and_then_same f g o p same h = rw (sym same) (by_option o h)
  where
    by_option : (o : Option (List ℕ)) → ((r : List ℕ) → o ≡ Some r → f r ≡ g r)
        → option_and_then f o ≡ option_and_then g o
    by_option None h = refl
    by_option (Some r) h = h r refl

and_then_twice : (f g : List ℕ → Option (List ℕ)) (o : Option (List ℕ)) →
    option_and_then (λ r. option_and_then f (g r)) o ≡ option_and_then f (option_and_then g o)
and_then_twice f g None = refl
and_then_twice f g (Some r) = refl

module _ (control b : ℕ) (rest : List ℕ) (f g : ℕ → Option (List ℕ))
    (same : (c : ℕ) → f c ≡ g c) where
  group_same : (o : Option ℕ) → closer_of b ≡ o → is_quote_mark b ≡ false
      → past_part control b rest f ≡ past_part control b rest g
  group_same (Some c) e q = rw q (rw e (same c))
  group_same None e q = rw q (rw e refl)

  quote_same : (t : Bool) → is_quote_mark b ≡ t
      → past_part control b rest f ≡ past_part control b rest g
  quote_same true e = rw e refl
  quote_same false e = group_same (closer_of b) refl e

-- as many bytes as there are may always be looked at
past_nil : (control more stop : ℕ) → past control more stop [] ≡ None
unfolding past
past_nil control zero stop = refl
past_nil control (suc more) stop = refl

more_one : (control n m stop b : ℕ) (rest : List ℕ) →
    ((s : ℕ) (bytes : List ℕ) → length bytes ≤ length rest
    → past control n s bytes ≡ past control m s bytes) →
    (t : Bool) → (b == stop) ≡ t → past control (suc n) stop (b ∷ rest)
    ≡ past control (suc m) stop (b ∷ rest)
unfolding past
more_one control n m stop b rest ih true e = rw e refl
more_one control n m stop b rest ih false e =
    rw e (and_then_same (λ r. past control n stop r) (λ r. past control m stop r) _ _
    (quote_same control b rest (λ c. past control n c rest) (λ c. past control m c rest)
    (λ c. ih c rest (omega arith)) (is_quote_mark b) refl)
    (λ r found. ih stop r (part_within control b rest r (λ c. past control n c rest)
    (λ c up. let l = past_shorter control n c rest r up in omega (arith, l)) found)))

more_same : (control n m stop : ℕ) (bytes : List ℕ) → length bytes ≤ n → length bytes ≤ m
    → past control n stop bytes ≡ past control m stop bytes
more_same control n m stop [] h k = past_nil control n stop ∙ sym (past_nil control m stop)
more_same control zero m stop (b ∷ rest) h k = absurd (omega (arith, h))
more_same control (suc n) zero stop (b ∷ rest) h k = absurd (omega (arith, k))
more_same control (suc n) (suc m) stop (b ∷ rest) h k =
    more_one control n m stop b rest
    (λ s bytes l. more_same control n m s bytes (omega (arith, l, h)) (omega (arith, l, k)))
    (b == stop) refl

-- behind a part, the bytes that are left may be looked at
part_then : (control stop b : ℕ) (rest : List ℕ) → (b == stop) ≡ false →
    past control (length (b ∷ rest)) stop (b ∷ rest)
    ≡ option_and_then (λ r. past control (length r) stop r)
    (past_part control b rest (λ c. past control (length rest) c rest))
unfolding past
part_then control stop b rest e =
    rw e (and_then_same (λ r. past control (length rest) stop r)
    (λ r. past control (length r) stop r) _ _ refl
    (λ r found. more_same control (length rest) (length r) stop r
    (part_within control b rest r (λ c. past control (length rest) c rest)
    (λ c up. let l = past_shorter control (length rest) c rest r up in omega (arith, l)) found)
    (omega arith)))

-- the scan, with what stands behind the end in place of a number
rests_by : Look → List ℕ → (List ℕ → Quote → Option (List ℕ)) → Option (List ℕ)
rests_by Here rest go_on = Some rest
rests_by Fails rest go_on = None
rests_by (On awaited quote) rest go_on = go_on awaited quote

rests : ℕ → ℕ → List ℕ → Quote → List ℕ → Option (List ℕ)
rests control end awaited quote [] = None
rests control end awaited quote (b ∷ rest) =
    rests_by (look control end awaited quote b) rest
    (λ awaited' quote'. rests control end awaited' quote' rest)

-- the brackets that are awaited, one after the other, and the end behind them
all_of : ℕ → ℕ → List ℕ → List ℕ → Option (List ℕ)
all_of control end [] bytes = past control (length bytes) end bytes
all_of control end (c ∷ awaited) bytes =
    option_and_then (λ r. all_of control end awaited r) (past control (length bytes) c bytes)

-- only closing brackets are awaited
are_closers : List ℕ → Bool
are_closers [] = true
are_closers (c ∷ awaited) = is_closer c && are_closers awaited

closer_when : (t u v : Bool) (b c : ℕ) → (b == 40) ≡ t → (b == 91) ≡ u → (b == 123) ≡ v
    → closer_of b ≡ Some c → is_closer c ≡ true
closer_when true u v b c e f g h =
    let k : Some 41 ≡ Some c = rw e at h in let l : c ≡ 41 = cc in rw l refl
closer_when false true v b c e f g h =
    let k : Some 93 ≡ Some c = rw f at (rw e at h) in let l : c ≡ 93 = cc in rw l refl
closer_when false false true b c e f g h =
    let k : Some 125 ≡ Some c = rw g at (rw f at (rw e at h)) in let l : c ≡ 125 = cc in rw l refl
closer_when false false false b c e f g h =
    let k : (let none : Option ℕ = None in none) ≡ Some c = rw g at (rw f at (rw e at h)) in
    absurd (cc)

closer_is : (b c : ℕ) → closer_of b ≡ Some c → is_closer c ≡ true
closer_is b c h = closer_when (b == 40) (b == 91) (b == 123) b c refl refl refl h

closer_no_quote : (b : ℕ) → is_closer b ≡ true → is_quote_mark b ≡ false
closer_no_quote b h = grind (arith, nat_tests)

closer_no_opener : (b : ℕ) → is_closer b ≡ true → closer_of b ≡ None
closer_no_opener b h =
    let e : (b == 40) ≡ false = grind (arith, nat_tests) in
    let f : (b == 91) ≡ false = grind (arith, nat_tests) in
    let g : (b == 123) ≡ false = grind (arith, nat_tests) in
    rw e (rw f (rw g refl))

-- behind an open literal the scan goes on outside
module _ (control end : ℕ) (awaited : List ℕ) where
  next_inside : (next : Quote) (rest : List ℕ) →
      (is_outside next ≡ false → rests control end awaited next rest
      ≡ option_and_then (λ r. rests control end awaited Outside r) (past_literal control next rest))
      →
      rests control end awaited next rest
      ≡ option_and_then (λ r. rests control end awaited Outside r)
      (if is_outside next then Some rest else past_literal control next rest)
  next_inside Outside rest ih = refl
  next_inside (Within q) rest ih = ih refl
  next_inside (Escaped q) rest ih = ih refl

  inside : (bytes : List ℕ) (quote : Quote) → is_outside quote ≡ false →
      rests control end awaited quote bytes
      ≡ option_and_then (λ r. rests control end awaited Outside r)
      (past_literal control quote bytes)
  unfolding past_literal look rests rests_by
  inside [] quote h = refl
  inside (b ∷ rest) Outside h = absurd (cc)
  inside (b ∷ rest) (Within q) h =
      next_inside (quote_after control (Within q) b) rest
      (inside rest (quote_after control (Within q) b))
  inside (b ∷ rest) (Escaped q) h =
      next_inside (quote_after control (Escaped q) b) rest
      (inside rest (quote_after control (Escaped q) b))

-- the first byte of a part
module _ (control end b : ℕ) (rest : List ℕ)
    (ih : (awaited : List ℕ) (r : List ℕ) → are_closers awaited ≡ true → length r ≤ length rest →
    rests control end awaited Outside r ≡ all_of control end awaited r) where
  module _ (awaited : List ℕ) (closers : are_closers awaited ≡ true)
      (no_end : (is_none_awaited awaited && (b == end)) ≡ false)
      (no_close : is_closer b ≡ true → close_group awaited b ≡ Fails) where
    Goes : Type 0
    Goes = rests control end awaited Outside (b ∷ rest)
        ≡ option_and_then (λ r. all_of control end awaited r)
        (past_part control b rest (λ c. past control (length rest) c rest))

    byte_goes : (u : Bool) → is_closer b ≡ u → closer_of b ≡ None → is_quote_mark b ≡ false → Goes
    unfolding look Goes rests rests_by
    byte_goes true e f g = rw no_end (rw g (rw f (rw e (rw (no_close e) refl))))
    byte_goes false e f g = rw no_end (rw g (rw f (rw e (ih awaited rest closers (omega arith)))))

    group_goes : (o : Option ℕ) → closer_of b ≡ o → is_quote_mark b ≡ false → Goes
    unfolding look Goes rests rests_by all_of are_closers
    group_goes (Some c) f g =
        rw no_end (rw g (rw f (ih (c ∷ awaited) rest (rw (closer_is b c f) closers) (omega arith))))
    group_goes None f g = byte_goes (is_closer b) refl f g

    quote_goes : (t : Bool) → is_quote_mark b ≡ t → Goes
    unfolding look Goes rests rests_by
    quote_goes true g =
        rw no_end (rw g (inside control end awaited rest (Within b) refl
        ∙ and_then_same (λ r. rests control end awaited Outside r)
        (λ r. all_of control end awaited r) _ _ refl
        (λ r found. let k = literal_shorter control rest r (Within b) found in ih awaited r closers
        (omega (arith, k)))))
    quote_goes false g = group_goes (closer_of b) refl g

    part_goes : Goes
    part_goes = quote_goes (is_quote_mark b) refl

  none_awaited : (t : Bool) → (b == end) ≡ t
      → rests control end [] Outside (b ∷ rest) ≡ all_of control end [] (b ∷ rest)
  unfolding look past rests rests_by all_of Goes are_closers
  none_awaited true e = rw e refl
  none_awaited false e = part_goes [] refl e (λ h. refl) ∙ sym (part_then control end b rest e)

  one_awaited : (c : ℕ) (awaited : List ℕ) → is_closer c ≡ true → are_closers awaited ≡ true
      → (t : Bool) → (b == c) ≡ t →
      rests control end (c ∷ awaited) Outside (b ∷ rest)
      ≡ all_of control end (c ∷ awaited) (b ∷ rest)
  unfolding look past rests rests_by all_of Goes are_closers
  one_awaited c awaited h k true e =
      let is : is_closer b ≡ true = rw (eqb-true b c e) h in
      rw (closer_no_quote b is) (rw (closer_no_opener b is)
      (rw is (rw e (ih awaited rest k (omega arith)))))
  one_awaited c awaited h k false e =
      part_goes (c ∷ awaited) (rw h k) refl (λ is. rw e refl)
      ∙ and_then_twice (λ r. all_of control end awaited r) (λ r. past control (length r) c r) _
      ∙ ap (λ o. option_and_then (λ r. all_of control end awaited r) o)
      (sym (part_then control c b rest e))

all_nil : (control end : ℕ) (awaited : List ℕ) → all_of control end awaited [] ≡ None
unfolding past all_of
all_nil control end [] = refl
all_nil control end (c ∷ awaited) = refl

both_true : (a b : Bool) → (a && b) ≡ true → (a ≡ true) × (b ≡ true)
both_true true b e = (refl, e)
both_true false b e = absurd (cc)

rests_all : (control end n : ℕ) (awaited bytes : List ℕ) → are_closers awaited ≡ true
    → length bytes ≤ n →
    rests control end awaited Outside bytes ≡ all_of control end awaited bytes
unfolding rests are_closers
rests_all control end n awaited [] h k = sym (all_nil control end awaited)
rests_all control end zero awaited (b ∷ rest) h k = absurd (omega (arith, k))
rests_all control end (suc n) [] (b ∷ rest) h k =
    none_awaited control end b rest
    (λ awaited' r h' l. rests_all control end n awaited' r h' (omega (arith, k, l)))
    (b == end) refl
rests_all control end (suc n) (c ∷ awaited) (b ∷ rest) h k =
    let hs = both_true (is_closer c) (are_closers awaited) h in
    one_awaited control end b rest
    (λ awaited' r h' l. rests_all control end n awaited' r h' (omega (arith, k, l))) c awaited
    hs.0 hs.1 (b == c) refl

-- the number is that of the bytes before the end
rests_one : (rest r : List ℕ) (l : Look) (go_on : List ℕ → Quote → Option (List ℕ)) →
    ((awaited : List ℕ) (quote : Quote) → go_on awaited quote ≡ Some r → length r < length rest) →
    rests_by l rest go_on ≡ Some r → length r ≤ length rest
unfolding rests_by
rests_one rest r Here go_on ih h = let k = ap length (some_same h) in omega (arith, k)
rests_one rest r Fails go_on ih h = none_some r None refl h
rests_one rest r (On awaited quote) go_on ih h = let k = ih awaited quote h in omega (arith, k)

rests_shorter : (control end : ℕ) (bytes r awaited : List ℕ) (quote : Quote)
    → rests control end awaited quote bytes ≡ Some r → length r < length bytes
unfolding rests
rests_shorter control end [] r awaited quote h = none_some r None refl h
rests_shorter control end (b ∷ rest) r awaited quote h =
    let k =
    rests_one rest r (look control end awaited quote b)
    (λ awaited' quote'. rests control end awaited' quote' rest)
    (λ awaited' quote'. rests_shorter control end rest r awaited' quote') h in
    omega (arith, k)

abbrev before : List ℕ → List ℕ → ℕ
before bytes r = length bytes - suc (length r)

one_more : (b : ℕ) (rest : List ℕ) (o : Option (List ℕ))
    → ((r : List ℕ) → o ≡ Some r → length r < length rest) →
    option_map suc (option_map (before rest) o) ≡ option_map (before (b ∷ rest)) o
one_more b rest None h = refl
one_more b rest (Some r) h =
    let k = h r refl in let e : suc (before rest r) ≡ before (b ∷ rest) r = omega (arith, k) in
    ap (λ n. Some n) e

counted_by : (b : ℕ) (rest : List ℕ) (l : Look) (numbers : List ℕ → Quote → Option ℕ)
    (bytes : List ℕ → Quote → Option (List ℕ)) →
    ((awaited : List ℕ) (quote : Quote)
    → numbers awaited quote ≡ option_map (before rest) (bytes awaited quote)) →
    ((r awaited : List ℕ) (quote : Quote) → bytes awaited quote ≡ Some r → length r < length rest) →
    bytewise_by l numbers ≡ option_map (before (b ∷ rest)) (rests_by l rest bytes)
unfolding rests_by
counted_by b rest Here numbers bytes same short =
    let k : 0 ≡ before (b ∷ rest) rest = omega arith in ap (λ n. Some n) k
counted_by b rest Fails numbers bytes same short = refl
counted_by b rest (On awaited quote) numbers bytes same short =
    ap (option_map suc) (same awaited quote)
    ∙ one_more b rest (bytes awaited quote) (λ r. short r awaited quote)

counted : (control end : ℕ) (bytes awaited : List ℕ) (quote : Quote) →
    reach_bytewise control end awaited quote bytes
    ≡ option_map (before bytes) (rests control end awaited quote bytes)
unfolding reach_bytewise rests
counted control end [] awaited quote = refl
counted control end (b ∷ rest) awaited quote =
    counted_by b rest (look control end awaited quote b)
    (λ awaited' quote'. reach_bytewise control end awaited' quote' rest)
    (λ awaited' quote'. rests control end awaited' quote' rest) (counted control end rest)
    (rests_shorter control end rest)

pub bytewise_is_reach : (control end : ℕ) (bytes : List ℕ)
    → reach_bytewise control end [] Outside bytes ≡ reach control end bytes
unfolding reach all_of are_closers
bytewise_is_reach control end bytes =
    counted control end bytes [] Outside
    ∙ ap (option_map (before bytes))
    (rests_all control end (length bytes) [] bytes refl (omega arith))
