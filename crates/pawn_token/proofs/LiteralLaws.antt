-- Literals: what follows a byte, an escape or a literal stands at the end of what it is read from,
-- and bytes are read in one way.
use Rattle.std.proofs.Common.{◌≡◌, ◌<◌, ◌≤◌, ℕ, List, [], ◌∷◌, ◌++◌, Bool, true, false, Option}
use Rattle.std.proofs.Common.{Some, None, Result, Ok, Err, cond, length, take, drop, refl, sym, ap}
use Rattle.std.proofs.Common.{subst, ◌∙◌, nat_lt, ◌==◌, ◌||◌, if◌then◌else◌, arith, length-append}
use Rattle.std.proofs.Common.{append_assoc}
use Rattle.std.specs.List.{prefix_len}
use Rattle.std.specs.Str.Parse.{digits_value}
use Rattle.std.proofs.lemmas.List.{take-append-drop}
use Rattle.pawn_token.specs.declared.class.Class.{Class}
use Rattle.pawn_token.specs.declared.class.Class.TheVariants as class
use Rattle.pawn_token.specs.Class.{is_digit, run, after, is_in, byte_at}
use Rattle.pawn_token.specs.Fault.{bad_escape}
use Rattle.pawn_token.specs.Literal.{Next, Closes, Is, Fails, named, past_semicolon, byte_of, coded}
use Rattle.pawn_token.specs.Literal.{unnamed, named_or, escape, next, Spells, IsBody, HasFault}
use Rattle.pawn_token.specs.Literal.{character_at, begun_by, ended_by}

-- these bytes are the end of those
pub record IsEnd (whole rest : List ℕ) : Type 0 where
  pub front : List ℕ
  pub parts : whole ≡ front ++ rest

pub end_refl : (bytes : List ℕ) → IsEnd bytes bytes
end_refl bytes = record { front = []; parts = refl }

pub end_cons : (byte : ℕ) (whole rest : List ℕ) → IsEnd whole rest → IsEnd (byte ∷ whole) rest
end_cons byte whole rest e =
    record { front = byte ∷ e.front; parts = ap (λ bytes. byte ∷ bytes) e.parts }

pub end_drop : (n : ℕ) (bytes : List ℕ) → IsEnd bytes (drop n bytes)
end_drop n bytes = record { front = take n bytes; parts = sym (take-append-drop n bytes) }

pub end_trans : (a b c : List ℕ) → IsEnd a b → IsEnd b c → IsEnd a c
end_trans a b c e f =
    record {
      front = e.front ++ f.front;
      parts = e.parts ∙ ap (λ bytes. e.front ++ bytes) f.parts
          ∙ sym (append_assoc e.front f.front c);
    }

pub end_le : (whole rest : List ℕ) → IsEnd whole rest → length rest ≤ length whole
end_le whole rest e =
    let counted = ap length e.parts in
    omega (arith, counted, length-append e.front rest)

-- what follows is the end of these bytes
abbrev pub Leaves : List ℕ → Next → Type 0
Leaves at Closes = Unit {0}
Leaves at (Is byte rest) = IsEnd at rest
Leaves at (Fails fault) = Unit {0}

leaves_cond : (at : List ℕ) (b : Bool) (x y : Next) → Leaves at x → Leaves at y
    → Leaves at (cond b x y)
leaves_cond at true x y first second = first
leaves_cond at false x y first second = second

leaves_more : (whole at : List ℕ) (x : Next) → IsEnd whole at → Leaves at x → Leaves whole x
leaves_more whole at Closes e l = tt
leaves_more whole at (Is byte rest) e l = end_trans whole at rest e l
leaves_more whole at (Fails fault) e l = tt

end_cond : (whole : List ℕ) (b : Bool) (x y : List ℕ) → IsEnd whole x → IsEnd whole y
    → IsEnd whole (cond b x y)
end_cond whole true x y first second = first
end_cond whole false x y first second = second

past_semicolon_ends : (rest : List ℕ) → IsEnd rest (past_semicolon rest)
unfolding past_semicolon
past_semicolon_ends rest =
    end_cond rest (byte_at rest 0 == 59) (drop 1 rest) rest (end_drop 1 rest) (end_refl rest)

byte_of_leaves : (base : ℕ) (digits rest : List ℕ) → Leaves rest (byte_of base digits rest)
unfolding byte_of
byte_of_leaves base [] rest = tt
byte_of_leaves base (digit ∷ digits) rest =
    leaves_cond rest (nat_lt (digits_value base (digit ∷ digits)) 256)
    (Is (digits_value base (digit ∷ digits)) (past_semicolon rest)) (Fails bad_escape)
    (past_semicolon_ends rest) tt

coded_leaves : (base : ℕ) (class : Class) (bytes : List ℕ) → Leaves bytes (coded base class bytes)
unfolding coded
coded_leaves base class bytes =
    leaves_more bytes (after class bytes) (byte_of base (run class bytes) (after class bytes))
    (end_drop (prefix_len (is_in class) bytes) bytes)
    (byte_of_leaves base (run class bytes) (after class bytes))

unnamed_leaves : (control first : ℕ) (rest : List ℕ)
    → Leaves (first ∷ rest) (unnamed control first rest)
unfolding unnamed
unnamed_leaves control first rest =
    let whole = first ∷ rest in
    let below = end_cons first rest rest (end_refl rest) in
    leaves_cond whole (first == control || first == 39 || first == 34 || first == 37)
    (Is first rest)
    (if is_digit first then coded 10 class.Digit (first ∷ rest) else if first == 120
    then coded 16 class.Hexadecimal rest else Fails bad_escape)
    below
    (leaves_cond whole (is_digit first) (coded 10 class.Digit (first ∷ rest))
    (if first == 120 then coded 16 class.Hexadecimal rest else Fails bad_escape)
    (coded_leaves 10 class.Digit (first ∷ rest))
    (leaves_cond whole (first == 120) (coded 16 class.Hexadecimal rest) (Fails bad_escape)
    (leaves_more whole rest (coded 16 class.Hexadecimal rest) below
    (coded_leaves 16 class.Hexadecimal rest)) tt))

named_or_leaves : (whole : List ℕ) (other : Next) (rest : List ℕ) (found : Option ℕ)
    → IsEnd whole rest → Leaves whole other → Leaves whole (named_or other rest found)
named_or_leaves whole other rest None e l = l
named_or_leaves whole other rest (Some byte) e l = e

escape_leaves : (control : ℕ) (bytes : List ℕ) → Leaves bytes (escape control bytes)
unfolding escape
escape_leaves control [] = tt
escape_leaves control (first ∷ rest) =
    named_or_leaves (first ∷ rest) (unnamed control first rest) rest (named first)
    (end_cons first rest rest (end_refl rest)) (unnamed_leaves control first rest)

next_leaves : (control quote first : ℕ) (rest : List ℕ)
    → Leaves rest (next control quote (first ∷ rest))
unfolding next
next_leaves control quote first rest =
    leaves_cond rest (first == control) (escape control rest)
    (if first == quote then Closes else Is first rest) (escape_leaves control rest)
    (leaves_cond rest (first == quote) Closes (Is first rest) tt (end_refl rest))

-- each byte that is read takes one at least
pub next_shorter : (control quote : ℕ) (at : List ℕ) (byte : ℕ) (rest : List ℕ)
    → next control quote at ≡ Is byte rest → length rest < length at
unfolding next
next_shorter control quote [] byte rest e = absurd (cc)
next_shorter control quote (first ∷ at) byte rest e =
    let within = end_le at rest (subst (Leaves at) e (next_leaves control quote first at)) in
    omega (arith, within)

pub next_ends : (control quote : ℕ) (at : List ℕ) (byte : ℕ) (rest : List ℕ)
    → next control quote at ≡ Is byte rest → IsEnd at rest
unfolding next
next_ends control quote [] byte rest e = absurd (cc)
next_ends control quote (first ∷ at) byte rest e =
    end_cons first at rest (subst (Leaves at) e (next_leaves control quote first at))

-- one more byte is spelled
pub spells_more : (control quote : ℕ) (at bytes mid : List ℕ) (byte : ℕ) (rest : List ℕ)
    → Spells control quote at bytes mid
    → next control quote mid ≡ Is byte rest → Spells control quote at (bytes ++ byte ∷ []) rest
spells_more control quote at [] mid byte rest here step =
    (rest, ap (next control quote) here ∙ step, refl)
spells_more control quote at (first ∷ bytes) mid byte rest (after_first, begins, others) step =
    (after_first, begins, spells_more control quote after_first bytes mid byte rest others step)

spells_end : (control quote : ℕ) (at bytes end : List ℕ) → Spells control quote at bytes end
    → IsEnd at end
spells_end control quote at [] end here = subst (IsEnd at) here (end_refl at)
spells_end control quote at (byte ∷ bytes) end (rest, begins, others) =
    end_trans at rest end (next_ends control quote at byte rest begins)
    (spells_end control quote rest bytes end others)

-- what follows a text or a character
pub body_ends : (control quote : ℕ) (at bytes rest : List ℕ) → IsBody control quote at bytes rest
    → IsEnd at rest
body_ends control quote at bytes rest body =
    end_trans at body.end rest (spells_end control quote at bytes body.end body.spelled)
    (subst (IsEnd body.end) (sym body.rest_is) (end_drop 1 body.end))

abbrev first_of : Result (ℕ × List ℕ) ℕ → ℕ
first_of (Ok pair) = pair.0
first_of (Err fault) = 0

abbrev second_of : Result (ℕ × List ℕ) ℕ → List ℕ
second_of (Ok pair) = pair.1
second_of (Err fault) = []

abbrev pub read_as : ℕ → List ℕ → Result (ℕ × List ℕ) ℕ
read_as byte rest = Ok (byte, rest)

-- the parts of two answers that are one
pub ok_parts : (a b : ℕ) (x y : List ℕ) → read_as a x ≡ read_as b y → (a ≡ b) × (x ≡ y)
ok_parts a b x y e = (ap first_of e, ap second_of e)

ended_ends : (byte : ℕ) (end : List ℕ) (n : Next) (x : ℕ) (rest : List ℕ)
    → ended_by byte end n ≡ Ok (x, rest) → IsEnd end rest
ended_ends byte end Closes x rest e =
    subst (IsEnd end) (ok_parts byte x (drop 1 end) rest e).1 (end_drop 1 end)
ended_ends byte end (Is other more) x rest e = absurd (cc)
ended_ends byte end (Fails fault) x rest e = absurd (cc)

begun_ends : (control : ℕ) (at : List ℕ) (n : Next) (x : ℕ) (rest : List ℕ) → next control 39 at ≡ n
    → begun_by control n ≡ Ok (x, rest) → IsEnd at rest
begun_ends control at Closes x rest is e = absurd (cc)
begun_ends control at (Is byte end) x rest is e =
    end_trans at end rest (next_ends control 39 at byte end is)
    (ended_ends byte end (next control 39 end) x rest e)
begun_ends control at (Fails fault) x rest is e = absurd (cc)

pub character_ends : (control : ℕ) (at : List ℕ) (byte : ℕ) (rest : List ℕ)
    → character_at control at ≡ Ok (byte, rest) → IsEnd at rest
unfolding character_at
character_ends control at byte rest e = begun_ends control at (next control 39 at) byte rest refl e

-- the same place has one reading
spells_one : (control quote : ℕ) (at a b end last : List ℕ) (x y : Next)
    → Spells control quote at a end → Spells control quote at b last
    → next control quote end ≡ x → next control quote last ≡ y
    → ((byte : ℕ) (rest : List ℕ) → x ≡ Is byte rest → ⊥)
    → ((byte : ℕ) (rest : List ℕ) → y ≡ Is byte rest → ⊥) → (a ≡ b) × (end ≡ last)
spells_one control quote at [] [] end last x y first second stops halts never other =
    (refl, sym first ∙ second)
spells_one control quote at [] (byte ∷ b) end last x y first
    (rest, begins, others) stops halts never other =
    absurd (never byte rest (sym stops ∙ ap (next control quote) (sym first) ∙ begins))
spells_one control quote at (byte ∷ a) [] end last x y
    (rest, begins, others) second stops halts never other =
    absurd (other byte rest (sym halts ∙ ap (next control quote) (sym second) ∙ begins))
spells_one control quote at (byte ∷ a) (second_byte ∷ b) end last x y (rest, begins, others)
    (more, starts, further) stops halts never other =
    let step : Is byte rest ≡ Is second_byte more = sym begins ∙ starts in
    let same_byte : byte ≡ second_byte = cc in
    let same_rest : more ≡ rest = cc in
    let tail = spells_one control quote rest a b end last x y others
    (subst (λ bytes. Spells control quote bytes b last) same_rest further) stops halts never
    other in
    (ap (λ n. n ∷ a) same_byte ∙ ap (λ bytes. second_byte ∷ bytes) tail.0, tail.1)

closes_not : (byte : ℕ) (rest : List ℕ) → Closes ≡ Is byte rest → ⊥
closes_not byte rest e = cc

fails_not : (fault byte : ℕ) (rest : List ℕ) → Fails fault ≡ Is byte rest → ⊥
fails_not fault byte rest e = cc

pub body_one : (control quote : ℕ) (at a b rest more : List ℕ) → IsBody control quote at a rest
    → IsBody control quote at b more → (a ≡ b) × (rest ≡ more)
body_one control quote at a b rest more first second =
    let same =
    spells_one control quote at a b first.end second.end Closes Closes first.spelled
    second.spelled first.closed second.closed closes_not closes_not in
    (same.0, first.rest_is ∙ ap (drop 1) same.1 ∙ sym second.rest_is)

pub body_not_fault : (control quote : ℕ) (at a rest : List ℕ) (fault : ℕ)
    → IsBody control quote at a rest → HasFault control quote at fault → ⊥
body_not_fault control quote at a rest fault first second =
    let same =
    spells_one control quote at a second.bytes first.end second.end Closes
    (Fails fault) first.spelled second.spelled first.closed second.fails closes_not
    (fails_not fault) in
    let e : Closes ≡ Fails fault =
    sym first.closed ∙ ap (next control quote) same.1 ∙ second.fails in
    cc

pub fault_one : (control quote : ℕ) (at : List ℕ) (a b : ℕ) → HasFault control quote at a
    → HasFault control quote at b → a ≡ b
fault_one control quote at a b first second =
    let same =
    spells_one control quote at first.bytes second.bytes first.end second.end (Fails a)
    (Fails b) first.spelled second.spelled first.fails second.fails (fails_not a)
    (fails_not b) in
    let e : Fails a ≡ Fails b = sym first.fails ∙ ap (next control quote) same.1 ∙ second.fails in
    cc
