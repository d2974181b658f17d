-- Letters that a site types on with: each stands as one byte, and what they tell.
use Rattle.std.proofs.Common.{◌≡◌, ℕ, suc, ◌+◌, ◌-◌, ◌^◌, ◌<◌, ◌≤◌, Bool, true, false, cond, eqb, List, [], ◌∷◌, ◌++◌, length, take, drop, zero, All}
use Rattle.std.proofs.Common.{Option, Some, None, refl, sym, ap, subst, ◌∙◌, inl, inr, length-append, length-take, arith}
use Rattle.std.proofs.lemmas.Bool.{cases_Bool, eqb-true, eq-eqb, cond-true, cond-false}
use Rattle.std.proofs.lemmas.List.Elements.{All-cons, All-head, All-nil, All-tail, All-take}
use Rattle.std.proofs.lemmas.List.{take-append-drop, take-append-le}
use Rattle.std.specs.Prelude.{nat_eq}
use Rattle.indexmap.specs.IndexMap.{insert_entry}
use Rattle.looks.specs.declared.looks.Looks.{Looks}
use Rattle.char_files.specs.Runs.{same_looks}
use Rattle.char_files.specs.declared.TheConstants.{MAX_FILE}
use Rattle.char_files.specs.declared.name.Anchor.{Anchor}
use Rattle.char_files.specs.declared.name.Anchor.TheVariants.{Root, At}
use Rattle.char_files.proofs.MaximalRuns.{same_looks_decides}
use Rattle.operations.specs.declared.kind.TheConstants.{MAX_INSERT}
use Rattle.operations.specs.declared.op.TheConstants.{MAX_STAMP}
use Rattle.operations.specs.declared.typing.Typing.{Typing}
use Rattle.operations.specs.Letters.{after_letter, letter, letters}
use Rattle.operations.specs.Operation.{Operation}
use Rattle.operations.specs.Spelling.{HasSpelling, looks_spelling}
use Rattle.packed.specs.Numbers.{sevens, step_spelling}
use Rattle.packed.specs.declared.expected.Expected.{Expected}
use Rattle.packed.specs.Told.{Told, after_one_more, expected, noted, told_on, told_after}
use Rattle.packed.specs.Spelling.{is_code, time_lead, looks_lead, place_lead, bytes_spelling, edit_spelling, packed_next, packed_after}
use Rattle.packed.specs.Reading.{CanBeNext}
use Rattle.packed.specs.Laws.{CanFollow}
use Rattle.packed.specs.Letters.{AreTypedNext, TypesOn}
use Rattle.packed.proofs.Told.{expected_on}
use Rattle.packed.proofs.PackedLists.{some_bytes}
use Rattle.packed.proofs.ReadParts.{same_as_itself}

-- no code stands among the bytes
abbrev pub AreLetters : Bool → List ℕ → Type 0
AreLetters chunk bytes = All (λ b. is_code chunk b ≡ false) bytes

take_within : (i j : ℕ) (bytes : List ℕ) → i ≤ length (take j bytes) → take i (take j bytes) ≡ take i bytes
take_within i j bytes in_it =
    sym (take-append-le i (take j bytes) (drop j bytes) in_it) ∙ ap (take i) (take-append-drop j bytes)

-- the first of the first
pub fewer_letters : (chunk : Bool) (end found most : ℕ) (bytes : List ℕ) → end ≤ found
    → found ≤ length (take most bytes) → AreLetters chunk (take found (take most bytes)) → AreLetters chunk (take end bytes)
fewer_letters chunk end found most bytes less within plain =
    subst (AreLetters chunk)
    (take_within end found (take most bytes) (omega (arith, less, within, length-take found (take most bytes)))
    ∙ take_within end most bytes (omega (arith, less, within)))
    (All-take (λ b. is_code chunk b ≡ false) end (take found (take most bytes)) plain)

-- letters that stand in front end before what is the first code, where so many bytes are looked at
pub before_the_code : (chunk : Bool) (found most : ℕ) (typed rest : List ℕ) → AreLetters chunk typed → length typed ≤ most
    → ((b : ℕ) (after_one_more : List ℕ) → drop found (take most (typed ++ rest)) ≡ b ∷ after_one_more → is_code chunk b ≡ true)
    → length typed ≤ found
before_the_code chunk found most [] rest plain few ended = omega arith
before_the_code chunk found zero (b ∷ typed) rest plain few ended = absurd (omega (arith, few))
before_the_code chunk zero (suc m) (b ∷ typed) rest plain few ended =
    let code : is_code chunk b ≡ true = ended b (take m (typed ++ rest)) refl in
    let plainly : is_code chunk b ≡ false = All-head (λ b. is_code chunk b ≡ false) b typed plain in
    let apart : true ≡ false = sym code ∙ plainly in absurd cc
before_the_code chunk (suc n) (suc m) (b ∷ typed) rest plain few ended =
    omega (
      arith,
      before_the_code chunk n m typed rest (All-tail (λ b. is_code chunk b ≡ false) b typed plain) (omega (arith, few)) ended,
    )

-- ---- a letter, and the one after it

same_place : (a : Anchor) → place_lead a a ≡ []
same_place Root = refl
same_place (At name) =
    cond-true (eqb name.site name.site) _ _ (eq-eqb _ _ refl) ∙ cond-true (eqb name.off name.off) _ _ (eq-eqb _ _ refl)

same_typed : (a : Looks) → looks_lead a a ≡ []
same_typed a = cond-true (same_looks a a) _ _ (same_as_itself a)

no_time : (site more : ℕ) → more ≡ 0 → time_lead (Some site) site more ≡ []
no_time site more none =
    cond-true (eqb site site) _ _ (eq-eqb _ _ refl) ∙ cond-true (eqb more 0) _ _ (eq-eqb _ _ none)

-- a letter stands as itself
pub letter_packed : (t : Told) (text : ℕ) (typing : Typing) (b : ℕ) → TypesOn t text typing → is_code t.in_chunk b ≡ false
    → packed_next t (letter typing b) ≡ b ∷ []
letter_packed t text typing b on plain =
    let e : Expected = expected t typing.site in
    let more : ℕ = typing.stamp - (e.stamp + 1) in
    let time : time_lead t.last typing.site more ≡ [] =
    ap (λ (l : Option ℕ). time_lead l typing.site more) on.last ∙ no_time typing.site more (omega (arith, on.stamp)) in
    let looks : looks_lead e.looks typing.looks ≡ [] =
    ap (λ (l : Looks). looks_lead e.looks l) on.looks ∙ same_typed e.looks in
    let place : place_lead e.caret typing.cause ≡ [] =
    ap (λ (a : Anchor). place_lead e.caret a) on.cause ∙ same_place e.caret in
    let bytes : bytes_spelling t.in_chunk (b ∷ []) ≡ b ∷ [] = cond-false (is_code t.in_chunk b) _ _ plain in
    rw (time, looks, place, bytes) refl

-- what is expected then
expected_then : (t : Told) (typing : Typing) (b : ℕ)
    → expected (told_on t (letter typing b)) typing.site ≡ after_one_more (expected t typing.site) (letter typing b)
expected_then t typing b =
    expected_on t (letter typing b) typing.site ∙ cond-true (eqb typing.site typing.site) _ _ (eq-eqb _ _ refl)

pub types_on : (t : Told) (text : ℕ) (typing : Typing) (b : ℕ) → TypesOn t text typing
    → TypesOn (told_on t (letter typing b)) text (after_letter typing)
types_on t text typing b on =
    let e = expected_then t typing b in
    let u : Told = told_on t (letter typing b) in
    record {
      last = refl;
      on_text = on.on_text;
      seq = omega (arith, ap (λ (x : Expected). x.seq) e);
      stamp = omega (arith, ap (λ (x : Expected). x.stamp) e);
      at = omega (arith, on.at, ap (λ (x : Expected). x.len) e);
      cause = sym (ap (λ (x : Expected). x.caret) e
          ∙ ap (λ (n : ℕ). At (record { site = typing.site; off = n })) (last_of typing.at));
      looks = sym (ap (λ (x : Expected). x.looks) e);
    }
  where
    last_of : (n : ℕ) → n + 1 - 1 ≡ n
    last_of n = omega arith

can_be_next : (t : Told) (text : ℕ) (typing : Typing) (b : ℕ) → TypesOn t text typing → HasSpelling (letter typing b)
    → CanBeNext t text (letter typing b)
can_be_next t text typing b on spelled = record {
  next = record { seq = on.seq; begins = on.at; above = omega (arith, on.stamp) };
  spelled = spelled;
  on_text = on.on_text;
}

-- ---- the letters

pub letters_follow : (t : Told) (text : ℕ) (typing : Typing) (bytes : List ℕ) → TypesOn t text typing
    → All HasSpelling (letters typing bytes) → CanFollow t text (letters typing bytes)
letters_follow t text typing [] on spelled = tt
letters_follow t text typing (b ∷ bytes) on spelled = (
  can_be_next t text typing b on (All-head HasSpelling (letter typing b) (letters (after_letter typing) bytes) spelled),
  letters_follow (told_on t (letter typing b)) text (after_letter typing) bytes (types_on t text typing b on)
      (All-tail HasSpelling (letter typing b) (letters (after_letter typing) bytes) spelled),
)

pub letters_packed : (t : Told) (text : ℕ) (typing : Typing) (bytes : List ℕ) → TypesOn t text typing
    → AreLetters t.in_chunk bytes → packed_after t (letters typing bytes) ≡ bytes
letters_packed t text typing [] on plain = refl
letters_packed t text typing (b ∷ bytes) on plain =
    let first = letter_packed t text typing b on (All-head (λ b. is_code t.in_chunk b ≡ false) b bytes plain) in
    let rest =
    letters_packed (told_on t (letter typing b)) text (after_letter typing) bytes (types_on t text typing b on)
    (All-tail (λ b. is_code t.in_chunk b ≡ false) b bytes plain) in
    rw (first, rest) refl

pub typed_next : (t : Told) (text : ℕ) (typing : Typing) (bytes : List ℕ) → TypesOn t text typing → 0 < length bytes
    → length bytes ≤ MAX_INSERT → All HasSpelling (letters typing bytes) → AreLetters t.in_chunk bytes
    → AreTypedNext t text typing bytes
typed_next t text typing bytes on some few spelled plain = record {
  some = some;
  few = few;
  spelled = spelled;
  follow = letters_follow t text typing bytes on spelled;
  packed = letters_packed t text typing bytes on plain;
}

-- ---- letters that stand as their bytes are typed on

pub length_of_letters : (typing : Typing) (bytes : List ℕ) → length (letters typing bytes) ≡ length bytes
length_of_letters typing [] = refl
length_of_letters typing (b ∷ bytes) = omega (arith, length_of_letters (after_letter typing) bytes)

a_byte_each : (t : Told) (ops : List Operation) → length ops ≤ length (packed_after t ops)
a_byte_each t [] = omega arith
a_byte_each t (op ∷ ops) =
    omega (
      arith,
      some_bytes t op,
      a_byte_each (told_on t op) ops,
      length-append (packed_next t op) (packed_after (told_on t op) ops),
    )

-- what a letter's one byte says of it
record IsItself (last : Option ℕ) (e : Expected) (chunk : Bool) (typing : Typing) (b : ℕ) : Type 0 where
  last_is : last ≡ Some typing.site
  none_more : typing.stamp - (e.stamp + 1) ≡ 0
  looks_are : e.looks ≡ typing.looks
  place_is : e.caret ≡ typing.cause
  plain : is_code chunk b ≡ false

timeless : (last : Option ℕ) (site more : ℕ) → length (time_lead last site more) ≡ 0 → (last ≡ Some site) × (more ≡ 0)
timeless None site more none = absurd (omega (arith, none))
timeless (Some last) site more none = by (eqb site last) (eqb more 0) refl refl none
  where
    by : (u v : Bool) → eqb site last ≡ u → eqb more 0 ≡ v
        → length (cond u (cond v [] (2 ∷ sevens more)) (1 ∷ sevens site ++ sevens more)) ≡ 0
        → (Some last ≡ Some site) × (more ≡ 0)
    by true true same is none = (ap (λ (n : ℕ). Some n) (sym (eqb-true site last same)), eqb-true more 0 is)
    by true false same is none = absurd (omega (arith, none))
    by false v same is none = absurd (omega (arith, none))

unlooked : (typed looks : Looks) → length (looks_lead typed looks) ≡ 0 → typed ≡ looks
unlooked typed looks none = by (same_looks typed looks) refl none
  where
    by : (u : Bool) → same_looks typed looks ≡ u → length (cond u [] (3 ∷ looks_spelling looks)) ≡ 0 → typed ≡ looks
    by true same none = (same_looks_decides typed looks).0 same
    by false other none = absurd (omega (arith, none))

unplaced : (caret place : Anchor) → length (place_lead caret place) ≡ 0 → caret ≡ place
unplaced Root Root none = refl
unplaced Root (At name) none = absurd (omega (arith, none))
unplaced (At caret) Root none = absurd (omega (arith, none))
unplaced (At caret) (At name) none = by (eqb name.site caret.site) (eqb name.off caret.off) refl refl none
  where
    by : (u v : Bool) → eqb name.site caret.site ≡ u → eqb name.off caret.off ≡ v
        → length (cond u (cond v [] (4 ∷ step_spelling caret.off name.off)) (5 ∷ sevens name.site ++ sevens name.off)) ≡ 0
        → At caret ≡ At name
    by true true same is none =
        ap (λ (n : ℕ). At (record { site = n; off = caret.off })) (sym (eqb-true name.site caret.site same))
        ∙ ap (λ (n : ℕ). At (record { site = name.site; off = n })) (sym (eqb-true name.off caret.off is))
    by true false same is none = absurd (omega (arith, none))
    by false v same is none = absurd (omega (arith, none))

unescaped : (chunk : Bool) (b : ℕ) → length (bytes_spelling chunk (b ∷ [])) ≤ 1 → is_code chunk b ≡ false
unescaped chunk b few = by (is_code chunk b) few
  where
    by : (u : Bool) → length (cond u (14 ∷ b ∷ []) (b ∷ [])) ≤ 1 → u ≡ false
    by true few = absurd (omega (arith, few))
    by false few = refl

some_letter : (chunk : Bool) (b : ℕ) → 0 < length (bytes_spelling chunk (b ∷ []))
some_letter chunk b = by (is_code chunk b)
  where
    by : (u : Bool) → 0 < length (cond u (14 ∷ b ∷ []) (b ∷ []))
    by true = omega arith
    by false = omega arith

itself : (last : Option ℕ) (e : Expected) (chunk : Bool) (typing : Typing) (b : ℕ)
    → length (time_lead last typing.site (typing.stamp - (e.stamp + 1))
    ++ edit_spelling chunk e (letter typing b).kind) ≡ 1
    → IsItself last e chunk typing b
itself last e chunk typing b one =
    let time = time_lead last typing.site (typing.stamp - (e.stamp + 1)) in
    let looks = looks_lead e.looks typing.looks in
    let place = place_lead e.caret typing.cause in
    let bytes = bytes_spelling chunk (b ∷ []) in
    let sum : length time + (length looks + length place + length bytes) ≡ 1 =
    omega (
      arith,
      one,
      length-append time (looks ++ place ++ bytes),
      length-append (looks ++ place) bytes,
      length-append looks place,
    ) in
    let byte : 0 < length bytes = some_letter chunk b in
    let timely = timeless last typing.site (typing.stamp - (e.stamp + 1)) (omega (arith, sum, byte)) in
    record {
      last_is = timely.0;
      none_more = timely.1;
      looks_are = unlooked e.looks typing.looks (omega (arith, sum, byte));
      place_is = unplaced e.caret typing.cause (omega (arith, sum, byte));
      plain = unescaped chunk b (omega (arith, sum));
    }

-- the site types on, and the first byte is no code
pub typed_on : (t : Told) (text : ℕ) (typing : Typing) (b : ℕ) (bytes : List ℕ) → AreTypedNext t text typing (b ∷ bytes)
    → TypesOn t text typing × (is_code t.in_chunk b ≡ false) × HasSpelling (letter typing b)
typed_on t text typing b bytes are =
    let op : Operation = letter typing b in
    let first = packed_next t op in
    let more = packed_after (told_on t op) (letters (after_letter typing) bytes) in
    let one : length first ≡ 1 =
    omega (
      arith,
      ap length are.packed,
      length-append first more,
      some_bytes t op,
      a_byte_each (told_on t op) (letters (after_letter typing) bytes),
      length_of_letters (after_letter typing) bytes,
    ) in
    let is = itself t.last (expected t typing.site) t.in_chunk typing b one in
    let can : CanBeNext t text op = are.follow.0 in
    let stamp = is.none_more in
    let above = can.next.above in (
      record {
        last = is.last_is;
        on_text = can.on_text;
        seq = can.next.seq;
        stamp = omega (arith, stamp, above);
        at = can.next.begins;
        cause = sym is.place_is;
        looks = sym is.looks_are;
      },
      is.plain,
      can.spelled,
    )

-- none of the letters is a code
pub none_is_code : (t : Told) (text : ℕ) (typing : Typing) (bytes : List ℕ) → AreTypedNext t text typing bytes
    → AreLetters t.in_chunk bytes
none_is_code t text typing [] are = All-nil (λ b. is_code t.in_chunk b ≡ false)
none_is_code t text typing (b ∷ []) are =
    All-cons (λ b. is_code t.in_chunk b ≡ false) b [] (typed_on t text typing b [] are).1
    (All-nil (λ b. is_code t.in_chunk b ≡ false))
none_is_code t text typing (b ∷ c ∷ bytes) are =
    let it = typed_on t text typing b (c ∷ bytes) are in
    let u : Told = told_on t (letter typing b) in
    let more : List ℕ = packed_after u (letters (after_letter typing) (c ∷ bytes)) in
    let parts : b ∷ more ≡ b ∷ c ∷ bytes =
    sym (ap (λ (l : List ℕ). l ++ more) (letter_packed t text typing b it.0 it.1)) ∙ are.packed in
    let rest : AreTypedNext u text (after_letter typing) (c ∷ bytes) = record {
      some = omega arith;
      few = omega (arith, are.few);
      spelled = All-tail HasSpelling (letter typing b) (letters (after_letter typing) (c ∷ bytes)) are.spelled;
      follow = are.follow.1;
      packed = cc;
    } in
    All-cons (λ b. is_code t.in_chunk b ≡ false) b (c ∷ bytes) it.1 (none_is_code u text (after_letter typing) (c ∷ bytes) rest)

-- the bytes begin so
pub record BeginsTyped (t : Told) (text : ℕ) (typing : Typing) (bytes : List ℕ) : Type 0 where
  pub first : ℕ
  pub after : List ℕ
  pub is : bytes ≡ first ∷ after
  pub on : TypesOn t text typing
  pub plain : is_code t.in_chunk first ≡ false
  pub spelled : HasSpelling (letter typing first)

pub begins_typed : (t : Told) (text : ℕ) (typing : Typing) (bytes typed rest : List ℕ) → bytes ≡ typed ++ rest
    → AreTypedNext t text typing typed → BeginsTyped t text typing bytes
begins_typed t text typing bytes [] rest parts are = absurd (omega (arith, are.some))
begins_typed t text typing bytes (b ∷ typed) rest parts are =
    let it = typed_on t text typing b typed are in record {
      first = b;
      after = typed ++ rest;
      is = parts;
      on = it.0;
      plain = it.1;
      spelled = it.2;
    }

-- how this site types on
abbrev typing_of : Told → (text site : ℕ) → Typing
typing_of t text site =
    let e = expected t site in
    record {
      text = text;
      site = site;
      seq = suc e.seq;
      stamp = e.stamp + 1;
      at = e.len;
      cause = e.caret;
      looks = e.looks;
    }

is_typing_of : (t : Told) (text : ℕ) (a : Typing) → TypesOn t text a → a ≡ typing_of t text a.site
is_typing_of t text a on =
    let made : (text seq stamp at : ℕ) → Anchor → Looks → Typing =
    λ text seq stamp at cause looks. record {
      text = text;
      site = a.site;
      seq = seq;
      stamp = stamp;
      at = at;
      cause = cause;
      looks = looks;
    } in
    let e : Expected = expected t a.site in
    ap (λ (n : ℕ). made n a.seq a.stamp a.at a.cause a.looks) on.on_text
    ∙ ap (λ (n : ℕ). made text n a.stamp a.at a.cause a.looks) on.seq
    ∙ ap (λ (n : ℕ). made text (suc e.seq) n a.at a.cause a.looks) on.stamp
    ∙ ap (λ (n : ℕ). made text (suc e.seq) (e.stamp + 1) n a.cause a.looks) on.at
    ∙ ap (λ (x : Anchor). made text (suc e.seq) (e.stamp + 1) e.len x a.looks) on.cause
    ∙ ap (λ (x : Looks). made text (suc e.seq) (e.stamp + 1) e.len e.caret x) on.looks

some_same : (a b : ℕ) → ◌≡◌ {A = Option ℕ} (Some a) (Some b) → a ≡ b
some_same a b e = cc

-- in one way
one_typing : (t : Told) (text : ℕ) (a b : Typing) → TypesOn t text a → TypesOn t text b → a ≡ b
one_typing t text a b of_a of_b =
    is_typing_of t text a of_a
    ∙ ap (λ (n : ℕ). typing_of t text n) (some_same a.site b.site (sym of_a.last ∙ of_b.last))
    ∙ sym (is_typing_of t text b of_b)

-- letters that can come next have room, where those that this site types have
pub typed_in_room : (t : Told) (text room : ℕ) (own typing : Typing) (bytes : List ℕ) → TypesOn t text own
    → ((bytes : List ℕ) → All HasSpelling (letters own bytes) → length bytes ≤ room) → AreTypedNext t text typing bytes
    → length bytes ≤ room
typed_in_room t text room own typing [] on most are = omega arith
typed_in_room t text room own typing (b ∷ bytes) on most are =
    most (b ∷ bytes)
    (subst (λ (x : Typing). All HasSpelling (letters x (b ∷ bytes)))
    (one_typing t text typing own (typed_on t text typing b bytes are).0 on) are.spelled)

-- ---- what the letters tell

module _ {X : Type 0} where
  put_twice : (es : List (ℕ × X)) (k : ℕ) (v w : X)
      → insert_entry nat_eq (insert_entry nat_eq es k v) k w ≡ insert_entry nat_eq es k w
  put_twice [] k v w = cond-true (eqb k k) _ _ (eq-eqb k k refl)
  put_twice (e ∷ es) k v w =
      elim (cases_Bool (eqb k e.0)) [
        | inl here ↦
            ap (λ (l : List (ℕ × X)). insert_entry nat_eq l k w) (cond-true (eqb k e.0) ((e.0, v) ∷ es) _ here)
            ∙ cond-true (eqb k e.0) _ _ here ∙ sym (cond-true (eqb k e.0) _ _ here)
        | inr past ↦
            ap (λ (l : List (ℕ × X)). insert_entry nat_eq l k w) (cond-false (eqb k e.0) _ (e ∷ insert_entry nat_eq es k v) past)
            ∙ cond-false (eqb k e.0) _ _ past ∙ ap (λ (l : List (ℕ × X)). e ∷ l) (put_twice es k v w)
            ∙ sym (cond-false (eqb k e.0) _ _ past)
      ]

noted_twice : (t : Told) (site : ℕ) (v w : Expected) → noted (noted t site v) site w ≡ noted t site w
noted_twice t site v w =
    ap (λ (l : List (ℕ × Expected)). record t { last = Some site; sites = l }) (put_twice t.sites site v w)

-- what is expected of a site that typed, by its last number, its length, its last stamp and its caret
abbrev typed_to : (site : ℕ) (looks : Looks) (seq len stamp off : ℕ) → Expected
typed_to site looks seq len stamp off = record {
  seq = seq;
  len = len;
  stamp = stamp;
  caret = At (record { site = site; off = off });
  looks = looks;
}

same_typed_to : (site : ℕ) (looks : Looks) (a b c d i j k l : ℕ) → a ≡ i → b ≡ j → c ≡ k → d ≡ l
    → typed_to site looks a b c d ≡ typed_to site looks i j k l
same_typed_to site looks a b c d i j k l e f g h = cc

-- what is expected after a letter and so many more, where the file was this long
abbrev pub typed_so_far : Typing → (len more : ℕ) → Expected
typed_so_far typing len more =
    typed_to typing.site typing.looks (typing.seq + more) (len + more + 1) (typing.stamp + more) (typing.at + more)

pub letters_told : (t : Told) (typing : Typing) (b : ℕ) (bytes : List ℕ)
    → told_after t (letters typing (b ∷ bytes))
    ≡ noted t typing.site (typed_so_far typing (expected t typing.site).len (length bytes))
letters_told t typing b [] =
    ap (λ (e : Expected). noted t typing.site e)
    (same_typed_to typing.site typing.looks _ _ _ _ _ _ _ _ (omega arith) (omega arith) (omega arith) (omega arith))
letters_told t typing b (c ∷ bytes) =
    let u : Told = told_on t (letter typing b) in
    let len : (expected u typing.site).len ≡ (expected t typing.site).len + 1 =
    ap (λ (e : Expected). e.len) (expected_then t typing b) in
    letters_told u (after_letter typing) c bytes
    ∙ noted_twice t typing.site (after_one_more (expected t typing.site) (letter typing b))
    (typed_so_far (after_letter typing) (expected u typing.site).len (length bytes))
    ∙ ap (λ (e : Expected). noted t typing.site e)
    (same_typed_to typing.site typing.looks _ _ _ _ _ _ _ _ (omega arith) (omega (arith, len)) (omega arith) (omega arith))

-- the last of them is within the numbers, the stamps and the file
pub record IsLastIn (typing : Typing) (more : ℕ) : Type 0 where
  pub seq : typing.seq + more < 2 ^ 32
  pub stamp : typing.stamp + more ≤ MAX_STAMP
  pub at : typing.at + more < MAX_FILE

pub last_in : (typing : Typing) (b : ℕ) (bytes : List ℕ) → All HasSpelling (letters typing (b ∷ bytes))
    → IsLastIn typing (length bytes)
last_in typing b [] spelled =
    let is : HasSpelling (letter typing b) = All-head HasSpelling (letter typing b) [] spelled in
    record {
      seq = omega (arith, is.seq);
      stamp = omega (arith, is.stamp);
      at = omega (arith, is.kind.in_file);
    }
last_in typing b (c ∷ bytes) spelled =
    let after_one_more = last_in (after_letter typing) c bytes
    (All-tail HasSpelling (letter typing b) (letters (after_letter typing) (c ∷ bytes)) spelled) in
    record { seq = omega (arith, after_one_more.seq); stamp = omega (arith, after_one_more.stamp); at = omega (arith, after_one_more.at) }

-- ---- letters that come next

pub typed_last : (t : Told) (text : ℕ) (typing : Typing) (bytes : List ℕ) → AreTypedNext t text typing bytes
    → IsLastIn typing (length bytes - 1)
typed_last t text typing [] are = absurd (omega (arith, are.some))
typed_last t text typing (b ∷ bytes) are =
    let e : length bytes ≡ length (b ∷ bytes) - 1 = omega arith in
    subst (IsLastIn typing) e (last_in typing b bytes are.spelled)

pub typed_told : (t : Told) (text : ℕ) (typing : Typing) (bytes : List ℕ) → AreTypedNext t text typing bytes
    → told_after t (letters typing bytes)
    ≡ noted t typing.site (typed_so_far typing typing.at (length bytes - 1))
typed_told t text typing [] are = absurd (omega (arith, are.some))
typed_told t text typing (b ∷ bytes) are =
    let first : CanBeNext t text (letter typing b) = are.follow.0 in
    let e : length bytes ≡ length (b ∷ bytes) - 1 = omega arith in
    letters_told t typing b bytes
    ∙ ap (λ (n : ℕ). noted t typing.site (typed_so_far typing n (length bytes))) (sym first.next.begins)
    ∙ ap (λ (n : ℕ). noted t typing.site (typed_so_far typing typing.at n)) e
