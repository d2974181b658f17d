-- What was added to a body is read from its bytes.
use Rattle.std.proofs.Common.{◌≡◌, ℕ, suc, ◌+◌, ◌^◌, ◌<◌, ◌≤◌, true, List, [], ◌∷◌, ◌++◌, length, map, All, Option, Some, None, refl, sym, ap, subst, ◌∙◌, arith}
use Rattle.std.specs.Prelude.{option_map, slice_get}
use Rattle.std.specs.Int.{w16}
use Rattle.std.specs.List.{flat_map}
use Rattle.std.proofs.lemmas.Bool.{cond-true, eq-eqb, ne_eqb, le-ltb, lt-leb}
use Rattle.std.proofs.lemmas.List.{append-nil, append_assoc, length-map}
use Rattle.byte_fields.specs.Fields.{number_spelling}
use Rattle.byte_fields.proofs.Readers.{number_reads, stretch_reads, wide16}
use Rattle.operations.specs.Operation.{Operation}
use Rattle.chunks.specs.Chunks.{CanAllCome, CanCome, IsChunkOf, Placed, chunks_on, fits, operations_of}
use Rattle.chunks.specs.Laws.{AreChunksOf}
use Rattle.chunks.specs.Parts.{placed}
use Rattle.chunks.proofs.Divided.{chunks_tell}
use Rattle.note_laws.specs.Note.{Saying}
use Rattle.note_entries.specs.Bytes.{IsHash, hash_bytes}
use Rattle.note_hashes.specs.Hashes.{said_by}
use Rattle.note_bodies.specs.Bodies.{AreMessagesOf, AreOfHead, AreSaidInTurn, CanHaveMessages, is_of_head, on_at, on_here, ons_after, ons_at, said_in_turn}
use Rattle.note_bodies.specs.Writing.{AreAddedInTurn, Begun, CanBeAdded, added_on, body_spelling, nothing_said, on_spelling, said_on}
use Rattle.note_bodies.specs.declared.messages.Head.{Head}
use Rattle.note_bodies.specs.declared.ons.On.{On}

-- ---- what messages build on

-- of messages that say this, from this index on
abbrev ons_from : ℕ → List (Option ℕ) → List On
ons_from index [] = []
ons_from index (None ∷ ons) = ons_from (index + 1) ons
ons_from index (Some hash ∷ ons) = record { index = index; hash = hash } ∷ ons_from (index + 1) ons

-- of these messages
abbrev ons_of : ℕ → List Saying → List On
ons_of index said = ons_from index (map (λ s. s.on) said)

one_from : (index : ℕ) (on : Option ℕ) (ons : List (Option ℕ))
    → said_on index on ++ ons_from (index + 1) ons ≡ ons_from index (on ∷ ons)
one_from index None ons = refl
one_from index (Some hash) ons = refl

-- they are no more than the messages
few_from : (index : ℕ) (ons : List (Option ℕ)) → length (ons_from index ons) ≤ length ons
few_from index [] = omega arith
few_from index (None ∷ ons) = omega (arith, few_from (index + 1) ons)
few_from index (Some hash ∷ ons) = omega (arith, few_from (index + 1) ons)

-- a message before them builds on nothing
none_here : (index from : ℕ) (ons : List (Option ℕ)) → index < from
    → (on_here (ons_from from ons) index ≡ None) × (ons_after (ons_from from ons) index ≡ ons_from from ons)
none_here index from [] before = (refl, refl)
none_here index from (None ∷ ons) before = none_here index (from + 1) ons (omega (arith, before))
none_here index from (Some hash ∷ ons) before =
    let other = ne_eqb from index (λ same. absurd (omega (arith, before, same))) in (rw other refl, rw other refl)

-- the first of them builds on what it says
first_here : (index : ℕ) (on : Option ℕ) (ons : List (Option ℕ))
    → (on_here (ons_from index (on ∷ ons)) index ≡ on)
    × (ons_after (ons_from index (on ∷ ons)) index ≡ ons_from (index + 1) ons)
first_here index None ons = none_here index (index + 1) ons (omega arith)
first_here index (Some hash) ons =
    let same = eq-eqb index index refl in (rw same refl, rw same refl)

-- ---- they are read

on_read : (least bound : ℕ) (on : On) (rest : List ℕ) → least ≤ on.index → on.index < bound → bound < 2 ^ 16 → IsHash on.hash
    → on_at least bound (on_spelling on ++ rest) ≡ Some (on, rest)
on_read least bound on rest from below fits is =
    let split : on_spelling on ++ rest ≡ number_spelling w16 on.index ++ (hash_bytes on.hash ++ rest) =
    append_assoc (number_spelling w16 on.index) (hash_bytes on.hash) rest in
    let small : on.index < 2 ^ 16 = omega (arith, below, fits) in
    rw (
      split,
      (number_reads w16 (2 ^ 16) wide16).again on.index (hash_bytes on.hash ++ rest) small,
      (stretch_reads 32).again (hash_bytes on.hash) rest refl,
      le-ltb _ _ from,
      lt-leb _ _ below,
      is,
    ) refl

ons_read : (least bound index : ℕ) (ons : List (Option ℕ)) (rest : List ℕ) → least ≤ index → index + length ons ≤ bound
    → bound < 2 ^ 16 → All (λ on. IsHash on.hash) (ons_from index ons)
    → ons_at (length (ons_from index ons)) least bound (flat_map on_spelling (ons_from index ons) ++ rest)
    ≡ Some (ons_from index ons, rest)
ons_read least bound index [] rest from within fits are = refl
ons_read least bound index (None ∷ ons) rest from within fits are =
    ons_read least bound (index + 1) ons rest (omega (arith, from)) (omega (arith, within)) fits are
ons_read least bound index (Some hash ∷ ons) rest from within fits are =
    let on : On = record { index = index; hash = hash } in
    let more : List On = ons_from (index + 1) ons in
    rw (
      append_assoc (on_spelling on) (flat_map on_spelling more) rest,
      on_read least bound on (flat_map on_spelling more ++ rest) from (omega (arith, within)) fits (are 0 on (omega arith)),
      ons_read (index + 1) bound (index + 1) ons rest (omega arith) (omega (arith, within)) fits
          (λ k d lt. are (suc k) d (omega (arith, lt))),
    ) refl

-- ---- and so are the messages

said_again : (key : List ℕ) (head : Head) (index before : ℕ) (said : List Saying) → AreSaidInTurn key head.author before said
    → ((n : ℕ) (s : Saying) → slice_get said n ≡ Some s → is_of_head head (index + n) s.op ≡ true)
    → said_in_turn key head (ons_of index said) index before (map (λ s. s.op) said) ≡ Some said
said_again key head index before [] in_turn numbered = refl
said_again key head index before (s ∷ said) in_turn numbered =
    let ons : List On = ons_of index (s ∷ said) in
    let left : List On = ons_of (index + 1) said in
    let ops : List Operation = map (λ x. x.op) said in
    let here : index + 0 ≡ index = omega arith in
    let is : is_of_head head index s.op ≡ true = subst (λ (n : ℕ). is_of_head head n s.op ≡ true) here (numbered 0 s refl) in
    let (on, after) = first_here index s.on (map (λ x. x.on) said) in
    let rest : said_in_turn key head left (index + 1) s.hash ops ≡ Some said =
    said_again key head (index + 1) s.hash said in_turn.1 (λ n x at.
    let more : index + suc n ≡ index + 1 + n = omega arith in
    subst (λ (k : ℕ). is_of_head head k x.op ≡ true) more (numbered (suc n) x at)) in
    let say : Saying → List On → Option (List Saying) = λ x l.
    option_map (λ (more : List Saying). x ∷ more) (said_in_turn key head l (index + 1) x.hash ops) in
    cond-true (is_of_head head index s.op) _ _ is
    ∙ ap (λ (o : Option ℕ). say (said_by key head.author before s.op o) (ons_after ons index)) on
    ∙ ap (say (said_by key head.author before s.op s.on)) after
    ∙ ap (λ (x : Saying). say x left) (sym in_turn.0)
    ∙ ap (option_map (λ (more : List Saying). s ∷ more)) rest

-- ---- a body that messages were added to

module _ (text : ℕ) (len : Operation → ℕ) where
  -- their operations, with the lengths of the sites' files
  abbrev places : List Saying → List Placed
  places said = map (λ s. placed s.op (len s.op)) said

  operations_are : (said : List Saying) → operations_of (places said) ≡ map (λ s. s.op) said
  operations_are [] = refl
  operations_are (s ∷ said) = ap (λ (l : List Operation). s.op ∷ l) (operations_are said)

  -- it has what they build on
  ons_are : (old : Begun) (said : List Saying) (new : Begun) → AreAddedInTurn text len old said new
      → new.ons ≡ old.ons ++ ons_of old.count said
  ons_are old [] new same = ap (λ (w : Begun). w.ons) same ∙ sym (append-nil old.ons)
  ons_are old (s ∷ said) new (can, come, rest) =
      ons_are (added_on old (placed s.op (len s.op)) s.on) said new rest
      ∙ append_assoc old.ons (said_on old.count s.on) (ons_of (old.count + 1) said)
      ∙ ap (λ (l : List On). old.ons ++ l) (one_from old.count s.on (map (λ x. x.on) said))

  -- it has no more than can be counted
  few_are : (old : Begun) (said : List Saying) (new : Begun) → AreAddedInTurn text len old said new → old.count < 2 ^ 16
      → old.count + length said < 2 ^ 16
  few_are old [] new same fits = omega (arith, fits)
  few_are old (s ∷ said) new (can, come, rest) fits =
      let room = can.room.0 in
      let more = few_are (added_on old (placed s.op (len s.op)) s.on) said new rest (omega (arith, room)) in omega (arith, more)

  -- its chunk has their operations
  all_come : (old : Begun) (said : List Saying) (new : Begun) → AreAddedInTurn text len old said new
      → CanAllCome old.chunk.told text (places said)
  all_come old [] new same = tt
  all_come old (s ∷ said) new (can, come, rest) =
      (come, all_come (added_on old (placed s.op (len s.op)) s.on) said new rest)

  one_chunk : (old : Begun) (said : List Saying) (new : Begun) → AreAddedInTurn text len old said new
      → chunks_on text old.chunk (places said) ≡ new.chunk.bytes ∷ []
  one_chunk old [] new same = ap (λ (w : Begun). w.chunk.bytes ∷ []) (sym same)
  one_chunk old (s ∷ said) new (can, come, rest) =
      let p : Placed = placed s.op (len s.op) in
      cond-true (fits old.chunk p) _ _ can.fits ∙ one_chunk (added_on old p s.on) said new rest

  of_one : (ps : List Placed) (bytes : List ℕ) → AreChunksOf text ps (bytes ∷ []) → IsChunkOf text ps bytes
  of_one ps bytes (part, rest, split, is, none) =
      let whole : ps ≡ part = split ∙ ap (λ (l : List Placed). part ++ l) none ∙ append-nil part in
      subst (λ (l : List Placed). IsChunkOf text l bytes) (sym whole) is

  chunk_is : (said : List Saying) (new : Begun) → AreAddedInTurn text len (nothing_said text) said new → 0 < length said
      → IsChunkOf text (places said) new.chunk.bytes
  chunk_is [] new same some = absurd (omega (arith, some))
  chunk_is (s ∷ said) new (can, come, rest) some =
      let p : Placed = placed s.op (len s.op) in
      of_one (places (s ∷ said)) new.chunk.bytes
      (subst (AreChunksOf text (places (s ∷ said))) (one_chunk (added_on (nothing_said text) p s.on) said new rest)
      (chunks_tell text (places (s ∷ said)) (all_come (nothing_said text) (s ∷ said) new (can, come, rest))))

-- with one message more
pub one_added : (text : ℕ) (len : Operation → ℕ) (old : Begun) (said : List Saying) (w new : Begun) (s : Saying)
    → AreAddedInTurn text len old said w → CanBeAdded w (placed s.op (len s.op)) s.on
    → CanCome w.chunk.told text (placed s.op (len s.op)) → new ≡ added_on w (placed s.op (len s.op)) s.on
    → AreAddedInTurn text len old (said ++ s ∷ []) new
one_added text len old [] w new s same can come is =
    let p : Placed = placed s.op (len s.op) in (
      subst (λ (b : Begun). CanBeAdded b p s.on) same can,
      subst (λ (b : Begun). CanCome b.chunk.told text p) same come,
      is ∙ ap (λ (b : Begun). added_on b p s.on) same,
    )
one_added text len old (x ∷ said) w new s (first, comes, rest) can come is =
    (first, comes, one_added text len (added_on old (placed x.op (len x.op)) x.on) said w new s rest can come is)

-- it is read as those messages
pub messages_read : (key : List ℕ) (head : Head) (len : Operation → ℕ) (said : List Saying) (w : Begun)
    → All (λ on. IsHash on.hash) w.ons → CanHaveMessages head → AreOfHead key head said
    → AreAddedInTurn head.text len (nothing_said head.text) said w
    → AreMessagesOf key head (body_spelling w.ons w.chunk.bytes) said
messages_read key head len said w hashes can are added =
    let ons : List On = ons_of 0 said in
    let ons_is : w.ons ≡ ons = ons_are head.text len (nothing_said head.text) said w added in
    let few : length said < 2 ^ 16 =
    let all = few_are head.text len (nothing_said head.text) said w added (omega arith) in omega (arith, all) in
    let some : 0 < length said = let there = can.some in let many = are.many in omega (arith, there, many) in
    let many_on : length (map (λ (s : Saying). s.on) said) ≡ length said = length-map said (λ (s : Saying). s.on) in
    let ons_few : length ons < 2 ^ 16 = omega (arith, few_from 0 (map (λ (s : Saying). s.on) said), many_on, few) in
    subst (λ (l : List On). AreMessagesOf key head (body_spelling l w.chunk.bytes) said) (sym ons_is)
    (record {
      place = can;
      count = length ons;
      bytes = flat_map on_spelling ons ++ w.chunk.bytes;
      counted = rw (append_assoc (number_spelling w16 (length ons)) (flat_map on_spelling ons) w.chunk.bytes)
          ((number_reads w16 (2 ^ 16) wide16).again (length ons) (flat_map on_spelling ons ++ w.chunk.bytes) ons_few);
      ons = ons;
      chunk = w.chunk.bytes;
      build = ons_read 0 head.count 0 (map (λ s. s.on) said) w.chunk.bytes (omega arith)
          (let many = are.many in omega (arith, many, many_on)) (let many = are.many in omega (arith, many, few))
          (subst (λ (l : List On). All (λ on. IsHash on.hash) l) ons_is hashes);
      ps = places head.text len said;
      read = chunk_is head.text len said w added some;
      many = ap length (operations_are head.text len said) ∙ length-map said (λ (s : Saying). s.op) ∙ are.many;
      said = rw (operations_are head.text len said) (said_again key head 0 head.before said are.in_turn (λ n s at.
          let none : 0 + n ≡ n = omega arith in
          subst (λ (k : ℕ). is_of_head head k s.op ≡ true) (sym none) (are.numbered n s at)));
    })
