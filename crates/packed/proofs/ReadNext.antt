-- The next operation is read as it is written, and no two are written alike.
use Rattle.std.proofs.Common.{◌≡◌, ℕ, ◌+◌, ◌-◌, ◌^◌, ◌<◌, List, ◌++◌, Bool, true, false, Option, Some, None, ◌∷◌, refl}
use Rattle.std.proofs.Common.{sym, ap, subst, ◌∙◌, append_assoc, arith}
use Rattle.byte_fields.proofs.Readers.{IsBytes, bind_some, some_is}
use Rattle.operations.specs.Operation.{Operation}
use Rattle.operations.specs.Spelling.{HasSpelling}
use Rattle.packed.specs.declared.expected.Expected.{Expected}
use Rattle.packed.specs.Told.{Told, expected, IsNext, CaretsAreInFiles}
use Rattle.packed.specs.Spelling.{time_lead, edit_spelling, packed_next}
use Rattle.packed.specs.Reading.{typed_looks_at, place_at, bytes_at, insert_from, here_at, placed_at}
use Rattle.packed.specs.Reading.{time_at, edit_at, Parts, parts_at, next_of_parts, CanBeNext}
use Rattle.packed.proofs.ReadParts.{time_taken, time_again}
use Rattle.packed.proofs.ReadEdits.{edit_taken, edit_again, edit_starts}

-- what was read is the next operation, and is packed so
pub record IsRead (told : Told) (text : ℕ) (bytes : List ℕ) (parts : Parts) (rest : List ℕ) : Type 0 where
  pub packed : bytes ≡ packed_next told (next_of_parts told text parts) ++ rest
  pub next : IsNext told (next_of_parts told text parts)

pub parts_taken : (told : Told) (text : ℕ) (bytes : List ℕ) (parts : Parts) (rest : List ℕ) → CaretsAreInFiles told
    → IsBytes bytes → parts_at told bytes ≡ Some (parts, rest) → IsRead told text bytes parts rest
unfolding parts_at
parts_taken told text bytes parts rest below fits h =
    let s = bind_some (time_at told.last bytes) _ (parts, rest) h in
    let time = time_taken told.last bytes s.0.0 s.0.1 fits s.1 in
    let site : ℕ = s.0.0.0 in
    let e : Expected = expected told site in
    let t = bind_some (edit_at told.in_chunk e s.0.1) _ (parts, rest) s.2 in
    let edit = edit_taken told.in_chunk e s.0.1 t.0.0 t.0.1 (below site) time.rest_fits t.1 in
    let more : e.stamp + 1 + s.0.0.1 - (e.stamp + 1) ≡ s.0.0.1 = omega arith in
    subst (λ (p : Parts × List ℕ). IsRead told text bytes p.0 p.1) (some_is _ _ t.2)
    (record {
      packed = time.parts ∙ ap (λ (r : List ℕ). time_lead told.last site s.0.0.1 ++ r) edit.parts
          ∙ sym (append_assoc (time_lead told.last site s.0.0.1) (edit_spelling told.in_chunk e t.0.0) t.0.1)
          ∙ ap (λ (n : ℕ). (time_lead told.last site n ++ edit_spelling told.in_chunk e t.0.0) ++ t.0.1) (sym more);
      next = record { seq = refl; begins = edit.in_range; above = omega arith };
    })

-- the parts of an operation
pub parts_of : Told → Operation → Parts
parts_of told op = record { site = op.site; more = op.stamp - ((expected told op.site).stamp + 1); kind = op.kind }

pub parts_again : (told : Told) (op : Operation) (rest : List ℕ) → CaretsAreInFiles told → IsNext told op → HasSpelling op
    → parts_at told (packed_next told op ++ rest) ≡ Some (parts_of told op, rest)
unfolding parts_at parts_of
parts_again told op rest below next is =
    let e : Expected = expected told op.site in
    let more : ℕ = op.stamp - (e.stamp + 1) in
    let bound : more < 2 ^ 49 = omega (arith, is.stamp.1) in
    ap (parts_at told) (append_assoc (time_lead told.last op.site more) (edit_spelling told.in_chunk e op.kind) rest)
    ∙ rw (
      time_again told.last op.site more (edit_spelling told.in_chunk e op.kind ++ rest) is.site bound (edit_starts told.in_chunk e op.kind rest),
      edit_again told.in_chunk e op.site op.kind rest (below op.site) is.kind next.begins,
    ) refl

-- the operation of its parts
pub of_its_parts : (told : Told) (op : Operation) → IsNext told op → next_of_parts told op.text (parts_of told op) ≡ op
unfolding parts_of
of_its_parts told op next =
    let e : Expected = expected told op.site in
    let stamp : e.stamp + 1 + (op.stamp - (e.stamp + 1)) ≡ op.stamp = omega (arith, next.above) in
    ap (λ (n : ℕ). record {
      text = op.text;
      site = op.site;
      seq = n;
      stamp = e.stamp + 1 + (op.stamp - (e.stamp + 1));
      kind = op.kind;
    }) (sym next.seq)
    ∙ ap (λ (n : ℕ). record { text = op.text; site = op.site; seq = op.seq; stamp = n; kind = op.kind }) stamp

-- what is packed so is read
pub same_read : (told : Told) (text : ℕ) (bytes : List ℕ) (parts : Parts) (rest : List ℕ) (op : Operation)
    (after : List ℕ) → CaretsAreInFiles told → CanBeNext told text op → bytes ≡ packed_next told op ++ after
    → parts_at told bytes ≡ Some (parts, rest) → (next_of_parts told text parts ≡ op) × (rest ≡ after)
same_read told text bytes parts rest op after below can e h =
    let again = parts_again told op after below can.next can.spelled in
    let both : ◌≡◌ {A = Parts × List ℕ} (parts, rest) (parts_of told op, after) =
    some_is _ _ (sym h ∙ ap (parts_at told) e ∙ again) in (
      ap (λ (p : Parts × List ℕ). next_of_parts told text p.0) both
          ∙ ap (λ (t : ℕ). next_of_parts told t (parts_of told op)) (sym can.on_text) ∙ of_its_parts told op can.next,
      ap (λ (p : Parts × List ℕ). p.1) both,
    )

-- where nothing is read, no operation is packed
pub none_read : (told : Told) (text : ℕ) (bytes : List ℕ) (op : Operation) (rest : List ℕ) → CaretsAreInFiles told
    → CanBeNext told text op → bytes ≡ packed_next told op ++ rest → parts_at told bytes ≡ None → ⊥
none_read told text bytes op rest below can e h =
    let again = parts_again told op rest below can.next can.spelled in
    no_some (sym h ∙ ap (parts_at told) e ∙ again)
  where
    no_some : {A : Type 0} {x : A} → ◌≡◌ {A = Option A} None (Some x) → ⊥
    no_some e = cc

-- in a chunk no operation begins with 15
edit_is_none : (chunk : Bool) (e : Expected) (bytes : List ℕ) → chunk ≡ true → edit_at chunk e (15 ∷ bytes) ≡ None
unfolding edit_at placed_at typed_looks_at place_at here_at insert_from bytes_at
edit_is_none true e bytes in_chunk = refl
edit_is_none false e bytes in_chunk = absurd cc

begin_is_none : (told : Told) (bytes : List ℕ) → told.in_chunk ≡ true → parts_at told (15 ∷ bytes) ≡ None
unfolding parts_at time_at
begin_is_none told bytes in_chunk = by told.last refl
  where
    by : (last : Option ℕ) → told.last ≡ last → parts_at told (15 ∷ bytes) ≡ None
    by None e = rw e refl
    by (Some site) e = rw e (rw (edit_is_none told.in_chunk (expected told site) bytes in_chunk) refl)

pub begins_none : (told : Told) (text : ℕ) (op : Operation) (rest bytes : List ℕ) → CaretsAreInFiles told
    → told.in_chunk ≡ true → CanBeNext told text op → packed_next told op ++ rest ≡ 15 ∷ bytes → ⊥
begins_none told text op rest bytes below in_chunk can e =
    none_read told text (15 ∷ bytes) op rest below can (sym e) (begin_is_none told bytes in_chunk)

-- after one history no operation's bytes begin another's
pub one_packing : (told : Told) (a b : Operation) (x y : List ℕ) → CaretsAreInFiles told → IsNext told a → HasSpelling a
    → IsNext told b → HasSpelling b → a.text ≡ b.text → packed_next told a ++ x ≡ packed_next told b ++ y
    → (a ≡ b) × (x ≡ y)
one_packing told a b x y below a_next a_is b_next b_is text e =
    let read = same_read told a.text (packed_next told a ++ x) (parts_of told a) x b y below
    (record { next = b_next; spelled = b_is; on_text = sym text }) e (parts_again told a x below a_next a_is) in
    (sym (of_its_parts told a a_next) ∙ read.0, read.1)
