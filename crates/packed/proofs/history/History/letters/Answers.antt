use Rattle.std.proofs.Common.{◌≡◌, ℕ, ◌<◌, ◌≤◌, min, Bool, true, List, ◌∷◌, ◌++◌, All, drop, take, length, length-append, length-take, refl, ap, subst, sym, ◌∙◌, arith}
use Rattle.std.proofs.lemmas.List.{take-append-drop}
use Rattle.byte_fields.proofs.Readers.{front_bytes}
use Rattle.operations.specs.declared.kind.TheConstants.{MAX_INSERT}
use Rattle.operations.specs.declared.typing.Typing.{Typing}
use Rattle.packed.specs.Letters.{AreTypedNext}
use Rattle.packed.specs.Spelling.{is_code}
use Rattle.packed.specs.Told.{Told}
use Rattle.packed.proofs.Letters.{AreLetters, before_the_code, begins_typed, fewer_letters, none_is_code, typed_in_room, typed_next}
use Rattle.packed.proofs.history.History.letters.Goals as goal

-- no letters that can come next are more than those that were found
found_all : (chunk : Bool) (t : Told) (text n found : ℕ) (typing : Typing) (bytes typed rest : List ℕ)
    → chunk ≡ t.in_chunk → n ≡ min (length bytes) MAX_INSERT
    → ((b : ℕ) (after : List ℕ) → drop found (take n bytes) ≡ b ∷ after → is_code chunk b ≡ true)
    → bytes ≡ typed ++ rest → AreTypedNext t text typing typed → length typed ≤ found
found_all chunk t text n found typing bytes typed rest same most ended parts are =
    before_the_code chunk found n typed rest
    (subst (λ (u : Bool). AreLetters u typed) (sym same) (none_is_code t text typing typed are))
    (omega (arith, most, are.few, ap length parts, length-append typed rest))
    (λ b after is. ended b after (ap (λ (l : List ℕ). drop found (take n l)) parts ∙ is))

pub returns-then-found-eq0-clause-none : goal.returns-then-found-eq0-clause-none
returns-then-found-eq0-clause-none c = λ typing typed rest parts are.
    let chunk : c.self.inside.in_chunk ≡ c.args.self.now.in_chunk = ap (λ (t : Told). t.in_chunk) c.self.view_is in
    let few = found_all c.self.inside.in_chunk c.args.self.now c.args.text c.min.result c.letters_len-found.result typing
    c.args.bytes.now typed rest chunk c.min.ensures c.letters_len-found.ensures.ended parts are in
    absurd (omega (arith, are.some, few, c.if-found-eq0.true))

pub returns-in_default-clause-none : goal.returns-in_default-clause-none
returns-in_default-clause-none c = λ typing typed rest parts are.
    let it = begins_typed c.args.self.now c.args.text typing c.args.bytes.now typed rest parts are in
    c.in_default.ensures.none typing it.first it.on it.spelled

pub returns-then-end-eq0-clause-none : goal.returns-then-end-eq0-clause-none
returns-then-end-eq0-clause-none c = λ typing typed rest parts are.
    let few = typed_in_room c.args.self.now c.args.text c.room.result c.in-Some.typing typing typed c.in-Some.ensures.some
    c.room.ensures.most are in
    absurd (omega (arith, are.some, few, c.min-end.ensures, c.if-end-eq0.true, c.if-found-eq0.false))

pub returns-clause-all : goal.returns-clause-all
returns-clause-all c = λ typing typed rest parts are.
    let bytes = c.args.bytes.now in
    let end = c.min-end.result in
    let chunk : c.self.inside.in_chunk ≡ c.args.self.now.in_chunk = ap (λ (t : Told). t.in_chunk) c.self.view_is in
    let found = found_all c.self.inside.in_chunk c.args.self.now c.args.text c.min.result c.letters_len-found.result typing
    bytes typed rest chunk c.min.ensures c.letters_len-found.ensures.ended parts are in
    let room = typed_in_room c.args.self.now c.args.text c.room.result c.in-Some.typing typing typed c.in-Some.ensures.some
    c.room.ensures.most are in
    omega (
      arith,
      found,
      room,
      c.min-end.ensures,
      ap length c.split_at.ensures.front,
      length-take end bytes,
      c.letters_len-found.ensures.within,
      length-take c.min.result bytes,
    )

pub returns-clause-some : goal.returns-clause-some
returns-clause-some c =
    let bytes = c.args.bytes.now in
    let end = c.min-end.result in
    let front = c.split_at.ensures.front in
    let less : end ≤ c.letters_len-found.result = omega (arith, c.min-end.ensures) in
    let plain : AreLetters c.self.inside.in_chunk (take end bytes) =
    fewer_letters c.self.inside.in_chunk end c.letters_len-found.result c.min.result bytes less
    c.letters_len-found.ensures.within c.letters_len-found.ensures.letters in
    let chunk : c.self.inside.in_chunk ≡ c.args.self.now.in_chunk = ap (λ (t : Told). t.in_chunk) c.self.view_is in
    let long : length (take end bytes) ≡ end = omega (
      arith,
      length-take end bytes,
      less,
      c.letters_len-found.ensures.within,
      length-take c.min.result bytes,
    ) in
    let valid : All (λ b. b < 256) (take end bytes) =
    front_bytes (take end bytes) (drop end bytes) bytes (sym (take-append-drop end bytes)) (λ i. omega (arith, c.type_inv.bytes i)) in (
      sym (take-append-drop end bytes) ∙ rw (c.split_at.ensures.front, c.split_at.ensures.back) refl,
      subst (AreTypedNext c.args.self.now c.args.text c.in-Some.typing) (sym front)
          (typed_next c.args.self.now c.args.text c.in-Some.typing (take end bytes) c.in-Some.ensures.some
          (omega (arith, long, c.if-end-eq0.false)) (omega (arith, long, less, c.letters_len-found.ensures.within, length-take c.min.result bytes, c.min.ensures))
          (c.room.ensures.some (take end bytes) (omega (arith, long, c.min-end.ensures)) valid)
          (subst (λ (u : Bool). AreLetters u (take end bytes)) chunk plain)),
    )
