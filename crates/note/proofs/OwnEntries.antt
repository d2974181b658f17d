-- How a site's own messages are put into entries, one after the other.
use Rattle.std.proofs.Common.{◌≡◌, ◌≢◌, ◌⊎◌, ℕ, zero, suc, ◌+◌, ◌-◌, ◌^◌, ◌<◌, ◌≤◌, inl, inr, min, true, false, List, [], ◌∷◌, ◌++◌, length, take, filter, Option, Some, Contains, All, refl, sym, ap, subst, ◌∙◌, arith, length-append}
use Rattle.std.specs.Prelude.{AllPairs, slice_get}
use Rattle.std.proofs.lemmas.Bool.{false≢true}
use Rattle.std.proofs.lemmas.List.{append-nil, append_assoc, length-map, length_push, map-append, take-append-le, take_all}
use Rattle.std.proofs.lemmas.List.Elements.{All-contains}
use Rattle.std.proofs.lemmas.Option.{get_or_from_slice_get, slice_get_within}
use Rattle.std.proofs.Math.Seq.{take-append_seam}
use Rattle.operations.specs.Operation.{Operation}
use Rattle.operations.specs.Spelling.{HasSpelling}
use Rattle.tree_order.specs.Good.{file_before}
use Rattle.set_laws.specs.Fronts.{front_of}
use Rattle.set_laws.proofs.Preceding.{first_part_within}
use Rattle.packed.specs.Laws.{CanFollow, IsHistory}
use Rattle.packed.specs.Told.{Told, expected, has_begun, nothing_begun, nothing_told, told, told_after, told_on}
use Rattle.chunks.specs.Chunks.{CanCome}
use Rattle.chunks.specs.Parts.{LensAreInFiles}
use Rattle.chunks.proofs.Agreeing.{Goes, comes_so}
use Rattle.chunks.proofs.Divided.{one_fits}
use Rattle.chunks.proofs.Opening.{lens_on}
use Rattle.kept_file.proofs.Following.{is_history, is_next, len_before}
use Rattle.texts.specs.Text.{IsText}
use Rattle.note_laws.specs.Note.{Saying}
use Rattle.note_laws.specs.Admission.{BuildsOn}
use Rattle.note_laws.specs.Chains.{operations}
use Rattle.note_hashes.specs.Hashes.{said_by}
use Rattle.note_bodies.specs.Bodies.{AreMessagesOf, AreOfHead, AreSaidInTurn, CanHaveMessages}
use Rattle.note_bodies.specs.Writing.{AreAddedInTurn, Begun, CanBeAdded, nothing_said}
use Rattle.note_bodies.proofs.ReadBack.{one_added}
use Rattle.note_admission.specs.Continuing.{AreMentionedIn}
use Rattle.note_admission.specs.Kept.{Offsets}
use Rattle.note_admission.proofs.Between.{none_between}
use Rattle.note.specs.Texts.{IsFollowing, NoteText}
use Rattle.note.specs.Editing.{AreEntriesOf, IsOwnEntryOf, IsLastOfText, IsOwnEntry, SayAllLeft, is_own_left, last_hash, own_left}
use Rattle.note.specs.Own.{HasNoRoom, HasPut, HaveSaid, IsNextEntry, PutsSaying, len_in, placed_in}
use Rattle.note.specs.declared.own_entry.OwnEntry.{OwnEntry}
use Rattle.note.specs.declared.own_entry.Turn.{Turn}
use Rattle.note.proofs.OwnBodies.{TellsLen, can_come, of_head, own_site, tells_on}
use Rattle.note.proofs.OwnLeft.{filtered_none, filtered_one, next_beyond, none_beyond}

add-zero' : (n : ℕ) → n ≡ n + 0
add-zero' n = omega arith

-- ---- lists with one more

-- what stands in a list with one more
push_at : {A : Type 0} (xs : List A) (y : A) (n : ℕ) (x : A) → slice_get (xs ++ y ∷ []) n ≡ Some x
    → (slice_get xs n ≡ Some x) ⊎ ((n ≡ length xs) × (x ≡ y))
push_at [] y zero x at = inr (refl, cc)
push_at [] y (suc n) x at = absurd cc
push_at (z ∷ xs) y zero x at = inl at
push_at (z ∷ xs) y (suc n) x at = elim (push_at xs y n x at) [
  | inl before ↦ inl before
  | inr last ↦ inr (ap suc last.0, last.1)
]

hash_on : (before : ℕ) (xs ys : List Saying) → last_hash before (xs ++ ys) ≡ last_hash (last_hash before xs) ys
hash_on before [] ys = refl
hash_on before (x ∷ xs) ys = hash_on x.hash xs ys

in_turn_on : (key : List ℕ) (author before : ℕ) (said : List Saying) (s : Saying) → AreSaidInTurn key author before said
    → s ≡ said_by key author (last_hash before said) s.op s.on → AreSaidInTurn key author before (said ++ s ∷ [])
in_turn_on key author before [] s in_turn is = (is, tt)
in_turn_on key author before (x ∷ said) s in_turn is = (in_turn.0, in_turn_on key author x.hash said s in_turn.1 is)

-- ---- the first entry

pub none_said : (key : List ℕ) (author : ℕ) (t : NoteText) (last : ℕ) (turn : Turn) → IsFollowing t
    → front_of t.admission.ops t.replica.site < 2 ^ 32 → turn.place ≡ t.alike
    → turn.seq ≡ min (front_of t.admission.ops t.replica.site + 1) (2 ^ 32 - 1) → turn.before ≡ last → turn.between ≡ []
    → HaveSaid key author t last turn []
none_said key author t last turn is few place seq before between =
    let none : filter (λ op. is_own_left t op) (take t.alike t.replica.operations) ≡ [] =
    ap (filter (λ op. is_own_left t op)) is.same
    ∙ none_beyond t.admission.ops (take t.alike t.admission.ops) t.replica.site (first_part_within t.admission.ops t.alike) in
    record {
      place = let le = is.taken in omega arith;
      are = sym none ∙ ap (λ (n : ℕ). filter (λ op. is_own_left t op) (take n t.replica.operations)) (sym place);
      numbered = λ n s at. absurd cc;
      few = omega arith;
      next = seq ∙ ap (λ (n : ℕ). min (n + 1) (2 ^ 32 - 1)) (add-zero' (front_of t.admission.ops t.replica.site));
      before = before;
      in_turn = tt;
      between = subst (λ (o : Offsets). AreMentionedIn t.replica.site [] o) (sym between) (none_between t.replica.site);
      build = λ note entries admitted digest taken n s at. absurd cc;
    }

-- ---- one operation more

module _ (key : List ℕ) (author : ℕ) (t : NoteText) (last : ℕ) (turn after : Turn) (said : List Saying)
    (have : HaveSaid key author t last turn said) (op : Operation) (at : slice_get t.replica.operations turn.place ≡ Some op)
    (place : after.place ≡ turn.place + 1) where
  moved : (n : ℕ) → after.place ≡ n → filter (λ o. is_own_left t o) (take n t.replica.operations)
      ≡ filter (λ o. is_own_left t o) (take after.place t.replica.operations)
  moved n e = ap (λ (k : ℕ). filter (λ o. is_own_left t o) (take k t.replica.operations)) (sym e)

  within : after.place ≤ length t.replica.operations
  within = let lt = slice_get_within t.replica.operations turn.place op at in omega arith

  -- one that isn't own
  pub passed : is_own_left t op ≡ false → after.seq ≡ turn.seq → after.before ≡ turn.before → after.between ≡ turn.between
      → HaveSaid key author t last after said
  passed other seq before between = record {
    place = within;
    are = have.are ∙ sym (filtered_none t.replica.operations (λ o. is_own_left t o) turn.place op at other)
        ∙ moved (turn.place + 1) place;
    numbered = have.numbered;
    few = have.few;
    next = seq ∙ have.next;
    before = before ∙ have.before;
    in_turn = have.in_turn;
    between = subst (λ (o : Offsets). AreMentionedIn t.replica.site said o) (sym between) have.between;
    build = have.build;
  }

  module _ (is : IsText t.replica) (once : AllPairs (λ a b. a ≢ b) t.replica.operations)
      (spelled : All HasSpelling t.replica.operations) (own : is_own_left t op ≡ true) (new : Turn) (body grown : Begun)
      (puts : PutsSaying key author t op turn new body grown) where
    abbrev pub s : Saying
    s = said_by key author turn.before op puts.on

    held : Contains t.replica.operations op
    held = (
      turn.place,
      slice_get_within t.replica.operations turn.place op at,
      get_or_from_slice_get t.replica.operations turn.place op op at,
    )

    abbrev front : ℕ
    front = front_of t.admission.ops t.replica.site

    many : length said ≡ length (filter (λ o. is_own_left t o) (take turn.place t.replica.operations))
    many = sym (length-map said (λ (x : Saying). x.op)) ∙ ap length have.are

    seq_is : op.seq ≡ front + length said + 1
    seq_is =
        let seq = next_beyond t.replica.operations is.good is.in_order is.identified once t.replica.site
        (front_of t.admission.ops t.replica.site) turn.place op at own in
        omega (arith, many)

    -- one that is, and was put into a body
    pub put : after.seq ≡ new.seq → after.before ≡ new.before → after.between ≡ new.between
        → HaveSaid key author t last after (said ++ s ∷ [])
    put seq before between = record {
      place = within;
      are = map-append (λ (x : Saying). x.op) said (s ∷ [])
          ∙ ap (λ (l : List Operation). l ++ op ∷ []) have.are
          ∙ sym (filtered_one t.replica.operations (λ o. is_own_left t o) turn.place op at own)
          ∙ moved (turn.place + 1) place;
      numbered = λ n x here. elim (push_at said s n x here) [
        | inl earlier ↦ have.numbered n x earlier
        | inr ended ↦
            let (at_end, same) = ended in
            let seqs : x.op.seq ≡ op.seq = ap (λ (y : Saying). y.op.seq) same in
            omega (arith, seq_is)
      ];
      few =
          let small = (All-contains HasSpelling t.replica.operations op spelled held).seq.1 in
          omega (arith, seq_is, length_push said s);
      next = seq ∙ puts.seq ∙ ap (λ (n : ℕ). min n (2 ^ 32 - 1))
          (let more : op.seq + 1 ≡ front_of t.admission.ops t.replica.site + length (said ++ s ∷ []) + 1 =
          omega (arith, seq_is, length_push said s) in more);
      before = before ∙ puts.before ∙ sym (hash_on last said (s ∷ []));
      in_turn = in_turn_on key author last said s have.in_turn
          (ap (λ (b : ℕ). said_by key author b op puts.on) have.before);
      between =
          subst (λ (o : Offsets). AreMentionedIn t.replica.site (said ++ s ∷ []) o) (sym between)
          (subst (λ (site : ℕ). AreMentionedIn site (said ++ s ∷ []) new.between) (own_site t op own)
          (puts.between said s refl (subst (λ (site : ℕ). AreMentionedIn site said turn.between) (sym (own_site t op own)) have.between)));
      build = λ note entries admitted digest taken n x here. elim (push_at said s n x here) [
        | inl earlier ↦
            subst (λ (l : List Saying). BuildsOn note (admitted ++ l) x)
            (sym (take-append-le n said (s ∷ []) (let lt = slice_get_within said n x earlier in omega arith)))
            (have.build note entries admitted digest taken n x earlier)
        | inr ended ↦
            let (at_end, same) = ended in
            subst (λ (k : ℕ). BuildsOn note (admitted ++ take k (said ++ s ∷ [])) x) (sym at_end)
            (subst (λ (l : List Saying). BuildsOn note (admitted ++ l) x) (sym (take-append_seam said (s ∷ [])))
            (subst (λ (y : Saying). BuildsOn note (admitted ++ said) y) (sym same)
            (puts.builds note entries admitted said digest taken
            (subst (λ (site : ℕ). AreMentionedIn site said turn.between) (sym (own_site t op own)) have.between) s refl refl)))
      ];
    }

-- ---- an empty body has room for the next message

lens_after : (t : Told) (text : ℕ) (ops : List Operation) (n : ℕ) → CanFollow t text ops → LensAreInFiles t
    → LensAreInFiles (told_after t (take n ops))
lens_after t text ops zero follow lens = lens
lens_after t text [] (suc n) follow lens = lens
lens_after t text (op ∷ ops) (suc n) follow lens = lens_after (told_on t op) text ops n follow.1 (lens_on t text op follow.0 lens)

module _ (t : NoteText) (is : IsText t.replica) (once : AllPairs (λ a b. a ≢ b) t.replica.operations)
    (spelled : All HasSpelling t.replica.operations) (n : ℕ) (op : Operation) (at : slice_get t.replica.operations n ≡ Some op) where
  held_at : Contains t.replica.operations op
  held_at = (
    n,
    slice_get_within t.replica.operations n op at,
    get_or_from_slice_get t.replica.operations n op op at,
  )

  own_spelling : HasSpelling op
  own_spelling = All-contains HasSpelling t.replica.operations op spelled held_at

  history : IsHistory t.replica.text t.replica.operations
  history = is_history t.replica.text t.replica.operations is.in_order is.identified once spelled is.of_text

  len_is : (expected (told (take n t.replica.operations)) op.site).len ≡ file_before t.replica.operations op.site op.seq
  len_is = len_before t.replica.operations is.in_order is.identified once n op at own_spelling

  goes : Goes (expected (told (take n t.replica.operations)) op.site) t.replica.text (placed_in t op)
  goes =
      let next = is_next t.replica.operations is.in_order is.identified once n op at own_spelling in
      record {
        spelled = own_spelling;
        on_text = All-contains (λ (o : Operation). o.text ≡ t.replica.text) t.replica.operations op is.of_text held_at;
        seq = next.seq;
        begins = next.begins;
        above = next.above;
        len = sym len_is;
        in_file =
            let lens = lens_after nothing_told t.replica.text t.replica.operations n history (λ site. omega arith) op.site in
            omega (arith, len_is, lens);
      }

  can_begin : CanCome nothing_begun t.replica.text (placed_in t op)
  can_begin =
      comes_so nothing_begun t.replica.text (placed_in t op) (expected (told (take n t.replica.operations)) op.site) goes
      (λ h. absurd cc)

  pub has_room : (on : Option ℕ) → CanBeAdded (nothing_said t.replica.text) (placed_in t op) on
  has_room on = record {
    room = (omega arith, inr (omega arith));
    next = can_begin.next.next;
    fits = one_fits t.replica.text (placed_in t op) can_begin;
  }

-- ---- what a body got

-- so many more messages went into a body so far, which was empty
pub record HasPutSoFar (key : List ℕ) (author : ℕ) (t : NoteText) (last : ℕ) (said : List Saying) (turn now : Turn)
    (body : Begun) : Type 0 where
  pub more : List Saying
  pub have : HaveSaid key author t last now (said ++ more)
  pub many : body.count ≡ length more
  pub added : AreAddedInTurn t.replica.text (λ op. len_in t op) (nothing_said t.replica.text) more body
  pub tells : TellsLen t (front_of t.admission.ops t.replica.site + length (said ++ more) + 1) body.chunk.told
  pub on : turn.place + length more ≤ now.place
  pub first : length more ≡ 0 → body ≡ nothing_said t.replica.text

pub nothing_put : (key : List ℕ) (author : ℕ) (t : NoteText) (last : ℕ) (said : List Saying) (turn : Turn) (body : Begun)
    → HaveSaid key author t last turn said → body ≡ nothing_said t.replica.text
    → HasPutSoFar key author t last said turn turn body
nothing_put key author t last said turn body have empty = record {
  more = [];
  have = subst (HaveSaid key author t last turn) (sym (append-nil said)) have;
  many = ap (λ (b : Begun). b.count) empty;
  added = empty;
  tells = λ begun. absurd (false≢true (sym (ap (λ (b : Begun). has_begun b.chunk.told t.replica.site) empty) ∙ begun));
  on = omega arith;
  first = λ none. empty;
}

module _ (key : List ℕ) (author : ℕ) (t : NoteText) (last : ℕ) (said : List Saying) (start turn after : Turn) (body : Begun)
    (so : HasPutSoFar key author t last said start turn body) where
  -- all were passed
  pub all_passed : length t.replica.operations ≤ turn.place → HasPut key author t last said start turn body
  all_passed past = record {
    more = so.more;
    have = so.have;
    many = so.many;
    added = so.added;
    on = so.on;
    none = λ none. past;
  }

  module _ (op : Operation) (at : slice_get t.replica.operations turn.place ≡ Some op) where
    pub passed_on : is_own_left t op ≡ false → after.place ≡ turn.place + 1 → after.seq ≡ turn.seq → after.before ≡ turn.before
        → after.between ≡ turn.between → HasPutSoFar key author t last said start after body
    passed_on other place seq before between = record {
      more = so.more;
      have = passed key author t last turn after (said ++ so.more) so.have op at place other seq before between;
      many = so.many;
      added = so.added;
      tells = so.tells;
      on = let was = so.on in omega arith;
      first = so.first;
    }

    module _ (is : IsText t.replica) (once : AllPairs (λ a b. a ≢ b) t.replica.operations)
        (spelled : All HasSpelling t.replica.operations) where
      pub put_on : is_own_left t op ≡ true → (new : Turn) (grown : Begun) → PutsSaying key author t op turn new body grown
          → after.place ≡ turn.place + 1 → after.seq ≡ new.seq → after.before ≡ new.before → after.between ≡ new.between
          → HasPutSoFar key author t last said start after grown
      put_on own new grown puts place seq before between =
          let one = s key author t last turn after (said ++ so.more) so.have op at place is once spelled own new body grown puts in
          let number : ℕ = front_of t.admission.ops t.replica.site + length (said ++ so.more) + 1 in
          let number_of : op.seq ≡ number =
          seq_is key author t last turn after (said ++ so.more) so.have op at place is once spelled own new body grown puts in
          let goes_on = goes t is once spelled turn.place op at in
          let come = can_come t op number (own_site t op own) number_of body.chunk.told goes_on.spelled goes_on.on_text goes_on.in_file
          so.tells puts.room.next in
          let next : number + 1 ≡ front_of t.admission.ops t.replica.site + length (said ++ (so.more ++ one ∷ [])) + 1 =
          omega (arith, length_push (said ++ so.more) one, ap length (append_assoc said so.more (one ∷ []))) in
          record {
            more = so.more ++ one ∷ [];
            have = subst (HaveSaid key author t last after) (append_assoc said so.more (one ∷ []))
                (put key author t last turn after (said ++ so.more) so.have op at place is once spelled own new body grown puts
                seq before between);
            many = ap (λ (b : Begun). b.count) puts.body_is
                ∙ (let was = so.many in let sum : body.count + 1 ≡ length (so.more ++ one ∷ []) = omega (arith, length_push so.more one) in sum);
            added = one_added t.replica.text (λ o. len_in t o) (nothing_said t.replica.text) so.more body grown one so.added
                puts.room come puts.body_is;
            tells =
                let held = held_at t is once spelled turn.place op at in
                subst (λ (n : ℕ). TellsLen t n grown.chunk.told) next
                (subst (λ (b : Begun). TellsLen t (number + 1) b.chunk.told) (sym puts.body_is)
                (tells_on t op number (own_site t op own) number_of body.chunk.told is.identified held come));
            on = let was = so.on in omega (arith, length_push so.more one);
            first = λ none. absurd (omega (arith, length_push so.more one));
          }

      -- one had no room there
      pub full : (new : Turn) (left : Begun) → HasNoRoom t op turn new body left
          → HasPut key author t last said start new left
      full new left none = record {
        more = so.more;
        have = subst (λ (x : Turn). HaveSaid key author t last x (said ++ so.more)) (sym none.same_turn) so.have;
        many = ap (λ (b : Begun). b.count) none.same_body ∙ so.many;
        added = subst (λ (b : Begun). AreAddedInTurn t.replica.text (λ o. len_in t o) (nothing_said t.replica.text) so.more b)
            (sym none.same_body) so.added;
        on = let was = so.on in let same = ap (λ (x : Turn). x.place) none.same_turn in omega arith;
        none = λ empty. absurd (none.full (subst (λ (b : Begun). CanBeAdded b (placed_in t op) none.on) (sym (so.first empty))
            (has_room t is once spelled turn.place op at none.on)));
      }

-- ---- entries

module _ (key : List ℕ) (author : ℕ) (t : NoteText) where
  -- with an entry more
  entries_more : (seq before : ℕ) (entries : List OwnEntry) (said : List Saying) → AreEntriesOf key author t seq before entries said
      → (entry : OwnEntry) (more : List Saying) → IsOwnEntryOf key author t (seq + length said) (last_hash before said) entry more
      → AreEntriesOf key author t seq before (entries ++ entry ∷ []) (said ++ more)
  entries_more seq before [] said none entry more one =
      let same : seq + length said ≡ seq = let many = ap length none in omega arith in
      let hash : last_hash before said ≡ before = ap (last_hash before) none in (
        more,
        [],
        ap (λ (l : List Saying). l ++ more) none ∙ sym (append-nil more),
        subst (λ (n : ℕ). IsOwnEntryOf key author t n before entry more) same
            (subst (λ (h : ℕ). IsOwnEntryOf key author t (seq + length said) h entry more) hash one),
        refl,
      )
  entries_more seq before (e ∷ entries) said (own, rest, split, is, others) entry more one =
      let many : seq + length said ≡ seq + length own + length rest =
      let parts = ap length split ∙ length-append own rest in omega arith in
      let hash : last_hash before said ≡ last_hash (last_hash before own) rest =
      ap (last_hash before) split ∙ hash_on before own rest in (
        own,
        rest ++ more,
        ap (λ (l : List Saying). l ++ more) split ∙ append_assoc own rest more,
        is,
        entries_more (seq + length own) (last_hash before own) entries rest others entry more
            (subst (λ (n : ℕ). IsOwnEntryOf key author t n (last_hash (last_hash before own) rest) entry more) many
            (subst (λ (h : ℕ). IsOwnEntryOf key author t (seq + length said) h entry more) hash one)),
      )

-- the entry of what was put into a body
pub next_entry : (key : List ℕ) (author : ℕ) (t : NoteText) (last : ℕ) (said : List Saying) (turn new : Turn) (body : Begun)
    (entry : OwnEntry) → HaveSaid key author t last turn said → HasPut key author t last said turn new body
    → IsOwnEntry author t entry → entry.head.first ≡ turn.seq → entry.head.before ≡ turn.before
    → entry.head.count ≡ body.count
    → ((more : List Saying) → CanHaveMessages entry.head → AreOfHead key entry.head more
    → AreAddedInTurn entry.head.text (λ op. len_in t op) (nothing_said entry.head.text) more body
    → AreMessagesOf key entry.head entry.body.items more)
    → IsNextEntry key author t last said turn entry new
next_entry key author t last said turn new body entry was puts own first before count reads =
    let some : 0 < length puts.more = let there = own.some in let many = puts.many in omega arith in
    let few = puts.have.few in
    let next = was.next in
    let at : entry.head.first ≡ front_of t.admission.ops t.replica.site + length said + 1 =
    omega (arith, length-append said puts.more) in
    record {
      more = puts.more;
      have = puts.have;
      made = record {
        own = own;
        first = at;
        after = before ∙ was.before;
        many = count ∙ puts.many;
        says = λ can. reads puts.more can
            (of_head key author t last new said puts.more puts.have entry.head own.author_is own.site_is at (before ∙ was.before)
            (count ∙ puts.many))
            (subst (λ (text : ℕ). AreAddedInTurn text (λ op. len_in t op) (nothing_said text) puts.more body) (sym own.text_is)
            puts.added);
      };
      on = let past = puts.on in omega arith;
    }

-- none is left
pub none_left : (key : List ℕ) (author : ℕ) (t : NoteText) (last : ℕ) (said : List Saying) (turn new : Turn) (body : Begun)
    → HasPut key author t last said turn new body → body.count ≡ 0 → operations said ≡ own_left t
none_left key author t last said turn new body puts none = of_none puts.more puts.have (sym puts.many ∙ none) (puts.none (sym puts.many ∙ none))
  where
    of_none : (more : List Saying) → HaveSaid key author t last new (said ++ more) → length more ≡ 0
        → length t.replica.operations ≤ new.place → operations said ≡ own_left t
    of_none [] have empty past =
        ap operations (sym (append-nil said)) ∙ have.are
        ∙ ap (filter (λ op. is_own_left t op)) (take_all new.place t.replica.operations past)
    of_none (x ∷ more) have empty past = absurd (omega arith)

-- the entries so far say these messages
pub record AreEntriesSoFar (key : List ℕ) (author : ℕ) (t : NoteText) (turn : Turn) (entries : List OwnEntry) : Type 0 where
  pub last : ℕ
  pub counts : IsLastOfText t t.replica.site last
  pub said : List Saying
  pub have : HaveSaid key author t last turn said
  pub parts : AreEntriesOf key author t (front_of t.admission.ops t.replica.site + 1) last entries said

pub entry_made : (key : List ℕ) (author : ℕ) (t : NoteText) (turn new : Turn) (entries : List OwnEntry) (entry : OwnEntry)
    (so : AreEntriesSoFar key author t turn entries) → IsNextEntry key author t so.last so.said turn entry new
    → AreEntriesSoFar key author t new (entries ++ entry ∷ [])
entry_made key author t turn new entries entry so next =
    let front : ℕ = front_of t.admission.ops t.replica.site in
    let same : front + length so.said + 1 ≡ front + 1 + length so.said = omega arith in
    record {
      last = so.last;
      counts = so.counts;
      said = so.said ++ next.more;
      have = next.have;
      parts = entries_more key author t (front + 1) so.last entries so.said so.parts entry next.more
          (subst (λ (n : ℕ). IsOwnEntryOf key author t n (last_hash so.last so.said) entry next.more) same next.made);
    }

pub all_made : (key : List ℕ) (author : ℕ) (t : NoteText) (turn : Turn) (entries : List OwnEntry)
    (so : AreEntriesSoFar key author t turn entries) → operations so.said ≡ own_left t → SayAllLeft key author t entries
all_made key author t turn entries so all = record {
  said = so.said;
  all = all;
  numbered = so.have.numbered;
  last = so.last;
  counts = so.counts;
  in_turn = so.have.in_turn;
  build = so.have.build;
  parts = so.parts;
}
