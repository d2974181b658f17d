-- A call stands at a position, or none does: both can be told.
use Rattle.std.proofs.Common.{◌≡◌, ℕ, zero, suc, ◌+◌, ◌-◌, ◌<◌, ◌≤◌, Bool, true, false, cond, List, [], ◌∷◌, Option, Some, None, find}
use Rattle.std.proofs.Common.{refl, sym, ap, subst, ◌∙◌, inl, inr, arith, length, nat_eq, take, drop}
use Rattle.std.specs.Prelude.{◌⊎◌, slice_index}
use Rattle.std.specs.Cmp.Lexicographic.{pointwise}
use Rattle.std.proofs.lemmas.Bool.{cases_lt, cases_Bool}
use Rattle.std.proofs.lemmas.Bool.Decides.{Decides-eqb}
use Rattle.std.proofs.lemmas.Option.{none-some, same_Some}
use Rattle.std.proofs.lemmas.Slice.Eq.{slice_eq-Decides}
use Rattle.reader_scanner.specs.Tokens.{is_name_byte}
use Rattle.reader_scanner.proofs.OneToken.{token_there}
use Rattle.command_words.specs.declared.calls.Call.{Call}
use Rattle.command_words.specs.declared.command.Command.{Command}
use Rattle.command_words.specs.declared.command.TheConstants.{COMMANDS}
use Rattle.command_words.specs.Calls.{IsCallAt, IsWordAt, NoCallAt}
use Rattle.command_words.specs.Commands.{name_of}
use Rattle.command_words.proofs.OneCall.{of_word, of_word-name, one_word}
use Rattle.command_words.proofs.Words.{both}

-- where the word begins whose bytes stand directly before a position
record Begun (bytes : List ℕ) (pos : ℕ) : Type 0 where
  beg : ℕ
  from : beg ≤ pos
  each : (k : ℕ) → beg ≤ k → k < pos → is_name_byte (slice_index bytes k) ≡ true
  before : 0 < beg → is_name_byte (slice_index bytes (beg - 1)) ≡ false

begun : (bytes : List ℕ) (pos : ℕ) → Begun bytes pos
begun bytes zero = record {
  beg = 0;
  from = omega arith;
  each = λ k from lt. absurd (omega (arith, lt));
  before = λ some. absurd (omega (arith, some));
}
begun bytes (suc pos) = elim (cases_Bool (is_name_byte (slice_index bytes pos))) [
  | inl here ↦
      let b = begun bytes pos in
      record {
        beg = b.beg;
        from = omega (arith, b.from);
        each = λ k from lt. elim (cases_lt k pos) [
          | inl earlier ↦ b.each k from earlier
          | inr le ↦ let same : pos ≡ k = omega (arith, lt, le) in
              subst (λ (x : ℕ). is_name_byte (slice_index bytes x) ≡ true) same here
        ];
        before = b.before;
      }
  | inr not_here ↦ record {
    beg = suc pos;
    from = omega arith;
    each = λ k from lt. absurd (omega (arith, from, lt));
    before = λ some.
        let same : pos ≡ suc pos - 1 = omega arith in
        subst (λ (x : ℕ). is_name_byte (slice_index bytes x) ≡ false) same not_here;
  }
]

-- where the word ends whose bytes stand directly after a position
record Ended (bytes : List ℕ) (pos : ℕ) : Type 0 where
  end : ℕ
  to : pos ≤ end
  within : end ≤ length bytes
  each : (k : ℕ) → pos ≤ k → k < end → is_name_byte (slice_index bytes k) ≡ true
  after : end < length bytes → is_name_byte (slice_index bytes end) ≡ false

ended : (bytes : List ℕ) (n pos : ℕ) → pos + n ≡ length bytes → Ended bytes pos
ended bytes zero pos all = record {
  end = pos;
  to = omega arith;
  within = omega (arith, all);
  each = λ k from lt. absurd (omega (arith, from, lt));
  after = λ inside. absurd (omega (arith, all, inside));
}
ended bytes (suc n) pos all = elim (cases_Bool (is_name_byte (slice_index bytes pos))) [
  | inl here ↦
      let e = ended bytes n (suc pos) (omega (arith, all)) in
      record {
        end = e.end;
        to = omega (arith, e.to);
        within = e.within;
        each = λ k from lt. elim (cases_lt pos k) [
          | inl past ↦ e.each k (omega (arith, past)) lt
          | inr le ↦ let same : pos ≡ k = omega (arith, from, le) in
              subst (λ (x : ℕ). is_name_byte (slice_index bytes x) ≡ true) same here
        ];
        after = e.after;
      }
  | inr not_here ↦ record {
    end = pos;
    to = omega arith;
    within = omega (arith, all);
    each = λ k from lt. absurd (omega (arith, from, lt));
    after = λ inside. not_here;
  }
]

-- a word contains a position, or none does
word_or_none : (bytes : List ℕ) (pos : ℕ) → ((b e : ℕ) → IsWordAt bytes pos b e → ⊥)
    ⊎ ((b e : ℕ) × IsWordAt bytes pos b e)
word_or_none bytes pos = elim (cases_lt pos (length bytes)) [
  | inl inside ↦ elim (cases_Bool (is_name_byte (slice_index bytes pos))) [
    | inl here ↦
        let b = begun bytes pos in
        let e = ended bytes (length bytes - suc pos) (suc pos) (omega (arith, inside)) in
        inr (
          b.beg,
          e.end,
          record {
            from = b.from;
            to = omega (arith, e.to);
            within = e.within;
            each = λ k from lt. elim (cases_lt k pos) [
              | inl earlier ↦ b.each k from earlier
              | inr le ↦ elim (cases_lt pos k) [
                | inl past ↦ e.each k (omega (arith, past)) lt
                | inr ge ↦ let same : pos ≡ k = omega (arith, le, ge) in
                    subst (λ (x : ℕ). is_name_byte (slice_index bytes x) ≡ true) same here
              ]
            ];
            before = b.before;
            after = e.after;
          },
        )
    | inr not_here ↦ inl (λ b e word. both (slice_index bytes pos) (word.each pos word.from word.to) not_here)
  ]
  | inr past ↦ inl (λ b e word. absurd (omega (arith, past, word.to, word.within)))
]

-- a command of which this is the word, or none
word_of : (word : List ℕ) (cs : List Command) (c : Command) → find (λ c. pointwise nat_eq (name_of c) word) cs ≡ Some c
    → name_of c ≡ word
word_of word [] c is = absurd (none-some c is)
word_of word (d ∷ cs) c is = by (pointwise nat_eq (name_of d) word) refl (word_of word cs c) is
  where
    by : (b : Bool) → pointwise nat_eq (name_of d) word ≡ b
        → (find (λ c. pointwise nat_eq (name_of c) word) cs ≡ Some c → name_of c ≡ word)
        → cond b (Some d) (find (λ c. pointwise nat_eq (name_of c) word) cs) ≡ Some c → name_of c ≡ word
    by true same rest is =
        let here : name_of d ≡ word = (slice_eq-Decides Decides-eqb (name_of d) word true (sym same)).0 refl in
        subst (λ (x : Command). name_of x ≡ word) (same_Some d c is) here
    by false differ rest is = rest is

-- a call stands at a position, or none does
pub call_or_none : (bytes : List ℕ) (pos : ℕ) → NoCallAt bytes pos ⊎ ((call : Call) × IsCallAt bytes pos call)
call_or_none bytes pos = by (word_or_none bytes pos)
  where
    named : (b e : ℕ) → IsWordAt bytes pos b e → (o : Option Command) → of_word (take (e - b) (drop b bytes)) ≡ o
        → NoCallAt bytes pos ⊎ ((call : Call) × IsCallAt bytes pos call)
    named b e word None none = inl (λ call is.
        let same = one_word bytes pos is.beg is.end b e is.word word in
        let begins : ℕ → Type 0 = λ x. take (is.end - x) (drop x bytes) ≡ name_of call.command in
        let ends : ℕ → Type 0 = λ y. take (y - b) (drop b bytes) ≡ name_of call.command in
        let name : take (e - b) (drop b bytes) ≡ name_of call.command = subst ends same.1 (subst begins same.0 is.named) in
        none-some call.command (sym none ∙ ap of_word name ∙ of_word-name call.command))
    named b e word (Some c) told =
        let there = token_there bytes e in
        inr (
          record { command = c; token = there.0 },
          record {
            beg = b;
            end = e;
            word = word;
            named = sym (word_of (take (e - b) (drop b bytes)) COMMANDS c told);
            token = there.1;
          },
        )

    by : ((b e : ℕ) → IsWordAt bytes pos b e → ⊥) ⊎ ((b e : ℕ) × IsWordAt bytes pos b e)
        → NoCallAt bytes pos ⊎ ((call : Call) × IsCallAt bytes pos call)
    by (inl none) = inl (λ call is. none is.beg is.end is.word)
    by (inr (b, e, word)) = named b e word (of_word (take (e - b) (drop b bytes))) refl
