-- At most one call stands at a position.
use Rattle.std.proofs.Common.{◌≡◌, ℕ, ◌<◌, ◌≤◌, List, Option, Some, find, refl, sym, ap, subst, ◌∙◌, inl, inr, arith}
use Rattle.std.proofs.Common.{unwrap_or, get_or, length, nat_eq, ◌-◌, take, drop}
use Rattle.std.proofs.lemmas.Bool.{cases_lt}
use Rattle.std.specs.Cmp.Lexicographic.{pointwise}
use Rattle.reader_scanner.specs.Tokens.{IsTokenAt}
use Rattle.reader_scanner.specs.declared.token.Token.{Token}
use Rattle.reader_scanner.proofs.OneToken.{lemma_one_token}
use Rattle.command_words.specs.declared.calls.Call.{Call}
use Rattle.command_words.specs.declared.command.Command.{Command}
use Rattle.command_words.specs.declared.command.Command.TheVariants as command
use Rattle.command_words.specs.declared.command.TheConstants.{COMMANDS}
use Rattle.command_words.specs.Calls.{IsCallAt, IsWordAt}
use Rattle.command_words.specs.Commands.{name_of}
use Rattle.command_words.proofs.Words.{both}

-- the first command in the table that has this word
abbrev pub of_word : List ℕ → Option Command
of_word word = find (λ c. pointwise nat_eq (name_of c) word) COMMANDS

pub of_word-name : (c : Command) → of_word (name_of c) ≡ Some c
of_word-name command.SystemOpen = refl
of_word-name command.SystemClose = refl
of_word-name command.EditOpen = refl
of_word-name command.EditLoad = refl
of_word-name command.EditStore = refl
of_word-name command.EditRecall = refl
of_word-name command.EditRestore = refl
of_word-name command.EditChangeFont = refl
of_word-name command.EditChangeColor = refl
of_word-name command.EditChangeOffset = refl
of_word-name command.EditSearch = refl
of_word-name command.ShareForget = refl

pub one_command : (a b : Command) → name_of a ≡ name_of b → a ≡ b
one_command a b same =
    let some : Some a ≡ Some b = sym (of_word-name a) ∙ ap of_word same ∙ of_word-name b in
    ap (λ o. unwrap_or o a) some

-- no word begins before another one at a position
begins_with : (bytes : List ℕ) (pos b e c f : ℕ) → IsWordAt bytes pos b e → IsWordAt bytes pos c f → c ≤ b
begins_with bytes pos b e c f one other =
    let from : c ≤ pos = other.from in
    let to : pos < e = one.to in
    elim (cases_lt b c) [
      | inl lt ↦ absurd (both (get_or bytes (c - 1) 0)
          (one.each (c - 1) (omega (arith, lt)) (omega (arith, lt, from, to)))
          (other.before (omega (arith, lt))))
      | inr le ↦ le
    ]

-- nor ends after it
ends_with : (bytes : List ℕ) (pos b e c f : ℕ) → IsWordAt bytes pos b e → IsWordAt bytes pos c f → e ≤ f
ends_with bytes pos b e c f one other =
    let from : b ≤ pos = one.from in
    let to : pos < f = other.to in
    let within : e ≤ length bytes = one.within in
    elim (cases_lt f e) [
      | inl lt ↦ absurd (both (get_or bytes f 0)
          (one.each f (omega (arith, from, to)) lt)
          (other.after (omega (arith, lt, within))))
      | inr le ↦ le
    ]

pub one_word : (bytes : List ℕ) (pos b e c f : ℕ) → IsWordAt bytes pos b e → IsWordAt bytes pos c f
    → (b ≡ c) × (e ≡ f)
one_word bytes pos b e c f one other = (
  omega (arith, begins_with bytes pos b e c f one other, begins_with bytes pos c f b e other one),
  omega (arith, ends_with bytes pos b e c f one other, ends_with bytes pos c f b e other one),
)

same_call : (a b : Call) → a.command ≡ b.command → a.token ≡ b.token → a ≡ b
same_call a b command token =
    let mid : Call = record { command = b.command; token = a.token } in
    let one : a ≡ mid = ap (λ (c : Command). record { command = c; token = a.token }) command in
    let two : mid ≡ b = ap (λ (t : Token). record { command = b.command; token = t }) token in
    one ∙ two

pub one_call : (bytes : List ℕ) (pos : ℕ) (a b : Call) → IsCallAt bytes pos a → IsCallAt bytes pos b → a ≡ b
one_call bytes pos a b one other =
    let same : (one.beg ≡ other.beg) × (one.end ≡ other.end) =
    one_word bytes pos one.beg one.end other.beg other.end one.word other.word in
    let begun : ℕ → Type 0 = λ x. take (one.end - x) (drop x bytes) ≡ name_of a.command in
    let ended : ℕ → Type 0 = λ y. take (y - other.beg) (drop other.beg bytes) ≡ name_of a.command in
    let word : take (other.end - other.beg) (drop other.beg bytes) ≡ name_of a.command =
    subst ended same.1 (subst begun same.0 one.named) in
    let token : IsTokenAt bytes other.end a.token =
    subst (λ (e : ℕ). IsTokenAt bytes e a.token) same.1 one.token in
    same_call a b (one_command a.command b.command (sym word ∙ other.named))
    (lemma_one_token bytes other.end a.token b.token token other.token)
