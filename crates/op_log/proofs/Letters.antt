-- Letters that a site types one after the other, as they are put at the end of a list.
use Rattle.std.proofs.Common.{◌≡◌, ℕ, zero, suc, ◌+◌, ◌<◌, ◌≤◌, List, [], ◌∷◌, ◌++◌, length, All, refl, sym, ap, subst, ◌∙◌}
use Rattle.std.proofs.Common.{arith, append-nil, append_assoc, add-zero}
use Rattle.std.proofs.lemmas.List.{length-append}
use Rattle.std.proofs.lemmas.List.Elements.{All-head, All-tail}
use Rattle.looks.specs.declared.looks.Looks.{Looks}
use Rattle.char_files.specs.declared.name.Anchor.{Anchor}
use Rattle.char_files.specs.declared.name.Anchor.TheVariants.{At}
use Rattle.operations.specs.Letters.{after_letter, letters}
use Rattle.operations.specs.Letters.{letter as typed_letter}
use Rattle.operations.specs.Operation.{Operation, insert}
use Rattle.operations.specs.Spelling.{HasSpelling}
use Rattle.operations.specs.declared.typing.Typing.{Typing}
use Rattle.op_log.specs.declared.stretch.TypedRun.{TypedRun}
use Rattle.op_log.specs.declared.stretch.Stretch.{Stretch}
use Rattle.op_log.specs.declared.stretch.Stretch.TheVariants.{Typed}
use Rattle.op_log.specs.Stretches.{AreStretches, EndsLast, IsStretchThere, Shared, TypingGoesOn, all_ops, anchor_of, cause_of, letter_of_run, ops_of, shared}
use Rattle.op_log.proofs.Stretches.{Extends, begun_ends, begun_ops, begun_there, is_letter, longer_all, longer_are, pushed_are, pushed_ops}

-- a run of another length
abbrev pub with_len : TypedRun → ℕ → TypedRun
with_len r n = record r { len = n }

-- the next letter is that of the run
pub next_letter : {looks : List Looks} {r : TypedRun} {n : ℕ} {t : Typing} → TypingGoesOn looks r n t → (byte : ℕ)
    → typed_letter t byte ≡ letter_of_run looks r n byte
next_letter {looks} {r} {n} {t} on byte =
    is_letter (typed_letter t byte) looks r n byte on.text on.site on.seq on.stamp
    (ap (λ (a : Anchor). insert a t.at t.looks (byte ∷ [])) on.cause
    ∙ ap (λ (i : ℕ). insert (cause_of r n) i t.looks (byte ∷ [])) on.at
    ∙ ap (λ (l : Looks). insert (cause_of r n) (r.at + n) l (byte ∷ [])) on.own_looks)

-- a name of a site that there is
named : (site off : ℕ) → 0 < site → At (record { site = site; off = off }) ≡ anchor_of site off
named zero off some = absurd (omega (arith, some))
named (suc site) off some = refl

-- after its letter the site types on where the run is one longer
goes_on_more : {looks : List Looks} {r : TypedRun} {n : ℕ} {t : Typing} → TypingGoesOn looks r n t → 0 < t.site
    → TypingGoesOn looks r (suc n) (after_letter t)
goes_on_more {looks} {r} {n} {t} on some = record {
  text = on.text;
  site = on.site;
  seq = omega (arith, on.seq);
  stamp = omega (arith, on.stamp);
  at = omega (arith, on.at);
  cause =
      named t.site t.at some ∙ ap (λ (i : ℕ). anchor_of i t.at) on.site ∙ ap (λ (i : ℕ). anchor_of r.site i) on.at;
  own_looks = on.own_looks;
}

cause_alike : (r : TypedRun) (len n : ℕ) → cause_of r n ≡ cause_of (with_len r len) n
cause_alike r len zero = refl
cause_alike r len (suc n) = refl

-- how many letters the run has doesn't matter
goes_on_alike : {looks : List Looks} {r : TypedRun} {n : ℕ} {t : Typing} → TypingGoesOn looks r n t → (len : ℕ)
    → TypingGoesOn looks (with_len r len) n t
goes_on_alike {looks} {r} {n} {t} on len = record {
  text = on.text;
  site = on.site;
  seq = on.seq;
  stamp = on.stamp;
  at = on.at;
  cause = on.cause ∙ cause_alike r len n;
  own_looks = on.own_looks;
}

-- the stretches with such bytes and such a last run have these operations more
pub record Grown (s : Shared) (ops : List Operation) (bytes : List ℕ) (before : List Stretch) (r : TypedRun) (n : ℕ)
    (firsts : List ℕ) (len : ℕ) (more : List Operation) : Type 0 where
  pub are : AreStretches (shared bytes s.looks s.singles) (before ++ Typed (with_len r n) ∷ []) firsts len
  pub all : all_ops (shared bytes s.looks s.singles) (before ++ Typed (with_len r n) ∷ []) ≡ ops ++ more

-- the last run, longer by letters that go on where it ends
pub lengthened : (s : Shared) (before : List Stretch) (r : TypedRun) (firsts : List ℕ) (len : ℕ) (t : Typing) (more : List ℕ)
    → AreStretches s (before ++ Typed r ∷ []) firsts len → TypingGoesOn s.looks r r.len t → All HasSpelling (letters t more)
    → (bytes : List ℕ) → bytes ≡ s.bytes ++ more → (n : ℕ) → n ≡ r.len + length more → (m : ℕ) → m ≡ len + length more
    → Grown s (all_ops s (before ++ Typed r ∷ [])) bytes before r n firsts m (letters t more)
lengthened s before r firsts len t [] are on spelled bytes is n n_is m m_is =
    let ops : List Operation = all_ops s (before ++ Typed r ∷ []) in
    let none : Grown s ops s.bytes before r r.len firsts len [] = record { are = are; all = sym (append-nil ops) } in
    let by_len : Grown s ops s.bytes before r r.len firsts m [] =
    subst (λ (x : ℕ). Grown s ops s.bytes before r r.len firsts x []) (sym (m_is ∙ add-zero len)) none in
    let by_run : Grown s ops s.bytes before r n firsts m [] =
    subst (λ (x : ℕ). Grown s ops s.bytes before r x firsts m []) (sym (n_is ∙ add-zero r.len)) by_len in
    subst (λ (x : List ℕ). Grown s ops x before r n firsts m []) (sym (is ∙ append-nil s.bytes)) by_run
lengthened s before r firsts len t (b ∷ more) are on spelled bytes is n n_is m m_is =
    let op : Operation = typed_letter t b in
    let own : HasSpelling op = All-head HasSpelling op (letters (after_letter t) more) spelled in
    let next : op ≡ letter_of_run s.looks r r.len b = next_letter on b in
    let s' : Shared = shared (s.bytes ++ b ∷ []) s.looks s.singles in
    let r' : TypedRun = with_len r (r.len + 1) in
    let one : suc r.len ≡ r.len + 1 = omega arith in
    let on' : TypingGoesOn s.looks r' (r.len + 1) (after_letter t) =
    subst (λ (k : ℕ). TypingGoesOn s.looks r' k (after_letter t)) one (goes_on_alike (goes_on_more on own.site.0) (r.len + 1)) in
    let rest = lengthened s' before r' firsts (len + 1) (after_letter t) more
    (longer_are s b op own before r firsts len are next) on'
    (All-tail HasSpelling op (letters (after_letter t) more) spelled) bytes (is ∙ sym (append_assoc s.bytes (b ∷ []) more)) n
    (omega (arith, n_is)) m (omega (arith, m_is)) in
    record {
      are = rest.are;
      all =
          rest.all
          ∙ ap (λ (ops : List Operation). ops ++ letters (after_letter t) more)
          (longer_all s b op own before r firsts len are next)
          ∙ append_assoc (all_ops s (before ++ Typed r ∷ [])) (op ∷ []) (letters (after_letter t) more);
    }

-- a run that begins with letters
pub begun : (s : Shared) (sts : List Stretch) (firsts : List ℕ) (len : ℕ) → AreStretches s sts firsts len
    → (looks added : List Looks) → looks ≡ s.looks ++ added → (r : TypedRun) → r.from ≡ length s.bytes → r.looks < length looks
    → r.cause_off < 16777216 → (t : Typing) → TypingGoesOn looks r 0 t → (more : List ℕ) → 0 < length more
    → All HasSpelling (letters t more) → (bytes : List ℕ) → bytes ≡ s.bytes ++ more → r.len ≡ length more
    → Grown (shared s.bytes looks s.singles) (all_ops s sts) bytes sts r r.len (firsts ++ len ∷ []) (len + length more)
    (letters t more)
begun s sts firsts len are looks added grown r from there cause t on [] some spelled bytes is len_is = absurd (omega (arith, some))
begun s sts firsts len are looks added grown r from there cause t on (b ∷ more) some spelled bytes is len_is =
    let op : Operation = typed_letter t b in
    let own : HasSpelling op = All-head HasSpelling op (letters (after_letter t) more) spelled in
    let r' : TypedRun = with_len r 1 in
    let s' : Shared = shared (s.bytes ++ b ∷ []) looks s.singles in
    let on' : TypingGoesOn looks r' 0 t = goes_on_alike on 1 in
    let next : op ≡ letter_of_run looks r' 0 b = next_letter on' b in
    let grows : Extends s s' = record {
      bytes = (b ∷ [], refl);
      looks = (added, grown);
      singles = ([], sym (append-nil s.singles));
    } in
    let there' : IsStretchThere s' (Typed r') = begun_there s s' grows op r' b refl from refl there cause next in
    let ops : ops_of s' (Typed r') ≡ op ∷ [] = begun_ops s s' grows op r' b refl from refl there cause next in
    let ends : EndsLast s' (Typed r') = begun_ends s s' grows op r' b refl from refl there cause next in
    let count : length s'.bytes ≤ length s.bytes + 1 = omega (arith, length-append s.bytes (b ∷ [])) in
    let rest = lengthened s' sts r' (firsts ++ len ∷ []) (len + 1) (after_letter t) more
    (pushed_are s s' grows op own sts firsts len are (Typed r') there' ops ends count)
    (goes_on_more on' own.site.0) (All-tail HasSpelling op (letters (after_letter t) more) spelled) bytes
    (is ∙ sym (append_assoc s.bytes (b ∷ []) more)) r.len (omega (arith, len_is)) (len + length (b ∷ more)) (omega arith) in
    record {
      are = rest.are;
      all =
          rest.all
          ∙ ap (λ (xs : List Operation). xs ++ letters (after_letter t) more)
          (pushed_ops s s' grows op own sts firsts len are (Typed r') there' ops ends)
          ∙ append_assoc (all_ops s sts) (op ∷ []) (letters (after_letter t) more);
    }
