-- Letters that operations begin with, one more at a time.
use Rattle.std.proofs.Common.{◌≡◌, ℕ, zero, suc, ◌+◌, ◌<◌, List, [], ◌∷◌, ◌++◌, length}
use Rattle.std.proofs.Common.{ap, sym, subst, ◌∙◌, append_assoc, length-append, arith}
use Rattle.std.specs.Prelude.{All, reverse}
use Rattle.std.proofs.lemmas.List.{reverse-append}
use Rattle.std.proofs.lemmas.List.Elements.{All-cons, All-nil, All-push}
use Rattle.char_files.specs.CharName.{CharName}
use Rattle.char_files.specs.declared.name.Anchor.TheVariants.{At}
use Rattle.operations.specs.Letters.{letter, letters}
use Rattle.operations.specs.Operation.{Operation, OpKind, insert}
use Rattle.operations.specs.Spelling.{HasSpelling}
use Rattle.operations.specs.declared.kind.TheConstants.{MAX_INSERT}
use Rattle.operations.specs.declared.typing.Typing.{Typing}
use Rattle.chunks.specs.Rows.{cause_at, typed_at}
use Rattle.chunks.proofs.TypedRows.{letters_pushed}
use Rattle.text_chunks.specs.Typed.{AreTypedFirst}

-- a letter hangs on the one before it
pub hangs : (t : Typing) (k : ℕ) (name : CharName) → 0 < k → name.site ≡ t.site → name.off + 1 ≡ t.at + k
    → At name ≡ cause_at t k
hangs t zero name some on off = absurd (omega (arith, some))
hangs t (suc k) name some on off =
    let place : name.off ≡ t.at + k = omega (arith, off) in
    ap (λ (s : ℕ). At (record { site = s; off = name.off })) on
    ∙ ap (λ (n : ℕ). At (record { site = t.site; off = n })) place

-- an operation that has all that a letter has
pub is_letter : (op : Operation) (t : Typing) (byte : ℕ) → op.text ≡ t.text → op.site ≡ t.site → op.seq ≡ t.seq
    → op.stamp ≡ t.stamp → op.kind ≡ insert t.cause t.at t.looks (byte ∷ []) → op ≡ letter t byte
is_letter op t byte text site seq stamp kind =
    let made : ℕ → ℕ → ℕ → ℕ → OpKind → Operation = λ t s q p d.
    record { text = t; site = s; seq = q; stamp = p; kind = d } in
    ap (λ (n : ℕ). made n op.site op.seq op.stamp op.kind) text
    ∙ ap (λ (n : ℕ). made t.text n op.seq op.stamp op.kind) site
    ∙ ap (λ (n : ℕ). made t.text t.site n op.stamp op.kind) seq
    ∙ ap (λ (n : ℕ). made t.text t.site t.seq n op.kind) stamp
    ∙ ap (made t.text t.site t.seq t.stamp) kind

-- the first one
pub first_typed : (ops rest : List Operation) (op : Operation) (t : Typing) (b : ℕ) (bytes : List ℕ) → ops ≡ rest ++ op ∷ []
    → op ≡ letter t b → HasSpelling op → bytes ≡ b ∷ [] → AreTypedFirst (reverse ops) t bytes (reverse rest)
first_typed ops rest op t b bytes last is spelled pushed = record {
  some = omega (arith, ap length pushed);
  few = omega (arith, ap length pushed);
  spelled = subst (λ (l : List ℕ). All HasSpelling (letters t l)) (sym pushed)
      (All-cons HasSpelling (letter t b) [] (subst HasSpelling is spelled) (All-nil HasSpelling));
  parts = ap reverse last ∙ reverse-append rest (op ∷ []) ∙ ap (λ (o : Operation). o ∷ reverse rest) is
      ∙ ap (λ (l : List ℕ). letters t l ++ reverse rest) (sym pushed);
}

-- one more
pub one_typed : (ops left rest : List Operation) (op : Operation) (t : Typing) (bytes : List ℕ) (b : ℕ) (new : List ℕ)
    → AreTypedFirst ops t bytes (reverse left) → left ≡ rest ++ op ∷ [] → length bytes < MAX_INSERT
    → op ≡ letter (typed_at t (length bytes)) b → HasSpelling op → new ≡ bytes ++ b ∷ []
    → AreTypedFirst ops t new (reverse rest)
one_typed ops left rest op t bytes b new s last few is spelled pushed =
    let more : letters t new ≡ letters t bytes ++ op ∷ [] =
    ap (letters t) pushed ∙ letters_pushed t bytes b ∙ ap (λ (o : Operation). letters t bytes ++ o ∷ []) (sym is) in
    let many : length new ≡ length bytes + 1 = omega (arith, ap length pushed, length-append bytes (b ∷ [])) in
    record {
      some = omega (arith, many);
      few = omega (arith, many, few);
      spelled = subst (All HasSpelling) (sym more) (All-push HasSpelling (letters t bytes) op s.spelled spelled);
      parts = s.parts ∙ ap (λ (l : List Operation). letters t bytes ++ l) (ap reverse last ∙ reverse-append rest (op ∷ []))
          ∙ sym (append_assoc (letters t bytes) (op ∷ []) (reverse rest))
          ∙ ap (λ (l : List Operation). l ++ reverse rest) (sym more);
    }
