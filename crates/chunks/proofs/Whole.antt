-- A whole chunk, read from the left.
use Rattle.std.proofs.Common.{◌≡◌, ◌≢◌, ℕ, ◌+◌, ◌^◌, ◌<◌, ◌≤◌, List, ◌++◌, length, take, Option, Some, None}
use Rattle.std.proofs.Common.{refl, sym, ap, subst, ◌∙◌, append_assoc}
use Rattle.std.specs.Prelude.{IfOk, Result, Ok, Err}
use Rattle.std.specs.Int.{w16}
use Rattle.std.proofs.lemmas.List.{get_or-append-add, take_at}
use Rattle.byte_fields.specs.Fields.{number_spelling, positive_at}
use Rattle.byte_fields.proofs.Readers.{IsBytes, some_is, positive_reads, wide16}
use Rattle.looks.specs.declared.refusal.Refusal.{Refusal}
use Rattle.operations.specs.Operation.{Operation}
use Rattle.packed.specs.Told.{nothing_begun}
use Rattle.chunks.specs.declared.TheConstants.{MAX_CHUNK}
use Rattle.chunks.specs.declared.reading.Chunk.{Chunk}
use Rattle.chunks.specs.Chunks.{Placed, operations_of, added_after, chunk_tag, CanAllCome, BeginsAsChunk, IsChunkOf, IsNoChunk}
use Rattle.chunks.specs.Parts.{HasAll}
use Rattle.chunks.proofs.OneChunk.{after_tag}

-- what stands after others is bytes where all is
fits_after : (front rest : List ℕ) → IsBytes (front ++ rest) → IsBytes rest
fits_after front rest fits i =
    subst (λ (b : ℕ). b < 256) (get_or-append-add front rest i 0) (fits (length front + i))

-- a chunk begins with the tag
pub untagged : (bytes : List ℕ) → take 4 bytes ≢ chunk_tag → IsNoChunk bytes
untagged bytes apart text ps is =
    let rest : List ℕ = number_spelling w16 text ++ added_after nothing_begun ps in
    apart (ap (λ (l : List ℕ). take 4 l) (is.spelled ∙ append_assoc chunk_tag (number_spelling w16 text) (added_after nothing_begun ps))
    ∙ take_at chunk_tag rest 4 refl)

-- where no text stands after the tag it is no chunk
pub no_text : (bytes rest : List ℕ) → bytes ≡ chunk_tag ++ rest → positive_at w16 rest ≡ None → IsNoChunk bytes
no_text bytes rest tagged none text ps is = no_some (sym none ∙ after_tag text ps bytes rest is tagged)
  where
    no_some : {A : Type 0} {x : A} → ◌≡◌ {A = Option A} None (Some x) → ⊥
    no_some e = cc

module _ (bytes rest : List ℕ) (tagged : bytes ≡ chunk_tag ++ rest) (text : ℕ) (after : List ℕ)
    (found : positive_at w16 rest ≡ Some (text, after)) where
  -- the bytes begin as a chunk's
  pub begins : IsBytes bytes → length bytes ≤ MAX_CHUNK → BeginsAsChunk bytes
  begins fits short =
      let took =
      (positive_reads w16 (2 ^ 16) wide16).takes rest text after (fits_after (chunk_tag) rest (subst IsBytes tagged fits))
      found in
      record {
        text = text;
        rest = after;
        text_number = took.in_range;
        parts = tagged ∙ ap (λ (l : List ℕ). chunk_tag ++ l) took.parts
            ∙ sym (append_assoc (chunk_tag) (number_spelling w16 text) after);
        short = short;
      }

  -- what a chunk is of is what was read
  pub parts_are : (other : ℕ) (ps : List Placed) → IsChunkOf other ps bytes
      → (text ≡ other) × (after ≡ added_after nothing_begun ps) × CanAllCome nothing_begun text ps
  parts_are other ps is =
      let same : ◌≡◌ {A = ℕ × List ℕ} (text, after) (other, added_after nothing_begun ps) =
      some_is _ _ (sym found ∙ after_tag other ps bytes rest is tagged) in
      let texts : text ≡ other = ap (λ (p : ℕ × List ℕ). p.0) same in
      (texts, ap (λ (p : ℕ × List ℕ). p.1) same, subst (λ (n : ℕ). CanAllCome nothing_begun n ps) (sym texts) is.come)

  -- and what was read it is of
  pub whole : (ops : List Operation) → IsBytes bytes → length bytes ≤ MAX_CHUNK
      → HasAll text ops after
      → (ps : List Placed) × (operations_of ps ≡ ops) × IsChunkOf text ps bytes
  whole ops fits short (ps, are, come, is) =
      let took =
      (positive_reads w16 (2 ^ 16) wide16).takes rest text after (fits_after (chunk_tag) rest (subst IsBytes tagged fits))
      found in (
        ps,
        are,
        record {
          text_number = took.in_range;
          come = come;
          spelled = tagged ∙ ap (λ (l : List ℕ). chunk_tag ++ l) (took.parts
              ∙ ap (λ (l : List ℕ). number_spelling w16 text ++ l) is)
              ∙ sym (append_assoc (chunk_tag) (number_spelling w16 text) (added_after nothing_begun ps));
          short = short;
        },
      )

  -- so it is with what was made of it
  pub made : (r : Result Chunk Refusal) → IsBytes bytes → length bytes ≤ MAX_CHUNK
      → IfOk r (λ chunk. (chunk.text ≡ text) × HasAll text chunk.operations.items after)
      → IfOk r (λ chunk. (ps : List Placed) × (operations_of ps ≡ chunk.operations.items) × IsChunkOf chunk.text ps bytes)
  made (Ok chunk) fits short (texts, all) =
      let (ps, are, is) = whole chunk.operations.items fits short all in
      (ps, are, subst (λ (n : ℕ). IsChunkOf n ps bytes) (sym texts) is)
  made (Err why) fits short is = tt

  pub made_only : (r : Result Chunk Refusal) (other : ℕ) (ps : List Placed) → IsChunkOf other ps bytes
      → IfOk r (λ chunk. (chunk.text ≡ text) × HasAll text chunk.operations.items after)
      → IfOk r (λ chunk. chunk.operations.items ≡ operations_of ps)
      → IfOk r (λ chunk. (chunk.text ≡ other) × (chunk.operations.items ≡ operations_of ps))
  made_only (Ok chunk) other ps of is these = (is.0 ∙ (parts_are other ps of).0, these)
  made_only (Err why) other ps of is these = tt
