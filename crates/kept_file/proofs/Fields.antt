-- What is read of a file's head is what was written, and what was written is read again.
use Rattle.std.proofs.Common.{◌≡◌, ℕ, ◌+◌, ◌<◌, ◌^◌, List, ◌++◌, length, refl, ap, subst, ◌∙◌, append_assoc}
use Rattle.std.proofs.lemmas.List.{get_or-append-add}
use Rattle.std.specs.Int.{w16}
use Rattle.byte_fields.specs.Fields.{number_spelling}
use Rattle.byte_fields.proofs.Readers.{IsBytes, Took, Reads, step, some_is, positive_reads, wide16}
use Rattle.kept_file.specs.declared.head.Head.{Head}
use Rattle.kept_file.specs.Parts.{head_at, packed_head_spelling, IsPackedHead}

head_joined : (h : Head) (bytes x rest : List ℕ) → bytes ≡ number_spelling w16 h.text ++ x
    → x ≡ number_spelling w16 h.site ++ rest → bytes ≡ packed_head_spelling h ++ rest
head_joined h bytes x rest text site =
    text ∙ ap (λ (r : List ℕ). number_spelling w16 h.text ++ r) site ∙ (simp append_assoc)

pub head_reads : Reads head_at packed_head_spelling IsPackedHead
unfolding head_at
head_reads = record {
  takes = λ bytes head rest fits e.
      let s = step _ _ _ (positive_reads w16 (2 ^ 16) wide16) _ bytes (head, rest) fits e in
      let t = step _ _ _ (positive_reads w16 (2 ^ 16) wide16) _ s.rest (head, rest) s.took.rest_fits s.goes_on in
      let made : Head = record { text = s.x; site = t.x } in
      let whole : bytes ≡ packed_head_spelling made ++ t.rest =
      head_joined made bytes s.rest t.rest s.took.parts t.took.parts in
      subst (λ (p : Head × List ℕ). Took packed_head_spelling IsPackedHead bytes p.0 p.1) (some_is (made, t.rest) (head, rest) t.goes_on)
      (record {
        parts = whole;
        rest_fits = t.took.rest_fits;
        in_range = record { text = s.took.in_range; site = t.took.in_range };
      });
  again = λ h rest is.
      rw (
        append_assoc (number_spelling w16 h.text) (number_spelling w16 h.site) rest,
        (positive_reads w16 (2 ^ 16) wide16).again h.text (number_spelling w16 h.site ++ rest) is.text,
        (positive_reads w16 (2 ^ 16) wide16).again h.site rest is.site,
      ) refl;
}

-- what stands after others is bytes where all is
pub fits_after : (front rest : List ℕ) → IsBytes (front ++ rest) → IsBytes rest
fits_after front rest fits i =
    subst (λ (b : ℕ). b < 256) (get_or-append-add front rest i 0) (fits (length front + i))
