-- What is read of a site's file is what was written, and what was written is read again.
use Rattle.std.proofs.Common.{◌≡◌, ℕ, ◌^◌, ◌<◌, List, ◌++◌, length, Option, Some, None, refl, sym, ap, subst, ◌∙◌}
use Rattle.std.proofs.Common.{append_assoc, arith}
use Rattle.std.specs.Prelude.{IfSome}
use Rattle.std.specs.Int.{w16, w32}
use Rattle.byte_fields.specs.Fields.{◌>>=◌, Finds, number_at, stretch_at}
use Rattle.byte_fields.specs.Fields.{number_spelling}
use Rattle.byte_fields.proofs.Readers.{Took, Reads, step, some_is, number_reads, stretch_reads}
use Rattle.byte_fields.proofs.Readers.{wide16, wide32, IsBytes}
use Rattle.kept_file.specs.declared.site_file.reading.CountedHead.{CountedHead}
use Rattle.kept_file.specs.declared.head.Head.{Head}
use Rattle.kept_file.specs.Parts.{IsPackedHead, packed_head_spelling}
use Rattle.kept_file.specs.SiteParts.{counted_at, counted_spelling, IsCountedHead, IsShort, message_at, message_spelling}
use Rattle.kept_file.proofs.Fields.{head_reads}

abbrev numbers_of : CountedHead → Head
numbers_of h = record { text = h.text; site = h.site }

counted_split : (h : CountedHead) (rest : List ℕ) → counted_spelling h ++ rest
    ≡ packed_head_spelling (numbers_of h) ++ (number_spelling w32 h.count ++ rest)
counted_split h rest = simp append_assoc

pub counted_reads : Reads counted_at counted_spelling IsCountedHead
unfolding counted_at
counted_reads = record {
  takes = λ bytes head rest fits e.
      let s = step _ _ _ head_reads _ bytes (head, rest) fits e in
      let t = step _ _ _ (number_reads w32 (2 ^ 32) wide32) _ s.rest (head, rest) s.took.rest_fits s.goes_on in
      let made : CountedHead = record { text = s.x.text; site = s.x.site; count = t.x } in
      let is : IsPackedHead s.x = s.took.in_range in
      let whole : bytes ≡ counted_spelling made ++ t.rest =
      s.took.parts ∙ ap (λ (r : List ℕ). packed_head_spelling s.x ++ r) t.took.parts ∙ sym (counted_split made t.rest) in
      subst (λ (p : CountedHead × List ℕ). Took counted_spelling IsCountedHead bytes p.0 p.1) (some_is (made, t.rest) (head, rest) t.goes_on)
      (record {
        parts = whole;
        rest_fits = t.took.rest_fits;
        in_range = record { text = is.text; site = is.site; count = t.took.in_range };
      });
  again = λ h rest is.
      rw (
        counted_split h rest,
        head_reads.again (numbers_of h) (number_spelling w32 h.count ++ rest) (record { text = is.text; site = is.site }),
        (number_reads w32 (2 ^ 32) wide32).again h.count rest is.count,
      ) refl;
}

message_joined : (bytes x message rest : List ℕ) (len : ℕ) → bytes ≡ number_spelling w16 len ++ x
    → x ≡ message ++ rest → length message ≡ len → bytes ≡ message_spelling message ++ rest
message_joined bytes x message rest len front after same =
    front ∙ ap (λ (r : List ℕ). number_spelling w16 len ++ r) after
    ∙ ap (λ (n : ℕ). number_spelling w16 n ++ (message ++ rest)) (sym same)
    ∙ sym (append_assoc (number_spelling w16 (length message)) message rest)

pub message_reads : Reads message_at message_spelling IsShort
unfolding message_at
message_reads = record {
  takes = λ bytes message rest fits e.
      let s = step _ _ _ (number_reads w16 (2 ^ 16) wide16) _ bytes (message, rest) fits e in
      let took = (stretch_reads s.x).takes s.rest message rest s.took.rest_fits s.goes_on in
      let short : length message < 2 ^ 16 = omega (arith, took.in_range, s.took.in_range) in
      record {
        parts = message_joined bytes s.rest message rest s.x s.took.parts took.parts took.in_range;
        rest_fits = took.rest_fits;
        in_range = short;
      };
  again = λ message rest short.
      rw (
        append_assoc (number_spelling w16 (length message)) message rest,
        (number_reads w16 (2 ^ 16) wide16).again (length message) (message ++ rest) short,
      ) ((stretch_reads (length message)).again message rest refl);
}

-- a message that was found after its length is the first of the bytes, and two bytes tell that
pub message_first : {X : Type 0} (view : X → List ℕ × List ℕ) (r : Option X) (bytes rest : List ℕ) (len n : ℕ)
    → IsBytes bytes → number_at w16 bytes ≡ Some (len, rest) → n ≡ len → Finds view r (stretch_at n rest)
    → IfSome r (λ x. bytes ≡ message_spelling (view x).0 ++ (view x).1) × IfSome r (λ x. IsShort (view x).0)
unfolding message_at
message_first view None bytes rest len n fits e same found = (tt, tt)
message_first view (Some x) bytes rest len n fits e same found =
    let read : message_at bytes ≡ Some (view x) =
    ap (λ (o : Option (ℕ × List ℕ)). o >>= (λ len. stretch_at len.0 len.1)) e
    ∙ ap (λ (k : ℕ). stretch_at k rest) (sym same) ∙ found in
    let took = message_reads.takes bytes (view x).0 (view x).1 fits read in
    (took.parts, took.in_range)
