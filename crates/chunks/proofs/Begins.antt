-- Where a site begins is read as it is written.
use Rattle.std.proofs.Common.{◌≡◌, ℕ, ◌^◌, ◌&&◌, ltb, leb, List, ◌++◌, Some, None}
use Rattle.std.proofs.Common.{refl, sym, ap, subst, ◌∙◌, append_assoc, arith}
use Rattle.std.proofs.lemmas.Bool.{and_parts, and_from, ltb-true, lt-ltb, leb-true, le-leb, cond-true}
use Rattle.byte_fields.proofs.Readers.{Took, Reads, step, bind_some, some_is, passed}
use Rattle.char_files.specs.declared.TheConstants.{MAX_FILE}
use Rattle.operations.specs.declared.op.TheConstants.{MAX_STAMP}
use Rattle.packed.specs.Numbers.{sevens}
use Rattle.packed.proofs.Sevens.{sevens_reads}
use Rattle.chunks.specs.declared.reading.Begin.{Begin}
use Rattle.chunks.specs.Parts.{begin_fields, IsBegin, begin_of, begin_at}

abbrev made : (site seq stamp len : ℕ) → Begin
made site seq stamp len = record { site = site; seq = seq; stamp = stamp; len = len }

-- a site that begins with these numbers can do so
begin_is : (site seq stamp len : ℕ) (b : Begin) → begin_of site seq stamp len ≡ Some b
    → IsBegin b × (made site seq stamp len ≡ b)
begin_is site seq stamp len b e =
    let g = passed _ (made site seq stamp len) b e in
    let three = and_parts _ (leb len MAX_FILE) g.0 in
    let two = and_parts _ (ltb 0 stamp && leb stamp MAX_STAMP) three.0 in
    let one = and_parts (ltb 0 site && ltb site (2 ^ 16)) (ltb 0 seq && ltb seq (2 ^ 32)) two.0 in
    let of_site = and_parts (ltb 0 site) (ltb site (2 ^ 16)) one.0 in
    let of_seq = and_parts (ltb 0 seq) (ltb seq (2 ^ 32)) one.1 in
    let of_stamp = and_parts (ltb 0 stamp) (leb stamp MAX_STAMP) two.1 in (
      subst IsBegin g.1 (record {
        site = (ltb-true _ _ of_site.0, ltb-true _ _ of_site.1);
        seq = (ltb-true _ _ of_seq.0, ltb-true _ _ of_seq.1);
        stamp = (ltb-true _ _ of_stamp.0, leb-true _ _ of_stamp.1);
        len = leb-true _ _ three.1;
      }),
      g.1,
    )

begin_again : (b : Begin) → IsBegin b → begin_of b.site b.seq b.stamp b.len ≡ Some b
begin_again b is =
    cond-true _ (Some b) None (and_from _ _ (and_from _ _ (and_from _ _
    (and_from _ _ (lt-ltb _ _ is.site.0) (lt-ltb _ _ is.site.1))
    (and_from _ _ (lt-ltb _ _ is.seq.0) (lt-ltb _ _ is.seq.1)))
    (and_from _ _ (lt-ltb _ _ is.stamp.0) (le-leb _ _ is.stamp.1))) (le-leb _ _ is.len))

four_parts : (a b c d rest : List ℕ) → (a ++ b ++ c ++ d) ++ rest ≡ a ++ (b ++ (c ++ (d ++ rest)))
four_parts a b c d rest =
    append_assoc (a ++ b ++ c) d rest ∙ append_assoc (a ++ b) c (d ++ rest) ∙ append_assoc a b (c ++ (d ++ rest))

pub begin_reads : Reads begin_at begin_fields IsBegin
unfolding begin_at
begin_reads = record {
  takes = λ bytes b rest fits e.
      let s = step _ _ _ sevens_reads _ bytes (b, rest) fits e in
      let t = step _ _ _ sevens_reads _ s.rest (b, rest) s.took.rest_fits s.goes_on in
      let u = step _ _ _ sevens_reads _ t.rest (b, rest) t.took.rest_fits t.goes_on in
      let v = step _ _ _ sevens_reads _ u.rest (b, rest) u.took.rest_fits u.goes_on in
      let n = bind_some (begin_of s.x t.x u.x v.x) _ (b, rest) v.goes_on in
      let is = begin_is s.x t.x u.x v.x n.0 n.1 in
      let whole : bytes ≡ begin_fields (made s.x t.x u.x v.x) ++ v.rest =
      s.took.parts ∙ ap (λ (r : List ℕ). sevens s.x ++ r) (t.took.parts
      ∙ ap (λ (r : List ℕ). sevens t.x ++ r) (u.took.parts ∙ ap (λ (r : List ℕ). sevens u.x ++ r) v.took.parts))
      ∙ sym (four_parts (sevens s.x) (sevens t.x) (sevens u.x) (sevens v.x) v.rest) in
      subst (λ (p : Begin × List ℕ). Took begin_fields IsBegin bytes p.0 p.1) (some_is _ _ n.2)
      (record {
        parts = whole ∙ ap (λ (m : Begin). begin_fields m ++ v.rest) is.1;
        rest_fits = v.took.rest_fits;
        in_range = is.0;
      });
  again = λ b rest is.
      ap begin_at (four_parts (sevens b.site) (sevens b.seq) (sevens b.stamp) (sevens b.len) rest)
      ∙ rw (
        sevens_reads.again b.site (sevens b.seq ++ (sevens b.stamp ++ (sevens b.len ++ rest))) (omega (arith, is.site.1)),
        sevens_reads.again b.seq (sevens b.stamp ++ (sevens b.len ++ rest)) (omega (arith, is.seq.1)),
        sevens_reads.again b.stamp (sevens b.len ++ rest) (omega (arith, is.stamp.1)),
        sevens_reads.again b.len rest (omega (arith, is.len)),
        begin_again b is,
      ) refl;
}
