-- Operations are cut into chunks that tell them.
use Rattle.std.proofs.Common.{◌≡◌, ℕ, ◌+◌, ◌-◌, ◌^◌, ◌<◌, ◌≤◌, Bool, true, false, cond, eqb, inl, inr, List, [], ◌∷◌, ◌++◌}
use Rattle.std.proofs.Common.{length, Option, refl, sym, ap, subst, ◌∙◌, append_assoc, length-append, arith}
use Rattle.std.specs.Int.{w16}
use Rattle.std.proofs.lemmas.Bool.{cases_Bool, leb-true, le-leb, cond-true, cond-false}
use Rattle.std.proofs.lemmas.List.{append-nil}
use Rattle.byte_fields.specs.Fields.{number_spelling}
use Rattle.byte_fields.proofs.Readers.{wide16}
use Rattle.packed.specs.Numbers.{sevens}
use Rattle.packed.specs.declared.expected.Expected.{Expected}
use Rattle.packed.specs.Told.{Told, nothing_begun, expected}
use Rattle.packed.specs.Spelling.{is_last, time_lead, edit_spelling, packed_next}
use Rattle.chunks.specs.Chunks.{Placed, begin_spelling, begun_with, added, told_by, added_after, chunk_tag, head, chunk_bytes}
use Rattle.chunks.specs.Chunks.{CanCome, CanAllCome, IsChunkOf, Written, nothing_written, fits, written_on, chunks_on}
use Rattle.chunks.specs.declared.TheConstants.{MAX_CHUNK}
use Rattle.chunks.specs.Laws.{AreChunksOf, ChunksTell}
use Rattle.chunks.proofs.Agreeing.{nothing_is_weaker, weaken}
use Rattle.chunks.proofs.Opening.{expected_begun}
use Rattle.chunks.proofs.ReadAll.{told_all, come_more, added_more, told_more}
use Rattle.chunks.proofs.Sizes.{sized_any, edit_sized}

-- ---- one operation has room in a chunk of its own

time_sized : (last : Option ℕ) (site more : ℕ) → length (time_lead last site more) ≤ 15
time_sized last site more = by (is_last last site) (eqb more 0)
  where
    by : (b c : Bool) → length (cond b (cond c [] (2 ∷ sevens more)) (1 ∷ sevens site ++ sevens more)) ≤ 15
    by true true = omega arith
    by true false = omega (arith, sized_any more)
    by false c = omega (arith, length-append (1 ∷ sevens site) (sevens more), sized_any site, sized_any more)

begin_sized : (p : Placed) → length (begin_spelling p) ≤ 29
begin_sized p =
    omega (
      arith,
      length-append (15 ∷ sevens p.op.site ++ sevens p.op.seq ++ sevens p.op.stamp) (sevens p.len),
      length-append (15 ∷ sevens p.op.site ++ sevens p.op.seq) (sevens p.op.stamp),
      length-append (15 ∷ sevens p.op.site) (sevens p.op.seq),
      sized_any p.op.site,
      sized_any p.op.seq,
      sized_any p.op.stamp,
      sized_any p.len,
    )

pub head_sized : (text : ℕ) → length (head text) ≡ 6
unfolding number_spelling
head_sized text = omega (arith, length-append (chunk_tag) (number_spelling w16 text), wide16.len text)

first_sized : (text : ℕ) (p : Placed) → CanCome nothing_begun text p → length (added nothing_begun p) ≤ 11444
first_sized text p can =
    let t : Told = begun_with nothing_begun p in
    let e : Expected = expected t p.op.site in
    let time : List ℕ = time_lead t.last p.op.site (p.op.stamp - (e.stamp + 1)) in
    omega (
      arith,
      length-append (begin_spelling p) (packed_next t p.op),
      length-append time (edit_spelling true e p.op.kind),
      begin_sized p,
      time_sized t.last p.op.site (p.op.stamp - (e.stamp + 1)),
      edit_sized e p.op.site p.op.kind (ap (λ (x : Expected). x.caret) (expected_begun nothing_begun p)) can.next.spelled.kind,
    )

pub one_fits : (text : ℕ) (p : Placed) → CanCome nothing_begun text p → fits (nothing_written text) p ≡ true
one_fits text p can = le-leb _ _ (omega (arith, head_sized text, first_sized text p can))

-- ---- a chunk that is being written

-- it has these operations
record IsPart (text : ℕ) (done : List Placed) (w : Written) : Type 0 where
  text_number : (0 < text) × (text < 2 ^ 16)
  come : CanAllCome nothing_begun text done
  told : w.told ≡ told_all nothing_begun done
  bytes : w.bytes ≡ chunk_bytes text done
  short : length w.bytes ≤ MAX_CHUNK

is_chunk : (text : ℕ) (done : List Placed) (w : Written) → IsPart text done w → IsChunkOf text done w.bytes
is_chunk text done w is = record { text_number = is.text_number; come = is.come; spelled = is.bytes; short = is.short }

part_on : (text : ℕ) (done : List Placed) (w : Written) (p : Placed) → IsPart text done w → CanCome w.told text p
    → fits w p ≡ true → IsPart text (done ++ p ∷ []) (written_on w p)
part_on text done w p is can room = record {
  text_number = is.text_number;
  come = come_more nothing_begun text done p is.come (subst (λ (t : Told). CanCome t text p) is.told can);
  told = ap (λ (t : Told). told_by t p) is.told ∙ sym (told_more nothing_begun done p);
  bytes = ap (λ (l : List ℕ). l ++ added w.told p) is.bytes
      ∙ append_assoc (head text) (added_after nothing_begun done) (added w.told p)
      ∙ ap (λ (t : Told). head text ++ (added_after nothing_begun done ++ added t p)) is.told
      ∙ ap (λ (l : List ℕ). head text ++ l) (sym (added_more nothing_begun done p));
  short = omega (arith, length-append w.bytes (added w.told p), leb-true _ _ room);
}

first_part : (text : ℕ) (p : Placed) → CanCome nothing_begun text p
    → IsPart text (p ∷ []) (written_on (nothing_written text) p)
first_part text p can =
    let number = subst (λ (n : ℕ). (0 < n) × (n < 2 ^ 16)) can.next.on_text can.next.spelled.text in
    part_on text [] (nothing_written text) p (record {
      text_number = number;
      come = tt;
      told = refl;
      bytes = sym (append-nil (head text));
      short = omega (arith, head_sized text);
    }) can (one_fits text p can)

cut_on : (ps : List Placed) (text : ℕ) (done : List Placed) (w : Written) → IsPart text done w
    → CanAllCome w.told text ps → AreChunksOf text (done ++ ps) (chunks_on text w ps)
cut_on [] text done w is come = (done, [], refl, is_chunk text done w is, refl)
cut_on (p ∷ ps) text done w is come =
    elim (cases_Bool (fits w p)) [
      | inl room ↦
          subst (AreChunksOf text (done ++ p ∷ ps)) (sym (cond-true (fits w p) here over room))
          (subst (λ (l : List Placed). AreChunksOf text l here) (append_assoc done (p ∷ []) ps)
          (cut_on ps text (done ++ p ∷ []) (written_on w p) (part_on text done w p is come.0 room) come.1))
      | inr full ↦
          subst (AreChunksOf text (done ++ p ∷ ps)) (sym (cond-false (fits w p) here over full)) (
            done,
            p ∷ ps,
            refl,
            is_chunk text done w is,
            cut_on ps text (p ∷ []) (written_on (nothing_written text) p) (first_part text p anew.0) anew.1,
          )
    ]
  where
    here : List (List ℕ)
    here = chunks_on text (written_on w p) ps

    over : List (List ℕ)
    over = w.bytes ∷ chunks_on text (written_on (nothing_written text) p) ps

    anew : CanAllCome nothing_begun text (p ∷ ps)
    anew = weaken (p ∷ ps) nothing_begun w.told text (nothing_is_weaker w.told) come

pub chunks_tell : ChunksTell
chunks_tell text [] come = refl
chunks_tell text (p ∷ ps) come =
    cut_on ps text (p ∷ []) (written_on (nothing_written text) p) (first_part text p come.0) come.1
