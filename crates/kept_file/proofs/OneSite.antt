-- A site's file is of one text, one site and one list of operations.
use Rattle.std.proofs.Common.{◌≡◌, ℕ, List, [], ◌∷◌, ◌++◌, length, take, Some, refl, sym, ap, ◌∙◌}
use Rattle.std.proofs.Common.{append_assoc, length-append, arith}
use Rattle.std.specs.List.{flat_map}
use Rattle.std.proofs.lemmas.List.{append_cancel_left, append-nil, take_at}
use Rattle.operations.specs.Operation.{Operation}
use Rattle.byte_fields.proofs.Readers.{some_is}
use Rattle.texts.specs.SiteFiles.{site_tag, entry_spelling, site_bytes, HasSiteFile, IsSiteFileOf, OneSite}
use Rattle.kept_file.specs.declared.site_file.reading.CountedHead.{CountedHead}
use Rattle.kept_file.specs.SiteParts.{counted_at, counted_spelling, IsCountedHead}
use Rattle.kept_file.proofs.Entries.{entries_told}
use Rattle.kept_file.proofs.SiteFields.{counted_reads}

-- what stands between the tag and the messages
abbrev pub counted_of : (text site : ℕ) → List Operation → CountedHead
counted_of text site ops = record { text = text; site = site; count = length ops }

pub counted_is : (text site : ℕ) (ops : List Operation) → HasSiteFile text site ops → IsCountedHead (counted_of text site ops)
counted_is text site ops tells =
    let few = tells.few in
    record { text = tells.text_number; site = tells.site_number; count = omega (arith, few) }

-- the file: the tag, the head, the messages
pub file_parts : (text site : ℕ) (ops : List Operation)
    → site_bytes text site ops ≡ site_tag ++ (counted_spelling (counted_of text site ops) ++ flat_map entry_spelling ops)
unfolding site_bytes
file_parts text site ops = simp append_assoc

-- the head, and the messages, are told by what stands after the tag
pub counted_told : (text site : ℕ) (ops : List Operation) (file rest : List ℕ) → IsSiteFileOf text site ops file
    → file ≡ site_tag ++ rest → counted_at rest ≡ Some (counted_of text site ops, flat_map entry_spelling ops)
counted_told text site ops file rest is e =
    let entries : List ℕ = flat_map entry_spelling ops in
    let after : rest ≡ counted_spelling (counted_of text site ops) ++ entries =
    append_cancel_left site_tag rest (counted_spelling (counted_of text site ops) ++ entries) (sym e ∙ is.spelled
    ∙ file_parts text site ops) in
    ap counted_at after ∙ counted_reads.again (counted_of text site ops) entries (counted_is text site ops is.tells)

-- a site's file begins with the tag
pub file_tagged : (text site : ℕ) (ops : List Operation) (file : List ℕ) → IsSiteFileOf text site ops file
    → take 4 file ≡ site_tag
file_tagged text site ops file is =
    ap (λ (l : List ℕ). take 4 l) (is.spelled ∙ file_parts text site ops)
    ∙ take_at site_tag (counted_spelling (counted_of text site ops) ++ flat_map entry_spelling ops) 4 refl

-- no two texts, sites or lists of operations share a file
pub lemma_one_site : OneSite
lemma_one_site file text site text' site' ops ops' is is' =
    let entries : List ℕ = flat_map entry_spelling ops in
    let after : List ℕ = counted_spelling (counted_of text site ops) ++ entries in
    let parts : file ≡ site_tag ++ after = is.spelled ∙ file_parts text site ops in
    let same : ◌≡◌ {A = CountedHead × List ℕ} (counted_of text site ops, entries)
    (counted_of text' site' ops', flat_map entry_spelling ops') =
    some_is _ _ (sym (counted_told text site ops file after is parts) ∙ counted_told text' site' ops' file after is' parts) in
    let len : length ops ≡ length ops' = ap (λ (p : CountedHead × List ℕ). p.0.count) same in
    let found =
    entries_told ops ops' [] is.tells.spelled is'.tells.spelled (omega arith) (append-nil entries
    ∙ ap (λ (p : CountedHead × List ℕ). p.1) same) in (
      ap (λ (p : CountedHead × List ℕ). p.0.text) same,
      ap (λ (p : CountedHead × List ℕ). p.0.site) same,
      sym (all_of found.0 found.1 len),
    )
  where
    all_of : (todo : List Operation) → ops' ≡ ops ++ todo → length ops ≡ length ops' → ops' ≡ ops
    all_of [] e len = e ∙ append-nil ops
    all_of (op ∷ todo) e len = absurd (omega (arith, ap length e, length-append ops (op ∷ todo)))
