-- A packed file is of one text, one site and one list of operations; and so is what it begins with.
use Rattle.std.proofs.Common.{◌≡◌, ℕ, List, ◌++◌, length, take, Some, refl, sym, ap, subst, ◌∙◌}
use Rattle.std.proofs.Common.{append_assoc, arith}
use Rattle.std.proofs.lemmas.List.{append_cancel_left, take_all, take_at}
use Rattle.std.proofs.lemmas.List.Elements.{All-contains}
use Rattle.operations.specs.Operation.{Operation}
use Rattle.operations.specs.Spelling.{HasSpelling}
use Rattle.byte_fields.proofs.Readers.{some_is}
use Rattle.tree_order.specs.Good.{Good}
use Rattle.set_laws.specs.Sets.{AreIdentified}
use Rattle.packed.specs.Laws.{IsHistory}
use Rattle.packed.specs.Spelling.{packed}
use Rattle.kept_file.specs.declared.head.Head.{Head}
use Rattle.kept_file.specs.PackedFiles.{FirstPartsTellFirstOperations, HasPackedFile, IsPackedFileOf}
use Rattle.kept_file.specs.PackedFiles.{OnePackedFile, OtherCutsAreNobodys, packed_bytes, packed_tag}
use Rattle.kept_file.specs.Parts.{head_at, packed_head_spelling, IsPackedHead}
use Rattle.kept_file.proofs.Fields.{head_reads}
use Rattle.kept_file.proofs.Following.{is_history}
use Rattle.kept_file.proofs.Packings.{told_first}
use Rattle.packed.proofs.PackedLists.{none_are_packed_alike}

-- what stands between the tag and the operations
abbrev pub head_of : (text site : ℕ) → Head
head_of text site = record { text = text; site = site }

pub head_is : (text site : ℕ) (ops : List Operation) → HasPackedFile text site ops → IsPackedHead (head_of text site)
head_is text site ops tells = record { text = tells.text_number; site = tells.site_number }

-- the file: the tag, the head, the operations
pub file_parts : (text site : ℕ) (ops : List Operation)
    → packed_bytes text site ops ≡ packed_tag ++ (packed_head_spelling (head_of text site) ++ packed ops)
unfolding packed_bytes
file_parts text site ops = simp append_assoc

-- what a file is of is told by what stands after the tag
pub head_told : (text site : ℕ) (ops : List Operation) (file rest : List ℕ) → IsPackedFileOf text site ops file
    → file ≡ packed_tag ++ rest → head_at rest ≡ Some (head_of text site, packed ops)
head_told text site ops file rest is e =
    let after : rest ≡ packed_head_spelling (head_of text site) ++ packed ops =
    append_cancel_left packed_tag rest (packed_head_spelling (head_of text site) ++ packed ops) (sym e ∙ is.spelled
    ∙ file_parts text site ops) in
    ap head_at after ∙ head_reads.again (head_of text site) (packed ops) (head_is text site ops is.tells)

-- a packed file begins with the tag
pub file_tagged : (text site : ℕ) (ops : List Operation) (file : List ℕ) → IsPackedFileOf text site ops file
    → take 4 file ≡ packed_tag
file_tagged text site ops file is =
    ap (λ (l : List ℕ). take 4 l) (is.spelled ∙ file_parts text site ops)
    ∙ take_at packed_tag (packed_head_spelling (head_of text site) ++ packed ops) 4 refl

-- ---- the operations of a packed file

module _ (text site : ℕ) (ops : List Operation) (tells : HasPackedFile text site ops) where
  -- are good
  pub are_good : Good ops
  are_good = subst Good (take_all (length ops) ops (omega arith)) (tells.in_order (length ops))

  are_identified : AreIdentified ops
  are_identified = record {
    counted = λ op held. (All-contains HasSpelling ops op tells.spelled held).seq.0;
    unique = are_good.identities;
  }

  -- and they are a history
  pub are_history : IsHistory text ops
  are_history = is_history text ops tells.in_order are_identified tells.once tells.spelled tells.of_text

-- ---- a file that another begins with

pub first_told : FirstPartsTellFirstOperations
first_told file rest text site text' site' ops all is is' =
    let whole : file ++ rest ≡ packed_tag ++ (packed_head_spelling (head_of text site) ++ (packed ops ++ rest)) =
    ap (λ (l : List ℕ). l ++ rest) (is.spelled ∙ file_parts text site ops) ∙ (simp append_assoc) in
    let same : ◌≡◌ {A = Head × List ℕ} (head_of text site, packed ops ++ rest) (head_of text' site', packed all) =
    some_is _ _ (sym (head_reads.again (head_of text site) (packed ops ++ rest) (head_is text site ops is.tells))
    ∙ head_told text' site' all (file ++ rest) (packed_head_spelling (head_of text site) ++ (packed ops ++ rest)) is' whole) in
    let texts : text ≡ text' = ap (λ (p : Head × List ℕ). p.0.text) same in
    let sites : site ≡ site' = ap (λ (p : Head × List ℕ). p.0.site) same in
    let (more, parts, left) =
    told_first text ops all rest (are_history text site ops is.tells)
    (subst (λ (t : ℕ). IsHistory t all) (sym texts) (are_history text' site' all is'.tells))
    (sym (ap (λ (p : Head × List ℕ). p.1) same)) in
    (more, texts, sites, parts, left)

-- no two texts, sites or lists of operations share a file
pub one_packed : OnePackedFile
one_packed file text site text' site' ops ops' is is' =
    let after : List ℕ = packed_head_spelling (head_of text site) ++ packed ops in
    let parts : file ≡ packed_tag ++ after = is.spelled ∙ file_parts text site ops in
    let same : ◌≡◌ {A = Head × List ℕ} (head_of text site, packed ops) (head_of text' site', packed ops') =
    some_is _ _ (sym (head_told text site ops file after is parts) ∙ head_told text' site' ops' file after is' parts) in
    let texts : text ≡ text' = ap (λ (p : Head × List ℕ). p.0.text) same in (
      texts,
      ap (λ (p : Head × List ℕ). p.0.site) same,
      none_are_packed_alike text ops ops' (are_history text site ops is.tells)
          (subst (λ (t : ℕ). IsHistory t ops') (sym texts) (are_history text' site' ops' is'.tells))
          (ap (λ (p : Head × List ℕ). p.1) same),
    )

-- and a file that is cut where no operation ends is nobody's
pub other_cuts : OtherCutsAreNobodys
other_cuts text site ops cut rest is apart text' site' ops' is' =
    let (more, texts, sites, parts, left) = first_told cut rest text' site' text site ops' ops is' is in
    let first : take (length ops') ops ≡ ops' =
    ap (take (length ops')) parts ∙ take_at ops' more (length ops') refl in
    apart (length ops') (is'.spelled ∙ ap (λ (t : ℕ). packed_bytes t site' ops') texts
    ∙ ap (λ (s : ℕ). packed_bytes text s ops') sites ∙ ap (packed_bytes text site) (sym first))
