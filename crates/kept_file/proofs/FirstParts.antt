-- First parts of packed files, and files that grow.
use Rattle.std.proofs.Common.{◌≡◌, ◌≢◌, ℕ, ◌<◌, inl, inr, List, ◌++◌, length, take, refl, sym, ap, subst}
use Rattle.std.proofs.Common.{◌∙◌, append_assoc, arith}
use Rattle.std.specs.Prelude.{AllPairs}
use Rattle.std.proofs.lemmas.Bool.{cases_lt}
use Rattle.std.proofs.lemmas.List.{get_or-take, length-take, take-take, take_all, take_at}
use Rattle.std.proofs.lemmas.List.Elements.{All-take}
use Rattle.operations.specs.Operation.{Operation}
use Rattle.operations.specs.Spelling.{HasSpelling}
use Rattle.tree_order.specs.Good.{Good}
use Rattle.set_laws.specs.Sets.{KeepsCauses}
use Rattle.packed.specs.Spelling.{packed, packed_after}
use Rattle.packed.specs.Told.{nothing_told, told}
use Rattle.kept_file.specs.PackedFiles.{FilesGrowAtTheEnd, FirstPartsAreFiles, HasPackedFile, TextsGrowAtTheEnd}
use Rattle.kept_file.specs.PackedFiles.{packed_bytes, packed_tag}
use Rattle.kept_file.specs.Parts.{packed_head_spelling}
use Rattle.kept_file.proofs.OnePacked.{file_parts, head_of}
use Rattle.kept_file.proofs.Packings.{packed_more}

module _ (n : ℕ) (ops : List Operation) where
  once_first : AllPairs (λ a b. a ≢ b) ops → AllPairs (λ a b. a ≢ b) (take n ops)
  once_first once i j d less lt =
      let in_front : j < n = omega (arith, lt, length-take n ops) in
      let within : j < length ops = omega (arith, lt, length-take n ops) in
      let before : i < n = omega (arith, less, in_front) in
      λ same. once i j d less within (sym (get_or-take n ops i d before) ∙ same ∙ get_or-take n ops j d in_front)

  in_order_first : KeepsCauses ops → KeepsCauses (take n ops)
  in_order_first in_order m = elim (cases_lt m n) [
    | inl less ↦ subst Good (sym (take-take m n ops (omega arith))) (in_order m)
    | inr more ↦ subst Good (sym (take_all m (take n ops) (omega (arith, more, length-take n ops)))) (in_order n)
  ]

  -- the first operations of a packed file are one's
  has_first : (text site : ℕ) → HasPackedFile text site ops → HasPackedFile text site (take n ops)
  has_first text site tells = record {
    text_number = tells.text_number;
    site_number = tells.site_number;
    few = let few = tells.few in omega (arith, few, length-take n ops);
    spelled = All-take HasSpelling n ops tells.spelled;
    of_text = All-take (λ op. op.text ≡ text) n ops tells.of_text;
    once = once_first tells.once;
    in_order = in_order_first tells.in_order;
  }

pub first_parts : FirstPartsAreFiles
first_parts text site ops more tells = record {
  tells = subst (HasPackedFile text site) (take_at ops more (length ops) refl)
      (has_first (length ops) (ops ++ more) text site tells);
  spelled = refl;
}

pub files_grow : FilesGrowAtTheEnd
files_grow text site ops more =
    let head : List ℕ = packed_head_spelling (head_of text site) in
    let added : List ℕ = packed_after (told ops) more in
    file_parts text site (ops ++ more)
    ∙ ap (λ (l : List ℕ). packed_tag ++ (head ++ l)) (packed_more nothing_told ops more)
    ∙ ap (λ (l : List ℕ). packed_tag ++ l) (sym (append_assoc head (packed ops) added))
    ∙ sym (append_assoc packed_tag (head ++ packed ops) added)
    ∙ ap (λ (l : List ℕ). l ++ added) (sym (file_parts text site ops))

pub texts_grow : TextsGrowAtTheEnd
texts_grow t new more texts sites parts =
    ap (λ (n : ℕ). packed_bytes n new.site new.operations) texts
    ∙ ap (λ (n : ℕ). packed_bytes t.text n new.operations) sites ∙ ap (packed_bytes t.text t.site) parts
    ∙ files_grow t.text t.site t.operations more
