use Rattle.std.proofs.Common.{◌≡◌, ◌<◌, ◌-◌, ◌++◌, ◌∷◌, [], ℕ, List, Option, length, sym, ap, refl, subst, arith, ◌∙◌, slice_index_or}
use Rattle.std.proofs.lemmas.List.{same_from_push}
use Rattle.std.specs.Prelude.{option_to_list, slice_range, take}
use Rattle.texts.specs.Parts.{AreEnds, part_beg, parts}
use Rattle.texts.proofs.Parts.{has_end, part_less}
use Rattle.texts.proofs.outbox.Outbox.take_back.Goals as goal

-- without the last end, and the bytes of its part, the ends are right, and the parts are those before that one
others : (c : goal.After-truncate) → let bytes = c.truncate.new.self.items in
    let ends = c.pop.new.self.items in
    AreEnds 0 ends (length bytes) × ((last : List ℕ) × (c.args.self.now ≡ parts bytes 0 ends ++ last ∷ []))
others c =
    let v = c.self.inside in
    let left = c.pop.new.self.items in
    let some : 0 < v.ends.len =
    omega (arith, has_end v.bytes.items v.ends.items 0 (λ none. c.requires (sym c.self.view_is ∙ none)), v.ends.ok.0) in
    let last = slice_index_or v.ends.items (v.ends.len - 1) 0 in
    let ends : v.ends.items ≡ left ++ last ∷ [] =
    c.pop.ensures.items ∙ ap (λ (popped : Option ℕ). left ++ option_to_list popped) (c.pop.ensures.value 0 some) in
    let beg : c.beg_of.result ≡ part_beg left (length left) =
    rw (c.beg_of.ensures, c.as_slice-ends.ensures.value) refl in
    let cut : c.truncate.new.self.items ≡ take (part_beg left (length left)) v.bytes.items =
    c.truncate.ensures.items ∙ ap (λ (beg : ℕ). take beg v.bytes.items) beg in
    let (are, parted) = part_less v.bytes.items left last
    (subst (λ (ends : List ℕ). AreEnds 0 ends (length v.bytes.items)) ends c.self.invariant) in
    let part = slice_range v.bytes.items (part_beg left (length left)) last in (
      subst (λ (bytes : List ℕ). AreEnds 0 left (length bytes)) (sym cut) are,
      (
        part,
        sym c.self.view_is ∙ ap (parts v.bytes.items 0) ends ∙ parted
            ∙ ap (λ (bytes : List ℕ). parts bytes 0 left ++ part ∷ []) (sym cut),
      ),
    )

pub invariant_of-self : goal.invariant_of-self
invariant_of-self c = (others c).0

pub returns : goal.returns
returns c messages message was = (same_from_push _ messages _ message (sym (others c).1.1 ∙ was)).0
