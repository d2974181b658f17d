use Rattle.std.proofs.Common.{◌≡◌, ℕ, ◌+◌, ◌<◌, ◌≤◌, length, List, ap, ◌∙◌, arith, subst, sym}
use Rattle.std.proofs.lemmas.List.Elements.{All-from_get_or}
use Rattle.char_files.specs.declared.TheConstants.{MAX_FILE}
use Rattle.operations.specs.Operation.{Operation}
use Rattle.operations.specs.Spelling.{IsCause}
use Rattle.set_laws.specs.Fronts.{file_len}
use Rattle.texts.specs.Edit.{anchor_before}
use Rattle.texts.specs.TextState.{TextState, shown_of}
use Rattle.texts.proofs.Made.{fits_in_file, same_insert}
use Rattle.texts.proofs.replica.Replica.own_insert.Goals as goal

pub returns : goal.returns
returns c =
    let t = c.args.self.now in
    let r = c.self.inside in
    let bytes = c.args.bytes.now in
    let room : file_len t.operations t.site + length bytes ≤ MAX_FILE =
    fits_in_file t (anchor_before (shown_of t) c.args.pos) (file_len t.operations t.site) c.args.looks.now bytes c.requires.allowed in
    let at : c.file_len.result ≡ file_len t.operations t.site =
    c.file_len.ensures.value ∙ ap (λ (ops : List Operation). file_len ops r.site) c.log.ensures
    ∙ ap (λ (t : TextState). file_len t.operations t.site) c.self.view_is in
    let len : length c.in_ok-from_slice.field-0.items ≡ length bytes = ap (length {A = ℕ}) c.in_ok-from_slice.ensures.items in (
      same_insert _ _ _ _ _ _ _ _ c.own_cause.ensures.value at c.copy.ensures c.in_ok-from_slice.ensures.items,
      record {
        caused = subst (λ (k : ℕ). IsCause t.site k c.own_cause.result) (sym at) c.own_cause.ensures.cause;
        valid_looks = rw c.copy.ensures c.lemma_are_in_range.ensures;
        some = omega (arith, len, c.requires.some);
        few = omega (arith, len, c.requires.few);
        in_file = omega (arith, len, at, room);
        valid_bytes = rw c.in_ok-from_slice.ensures.items (All-from_get_or (λ b. b < 256) bytes 0 (λ i lt. omega (arith, c.type_inv.bytes i)));
      },
    )
