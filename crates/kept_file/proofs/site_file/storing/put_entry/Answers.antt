use Rattle.std.proofs.Common.{◌≡◌, ◌++◌, ap, length, take, arith, ◌∙◌}
use Rattle.std.specs.Int.{w16}
use Rattle.std.proofs.lemmas.List.{take_all}
use Rattle.std.proofs.lemmas.Result.{err_from_is_err_and}
use Rattle.byte_fields.specs.Fields.{number_spelling}
use Rattle.byte_fields.proofs.Appended.{append_both, Appends-refused, left_in_front, none_appended}
use Rattle.operations.specs.Spelling.{spelling}
use Rattle.texts.specs.SiteFiles.{entry_spelling}
use Rattle.kept_file.proofs.Lengths.{spelling_fits}
use Rattle.kept_file.proofs.site_file.storing.put_entry.Goals as goal

pub overflow_cast-len : goal.overflow_cast-len
overflow_cast-len c =
    let whole : c.encode.new.out.items ≡ spelling c.args.op.now =
    c.in_ok-encode.ensures.ok ∙ ap (λ l. l ++ spelling c.args.op.now) c.clear.ensures.items in
    omega (arith, ap length whole, c.len.ensures, spelling_fits c.args.op.now c.lemma_has_spelling.ensures)

pub returns-in_err-encode-clause-entry : goal.returns-in_err-encode-clause-entry
returns-in_err-encode-clause-entry c =
    let refused = err_from_is_err_and c.from_residual.result c.from_residual.ensures.1 in
    none_appended c.from_residual.result c.args.out.now.items (entry_spelling c.args.op.now) refused.0 refused.1

pub returns-in_err-put_u16-clause-entry : goal.returns-in_err-put_u16-clause-entry
returns-in_err-put_u16-clause-entry c =
    let refused = err_from_is_err_and c.from_residual-in_err-put_u16.result c.from_residual-in_err-put_u16.ensures.1 in
    left_in_front c.from_residual-in_err-put_u16.result c.args.out.now.items c.put_u16.new.out.items
    (entry_spelling c.args.op.now) refused.0 refused.1 c.in_err-put_u16.ensures

pub returns-in_err-extend_from_slice-clause-entry : goal.returns-in_err-extend_from_slice-clause-entry
returns-in_err-extend_from_slice-clause-entry c =
    let refused = err_from_is_err_and c.from_residual-in_err-extend_from_slice.result
    c.from_residual-in_err-extend_from_slice.ensures.1 in
    let whole : c.encode.new.out.items ≡ spelling c.args.op.now =
    c.in_ok-encode.ensures.ok ∙ ap (λ l. l ++ spelling c.args.op.now) c.clear.ensures.items in
    let len : c.len.result ≡ length (spelling c.args.op.now) = omega (arith, c.len.ensures, ap length whole) in
    let one : c.put_u16.new.out.items ≡ c.args.out.now.items ++ number_spelling w16 (length (spelling c.args.op.now)) =
    c.in_ok-put_u16.ensures ∙ ap (λ n. c.args.out.now.items ++ number_spelling w16 n) len in
    let mid = c.put_u16.new.out.items in
    Appends-refused c.from_residual-in_err-extend_from_slice.result c.args.out.now.items mid
    c.extend_from_slice.new.self.items (number_spelling w16 (length (spelling c.args.op.now)))
    (entry_spelling c.args.op.now) one refused.0 refused.1
    (ap (λ l. take (length mid) l) c.in_err-extend_from_slice.ensures.items ∙ take_all (length mid) mid (omega arith))

pub returns-clause-entry : goal.returns-clause-entry
returns-clause-entry c =
    let whole : c.encode.new.out.items ≡ spelling c.args.op.now =
    c.in_ok-encode.ensures.ok ∙ ap (λ l. l ++ spelling c.args.op.now) c.clear.ensures.items in
    let len : c.len.result ≡ length (spelling c.args.op.now) = omega (arith, c.len.ensures, ap length whole) in
    let one : c.put_u16.new.out.items ≡ c.args.out.now.items ++ number_spelling w16 (length (spelling c.args.op.now)) =
    c.in_ok-put_u16.ensures ∙ ap (λ n. c.args.out.now.items ++ number_spelling w16 n) len in
    append_both c.args.out.now.items c.put_u16.new.out.items c.extend_from_slice.new.self.items
    (number_spelling w16 (length (spelling c.args.op.now))) (spelling c.args.op.now) one
    (c.in_ok-extend_from_slice.ensures.items ∙ ap (λ l. c.put_u16.new.out.items ++ l) (c.deref.ensures.value ∙ whole))
