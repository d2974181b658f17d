use Rattle.std.proofs.Common.{◌≡◌, ℕ, ◌+◌, ◌-◌, Bool, Option, ◌++◌, ap, subst, ◌∙◌, arith}
use Rattle.byte_fields.specs.Fields.{Appends}
use Rattle.byte_fields.proofs.Appended.{Appends-after}
use Rattle.packed.specs.declared.expected.Expected.{Expected}
use Rattle.packed.specs.Told.{Told, expected}
use Rattle.packed.specs.Spelling.{time_lead, edit_spelling}
use Rattle.packed.proofs.history.History.spell.Goals as goal

pub returns : goal.returns
returns c =
    let told = c.args.self.now in
    let op = c.args.op.now in
    let old = c.args.out.now.items in
    let mid = c.put_time.new.out.items in
    let e : Expected = expected told op.site in
    let e_is : c.expected-expected.result ≡ e = c.expected-expected.ensures ∙ ap (expected told) c.site.ensures in
    let stamp : c.expected-expected.result.stamp ≡ e.stamp = ap (λ (x : Expected). x.stamp) e_is in
    let more : c.stamp.result - c.expected-expected.result.stamp - 1 ≡ op.stamp - (e.stamp + 1) =
    omega (arith, c.stamp.ensures, stamp) in
    let last : c.self.inside.last ≡ told.last = ap (λ (t : Told). t.last) c.self.view_is in
    let in_chunk : c.self.inside.in_chunk ≡ told.in_chunk = ap (λ (t : Told). t.in_chunk) c.self.view_is in
    let both : ◌≡◌ {A = Bool × Expected} (c.self.inside.in_chunk, c.expected-expected.result) (told.in_chunk, e) =
    ap (λ (b : Bool). (b, c.expected-expected.result)) in_chunk ∙ ap (λ (x : Expected). (told.in_chunk, x)) e_is in
    let timed : mid ≡ old ++ time_lead told.last op.site (op.stamp - (e.stamp + 1)) =
    c.in_ok-put_time.ensures
    ∙ ap (λ (l : Option ℕ). old ++ time_lead l c.site-2.result (c.stamp.result - c.expected-expected.result.stamp - 1)) last
    ∙ ap (λ (s : ℕ). old ++ time_lead told.last s (c.stamp.result - c.expected-expected.result.stamp - 1)) c.site-2.ensures
    ∙ ap (λ (n : ℕ). old ++ time_lead told.last op.site n) more in
    Appends-after c.put_edit.result old mid c.put_edit.new.out.items
    (time_lead told.last op.site (op.stamp - (e.stamp + 1))) (edit_spelling told.in_chunk e op.kind) timed
    (subst (λ (x : Bool × Expected). Appends c.put_edit.result mid c.put_edit.new.out.items (edit_spelling x.0 x.1 op.kind)) both
    c.put_edit.ensures)
