use Rattle.std.proofs.Common.{◌≡◌, List, length, ap, subst, sym, ◌∙◌, arith}
use Rattle.std.proofs.lemmas.List.{length-map}
use Rattle.list_changes.specs.declared.change.Change.{Change}
use Rattle.piece_list.specs.Spelled.{shown_chars, spelled}
use Rattle.taken_text.specs.Noted.{AreChangesSince, insertion_of}
use Rattle.taken_text.specs.Taken.{char_in, chars_shown}
use Rattle.taken_text.proofs.Noting.{since_together}
use Rattle.taken_text.proofs.taken_text.TakenText.note_together.Goals as goal

pub invariant_of-self : goal.invariant_of-self
invariant_of-self c =
    let t = c.self.inside in
    let none : t.asked ≡ 0 = omega (arith, c.if-self-gt0.false) in
    let shown : c.shown_len.result ≡ length (chars_shown t.pieces.items t.files) =
    c.shown_len.ensures ∙ sym (length-map (shown_chars (spelled t.pieces.items)) (char_in t.files)) in
    record {
      taken = c.self.invariant.taken;
      noted = subst (λ (note : List Change). AreChangesSince t.asked t.log.ops note (chars_shown t.pieces.items t.files))
          (sym (c.in_ok-self-inside.ensures.ok ∙ ap insertion_of shown))
          (since_together t.asked t.log.ops t.pieces.items t.files none c.self.invariant.taken);
    }
