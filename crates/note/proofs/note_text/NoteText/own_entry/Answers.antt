use Rattle.std.proofs.Common.{◌≡◌, ℕ, refl, subst, sym, ◌∙◌, arith}
use Rattle.note_bodies.specs.Writing.{nothing_said}
use Rattle.note.specs.Own.{len_in}
use Rattle.note.specs.Texts.{NoteText}
use Rattle.note.proofs.OwnEntries.{next_entry, none_left}
use Rattle.note.proofs.note_text.NoteText.own_entry.Goals as goal

pub returns-then-count-eq0-clause-ok : goal.returns-then-count-eq0-clause-ok
returns-then-count-eq0-clause-ok c = λ last said have.
    let empty = subst (λ (t : NoteText). c.in_ok-body.body ≡ nothing_said t.replica.text) c.self.view_is
    (subst (λ (n : ℕ). c.in_ok-body.body ≡ nothing_said n) c.text.ensures c.in_ok-body.ensures.ok) in
    none_left c.args.key.now c.args.author c.args.self.now last said c.args.turn.now c.write_body.new.turn c.write_body.new.body
    (c.in_ok-write_body.ensures.ok last said have empty) (sym c.count-count.ensures ∙ c.if-count-eq0.true)

pub returns-clause-ok : goal.returns-clause-ok
returns-clause-ok c = λ last said have.
    let empty = subst (λ (t : NoteText). c.in_ok-body.body ≡ nothing_said t.replica.text) c.self.view_is
    (subst (λ (n : ℕ). c.in_ok-body.body ≡ nothing_said n) c.text.ensures c.in_ok-body.ensures.ok) in
    next_entry c.args.key.now c.args.author c.args.self.now last said c.args.turn.now c.write_body.new.turn c.write_body.new.body
    (record {
      head = record {
        author = c.args.author;
        site = c.site.result;
        text = c.text-2.result;
        first = c.args.turn.now.seq;
        count = c.count-count.result;
        before = c.args.turn.now.before;
      };
      body = c.in_ok-finish.field-0;
    })
    have (c.in_ok-write_body.ensures.ok last said have empty)
    (record {
      author_is = refl;
      site_is = subst (λ (t : NoteText). c.site.result ≡ t.replica.site) c.self.view_is c.site.ensures;
      text_is = subst (λ (t : NoteText). c.text-2.result ≡ t.replica.text) c.self.view_is c.text-2.ensures;
      some = omega (arith, c.if-count-eq0.false);
    })
    refl refl c.count-count.ensures
    (λ more. c.in_ok-finish.ensures.messages c.args.key.now (record {
      author = c.args.author;
      site = c.site.result;
      text = c.text-2.result;
      first = c.args.turn.now.seq;
      count = c.count-count.result;
      before = c.args.turn.now.before;
    }) (λ op. len_in c.args.self.now op) more)
