use Rattle.std.proofs.Common.{◌≡◌, ◌<◌, ◌-◌, length, slice_index_or, arith, subst, sym}
use Rattle.std.proofs.lemmas.Result.{IfOk-weaker}
use Rattle.note.specs.Editing.{SayAllLeft}
use Rattle.note.specs.Notes.{NoteSeen}
use Rattle.note.specs.Texts.{NoteText}
use Rattle.note.proofs.Editing.{numbered}
use Rattle.note.proofs.note.Note.own_entries.Goals as goal

pub returns-clause-all : goal.returns-clause-all
returns-clause-all c =
    let texts = c.self.inside.texts.items in
    let at = c.in-Some.at in
    let t = c.index.result.now in
    let many = c.self.invariant.many in
    let (nth, below) = c.in-Some.ensures.some in
    let lt : at < length texts = omega arith in
    IfOk-weaker c.own_entries.result _ _ (λ entries all. λ (d : NoteText).
    let same = subst (λ (n : NoteSeen). slice_index_or n.texts (c.args.text - 1) d ≡ t) c.self.view_is
    (numbered texts c.args.text at d t nth lt c.index.ensures) in
    subst (λ (u : NoteText). SayAllLeft c.args.self.now.key c.args.author u entries.items) (sym same)
    (subst (λ (n : NoteSeen). SayAllLeft n.key c.args.author t entries.items) c.self.view_is all)) c.own_entries.ensures.all
