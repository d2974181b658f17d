use Rattle.std.proofs.Common.{ap, subst, ◌∙◌}
use Rattle.note_hashes.specs.Hashes.{digest_of}
use Rattle.note_admission.specs.Growing.{AdmissionGrows}
use Rattle.note_admission.specs.Standing.{AreChainsOf}
use Rattle.note_replicas.proofs.Ready.{on_itself}
use Rattle.note.specs.Texts.{NoteText}
use Rattle.note.proofs.Following.{grown, noting_on, noting_then, place_then, same_place}
use Rattle.note.proofs.note_text.NoteText.update.Goals as goal

pub returns-in_err-compare-clause-grown : goal.returns-in_err-compare-clause-grown
returns-in_err-compare-clause-grown c =
    let t = c.args.self.now in
    let is = c.self.view_is in
    let grows = subst (λ (u : NoteText). AdmissionGrows (digest_of c.args.key.now) (λ note entries. AreChainsOf c.args.chains.now note entries)
    u.admission c.settle.new.self) is c.settle.ensures.grown in
    let compared = same_place t.replica c.compare.new.self.replica
    (c.in_err-compare.ensures.replica ∙ ap (λ (u : NoteText). u.replica) is) in
    grown c.args.key.now c.args.chains.now t c.compare.new.self c.settle.new.self grows
    (c.settle.ensures.text ∙ ap (λ (u : NoteText). u.admission.text) is)
    (c.in_err-compare.ensures.admission)
    (compared)
    (noting_on t c.compare.new.self (c.in_err-compare.ensures.anew ∙ ap (λ (u : NoteText). u.anew) is)
    (on_itself t.replica c.compare.new.self.replica (c.in_err-compare.ensures.replica ∙ ap (λ (u : NoteText). u.replica) is)))

pub returns-in_err-begin_anew-clause-grown : goal.returns-in_err-begin_anew-clause-grown
returns-in_err-begin_anew-clause-grown c =
    let t = c.args.self.now in
    let is = c.self.view_is in
    let grows = subst (λ (u : NoteText). AdmissionGrows (digest_of c.args.key.now) (λ note entries. AreChainsOf c.args.chains.now note entries)
    u.admission c.settle.new.self) is c.settle.ensures.grown in
    let compared = same_place t.replica c.compare.new.self.replica
    (c.in_ok-compare.ensures.replica ∙ ap (λ (u : NoteText). u.replica) is) in
    grown c.args.key.now c.args.chains.now t c.begin_anew.new.self c.settle.new.self grows
    (c.settle.ensures.text ∙ ap (λ (u : NoteText). u.admission.text) is)
    (c.in_err-begin_anew.ensures.admission ∙ c.in_ok-compare.ensures.admission)
    (place_then t.replica c.compare.new.self.replica c.begin_anew.new.self.replica compared c.in_err-begin_anew.ensures.same.1)
    (noting_then t c.compare.new.self c.begin_anew.new.self
    (noting_on t c.compare.new.self (c.in_ok-compare.ensures.anew ∙ ap (λ (u : NoteText). u.anew) is)
    (on_itself t.replica c.compare.new.self.replica (c.in_ok-compare.ensures.replica ∙ ap (λ (u : NoteText). u.replica) is)))
    (λ kept. let (was, same) = c.in_err-begin_anew.ensures.noting kept in (was, on_itself c.compare.new.self.replica c.begin_anew.new.self.replica same)))

pub returns-clause-grown : goal.returns-clause-grown
returns-clause-grown c =
    let t = c.args.self.now in
    let is = c.self.view_is in
    let grows = subst (λ (u : NoteText). AdmissionGrows (digest_of c.args.key.now) (λ note entries. AreChainsOf c.args.chains.now note entries)
    u.admission c.settle.new.self) is c.settle.ensures.grown in
    let compared = same_place t.replica c.compare.new.self.replica
    (c.in_ok-compare.ensures.replica ∙ ap (λ (u : NoteText). u.replica) is) in
    grown c.args.key.now c.args.chains.now t c.take.new.self c.settle.new.self grows
    (c.settle.ensures.text ∙ ap (λ (u : NoteText). u.admission.text) is)
    (c.take.ensures.admission ∙ (c.in_ok-begin_anew.ensures.admission ∙ c.in_ok-compare.ensures.admission))
    (place_then t.replica c.begin_anew.new.self.replica c.take.new.self.replica
    (place_then t.replica c.compare.new.self.replica c.begin_anew.new.self.replica compared c.in_ok-begin_anew.ensures.same.1)
    c.take.ensures.same.1)
    (noting_then t c.begin_anew.new.self c.take.new.self
    (noting_then t c.compare.new.self c.begin_anew.new.self
    (noting_on t c.compare.new.self (c.in_ok-compare.ensures.anew ∙ ap (λ (u : NoteText). u.anew) is)
    (on_itself t.replica c.compare.new.self.replica (c.in_ok-compare.ensures.replica ∙ ap (λ (u : NoteText). u.replica) is)))
    (λ kept. let (was, same) = c.in_ok-begin_anew.ensures.noting kept in (was, on_itself c.compare.new.self.replica c.begin_anew.new.self.replica same)))
    (noting_on c.begin_anew.new.self c.take.new.self c.take.ensures.anew c.take.ensures.on))
