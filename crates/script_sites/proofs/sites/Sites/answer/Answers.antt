use Rattle.std.proofs.Common.{subst}
use Rattle.shelved_texts.specs.Filing.{shelf_seen}
use Rattle.script_sites.proofs.Answering.{AnsweredAfter, answered_then, held_then, sound_end, sound_then}
use Rattle.script_sites.proofs.sites.Sites.answer.Goals as goal

pub let_go-requires : goal.let_go-requires
let_go-requires g c =
    let s = c.self.inside.desks in
    let new = c.answer-answered.new.self in
    let told = shelf_seen (g.S.Shelf.files c.args.shelf.now) (g.S.Shelf.faults c.args.shelf.now) in
    let told' = shelf_seen (g.S.Shelf.files c.answer-answered.new.shelf) (g.S.Shelf.faults c.answer-answered.new.shelf) in
    let (answer, puts, over) = c.answer-answered.ensures in
    let answered = subst (AnsweredAfter s new told told' c.args.line.now answer) c.deref.ensures.value over in
    held_then s new told told' c.args.line.now answer c.self.inside.sent.items answered c.self.invariant.0 c.self.invariant.1

pub invariant_of-self : goal.invariant_of-self
invariant_of-self g c =
    let s = c.self.inside.desks in
    let new = c.answer-answered.new.self in
    let told = shelf_seen (g.S.Shelf.files c.args.shelf.now) (g.S.Shelf.faults c.args.shelf.now) in
    let told' = shelf_seen (g.S.Shelf.files c.answer-answered.new.shelf) (g.S.Shelf.faults c.answer-answered.new.shelf) in
    let (answer, puts, over) = c.answer-answered.ensures in
    let answered = subst (AnsweredAfter s new told told' c.args.line.now answer) c.deref.ensures.value over in
    let sound = sound_then s new told told' c.args.line.now answer c.self.inside.sent.items answered c.self.invariant.0 c.self.invariant.1 in
    (c.let_go.ensures.held, sound_end new c.let_go.new.self c.self.inside.sent.items c.let_go.new.noted.items c.let_go.ensures.same sound)

pub returns : goal.returns
returns g c =
    let s = c.self.inside.desks in
    let new = c.answer-answered.new.self in
    let told = shelf_seen (g.S.Shelf.files c.args.shelf.now) (g.S.Shelf.faults c.args.shelf.now) in
    let told' = shelf_seen (g.S.Shelf.files c.answer-answered.new.shelf) (g.S.Shelf.faults c.answer-answered.new.shelf) in
    let (answer, puts, over) = c.answer-answered.ensures in
    let answered = subst (AnsweredAfter s new told told' c.args.line.now answer) c.deref.ensures.value over in
    rw (← c.self.view_is) (
      answer,
      puts,
      answered_then s new told told' c.args.line.now answer c.self.inside.sent.items answered c.self.invariant.0 c.self.invariant.1
          c.let_go.new.self c.let_go.new.noted.items c.let_go.ensures.same,
    )
