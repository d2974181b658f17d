use Rattle.std.proofs.Common.{◌≡◌, [], ◌∷◌, ◌++◌, ◌+◌, List, length, refl, sym, ap, subst, ◌∙◌, arith}
use Rattle.std.proofs.Math.ListN.{set}
use Rattle.note_laws.specs.Note.{Saying}
use Rattle.note_entries.proofs.Places.{their_place}
use Rattle.note_entries.specs.Branches.{IsPutSaying, place_in_chain}
use Rattle.note_entries.specs.Rows.{IsRow, row_begin}
use Rattle.note_entries.proofs.Standing.{put_pushed, row_pushed, set_there}
use Rattle.note_entries.proofs.rows.Row.put.Goals as goal

-- it follows the last one
next : (c : goal.In_ok-push) → c.args.saying.op.seq ≡ length c.args.self.now + 1
next c =
    let had = c.in-Some.ensures in
    let seq = c.seq.ensures in
    let its : c.saying.inside.op.seq ≡ c.args.saying.op.seq = ap (λ (s : Saying). s.op.seq) c.saying.view_is in
    let last = c.if-index-len.true in
    let len = c.len.ensures in
    let long = c.self.inside.said.ok.0 in
    let all : length c.self.inside.said.items ≡ length c.args.self.now = ap (λ (row : List Saying). length row) c.self.view_is in
    omega arith

pushed : (c : goal.In_ok-push) → c.push.new.self.items ≡ c.args.self.now ++ c.args.saying ∷ []
pushed c = c.in_ok-push.ensures.items ∙ ap (λ (row : List Saying). row ++ c.args.saying ∷ []) c.self.view_is

pub returns-then-index-len-clause-ok : goal.returns-then-index-len-clause-ok
returns-then-index-len-clause-ok c =
    subst (IsPutSaying c.args.self.now c.args.saying) (sym (pushed c))
    (put_pushed (row_begin (place_in_chain c.args.saying)) c.args.self.now c.requires c.args.saying refl (next c))

pub returns-then-index-len-clause-row : goal.returns-then-index-len-clause-row
returns-then-index-len-clause-row c =
    subst (IsRow (row_begin (place_in_chain c.args.saying))) (sym (pushed c))
    (row_pushed (row_begin (place_in_chain c.args.saying)) c.args.self.now c.requires c.args.saying refl (next c))

pub returns-in-Some-at-clause-ok : goal.returns-in-Some-at-clause-ok
returns-in-Some-at-clause-ok c =
    let had = c.in-Some.ensures in
    let seq = c.seq.ensures in
    let its : c.saying.inside.op.seq ≡ c.args.saying.op.seq = ap (λ (s : Saying). s.op.seq) c.saying.view_is in
    let at : c.args.saying.op.seq ≡ c.in-Some.index + 1 = omega arith in
    let (held, same) = c.in-Some-at.ensures.some in
    subst (λ (row : List Saying). IsPutSaying c.args.self.now c.args.saying (set row c.in-Some.index c.args.saying)) (sym c.self.view_is)
    (set_there (row_begin (place_in_chain c.args.saying)) c.args.self.now c.requires c.args.saying refl c.in-Some.index at
    c.in-Some-at.field-0.now held (same ∙ c.of.ensures)).1

pub returns-in-Some-at-clause-row : goal.returns-in-Some-at-clause-row
returns-in-Some-at-clause-row c =
    let had = c.in-Some.ensures in
    let seq = c.seq.ensures in
    let its : c.saying.inside.op.seq ≡ c.args.saying.op.seq = ap (λ (s : Saying). s.op.seq) c.saying.view_is in
    let at : c.args.saying.op.seq ≡ c.in-Some.index + 1 = omega arith in
    let (held, same) = c.in-Some-at.ensures.some in
    subst (λ (row : List Saying). IsRow (row_begin (place_in_chain c.args.saying)) (set row c.in-Some.index c.args.saying))
    (sym c.self.view_is)
    (set_there (row_begin (place_in_chain c.args.saying)) c.args.self.now c.requires c.args.saying refl c.in-Some.index at
    c.in-Some-at.field-0.now held (same ∙ c.of.ensures)).0

pub returns-in-None-clause-ok : goal.returns-in-None-clause-ok
returns-in-None-clause-ok c = (
  refl,
  refl,
  λ kept held are. c.in-None.ensures.none kept held (sym (their_place c.args.saying kept are) ∙ sym c.of.ensures),
)
