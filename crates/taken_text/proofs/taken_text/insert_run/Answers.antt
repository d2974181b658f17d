use Rattle.std.proofs.Common.{◌≡◌, ◌==◌, List, ℕ, All, sym, ap, subst, ◌∙◌, arith}
use Rattle.std.proofs.lemmas.Bool.{eqb-true}
use Rattle.looks.specs.declared.looks.Looks.{Looks}
use Rattle.list_changes.specs.Changes.{IsOfKind}
use Rattle.list_changes.specs.declared.change.ChangeKind.TheVariants.{Insert}
use Rattle.operations.specs.Operation.{OpKind, insert}
use Rattle.operations.specs.Seen.{kind_of}
use Rattle.piece_list.specs.declared.run.Run.{Run}
use Rattle.taken_text.specs.Noted.{IsChangeOf}
use Rattle.taken_text.specs.Taken.{chars_shown}
use Rattle.taken_text.proofs.Bytes.{appended}
use Rattle.taken_text.proofs.Noting.{gains_told, shown_stay}
use Rattle.taken_text.proofs.Taking.{cause_here, names_new, taken_with_run}
use Rattle.taken_text.proofs.taken_text.insert_run.Goals as goal

pub place_noting-requires-clause-here : goal.place_noting-requires-clause-here
place_noting-requires-clause-here c =
    let a = c.args in
    let i = c.in-Insert in
    cause_here a.log.now.ops a.op.now a.pieces.now.items a.files.now c.requires.taken c.requires.new c.requires.ready
    i.cause i.at i.looks i.bytes.items (sym c.kind.ensures ∙ ap kind_of i.is)

pub place_noting-requires-clause-new : goal.place_noting-requires-clause-new
place_noting-requires-clause-new c =
    let a = c.args in
    let i = c.in-Insert in
    let names = names_new a.log.now.ops a.op.now a.pieces.now.items a.files.now c.requires.taken c.requires.new
    c.requires.ready i.cause i.at i.looks i.bytes.items (sym c.kind.ensures ∙ ap kind_of i.is) in
    λ name h has. names name (h.0 ∙ c.site.ensures, h.1, omega (arith, h.2, c.len.ensures)) has

pub returns-clause-ok : goal.returns-clause-ok
returns-clause-ok c =
    let a = c.args in
    let i = c.in-Insert in
    let bytes : List ℕ = i.bytes.items in
    let kind : a.op.now.kind ≡ insert i.cause i.at i.looks bytes = sym c.kind.ensures ∙ ap kind_of i.is in
    let (own, others) = appended a.files.now c.reserve.new.self c.append.new.self a.op.now.site c.site-3.result bytes
    c.deref.result.now c.site-3.ensures c.deref.ensures.value c.in_ok-reserve.ensures.unchanged
    c.in-Ok.ensures.ok c.in-Ok.ensures.others in
    let run : Run = record {
      site = c.site.result;
      off = i.at;
      len = c.len.result;
      key = c.key.result;
      rising = c.len-2.result == 1;
      looks = c.copy.result;
    } in
    let of = kind ∙ ap (λ (l : Looks). insert i.cause i.at l bytes) (sym c.copy.ensures) in
    taken_with_run a.log.now.ops a.op.now a.pieces.now.items a.files.now c.requires.taken c.requires.new
    c.requires.ready i.cause i.at i.looks bytes kind run
    (i.cause, bytes, of, c.site.ensures, omega (arith, c.len.ensures), c.key.ensures, λ rises. omega (arith, eqb-true c.len-2.result 1 rises, c.len.ensures, c.len-2.ensures))
    c.place_noting.new.self.items c.append.new.self c.in_ok-place_noting.ensures.placed own others

pub returns-clause-noted : goal.returns-clause-noted
returns-clause-noted c =
    let a = c.args in
    let i = c.in-Insert in
    let bytes : List ℕ = i.bytes.items in
    let kind : a.op.now.kind ≡ insert i.cause i.at i.looks bytes = sym c.kind.ensures ∙ ap kind_of i.is in
    let (own, others) = appended a.files.now c.reserve.new.self c.append.new.self a.op.now.site c.site-3.result bytes
    c.deref.result.now c.site-3.ensures c.deref.ensures.value c.in_ok-reserve.ensures.unchanged
    c.in-Ok.ensures.ok c.in-Ok.ensures.others in
    gains_told a.log.now.ops a.op.now (IsOfKind Insert) a.note.now.items c.place_noting.new.note.items
    a.pieces.now.items c.place_noting.new.self.items a.files.now c.append.new.self (returns-clause-ok c)
    (shown_stay a.log.now.ops a.pieces.now.items a.files.now c.append.new.self a.op.now.site bytes c.requires.taken own
    others)
    (λ changes all. subst (λ (k : OpKind). All (IsChangeOf k (chars_shown a.pieces.now.items a.files.now)) changes)
    (sym kind) all)
    c.in_ok-place_noting.ensures.noted
