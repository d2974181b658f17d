use Rattle.std.proofs.Common.{◌≡◌, ℕ, List, All, Option, IfSome, length, refl, sym, ap, subst, arith}
use Rattle.std.specs.Prelude.{MatchOption}
use Rattle.note_laws.specs.Chains.{operations}
use Rattle.note.specs.Editing.{IsOwnEntry, own_left}
use Rattle.note.specs.Own.{IsNextEntry}
use Rattle.note.specs.declared.own_entry.OwnEntry.{OwnEntry}
use Rattle.note.proofs.Each.{pushed}
use Rattle.note.proofs.OwnEntries.{AreEntriesSoFar, entry_made}
use Rattle.note.proofs.OwnSteps.{nothing_made}
use Rattle.note.proofs.note_text.NoteText.own_entries.Goals as goal

pub loop-entries-init : goal.loop-entries-init
loop-entries-init c =
    let none = ap length c.new-entries.ensures.items in
    let fits = c.front.type_inv in
    record {
      heads = λ k d lt. absurd (omega arith);
      so_far = subst (λ (es : List OwnEntry). AreEntriesSoFar c.args.key.now c.args.author c.args.self.now
          (record { place = c.self.inside.alike; seq = c.saturating_add.result; before = c.last.result; between = c.new.result }) es)
          (sym c.new-entries.ensures.items)
          (nothing_made c.args.key.now c.args.author _ c.args.self.now c.self.view_is c.self.invariant
          (record { place = c.self.inside.alike; seq = c.saturating_add.result; before = c.last.result; between = c.new.result })
          c.site-site.result c.front.result c.site-site.ensures c.front.ensures (omega arith) refl c.saturating_add.ensures
          c.last.ensures c.new.ensures);
    }

pub loop-entries-preserved : goal.loop-entries-preserved
loop-entries-preserved c =
    let so : OwnEntry → Type 0 = IsOwnEntry c.args.author c.args.self.now in
    let one = subst (λ (o : Option OwnEntry). IfSome o so) c.in-Some.is c.in_ok-entry.ensures.some in
    let was = c.loop-entries.invariant.so_far in
    let next = subst (λ (o : Option OwnEntry). MatchOption o (operations was.said ≡ own_left c.args.self.now)
    (λ made. IsNextEntry c.args.key.now c.args.author c.args.self.now was.last was.said c.loop-entries.turn made c.own_entry.new.turn))
    c.in-Some.is (c.in_ok-entry.ensures.ok was.last was.said was.have) in
    record {
      heads = subst (λ (es : List OwnEntry). All so es) (sym c.in_ok-push.ensures.items)
          (pushed (λ (k : ℕ) (e : OwnEntry). so e) c.loop-entries.entries.items c.in-Some.entry c.loop-entries.invariant.heads one);
      so_far = subst (λ (es : List OwnEntry). AreEntriesSoFar c.args.key.now c.args.author c.args.self.now c.own_entry.new.turn es)
          (sym c.in_ok-push.ensures.items)
          (entry_made c.args.key.now c.args.author c.args.self.now c.loop-entries.turn c.own_entry.new.turn
          c.loop-entries.entries.items c.in-Some.entry was next);
    }
