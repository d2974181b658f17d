use Rattle.std.proofs.Common.{◌≡◌, List, Contains, ap, subst}
use Rattle.std.specs.Prelude.{IfNone}
use Rattle.note_laws.specs.Note.{Entries, Saying}
use Rattle.note_entries.specs.Branches.{Place, place_in_chain}
use Rattle.note_entries.proofs.kept_entries.KeptEntries.least.Goals as goal

pub returns-clause-none : goal.returns-clause-none
returns-clause-none c =
    let place : Place = record {
      author = c.args.author;
      text = c.args.text;
      site = c.args.site;
      seq = c.args.seq;
      before = c.args.before;
    } in
    subst (λ (said : List Saying). IfNone c.least.result ((s : Saying) → Contains said s → ¬ (place_in_chain s ≡ place)))
    (ap (λ (e : Entries). e.said) c.self.view_is) c.least.ensures.none
