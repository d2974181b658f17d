use Rattle.std.proofs.Common.{List, ap, subst}
use Rattle.std.specs.Prelude.{IfNone}
use Rattle.note_laws.specs.Note.{Claim, Entries}
use Rattle.note_entries.specs.Claims.{IsUnclaimed}
use Rattle.note_entries.proofs.kept_entries.KeptEntries.claimant.Goals as goal

pub returns-clause-none : goal.returns-clause-none
returns-clause-none c =
    subst (λ (claims : List Claim). IfNone c.claimant.result (IsUnclaimed claims c.args.site))
    (ap (λ (e : Entries). e.claims) c.self.view_is) c.claimant.ensures.none
