use Rattle.std.proofs.Common.{◌&&◌, ℕ, List, sym, ap, subst, ◌∙◌, filter}
use Rattle.std.specs.List.{AllZip}
use Rattle.char_files.specs.CharName.{CharName}
use Rattle.operations.specs.NameSet.{IsSet}
use Rattle.operations.specs.Operation.{Operation}
use Rattle.note_laws.specs.Admission.{said_of}
use Rattle.note_admission.specs.Continuing.{is_past, AreMentionedIn}
use Rattle.note_admission.specs.Kept.{IsHashOfInsert, is_past_seen}
use Rattle.note_admission.specs.Ranges.{lasts_of, mentioned_ranges_by}
use Rattle.note_admission.proofs.Between.{builds_on_both, filtered}
use Rattle.note_admission.proofs.Fating.{lasts_told}
use Rattle.note_admission.proofs.admitted.Admitted.builds_on.Goals as goal

pub returns-clause-ok : goal.returns-clause-ok
returns-clause-ok g c =
    let kept = c.args.self.now in
    let op = c.args.op.now in
    let ops = c.args.log.now.ops in
    let between = c.args.between.now in
    let hashes = c.in_ok-hashes.hashes.items in
    let digest = g.D.Digest.digest c.args.digest.now in
    λ note admitted more same is are given s of on.
    let set = subst (λ (o : Operation). IsSet (mentioned_ranges_by o.kind)) (sym of)
    (subst IsSet c.in_ok-ranges.ensures.ok c.in_ok-ranges.ensures.set) in
    let lasts = lasts_told kept op s.op c.site.result c.in_ok-ranges.ranges.items c.deref.result.now
    c.in_ok-lasts.lasts.items c.deref-2.result.now (sym of) c.site.ensures c.deref.ensures.value
    c.in_ok-ranges.ensures.ok c.in_ok-lasts.ensures.ok c.deref-2.ensures.value in
    let past = c.deref-4.ensures.value ∙ c.in_ok-past.ensures.ok ∙ ap (filter (is_past between)) lasts
    ∙ filtered (is_past_seen kept s.op.site) (is_past between) (mentioned_ranges_by s.op.kind) in
    let found = subst (λ (xs : List CharName). AllZip (IsHashOfInsert ops kept.hashes) xs hashes) past
    c.in_ok-hashes.ensures.ok in
    let inserted = subst (λ (o : List Operation). AllZip (IsHashOfInsert o kept.hashes)
    (lasts_of (λ n. is_past_seen kept s.op.site n && is_past between n) (mentioned_ranges_by s.op.kind)) hashes) (sym same) found in
    let says = on ∙ (c.said_of.ensures ∙ ap (said_of digest) c.deref-5.ensures.value) in
    let are_of = subst (λ (o : Operation). AreMentionedIn o.site more between) (sym of) are in
    builds_on_both note admitted more kept is between s are_of set hashes inserted (says ∙ ap (λ (d : List ℕ → ℕ). said_of d hashes) (sym given))
