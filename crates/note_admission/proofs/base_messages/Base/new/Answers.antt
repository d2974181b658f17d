use Rattle.std.proofs.Common.{◌≡◌, ◌⊎◌, ◌↔◌, ℕ, Contains, ap, subst, ◌∙◌}
use Rattle.std.specs.Map.{values_of}
use Rattle.std.proofs.lemmas.Map.Keys.{IsDistinct-from_sorted}
use Rattle.note_laws.specs.Note.{Saying}
use Rattle.note_admission.specs.Base.{spot_cmp}
use Rattle.note_admission.proofs.Bases.{found_none, one_more, theirs_more}
use Rattle.note_admission.proofs.base_messages.Base.new.Goals as goal

pub loop-saying-init : goal.loop-saying-init
loop-saying-init c =
    found_none _ _ _ c.new-said.ensures.empty c.new-known.ensures c.new-sites.ensures.items
    (IsDistinct-from_sorted spot_cmp _ c.new-said.ensures.ordered)

pub loop-saying-preserved : goal.loop-saying-preserved
loop-saying-preserved c =
    let (found, each) = c.loop-saying.invariant in
    let put = c.in_ok-put.ensures.ok found.keyed in
    let old = values_of c.loop-saying.said.entries in
    let new = values_of c.put.new.said.entries in
    let with_it = subst (λ (site : ℕ). (x : ℕ) → Contains c.note_site.new.listed.items x
    ↔ Contains c.loop-saying.sites.items x ⊎ (site ≡ x))
    (c.site.ensures ∙ ap (λ (m : Saying). m.op.site) c.saying.view_is) (c.in_ok-note_site.ensures.with_it found.listed) in (
      record {
        keyed = put.0;
        listed = c.in_ok-note_site.ensures.listed found.listed;
        theirs = theirs_more old new c.in-Some.saying put.1 c.loop-saying.sites.items c.note_site.new.listed.items
            found.theirs with_it;
      },
      one_more old new c.in-Some.saying put.1 c.loop-saying.yielded each,
    )
