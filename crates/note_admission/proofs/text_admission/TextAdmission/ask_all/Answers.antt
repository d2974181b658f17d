use Rattle.std.proofs.Common.{◌≡◌, ℕ, ◌<◌, inl, inr, List, length, slice_get, Some, refl, sym, ap, subst, ◌∙◌, arith}
use Rattle.std.proofs.lemmas.Bool.{cases_lt}
use Rattle.std.proofs.lemmas.Option.{same_Some, slice_get_read}
use Rattle.std.proofs.lemmas.Grind.{common_steps}
use Rattle.note_admission.specs.declared.text_admission.Unsettled.TheVariants.{Nothing, Any}
use Rattle.note_admission.specs.Growing.{TextSeen, TakesNone}
use Rattle.note_admission.proofs.Growth.{goes_on_longer, goes_on_same, goes_on_then, none_before, takes_on_then}
use Rattle.note_admission.proofs.Settling.{AreAlike, all_asked, grows_on, grows_whole}
use Rattle.note_admission.proofs.text_admission.TextAdmission.ask_all.Goals as goal

pub returns-in_err-advance-clause-grown : goal.returns-in_err-advance-clause-grown
returns-in_err-advance-clause-grown g c =
    let x = c.self.inside in
    let t = c.args.self.now in
    let l = c.loop-at.self in
    let u = c.advance.new.self in
    let v : TextSeen =
    record { text = x.text; ops = x.log.ops; kept = x.admitted; sites = x.sites.items; unsettled = Any } in
    let is = c.self.view_is in
    let so_far = c.loop-at.invariant.rest in
    let rest = c.advance.ensures.rest in
    let digest = g.D.Digest.digest c.args.digest.now in
    let of = g.C.Chains.are_of c.args.chains.now in
    grows_on digest of t v u u
    (record { text = ap (λ (y : TextSeen). y.text) is; ops = ap (λ (y : TextSeen). y.ops) is; kept = ap (λ (y : TextSeen). y.kept) is })
    (record { text = refl; ops = refl; kept = refl })
    (ap (λ (y : TextSeen). y.text) rest ∙ (ap (λ (y : TextSeen). y.text) so_far ∙ ap (λ (y : TextSeen). y.text) is))
    (ap (λ (y : TextSeen). y.sites) rest ∙ (ap (λ (y : TextSeen). y.sites) so_far ∙ ap (λ (y : TextSeen). y.sites) is))
    (takes_on_then digest of v l u c.loop-at.invariant.taken c.advance.ensures.taken)
    (ap (λ (y : TextSeen). y.unsettled) rest ∙ ap (λ (y : TextSeen). y.unsettled) so_far)

pub returns-in_err-advance-clause-longer : goal.returns-in_err-advance-clause-longer
returns-in_err-advance-clause-longer g c =
    let v : TextSeen =
    record { text = c.self.inside.text; ops = c.self.inside.log.ops; kept = c.self.inside.admitted; sites = c.self.inside.sites.items; unsettled = Any } in
    let l = c.loop-at.self in
    let u = c.advance.new.self in
    goes_on_then c.args.self.now v u (goes_on_same c.args.self.now v (ap (λ (y : TextSeen). y.ops) c.self.view_is))
    (goes_on_then v l u c.loop-at.invariant.grows c.advance.ensures.grows)

pub loop-at-preserved : goal.loop-at-preserved
loop-at-preserved g c =
    let x = c.self.inside in
    let l = c.loop-at.self in
    let u = c.advance.new.self in
    let v : TextSeen =
    record { text = x.text; ops = x.log.ops; kept = x.admitted; sites = x.sites.items; unsettled = Any } in
    let so_far = c.loop-at.invariant.rest in
    let rest = c.advance.ensures.rest in
    let digest = g.D.Digest.digest c.args.digest.now in
    let of = g.C.Chains.are_of c.args.chains.now in
    let more = goes_on_longer l u c.advance.ensures.grows in
    let before = goes_on_longer v l c.loop-at.invariant.grows in
    record {
      taken = takes_on_then digest of v l u c.loop-at.invariant.taken c.advance.ensures.taken;
      grows = goes_on_then v l u c.loop-at.invariant.grows c.advance.ensures.grows;
      rest = grind (arith, common_steps);
      asked = λ k site lt at same. elim (cases_lt k c.loop-at.at) [
        | inl earlier ↦ c.loop-at.invariant.asked k site earlier at (omega arith)
        | inr past ↦
            let here : k ≡ c.loop-at.at = omega arith in
            let y = c.self-in-loop-at.inside in
            let within : c.loop-at.at < length y.sites.items = grind (arith, common_steps) in
            let found : slice_get y.sites.items c.loop-at.at ≡ Some c.index-site.result.now =
            slice_get_read y.sites.items (length y.sites.items) c.loop-at.at c.index-site.result.now refl within
            c.index-site.ensures in
            let sites : y.sites.items ≡ v.sites = ap (λ (z : TextSeen). z.sites) c.self-in-loop-at.view_is
            ∙ ap (λ (z : TextSeen). z.sites) so_far in
            let both : Some site ≡ Some c.index-site.result.now =
            sym at ∙ (ap (slice_get v.sites) here ∙ (ap (λ (xs : List ℕ). slice_get xs c.loop-at.at) (sym sites) ∙ found)) in
            subst (TakesNone digest of v) (sym (same_Some site c.index-site.result.now both))
            (none_before digest of v l u c.index-site.result.now c.loop-at.invariant.taken c.in_ok-advance.ensures.none
            before more same (ap (λ (z : TextSeen). z.text) so_far) (ap (λ (z : TextSeen). z.text) rest))
      ];
    }

pub returns-then-before-len-clause-grown : goal.returns-then-before-len-clause-grown
returns-then-before-len-clause-grown g c =
    let x = c.self.inside in
    let z = c.self-2.inside in
    let t = c.args.self.now in
    let u = c.loop-at.self in
    let v : TextSeen =
    record { text = x.text; ops = x.log.ops; kept = x.admitted; sites = x.sites.items; unsettled = Any } in
    let w : TextSeen =
    record { text = z.text; ops = z.log.ops; kept = z.admitted; sites = z.sites.items; unsettled = Nothing } in
    let is = c.self.view_is in
    let is' = c.self-2.view_is in
    let so_far = c.loop-at.invariant.rest in
    let digest = g.D.Digest.digest c.args.digest.now in
    let of = g.C.Chains.are_of c.args.chains.now in
    let before : AreAlike t v = record { text = ap (λ (y : TextSeen). y.text) is; ops = ap (λ (y : TextSeen). y.ops) is; kept = ap (λ (y : TextSeen). y.kept) is } in
    let after : AreAlike u w = record { text = ap (λ (y : TextSeen). y.text) is'; ops = ap (λ (y : TextSeen). y.ops) is'; kept = ap (λ (y : TextSeen). y.kept) is' } in
    let text = ap (λ (y : TextSeen). y.text) so_far ∙ ap (λ (y : TextSeen). y.text) is in
    let sites = ap (λ (y : TextSeen). y.sites) is'
    ∙ (ap (λ (y : TextSeen). y.sites) so_far ∙ ap (λ (y : TextSeen). y.sites) is) in
    let old : length v.ops ≡ length t.ops = ap (λ (y : TextSeen). length y.ops) is in
    let new : length w.ops ≡ length u.ops = ap (λ (y : TextSeen). length y.ops) is' in
    let longer : length u.ops ≡ length v.ops = grind (arith, common_steps) in
    grows_whole digest of t v u w before after text sites c.loop-at.invariant.taken (longer ∙ old)
    (all_asked digest of t v u w before after text sites (λ site held.
    let (k, lt, there) = held in
    let many : length t.sites ≡ length v.sites = ap (λ (y : TextSeen). length y.sites) (sym is) in
    let within : k < length v.sites = omega arith in
    let below : k < c.loop-at.at = grind (arith, common_steps) in
    c.loop-at.invariant.asked k site below
    (ap (λ (y : TextSeen). slice_get y.sites k) is ∙ slice_get_read t.sites (length t.sites) k site refl lt (sym there)) longer))

pub returns-else-before-len-clause-grown : goal.returns-else-before-len-clause-grown
returns-else-before-len-clause-grown g c =
    let x = c.self.inside in
    let t = c.args.self.now in
    let u = c.loop-at.self in
    let v : TextSeen =
    record { text = x.text; ops = x.log.ops; kept = x.admitted; sites = x.sites.items; unsettled = Any } in
    let is = c.self.view_is in
    let so_far = c.loop-at.invariant.rest in
    grows_on (g.D.Digest.digest c.args.digest.now) (g.C.Chains.are_of c.args.chains.now) t v u u
    (record { text = ap (λ (y : TextSeen). y.text) is; ops = ap (λ (y : TextSeen). y.ops) is; kept = ap (λ (y : TextSeen). y.kept) is })
    (record { text = refl; ops = refl; kept = refl })
    (ap (λ (y : TextSeen). y.text) so_far ∙ ap (λ (y : TextSeen). y.text) is)
    (ap (λ (y : TextSeen). y.sites) so_far ∙ ap (λ (y : TextSeen). y.sites) is)
    c.loop-at.invariant.taken (ap (λ (y : TextSeen). y.unsettled) so_far)
