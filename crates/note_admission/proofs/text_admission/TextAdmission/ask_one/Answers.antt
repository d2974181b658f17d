use Rattle.std.proofs.Common.{◌≡◌, length, refl, ap, ◌∙◌, arith}
use Rattle.std.proofs.lemmas.Grind.{common_steps}
use Rattle.note_admission.specs.declared.text_admission.Unsettled.TheVariants.{Nothing, Any}
use Rattle.note_admission.specs.Growing.{TextSeen}
use Rattle.note_admission.proofs.Growth.{none_asked}
use Rattle.note_admission.proofs.Settling.{AreAlike, grows_on, grows_whole, one_asked}
use Rattle.note_admission.proofs.text_admission.TextAdmission.ask_one.Goals as goal

pub returns-in_err-advance-clause-grown : goal.returns-in_err-advance-clause-grown
returns-in_err-advance-clause-grown g c =
    let x = c.self.inside in
    let t = c.args.self.now in
    let u = c.advance.new.self in
    let v : TextSeen =
    record { text = x.text; ops = x.log.ops; kept = x.admitted; sites = x.sites.items; unsettled = Any } in
    let is = c.self.view_is in
    let rest = c.advance.ensures.rest in
    grows_on (g.D.Digest.digest c.args.digest.now) (g.C.Chains.are_of c.args.chains.now) t v u u
    (record { text = ap (λ (y : TextSeen). y.text) is; ops = ap (λ (y : TextSeen). y.ops) is; kept = ap (λ (y : TextSeen). y.kept) is })
    (record { text = refl; ops = refl; kept = refl })
    (ap (λ (y : TextSeen). y.text) rest ∙ ap (λ (y : TextSeen). y.text) is)
    (ap (λ (y : TextSeen). y.sites) rest ∙ ap (λ (y : TextSeen). y.sites) is)
    c.advance.ensures.taken (ap (λ (y : TextSeen). y.unsettled) rest)

pub returns-then-before-len-clause-grown : goal.returns-then-before-len-clause-grown
returns-then-before-len-clause-grown g c =
    let x = c.self.inside in
    let z = c.self-2.inside in
    let t = c.args.self.now in
    let u = c.advance.new.self in
    let v : TextSeen =
    record { text = x.text; ops = x.log.ops; kept = x.admitted; sites = x.sites.items; unsettled = Any } in
    let w : TextSeen =
    record { text = z.text; ops = z.log.ops; kept = z.admitted; sites = z.sites.items; unsettled = Nothing } in
    let is = c.self.view_is in
    let is' = c.self-2.view_is in
    let rest = c.advance.ensures.rest in
    let digest = g.D.Digest.digest c.args.digest.now in
    let of = g.C.Chains.are_of c.args.chains.now in
    let before : AreAlike t v = record { text = ap (λ (y : TextSeen). y.text) is; ops = ap (λ (y : TextSeen). y.ops) is; kept = ap (λ (y : TextSeen). y.kept) is } in
    let after : AreAlike u w = record { text = ap (λ (y : TextSeen). y.text) is'; ops = ap (λ (y : TextSeen). y.ops) is'; kept = ap (λ (y : TextSeen). y.kept) is' } in
    let text = ap (λ (y : TextSeen). y.text) rest ∙ ap (λ (y : TextSeen). y.text) is in
    let sites = ap (λ (y : TextSeen). y.sites) is'
    ∙ (ap (λ (y : TextSeen). y.sites) rest ∙ ap (λ (y : TextSeen). y.sites) is) in
    let old : length v.ops ≡ length t.ops = ap (λ (y : TextSeen). length y.ops) is in
    let new : length w.ops ≡ length u.ops = ap (λ (y : TextSeen). length y.ops) is' in
    let longer : length u.ops ≡ length v.ops = grind (arith, common_steps) in
    grows_whole digest of t v u w before after text sites c.advance.ensures.taken (longer ∙ old)
    (one_asked digest of t v u w before after text sites c.args.site c.requires
    (none_asked digest of v u c.args.site c.in_ok-advance.ensures.none longer (ap (λ (y : TextSeen). y.text) rest)))

pub returns-else-before-len-clause-grown : goal.returns-else-before-len-clause-grown
returns-else-before-len-clause-grown g c =
    let x = c.self.inside in
    let t = c.args.self.now in
    let u = c.advance.new.self in
    let v : TextSeen =
    record { text = x.text; ops = x.log.ops; kept = x.admitted; sites = x.sites.items; unsettled = Any } in
    let is = c.self.view_is in
    let rest = c.advance.ensures.rest in
    grows_on (g.D.Digest.digest c.args.digest.now) (g.C.Chains.are_of c.args.chains.now) t v u u
    (record { text = ap (λ (y : TextSeen). y.text) is; ops = ap (λ (y : TextSeen). y.ops) is; kept = ap (λ (y : TextSeen). y.kept) is })
    (record { text = refl; ops = refl; kept = refl })
    (ap (λ (y : TextSeen). y.text) rest ∙ ap (λ (y : TextSeen). y.text) is)
    (ap (λ (y : TextSeen). y.sites) rest ∙ ap (λ (y : TextSeen). y.sites) is)
    c.advance.ensures.taken (ap (λ (y : TextSeen). y.unsettled) rest)
