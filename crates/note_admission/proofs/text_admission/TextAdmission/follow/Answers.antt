use Rattle.std.proofs.Common.{sym, ap, subst}
use Rattle.note_admission.specs.declared.text_admission.Unsettled.{Unsettled}
use Rattle.note_admission.specs.Growing.{MayCount, TextSeen}
use Rattle.note_admission.proofs.Expecting.{follows_anew, follows_on}
use Rattle.note_admission.proofs.text_admission.TextAdmission.follow.Goals as goal

pub returns-then-may_lose-clause-anew : goal.returns-then-may_lose-clause-anew
returns-then-may_lose-clause-anew c =
    let rest = c.begin_anew.ensures.rest in
    λ is. follows_anew c.args.self.now c.begin_anew.new.self c.args.site (ap (λ (t : TextSeen). t.text) rest)
    (ap (λ (t : TextSeen). t.sites) rest) c.begin_anew.ensures.ops c.begin_anew.ensures.hashes c.begin_anew.ensures.seen
    c.begin_anew.ensures.base c.begin_anew.ensures.any

pub returns-else-may_lose-clause-kept : goal.returns-else-may_lose-clause-kept
returns-else-may_lose-clause-kept c =
    let x = c.self.inside in
    let is = c.self.view_is in
    let doubted = c.doubted-self-inside in
    let new : TextSeen =
    record { text = x.text; ops = x.log.ops; kept = x.admitted; sites = x.sites.items; unsettled = doubted.result } in
    λ no. follows_on c.args.self.now new c.args.site (ap (λ (t : TextSeen). t.text) is) (ap (λ (t : TextSeen). t.sites) is)
    (ap (λ (t : TextSeen). t.ops) is) (ap (λ (t : TextSeen). t.kept) is)
    (λ y may. doubted.ensures.others y
    (subst (λ (u : Unsettled). MayCount u y) (sym (ap (λ (t : TextSeen). t.unsettled) is)) may)) doubted.ensures.own
