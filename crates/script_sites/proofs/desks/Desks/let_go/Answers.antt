use Rattle.std.proofs.Common.{◌≡◌, List, length, ap, subst, sym, ◌∙◌, take, arith}
use Rattle.std.proofs.Math.Seq.{take-append_seam}
use Rattle.machine.specs.SiteTexts.{SiteTexts}
use Rattle.script_sites.specs.Seen.{texts_of}
use Rattle.script_sites.specs.Sent.{AreSentOperations}
use Rattle.script_sites.proofs.Sending.{all_noted}
use Rattle.script_sites.proofs.desks.Desks.let_go.Goals as goal

pub returns-in-Some-clause-held : goal.returns-in-Some-clause-held
returns-in-Some-clause-held c =
    let desks = texts_of c.args.self.now in
    let was = c.args.noted.now.items in
    let (more, is, held, all) = c.note_each.ensures in
    let after : AreSentOperations desks c.note_each.new.noted.items = subst (AreSentOperations desks) (sym is) (all_noted desks was more c.requires held) in
    subst (λ (ds : List SiteTexts). AreSentOperations ds c.note_each.new.noted.items) (ap texts_of (sym c.self.view_is)) after

pub returns-in-None-clause-held : goal.returns-in-None-clause-held
returns-in-None-clause-held c =
    let was = c.args.noted.now.items in
    let (more, is, held, all) = c.note_each.ensures in
    let len : c.len-len.result ≡ length was = omega (arith, c.len-len.ensures, c.args.noted.now.ok) in
    let back : c.truncate.new.self.items ≡ was = c.truncate.ensures.items ∙ (λ k. take (len k) (is k)) ∙ take-append_seam was more in
    subst (AreSentOperations (texts_of c.args.self.now)) (sym back) c.requires
