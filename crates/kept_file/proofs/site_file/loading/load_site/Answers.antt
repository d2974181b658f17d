use Rattle.std.proofs.Common.{arith, subst, sym, ◌∙◌}
use Rattle.std.proofs.lemmas.Bool.{false≢true}
use Rattle.byte_fields.proofs.Readers.{IsBytes}
use Rattle.texts.specs.SiteFiles.{site_tag}
use Rattle.kept_file.proofs.Fields.{fits_after}
use Rattle.kept_file.proofs.SiteLoaded.{loaded, no_file, no_head}
use Rattle.kept_file.proofs.Messages.{cut_so, messages_of}
use Rattle.kept_file.proofs.OneSite.{file_tagged}
use Rattle.kept_file.proofs.site_file.loading.load_site.Goals as goal

pub returns-in_default-clause-refused : goal.returns-in_default-clause-refused
returns-in_default-clause-refused c = λ bad text site ops is.
    c.in_default.ensures (file_tagged text site ops c.args.bytes.now is)

pub returns-in_default-counted_at-clause-refused : goal.returns-in_default-counted_at-clause-refused
returns-in_default-counted_at-clause-refused c = λ bad.
    no_head c.args.bytes.now c.in-Some.rest.now c.in-Some.ensures c.in_default-counted_at.ensures

-- bytes that are not so many messages are no operations'
pub returns-then-not-are_messages-clause-refused : goal.returns-then-not-are_messages-clause-refused
returns-then-not-are_messages-clause-refused c = λ bad.
    no_file c.args.bytes.now c.in-Some.rest.now c.in-Some-counted_at.entries.now c.in-Some-counted_at.head c.in-Some.ensures
    c.in-Some-counted_at.ensures (λ ops tells are.
    absurd (false≢true (sym c.if-not-are_messages.true ∙ c.are_messages.ensures.1
    (messages_of ops c.in-Some-counted_at.head.count c.in-Some-counted_at.entries.now are))))

pub returns-clause-short : goal.returns-clause-short
returns-clause-short c = λ memory.
    cut_so c.args.bytes.now c.in-Some.rest.now c.in-Some-counted_at.entries.now c.in-Some-counted_at.head
    (fits_after site_tag c.in-Some.rest.now (subst IsBytes c.in-Some.ensures (λ i. omega (arith, c.type_inv.bytes i))))
    c.in-Some.ensures c.in-Some-counted_at.ensures (c.are_messages.ensures.0 c.if-not-are_messages.false)

pub returns-clause-ok : goal.returns-clause-ok
returns-clause-ok c =
    loaded c.args.bytes.now c.in-Some.rest.now c.in-Some-counted_at.entries.now c.in-Some-counted_at.head c.in-Some.ensures
    c.in-Some-counted_at.ensures c.text_of.result (λ i. omega (arith, c.type_inv.bytes i)) c.text_of.ensures.ok

pub returns-clause-refused : goal.returns-clause-refused
returns-clause-refused c = λ bad.
    no_file c.args.bytes.now c.in-Some.rest.now c.in-Some-counted_at.entries.now c.in-Some-counted_at.head c.in-Some.ensures
    c.in-Some-counted_at.ensures (c.text_of.ensures.refused bad)
