use Rattle.kept_file.proofs.KeptFiles.{none_of_messages, none_packed}
use Rattle.kept_file.proofs.files.load_kept.Goals as goal

pub returns-then-is_packed-clause-refused : goal.returns-then-is_packed-clause-refused
returns-then-is_packed-clause-refused c = λ bad.
    none_packed c.args.bytes.now (c.is_packed.ensures.0 c.if-is_packed.true) (c.load_packed.ensures.refused bad)

pub returns-else-is_packed-clause-refused : goal.returns-else-is_packed-clause-refused
returns-else-is_packed-clause-refused c = λ bad.
    none_of_messages c.args.bytes.now (λ begins. absurd (cc (c.is_packed.ensures.1 begins, c.if-is_packed.false)))
    (c.load_site.ensures.refused bad)
