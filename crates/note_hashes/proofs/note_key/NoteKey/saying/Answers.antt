use Rattle.std.proofs.Common.{ℕ, List, ◌++◌, ap, ◌∙◌}
use Rattle.operations.specs.Spelling.{spelling}
use Rattle.note_laws.specs.Note.{Saying}
use Rattle.note_hashes.specs.Hashes.{keyed_hash, said_bytes}
use Rattle.note_hashes.proofs.note_key.NoteKey.saying.Goals as goal

pub returns-clause-ok : goal.returns-clause-ok
returns-clause-ok c =
    let op = c.args.op in
    let message = c.deref.ensures.value ∙ c.in_ok-encode.ensures.ok ∙ ap (λ (l : List ℕ). l ++ spelling op) c.new-message.ensures.items in
    let hash = c.message_hash-hash.ensures
    ∙ ap (λ (m : List ℕ). keyed_hash c.args.self.now (said_bytes c.args.author c.args.before m c.args.on)) message in
    let with_hash : ℕ → Saying = λ h. record { author = c.args.author; hash = h; before = c.args.before; on = c.args.on; op = op } in
    ap with_hash hash
