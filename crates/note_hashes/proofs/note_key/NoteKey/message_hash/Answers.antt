use Rattle.std.proofs.Common.{ℕ, List, ap, subst, ◌∙◌}
use Rattle.sha2.specs.Hashers.{Holds256}
use Rattle.note_entries.specs.Bytes.{hash_bytes, hash_of}
use Rattle.note_hashes.specs.Hashes.{keyed_hash, on_bytes, said_bytes}
use Rattle.note_hashes.proofs.Adding.{five-added}
use Rattle.note_hashes.proofs.note_key.NoteKey.message_hash.Goals as goal

pub returns : goal.returns
returns c =
    let bytes = said_bytes c.args.author c.args.before c.args.message.now c.args.on.now in
    let keyed = c.add.ensures _ c.begin-hasher.ensures in
    let named = c.add_hash-2.ensures _ (c.add_hash.ensures _ keyed) in
    let held = c.add_on.ensures _ (c.add-2.ensures _ named) in
    let holds = subst (λ (l : List ℕ). Holds256 c.add_on.new.hasher l)
    (five-added _ 1 (hash_bytes c.args.author) (hash_bytes c.args.before) c.args.message.now (on_bytes c.args.on.now)) held in
    c.of_bytes.ensures ∙ ap hash_of (c.finish.ensures bytes holds)
    ∙ ap (λ (k : List ℕ). keyed_hash k bytes) c.self.view_is
