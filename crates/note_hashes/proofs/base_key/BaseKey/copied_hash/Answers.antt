use Rattle.std.proofs.Common.{ℕ, List, ◌++◌, ap, subst, ◌∙◌, append_assoc}
use Rattle.sha2.specs.Hashers.{Holds256}
use Rattle.note_entries.specs.Bytes.{hash_bytes, hash_of}
use Rattle.note_hashes.specs.Hashes.{keyed_hash}
use Rattle.note_hashes.proofs.base_key.BaseKey.copied_hash.Goals as goal

pub returns : goal.returns
returns c =
    let bytes = hash_bytes c.args.before ++ c.args.message.now in
    let held = c.add.ensures _ (c.add_hash.ensures _ c.begin-hasher.ensures) in
    let holds = subst (λ (l : List ℕ). Holds256 c.add.new.hasher l)
    (append_assoc _ (hash_bytes c.args.before) c.args.message.now) held in
    c.of_bytes.ensures ∙ ap hash_of (c.finish.ensures bytes holds)
    ∙ ap (λ (k : List ℕ). keyed_hash k bytes) c.self.view_is
