use Rattle.std.proofs.Common.{ℕ, List, ◌∷◌, ap, subst, ◌∙◌}
use Rattle.std.specs.List.{flat_map}
use Rattle.sha2.specs.Hashers.{Holds256}
use Rattle.note_entries.specs.Bytes.{hash_bytes, hash_of}
use Rattle.note_hashes.specs.Hashes.{keyed_hash}
use Rattle.note_hashes.proofs.Adding.{two-added}
use Rattle.note_hashes.proofs.note_key.NoteKeyDigest.of.Goals as goal

pub returns : goal.returns
returns c =
    let all = flat_map hash_bytes c.args.hashes.now in
    let held = c.add_hashes.ensures _ (c.add.ensures _ c.begin-hasher.ensures) in
    let holds = subst (λ (l : List ℕ). Holds256 c.add_hashes.new.hasher l) (two-added _ 2 all) held in
    c.of_bytes.ensures ∙ ap hash_of (c.finish.ensures (2 ∷ all) holds)
    ∙ ap (λ (k : List ℕ). keyed_hash k (2 ∷ all)) c.self.view_is
