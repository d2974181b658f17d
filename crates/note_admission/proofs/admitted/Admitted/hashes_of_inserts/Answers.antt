use Rattle.std.proofs.Common.{◌≡◌, ℕ, suc, ◌+◌, List, [], ◌∷◌, ◌++◌, take, sym, ap, subst, ◌∙◌, arith}
use Rattle.std.specs.List.{AllZip}
use Rattle.std.proofs.Math.Seq.{take-suc}
use Rattle.std.proofs.lemmas.Slice.Zip.{all_zipped_more}
use Rattle.char_files.specs.CharName.{CharName}
use Rattle.note_admission.specs.Kept.{IsHashOfInsert}
use Rattle.note_admission.proofs.admitted.Admitted.hashes_of_inserts.Goals as goal

pub loop-name-preserved : goal.loop-name-preserved
loop-name-preserved c =
    let names = c.args.names.now in
    let at = c.loop-name.name-index in
    let name = c.name-item.result in
    let hash = c.hash_of_insert.result in
    let R : CharName → ℕ → Type 0 = IsHashOfInsert c.args.log.now.ops c.args.self.now.hashes in
    let next : at + 1 ≡ suc at = omega arith in
    let with_next : take (at + 1) names ≡ take at names ++ name ∷ [] =
    ap (λ (n : ℕ). take n names) next ∙ (take-suc names at name c.loop-name-test.true
    ∙ ap (λ (x : CharName). take at names ++ x ∷ []) (sym c.name-item.is)) in
    let pushed : c.push.new.self.items ≡ c.loop-name.hashes.items ++ hash ∷ [] = c.in_ok-push.ensures.items in
    subst (λ (xs : List CharName). AllZip R xs c.push.new.self.items) (sym with_next)
    (subst (λ (ys : List ℕ). AllZip R (take at names ++ name ∷ []) ys) (sym pushed)
    (all_zipped_more R (take at names) c.loop-name.hashes.items name hash c.loop-name.invariant c.hash_of_insert.ensures))
