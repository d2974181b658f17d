use Rattle.std.proofs.Common.{◌≡◌, ℕ, ◌-◌, List, ◌++◌, length, take, drop, Err, sym, ap, ◌∙◌, append_assoc, take-append-drop}
use Rattle.std.proofs.lemmas.List.{take_rest}
use Rattle.std.proofs.KnownBytes.{Appends-trans}
use Rattle.looks.specs.declared.refusal.Refusal.TheVariants.{WriteFault}
use Rattle.script_sites.proofs.WriteLemmas.{failed_at_err, writes_broken}
use Rattle.script_sites.proofs.answers.put.Goals as goal

-- what one write took goes from the rest to what is done
moved : (all done rest : List ℕ) (n : ℕ) → all ≡ done ++ rest → all ≡ (done ++ take n rest) ++ take (length rest - n) (drop n rest)
moved all done rest n e =
    e ∙ ap (λ l. done ++ l) (sym (take-append-drop n rest)) ∙ sym (append_assoc done (take n rest) (drop n rest)) ∙ ap (λ l. (done ++ take n rest) ++ l) (sym (take_rest rest n))

pub loop-rest-preserved : goal.loop-rest-preserved
loop-rest-preserved g c =
    let (done, split, appended) = c.loop-rest.invariant in
    let rest = c.loop-rest.rest.now in
    let n = c.in_ok-count.count in
    (done ++ take n rest, moved c.args.bytes.now done rest n split, Appends-trans _ _ _ done (take n rest) appended c.in_ok-count.ensures.ok.2)

pub returns-in_err-count : goal.returns-in_err-count
returns-in_err-count g c =
    let (done, split, appended) = c.loop-rest.invariant in
    let failed = failed_at_err {X = ℕ} (Err WriteFault) c.loop-rest.output.failed c.write.new.self.failed c.in_err-count.ensures.failed in
    rw split (writes_broken _ _ _ _ _ _ done c.loop-rest.rest.now c.from_residual.ensures.1 c.in_err-count.ensures.errors failed appended c.in_err-count.ensures.err)
