use Rattle.script_sites.proofs.answers.put_merged.Goals as goal

pub returns-in-Ok : goal.returns-in-Ok
returns-in-Ok g c = λ k. rw c.in-Ok.is c.put_count.ensures
