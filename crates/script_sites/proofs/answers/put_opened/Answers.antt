use Rattle.script_sites.proofs.answers.put_opened.Goals as goal

pub returns-in-Ok : goal.returns-in-Ok
returns-in-Ok g c = λ k. rw c.in-Ok.is (rw c.from.ensures at c.put_count.ensures)
