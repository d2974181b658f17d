use Rattle.note_replicas.proofs.Ready.{on_itself, refused, taken_in}
use Rattle.note_replicas.proofs.following.take_ready.Goals as goal

pub returns-in-Ok-clause-ok : goal.returns-in-Ok-clause-ok
returns-in-Ok-clause-ok c =
    (taken_in _ _ _ c.lemma_is_text.ensures c.requires.ready c.requires.room c.in-Ok.field-0 c.in-Ok.ensures).0

pub returns-in-Ok-clause-place : goal.returns-in-Ok-clause-place
returns-in-Ok-clause-place c =
    (taken_in _ _ _ c.lemma_is_text.ensures c.requires.ready c.requires.room c.in-Ok.field-0 c.in-Ok.ensures).1

pub returns-in-Ok-clause-on : goal.returns-in-Ok-clause-on
returns-in-Ok-clause-on c =
    (taken_in _ _ _ c.lemma_is_text.ensures c.requires.ready c.requires.room c.in-Ok.field-0 c.in-Ok.ensures).2

pub returns-in-Err-clause-on : goal.returns-in-Err-clause-on
returns-in-Err-clause-on c =
    on_itself _ _ (refused _ _ _ c.lemma_is_text.ensures c.requires.ready c.requires.room c.in-Err.why c.in-Err.ensures).1

pub returns-in-Err-clause-errors : goal.returns-in-Err-clause-errors
returns-in-Err-clause-errors c =
    (refused _ _ _ c.lemma_is_text.ensures c.requires.ready c.requires.room c.in-Err.why c.in-Err.ensures).0
