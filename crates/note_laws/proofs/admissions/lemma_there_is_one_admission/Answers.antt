use Rattle.note_laws.proofs.Alike.{alike}
use Rattle.note_laws.proofs.Existing.{some_admission}
use Rattle.note_laws.proofs.admissions.lemma_there_is_one_admission.Goals as goal

pub returns : goal.returns
returns c = λ note entries text base told.
    let (there, is) = some_admission note entries text in
    record {
      admission = there;
      is = is;
      only = λ a b. alike c.lemma_only_the_set_counts.ensures note entries entries text a b base told
          (record { claims = λ claim. (λ h. h, λ h. h); said = λ s. (λ h. h, λ h. h) });
    }
