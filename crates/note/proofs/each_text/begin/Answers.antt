use Rattle.std.proofs.Common.{◌≡◌, ℕ, ◌+◌, List, [], ◌∷◌, ◌++◌, length, sym, ap, subst, ◌∙◌, arith}
use Rattle.std.proofs.lemmas.List.{length_push}
use Rattle.note_admission.specs.Growing.{AreAdmitted}
use Rattle.note.specs.Texts.{EachText, NoteText}
use Rattle.note.proofs.Each.{pushed}
use Rattle.note.proofs.each_text.begin.Goals as goal

pub loop-number-preserved : goal.loop-number-preserved
loop-number-preserved c =
    let old = c.loop-number.texts.items in
    let x = c.in_ok-new.field-0 in
    let so_far = c.loop-number.invariant in
    let items : c.push.new.self.items ≡ old ++ x ∷ [] = c.in_ok-push.ensures.items in
    let counted : length c.push.new.self.items ≡ length old + 1 = ap length items ∙ length_push old x in
    let many : length old + 1 ≡ c.loop-number.number = so_far.many in
    let number : x.admission.text ≡ length old + 1 = c.in_ok-new.ensures.text ∙ (c.in-Some.ensures.value ∙ sym many) in
    record {
      many = omega arith;
      numbers = subst (λ (xs : List NoteText). EachText (λ k t. t.admission.text ≡ k + 1) xs) (sym items)
          (pushed (λ (k : ℕ) (t : NoteText). t.admission.text ≡ k + 1) old x so_far.numbers number);
      site = subst (λ (xs : List NoteText). EachText (λ k t. t.replica.site ≡ c.args.site) xs) (sym items)
          (pushed (λ (k : ℕ) (t : NoteText). t.replica.site ≡ c.args.site) old x so_far.site c.in_ok-new.ensures.site);
      none = λ note entries said base. subst (λ (xs : List NoteText). EachText (λ k t. AreAdmitted note entries t.admission []) xs)
          (sym items) (pushed (λ (k : ℕ) (t : NoteText). AreAdmitted note entries t.admission []) old x
          (so_far.none note entries said base) (c.in_ok-new.ensures.ok note entries said base));
    }
