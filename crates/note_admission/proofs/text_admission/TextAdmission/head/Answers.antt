use Rattle.std.proofs.Common.{◌≡◌, inl, inr, sym, ap, subst, ◌∙◌}
use Rattle.note_laws.specs.Note.{Saying}
use Rattle.note_laws.specs.Admission.{Fate, MeetsFate}
use Rattle.note_admission.specs.Growing.{LastsWhereItKeepsItsPlace, TextSeen}
use Rattle.note_admission.specs.Kept.{IsKeptOf}
use Rattle.note_admission.proofs.Heads.{none_at, some_at}
use Rattle.note_admission.proofs.text_admission.TextAdmission.head.Goals as goal

pub returns-in_ok-fate-in-Some-clause-some : goal.returns-in_ok-fate-in-Some-clause-some
returns-in_ok-fate-in-Some-clause-some g c =
    let ops = ap (λ (x : TextSeen). x.ops) c.self.view_is in
    let next = c.in_ok-saying.field-0 in
    let saying = c.in-Some.saying in
    λ note entries admitted of taken. (
      saying.now,
      some_at _ next saying c.in-Some.is c.in_ok-saying.ensures.some note entries admitted of.same_chains taken,
      (some_at _ next saying c.in-Some.is c.in_ok-saying.ensures.placed).of_site,
      sym (ap (λ (x : Saying). x.hash) c.saying.view_is),
      c.in_ok-fate-in-Some.ensures.ok note admitted (taken.logged ∙ sym ops)
          (subst (λ (x : TextSeen). IsKeptOf note admitted x.kept) (sym c.self.view_is) taken.tables) of.same_digest,
    )

pub returns-in_ok-fate-in-Some-clause-only : goal.returns-in_ok-fate-in-Some-clause-only
returns-in_ok-fate-in-Some-clause-only g c =
    λ note entries admitted of taken s other next on is.
    let (head, comes, its, hash, fate) = returns-in_ok-fate-in-Some-clause-some g c note entries admitted of taken in
    let same : s ≡ head = c.lemma_one_message_comes_next.ensures note entries _ admitted of.base of.told taken.in_turn
    s head next comes (on ∙ sym its) in
    let one = c.lemma_the_next_has_one_fate.ensures note entries _ admitted head taken.in_turn comes in (
      ap (λ (x : Saying). x.hash) same ∙ hash,
      one.only other (subst (λ (x : Saying). MeetsFate note admitted x other) same is) ∙ sym (one.only _ fate),
    )

pub returns-in_ok-fate-in-Some-clause-lasts : goal.returns-in_ok-fate-in-Some-clause-lasts
returns-in_ok-fate-in-Some-clause-lasts g c =
    λ settled note entries admitted of taken.
    let text = c.args.self.now.text in
    let lasts : Fate → Type 0 = λ fate. LastsWhereItKeepsItsPlace note entries text admitted fate in
    elim settled [
      | inl is ↦ subst lasts (sym is) (λ more greater s told in_turn among.
          c.lemma_wrong_is_for_good.ensures note entries more text admitted greater s of.base told taken.in_turn in_turn among)
      | inr is ↦ subst lasts (sym is) (λ more greater s told in_turn among.
          c.lemma_building_on_others_lasts.ensures note entries more text admitted greater s of.base told taken.in_turn in_turn
          among)
    ]

pub returns-in-None-clause-none : goal.returns-in-None-clause-none
returns-in-None-clause-none g c =
    none_at _ c.in_ok-saying.field-0 c.in-None.is c.in_ok-saying.ensures.none
