use Rattle.std.proofs.Common.{rules}
use Rattle.std.proofs.lemmas.Bool.{both_ways}
use Rattle.note_admission.proofs.Expecting.{whole_if_settled}
use Rattle.note_admission.proofs.Settling.{doubts_some, rounds_fall}
use Rattle.note_admission.proofs.text_admission.TextAdmission.settle.Goals as goal

pub loop-self-smaller : goal.loop-self-smaller
loop-self-smaller g c =
    let old = c.loop-self.self in
    rounds_fall old c.ask_all.new.self
    (doubts_some old.unsettled (λ is. both_ways c.is_settled.result c.loop-self-test.true (c.is_settled.ensures.1 is)))
    c.ask_all.ensures.longer c.in_ok-ask_all.ensures.settles

pub returns-clause-whole : goal.returns-clause-whole
returns-clause-whole g c =
    λ note entries admitted is. whole_if_settled c.loop-self.self (search rules) note entries admitted is

pub returns-clause-only : goal.returns-clause-only
returns-clause-only g c =
    λ note entries admitted other base told is its.
    (c.lemma_there_is_one_admission.ensures note entries _ base told).only other admitted its
    (returns-clause-whole g c note entries admitted is)

pub returns-clause-stays : goal.returns-clause-stays
returns-clause-stays g c =
    λ note fewer entries was admitted base told in_turn keep is.
    c.lemma_what_keeps_its_place_stays.ensures note fewer entries _ was admitted base told in_turn keep
    (returns-clause-whole g c note entries admitted is)

pub returns-clause-ends : goal.returns-clause-ends
returns-clause-ends g c =
    λ note entries admitted s is next.
    c.lemma_a_chain_ends_or_waits.ensures note entries _ admitted s (returns-clause-whole g c note entries admitted is) next
