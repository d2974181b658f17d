use Rattle.std.proofs.Common.{◌≡◌, ◌+◌, ◌≤◌, ◌↔◌, List, Contains, sym, ap, subst, ◌∙◌}
use Rattle.std.specs.Prelude.{IsTrue}
use Rattle.std.specs.List.{AllZip}
use Rattle.std.proofs.lemmas.Bool.{both_ways}
use Rattle.char_files.specs.CharName.{CharName}
use Rattle.operations.specs.Operation.{Operation}
use Rattle.set_laws.specs.Fronts.{greatest_stamp}
use Rattle.note_laws.specs.Note.{Saying}
use Rattle.note_laws.specs.Admission.{MAX_LEAP, said_of}
use Rattle.waiting_room.specs.Judged.{verdict_of}
use Rattle.note_admission.specs.Kept.{IsHashOfInsert, IsMadeOver}
use Rattle.note_admission.proofs.Fating.{if_all, if_far, if_lacking, if_low, if_not_made, if_on_others}
use Rattle.note_admission.proofs.Fating.{judged_told, lasts_here, lasts_told, set_told}
use Rattle.note_admission.proofs.Verdicts.{told_lacks_none, told_ready}
use Rattle.note_admission.proofs.admitted.Admitted.fate.Goals as goal

pub is_well_made-requires-clause-judged : goal.is_well_made-requires-clause-judged
is_well_made-requires-clause-judged g c =
    judged_told c.args.log.now.ops c.new.result c.saying.inside.op c.args.saying.now.op
    (verdict_of c.judge-verdict.result) (ap (λ (x : Saying). x.op) c.saying.view_is) c.new.ensures
    c.judge-verdict.ensures

pub returns-then-not-is_well_made-clause-ok : goal.returns-then-not-is_well_made-clause-ok
returns-then-not-is_well_made-clause-ok g c =
    let kept = c.args.self.now in
    let s = c.args.saying.now in
    let ops = c.args.log.now.ops in
    let op = c.saying.inside.op in
    let op_is : op ≡ s.op = ap (λ (x : Saying). x.op) c.saying.view_is in
    let set = set_told op s.op c.in_ok-ranges.ranges.items c.in_ok-ranges.ensures.ok c.in_ok-ranges.ensures.set op_is in
    let lasts = lasts_told kept op s.op c.site.result c.in_ok-ranges.ranges.items c.deref.result.now
    c.in_ok-lasts.lasts.items c.deref-2.result.now op_is c.site.ensures c.deref.ensures.value
    c.in_ok-ranges.ensures.ok c.in_ok-lasts.ensures.ok c.deref-2.ensures.value in
    let well = subst (λ (xs : List CharName). IsTrue c.is_well_made.result ↔ IsMadeOver ops s xs) lasts
    c.is_well_made.ensures in
    λ note admitted same is given.
    if_not_made note admitted kept is s set ops same
    (λ made. both_ways c.is_well_made.result c.if-not-is_well_made.true (well.1 made))

pub returns-then-not-is_in_reach-clause-ok : goal.returns-then-not-is_in_reach-clause-ok
returns-then-not-is_in_reach-clause-ok g c =
    let kept = c.args.self.now in
    let s = c.args.saying.now in
    let ops = c.args.log.now.ops in
    let op = c.saying.inside.op in
    let op_is : op ≡ s.op = ap (λ (x : Saying). x.op) c.saying.view_is in
    let set = set_told op s.op c.in_ok-ranges.ranges.items c.in_ok-ranges.ensures.ok c.in_ok-ranges.ensures.set op_is in
    let lasts = lasts_told kept op s.op c.site.result c.in_ok-ranges.ranges.items c.deref.result.now
    c.in_ok-lasts.lasts.items c.deref-2.result.now op_is c.site.ensures c.deref.ensures.value
    c.in_ok-ranges.ensures.ok c.in_ok-lasts.ensures.ok c.deref-2.ensures.value in
    let well = subst (λ (xs : List CharName). IsTrue c.is_well_made.result ↔ IsMadeOver ops s xs) lasts
    c.is_well_made.ensures in
    let made = well.0 c.if-not-is_well_made.false in
    let reach = subst (λ (o : Operation). IsTrue c.is_in_reach.result ↔ (o.stamp ≤ greatest_stamp ops + MAX_LEAP)) op_is
    c.is_in_reach.ensures in
    λ note admitted same is given.
    if_far note admitted kept is s set ops same made
    (λ near. both_ways c.is_in_reach.result c.if-not-is_in_reach.true (reach.1 near))

pub returns-then-not-lacks_none-clause-ok : goal.returns-then-not-lacks_none-clause-ok
returns-then-not-lacks_none-clause-ok g c =
    let kept = c.args.self.now in
    let s = c.args.saying.now in
    let ops = c.args.log.now.ops in
    let op = c.saying.inside.op in
    let op_is : op ≡ s.op = ap (λ (x : Saying). x.op) c.saying.view_is in
    let set = set_told op s.op c.in_ok-ranges.ranges.items c.in_ok-ranges.ensures.ok c.in_ok-ranges.ensures.set op_is in
    let lasts = lasts_told kept op s.op c.site.result c.in_ok-ranges.ranges.items c.deref.result.now
    c.in_ok-lasts.lasts.items c.deref-2.result.now op_is c.site.ensures c.deref.ensures.value
    c.in_ok-ranges.ensures.ok c.in_ok-lasts.ensures.ok c.deref-2.ensures.value in
    let well = subst (λ (xs : List CharName). IsTrue c.is_well_made.result ↔ IsMadeOver ops s xs) lasts
    c.is_well_made.ensures in
    let made = well.0 c.if-not-is_well_made.false in
    let reach = subst (λ (o : Operation). IsTrue c.is_in_reach.result ↔ (o.stamp ≤ greatest_stamp ops + MAX_LEAP)) op_is
    c.is_in_reach.ensures in
    let near = reach.0 c.if-not-is_in_reach.false in
    let verdict = c.judge-verdict.result in
    let judged = judged_told ops c.new.result op s.op (verdict_of verdict) op_is c.new.ensures c.judge-verdict.ensures in
    let none_lacking = told_lacks_none ops s.op c.requires.follows verdict judged made.fits in
    λ note admitted same is given.
    if_lacking note admitted kept is s set ops same made near
    (λ foreign. both_ways c.lacks_none.result c.if-not-lacks_none.true (c.lacks_none.ensures ∙ none_lacking.1 foreign))

pub hashes_of_inserts-requires-clause-here : goal.hashes_of_inserts-requires-clause-here
hashes_of_inserts-requires-clause-here g c =
    let kept = c.args.self.now in
    let s = c.args.saying.now in
    let ops = c.args.log.now.ops in
    let op = c.saying.inside.op in
    let op_is : op ≡ s.op = ap (λ (x : Saying). x.op) c.saying.view_is in
    let set = set_told op s.op c.in_ok-ranges.ranges.items c.in_ok-ranges.ensures.ok c.in_ok-ranges.ensures.set op_is in
    let lasts = lasts_told kept op s.op c.site.result c.in_ok-ranges.ranges.items c.deref.result.now
    c.in_ok-lasts.lasts.items c.deref-2.result.now op_is c.site.ensures c.deref.ensures.value
    c.in_ok-ranges.ensures.ok c.in_ok-lasts.ensures.ok c.deref-2.ensures.value in
    let well = subst (λ (xs : List CharName). IsTrue c.is_well_made.result ↔ IsMadeOver ops s xs) lasts
    c.is_well_made.ensures in
    let made = well.0 c.if-not-is_well_made.false in
    let verdict = c.judge-verdict.result in
    let judged = judged_told ops c.new.result op s.op (verdict_of verdict) op_is c.new.ensures c.judge-verdict.ensures in
    let none_lacking = told_lacks_none ops s.op c.requires.follows verdict judged made.fits in
    let foreign = none_lacking.0 (sym c.lacks_none.ensures ∙ c.if-not-lacks_none.false) in
    let there = lasts_told kept op s.op c.site.result c.in_ok-ranges.ranges.items c.deref.result.now
    c.in_ok-lasts.lasts.items c.deref-3.result.now op_is c.site.ensures c.deref.ensures.value
    c.in_ok-ranges.ensures.ok c.in_ok-lasts.ensures.ok c.deref-3.ensures.value in
    λ name held.
    lasts_here ops kept s.op set foreign name (subst (λ (xs : List CharName). Contains xs name) there held)

pub returns-then-not-is_said_of-clause-ok : goal.returns-then-not-is_said_of-clause-ok
returns-then-not-is_said_of-clause-ok g c =
    let kept = c.args.self.now in
    let s = c.args.saying.now in
    let ops = c.args.log.now.ops in
    let op = c.saying.inside.op in
    let op_is : op ≡ s.op = ap (λ (x : Saying). x.op) c.saying.view_is in
    let set = set_told op s.op c.in_ok-ranges.ranges.items c.in_ok-ranges.ensures.ok c.in_ok-ranges.ensures.set op_is in
    let lasts = lasts_told kept op s.op c.site.result c.in_ok-ranges.ranges.items c.deref.result.now
    c.in_ok-lasts.lasts.items c.deref-2.result.now op_is c.site.ensures c.deref.ensures.value
    c.in_ok-ranges.ensures.ok c.in_ok-lasts.ensures.ok c.deref-2.ensures.value in
    let well = subst (λ (xs : List CharName). IsTrue c.is_well_made.result ↔ IsMadeOver ops s xs) lasts
    c.is_well_made.ensures in
    let made = well.0 c.if-not-is_well_made.false in
    let reach = subst (λ (o : Operation). IsTrue c.is_in_reach.result ↔ (o.stamp ≤ greatest_stamp ops + MAX_LEAP)) op_is
    c.is_in_reach.ensures in
    let near = reach.0 c.if-not-is_in_reach.false in
    let verdict = c.judge-verdict.result in
    let judged = judged_told ops c.new.result op s.op (verdict_of verdict) op_is c.new.ensures c.judge-verdict.ensures in
    let none_lacking = told_lacks_none ops s.op c.requires.follows verdict judged made.fits in
    let foreign = none_lacking.0 (sym c.lacks_none.ensures ∙ c.if-not-lacks_none.false) in
    let there = lasts_told kept op s.op c.site.result c.in_ok-ranges.ranges.items c.deref.result.now
    c.in_ok-lasts.lasts.items c.deref-3.result.now op_is c.site.ensures c.deref.ensures.value
    c.in_ok-ranges.ensures.ok c.in_ok-lasts.ensures.ok c.deref-3.ensures.value in
    let hashes = c.in_ok-hashes.hashes.items in
    let inserted = subst (λ (xs : List CharName). AllZip (IsHashOfInsert ops kept.hashes) xs hashes) there
    c.in_ok-hashes.ensures.ok in
    let digest = g.D.Digest.digest c.args.digest.now in
    let said = subst (λ on. IsTrue c.is_said_of.result ↔ (on ≡ said_of digest hashes)) (ap (λ (x : Saying). x.on) c.saying.view_is)
    (subst (λ hs. IsTrue c.is_said_of.result ↔ (c.saying.inside.on ≡ said_of digest hs)) c.deref-4.ensures.value
    c.is_said_of.ensures) in
    let known = c.lemma_are_held_to_the_front.ensures.identified in
    let once = c.lemma_are_held_to_the_front.ensures.once in
    λ note admitted same is given.
    if_on_others note admitted kept is s set ops same c.requires.good known once hashes inserted digest given made near
    foreign (λ says. both_ways c.is_said_of.result c.if-not-is_said_of.true (said.1 says))

pub returns-then-not-is_ready-clause-ok : goal.returns-then-not-is_ready-clause-ok
returns-then-not-is_ready-clause-ok g c =
    let kept = c.args.self.now in
    let s = c.args.saying.now in
    let ops = c.args.log.now.ops in
    let op = c.saying.inside.op in
    let op_is : op ≡ s.op = ap (λ (x : Saying). x.op) c.saying.view_is in
    let set = set_told op s.op c.in_ok-ranges.ranges.items c.in_ok-ranges.ensures.ok c.in_ok-ranges.ensures.set op_is in
    let lasts = lasts_told kept op s.op c.site.result c.in_ok-ranges.ranges.items c.deref.result.now
    c.in_ok-lasts.lasts.items c.deref-2.result.now op_is c.site.ensures c.deref.ensures.value
    c.in_ok-ranges.ensures.ok c.in_ok-lasts.ensures.ok c.deref-2.ensures.value in
    let well = subst (λ (xs : List CharName). IsTrue c.is_well_made.result ↔ IsMadeOver ops s xs) lasts
    c.is_well_made.ensures in
    let made = well.0 c.if-not-is_well_made.false in
    let reach = subst (λ (o : Operation). IsTrue c.is_in_reach.result ↔ (o.stamp ≤ greatest_stamp ops + MAX_LEAP)) op_is
    c.is_in_reach.ensures in
    let near = reach.0 c.if-not-is_in_reach.false in
    let verdict = c.judge-verdict.result in
    let judged = judged_told ops c.new.result op s.op (verdict_of verdict) op_is c.new.ensures c.judge-verdict.ensures in
    let none_lacking = told_lacks_none ops s.op c.requires.follows verdict judged made.fits in
    let foreign = none_lacking.0 (sym c.lacks_none.ensures ∙ c.if-not-lacks_none.false) in
    let there = lasts_told kept op s.op c.site.result c.in_ok-ranges.ranges.items c.deref.result.now
    c.in_ok-lasts.lasts.items c.deref-3.result.now op_is c.site.ensures c.deref.ensures.value
    c.in_ok-ranges.ensures.ok c.in_ok-lasts.ensures.ok c.deref-3.ensures.value in
    let hashes = c.in_ok-hashes.hashes.items in
    let inserted = subst (λ (xs : List CharName). AllZip (IsHashOfInsert ops kept.hashes) xs hashes) there
    c.in_ok-hashes.ensures.ok in
    let digest = g.D.Digest.digest c.args.digest.now in
    let said = subst (λ on. IsTrue c.is_said_of.result ↔ (on ≡ said_of digest hashes)) (ap (λ (x : Saying). x.on) c.saying.view_is)
    (subst (λ hs. IsTrue c.is_said_of.result ↔ (c.saying.inside.on ≡ said_of digest hs)) c.deref-4.ensures.value
    c.is_said_of.ensures) in
    let known = c.lemma_are_held_to_the_front.ensures.identified in
    let once = c.lemma_are_held_to_the_front.ensures.once in
    let says = said.0 c.if-not-is_said_of.false in
    let told = told_ready ops s.op c.requires.follows verdict judged made.fits foreign in
    λ note admitted same is given.
    if_low note admitted kept is s set ops same c.requires.good known once hashes inserted digest given made near foreign
    says (λ above. both_ways c.is_ready.result c.if-not-is_ready.true (c.is_ready.ensures ∙ told.1 above))

pub returns-clause-ok : goal.returns-clause-ok
returns-clause-ok g c =
    let kept = c.args.self.now in
    let s = c.args.saying.now in
    let ops = c.args.log.now.ops in
    let op = c.saying.inside.op in
    let op_is : op ≡ s.op = ap (λ (x : Saying). x.op) c.saying.view_is in
    let set = set_told op s.op c.in_ok-ranges.ranges.items c.in_ok-ranges.ensures.ok c.in_ok-ranges.ensures.set op_is in
    let lasts = lasts_told kept op s.op c.site.result c.in_ok-ranges.ranges.items c.deref.result.now
    c.in_ok-lasts.lasts.items c.deref-2.result.now op_is c.site.ensures c.deref.ensures.value
    c.in_ok-ranges.ensures.ok c.in_ok-lasts.ensures.ok c.deref-2.ensures.value in
    let well = subst (λ (xs : List CharName). IsTrue c.is_well_made.result ↔ IsMadeOver ops s xs) lasts
    c.is_well_made.ensures in
    let made = well.0 c.if-not-is_well_made.false in
    let reach = subst (λ (o : Operation). IsTrue c.is_in_reach.result ↔ (o.stamp ≤ greatest_stamp ops + MAX_LEAP)) op_is
    c.is_in_reach.ensures in
    let near = reach.0 c.if-not-is_in_reach.false in
    let verdict = c.judge-verdict.result in
    let judged = judged_told ops c.new.result op s.op (verdict_of verdict) op_is c.new.ensures c.judge-verdict.ensures in
    let none_lacking = told_lacks_none ops s.op c.requires.follows verdict judged made.fits in
    let foreign = none_lacking.0 (sym c.lacks_none.ensures ∙ c.if-not-lacks_none.false) in
    let there = lasts_told kept op s.op c.site.result c.in_ok-ranges.ranges.items c.deref.result.now
    c.in_ok-lasts.lasts.items c.deref-3.result.now op_is c.site.ensures c.deref.ensures.value
    c.in_ok-ranges.ensures.ok c.in_ok-lasts.ensures.ok c.deref-3.ensures.value in
    let hashes = c.in_ok-hashes.hashes.items in
    let inserted = subst (λ (xs : List CharName). AllZip (IsHashOfInsert ops kept.hashes) xs hashes) there
    c.in_ok-hashes.ensures.ok in
    let digest = g.D.Digest.digest c.args.digest.now in
    let said = subst (λ on. IsTrue c.is_said_of.result ↔ (on ≡ said_of digest hashes)) (ap (λ (x : Saying). x.on) c.saying.view_is)
    (subst (λ hs. IsTrue c.is_said_of.result ↔ (c.saying.inside.on ≡ said_of digest hs)) c.deref-4.ensures.value
    c.is_said_of.ensures) in
    let known = c.lemma_are_held_to_the_front.ensures.identified in
    let once = c.lemma_are_held_to_the_front.ensures.once in
    let says = said.0 c.if-not-is_said_of.false in
    let told = told_ready ops s.op c.requires.follows verdict judged made.fits foreign in
    λ note admitted same is given.
    if_all note admitted kept is s set ops same c.requires.good known once hashes inserted digest given made near foreign
    says (told.0 (sym c.is_ready.ensures ∙ c.if-not-is_ready.false))

pub returns-clause-ready : goal.returns-clause-ready
returns-clause-ready g c =
    let kept = c.args.self.now in
    let s = c.args.saying.now in
    let ops = c.args.log.now.ops in
    let op = c.saying.inside.op in
    let op_is : op ≡ s.op = ap (λ (x : Saying). x.op) c.saying.view_is in
    let set = set_told op s.op c.in_ok-ranges.ranges.items c.in_ok-ranges.ensures.ok c.in_ok-ranges.ensures.set op_is in
    let lasts = lasts_told kept op s.op c.site.result c.in_ok-ranges.ranges.items c.deref.result.now
    c.in_ok-lasts.lasts.items c.deref-2.result.now op_is c.site.ensures c.deref.ensures.value
    c.in_ok-ranges.ensures.ok c.in_ok-lasts.ensures.ok c.deref-2.ensures.value in
    let well = subst (λ (xs : List CharName). IsTrue c.is_well_made.result ↔ IsMadeOver ops s xs) lasts
    c.is_well_made.ensures in
    let made = well.0 c.if-not-is_well_made.false in
    let reach = subst (λ (o : Operation). IsTrue c.is_in_reach.result ↔ (o.stamp ≤ greatest_stamp ops + MAX_LEAP)) op_is
    c.is_in_reach.ensures in
    let near = reach.0 c.if-not-is_in_reach.false in
    let verdict = c.judge-verdict.result in
    let judged = judged_told ops c.new.result op s.op (verdict_of verdict) op_is c.new.ensures c.judge-verdict.ensures in
    let none_lacking = told_lacks_none ops s.op c.requires.follows verdict judged made.fits in
    let foreign = none_lacking.0 (sym c.lacks_none.ensures ∙ c.if-not-lacks_none.false) in
    let told = told_ready ops s.op c.requires.follows verdict judged made.fits foreign in
    λ same. (c.requires.follows, made.fits, foreign, told.0 (sym c.is_ready.ensures ∙ c.if-not-is_ready.false))
