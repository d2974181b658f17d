-- What is said of the next message of a chain over more messages that are there, where it is not among them.
use Rattle.std.proofs.Common.{◌≡◌, ℕ, ◌≤◌, inl, inr, List, [], ◌∷◌, Contains}
use Rattle.std.proofs.Common.{ap, subst, ◌∙◌, arith}
use Rattle.std.specs.List.{AllZip}
use Rattle.std.proofs.lemmas.Bool.{cases_lt}
use Rattle.char_files.specs.CharName.{CharName}
use Rattle.operations.specs.Operation.{Operation}
use Rattle.set_laws.specs.Fronts.{greatest_stamp, IsHeld}
use Rattle.set_laws.specs.Sets.{IsPartOf}
use Rattle.set_laws.specs.Verdict.{IsNew, FollowsOn, FitsFile, HasForeignNames, IsAboveCauses}
use Rattle.set_laws.proofs.Covered.{one_insert}
use Rattle.set_laws.proofs.Files.{here_is_char, char_is_here}
use Rattle.set_laws.proofs.Fronts.{greatest_bound, greatest_reached}
use Rattle.set_laws.proofs.OneMore.{mentioned_are_chars}
use Rattle.note_laws.specs.Note.{Note, Entries, Saying}
use Rattle.note_laws.specs.Chains.{operations, HoldsItsPlace, ComesNext}
use Rattle.note_laws.specs.Admission.{IsLastBeyond, IsInsertedBy, BuildsOn}
use Rattle.note_laws.specs.Admission.{IsWellMade, IsInReach, IsAdmissible, CountInTurn}
use Rattle.note_laws.specs.Laws.{AreAmong}
use Rattle.note_laws.proofs.InTurn.{IsSound, sound_whole}
use Rattle.note_laws.proofs.Lists.{has_op, of_op}
use Rattle.note_laws.proofs.OwnChain.{IsPast, beyond_same, ops_within, own_same, well_made_same}

-- the greatest stamp of less is no greater
lower_stamps : (a b : List Operation) → IsPartOf a b → greatest_stamp a ≤ greatest_stamp b
lower_stamps a b within =
    elim (cases_lt 0 (greatest_stamp a)) [
      | inr none ↦ omega arith
      | inl some ↦
          let (op, held, is) = greatest_reached (λ o. o.stamp) a some in
          let bound = greatest_bound (λ o. o.stamp) b op (within op held) in
          omega arith
    ]

module _ (note : Note) (entries more : Entries) (text : ℕ) (a b : List Saying) (x : Saying) (sound : IsSound a)
    (in_turn : CountInTurn note more text b) (within : AreAmong a b) (next : ComesNext note entries text a x)
    (absent : IsHeld (operations b) x.op.site x.op.seq → ⊥) where
  whole : IsSound b
  whole = sound_whole note more text b in_turn

  part : IsPartOf (operations a) (operations b)
  part = ops_within a b within

  new_there : IsNew (operations b) x.op
  new_there = record { counted = next.new.counted; unheld = absent }

  follows_there : FollowsOn (operations b) x.op
  follows_there later = let (o, held, is) = next.follows later in (o, part o held, is)

  past : IsPast b a x.op
  past = record { sound = sound; within = within; new = next.new; follows = next.follows }

  past' : IsPast b b x.op
  past' = record { sound = whole; within = λ s held. held; new = new_there; follows = follows_there }

  own_before : (z : Saying) → Contains b z → z.op.site ≡ x.op.site → Contains a z
  own_before = own_same note more text b in_turn b a x past' past

  -- it is the next one there
  pub next_there : HoldsItsPlace note more x → ComesNext note more text b x
  next_there holds = record {
    of_text = next.of_text;
    new = new_there;
    follows = follows_there;
    holds = holds;
    names = elim next.names [
      | inl held ↦ inl held
      | inr names ↦ inr (record {
        first = names.first;
        later = λ q held is. names.later q (own_before q held is.0) is;
      })
    ];
  }

  -- as well made as before
  pub well_made_there : IsWellMade note a x → IsWellMade note b x
  well_made_there = well_made_same note more text b in_turn a b x past past'

  pub well_made_before : IsWellMade note b x → IsWellMade note a x
  well_made_before = well_made_same note more text b in_turn b a x past' past

  pub in_reach_there : IsInReach a x → IsInReach b x
  in_reach_there near = let less = lower_stamps (operations a) (operations b) part in omega arith

  pub foreign_there : HasForeignNames (operations a) x.op → HasForeignNames (operations b) x.op
  foreign_there foreign name m other =
      let (i, is) = here_is_char (operations a) sound.good sound.known name (foreign name m other) in
      char_is_here (operations b) whole.good whole.known name
      (i, record { held = part i is.held; inserts = is.inserts })

  last_there : (name : CharName) → IsLastBeyond note a x name → IsLastBeyond note b x name
  last_there name is = record {
    beyond = beyond_same note more text b in_turn a b x past past' name own_before is.beyond;
    last = is.last;
  }

  last_before : (name : CharName) → IsLastBeyond note b x name → IsLastBeyond note a x name
  last_before name is = record {
    beyond = beyond_same note more text b in_turn b a x past' past name (λ z held on. within z held) is.beyond;
    last = is.last;
  }

  inserted_there : (names : List CharName) (hashes : List ℕ) → AllZip (IsInsertedBy a) names hashes
      → AllZip (IsInsertedBy b) names hashes
  inserted_there [] [] all = tt
  inserted_there [] (hash ∷ hashes) all = absurd all
  inserted_there (name ∷ names) [] all = absurd all
  inserted_there (name ∷ names) (hash ∷ hashes) all =
      let (i, held, ins, is) = all.0 in ((i, within i held, ins, is), inserted_there names hashes all.1)

  pub builds_there : BuildsOn note a x → BuildsOn note b x
  builds_there on = record {
    lasts = on.lasts;
    all = λ name. (λ held. last_there name ((on.all name).0 held), λ is. (on.all name).1 (last_before name is));
    rising = on.rising;
    hashes = on.hashes;
    inserted = inserted_there on.lasts on.hashes on.inserted;
    says = on.says;
  }

  -- its causes there are those of before
  pub above_there : FitsFile (operations a) x.op → HasForeignNames (operations a) x.op
      → IsAboveCauses (operations a) x.op → IsAboveCauses (operations b) x.op
  above_there fits foreign above o held (inl is) =
      let (z, there, same) = of_op b o held in
      let on : z.op.site ≡ x.op.site = ap (λ (op : Operation). op.site) same ∙ is.0 in
      above o (subst (Contains (operations a)) same (has_op a z (own_before z there on))) (inl is)
  above_there fits foreign above o held (inr (name, m, ins)) =
      let (i, is) = mentioned_are_chars (operations a) sound.good sound.known x.op fits foreign name m in
      let same : i ≡ o = one_insert (operations b) whole.known whole.good.begins name i o (part i is.held) held
      is.inserts ins in
      above o (subst (Contains (operations a)) same is.held) (inr (name, m, ins))

  -- and it counts
  pub counts_there : HoldsItsPlace note more x → IsAdmissible note entries text a x → IsAdmissible note more text b x
  counts_there holds (_, (made, near, foreign, on, above)) = (
    next_there holds,
    (
      well_made_there made,
      in_reach_there near,
      foreign_there foreign,
      builds_there on,
      above_there made.fits foreign above,
    ),
  )
