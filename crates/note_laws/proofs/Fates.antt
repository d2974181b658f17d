-- The next message of a chain has one fate.
use Rattle.std.proofs.Common.{◌≡◌, ℕ, ◌+◌, ◌<◌, ◌⊎◌, inl, inr, List, refl}
use Rattle.char_files.specs.CharName.{CharName}
use Rattle.operations.specs.Operation.{Operation, Mentions}
use Rattle.tree_order.specs.Good.{IsPredecessor}
use Rattle.tree_order.specs.Tree.{IsChar}
use Rattle.set_laws.specs.Fronts.{greatest_stamp}
use Rattle.set_laws.specs.Verdict.{Verdict, wait, misfit, low_stamp, ready, HasVerdict, FollowsOn, FitsFile}
use Rattle.set_laws.specs.Verdict.{HasForeignNames, IsAboveCauses}
use Rattle.set_laws.proofs.OneMore.{mentioned_are_chars}
use Rattle.set_laws.proofs.Verdicts.{some_verdict}
use Rattle.note_laws.specs.Note.{Note, Entries, Saying}
use Rattle.note_laws.specs.Chains.{operations, ComesNext}
use Rattle.note_laws.specs.Admission.{MAX_LEAP, SaysWhereItMust, IsWellMade, IsInReach, BuildsOn}
use Rattle.note_laws.specs.Admission.{Fate, counts, wrong, held_back, lacks, on_others, MeetsFate}
use Rattle.note_laws.specs.Admission.{CountInTurn, IsAdmission}
use Rattle.note_laws.specs.Laws.{HasOneFate, EndsOrWaits}
use Rattle.note_laws.proofs.Choosing.{is_predecessor}
use Rattle.note_laws.proofs.Deciding.{IsDecided, both, only_if, is_less, is_at_most, has_some, all_are}
use Rattle.note_laws.proofs.InTurn.{sound_whole}
use Rattle.note_laws.proofs.Lasts.{some_beyond, builds_on}

-- what a verdict on an operation answers

pub follows_by : (ops : List Operation) (op : Operation) (v : Verdict) → HasVerdict ops op v
    → IsDecided (FollowsOn ops op)
follows_by ops op wait (inl none) = inr none
follows_by ops op wait (inr h) = inl h.0
follows_by ops op misfit h = inl h.0
follows_by ops op low_stamp h = inl h.0
follows_by ops op ready h = inl h.0

module _ (ops : List Operation) (op : Operation) (follows : FollowsOn ops op) where
  fits_by : (v : Verdict) → HasVerdict ops op v → IsDecided (FitsFile ops op)
  fits_by wait (inl none) = absurd (none follows)
  fits_by wait (inr h) = inl h.1
  fits_by misfit h = inr h.1
  fits_by low_stamp h = inl h.1
  fits_by ready h = inl h.1

  module _ (fits : FitsFile ops op) where
    foreign_by : (v : Verdict) → HasVerdict ops op v → IsDecided (HasForeignNames ops op)
    foreign_by wait (inl none) = absurd (none follows)
    foreign_by wait (inr h) = inr h.2
    foreign_by misfit h = absurd (h.1 fits)
    foreign_by low_stamp h = inl h.2
    foreign_by ready h = inl h.2

    above_by : HasForeignNames ops op → (v : Verdict) → HasVerdict ops op v → IsDecided (IsAboveCauses ops op)
    above_by foreign wait (inl none) = absurd (none follows)
    above_by foreign wait (inr h) = absurd (h.2 foreign)
    above_by foreign misfit h = absurd (h.1 fits)
    above_by foreign low_stamp h = inr h.3
    above_by foreign ready h = inl h.3

says_where_it_must : (note : Note) (there : List Saying) (s : Saying) → IsDecided (SaysWhereItMust note there s)
says_where_it_must note there s =
    both (only_if (has_some s.on) (some_beyond note there s)) (only_if (some_beyond note there s) (has_some s.on))

module _ (note : Note) (entries : Entries) (text : ℕ) (there : List Saying)
    (in_turn : CountInTurn note entries text there) (s : Saying) (follows : FollowsOn (operations there) s.op) where
  abbrev Found : Type 0
  Found = (v : Verdict) × HasVerdict (operations there) s.op v

  found : Found
  found = some_verdict (operations there) s.op

  is_well_made : IsDecided (IsWellMade note there s)
  is_well_made =
      elim (both (all_are (λ p. IsPredecessor p.op s.op → p.op.stamp < s.op.stamp) there
      (λ p held. only_if (is_predecessor p.op s.op) (is_less p.op.stamp s.op.stamp)))
      (both (fits_by (operations there) s.op follows found.0 found.1) (says_where_it_must note there s))) [
        | inl is ↦ inl (record { above = is.0; fits = is.1.0; says = is.1.1 })
        | inr none ↦ inr (λ made. none (made.above, (made.fits, made.says)))
      ]

  chars : FitsFile (operations there) s.op → HasForeignNames (operations there) s.op → (name : CharName)
      → Mentions s.op name → IsChar (operations there) name
  chars fits foreign =
      let sound = sound_whole note entries text there in_turn in
      mentioned_are_chars (operations there) sound.good sound.known s.op fits foreign

  fate_by_causes : IsWellMade note there s → IsInReach there s → HasForeignNames (operations there) s.op
      → BuildsOn note there s → (fate : Fate) × MeetsFate note there s fate
  fate_by_causes made near foreign on =
      elim (above_by (operations there) s.op follows made.fits foreign found.0 found.1) [
        | inl above ↦ (counts, (made, near, foreign, on, above))
        | inr low ↦ (wrong, inr (made, near, foreign, on, low))
      ]

  fate_by_names : IsWellMade note there s → IsInReach there s → (fate : Fate) × MeetsFate note there s fate
  fate_by_names made near =
      elim (foreign_by (operations there) s.op follows made.fits found.0 found.1) [
        | inr none ↦ (lacks, (made, near, none))
        | inl foreign ↦ elim (builds_on note there s entries text in_turn (chars made.fits foreign)) [
          | inr none ↦ (on_others, (made, near, foreign, none))
          | inl on ↦ fate_by_causes made near foreign on
        ]
      ]

  pub some_fate : (fate : Fate) × MeetsFate note there s fate
  some_fate =
      elim is_well_made [
        | inr none ↦ (wrong, inl none)
        | inl made ↦ elim (is_at_most s.op.stamp (greatest_stamp (operations there) + MAX_LEAP)) [
          | inr far ↦ (held_back, (made, far))
          | inl near ↦ fate_by_names made near
        ]
      ]

pub same_fate : (note : Note) (there : List Saying) (s : Saying) (f g : Fate) → MeetsFate note there s f
    → MeetsFate note there s g → f ≡ g
same_fate note there s counts counts p q = refl
same_fate note there s wrong wrong p q = refl
same_fate note there s held_back held_back p q = refl
same_fate note there s lacks lacks p q = refl
same_fate note there s on_others on_others p q = refl
same_fate note there s counts wrong p (inl q) = absurd (q p.0)
same_fate note there s counts wrong p (inr q) = absurd (q.4 p.4)
same_fate note there s counts held_back p q = absurd (q.1 p.1)
same_fate note there s counts lacks p q = absurd (q.2 p.2)
same_fate note there s counts on_others p q = absurd (q.3 p.3)
same_fate note there s wrong counts (inl p) q = absurd (p q.0)
same_fate note there s wrong counts (inr p) q = absurd (p.4 q.4)
same_fate note there s wrong held_back (inl p) q = absurd (p q.0)
same_fate note there s wrong held_back (inr p) q = absurd (q.1 p.1)
same_fate note there s wrong lacks (inl p) q = absurd (p q.0)
same_fate note there s wrong lacks (inr p) q = absurd (q.2 p.2)
same_fate note there s wrong on_others (inl p) q = absurd (p q.0)
same_fate note there s wrong on_others (inr p) q = absurd (q.3 p.3)
same_fate note there s held_back counts p q = absurd (p.1 q.1)
same_fate note there s held_back wrong p (inl q) = absurd (q p.0)
same_fate note there s held_back wrong p (inr q) = absurd (p.1 q.1)
same_fate note there s held_back lacks p q = absurd (p.1 q.1)
same_fate note there s held_back on_others p q = absurd (p.1 q.1)
same_fate note there s lacks counts p q = absurd (p.2 q.2)
same_fate note there s lacks wrong p (inl q) = absurd (q p.0)
same_fate note there s lacks wrong p (inr q) = absurd (p.2 q.2)
same_fate note there s lacks held_back p q = absurd (q.1 p.1)
same_fate note there s lacks on_others p q = absurd (p.2 q.2)
same_fate note there s on_others counts p q = absurd (p.3 q.3)
same_fate note there s on_others wrong p (inl q) = absurd (q p.0)
same_fate note there s on_others wrong p (inr q) = absurd (p.3 q.3)
same_fate note there s on_others held_back p q = absurd (q.1 p.1)
same_fate note there s on_others lacks p q = absurd (q.2 p.2)

pub one_fate : (note : Note) (entries : Entries) (text : ℕ) (there : List Saying)
    → CountInTurn note entries text there → (s : Saying) → FollowsOn (operations there) s.op
    → HasOneFate note there s
one_fate note entries text there in_turn s follows =
    let (fate, is) = some_fate note entries text there in_turn s follows in
    record { fate = fate; is = is; only = λ other is'. same_fate note there s other fate is' is }

-- of the fates that the next message of an admission can have two are left, where it lacks nothing
module _ (note : Note) (entries : Entries) (text : ℕ) (there : List Saying) (is : IsAdmission note entries text there)
    (s : Saying) (next : ComesNext note entries text there s) where
  by_fate : (fate : Fate) → MeetsFate note there s fate → HasForeignNames (operations there) s.op
      → BuildsOn note there s → MeetsFate note there s wrong ⊎ MeetsFate note there s held_back
  by_fate counts h foreign on = absurd (is.full s (next, h))
  by_fate wrong h foreign on = inl h
  by_fate held_back h foreign on = inr h
  by_fate lacks h foreign on = absurd (h.2 foreign)
  by_fate on_others h foreign on = absurd (h.3 on)

  pub ends_or_waits : EndsOrWaits note there s
  ends_or_waits =
      let (fate, h) = some_fate note entries text there is.in_turn s next.follows in
      by_fate fate h
