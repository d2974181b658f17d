-- A message that builds on others does so over each greater admission in which it keeps its place.
use Rattle.std.proofs.Common.{◌≡◌, ℕ, inl, inr, List, [], ◌∷◌, take, Contains}
use Rattle.std.proofs.Common.{ap, subst, ◌∙◌}
use Rattle.std.specs.List.{AllZip}
use Rattle.char_files.specs.CharName.{CharName}
use Rattle.operations.specs.Operation.{Operation, Mentions}
use Rattle.tree_order.specs.Tree.{IsChar}
use Rattle.set_laws.specs.Fronts.{IsHeld}
use Rattle.set_laws.proofs.Covered.{one_insert}
use Rattle.set_laws.proofs.OneMore.{mentioned_are_chars}
use Rattle.set_laws.proofs.Picking.{Contains-head, Contains-tail}
use Rattle.note_laws.specs.Note.{Note, Entries, Saying}
use Rattle.note_laws.specs.Chains.{operations, HoldsItsPlace, ComesNext}
use Rattle.note_laws.specs.Admission.{on_others, BuildsOn, CountInTurn, IsInsertedBy, IsLastBeyond, MeetsFate}
use Rattle.note_laws.specs.Laws.{AreAmong, AreToldApart, IsBaseIdentified}
use Rattle.note_laws.proofs.InTurn.{IsSound, one_of_identity, sound_part, sound_whole}
use Rattle.note_laws.proofs.Lists.{has_op, index_of, of_op, of_take}
use Rattle.note_laws.proofs.OnMore.{foreign_there, in_reach_there, next_there, well_made_there}
use Rattle.note_laws.proofs.OwnChain.{IsPast, beyond_same, ops_within, own_same}
use Rattle.note_laws.proofs.Staying.{held_or_absent}

module _ (note : Note) (entries : Entries) (text : ℕ) (whole : List Saying)
    (in_turn : CountInTurn note entries text whole) where
  -- an admission has one message that inserted a character
  one_inserter : (a c : List Saying) → AreAmong a whole → AreAmong c whole → (name : CharName)
      → IsChar (operations a) name → (hash : ℕ) → IsInsertedBy c name hash → IsInsertedBy a name hash
  one_inserter a c within within' name char hash (j, held, ins, at) =
      let sound = sound_whole note entries text whole in_turn in
      let (o, is) = char in
      let (i, here, same) = of_op a o is.held in
      let equal : o ≡ j.op = one_insert (operations whole) sound.known sound.good.begins name o j.op
      (ops_within a whole within o is.held) (has_op whole j (within' j held)) is.inserts ins in
      let op : i.op ≡ j.op = same ∙ equal in
      let one : i ≡ j = one_of_identity note entries text whole in_turn i j (within i here) (within' j held)
      (ap (λ (x : Operation). x.site) op) (ap (λ (x : Operation). x.seq) op) in
      (j, subst (Contains a) one here, ins, at)

  all_inserted : (a c : List Saying) → AreAmong a whole → AreAmong c whole → (names : List CharName)
      → ((name : CharName) → Contains names name → IsChar (operations a) name) → (hashes : List ℕ)
      → AllZip (IsInsertedBy c) names hashes → AllZip (IsInsertedBy a) names hashes
  all_inserted a c within within' [] chars [] all = tt
  all_inserted a c within within' [] chars (hash ∷ hashes) all = absurd all
  all_inserted a c within within' (name ∷ names) chars [] all = absurd all
  all_inserted a c within within' (name ∷ names) chars (hash ∷ hashes) all = (
    one_inserter a c within within' name (chars name (Contains-head name names)) hash all.0,
    all_inserted a c within within' names (λ x held. chars x (Contains-tail name names x held)) hashes all.1,
  )

  -- what a message builds on over one part it builds on over another that has what it mentions
  builds_before : (a c : List Saying) (x : Saying) → IsPast whole a x.op → IsPast whole c x.op
      → ((name : CharName) → Mentions x.op name → IsChar (operations a) name) → BuildsOn note c x
      → BuildsOn note a x
  builds_before a c x past past' chars on =
      let own = own_same note entries text whole in_turn a c x past past' in
      let own' = own_same note entries text whole in_turn c a x past' past in
      let to : (name : CharName) → IsLastBeyond note c x name → IsLastBeyond note a x name = λ name is. record {
        beyond = beyond_same note entries text whole in_turn c a x past' past name own is.beyond;
        last = is.last;
      } in
      let back : (name : CharName) → IsLastBeyond note a x name → IsLastBeyond note c x name = λ name is. record {
        beyond = beyond_same note entries text whole in_turn a c x past past' name own' is.beyond;
        last = is.last;
      } in
      record {
        lasts = on.lasts;
        all = λ name. (λ held. to name ((on.all name).0 held), λ is. (on.all name).1 (back name is));
        rising = on.rising;
        hashes = on.hashes;
        inserted = all_inserted a c past.within past'.within on.lasts
            (λ name held. chars name ((on.all name).0 held).beyond.mentioned) on.hashes on.inserted;
        says = on.says;
      }

module _ (note : Note) (entries more : Entries) (text : ℕ) (a b : List Saying)
    (in_turn : CountInTurn note entries text a) (in_turn' : CountInTurn note more text b) (within : AreAmong a b)
    (base : IsBaseIdentified note) (told : AreToldApart more) (x : Saying) (next : ComesNext note entries text a x)
    (holds : HoldsItsPlace note more x) where
  sound : IsSound a
  sound = sound_whole note entries text a in_turn

  past : IsPast b a x.op
  past = record { sound = sound; within = within; new = next.new; follows = next.follows }

  chars : MeetsFate note a x on_others → (name : CharName) → Mentions x.op name → IsChar (operations a) name
  chars is = mentioned_are_chars (operations a) sound.good sound.known x.op is.0.fits is.2

  not_there : MeetsFate note a x on_others → Contains b x → ⊥
  not_there is there =
      let (n, at) = index_of b x there in
      let counts = in_turn' n x at in
      let past' : IsPast b (take n b) x.op = record {
        sound = sound_part note more text b in_turn' n;
        within = of_take b n;
        new = counts.0.new;
        follows = counts.0.follows;
      } in
      is.3 (builds_before note more text b in_turn' a (take n b) x past past' (chars is) counts.1.3)

  module _ (absent : IsHeld (operations b) x.op.site x.op.seq → ⊥) where
    others_there : MeetsFate note a x on_others → MeetsFate note b x on_others
    others_there is =
        let comes = next_there note entries more text a b x sound in_turn' within next absent holds in
        let past' : IsPast b b x.op = record {
          sound = sound_whole note more text b in_turn';
          within = λ s held. held;
          new = comes.new;
          follows = comes.follows;
        } in (
          well_made_there note entries more text a b x sound in_turn' within next absent is.0,
          in_reach_there note entries more text a b x sound in_turn' within next absent is.1,
          foreign_there note entries more text a b x sound in_turn' within next absent is.2,
          λ on. is.3 (builds_before note more text b in_turn' a b x past past' (chars is) on),
        )

  pub stays_on_others : MeetsFate note a x on_others
      → ComesNext note more text b x × MeetsFate note b x on_others
  stays_on_others is =
      elim (held_or_absent note entries more text a b x in_turn' within base told next holds) [
        | inl there ↦ absurd (not_there is there)
        | inr absent ↦ (
          next_there note entries more text a b x sound in_turn' within next absent holds,
          others_there absent is,
        )
      ]
