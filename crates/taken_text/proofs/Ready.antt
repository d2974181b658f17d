-- What may be relied on of an operation that is new and ready.
use Rattle.std.proofs.Common.{◌≡◌, ◌+◌, ◌<◌, ◌≤◌, List, [], ◌∷◌, ◌++◌, refl, subst, inl, inr, arith}
use Rattle.std.proofs.lemmas.Bool.{cases_lt}
use Rattle.std.proofs.lemmas.Bool.Decides.{eqb_tells}
use Rattle.std.proofs.lemmas.List.Elements.{Contains-push_cases}
use Rattle.char_files.specs.CharName.{CharName}
use Rattle.operations.specs.Operation.{Operation, Mentions, Begins}
use Rattle.tree_order.specs.Good.{Good}
use Rattle.tree_order.specs.Insertion.{IsOneMore}
use Rattle.tree_order.specs.Registers.{Atom, AreAtoms}
use Rattle.set_laws.specs.Fronts.{front_of, file_len, IsHere}
use Rattle.set_laws.specs.Growing.{AreCountedOn}
use Rattle.set_laws.specs.Sets.{AreIdentified}
use Rattle.set_laws.specs.Verdict.{HasVerdict, IsNew, ready}
use Rattle.piece_list.specs.Spelled.{HasName}
use Rattle.set_laws.proofs.Counting.{counted_on, determined_by_counts}
use Rattle.set_laws.proofs.Fronts.{lemma_are_held_to_the_front}
use Rattle.set_laws.proofs.ByVerdict.{grows_by_verdict}

module _ (ops : List Operation) (op : Operation) (good : Good ops) (identified : AreIdentified ops) (new : IsNew ops op) (is : HasVerdict ops op ready) where
  pub larger_good : Good (ops ++ op ∷ [])
  larger_good = (grows_by_verdict ops op good identified new).ready.0 is

  pub larger_identified : AreIdentified (ops ++ op ∷ [])
  larger_identified = record {
    counted = λ o held. elim (Contains-push_cases ops op o held) [ inl old ↦ identified.counted o old | inr same ↦ subst (λ (x : Operation). 0 < x.seq) same new.counted ];
    unique = larger_good.identities;
  }

  pub one_more : IsOneMore ops op
  one_more = record { good = good; larger = larger_good; new = λ held. new.unheld (op, held, refl, refl) }

  pub counted : AreCountedOn ops op
  counted = counted_on ops op good identified new is.0

  -- it is the site's next one
  pub is_next : op.seq ≡ front_of ops op.site + 1
  is_next =
      let low : op.seq ≤ front_of ops op.site + 1 = ((determined_by_counts ops op good identified new).follows).0 is.0 in
      elim (cases_lt (front_of ops op.site) op.seq) [
        | inl past ↦ omega (arith, low, past)
        | inr within ↦ absurd (new.unheld ((lemma_are_held_to_the_front ops good identified op.site op.seq).1 (new.counted, within)))
      ]

  pub begins : Begins op.kind (file_len ops op.site)
  begins = is.1.begins

  -- the names that it mentions are here
  pub mentioned_here : (c : CharName) → Mentions op c → IsHere ops c
  mentioned_here c h = elim (eqb_tells c.site op.site) [ inl own ↦ is.1.own c h own.1 | inr foreign ↦ is.2 c h foreign.1 ]

  -- and so in the list of all characters
  pub mentioned_atoms : (atoms : List Atom) → AreAtoms ops atoms → (c : CharName) → Mentions op c → HasName atoms c
  mentioned_atoms atoms are c h = (are.order.each c).1 (((determined_by_counts ops op good identified new).here c).0 (mentioned_here c h))

  -- names after the end of the site's file aren't
  pub none_after : (atoms : List Atom) → AreAtoms ops atoms → (c : CharName) → file_len ops c.site ≤ c.off → HasName atoms c → ⊥
  none_after atoms are c after h =
      let here = ((determined_by_counts ops op good identified new).here c).1 ((are.order.each c).0 h) in
      omega (arith, here, after)
