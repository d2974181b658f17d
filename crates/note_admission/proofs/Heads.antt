-- The next message of a chain, and the last one before it.
use Rattle.std.proofs.Common.{◌≡◌, ℕ, ◌+◌, inl, inr, List, Option, map, Contains, None, Some, slice_get}
use Rattle.std.specs.Option.{IfNone, IfSome, option_map}
use Rattle.std.proofs.Common.{sym, ap, subst, ◌∙◌, arith}
use Rattle.std.proofs.lemmas.Bool.{cases_lt}
use Rattle.std.proofs.lemmas.Option.{slice_get_cases, slice_get_past, slice_get-map}
use Rattle.operations.specs.Operation.{Operation}
use Rattle.tree_order.specs.Good.{Good}
use Rattle.set_laws.specs.Fronts.{front_of, IsHeld}
use Rattle.set_laws.specs.Sets.{AreIdentified}
use Rattle.set_laws.proofs.Files.{follows_by_front, next_seq}
use Rattle.set_laws.proofs.Fronts.{front_reached, lemma_are_held_to_the_front}
use Rattle.note_laws.specs.Note.{Note, Entries, Saying}
use Rattle.note_laws.specs.Chains.{operations, ComesNext}
use Rattle.note_laws.proofs.InTurn.{one_of_identity, sound_whole}
use Rattle.note_laws.proofs.Lists.{has_op, held_at, of_op}
use Rattle.note_admission.specs.Growing.{AreTaken, IsHashOf, IsLastHash, IsNextOfNumber, TextSeen}
use Rattle.note_admission.specs.Places.{StandsInChain}

mapped : {B : Type 0} (f : Saying → B) (xs : List Saying) (n : ℕ) (y : B) → slice_get (map f xs) n ≡ Some y
    → (x : Saying) × (slice_get xs n ≡ Some x) × (f x ≡ y)
mapped f xs n y at =
    let by = slice_get-map f xs n in
    elim (slice_get_cases xs n).1 [
      | inl found ↦
          let (x, lt, here, is) = found in
          let same : Some (f x) ≡ Some y = sym (by ∙ ap (option_map f) here) ∙ at in
          (x, here, cc)
      | inr past ↦
          let none = slice_get_past xs n past.0 in
          let never : None ≡ Some y = sym (by ∙ ap (option_map f) none) ∙ at in
          cc
    ]

pub if_none_then : {X : Type 0} (o : Option X) {P Q : Type 0} → IfNone o P → (P → Q) → IfNone o Q
if_none_then None p f = f p
if_none_then (Some x) p f = p

pub some_at : {X : Type 0} (P : X → Type 0) (o : Option X) (x : X) → o ≡ Some x → IfSome o P → P x
some_at {X = X} P o x is h = let Q : Option X → Type 0 = λ o. IfSome o P in subst Q is h

pub none_at : {X : Type 0} (P : Type 0) (o : Option X) → o ≡ None → IfNone o P → P
none_at {X = X} P o is h = let Q : Option X → Type 0 = λ o. IfNone o P in subst Q is h

-- an operation at the end of its site's file is next
pub next_op : (text : ℕ) (ops : List Operation) → Good ops → AreIdentified ops → (site : ℕ) (op : Operation) → op.text ≡ text
    → op.site ≡ site → op.seq ≡ front_of ops site + 1 → IsNextOfNumber text ops site op
next_op text ops good known site op of on at =
    let front : front_of ops op.site ≡ front_of ops site = ap (front_of ops) on in
    record {
      of_text = of;
      of_site = on;
      new = record {
        counted = omega arith;
        unheld = λ h.
            let (some, le) = (lemma_are_held_to_the_front ops good known op.site op.seq).0 h in
            absurd (omega arith);
      };
      follows = follows_by_front ops good op (omega arith);
    }

module _ (note : Note) (entries : Entries) (t : TextSeen) (admitted : List Saying)
    (taken : AreTaken note entries t admitted) where
  same_front : (site : ℕ) → front_of (operations admitted) site ≡ front_of t.ops site
  same_front site = ap (λ (ops : List Operation). front_of ops site) taken.logged

  -- the last hash, looked up
  pub last_hash : (site hash : ℕ)
      → (IsHeld t.ops site (front_of t.ops site) → IsHashOf t.ops t.kept.hashes site (front_of t.ops site) hash)
      → ((IsHeld t.ops site (front_of t.ops site) → ⊥) → hash ≡ 0) → IsLastHash admitted site hash
  last_hash site hash held none = record {
    some = λ p there on at.
        let in_log : Contains t.ops p.op =
        subst (λ (ops : List Operation). Contains ops p.op) taken.logged (has_op admitted p there) in
        let (place, op, here, on', at', hash_at) = held (p.op, in_log, on, at ∙ same_front site) in
        let op_at = ap (λ (ops : List Operation). slice_get ops place) taken.logged ∙ here in
        let (x, x_at, x_op) = mapped (λ s. s.op) admitted place op op_at in
        let h_at = ap (λ (hs : List ℕ). slice_get hs place) (sym taken.tables.hashes) ∙ hash_at in
        let (y, y_at, y_hash) = mapped (λ s. s.hash) admitted place hash h_at in
        let both : Some y ≡ Some x = sym y_at ∙ x_at in
        let same : y ≡ x = cc in
        let one : x ≡ p = one_of_identity note entries t.text admitted taken.in_turn x p
        (held_at admitted place x x_at) there (ap (λ (o : Operation). o.site) x_op ∙ (on' ∙ sym on))
        (ap (λ (o : Operation). o.seq) x_op ∙ (at' ∙ (sym (same_front site) ∙ sym at))) in
        sym y_hash ∙ ap (λ (s : Saying). s.hash) (same ∙ one);
    none = λ zero. none (λ h.
        let (o, there, on, at) = h in
        let known = (sound_whole note entries t.text admitted taken.in_turn).known in
        let counted = known.counted o (subst (λ (ops : List Operation). Contains ops o) (sym taken.logged) there) in
        let front = same_front site in
        absurd (omega arith));
  }

  -- what stands after the last one comes next
  pub to_next : (site last : ℕ) (s : Saying) → IsLastHash admitted site last
      → StandsInChain note entries t.text site (front_of t.ops site + 1) last s → ComesNext note entries t.text admitted s
  to_next site last s is stands =
      let sound = sound_whole note entries t.text admitted taken.in_turn in
      let front = same_front site in
      let seq = stands.of_seq in
      let next = next_op t.text (operations admitted) sound.good sound.known site s.op stands.of_text stands.of_site (omega arith) in
      record {
        of_text = stands.of_text;
        new = next.new;
        follows = next.follows;
        holds = stands.holds;
        names = elim stands.follows [
          | inl base ↦ inl base
          | inr before ↦ inr (record {
            first = λ one.
                let zero : front_of (operations admitted) site ≡ 0 = omega arith in
                before ∙ is.none zero;
            later = λ p there pred.
                let step = pred.1 in
                let at : p.op.seq ≡ front_of (operations admitted) site = omega arith in
                before ∙ is.some p there (pred.0 ∙ stands.of_site) at;
          })
        ];
      }

  -- and what comes next stands there
  pub from_next : (site last : ℕ) (s : Saying) → IsLastHash admitted site last → s.op.site ≡ site
      → ComesNext note entries t.text admitted s → StandsInChain note entries t.text site (front_of t.ops site + 1) last s
  from_next site last s is on next =
      let sound = sound_whole note entries t.text admitted taken.in_turn in
      let ops = operations admitted in
      let front = same_front site in
      let own : front_of ops s.op.site ≡ front_of ops site = ap (front_of ops) on in
      let seq = next_seq ops sound.good s.op next.new next.follows in
      record {
        of_text = next.of_text;
        of_site = on;
        of_seq = omega arith;
        holds = next.holds;
        follows = elim next.names [
          | inl base ↦ inl base
          | inr names ↦ inr (elim (cases_lt 0 (front_of ops site)) [
            | inl some ↦
                let (o, there, o_on, o_at) = front_reached ops site some in
                let (q, here, same) = of_op admitted o there in
                let q_on : q.op.site ≡ site = ap (λ (x : Operation). x.site) same ∙ o_on in
                let q_at : q.op.seq ≡ front_of ops site = ap (λ (x : Operation). x.seq) same ∙ o_at in
                let step : q.op.seq + 1 ≡ s.op.seq = omega arith in
                names.later q here (q_on ∙ sym on, step) ∙ sym (is.some q here q_on q_at)
            | inr past ↦
                let zero : front_of ops site ≡ 0 = omega arith in
                let one : s.op.seq ≡ 1 = omega arith in
                names.first one ∙ sym (is.none zero)
          ])
        ];
      }
