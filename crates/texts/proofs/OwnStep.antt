-- An operation that the site makes next is new, is ready, and is the latest of all.
use Rattle.std.proofs.Common.{◌≡◌, ℕ, ◌+◌, ◌<◌, inl, inr, Bool, List, [], ◌∷◌, ◌++◌, refl, sym, subst}
use Rattle.std.proofs.Common.{arith}
use Rattle.std.proofs.lemmas.List.Elements.{All-cons, All-nil, All-push, Contains-append_left}
use Rattle.std.proofs.lemmas.List.Elements.{Contains-push_cases}
use Rattle.std.specs.Prelude.{All}
use Rattle.looks.specs.Sel.{Selection}
use Rattle.looks.specs.declared.looks.Looks.{Looks}
use Rattle.char_files.specs.CharName.{CharName}
use Rattle.operations.specs.Operation.{Operation, OpKind, MentionsBy, insert, delete, restore, change_looks, Begins}
use Rattle.tree_order.specs.Good.{Good}
use Rattle.tree_order.specs.Insertion.{IsOneMore}
use Rattle.tree_order.specs.Looks.{HasLooks, IsLastToSet, Sets}
use Rattle.tree_order.specs.Sequential.{IsLatest}
use Rattle.tree_order.specs.Shown.{AreChars}
use Rattle.tree_order.specs.Tree.{HasByte, IsChar}
use Rattle.set_laws.specs.Fronts.{greatest, front_of, greatest_stamp, file_len}
use Rattle.set_laws.specs.Growing.{AreDeterminedByCounts, IsOwnNext}
use Rattle.set_laws.specs.Sets.{AreIdentified}
use Rattle.set_laws.specs.Verdict.{HasVerdict, IsNew, ready}
use Rattle.texts.specs.Edit.{own_op, set_after, with_operation}
use Rattle.texts.specs.Order.{order_after}
use Rattle.texts.specs.Text.{AreCharNames, IsText}
use Rattle.texts.specs.TextState.{TextState}
use Rattle.set_laws.proofs.Preceding.{causes_kept_with_one}
use Rattle.set_laws.proofs.Counting.{own_next_ready, determined_by_counts}
use Rattle.set_laws.proofs.Fronts.{lemma_are_held_to_the_front}
use Rattle.set_laws.proofs.ByVerdict.{grows_by_verdict}

-- the operation may be taken in, is the latest, and leaves a text where its characters are those defined
pub record IsOwnStep (t : TextState) (op : Operation) : Type 0 where
  pub new : IsNew t.operations op
  pub told : AreDeterminedByCounts t.operations op
  pub ready : HasVerdict t.operations op ready
  pub one : IsOneMore t.operations op
  pub latest : IsLatest t.operations op
  pub text : AreChars (t.operations ++ op ∷ []) (order_after t.order op) → IsText (with_operation t op)

-- no operation gives as much as what is above the greatest
below : (f : Operation → ℕ) (ops : List Operation) (n : ℕ) → greatest f ops < n → All (λ op. f op < n) ops
below f [] n less = All-nil (λ (op : Operation). f op < n)
below f (op ∷ ops) n less =
    All-cons (λ (o : Operation). f o < n) op ops (omega arith) (below f ops n (omega arith))

-- a character stays one when an operation more is taken in
pub char_stays : (ops : List Operation) (op : Operation) (c : CharName) → IsChar ops c → IsChar (ops ++ op ∷ []) c
char_stays ops op c (i, h) =
    (i, record { held = Contains-append_left ops (op ∷ []) i h.held; inserts = h.inserts })

-- what a Delete keeps are names that it mentions, and the others keep nothing
kept_names : (t : TextState) (kind : OpKind)
    → ((name : CharName) → MentionsBy kind name → IsChar t.operations name)
    → AreCharNames t.operations t.last_set → AreCharNames t.operations (set_after t kind)
kept_names t (insert cause at looks bytes) old kept = kept
kept_names t (delete names) old kept = old
kept_names t (restore names) old kept = kept
kept_names t (change_looks sel looks names) old kept = kept

module _ (t : TextState) (kind : OpKind) (is : IsText t)
    (begins : Begins kind (file_len t.operations t.site))
    (old : (name : CharName) → MentionsBy kind name → IsChar t.operations name) where
  abbrev ops : List Operation
  ops = t.operations

  abbrev own : Operation
  own = own_op t kind

  abbrev with_own : List Operation
  with_own = ops ++ own ∷ []

  new : IsNew ops own
  new = record {
    counted = omega arith;
    unheld = λ held.
        let up = ((lemma_are_held_to_the_front ops is.good is.identified t.site (front_of ops t.site + 1)).0 held).1 in
        omega arith;
  }

  told : AreDeterminedByCounts ops own
  told = determined_by_counts ops own is.good is.identified new

  next : IsOwnNext ops own
  next = record {
    seq = refl;
    stamp = omega arith;
    begins = begins;
    mentions = λ name m. (told.here name).1 (old name m);
  }

  is_ready : HasVerdict ops own ready
  is_ready = own_next_ready ops own is.good is.identified next

  larger : Good with_own
  larger = (grows_by_verdict ops own is.good is.identified new).ready.0 is_ready

  identified : AreIdentified with_own
  identified = record {
    counted = λ op held. elim (Contains-push_cases ops own op held) [
      | inl here ↦ is.identified.counted op here
      | inr e ↦ subst (λ (o : Operation). 0 < o.seq) e new.counted
    ];
    unique = larger.identities;
  }

  pub own_step : IsOwnStep t own
  own_step = record {
    new = new;
    told = told;
    ready = is_ready;
    one = record { good = is.good; larger = larger; new = λ held. new.unheld (own, held, refl, refl) };
    latest = below (λ (op : Operation). op.stamp) ops (greatest_stamp ops + 1) (omega arith);
    text = λ chars. record {
      good = larger;
      in_order = causes_kept_with_one ops own is.in_order larger;
      identified = identified;
      of_text = All-push (λ (o : Operation). o.text ≡ t.text) ops own is.of_text refl;
      chars = chars;
      deleted = λ c among. char_stays ops own c (kept_names t kind old is.deleted c among);
      waiting = is.waiting;
    };
  }

-- One operation more takes no attribute away that it doesn't set, and no byte.
module _ (ops : List Operation) (op : Operation) (c : CharName) where
  pub last_stays : (selects : Selection → Bool) → (Sets op selects c → ⊥) → (o : Operation)
      → IsLastToSet ops selects c o → IsLastToSet (ops ++ op ∷ []) selects c o
  last_stays selects sets_none o last = record {
    held = Contains-append_left ops (op ∷ []) o last.held;
    sets = last.sets;
    greatest = λ other held sets. elim (Contains-push_cases ops op other held) [
      | inl old ↦ last.greatest other old sets
      | inr e ↦ absurd (sets_none (subst (λ (x : Operation). Sets x selects c) (sym e) sets))
    ];
  }

  pub looks_stay : ((selects : Selection → Bool) → Sets op selects c → ⊥) → (looks : Looks)
      → HasLooks ops c looks → HasLooks (ops ++ op ∷ []) c looks
  looks_stay sets_none looks has = record {
    font = (has.font.0, last_stays (λ s. s.font) (sets_none (λ s. s.font)) has.font.0 has.font.1, has.font.2);
    colour = (
      has.colour.0,
      last_stays (λ s. s.colour) (sets_none (λ s. s.colour)) has.colour.0 has.colour.1,
      has.colour.2,
    );
    offset = (
      has.offset.0,
      last_stays (λ s. s.offset) (sets_none (λ s. s.offset)) has.offset.0 has.offset.1,
      has.offset.2,
    );
  }

  pub byte_stays : (byte : ℕ) → HasByte ops c byte → HasByte (ops ++ op ∷ []) c byte
  byte_stays byte (i, h, e) =
      (i, record { held = Contains-append_left ops (op ∷ []) i h.held; inserts = h.inserts }, e)
