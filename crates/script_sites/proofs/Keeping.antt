-- What a text has taken in stays where it stands, whatever event comes; and so does what is told of its messages.
use Rattle.std.proofs.Common.{◌≡◌, ℕ, zero, suc, ◌-◌, List, [], ◌∷◌, ◌++◌, length, Option, Some, refl, sym, ap, subst, ◌∙◌, inl, inr, arith}
use Rattle.std.specs.Prelude.{◌⊎◌, slice_get, slice_set}
use Rattle.std.specs.Option.{option_and_then, option_map_or}
use Rattle.std.proofs.lemmas.List.Elements.{All-head, All-tail, All-weaker}
use Rattle.std.proofs.lemmas.Option.{none-some, same_Some, slice_get_within}
use Rattle.operations.specs.Operation.{Operation}
use Rattle.operations.specs.Spelling.{spelling}
use Rattle.set_laws.proofs.Closing.{lemma_nothing_is_good, nothing_is_identified}
use Rattle.tree_order.proofs.OneWriter.{one_writer}
use Rattle.shelf.specs.Files.{Files}
use Rattle.texts.proofs.OwnParts.{edits_are_plain}
use Rattle.texts.specs.Text.{IsText}
use Rattle.texts.specs.TextState.{TextState, noting}
use Rattle.machine.specs.SiteTexts.{SiteTexts, IsTextOf}
use Rattle.machine.specs.State.{State, new_state}
use Rattle.machine_laws.specs.Laws.{AreTexts, HaveTold}
use Rattle.machine_laws.specs.Growing.{Grows}
use Rattle.machine_laws.proofs.Following.{told_follow, texts_follow, texts_go}
use Rattle.machine_laws.proofs.Going.{TextGoes, TextsGo, as_they_are, begins, by_text, copies, copies_short, edits}
use Rattle.machine_laws.proofs.Going.{edits_names, edits_names_short, edits_short, empties, merges_short, merges_so}
use Rattle.machine_laws.proofs.Going.{settles_so, takes, takes_short, unpacks_short, unpacks_so}
use Rattle.machine_laws.proofs.Growing.{copies_grow, copies_short_grow, edits_grow, edits_short_grow, merges_grow}
use Rattle.machine_laws.proofs.Growing.{merges_short_grow, named_edits_grow, named_edits_short_grow, settles_grow, takes_grow, takes_short_grow}
use Rattle.machine_laws.proofs.Reaching.{new_are_texts, new_texts}
use Rattle.machine_laws.proofs.Unpacking.{unpacks_grow, unpacks_short_grow}
use Rattle.script_sites.specs.Sent.{AreSentOperations, AreSound, IsOperationAt, IsSentOperation, messages_at, op_at, sent_message}
use Rattle.script_sites.specs.declared.sent_at.SentAt.{SentAt}

-- each operation stays at its place
abbrev Keeps : TextState → TextState → Type 0
Keeps t u = (p : ℕ) (op : Operation) → slice_get t.operations p ≡ Some op → slice_get u.operations p ≡ Some op

-- what stands in the first part
pub get_left : {X : Type 0} (xs ys : List X) (p : ℕ) (x : X) → slice_get xs p ≡ Some x → slice_get (xs ++ ys) p ≡ Some x
get_left [] ys p x at = absurd (none-some x at)
get_left (y ∷ xs) ys zero x at = at
get_left (y ∷ xs) ys (suc p) x at = get_left xs ys p x at

grown_keeps : (t u : TextState) → Grows t u → Keeps t u
grown_keeps t u grows p op at =
    subst (λ (ops : List Operation). slice_get ops p ≡ Some op) (sym grows.taken) (get_left t.operations grows.more p op at)

-- in whichever way a text goes on
text_keeps : (s : State) (t u : TextState) → IsText t → TextGoes s t u → Keeps t u
text_keeps s t u is (edits e r does) = grown_keeps t u (edits_grow edits_are_plain e r t u does is)
text_keeps s t u is (edits_short e r does) = grown_keeps t u (edits_short_grow edits_are_plain e r t u does is)
text_keeps s t u is (edits_names what names r does) = grown_keeps t u (named_edits_grow what names r t u does is)
text_keeps s t u is (edits_names_short what names r does) = grown_keeps t u (named_edits_short_grow what names r t u does is)
text_keeps s t u is (copies from beg end pos r does) =
    grown_keeps t u (copies_grow edits_are_plain from beg end pos r t u does is)
text_keeps s t u is (copies_short from beg end pos r does) =
    grown_keeps t u (copies_short_grow edits_are_plain from beg end pos r t u does is)
text_keeps s t u is (takes message r does) = grown_keeps t u (takes_grow message r t u does is)
text_keeps s t u is (takes_short message r does) = grown_keeps t u (takes_short_grow message r t u does is)
text_keeps s t u is (unpacks_so chunk r does) = grown_keeps t u (unpacks_grow chunk r t u does is)
text_keeps s t u is (unpacks_short chunk r does) = grown_keeps t u (unpacks_short_grow chunk r t u does is)
text_keeps s t u is (settles_so stopped r does) = grown_keeps t u (settles_grow stopped r t u does is)
text_keeps s t u is (merges_so j text other r there does) = grown_keeps t u (merges_grow t other does.0 u does.1 is)
text_keeps s t u is (merges_short j text other r there does) = grown_keeps t u (merges_short_grow t other does.0 u does.1 is)
text_keeps s t u is (empties same) = λ p op at.
    subst (λ (x : TextState). slice_get x.operations p ≡ Some op) (sym same) at
text_keeps s t u is (begins ops spelled (fresh, taken)) = λ p op at.
    let within = slice_get_within t.operations p op at in absurd (grind (arith, fresh, within))

-- where one is set, there is another one; all others stay
set_either : {X : Type 0} (xs : List X) (i j : ℕ) (x y : X) → slice_get xs j ≡ Some x
    → ((j ≡ i) × (slice_get (slice_set xs i y) j ≡ Some y)) ⊎ (slice_get (slice_set xs i y) j ≡ Some x)
set_either [] i j x y at = absurd (none-some x at)
set_either (v ∷ xs) zero zero x y at = inl (refl, refl)
set_either (v ∷ xs) zero (suc j) x y at = inr at
set_either (v ∷ xs) (suc i) zero x y at = inr at
set_either (v ∷ xs) (suc i) (suc j) x y at = elim (set_either xs i j x y at) [
  | inl set ↦ inl (ap suc set.0, set.1)
  | inr stays ↦ inr stays
]

-- the same one stands at a place
at_same : {X : Type 0} (xs : List X) (i j : ℕ) (x y : X) → j ≡ i → slice_get xs j ≡ Some x → slice_get xs i ≡ Some y → x ≡ y
at_same xs i j x y e at_j at_i = same_Some x y (sym at_j ∙ ap (slice_get xs) e ∙ at_i)

-- an operation that stands in one of the desks' texts stays there
pub stays : (s new : State) → TextsGo s new → AreTexts s → (at : SentAt) (op : Operation) → IsOperationAt s.desks at op
    → IsOperationAt new.desks at op
stays s new (as_they_are same) are at op stands = subst (λ (desks : List SiteTexts). IsOperationAt desks at op) (sym same) stands
stays s new (by_text i text d d' in_run (t, u, of_d, (t', goes, told), is_d') desks) are at op stands =
    subst (λ (x : List SiteTexts). IsOperationAt x at op) (sym desks) (elim (set_either s.desks i at.desk stands.desk d' stands.in_run) [
      | inr other ↦ record {
        on_desk = stands.on_desk;
        desk = stands.desk;
        in_run = other;
        text = stands.text;
        of_desk = stands.of_desk;
        taken = stands.taken;
      }
      | inl here ↦ on_desk here.0 here.1
    ])
  where
    kept : Keeps t u
    kept p x there = subst (λ (y : TextState). slice_get y.operations p ≡ Some x) (sym told)
        (text_keeps s t t' (are i text t (d, in_run, of_d)) goes p x there)

    on_desk : at.desk ≡ i → slice_get (slice_set s.desks i d') at.desk ≡ Some d' → IsOperationAt (slice_set s.desks i d') at op
    on_desk e there =
        let same : stands.desk ≡ d = at_same s.desks i at.desk stands.desk d e stands.in_run in_run in
        let of_text : slice_get d.texts (at.text - 1) ≡ Some stands.text =
        subst (λ (x : SiteTexts). IsTextOf x at.text stands.text) same stands.of_desk in
        elim (set_either d.texts (text - 1) (at.text - 1) stands.text u of_text) [
          | inr other ↦ record {
            on_desk = stands.on_desk;
            desk = d';
            in_run = there;
            text = stands.text;
            of_desk = subst (λ (x : SiteTexts). IsTextOf x at.text stands.text) (sym is_d') other;
            taken = stands.taken;
          }
          | inl here ↦ record {
            on_desk = stands.on_desk;
            desk = d';
            in_run = there;
            text = u;
            of_desk = subst (λ (x : SiteTexts). IsTextOf x at.text u) (sym is_d') here.1;
            taken =
                let one : stands.text ≡ t = at_same d.texts (text - 1) (at.text - 1) stands.text t here.0 of_text of_d in
                kept at.place op (subst (λ (x : TextState). slice_get x.operations at.place ≡ Some op) one stands.taken);
          }
        ]

-- the operation that stands at a place is the one that is found there, and its spelling is the message
pub found_at : (desks : List SiteTexts) (at : SentAt) (op : Operation) → IsOperationAt desks at op → op_at desks at ≡ Some op
found_at desks at op stands =
    ap (option_and_then (λ (d : SiteTexts). option_and_then (λ (t : TextState). slice_get t.operations at.place) (slice_get d.texts (at.text - 1)))) stands.in_run
    ∙ ap (option_and_then (λ (t : TextState). slice_get t.operations at.place)) stands.of_desk ∙ stands.taken

pub told_at : (desks : List SiteTexts) (at : SentAt) (op : Operation) → IsOperationAt desks at op → sent_message desks at ≡ spelling op
told_at desks at op stands = ap (λ (o : Option Operation). option_map_or spelling o []) (found_at desks at op stands)

-- what is held of the messages is held after each event, and they are the same
pub still_held : (s new : State) → TextsGo s new → AreTexts s → (sent : List SentAt) → AreSentOperations s.desks sent → AreSentOperations new.desks sent
still_held s new go are sent held = All-weaker (IsSentOperation s.desks) (IsSentOperation new.desks)
    (λ at (op, stands, valid). (op, stays s new go are at op stands, valid)) sent held

pub same_messages : (s new : State) → TextsGo s new → AreTexts s → (sent : List SentAt) → AreSentOperations s.desks sent
    → messages_at new.desks sent ≡ messages_at s.desks sent
same_messages s new go are [] held = refl
same_messages s new go are (at ∷ sent) held =
    let (op, stands, valid) = All-head (IsSentOperation s.desks) at sent held in
    let here : sent_message new.desks at ≡ sent_message s.desks at =
    told_at new.desks at op (stays s new go are at op stands) ∙ sym (told_at s.desks at op stands) in
    let rest = same_messages s new go are sent (All-tail (IsSentOperation s.desks) at sent held) in
    λ k. here k ∷ rest k

-- the texts stay sound
pub still_sound : (s new : State) → TextsGo s new → AreSound s.desks → AreSound new.desks
still_sound s new go sound =
    let are : AreTexts s = λ i text t there. (sound i text t there).0 in
    let told : HaveTold s = λ i text t there. (sound i text t there).1 in
    let follow = texts_go edits_are_plain nothing_is_identified s new go in
    λ i text t there. (texts_follow s new follow are told i text t there, told_follow s new follow are told i text t there)

-- and those of a new run are
pub new_sound : (first count width height : ℕ) (files : Files) → AreSound (new_state first count width height files).desks
new_sound first count width height files = λ i text t there. (
  new_are_texts lemma_nothing_is_good nothing_is_identified one_writer first count width height files i text t there,
  let (number, site, is) = new_texts first count width height files i text t there in
      subst (λ (x : TextState). x.asked ≡ noting (length x.operations)) is refl,
)
