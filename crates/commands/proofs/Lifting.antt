-- How a desk's texts grow by what they do.
use Rattle.std.proofs.Common.{ℕ, List, Result, refl, sym, subst, ◌∙◌, inl, inr}
use Rattle.std.specs.Prelude.{Bool}
use Rattle.std.proofs.lemmas.Option.{same_Some}
use Rattle.looks.specs.declared.refusal.Refusal.{Refusal}
use Rattle.operations.specs.NameSet.{Range}
use Rattle.texts.proofs.OwnParts.{edits_are_plain}
use Rattle.texts.specs.Edit.{Edit}
use Rattle.texts.specs.Text.{IsText}
use Rattle.texts.specs.TextState.{TextState}
use Rattle.texts.specs.declared.by_names.ByNames.{ByNames}
use Rattle.texts.specs.declared.took.Took.{Took}
use Rattle.texts.specs.declared.edit_refusal.EditRefusal.{EditRefusal}
use Rattle.texts.specs.declared.merge_refusal.MergeRefusal.{MergeRefusal}
use Rattle.text_chunks.specs.declared.unpacked.UnpackRefusal.{UnpackRefusal}
use Rattle.text_chunks.specs.declared.unpacked.Unpacked.{Unpacked}
use Rattle.machine.specs.SiteTexts.{SiteTexts, InText, IsTextOf}
use Rattle.machine.specs.Events.{edit_reply, settles, take_reply, unpack_reply}
use Rattle.machine.specs.OnTexts.{CopiesSite, EditsNamesSite, EditsSite, MergesSite, SettlesSite, TakesSite, UnpacksSite}
use Rattle.machine_laws.proofs.Growing.{copies_grow, copies_short_grow, edits_grow, edits_short_grow, merges_grow}
use Rattle.machine_laws.proofs.Growing.{merges_short_grow, named_edits_grow, named_edits_short_grow, settles_grow, takes_grow, takes_short_grow}
use Rattle.machine_laws.proofs.Unpacking.{unpacks_grow, unpacks_short_grow}
use Rattle.machine_laws.specs.Growing.{Grows}

-- a text of a desk is what its operations define
abbrev pub HasText : SiteTexts → ℕ → Type 0
HasText d text = (t : TextState) × IsTextOf d text t × IsText t

-- where a text's doing lets it grow, the desk's text grows by it
grows_in : (d d' : SiteTexts) (text : ℕ) (Does' : TextState → TextState → Type 0) → HasText d text
    → ((t new : TextState) → Does' t new → IsText t → Grows t new) → InText Does' d text d' → InText Grows d text d'
grows_in d d' text Does' (t, at, is) grow (old, new, there, does, same) =
    (old, new, there, grow old new does (subst IsText (same_Some t old (sym at ∙ there)) is), same)

-- after an edit
pub edit_grows : (d d' : SiteTexts) (text : ℕ) (e : Edit) (result : Result ℕ EditRefusal) (before after : List (List ℕ))
    → HasText d text → EditsSite d text e result d' before after → InText Grows d text d'
edit_grows d d' text e result before after has edited = grows_in d d' text _ has
    (λ t new (messages, count, sent, did) is. elim did [
      | inl does ↦ edits_grow edits_are_plain e (edit_reply result messages) t new does is
      | inr short ↦ edits_short_grow edits_are_plain e (edit_reply result messages) t new short is
    ]) edited

-- after one by names
pub named_edit_grows : (d d' : SiteTexts) (text : ℕ) (what : ByNames) (names : List Range) (result : Result ℕ EditRefusal)
    (before after : List (List ℕ)) → HasText d text → EditsNamesSite d text what names result d' before after → InText Grows d text d'
named_edit_grows d d' text what names result before after has edited = grows_in d d' text _ has
    (λ t new (messages, count, sent, did) is. elim did [
      | inl does ↦ named_edits_grow what names (edit_reply result messages) t new does is
      | inr short ↦ named_edits_short_grow what names (edit_reply result messages) t new short is
    ]) edited

-- after a copy
pub copy_grows : (d d' : SiteTexts) (text beg end other pos : ℕ) (result : Result ℕ EditRefusal)
    (before after : List (List ℕ)) → HasText d other → CopiesSite d text beg end other pos result d' before after
    → InText Grows d other d'
copy_grows d d' text beg end other pos result before after has (from, at, copied) = grows_in d d' other _ has
    (λ t new (messages, count, sent, did) is. elim did [
      | inl does ↦ copies_grow edits_are_plain from beg end pos (edit_reply result messages) t new does is
      | inr short ↦ copies_short_grow edits_are_plain from beg end pos (edit_reply result messages) t new short is
    ]) copied

-- after a settling
pub settle_grows : (d d' : SiteTexts) (text drained dropped : ℕ) (stopped : Bool) → HasText d text
    → SettlesSite d text drained dropped stopped d' → InText Grows d text d'
settle_grows d d' text drained dropped stopped has settled = grows_in d d' text _ has
    (λ t new drains is. settles_grow stopped (settles drained dropped stopped) t new (drained, dropped, drains, refl) is) settled

-- after a message
pub take_grows : (d d' : SiteTexts) (text : ℕ) (message : List ℕ) (result : Result Took Refusal) → HasText d text
    → TakesSite d text message result d' → InText Grows d text d'
take_grows d d' text message result has taken = grows_in d d' text _ has
    (λ t new did is. elim did [
      | inl does ↦ takes_grow message (take_reply result) t new (result, does, refl) is
      | inr short ↦ takes_short_grow message (take_reply result) t new (result, short, refl) is
    ]) taken

-- after a chunk
pub unpack_grows : (d d' : SiteTexts) (text : ℕ) (chunk : List ℕ) (result : Result Unpacked UnpackRefusal) → HasText d text
    → UnpacksSite d text chunk result d' → InText Grows d text d'
unpack_grows d d' text chunk result has unpacked = grows_in d d' text _ has
    (λ t new did is. elim did [
      | inl does ↦ unpacks_grow chunk (unpack_reply result) t new (result, does, refl) is
      | inr short ↦ unpacks_short_grow chunk (unpack_reply result) t new (result, short, refl) is
    ]) unpacked

-- and after a merge
pub merge_grows : (d d' other : SiteTexts) (text : ℕ) (result : Result ℕ MergeRefusal) → HasText d text
    → MergesSite d text other result d' → InText Grows d text d'
merge_grows d d' other text result has (u, is_u, does) =
    grows_in d d' text _ has
    (λ t new merges. elim merges [
      | inl whole ↦ merges_grow t u result new whole
      | inr short ↦ merges_short_grow t u result new short
    ]) does
