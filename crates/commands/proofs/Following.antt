-- What a text grew by is what its changes tell.
use Rattle.std.proofs.Common.{◌≡◌, ℕ, ◌-◌, List, take, length, Contains, refl, sym, ap, subst, ◌∙◌, inl, inr, None}
use Rattle.std.specs.Prelude.{slice_get}
use Rattle.std.proofs.lemmas.List.{set-set}
use Rattle.std.proofs.Math.Seq.{take-append_seam}
use Rattle.std.proofs.lemmas.List.Elements.{Contains-append_left}
use Rattle.std.proofs.lemmas.Option.{same_Some}
use Rattle.char_files.specs.declared.character.Char.{Char}
use Rattle.char_files.specs.declared.name.Anchor.{Anchor}
use Rattle.char_files.specs.declared.name.Anchor.TheVariants.{Root, At}
use Rattle.operations.specs.Operation.{Operation}
use Rattle.list_changes.specs.Changes.{Leads}
use Rattle.list_changes.specs.declared.change.Change.{Change}
use Rattle.tree_order.proofs.OneText.{shows_one_text}
use Rattle.tree_order.proofs.SameSet.{char}
use Rattle.tree_order.specs.Shown.{IsShown}
use Rattle.set_laws.specs.Sets.{IsPartOf}
use Rattle.taken_text.proofs.Noting.{since_leads}
use Rattle.taken_text.specs.Noted.{AreChangesSince, SameChar}
use Rattle.texts.proofs.Chars.{grown_keeps_the_order, shows_the_definition}
use Rattle.texts.specs.Changes.{AreAskedFor, TellsOfChanges}
use Rattle.texts.specs.Text.{IsAnchor}
use Rattle.texts.specs.TextState.{Asked, TextState, all_told, noting, shown_of, told_to}
use Rattle.machine.specs.SiteTexts.{SiteTexts, InText, IsTextOf, fresh_texts, with_text}
use Rattle.machine_laws.proofs.Reaching.{new_texts, set_cases}
use Rattle.machine_laws.proofs.Telling.{put_there}
use Rattle.machine_laws.specs.Growing.{Grows}
use Rattle.desk_windows.specs.Windows.{FollowsChanges}
use Rattle.commands.specs.Steps.{AreTold}

-- a character stays one in what has more operations
anchor_stays : (ops more : List Operation) → IsPartOf ops more → (anchor : Anchor) → IsAnchor ops anchor → IsAnchor more anchor
anchor_stays ops more part Root is = tt
anchor_stays ops more part (At c) is = char ops more part c is

-- the changes since a text had told all lead from what it showed then
leads_since : (t u : TextState) (changes : List Change) → t.asked ≡ noting (length t.operations) → Grows t u
    → TellsOfChanges u changes → Leads SameChar changes (shown_of t) (shown_of u)
leads_since t u changes told grows tells =
    let noted = length t.operations in
    let since : AreChangesSince noted u.operations changes (shown_of u) =
    subst (λ (asked : Asked). AreAskedFor asked u.operations changes (shown_of u)) (grows.asked ∙ told) tells in
    let all : take noted u.operations ≡ t.operations =
    ap (λ (ops : List Operation). take noted ops) grows.taken ∙ take-append_seam t.operations grows.more in
    let was : since.was ≡ shown_of t =
    (shows_one_text t.operations grows.was.good).only since.was
    (subst (λ (ops : List Operation). IsShown ops since.was) all since.shown)
    ∙ sym ((shows_one_text t.operations grows.was.good).only (shown_of t) (shows_the_definition t grows.was)) in
    subst (λ (shown : List Char). Leads SameChar changes shown (shown_of u)) was
    (since_leads noted u.operations changes (shown_of u) since)

-- a text that has grown follows by the changes that it tells then
text_follows : (t u : TextState) (changes : List Change) → t.asked ≡ noting (length t.operations) → Grows t u
    → TellsOfChanges u changes → FollowsChanges changes t (all_told u)
text_follows t u changes told grows since =
    let part : IsPartOf t.operations u.operations =
    λ op held. subst (λ (ops : List Operation). Contains ops op) (sym grows.taken)
    (Contains-append_left t.operations grows.more op held) in
    record {
      well = grows.was;
      order = grown_keeps_the_order t u grows.was grows.is part;
      kept = anchor_stays t.operations u.operations part;
      leads = leads_since t u changes told grows since;
    }

-- a desk of which one text has grown
module _ (d mid new : SiteTexts) (text : ℕ) (told : AreTold d) (grown : InText Grows d text mid)
    (asked : InText (λ t u. u ≡ all_told t) mid text new) where
  abbrev grown_text : TextState
  grown_text = grown.1

  is_mid : mid ≡ with_text d text grown_text
  is_mid = grown.4

  there : (u : TextState) → IsTextOf mid text u → u ≡ grown_text
  there u at =
      same_Some u grown_text (sym at ∙ ap (λ (x : SiteTexts). slice_get x.texts (text - 1)) is_mid
      ∙ put_there d.texts (text - 1) grown.0 grown_text grown.2)

  pub is_new : new ≡ with_text d text (all_told grown_text)
  is_new =
      asked.4 ∙ (λ k. with_text (is_mid k) text (asked.3 k))
      ∙ (λ k. record d { texts = set-set d.texts (text - 1) grown_text (all_told asked.0) k })
      ∙ (λ k. with_text d text (all_told (there asked.0 asked.2 k)))

  -- follows by the changes that this tells
  pub site_follows : (changes : List Change) → (u : TextState) × IsTextOf mid text u × TellsOfChanges u changes
      → InText (FollowsChanges changes) d text new
  site_follows changes (u, at, since) = (
    grown.0,
    all_told grown_text,
    grown.2,
    text_follows grown.0 grown_text changes (told text grown.0 grown.2) grown.3
        (subst (λ (x : TextState). TellsOfChanges x changes) (there u at) since),
    is_new,
  )

  -- and has told all again
  pub desk_is_told : AreTold new
  desk_is_told n u at =
      elim (set_cases d.texts (text - 1) (n - 1) (all_told grown_text) u
      (sym (ap (λ (x : SiteTexts). slice_get x.texts (n - 1)) is_new) ∙ at)) [
        | inl set ↦
            subst (λ (x : TextState). x.asked ≡ noting (length x.operations)) (sym set)
            (ap (told_to (length grown_text.operations)) (grown.3.asked ∙ told text grown.0 grown.2))
        | inr old ↦ told n u old
      ]

-- a desk that begins has told all: there is nothing to tell
pub new_is_told : (site : ℕ) → AreTold (fresh_texts site)
new_is_told site text t at =
    let (number, its_site, is) = new_texts site 1 0 0 (λ name. None) 0 text t (fresh_texts site, refl, at) in
    subst (λ (x : TextState). x.asked ≡ noting (length x.operations)) is refl
