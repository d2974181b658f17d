-- One call of a desk is one step of every run in which the desk stands.
use Rattle.std.proofs.Common.{◌≡◌, ℕ, List, [], ◌++◌, Option, Result, Ok, Err, Some, IfOk, ap, sym, subst, refl, ◌∙◌, inl, inr}
use Rattle.std.proofs.Common.{append-nil, true, false}
use Rattle.std.specs.Prelude.{◌⊎◌, Bool, IfErr, IsTrue, MatchBool, MatchResult, if◌then◌else◌, length, slice_set}
use Rattle.std.specs.Option.{option_map_or}
use Rattle.looks.specs.declared.refusal.Refusal.{Refusal}
use Rattle.looks.specs.declared.refusal.Refusal.TheVariants.{OutOfMemory, OutOfRange}
use Rattle.looks.specs.Refusal.{RefusedForMemoryAlone}
use Rattle.viewers.specs.declared.screen.Track.{Track}
use Rattle.operations.specs.NameSet.{Range}
use Rattle.texts.specs.Edit.{Edit}
use Rattle.texts.specs.Draining.{Drains}
use Rattle.texts.specs.TextState.{TextState, all_told}
use Rattle.texts.specs.declared.by_names.ByNames.{ByNames}
use Rattle.texts.specs.declared.took.Took.{Took}
use Rattle.texts.specs.declared.edit_refusal.EditRefusal.{EditRefusal}
use Rattle.texts.specs.declared.merge_refusal.MergeRefusal.{MergeRefusal}
use Rattle.text_chunks.specs.declared.unpacked.UnpackRefusal.{UnpackRefusal}
use Rattle.text_chunks.specs.declared.unpacked.Unpacked.{Unpacked}
use Rattle.machine.specs.SiteTexts.{SiteTexts, InText}
use Rattle.machine.specs.Events.{Reply, arrange, ask, copy, done, edit, edit_by_names, edit_reply, merge_reply, messages_of}
use Rattle.machine.specs.Events.{opens, print, prints, query, refuses, settle, settles, take_reply, unpack, unpack_reply, untouched}
use Rattle.machine.specs.Machine.{Replies}
use Rattle.machine.specs.OnTexts.{CopiesSite, CopiesText, CopiesTextShort, EditsNames, EditsNamesShort, EditsNamesSite, EditsSite}
use Rattle.machine.specs.OnTexts.{EditsText, EditsTextShort, MergesSite}
use Rattle.machine.specs.OnTexts.{MergesText, MergesTextShort, QueriesSite, SettlesSite, SettlesText, TakesSite, TakesText}
use Rattle.machine.specs.OnTexts.{Prints, QueriesText, RefusesQuery, Sending, TakesTextShort, UnpacksSite, UnpacksText, UnpacksTextShort, is_asked_in, query_refusal}
use Rattle.machine.specs.State.{AtText, IsTextAt, Refuses, State, with_screen_at}
use Rattle.machine.specs.Tasks.{lines_of_view}
use Rattle.machine.specs.Windows.{Arranged, Screened, arranged}
use Rattle.machine.specs.declared.asked.Arrangement.{Arrangement}
use Rattle.machine.specs.declared.asked.Arrangement.TheVariants.{Open}
use Rattle.machine.specs.declared.asked.Query.{Query}
use Rattle.machine.specs.declared.asked.View.{View}
use Rattle.desk_windows.specs.Windows.{ComesTo, ComesToOrShort, WindowsSeen, screened}
use Rattle.machine_laws.proofs.Telling.{put_back, tells_in}
use Rattle.commands.specs.Steps.{DeskSeen, IsEditStep, IsMergeStep, IsStep, IsTakeStep, StandsIn, open_reply, print_reply}
use Rattle.commands.specs.Steps.{with_desk}

-- what a text told of a desk
abbrev pub Asked : SiteTexts → ℕ → SiteTexts → Type 0
Asked d text new = InText (λ t u. u ≡ all_told t) d text new

-- a desk stands in a run
module _ (s : State) (i : ℕ) (d : SiteTexts) (w : Screened) (stands : StandsIn s i (record { texts = d; screen = w })) where
  -- one of its texts does something and tells its changes
  pub at_text : (F : TextState → TextState → Type 0) (text : ℕ) (d' new : SiteTexts) (w' : Screened)
      (messages after : List (List ℕ)) → InText F d text d' → Asked d' text new → w' ≡ w → after ≡ s.sent ++ messages
      → AtText F s i text messages (with_desk s i (record { texts = new; screen = w' }) after)
  at_text F text d' new w' messages after does told same sent = (
    d,
    new,
    stands.texts,
    tells_in F d d' new text does told,
    λ k. record s {
      desks = slice_set s.desks i new;
      screens = (ap (slice_set s.screens i) same ∙ put_back s.screens i w stands.screen) k;
      sent = sent k;
    },
  )

  -- the same of what sends nothing
  pub at_text_silent : (F : TextState → TextState → Type 0) (text : ℕ) (d' new : SiteTexts) (w' : Screened)
      → InText F d text d' → Asked d' text new → w' ≡ w
      → AtText F s i text [] (with_desk s i (record { texts = new; screen = w' }) s.sent)
  at_text_silent F text d' new w' does told same =
      at_text F text d' new w' [] s.sent does told same (sym (append-nil s.sent))

  -- where nothing changes the run stays as it is
  pub run_stays : s ≡ with_desk s i (record { texts = d; screen = w }) s.sent
  run_stays = λ k. record s {
    desks = (sym (put_back s.desks i d stands.texts)) k;
    screens = (sym (put_back s.screens i w stands.screen)) k;
  }

  -- where the screen alone changes that of the run does
  pub run_arranged : (w' : Screened) → with_screen_at s i w' ≡ with_desk s i (record { texts = d; screen = w' }) s.sent
  run_arranged w' = λ k. record s {
    desks = (sym (put_back s.desks i d stands.texts)) k;
    screens = slice_set s.screens i w';
  }

-- the messages of an edit come after those that the run sent
sent_after : (s : State) (before after messages : List (List ℕ)) → s.sent ≡ before → after ≡ before ++ messages
    → after ≡ s.sent ++ messages
sent_after s before after messages sent is = is ∙ ap (λ (all : List (List ℕ)). all ++ messages) (sym sent)

-- whatever the desk is seen as: its texts, and its screen
module _ (seen : DeskSeen) (d d' new : SiteTexts) (w w' : Screened) (is : record { texts = d; screen = w } ≡ seen)
    (same : w' ≡ w) where
  abbrev Then : DeskSeen
  Then = record { texts = new; screen = w' }

  -- one of its texts goes so or so and tells its changes, in each run that the desk is part of
  at_text_sending : (Goes Short : Reply → TextState → TextState → Type 0) (text : ℕ) (result : Result ℕ EditRefusal)
      (before after : List (List ℕ)) → InText (λ t u. Sending Goes Short t result u before after) d text d'
      → Asked d' text new
      → (messages : List (List ℕ)) × IfOk result (λ count. count ≡ length messages)
      × ((s : State) (i : ℕ) → StandsIn s i (record { texts = d; screen = w }) → s.sent ≡ before
      → AtText (Goes (edit_reply result messages)) s i text (messages_of (edit_reply result messages)) (with_desk s i Then after)
      ⊎ AtText (Short (edit_reply result messages)) s i text (messages_of (edit_reply result messages))
      (with_desk s i Then after))
  at_text_sending Goes Short text result before after (t, u, at, (messages, count, sent_is, did), is_d') told = (
    messages,
    count,
    λ s i stands sent.
        let r : Reply = edit_reply result messages in
        let more = sent_after s before after (messages_of r) sent sent_is in
        elim did [
          | inl does ↦ inl (at_text s i d w stands (Goes r) text d' new w' (messages_of r) after
              (t, u, at, does, is_d') told same more)
          | inr short ↦ inr (at_text s i d w stands (Short r) text d' new w' (messages_of r) after
              (t, u, at, short, is_d') told same more)
        ],
  )

  -- an edit is a step
  pub edit_step : (text : ℕ) (e : Edit) (result : Result ℕ EditRefusal) (before after : List (List ℕ))
      → EditsSite d text e result d' before after → Asked d' text new
      → IsEditStep seen (λ i. edit i text e) result Then before after
  edit_step text e result before after edits told =
      let (messages, count, goes) =
      at_text_sending (EditsText e) (EditsTextShort e) text result before after edits told in
      subst (λ (x : DeskSeen). IsEditStep x (λ i. edit i text e) result Then before after) is (
        messages,
        count,
        λ s i stands sent. elim (goes s i stands sent) [
          | inl does ↦ inl (refl, does)
          | inr short ↦ inr (refl, short)
        ],
      )

  -- so is one by names
  pub named_edit_step : (text : ℕ) (what : ByNames) (names : List Range) (result : Result ℕ EditRefusal) (before after : List (List ℕ))
      → EditsNamesSite d text what names result d' before after → Asked d' text new
      → IsEditStep seen (λ i. edit_by_names i text what names) result Then before after
  named_edit_step text what names result before after edits told =
      let (messages, count, goes) =
      at_text_sending (EditsNames what names) (EditsNamesShort what names) text result before after edits told in
      subst (λ (x : DeskSeen). IsEditStep x (λ i. edit_by_names i text what names) result Then before after) is (
        messages,
        count,
        λ s i stands sent. elim (goes s i stands sent) [
          | inl does ↦ inl (refl, does)
          | inr short ↦ inr (refl, short)
        ],
      )

  -- so is a copy
  pub copy_step : (text beg end other pos : ℕ) (result : Result ℕ EditRefusal) (before after : List (List ℕ))
      → CopiesSite d text beg end other pos result d' before after → Asked d' other new
      → IsEditStep seen (λ i. copy i text beg end other pos) result Then before after
  copy_step text beg end other pos result before after (from, at_from, copies) told =
      let (messages, count, goes) =
      at_text_sending (CopiesText from beg end pos) (CopiesTextShort from beg end pos) other result before after copies
      told in
      subst (λ (x : DeskSeen). IsEditStep x (λ i. copy i text beg end other pos) result Then before after) is (
        messages,
        count,
        λ s i stands sent. elim (goes s i stands sent) [
          | inl does ↦ inl (refl, (from, (d, stands.texts, at_from), does))
          | inr short ↦ inr (refl, (from, (d, stands.texts, at_from), short))
        ],
      )

  -- a settling
  pub settle_step : (text drained dropped : ℕ) (stopped : Bool) → SettlesSite d text drained dropped stopped d'
      → Asked d' text new → IsStep seen (λ i. settle i text) (settles drained dropped stopped) Then
  settle_step text drained dropped stopped (t, u, at, drains, is_d') told =
      subst (λ (x : DeskSeen). IsStep x (λ i. settle i text) (settles drained dropped stopped) Then) is (by stopped drains)
    where
      goes : (b : Bool) → Drains t drained dropped b u → (s : State) (i : ℕ) → StandsIn s i (record { texts = d; screen = w })
          → AtText (SettlesText b (settles drained dropped b)) s i text [] (with_desk s i Then s.sent)
      goes b drains s i stands = at_text_silent s i d w stands (SettlesText b (settles drained dropped b)) text d' new w'
          (t, u, at, (drained, dropped, drains, refl), is_d') told same

      by : (b : Bool) → Drains t drained dropped b u
          → IsStep (record { texts = d; screen = w }) (λ i. settle i text) (settles drained dropped b) Then
      by false drains = λ s i stands. inl (refl, goes false drains s i stands)
      by true drains = λ s i stands. inr (refl, goes true drains s i stands)

  -- a chunk
  pub unpack_step : (text : ℕ) (chunk : List ℕ) (result : Result Unpacked UnpackRefusal) → UnpacksSite d text chunk result d'
      → Asked d' text new → IsStep seen (λ i. unpack i text chunk) (unpack_reply result) Then
  unpack_step text chunk result (t, u, at, did, is_d') told =
      subst (λ (x : DeskSeen). IsStep x (λ i. unpack i text chunk) (unpack_reply result) Then) is (λ s i stands.
      let r : Reply = unpack_reply result in
      elim did [
        | inl does ↦ inl (
          refl,
          at_text_silent s i d w stands (UnpacksText chunk r) text d' new w'
              (t, u, at, (result, does, refl), is_d') told same,
        )
        | inr short ↦ inr (
          refl,
          at_text_silent s i d w stands (UnpacksTextShort chunk r) text d' new w'
              (t, u, at, (result, short, refl), is_d') told same,
        )
      ])

  -- a message
  pub take_step : (text : ℕ) (message : List ℕ) (result : Result Took Refusal) → TakesSite d text message result d'
      → Asked d' text new → IsTakeStep seen text message result Then
  take_step text message result (t, u, at, did, is_d') told =
      subst (λ (x : DeskSeen). IsTakeStep x text message result Then) is (λ s i delivery stands has.
      let r : Reply = take_reply result in
      elim did [
        | inl does ↦ inl (
          refl,
          rw has (at_text_silent s i d w stands (TakesText message r) text d' new w'
              (t, u, at, (result, does, refl), is_d') told same),
        )
        | inr short ↦ inr (
          refl,
          (
            message,
            has,
            at_text_silent s i d w stands (TakesTextShort message r) text d' new w'
                (t, u, at, (result, short, refl), is_d') told same,
          ),
        )
      ])

  -- and a merge
  pub merge_step : (other : DeskSeen) (text : ℕ) (result : Result ℕ MergeRefusal) → MergesSite d text other.texts result d'
      → Asked d' text new → IsMergeStep seen text other result Then
  merge_step other text result (x, at_x, (t, u, at, did, is_d')) told =
      subst (λ (y : DeskSeen). IsMergeStep y text other result Then) is (λ s i j stands there.
      let r : Reply = merge_reply result in
      elim did [
        | inl does ↦ inl (
          refl,
          (
            x,
            (other.texts, there.texts, at_x),
            at_text_silent s i d w stands (MergesText x r) text d'
                new w' (t, u, at, (result, does, refl), is_d') told same,
          ),
        )
        | inr short ↦ inr (
          refl,
          (
            x,
            (other.texts, there.texts, at_x),
            at_text_silent s i d w stands (MergesTextShort x r) text
                d' new w' (t, u, at, (result, short, refl), is_d') told same,
          ),
        )
      ])

-- a query whose positions lie in the text prints its lines
printed : (t : TextState) (q : Query) (lines : List ℕ) → IsTrue (is_asked_in t q) → Prints q t lines
    → QueriesText q (prints lines) t
printed t q lines inside prints_so =
    subst (λ (b : Bool). MatchBool b ((x : List ℕ) × Prints q t x × (prints lines ≡ prints x)) (prints lines ≡ refuses OutOfRange))
    (sym inside) (lines, prints_so, refl)

-- and it is refused for its positions, or else for memory
refused : (s : State) (i text : ℕ) (q : Query) (t : TextState) (why : Refusal) (new : State) → IsTextAt s i text t
    → why ≡ query_refusal t q → new ≡ s → Replies s (query i text q) untouched (refuses why) new
refused s i text q t why new there is same = go (is_asked_in t q) refl is
  where
    go : (inside : Bool) → is_asked_in t q ≡ inside → why ≡ (if inside then OutOfMemory else OutOfRange)
        → Replies s (query i text q) untouched (refuses why) new
    go true inside is = inr (refl, (t, there, inside), (ap refuses is, same))
    go false outside is = inl (
      refl,
      same,
      (
        t,
        there,
        subst (λ (b : Bool). MatchBool b ((x : List ℕ) × Prints q t x × (refuses why ≡ prints x))
            (refuses why ≡ refuses OutOfRange)) (sym outside) (ap refuses is),
      ),
    )

-- an answer with bytes, or refused
module _ {X : Type 0} (seen : DeskSeen) (d : SiteTexts) (w : Screened) (is : record { texts = d; screen = w } ≡ seen)
    (bytes_of : X → List ℕ) where
  -- to a query, which changes nothing
  queried : (text : ℕ) (q : Query) (result : Result X Refusal)
      → IfOk result (λ x. QueriesSite d text q (bytes_of x)) → IfErr result (λ why. RefusesQuery d text q why)
      → IsStep (record { texts = d; screen = w }) (λ i. query i text q) (print_reply result bytes_of)
      (record { texts = d; screen = w })
  queried text q (Ok x) (t, at, inside, prints_so) short = λ s i stands.
      inl (refl, sym (run_stays s i d w stands), (t, (d, stands.texts, at), printed t q (bytes_of x) inside prints_so))
  queried text q (Err why) ok (t, at, is) = λ s i stands.
      refused s i text q t why (with_desk s i (record { texts = d; screen = w }) s.sent) (d, stands.texts, at) is
      (sym (run_stays s i d w stands))

  pub query_step : (text : ℕ) (q : Query) (result : Result X Refusal)
      → IfOk result (λ x. QueriesSite d text q (bytes_of x)) → IfErr result (λ why. RefusesQuery d text q why)
      → IsStep seen (λ i. query i text q) (print_reply result bytes_of) seen
  query_step text q result ok short =
      subst (λ (x : DeskSeen). IsStep x (λ i. query i text q) (print_reply result bytes_of) x) is (queried text q result ok short)

  -- to a view of the screen alike
  viewed : (v : View) (result : Result X Refusal)
      → IfOk result (λ x. bytes_of x ≡ lines_of_view d w v) → RefusedForMemoryAlone result
      → IsStep (record { texts = d; screen = w }) (λ i. ask i (print v)) (print_reply result bytes_of)
      (record { texts = d; screen = w })
  viewed v (Ok x) ok short = λ s i stands. inl (d, w, stands, (refl, ap prints ok, sym (run_stays s i d w stands)))
  viewed v (Err why) ok short = λ s i stands.
      inr (d, w, stands, (refl, (ap refuses short, sym (run_stays s i d w stands))))

  pub view_step : (v : View) (result : Result X Refusal)
      → IfOk result (λ x. bytes_of x ≡ lines_of_view d w v) → RefusedForMemoryAlone result
      → IsStep seen (λ i. ask i (print v)) (print_reply result bytes_of) seen
  view_step v result ok short =
      subst (λ (x : DeskSeen). IsStep x (λ i. ask i (print v)) (print_reply result bytes_of) x) is (viewed v result ok short)

-- An arrangement comes to what the machine says of it: that is a step.
module _ {R : Type 0} (seen : DeskSeen) (d : SiteTexts) (old new : WindowsSeen)
    (is : record { texts = d; screen = screened old } ≡ seen) (a : Arrangement) (told : R → Option ℕ)
    (reply : Result R Refusal → Reply) (done_so : (r : R) → reply (Ok r) ≡ option_map_or (λ v. opens v) (told r) done)
    (refused_so : (why : Refusal) → reply (Err why) ≡ (refuses why)) where
  arranges : (result : Result R Refusal) (s : State) (i : ℕ) → StandsIn s i (record { texts = d; screen = screened old })
      → (out : Arranged) → ComesTo out old told result new
      → MatchResult out
      (λ x. (reply result ≡ option_map_or (λ v. opens v) x.1 done)
      × (with_desk s i (record { texts = d; screen = screened new }) s.sent ≡ with_screen_at s i x.0))
      (λ why. Refuses s why (reply result) (with_desk s i (record { texts = d; screen = screened new }) s.sent))
  arranges result s i stands (Ok x) comes =
      let (r, answered, number, screen) = comes.done x.0 x.1 refl in (
        ap reply answered ∙ done_so r ∙ ap (λ (o : Option ℕ). option_map_or (λ v. opens v) o done) number,
        sym (run_arranged s i d (screened old) stands (screened new)) ∙ ap (with_screen_at s i) screen,
      )
  arranges result s i stands (Err why) comes =
      let (answered, same) = comes.refused why refl in (
        ap reply answered ∙ refused_so why,
        (λ k. with_desk s i (record { texts = d; screen = screened (same k) }) s.sent)
            ∙ sym (run_stays s i d (screened old) stands),
      )

  pub arrange_step : (result : Result R Refusal) → ComesTo (arranged d (screened old) a) old told result new
      → IsStep seen (λ i. ask i (arrange a)) (reply result) (record { texts = d; screen = screened new })
  arrange_step result comes =
      subst (λ (x : DeskSeen). IsStep x (λ i. ask i (arrange a)) (reply result) (record { texts = d; screen = screened new })) is
      (λ s i stands. inl (d, screened old, stands, (refl, arranges result s i stands (arranged d (screened old) a) comes)))

-- an opening may besides want for memory, and does nothing then
pub open_step : (seen : DeskSeen) (d : SiteTexts) (old new : WindowsSeen) → record { texts = d; screen = screened old } ≡ seen
    → (track : Track) (text : ℕ) (row : Option ℕ) (result : Result ℕ Refusal)
    → ComesToOrShort (arranged d (screened old) (Open track text row)) old (λ v. Some v) result new
    → IsStep seen (λ i. ask i (arrange (Open track text row))) (open_reply result)
    (record { texts = d; screen = screened new })
open_step seen d old new is track text row result (inl comes) =
    arrange_step seen d old new is (Open track text row) (λ v. Some v) open_reply (λ v. refl) (λ why. refl) result comes
open_step seen d old new is track text row result (inr (well, answered, same)) =
    subst (λ (x : DeskSeen). IsStep x (λ i. ask i (arrange (Open track text row))) (open_reply result)
    (record { texts = d; screen = screened new })) is
    (λ s i stands. inr (
      d,
      screened old,
      stands,
      (
        refl,
        well,
        (
          ap open_reply answered,
          (λ k. with_desk s i (record { texts = d; screen = screened (same k) }) s.sent)
              ∙ sym (run_stays s i d (screened old) stands),
        ),
      ),
    ))
