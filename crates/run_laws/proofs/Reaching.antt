-- What a script comes to, and what its texts and screens answer.
use Rattle.std.proofs.Common.{◌≡◌, ◌≢◌, ℕ, true, false, Bool, List, [], Some, sym, subst, ◌∙◌, inl, inr}
use Rattle.std.specs.Prelude.{MatchBool, slice_get}
use Rattle.looks.specs.declared.refusal.Refusal.{Refusal}
use Rattle.looks.specs.declared.refusal.Refusal.TheVariants.{OutOfRange}
use Rattle.shelf.specs.Files.{Files}
use Rattle.texts.specs.TextState.{TextState}
use Rattle.machine.specs.SiteTexts.{SiteTexts}
use Rattle.machine.specs.Events.{Event, Reply, prints, query, refuses, untouched}
use Rattle.machine.specs.Machine.{Does}
use Rattle.machine.specs.OnTexts.{Prints, QueriesText, is_asked_in}
use Rattle.machine.specs.State.{IsDeskAt, IsTextAt, State, new_state}
use Rattle.machine.specs.Tasks.{lines_of_view}
use Rattle.machine.specs.Windows.{Screened}
use Rattle.machine.specs.declared.asked.Query.{Query}
use Rattle.machine.specs.declared.asked.View.{View}
use Rattle.machine_laws.proofs.OneOfTexts.{one_element, lemma_one_text}
use Rattle.machine_laws.specs.Laws.{AnswerTheSame, HoldTheSame, IsSoundState, Reached, WhatARunReachesIsSound, begins, goes_on, others_write}
use Rattle.script_io.specs.Lines.{without_return}
use Rattle.script_sites.specs.Trace.{Run, Step, Trace, is_silent, over_shelf}
use Rattle.script_sites.specs.Trace.{begins as starts, goes_on as follows}
use Rattle.run_laws.specs.Laws.{AnswersQuery, AnswersView, AreAnsweredTheSame, EachTraceIsReached, HaveTakenTheSame}
use Rattle.run_laws.specs.Laws.{IsAfterLines, Start}

module _ (first count width height : ℕ) (files : Files) where
  -- one line further
  line_reached : (s : Run) (silent : Bool) (e : Event) (answer : List ℕ) (new : Run)
      → Reached first count width height files s.state → MatchBool silent ((answer ≡ []) × (new ≡ s)) (Step s e answer new)
      → Reached first count width height files new.state
  line_reached s true e answer new reached answered =
      subst (λ (x : Run). Reached first count width height files x.state) (sym answered.1) reached
  line_reached s false e answer new reached (part, r, is, replies, counted) = goes_on e part r new.state reached replies

  pub trace_reached : (reported : Bool) (faults n : ℕ) (script answers : List ℕ) (s : Run)
      → Trace reported (record { state = new_state first count width height files; faults = faults }) n script answers s
      → Reached first count width height files s.state
  trace_reached reported faults n script answers s starts = begins
  trace_reached reported faults n script answers s
      (follows {n = before} {script = front} {answers = said} {s = old} raw answer new trace is_raw (now, meanwhile, answered)) =
      line_reached (over_shelf old now) (is_silent (without_return raw)) _ answer new
      (others_write now.files (trace_reached reported faults before front said old trace)) answered

-- so after any lines all is sound
pub after_sound : EachTraceIsReached → WhatARunReachesIsSound → (start : Start) (s : State) → IsAfterLines start s
    → IsSoundState s
after_sound reached sound start s after =
    sound start.first start.count start.width start.height start.files s (reached start s after)

-- equal replies print equal lines
same_lines : (a b : List ℕ) → prints a ≡ prints b → a ≡ b
same_lines a b e = cc

-- a reply that prints refuses nothing
prints_refuses : (lines : List ℕ) (why : Refusal) → prints lines ≢ refuses why
prints_refuses lines why e = cc

-- what is replied to a query, where memory is there, is what the text there answers
query_answered : (s : State) (i text : ℕ) (t : TextState) (q : Query) (r : Reply) (new : State) → IsTextAt s i text t
    → Does s (query i text q) untouched r new → QueriesText q r t
query_answered s i text t q r new there (free, stays, (u, at, answers)) =
    subst (λ (x : TextState). QueriesText q r x) (lemma_one_text s i text u t at there) answers

-- so the lines that are replied are those that it prints
printed : (q : Query) (t : TextState) (lines : List ℕ) (inside : Bool)
    → MatchBool inside ((x : List ℕ) × Prints q t x × (prints lines ≡ prints x)) (prints lines ≡ refuses OutOfRange)
    → Prints q t lines
printed q t lines true (x, is, same) = subst (Prints q t) (sym (same_lines lines x same)) is
printed q t lines false same = absurd (prints_refuses lines OutOfRange same)

pub query_replied : (s : State) (i text : ℕ) (t : TextState) (q : Query) (lines : List ℕ) → IsTextAt s i text t
    → AnswersQuery s i text q lines → Prints q t lines
query_replied s i text t q lines there (new, inl does) =
    printed q t lines (is_asked_in t q) (query_answered s i text t q (prints lines) new there does)
query_replied s i text t q lines there (new, inr (free, inside, refused)) = absurd (prints_refuses lines _ refused.0)

-- texts that answer the same are answered the same
pub answered : (s s' : State) (i j text text' : ℕ) (t u : TextState) → IsTextAt s i text t
    → IsTextAt s' j text' u → AnswerTheSame t u → AreAnsweredTheSame s s' i j text text'
answered s s' i j text text' t u at_t at_u same q r r' new new' of_shown does does' =
    same q r r' of_shown (query_answered s i text t q r new at_t does) (query_answered s' j text' u q r' new' at_u does')

-- what is replied to a view is what is printed of the screen there
pub view_replied : (s : State) (i : ℕ) (d : SiteTexts) (w : Screened) (v : View) (lines : List ℕ) → IsDeskAt s i d w
    → AnswersView s i v lines → lines ≡ lines_of_view d w v
view_replied s i d w v lines at (new, inl (e, x, at', (free, is, stays))) =
    let desk : e ≡ d = one_element (slice_get s.desks i) e d at'.texts at.texts in
    let screen : x ≡ w = one_element (slice_get s.screens i) x w at'.screen at.screen in
    same_lines lines (lines_of_view e x v) is ∙ (λ k. lines_of_view (desk k) (screen k) v)
view_replied s i d w v lines at (new, inr (e, x, at', (free, refused))) = absurd (prints_refuses lines _ refused.0)

-- desks that are sound and whose texts have taken in the same hold the same
pub same_held : (s s' : State) (i j : ℕ) (d e : SiteTexts) → IsSoundState s → IsSoundState s' → slice_get s.desks i ≡ Some d
    → slice_get s'.desks j ≡ Some e → HaveTakenTheSame d e → HoldTheSame d e
same_held s s' i j d e sound sound' at at' same = record {
  count = sound.desks i d at ∙ sym (sound'.desks j e at');
  texts = λ n t u there there'. (sound.texts i n t (d, at, there), sound'.texts j n u (e, at', there'), same n t u there there');
}
