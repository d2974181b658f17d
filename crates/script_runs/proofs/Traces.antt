-- A run so far, and how it goes on and ends.
use Rattle.std.proofs.Common.{◌≡◌, ◌≢◌, ℕ, ◌+◌, ◌<◌, ◌≤◌, List, [], ◌∷◌, ◌++◌, Result, Ok, Err, Option, Some, None, refl, sym, ap, subst, ◌∙◌, inl, inr, append-nil, arith}
use Rattle.std.specs.Prelude.{Bool, IfSome, IfErr, IsErrAnd, IsTrue, OnErr}
use Rattle.std.specs.Io.KnownBytes.{Appends, Consumes, Keeps, IsAtEnd}
use Rattle.std.proofs.KnownBytes.{Consumes-nil, Consumes-trans, Appends-nil, Appends-trans, Appends-kept}
use Rattle.looks.specs.declared.refusal.Refusal.{Refusal}
use Rattle.looks.specs.declared.refusal.Refusal.TheVariants.{OutOfMemory, ReadFault, WriteFault}
use Rattle.script_sites.specs.Answers.{refused_line}
use Rattle.script_runs.specs.Ends.{Breaks, IsAnswered, IsBrokenOff, AreDue, Ends}
use Rattle.script_io.specs.Lines.{IsRaw, without_return, TakesLine}
use Rattle.script_runs.specs.Parts.{BreaksOff}
use Rattle.script_sites.specs.Seen.{SitesSeen, run_seen}
use Rattle.script_sites.specs.Trace.{Answers, AnswersNext, Run, Shelved, Trace, begins, goes_on, shelved}
use Rattle.script_sites.specs.Writing.{AppendsPrefix, WritesBytes}
use Rattle.script_sites.proofs.WriteLemmas.{prefix_after, prefix_of_all, writes_after, writes_kept}
use Rattle.script_io.specs.declared.lines.NextLine.{NextLine}
use Rattle.script_io.specs.declared.lines.NextLine.TheVariants.{Line, Last, End}
use Rattle.script_runs.specs.declared.running.TheConstants.{MAX_LINES}

-- a front of the script was taken, n lines, and was answered; the rest is what the reader has left
pub record IsSoFar (told : Bool) (start : Run) (script : List ℕ) (left old new : Option (List ℕ)) (n : ℕ) (s : Run) : Type 0 where
  pub front : List ℕ
  pub answers : List ℕ
  pub taken : Consumes (Some script) left front
  pub written : Appends old new answers
  pub trace : Trace told start n front answers s

module _ (told : Bool) (start : Run) (script : List ℕ) where
  pub so_far_begins : (old : Option (List ℕ)) → IsSoFar told start script (Some script) old old 0 (start)
  so_far_begins old = record { front = []; answers = []; taken = Consumes-nil (Some script); written = Appends-nil old; trace = begins }

  pub so_far_goes_on : (left left' old mid new : Option (List ℕ)) (n : ℕ) (s s' : Run) (raw answer : List ℕ) → IsSoFar told start script left old mid n s
      → IsRaw raw → Consumes left left' (raw ++ 10 ∷ []) → Appends mid new answer → AnswersNext told s (without_return raw) answer s' → IsSoFar told start script left' old new (n + 1) s'
  so_far_goes_on left left' old mid new n s s' raw answer f is_raw taken written step = record {
    front = f.front ++ (raw ++ 10 ∷ []);
    answers = f.answers ++ answer;
    taken = Consumes-trans (Some script) left left' f.front (raw ++ 10 ∷ []) f.taken taken;
    written = Appends-trans old mid new f.answers answer f.written written;
    trace = goes_on raw answer s' f.trace is_raw step;
  }

  whole : (left : Option (List ℕ)) (front : List ℕ) → Consumes (Some script) left front → IsAtEnd left → script ≡ front
  whole None front taken end = elim taken [ ]
  whole (Some rest) front taken end = taken ∙ ap (λ (r : List ℕ). front ++ r) end ∙ append-nil front

  -- these are the answers to the whole script, of which the reader has nothing left
  abbrev IsWhole : Option (List ℕ) → List ℕ → Shelved → Type 0
  IsWhole left answers now = IsAnswered told start script answers now × Consumes (Some script) left script

  -- nothing was left after the lines
  whole_by_end : (left left' old mid : Option (List ℕ)) (n : ℕ) (s : Run) (f : IsSoFar told start script left old mid n s) → n ≤ MAX_LINES → Consumes left left' [] → IsAtEnd left' → IsWhole left' f.answers (shelved s)
  whole_by_end left left' old mid n s f few taken end =
      let all = Consumes-trans (Some script) left left' f.front [] f.taken taken in
      let is = whole left' (f.front ++ []) all end in
      let trace = subst (λ (front : List ℕ). Trace told start n front f.answers s) (sym (is ∙ append-nil f.front)) f.trace in
      (inl (n, s, few, trace, refl), subst (Consumes (Some script) left') (sym is) all)

  -- the last line has no newline
  whole_by_last : (left left' old mid : Option (List ℕ)) (n : ℕ) (s s' : Run) (raw answer : List ℕ) (f : IsSoFar told start script left old mid n s) → n < MAX_LINES
      → IsRaw raw → raw ≢ [] → Consumes left left' raw → IsAtEnd left' → AnswersNext told s raw answer s' → IsWhole left' (f.answers ++ answer) (shelved s')
  whole_by_last left left' old mid n s s' raw answer f few is_raw some taken end step =
      let all = Consumes-trans (Some script) left left' f.front raw f.taken taken in
      let is = whole left' (f.front ++ raw) all end in
      (inr (n, f.front, f.answers, raw, answer, s, s', few, f.trace, is_raw, some, step, is, refl, refl), subst (Consumes (Some script) left') (sym is) all)

  module _ (failed : Bool) where
    -- the writer failed, with a prefix of the answers that were due written
    ends_unwritten : (left old new : Option (List ℕ)) (why : Refusal) (answers : List ℕ) (now : Shelved) → why ≡ WriteFault → AppendsPrefix old new answers → AreDue told start script failed left answers now
        → Ends told start script (Err why) failed left old new now
    ends_unwritten left old new why answers now e prefix due = subst (λ (w : Refusal). Ends told start script (Err w) failed left old new now) (sym e) (answers, prefix, due)

    -- the answers to the whole script are written
    ends_whole : (result : Result (Unit {0}) Refusal) (cut : Bool) (left old new : Option (List ℕ)) (answers : List ℕ) (now : Shelved) → WritesBytes result cut old new answers → IsWhole left answers now → Ends told start script result failed left old new now
    ends_whole (Ok done) cut left old new answers now w h = (answers, w, h.0)
    ends_whole (Err why) cut left old new answers now w h = ends_unwritten left old new why answers now w.0 w.2 (inr (inl h))

    -- the writer failed at the answer to a line
    ends_in_line : (result : Result (Unit {0}) Refusal) (cut : Bool) (why : Refusal) (left left' old mid new : Option (List ℕ)) (n : ℕ) (s s' : Run) (raw answer : List ℕ) → IsSoFar told start script left old mid n s
        → n < MAX_LINES → IsRaw raw → Consumes left left' (raw ++ 10 ∷ []) → AnswersNext told s (without_return raw) answer s' → IsErrAnd result (λ e. e ≡ why) → WritesBytes (Err why) cut mid new answer
        → Ends told start script result failed left' old new (shelved s')
    ends_in_line (Ok done) cut why left left' old mid new n s s' raw answer f few is_raw taken step e w = absurd e
    ends_in_line (Err y) cut why left left' old mid new n s s' raw answer f few is_raw taken step e w =
        let one_more : n + 1 ≤ MAX_LINES = omega arith in
        ends_unwritten left' old new y (f.answers ++ answer) (shelved s') (e ∙ w.0) (prefix_after old mid new f.answers answer f.written w.2)
        (inl (n + 1, f.front ++ (raw ++ 10 ∷ []), s', one_more, goes_on raw answer s' f.trace is_raw step, Consumes-trans (Some script) left left' f.front (raw ++ 10 ∷ []) f.taken taken, refl))

    -- what was written could not be put out
    pub ends_by_put_out : (left old mid new : Option (List ℕ)) (n : ℕ) (s : Run) (r : Result (Unit {0}) Refusal) (why : Refusal) → IsSoFar told start script left old mid n s
        → n ≤ MAX_LINES → IsErrAnd r (λ e. e ≡ why) → why ≡ WriteFault → Keeps mid new → Ends told start script r failed left old new (shelved s)
    ends_by_put_out left old mid new n s (Ok done) why f few e fault kept = absurd e
    ends_by_put_out left old mid new n s (Err y) why f few e fault kept =
        let all = prefix_of_all old new f.answers (Appends-kept old mid new f.answers f.written kept) in
        ends_unwritten left old new y f.answers (shelved s) (e ∙ fault) all (inl (n, f.front, s, few, f.trace, f.taken, refl))

    -- taking broke off after the lines
    pub ends_broken : (left left' old mid new : Option (List ℕ)) (n : ℕ) (s : Run) (part : List ℕ) (result : Result (Unit {0}) Refusal) (cut : Bool) → IsSoFar told start script left old mid n s
        → n ≤ MAX_LINES → Breaks failed n part → Consumes left left' part → BreaksOff cut mid new result → Ends told start script result failed left' old new (shelved s)
    ends_broken left left' old mid new n s part (Ok done) cut f few broken taken b = elim b [ ]
    ends_broken left left' old mid new n s part (Err why) cut f few broken taken b =
        let answers = f.answers ++ refused_line ReadFault in
        let all = Consumes-trans (Some script) left left' f.front part f.taken taken in
        let broken_off : IsBrokenOff told start script failed left' answers (shelved s) = (n, f.front, part, f.answers, s, few, f.trace, broken, all, refl, refl) in
        elim b [
          | inl (e, p) ↦ subst (λ (w : Refusal). Ends told start script (Err w) failed left' old new (shelved s)) (sym e) (answers, Appends-trans old mid new f.answers (refused_line ReadFault) f.written p, broken_off)
          | inr (e, t, p) ↦ ends_unwritten left' old new why answers (shelved s) e (prefix_after old mid new f.answers (refused_line ReadFault) f.written p) (inr (inr broken_off))
        ]

pub IfSome-weaker : {X : Type 0} (o : Option X) (P Q : X → Type 0) → ((x : X) → P x → Q x) → IfSome o P → IfSome o Q
IfSome-weaker None P Q f h = tt
IfSome-weaker (Some x) P Q f h = f x h

pub begins_known : (told : Bool) (start : Run) (left old : Option (List ℕ)) → IfSome left (λ script. IsSoFar told start script left old old 0 (start))
begins_known told start None old = tt
begins_known told start (Some script) old = so_far_begins told start script old

-- nothing was begun, for want of memory
pub ends_unbegun : (told : Bool) (start : Run) (r : Result (Unit {0}) Refusal) (failed : Bool) (left old : Option (List ℕ)) → IsErrAnd r (λ e. e ≡ OutOfMemory)
    → IfSome left (λ script. Ends told start script r failed left old old (shelved start))
ends_unbegun told start (Ok done) failed left old is = absurd is
ends_unbegun told start (Err why) failed None old is = tt
ends_unbegun told start (Err why) failed (Some script) old is =
    subst (λ (w : Refusal). Ends told start script (Err w) failed (Some script) old old (shelved start)) (sym is) (refl, kept old, refl)
  where
    kept : (old : Option (List ℕ)) → Keeps old old
    kept None = tt
    kept (Some bytes) = refl

-- what was written is put out
pub so_far_out : (told : Bool) (start : Run) (script left old mid new : Option (List ℕ)) (n : ℕ) (s : Run) → IfSome script (λ script. IsSoFar told start script left old mid n s) → Keeps mid new → IfSome script (λ script. IsSoFar told start script left old new n s)
so_far_out told start script left old mid new n s f k =
    IfSome-weaker script (λ script. IsSoFar told start script left old mid n s) (λ script. IsSoFar told start script left old new n s)
    (λ script f. record { front = f.front; answers = f.answers; taken = f.taken; written = Appends-kept old mid new f.answers f.written k; trace = f.trace }) f

-- a line's answer is written
abbrev pub IsWritten : (told : Bool) → Result (Unit {0}) Refusal → (cut : Bool) → (mid new : Option (List ℕ)) (s s' : Run) (line : List ℕ) → Type 0
IsWritten told result cut mid new s s' line = (answer : List ℕ) × WritesBytes result cut mid new answer × AnswersNext told s line answer s'

module _ (told : Bool) (start : Run) (script : List ℕ) (failed cut : Bool) (left left' old mid new : Option (List ℕ)) (n : ℕ) (s s' : Run) (f : IsSoFar told start script left old mid n s) where
  pub ends_by_last : (r : Result (Unit {0}) Refusal) (line : List ℕ) → n < MAX_LINES → TakesLine failed left left' (Ok Last) line → IsWritten told r cut mid new s s' line → Ends told start script r failed left' old new (shelved s')
  ends_by_last r line few t w =
      ends_whole told start script failed r cut left' old new (f.answers ++ w.0) (shelved s') (writes_after r cut old mid new f.answers w.0 f.written w.1)
      (whole_by_last told start script left left' old mid n s s' line w.0 f few t.0 t.1 t.2 t.3 w.2)

  pub ends_by_end : (r : Result (Unit {0}) Refusal) (line : List ℕ) → n ≤ MAX_LINES → TakesLine failed left left' (Ok End) line → Keeps mid new → IfErr r (λ e. e ≡ WriteFault) → OnErr r (IsTrue cut) → Ends told start script r failed left' old new (shelved s)
  ends_by_end r line few t kept e h =
      ends_whole told start script failed r cut left' old new f.answers (shelved s) (writes_kept r cut old mid new f.answers f.written kept e h) (whole_by_end told start script left left' old mid n s f few t.0 t.1)

  -- in a line that has not ended
  pub ends_by_fault : (r : Result (Unit {0}) Refusal) (line : List ℕ) (why : Refusal) → n ≤ MAX_LINES → TakesLine failed left left' (Err why) line → BreaksOff cut mid new r → Ends told start script r failed left' old new (shelved s)
  ends_by_fault r line why few t b = ends_broken told start script failed left left' old mid new n s t.1.0 r cut f few (inl t.1.1) t.1.2 b

  -- a line or a part of one stands after the last line
  pub ends_by_limit : (r : Result (Unit {0}) Refusal) (taken : Result NextLine Refusal) (line : List ℕ) → n ≡ MAX_LINES → taken ≢ Ok End → TakesLine failed left left' taken line → BreaksOff cut mid new r
      → Ends told start script r failed left' old new (shelved s)
  ends_by_limit r (Ok Line) line full some t b =
      ends_broken told start script failed left left' old mid new n s (t.0 ++ 10 ∷ []) r cut f (omega arith) (inr (full, (t.0, t.1, inl refl))) t.2 b
  ends_by_limit r (Ok Last) line full some t b =
      ends_broken told start script failed left left' old mid new n s line r cut f (omega arith) (inr (full, (line, t.0, inr (refl, t.1)))) t.2 b
  ends_by_limit r (Ok End) line full some t b = absurd (some refl)
  ends_by_limit r (Err why) line full some t b = ends_by_fault r line why (omega arith) t b

  -- the writer failed at a line's answer
  pub ends_by_line : (r : Result (Unit {0}) Refusal) (why : Refusal) (line : List ℕ) → n < MAX_LINES → TakesLine failed left left' (Ok Line) line → IsErrAnd r (λ e. e ≡ why) → IsWritten told (Err why) cut mid new s s' line
      → Ends told start script r failed left' old new (shelved s')
  ends_by_line r why line few t e w =
      let step = subst (λ (l : List ℕ). AnswersNext told s l w.0 s') t.3 w.2 in
      ends_in_line told start script failed r cut why left left' old mid new n s s' t.0 w.0 f few t.1 t.2 step e w.1

  pub goes_on_by : (line : List ℕ) → TakesLine failed left left' (Ok Line) line → (answer : List ℕ) × Appends mid new answer × AnswersNext told s line answer s' → IsSoFar told start script left' old new (n + 1) s'
  goes_on_by line t w =
      let step = subst (λ (l : List ℕ). AnswersNext told s l w.0 s') t.3 w.2 in
      so_far_goes_on told start script left left' old mid new n s s' t.0 w.0 f t.1 t.2 w.1 step

-- so far, of sites over the files that a shelf told as the run began, and over those that it tells now
abbrev pub SoFarOver : (told : Bool) → SitesSeen → (known left old new : Option (List ℕ)) → ℕ → SitesSeen → Shelved → Shelved → Type 0
SoFarOver told start known left old new n s was now = IfSome known (λ script. IsSoFar told (run_seen start was) script left old new n (run_seen s now))

-- the end of such a run
abbrev pub EndsOver : (told : Bool) → SitesSeen → (known : Option (List ℕ)) → Result (Unit {0}) Refusal → (failed : Bool) → (left old new : Option (List ℕ)) → Shelved → Shelved → Type 0
EndsOver told start known r failed left old new was now = IfSome known (λ script. Ends told (run_seen start was) script r failed left old new now)

-- the answer to a line of it
abbrev pub AnsweredOver : SitesSeen → (line answer : List ℕ) → SitesSeen → Shelved → Shelved → Type 0
AnsweredOver s line answer new was now = Answers (run_seen s was) line answer (run_seen new now)
