-- Edits of which each operation is made and sent after the one before it.
use Rattle.std.proofs.Common.{◌≡◌, ℕ, zero, suc, ◌+◌, ◌<◌, ◌≤◌, inl, inr, List, [], ◌∷◌}
use Rattle.std.proofs.Common.{◌++◌, length, take, map, Option, Some, None, Result, Ok, Err, refl, sym, ap, subst, ◌∙◌}
use Rattle.std.proofs.Common.{append_assoc, append-nil, arith}
use Rattle.std.specs.Prelude.{option_map, IsTrue, nat_le, ◌&&◌, ◌⊎◌}
use Rattle.std.proofs.Math.Seq.{take-append_seam}
use Rattle.std.proofs.lemmas.Bool.{le-leb}
use Rattle.std.proofs.lemmas.List.{length-append, map-append}
use Rattle.looks.specs.declared.refusal.Refusal.{Refusal}
use Rattle.looks.specs.declared.refusal.Refusal.TheVariants.{OutOfMemory, Scattered}
use Rattle.operations.specs.Operation.{Operation}
use Rattle.operations.specs.Spelling.{spelling}
use Rattle.texts.specs.Edit.{Edit, after, plan, with_operation}
use Rattle.texts.specs.Outcome.{EditsSending, TakesMemory, count_standing, first_refusal}
use Rattle.texts.specs.Outcome.{refusal_for, refusal_or}
use Rattle.texts.specs.Own.{IsWhyNot, SendsOne, answer_of_one, refused_after}
use Rattle.texts.specs.Text.{IsText}
use Rattle.texts.specs.TextState.{TextState, shown_of}
use Rattle.texts.specs.Edit.{is_in_text}
use Rattle.texts.specs.declared.edit_refusal.EditRefusal.TheVariants.{Whole, Partial}
use Rattle.texts.proofs.OwnParts.{edits_are_plain}

abbrev Stop : Type 0
Stop = Option (ℕ × Refusal)

-- what stops operations that come after so many others
abbrev pub later : ℕ → Stop → Stop
later n stop = option_map (λ s. (s.0 + n, s.1)) stop

later-none : (stop : Stop) → later 0 stop ≡ stop
later-none None = refl
later-none (Some s) = ap (λ (k : ℕ). Some (k, s.1)) (omega arith)

later-one : (n : ℕ) (stop : Stop) → later n (refusal_or None stop) ≡ later (n + 1) stop
later-one n None = refl
later-one n (Some s) = ap (λ (k : ℕ). Some (k, s.1)) (omega arith)

-- the first operations of an edit were made, now is what they left, and the rest are these
pub record IsUnderWay (t : TextState) (ops rest : List Operation) (n : ℕ) (now : TextState) (sent sent' : List (List ℕ))
    : Type 0 where
  pub made : List Operation
  pub counted : length made ≡ n
  pub split : ops ≡ made ++ rest
  pub text : now ≡ after t made
  pub told : sent' ≡ sent ++ map spelling made
  pub stop : first_refusal t ops ≡ later n (first_refusal now rest)

pub begins : (t : TextState) (ops : List Operation) (sent : List (List ℕ)) → IsUnderWay t ops ops 0 t sent sent
begins t ops sent = record {
  made = [];
  counted = refl;
  split = refl;
  text = refl;
  told = sym (append-nil sent);
  stop = sym (later-none (first_refusal t ops));
}

after-push : (t : TextState) (ops : List Operation) (op : Operation)
    → after t (ops ++ op ∷ []) ≡ with_operation (after t ops) op
after-push t [] op = refl
after-push t (o ∷ ops) op = after-push (with_operation t o) ops op

module _ (t : TextState) (ops : List Operation) (n : ℕ) (now : TextState) (sent sent' : List (List ℕ)) where
  -- one more was made
  pub goes_on : (op : Operation) (rest : List Operation) (new : TextState) (sent'' : List (List ℕ))
      → IsUnderWay t ops (op ∷ rest) n now sent sent' → SendsOne now op (Ok tt) new sent' sent''
      → IsUnderWay t ops rest (n + 1) new sent sent''
  goes_on op rest new sent'' u s = record {
    made = u.made ++ op ∷ [];
    counted = length-append u.made (op ∷ []) ∙ ap (λ (k : ℕ). k + 1) u.counted;
    split = u.split ∙ sym (append_assoc u.made (op ∷ []) rest);
    text =
        s.1 ∙ ap (λ (x : TextState). with_operation x op) u.text ∙ sym (after-push t u.made op);
    told =
        s.2 ∙ ap (λ (ms : List (List ℕ)). ms ++ spelling op ∷ []) u.told
        ∙ append_assoc sent (map spelling u.made) (spelling op ∷ [])
        ∙ ap (λ (ms : List (List ℕ)). sent ++ ms) (sym (map-append spelling u.made (op ∷ [])));
    stop =
        u.stop ∙ ap (λ (r : Option Refusal). later n (refusal_or r (first_refusal (with_operation now op) rest))) s.0
        ∙ later-one n (first_refusal (with_operation now op) rest)
        ∙ ap (λ (x : TextState). later (n + 1) (first_refusal x rest)) (sym s.1);
  }

  takes_made : (made rest : List Operation) → length made ≡ n → ops ≡ made ++ rest → take n ops ≡ made
  takes_made made rest counted split =
      ap (λ (k : ℕ). take k ops) (sym counted) ∙ ap (take (length made)) split ∙ take-append_seam made rest

  pub stand : (rest : List Operation) → IsUnderWay t ops rest n now sent sent'
      → (now ≡ after t (take n ops)) × (sent' ≡ sent ++ map spelling (take n ops)) × (n ≤ length ops)
  stand rest u =
      let same = sym (takes_made u.made rest u.counted u.split) in
      let long = ap (length {A = Operation}) u.split ∙ length-append u.made rest in (
        u.text ∙ ap (after t) same,
        u.told ∙ ap (λ (made : List Operation). sent ++ map spelling made) same,
        omega (arith, long, u.counted),
      )

  -- all stand that there are
  pub all_stand : IsUnderWay t ops [] n now sent sent' → (first_refusal t ops ≡ None) × (n ≡ length ops)
  all_stand u =
      let long = ap (length {A = Operation}) u.split ∙ length-append u.made [] in
      (u.stop, omega (arith, long, u.counted))

  -- the next one would stand, or is refused
  next_stands : (x : Stop) → first_refusal t ops ≡ later n (refusal_or None x) → n < length ops
      → n < count_standing t ops
  next_stands None stop long = rw stop long
  next_stands (Some s) stop long = rw stop (omega arith)

  pub would_stand : (op : Operation) (rest : List Operation) → IsUnderWay t ops (op ∷ rest) n now sent sent'
      → refusal_for now op.kind ≡ None → n < count_standing t ops
  would_stand op rest u allowed =
      let long = ap (length {A = Operation}) u.split ∙ length-append u.made (op ∷ rest) in
      let x = first_refusal (with_operation now op) rest in
      next_stands x (u.stop ∙ ap (λ (r : Option Refusal). later n (refusal_or r x)) allowed)
      (omega (arith, long, u.counted))

  pub is_refused : (op : Operation) (rest : List Operation) (why : Refusal)
      → IsUnderWay t ops (op ∷ rest) n now sent sent' → refusal_for now op.kind ≡ Some why
      → first_refusal t ops ≡ Some (n, why)
  is_refused op rest why u refused =
      u.stop
      ∙ ap (λ (r : Option Refusal). later n (refusal_or r (first_refusal (with_operation now op) rest))) refused
      ∙ ap (λ (k : ℕ). Some (k, why)) (omega arith)

-- positions within the text
pub in_position : (pos len : ℕ) → pos ≤ len → IsTrue (nat_le pos len)
in_position pos len within = le-leb pos len within

pub in_range : (beg end len : ℕ) → beg ≤ end → end ≤ len → IsTrue (nat_le beg end && nat_le end len)
in_range beg end len rising within = rw (le-leb beg end rising) (le-leb end len within)

module _ (t : TextState) (e : Edit) (is : IsText t) (in_text : IsTrue (is_in_text t e))
  where
    -- an edit whose operations were all made
    pub ended : (n : ℕ) (now : TextState) (sent sent' : List (List ℕ))
        → IsUnderWay t (plan t e) [] n now sent sent' → EditsSending t e (Ok n) now sent sent'
    ended n now sent sent' u =
        let all = all_stand t (plan t e) n now sent sent' u in
        let here = stand t (plan t e) n now sent sent' [] u in
        let part = edits_are_plain t e n is in_text here.2 in (
          map spelling (take n (plan t e)),
          here.1,
          ap shown_of here.0 ∙ part.whole all.1,
          inl (all.0, all.1, record { text = here.0; told = refl }),
        )

    -- one of which no operation was made
    stopped_whole : (why : Refusal) (new : TextState) (sent sent' : List (List ℕ)) → new ≡ t → sent' ≡ sent
        → (first_refusal t (plan t e) ≡ Some (0, why))
        ⊎ ((why ≡ OutOfMemory) × TakesMemory t (plan t e))
        → EditsSending t e (Err (Whole why)) new sent sent'
    stopped_whole why new sent sent' same none which = (
      [],
      none ∙ sym (append-nil sent),
      ap shown_of same,
      elim which [
        | inl stop ↦ inl (stop, record { text = same; told = refl })
        | inr short ↦ inr (short.0, short.1, record { text = same; told = refl })
      ],
    )

    -- one of which the first operations stand, and the next one doesn't
    stopped : (n : ℕ) (op : Operation) (rest : List Operation) (why : Refusal) (now new : TextState)
        (sent sent' sent'' : List (List ℕ)) → IsUnderWay t (plan t e) (op ∷ rest) n now sent sent' → 0 < n
        → new ≡ now → sent'' ≡ sent' → (first_refusal t (plan t e) ≡ Some (n, why))
        ⊎ ((why ≡ OutOfMemory) × (n < count_standing t (plan t e)))
        → EditsSending t e (Err (Partial n why)) new sent sent''
    stopped n op rest why now new sent sent' sent'' u some same none which =
        let here = stand t (plan t e) n now sent sent' (op ∷ rest) u in
        let part = edits_are_plain t e n is in_text here.2 in (
          map spelling (take n (plan t e)),
          none ∙ here.1,
          ap shown_of (same ∙ here.0) ∙ part.part some,
          elim which [
            | inl stop ↦ inl (some, stop, record { text = same ∙ here.0; told = refl })
            | inr short ↦ inr (short.0, some, short.1, record { text = same ∙ here.0; told = refl })
          ],
        )

    -- so the next one was refused, of which the first alone may have too many ranges
    pub refused : (n : ℕ) (op : Operation) (rest : List Operation) (why : Refusal) (now new : TextState)
        (sent sent' sent'' : List (List ℕ)) → IsUnderWay t (plan t e) (op ∷ rest) n now sent sent'
        → (refusal_for now op.kind ≡ Some Scattered → n ≡ 0) → SendsOne now op (Err why) new sent' sent''
        → EditsSending t e (Err (refused_after n why)) new sent sent''
    refused zero op rest why now new sent sent' sent'' u first (whynot, same, none) =
        let here = stand t (plan t e) 0 now sent sent' (op ∷ rest) u in
        stopped_whole why new sent sent'' (same ∙ here.0) (none ∙ here.1 ∙ append-nil sent) (elim whynot [
          | inl r ↦ inl (is_refused t (plan t e) 0 now sent sent' op rest why u r)
          | inr (oom, inl r) ↦ inr (oom, inl (would_stand t (plan t e) 0 now sent sent' op rest u r))
          | inr (oom, inr r) ↦ inr (oom, inr (is_refused t (plan t e) 0 now sent sent' op rest Scattered u r))
        ])
    refused (suc n) op rest why now new sent sent' sent'' u first (whynot, same, none) =
        stopped (suc n) op rest why now new sent sent' sent'' u (omega arith) same none (elim whynot [
          | inl r ↦ inl (is_refused t (plan t e) (suc n) now sent sent' op rest why u r)
          | inr (oom, inl r) ↦ inr (oom, would_stand t (plan t e) (suc n) now sent sent' op rest u r)
          | inr (oom, inr r) ↦ absurd (omega (arith, first r))
        ])

    module _ (sent : List (List ℕ)) where
      all_of : (ops : List Operation) → plan t e ≡ ops → IsUnderWay t (plan t e) ops 0 t sent sent
      all_of ops planned = subst (λ (rest : List Operation). IsUnderWay t (plan t e) rest 0 t sent sent) planned
          (begins t (plan t e) sent)

      -- an edit without an operation
      pub none_sent : plan t e ≡ [] → EditsSending t e (Ok 0) t sent sent
      none_sent planned = ended 0 t sent sent (all_of [] planned)

      -- one whose first operation wasn't made, so that nothing was done
      pub first_refused : (op : Operation) (rest : List Operation) (why : Refusal) → plan t e ≡ op ∷ rest
          → IsWhyNot t op why → EditsSending t e (Err (Whole why)) t sent sent
      first_refused op rest why planned whynot =
          refused 0 op rest why t t sent sent sent (all_of (op ∷ rest) planned) (λ _. refl) (whynot, refl, refl)

      -- and with one
      pub one_sent : (op : Operation) → plan t e ≡ op ∷ [] → (made : Result (Unit {0}) Refusal) (new : TextState)
          (sent' : List (List ℕ)) → SendsOne t op made new sent sent'
          → EditsSending t e (answer_of_one made) new sent sent'
      one_sent op planned (Ok done) new sent' s =
          ended 1 new sent sent' (goes_on t (plan t e) 0 t sent sent op [] new sent' (all_of (op ∷ []) planned) s)
      one_sent op planned (Err why) new sent' s =
          refused 0 op [] why t new sent sent sent' (all_of (op ∷ []) planned) (λ _. refl) s
