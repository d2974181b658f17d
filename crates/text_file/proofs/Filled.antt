-- Characters that are put at the end of a buffer, byte by byte or run by run.
use Rattle.std.proofs.Common.{◌≡◌, ℕ, ◌+◌, ◌≤◌, ◌↔◌, ◌⊎◌, List, [], ◌∷◌, ◌++◌, length, take, drop}
use Rattle.std.proofs.Common.{Option, Some, None, Result, Ok, Err, inl, inr, refl, sym, ap, subst, ◌∙◌}
use Rattle.std.proofs.Common.{append_assoc, length-append, arith}
use Rattle.std.specs.Prelude.{IfErr, IsErrOf}
use Rattle.std.specs.List.{flat_map}
use Rattle.std.proofs.lemmas.List.{append-nil, length-drop}
use Rattle.std.proofs.lemmas.List.{length-map}
use Rattle.looks.specs.declared.looks.Looks.{Looks}
use Rattle.looks.specs.declared.refusal.Refusal.{Refusal}
use Rattle.looks.specs.declared.refusal.Refusal.TheVariants.{OutOfMemory, FileSpent}
use Rattle.looks.specs.Refusal.{RefusedForMemoryAlone}
use Rattle.char_files.specs.Stretch.{Item, items_of}
use Rattle.operations.specs.Reading.{LooksAreDetermined}
use Rattle.text_file.specs.declared.loading.Head.{Head}
use Rattle.text_file.specs.Heads.{head_spelling, IsHead, AreHeads, total_of, cut_into_runs, AreSpelled}
use Rattle.text_file.proofs.Cuts.{run_items}
use Rattle.text_file.proofs.Heads.{head_told}

-- a buffer that has room refuses for memory alone
pub memory_alone : (r : Result (Unit {0}) Refusal) (IsFull : Type 0)
    → IfErr r (λ e. (e ≡ FileSpent) ⊎ (e ≡ OutOfMemory)) → (IsErrOf r FileSpent ↔ IsFull) → (IsFull → ⊥)
    → RefusedForMemoryAlone r
memory_alone (Ok done) IsFull errors full room = tt
memory_alone (Err e) IsFull (inl spent) full room = absurd (room (full.0 (ap (λ (x : Refusal). Err x) spent)))
memory_alone (Err e) IsFull (inr memory) full room = memory

-- a text, and the runs that are still to be put at its end, with their characters
pub record Todo (whole text : List Item) (rest left : List ℕ) : Type 0 where
  pub last : Option Looks
  pub runs : List Head
  pub valid : AreHeads last runs
  pub total : total_of runs ≡ length left
  pub spelled : rest ≡ flat_map head_spelling runs
  pub ends : text ++ items_of (cut_into_runs runs left) ≡ whole

-- the same, whichever runs are spelled so
abbrev pub Goes : (heads chars : List ℕ) → List Item → (rest left : List ℕ) → Type 0
Goes heads chars text rest left =
    (runs : List Head) → AreSpelled runs chars heads → Todo (items_of (cut_into_runs runs chars)) text rest left

pub todo_all : (heads chars : List ℕ) (text : List Item) → text ≡ [] → Goes heads chars text heads chars
todo_all heads chars text none runs s = record {
  last = None;
  runs = runs;
  valid = s.valid;
  total = s.total;
  spelled = s.spelled;
  ends = ap (λ (t : List Item). t ++ items_of (cut_into_runs runs chars)) none;
}

module _ (told : LooksAreDetermined) (whole text : List Item) (rest left : List ℕ) (h : Head) (after : List ℕ)
    (is : IsHead h) (e : rest ≡ head_spelling h ++ after) where
  -- the run that was read is the first one to do
  next_is : (t : Todo whole text rest left) → (more : List Head)
      × (t.runs ≡ h ∷ more) × AreHeads (Some h.looks) more × (after ≡ flat_map head_spelling more)
  next_is t = go t.runs refl
    where
      go : (runs : List Head) → t.runs ≡ runs → (more : List Head)
          × (t.runs ≡ h ∷ more) × AreHeads (Some h.looks) more × (after ≡ flat_map head_spelling more)
      go [] are =
          let none : head_spelling h ++ after ≡ [] =
          sym e ∙ t.spelled ∙ ap (λ (runs : List Head). flat_map head_spelling runs) are in
          absurd (omega (arith, ap length none))
      go (g ∷ runs) are =
          let valid : AreHeads t.last (g ∷ runs) = subst (AreHeads t.last) are t.valid in
          let spelled : head_spelling h ++ after ≡ head_spelling g ++ flat_map head_spelling runs =
          sym e ∙ t.spelled ∙ ap (λ (hs : List Head). flat_map head_spelling hs) are in
          let one = head_told told h g after (flat_map head_spelling runs) is valid.0 spelled in (
            runs,
            are ∙ ap (λ (x : Head). x ∷ runs) (sym one.0),
            subst (λ (x : Head). AreHeads (Some x.looks) runs) (sym one.0) valid.2,
            one.1,
          )

  -- its characters are there
  pub todo_fits : Todo whole text rest left → h.len ≤ length left
  todo_fits t = let next = next_is t in omega (arith, ap total_of next.1, t.total)

  pub todo_more : (new : List Item) (front others : List ℕ) → front ≡ take h.len left
      → others ≡ drop h.len left → Todo whole text rest left
      → new ≡ text ++ run_items h.looks front → Todo whole new after others
  todo_more new front others front_is others_is t pushed =
      let next = next_is t in
      let more : List Item = items_of (cut_into_runs next.0 (drop h.len left)) in
      subst (λ (l : List ℕ). Todo whole new after l) (sym others_is)
      (record {
        last = Some h.looks;
        runs = next.0;
        valid = next.2;
        total = omega (arith, ap total_of next.1, t.total, length-drop h.len left);
        spelled = next.3;
        ends =
            ap (λ (x : List Item). x ++ more) (pushed
            ∙ ap (λ (bytes : List ℕ). text ++ run_items h.looks bytes) front_is)
            ∙ append_assoc text (run_items h.looks (take h.len left)) more
            ∙ ap (λ (hs : List Head). text ++ items_of (cut_into_runs hs left)) (sym next.1) ∙ t.ends;
      })

-- how long the text is with one run more
pub run_len : (old new : List Item) (looks : Looks) (bytes : List ℕ)
    → new ≡ old ++ run_items looks bytes → length new ≡ length old + length bytes
run_len old new looks bytes e =
    let item : ℕ → Item = λ b. (b, looks) in
    omega (arith, ap length e, length-append old (run_items looks bytes), length-map bytes item)

pub todo_none : (whole text : List Item) (rest left : List ℕ) → Todo whole text rest left
    → ((h : Head) (after : List ℕ) → IsHead h → rest ≡ head_spelling h ++ after → ⊥) → text ≡ whole
todo_none whole text rest left t none = go t.runs refl
  where
    go : (runs : List Head) → t.runs ≡ runs → text ≡ whole
    go [] are =
        sym (append-nil text) ∙ ap (λ (hs : List Head). text ++ items_of (cut_into_runs hs left)) (sym are) ∙ t.ends
    go (g ∷ runs) are =
        let valid : AreHeads t.last (g ∷ runs) = subst (AreHeads t.last) are t.valid in
        absurd (none g (flat_map head_spelling runs) valid.0 (t.spelled
        ∙ ap (λ (hs : List Head). flat_map head_spelling hs) are))
