-- A file that was replaced, and one that wasn't.
use Rattle.std.proofs.Common.{◌≡◌, ◌≢◌, ◌⊎◌, inl, inr, ℕ, ◌≤◌, true, List, refl, sym, ◌∙◌, ap, subst, arith}
use Rattle.std.specs.Prelude.{Option, None, Some, Result, Ok, Err, OnErr, OnOk}
use Rattle.std.specs.Option.{option_map}
use Rattle.std.specs.IoError.{error_kind}
use Rattle.std.specs.declared.io.Error.{Error}
use Rattle.std.specs.declared.io.ErrorKind.TheVariants.{OutOfMemory}
use Rattle.looks.specs.declared.refusal.Refusal.{Refusal}
use Rattle.looks.specs.declared.refusal.Refusal.TheVariants.{OutOfMemory as Refused}
use Rattle.folder_shelf.specs.Calls.{Fails, MakesFile, NoFault, Perhaps, Removes, Same, SyncsFolder, Well}
use Rattle.folder_shelf.specs.Moments.{Among, Anything, Content, CrashLeaves, File, Goes, History, Moment, Names, Plain, Since, Special, Survives, lasting, mode_of, seen}
use Rattle.folder_shelf.specs.Whole.{BeforeOrAfter, GivenUp, IsBeside, IsHindered, IsPlacedWhole, MakesBeside, MakesFor, Placing, Replaced}
use Rattle.folder_shelf.proofs.Leading.{since_call, since_since, since_weaker}
use Rattle.folder_shelf.proofs.Reading.{fails_after}
use Rattle.folder_shelf.proofs.Replacing.{PlacingFails, before_or_after_made, before_or_after_placing, content_other, made_mode, made_seen, placing_removes, placing_same, placing_synced, survives_other}

module _ (beside : List ℕ) (file : ℕ) (name bytes : List ℕ) (is_beside : IsBeside beside) (not_beside : ¬ IsBeside name) where
  differs : beside ≢ name
  differs e = not_beside (subst (λ (n : List ℕ). IsBeside n) e is_beside)

  -- the folder is synced, after the file was placed
  module _ (a m z n : Moment) (makes : MakesFile beside file a m) (placed : IsPlacedWhole file beside name bytes m z) (syncs : SyncsFolder z n) where
    name_file : n.names name ≡ Some file
    name_file = ap (λ (names : Names). names name) syncs.names ∙ (placed.here ∙ makes.here)

    whole : (n.files file).content ≡ Plain bytes
    whole = ap (λ (files : ℕ → File). (files file).content) syncs.files ∙ placed.whole.content makes.content

    whole_synced : (n.files file).synced ≡ true
    whole_synced = ap (λ (files : ℕ → File). (files file).synced) syncs.files ∙ placed.whole.synced

    here_left : (found : Option Content) → CrashLeaves n name found → found ≡ Some (Plain bytes)
    here_left found (left, inl e, survives) =
        let s = subst (λ (l : Option ℕ). Survives n.files l found) (e ∙ name_file) survives in
        s.1 ∙ ap (λ (c : Content). Some c) (s.2 whole_synced ∙ whole)
    here_left found (left, inr among, survives) = absurd (subst (λ (l : List Names). Among l name left) syncs.kept among)

    shows : seen n name ≡ Some (Plain bytes)
    shows = ap (λ (left : Option ℕ). option_map (λ k. (n.files k).content) left) name_file ∙ ap (λ (c : Content). Some c) whole

    gone : (other : List ℕ) → other ≡ beside → n.names other ≡ a.names other
    gone other e =
        ap n.names e ∙ (ap (λ (names : Names). names beside) syncs.names ∙ (placed.gone differs ∙ (sym makes.absent ∙ sym (ap a.names e))))

    stays : (other : List ℕ) → z.names other ≡ m.names other → n.names other ≡ a.names other
    stays other same = elim (makes.others other) [
      | inl e ↦ gone other e
      | inr before ↦ ap (λ (names : Names). names other) syncs.names ∙ (same ∙ before)
    ]

    other_names : (other : List ℕ) → other ≢ name → n.names other ≡ a.names other
    other_names other d = elim (placed.others other) [
      | inl e ↦ gone other e
      | inr (inl e) ↦ absurd (d e)
      | inr (inr same) ↦ stays other same
    ]

    other_files : (other : List ℕ) (left : Option ℕ) → Among (lasting a) other left → (k : ℕ) → left ≡ Some k → n.files k ≡ a.files k
    other_files other left among k is =
        let d : k ≢ file = λ e. makes.fresh other (subst (λ (l : Option ℕ). Among (lasting a) other l) (is ∙ ap (λ (j : ℕ). Some j) e) among) in
        ap (λ (files : ℕ → File). files k) syncs.files ∙ (placed.placing.files k d ∙ makes.files k d)

    same_seen : (other : List ℕ) → other ≢ name → seen n other ≡ seen a other
    same_seen other d =
        ap (λ (left : Option ℕ). option_map (λ k. (n.files k).content) left) (other_names other d)
        ∙ content_other a.files n.files (a.names other) (other_files other (a.names other) (inl refl))

    others_leave : (other : List ℕ) → other ≢ name → (found : Option Content) → CrashLeaves n other found → CrashLeaves a other found
    others_leave other d found (left, inl e, survives) = (
      a.names other,
      inl refl,
      survives_other a.files n.files (a.names other) found (other_files other (a.names other) (inl refl))
          (subst (λ (l : Option ℕ). Survives n.files l found) (e ∙ other_names other d) survives),
    )
    others_leave other d found (left, inr among, survives) = absurd (subst (λ (l : List Names). Among l other left) syncs.kept among)

    not_made : name ≡ beside → ⊥
    not_made e = differs (sym e)

    has_mode : (before : ℕ) → mode_of a name ≡ Some before → mode_of n name ≡ Some before
    has_mode before is =
        ap (λ (left : Option ℕ). option_map (λ k. (n.files k).mode) left) name_file
        ∙ ap (λ (x : ℕ). Some x) (ap (λ (files : ℕ → File). (files file).mode) syncs.files
        ∙ placed.whole.mode before (made_mode beside file a m makes name not_made ∙ is))

    was_plain : seen a name ≢ Some Special
    was_plain is = placed.whole.plain (made_seen beside file a m makes name not_made ∙ is)

    is_replaced : NoFault a m → NoFault z n → Replaced name bytes a n
    is_replaced first last = record { shows = shows; leaves = here_left; mode = has_mode; plain = was_plain; others_show = same_seen; others_leave = others_leave; no_fault = last ∙ (placed.no_fault ∙ first) }

  -- a file was made, and then this was so
  pub record AfterMaking (Last : Moment → Moment → Type 0) (a z : Moment) : Type 0 where
    pub mid : Moment
    pub made : MakesFor name beside file a mid
    pub no_fault : NoFault a mid
    pub last : Last mid z

  pub made_and : (Last : Moment → Moment → Type 0) (h0 h1 h2 : Option History) → Since (MakesBeside name) (Well (MakesFor name beside file)) h0 h1
      → Since (Placing file beside name bytes) Last h1 h2 → Since (BeforeOrAfter name bytes) (AfterMaking Last) h0 h2
  made_and Last h0 h1 h2 x y =
      since_since (MakesBeside name) (Well (MakesFor name beside file)) (Placing file beside name bytes) Last (BeforeOrAfter name bytes) (AfterMaking Last)
      (λ a n made. before_or_after_made name bytes a n not_beside made)
      (λ a m n made placing. before_or_after_placing beside file name bytes a m n is_beside not_beside made.0 placing)
      (λ a m n made last. record { mid = m; made = made.0; no_fault = made.1; last = last })
      h0 h1 h2 x y

  placing_perhaps : (m z n : Moment) → Placing file beside name bytes m z → Same z n ⊎ SyncsFolder z n → Placing file beside name bytes m n
  placing_perhaps m z n placing (inl same) = placing_same file beside name bytes m z n placing same
  placing_perhaps m z n placing (inr syncs) = placing_synced file beside name bytes m z n placing syncs

  pub folder_synced : (h0 h2 h3 : Option History) → Since (BeforeOrAfter name bytes) (AfterMaking (IsPlacedWhole file beside name bytes)) h0 h2
      → Goes (Well SyncsFolder) h2 h3 → Since (BeforeOrAfter name bytes) (Replaced name bytes) h0 h3
  folder_synced h0 h2 h3 x y =
      since_since (BeforeOrAfter name bytes) (AfterMaking (IsPlacedWhole file beside name bytes)) SyncsFolder (Well SyncsFolder) (BeforeOrAfter name bytes) (Replaced name bytes)
      (λ a n p. p)
      (λ a z n put syncs. before_or_after_placing beside file name bytes a put.mid n is_beside not_beside put.made
      (placing_synced file beside name bytes put.mid z n put.last.placing syncs))
      (λ a z n put syncs. is_replaced a put.mid z n put.made.makes put.last syncs.0 put.no_fault syncs.1)
      h0 h2 h3 x (since_call (Well SyncsFolder) SyncsFolder (Well SyncsFolder) (λ m n s. s.0) (λ m n s. s) h2 h3 y)

  fails_given_up : (error : Error) (a n : Moment) → Fails error a n → GivenUp error a n
  fails_given_up error a n (inl memory) = inr (inl memory.0)
  fails_given_up error a n (inr fault) = inl fault.1

  either_same : (m n : Moment) → Same m n ⊎ Same m n → Same m n
  either_same m n (inl same) = same
  either_same m n (inr same) = same

  pub folder_not_synced : (error : Error) (h0 h2 h3 : Option History) → Since (BeforeOrAfter name bytes) (AfterMaking (IsPlacedWhole file beside name bytes)) h0 h2
      → Goes (Perhaps error Same) h2 h3 → Since (BeforeOrAfter name bytes) (GivenUp error) h0 h3
  folder_not_synced error h0 h2 h3 x y =
      since_since (BeforeOrAfter name bytes) (AfterMaking (IsPlacedWhole file beside name bytes)) Same (Perhaps error Same) (BeforeOrAfter name bytes) (GivenUp error)
      (λ a n p. p)
      (λ a z n put same. before_or_after_placing beside file name bytes a put.mid n is_beside not_beside put.made
      (placing_same file beside name bytes put.mid z n put.last.placing same))
      (λ a z n put fails. fails_given_up error a n (fails_after error a z n (put.last.no_fault ∙ put.no_fault) fails.1))
      h0 h2 h3 x (since_call (Perhaps error Same) Same (Perhaps error Same) (λ m n s. either_same m n s.0) (λ m n s. s) h2 h3 y)

  -- the new file is removed, or it isn't; no failure is forgotten
  record Removal (z n : Moment) : Type 0 where
    what : Same z n ⊎ Removes beside z n
    later : z.faults ≤ n.faults

  placing_removal : (m z n : Moment) → Placing file beside name bytes m z → Same z n ⊎ Removes beside z n → Placing file beside name bytes m n
  placing_removal m z n placing (inl same) = placing_same file beside name bytes m z n placing same
  placing_removal m z n placing (inr removes) = placing_removes file beside name bytes m z n placing removes

  given_up_still : (error : Error) (a m z n : Moment) → NoFault a m → z.faults ≤ n.faults → Fails error m z → GivenUp error a n
  given_up_still error a m z n none later (inl memory) = inr (inl memory.0)
  given_up_still error a m z n none later (inr fault) = inl (omega (arith, none, later, fault.1))

  cleared : (error : Error) (h0 h2 h3 : Option History) → Since (BeforeOrAfter name bytes) (AfterMaking (PlacingFails file beside name bytes error)) h0 h2
      → Since Removal Removal h2 h3 → Since (BeforeOrAfter name bytes) (GivenUp error) h0 h3
  cleared error h0 h2 h3 x y =
      since_since (BeforeOrAfter name bytes) (AfterMaking (PlacingFails file beside name bytes error)) Removal Removal (BeforeOrAfter name bytes) (GivenUp error)
      (λ a n p. p)
      (λ a z n put removal. before_or_after_placing beside file name bytes a put.mid n is_beside not_beside put.made
      (placing_removal put.mid z n put.last.0 removal.what))
      (λ a z n put removal. given_up_still error a put.mid z n put.no_fault removal.later put.last.1)
      h0 h2 h3 x y

  removed : (b : List ℕ) → b ≡ beside → (h2 h3 : Option History) → Goes (Well (Removes b)) h2 h3 → Since Removal Removal h2 h3
  removed b is h2 h3 y =
      let step : Goes (Well (Removes beside)) h2 h3 = subst (λ (n : List ℕ). Goes (Well (Removes n)) h2 h3) is y in
      let removal = λ (m n : Moment) (s : Well (Removes beside) m n). removal_well m n s in
      since_call (Well (Removes beside)) Removal Removal removal removal h2 h3 step
    where
      removal_well : (m n : Moment) → Well (Removes beside) m n → Removal m n
      removal_well m n s = record { what = inr s.0; later = omega (arith, s.1) }

  not_removed : (why : Error) (b : List ℕ) → b ≡ beside → (h2 h3 : Option History) → Goes (Perhaps why (Removes b)) h2 h3 → Since Removal Removal h2 h3
  not_removed why b is h2 h3 y =
      let step : Goes (Perhaps why (Removes beside)) h2 h3 = subst (λ (n : List ℕ). Goes (Perhaps why (Removes n)) h2 h3) is y in
      since_call (Perhaps why (Removes beside)) Removal Removal removal_perhaps removal_perhaps h2 h3 step
    where
      rises : (m n : Moment) → Fails why m n → m.faults ≤ n.faults
      rises m n (inl memory) = omega (arith, memory.1)
      rises m n (inr fault) = omega (arith, fault.1)

      removal_perhaps : (m n : Moment) → Perhaps why (Removes beside) m n → Removal m n
      removal_perhaps m n s = record { what = s.0; later = rises m n s.1 }

  pub cleared_well : (error : Error) (b : List ℕ) → b ≡ beside → (h0 h2 h3 : Option History)
      → Since (BeforeOrAfter name bytes) (AfterMaking (PlacingFails file beside name bytes error)) h0 h2
      → Goes (Well (Removes b)) h2 h3 → Since (BeforeOrAfter name bytes) (GivenUp error) h0 h3
  cleared_well error b is h0 h2 h3 x y = cleared error h0 h2 h3 x (removed b is h2 h3 y)

  pub cleared_not : (error why : Error) (b : List ℕ) → b ≡ beside → (h0 h2 h3 : Option History)
      → Since (BeforeOrAfter name bytes) (AfterMaking (PlacingFails file beside name bytes error)) h0 h2
      → Goes (Perhaps why (Removes b)) h2 h3 → Since (BeforeOrAfter name bytes) (GivenUp error) h0 h3
  cleared_not error why b is h0 h2 h3 x y = cleared error h0 h2 h3 x (not_removed why b is h2 h3 y)

-- what is said of a whole call, clause by clause
pub each_moment : (name bytes : List ℕ) (Last : Moment → Moment → Type 0) (h0 h1 : Option History)
    → Since (BeforeOrAfter name bytes) Last h0 h1 → Since (BeforeOrAfter name bytes) Anything h0 h1
each_moment name bytes Last = since_weaker (BeforeOrAfter name bytes) Last (BeforeOrAfter name bytes) Anything (λ a n p. p) (λ a n l. tt)

pub at_last : (name bytes : List ℕ) (Last : Moment → Moment → Type 0) (h0 h1 : Option History)
    → Since (BeforeOrAfter name bytes) Last h0 h1 → Since Anything Last h0 h1
at_last name bytes Last = since_weaker (BeforeOrAfter name bytes) Last Anything Last (λ a n p. tt) (λ a n l. l)

pub not_begun : (name bytes : List ℕ) (error : Error) (h0 h1 : Option History) → (¬ IsBeside name)
    → Since (MakesBeside name) (GivenUp error) h0 h1 → Since (BeforeOrAfter name bytes) (GivenUp error) h0 h1
not_begun name bytes error h0 h1 not_beside =
    since_weaker (MakesBeside name) (GivenUp error) (BeforeOrAfter name bytes) (GivenUp error)
    (λ a n made. before_or_after_made name bytes a n not_beside made) (λ a n l. l) h0 h1

-- however a call ended
pub either_way : {T E : Type 0} (X : Type 0) (result : Result T E) → OnOk result X → OnErr result X → X
either_way X (Ok value) ok err = ok
either_way X (Err error) ok err = err

-- a replacing was given up for want of memory, or for what happened in the folder
pub hindered_or_short : (Each : Moment → Moment → Type 0) (refusal : Refusal) (error : Error) (h0 h1 : Option History)
    → (error_kind error ≡ OutOfMemory → refusal ≡ Refused) → Since Each (GivenUp error) h0 h1
    → (Some refusal ≡ Some Refused) ⊎ Since Each IsHindered h0 h1
hindered_or_short Each refusal error None None memory since = inr tt
hindered_or_short Each refusal error None (Some new) memory since = absurd since
hindered_or_short Each refusal error (Some old) None memory since = absurd since
hindered_or_short Each refusal error (Some old) (Some new) memory since =
    let hindered : IsHindered old.now new.now → Since Each IsHindered (Some old) (Some new) =
    λ last. record { since = since.since; later = since.later; each = since.each; last = last } in
    elim since.last [
      | inl fault ↦ inr (hindered (inl fault))
      | inr (inl short) ↦ inl (ap (λ (r : Refusal). Some r) (memory short))
      | inr (inr taken) ↦ inr (hindered (inr (taken.1, taken.2, taken.3)))
    ]
