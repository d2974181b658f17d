-- Characters as maximal runs of equal looks.
use Rattle.std.proofs.Common.{◌≡◌, ◌≢◌, ℕ, ℤ, Bool, true, false, cond, List, [], ◌∷◌, ◌++◌, refl, sym, ap}
use Rattle.std.proofs.Common.{◌∙◌}
use Rattle.std.specs.Bool.{Decides}
use Rattle.std.specs.Prelude.{bytes_eq, ◌==◌, ◌&&◌}
use Rattle.std.specs.Ordering.{int_eq}
use Rattle.std.proofs.lemmas.Bool.Decides.{Decides-like, Decides-and, Decides-eqb, Decides-int_eq}
use Rattle.std.proofs.lemmas.Bool.Decides.{not_from_Decides}
use Rattle.std.proofs.lemmas.Slice.Eq.{bytes_eq-Decides}
use Rattle.looks.specs.declared.looks.Looks.{Looks}
use Rattle.char_files.specs.Stretch.{Stretch, Item, items_of, items_of_run, AreRuns}
use Rattle.char_files.specs.Runs.{same_looks, alone, grown, joined, maximal_runs}

same_parts : (a b : Looks) → a.font ≡ b.font → a.colour ≡ b.colour → a.offset ≡ b.offset → a ≡ b
same_parts a b font colour offset =
    let made : List ℕ → ℕ → ℤ → Looks = λ f c o. record { font = f; colour = c; offset = o } in
    ap (λ (f : List ℕ). made f a.colour a.offset) font ∙ ap (λ (c : ℕ). made b.font c a.offset) colour
    ∙ ap (λ (o : ℤ). made b.font b.colour o) offset

pub same_looks_decides : (a b : Looks) → Decides (same_looks a b) (a ≡ b)
same_looks_decides a b =
    let font : Decides (bytes_eq a.font b.font) (a.font ≡ b.font) = bytes_eq-Decides a.font b.font in
    let colour : Decides (a.colour == b.colour) (a.colour ≡ b.colour) = Decides-eqb a.colour b.colour in
    let offset : Decides (int_eq a.offset b.offset) (a.offset ≡ b.offset) =
    Decides-int_eq a.offset b.offset in
    let two : Decides (bytes_eq a.font b.font && a.colour == b.colour)
    ((a.font ≡ b.font) × (a.colour ≡ b.colour)) =
    Decides-and (bytes_eq a.font b.font) (a.colour == b.colour) font colour in
    let three = Decides-and (bytes_eq a.font b.font && a.colour == b.colour) (int_eq a.offset b.offset) two
    offset in
    let whole : ((a.font ≡ b.font) × (a.colour ≡ b.colour)) × (a.offset ≡ b.offset) → a ≡ b =
    λ h. same_parts a b h.0.0 h.0.1 h.1 in
    let each : a ≡ b → ((a.font ≡ b.font) × (a.colour ≡ b.colour)) × (a.offset ≡ b.offset) =
    λ e. (
      (ap (λ (l : Looks). l.font) e, ap (λ (l : Looks). l.colour) e),
      ap (λ (l : Looks). l.offset) e,
    ) in
    Decides-like (same_looks a b) whole each three

-- ---- the runs have the characters

joined_items : (c : Item) (runs : List Stretch) → items_of (joined c runs) ≡ c ∷ items_of runs
joined_items c [] = refl
joined_items c (r ∷ runs) = go (same_looks c.1 r.looks) (same_looks_decides c.1 r.looks)
  where
    go : (b : Bool) → Decides b (c.1 ≡ r.looks)
        → items_of (cond b (grown c.0 r ∷ runs) (alone c ∷ r ∷ runs)) ≡ c ∷ items_of (r ∷ runs)
    go true d =
        let first : Looks → Item = λ l. (c.0, l) in
        ap (λ (l : Looks). first l ∷ items_of (r ∷ runs)) (sym (d.0 refl))
    go false d = refl

pub maximal_items : (items : List Item) → items_of (maximal_runs items) ≡ items
maximal_items [] = refl
maximal_items (c ∷ items) =
    joined_items c (maximal_runs items) ∙ ap (λ (more : List Item). c ∷ more) (maximal_items items)

-- ---- they can't be joined

grown_runs : (b : ℕ) (r : Stretch) (runs : List Stretch) → AreRuns (r ∷ runs) → AreRuns (grown b r ∷ runs)
grown_runs b r [] h = λ e. cc
grown_runs b r (s ∷ runs) h = (λ e. cc, h.1, h.2)

joined_runs : (c : Item) (runs : List Stretch) → AreRuns runs → AreRuns (joined c runs)
joined_runs c [] h = λ e. cc
joined_runs c (r ∷ runs) h = go (same_looks c.1 r.looks) (same_looks_decides c.1 r.looks)
  where
    go : (b : Bool) → Decides b (c.1 ≡ r.looks) → AreRuns (cond b (grown c.0 r ∷ runs) (alone c ∷ r ∷ runs))
    go true d = grown_runs c.0 r runs h
    go false d = (λ e. cc, not_from_Decides false d refl, h)

pub maximal_are_runs : (items : List Item) → AreRuns (maximal_runs items)
maximal_are_runs [] = tt
maximal_are_runs (c ∷ items) = joined_runs c (maximal_runs items) (maximal_are_runs items)

-- ---- there are no others

-- the first of these runs has other looks
abbrev Apart : Looks → List Stretch → Type 0
Apart looks [] = Unit {0}
Apart looks (r ∷ runs) = looks ≢ r.looks

joined_apart : (c : Item) (runs : List Stretch) → Apart c.1 runs → joined c runs ≡ alone c ∷ runs
joined_apart c [] apart = refl
joined_apart c (r ∷ runs) apart = go (same_looks c.1 r.looks) (same_looks_decides c.1 r.looks)
  where
    go : (b : Bool) → Decides b (c.1 ≡ r.looks)
        → cond b (grown c.0 r ∷ runs) (alone c ∷ r ∷ runs) ≡ alone c ∷ r ∷ runs
    go true d = absurd (apart (d.0 refl))
    go false d = refl

joined_same : (b : ℕ) (r : Stretch) (runs : List Stretch)
    → joined (b, r.looks) (r ∷ runs) ≡ grown b r ∷ runs
joined_same b r runs = go (same_looks r.looks r.looks) (same_looks_decides r.looks r.looks)
  where
    go : (test : Bool) → Decides test (r.looks ≡ r.looks)
        → cond test (grown b r ∷ runs) (alone (b, r.looks) ∷ r ∷ runs) ≡ grown b r ∷ runs
    go true d = refl
    go false d = let e = d.1 refl in absurd cc

-- a run of these looks
abbrev stretch : Looks → List ℕ → Stretch
stretch looks bytes = record { looks = looks; bytes = bytes }

run_again : (b : ℕ) (bs : List ℕ) (looks : Looks) (runs : List Stretch) (items : List Item)
    → maximal_runs items ≡ runs → Apart looks runs
    → maximal_runs (items_of_run (stretch looks (b ∷ bs)) ++ items) ≡ stretch looks (b ∷ bs) ∷ runs
run_again b [] looks runs items e apart =
    let first : Item = (b, looks) in ap (joined first) e ∙ joined_apart first runs apart
run_again b (d ∷ bs) looks runs items e apart =
    let first : Item = (b, looks) in
    ap (joined first) (run_again d bs looks runs items e apart) ∙ joined_same b (stretch looks (d ∷ bs)) runs

one_run_again : (looks : Looks) (bytes : List ℕ) (runs : List Stretch) → bytes ≢ [] → Apart looks runs
    → maximal_runs (items_of runs) ≡ runs
    → maximal_runs (items_of (stretch looks bytes ∷ runs)) ≡ stretch looks bytes ∷ runs
one_run_again looks [] runs some apart e = absurd (some refl)
one_run_again looks (b ∷ bs) runs some apart e = run_again b bs looks runs (items_of runs) e apart

pub runs_again : (runs : List Stretch) → AreRuns runs → maximal_runs (items_of runs) ≡ runs
runs_again [] h = refl
runs_again (r ∷ []) h = one_run_again r.looks r.bytes [] h tt refl
runs_again (r ∷ s ∷ runs) h = one_run_again r.looks r.bytes (s ∷ runs) h.0 h.1 (runs_again (s ∷ runs) h.2)
