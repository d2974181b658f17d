-- What is admitted where no chain has a next message that counts.
use Rattle.std.proofs.Common.{◌≡◌, ℕ, ◌+◌, ◌-◌, ◌^◌, ◌<◌, ◌≤◌, ◌⊎◌, inl, inr, List, [], ◌++◌, length, Contains, refl, sym, ap, subst, ◌∙◌, arith}
use Rattle.std.proofs.lemmas.List.{append-nil}
use Rattle.note_laws.specs.Note.{Note, Entries, Saying}
use Rattle.note_laws.specs.Admission.{CountInTurn, IsAdmissible}
use Rattle.note_admission.specs.declared.text_admission.Unsettled.{Unsettled}
use Rattle.note_admission.specs.declared.text_admission.Unsettled.TheVariants.{Nothing, One, Any}
use Rattle.note_admission.specs.Growing.{AreAdmitted, AreOfNote, AreTaken, AdmissionGrows, LogGoesOn, HasCome, MayCount, TakesNone, TakesOn, TextSeen}
use Rattle.note_admission.specs.Kept.{IsKeptOf}
use Rattle.note_admission.proofs.Expecting.{holds_there}
use Rattle.note_admission.proofs.Growth.{goes_on_longer, none_more}

-- whether any may count
abbrev pub doubts : Unsettled → ℕ
doubts Nothing = 0
doubts (One site) = 1
doubts Any = 1

pub doubts_some : (x : Unsettled) → (x ≡ Nothing → ⊥) → doubts x ≡ 1
doubts_some Nothing some = absurd (some refl)
doubts_some (One site) some = refl
doubts_some Any some = refl

doubts_few : (x : Unsettled) → doubts x ≤ 1
doubts_few Nothing = omega arith
doubts_few (One site) = omega arith
doubts_few Any = omega arith

-- a round that settles nothing admits some
pub rounds_fall : (old new : TextSeen) → doubts old.unsettled ≡ 1 → LogGoesOn old new
    → (new.unsettled ≡ Nothing) ⊎ (length old.ops < length new.ops × length old.ops < 2 ^ 64)
    → (2 ^ 64 - length new.ops) + doubts new.unsettled < (2 ^ 64 - length old.ops) + doubts old.unsettled
rounds_fall old new some goes (inl nothing) =
    let longer = goes_on_longer old new goes in
    let none : doubts new.unsettled ≡ 0 = ap doubts nothing in
    omega arith
rounds_fall old new some goes (inr more) =
    let longer = goes_on_longer old new goes in
    let few = doubts_few new.unsettled in
    let (lt, bound) = more in
    omega arith

-- two states of one text with the same log and tables
pub record AreAlike (a b : TextSeen) : Type 0 where
  pub text : b.text ≡ a.text
  pub ops : b.ops ≡ a.ops
  pub kept : b.kept ≡ a.kept

pub taken_alike : (note : Note) (entries : Entries) (a b : TextSeen) (admitted : List Saying) → AreAlike a b
    → AreTaken note entries a admitted → AreTaken note entries b admitted
taken_alike note entries a b admitted alike taken = record {
  in_turn = subst (λ (n : ℕ). CountInTurn note entries n admitted) (sym alike.text) taken.in_turn;
  logged = taken.logged ∙ sym alike.ops;
  tables = subst (IsKeptOf note admitted) (sym alike.kept) taken.tables;
}

module _ (digest : List ℕ → ℕ) (of : Note → Entries → Type 0) (t v u w : TextSeen) (before : AreAlike t v)
    (after : AreAlike u w) (text : u.text ≡ t.text) (sites : w.sites ≡ t.sites) where
  known_still : (note : Note) (entries : Entries) (admitted : List Saying) → AreAdmitted note entries t admitted
      → (s : Saying) → HasCome note entries s → s.op.text ≡ w.text → Contains w.sites s.op.site
  known_still note entries admitted is s there on =
      subst (λ (xs : List ℕ). Contains xs s.op.site) (sym sites) (is.known s there (on ∙ (after.text ∙ text)))

  -- while any may count
  pub grows_on : TakesOn digest of v u → w.unsettled ≡ Any → AdmissionGrows digest of t w
  grows_on takes any note entries admitted given is =
      let (more, taken) = takes note entries admitted given (taken_alike note entries t v admitted before is.taken) in (
        more,
        record {
          taken = taken_alike note entries u w (admitted ++ more) after taken;
          known = known_still note entries admitted is;
          rest = λ s counts. subst (λ (x : Unsettled). MayCount x s.op.site) (sym any) tt;
        },
      )

  -- none counts any more
  pub grows_whole : TakesOn digest of v u → length u.ops ≡ length t.ops
      → ((note : Note) (entries : Entries) (admitted : List Saying) → AreOfNote note entries digest of
      → AreAdmitted note entries t admitted → (s : Saying) → IsAdmissible note entries t.text admitted s → ⊥)
      → AdmissionGrows digest of t w
  grows_whole takes same none note entries admitted given is =
      let taken' = taken_alike note entries t v admitted before is.taken in
      let (more, taken) = takes note entries admitted given taken' in
      let longer : length u.ops ≡ length v.ops = same ∙ ap length (sym before.ops) in
      let nothing : more ≡ [] = none_more note entries v u admitted taken' (text ∙ sym before.text) more taken longer in
      let whole : admitted ++ more ≡ admitted =
      ap (λ (xs : List Saying). admitted ++ xs) nothing ∙ append-nil admitted in (
        more,
        record {
          taken = taken_alike note entries u w (admitted ++ more) after taken;
          known = known_still note entries admitted is;
          rest = λ s counts. absurd (none note entries admitted given is s
              (subst (λ (n : ℕ). IsAdmissible note entries n admitted s) (after.text ∙ text)
              (subst (λ (xs : List Saying). IsAdmissible note entries w.text xs s) whole counts)));
        },
      )

  -- none of one number, beside which none counted
  pub one_asked : (site : ℕ) → t.unsettled ≡ One site → TakesNone digest of v site → (note : Note) (entries : Entries)
      (admitted : List Saying) → AreOfNote note entries digest of → AreAdmitted note entries t admitted → (s : Saying)
      → IsAdmissible note entries t.text admitted s → ⊥
  one_asked site one none note entries admitted given is s counts =
      let on : s.op.site ≡ site = subst (λ (x : Unsettled). MayCount x s.op.site) one (is.rest s counts) in
      none note entries admitted given (taken_alike note entries t v admitted before is.taken) s on
      (subst (λ (n : ℕ). IsAdmissible note entries n admitted s) (sym before.text) counts)

  -- none of those that have messages
  pub all_asked : ((site : ℕ) → Contains t.sites site → TakesNone digest of v site) → (note : Note) (entries : Entries)
      (admitted : List Saying) → AreOfNote note entries digest of → AreAdmitted note entries t admitted → (s : Saying)
      → IsAdmissible note entries t.text admitted s → ⊥
  all_asked none note entries admitted given is s counts =
      none s.op.site (is.known s (holds_there note entries s counts.0.holds) counts.0.of_text) note entries admitted given
      (taken_alike note entries t v admitted before is.taken) s refl
      (subst (λ (n : ℕ). IsAdmissible note entries n admitted s) (sym before.text) counts)
