-- What waits for a cause still waits with more operations of a site that it doesn't hold back.
use Rattle.std.proofs.Common.{◌≡◌, ◌≢◌, ℕ, ◌<◌, inl, inr, List, ◌++◌, All, Contains}
use Rattle.std.proofs.Common.{sym, subst, ◌∙◌}
use Rattle.std.proofs.lemmas.Bool.{cases_eq}
use Rattle.std.proofs.lemmas.List.Elements.{All-contains, Contains-append_left, Contains-append_cases}
use Rattle.char_files.specs.CharName.{CharName}
use Rattle.operations.specs.Operation.{Operation, Mentions, Begins}
use Rattle.set_laws.specs.Fronts.{file_len, IsHere}
use Rattle.set_laws.specs.Verdict.{FollowsOn, HasVerdict, FitsFile, wait}
use Rattle.waiting_room.specs.Room.{StaysWaiting}
use Rattle.convergence.proofs.OtherSites.{same_file_len}
use Rattle.convergence.proofs.OwnOperations.{IsBy}
use Rattle.convergence.proofs.Unmentioned.{LeavesFree}

module _ (ops more : List Operation) (site : ℕ) (own : All (IsBy site) more) (op : Operation)
    (free : LeavesFree ops site op) where
  -- the new ones are the site's
  by_site : (x : Operation) → Contains more x → x.site ≡ site
  by_site x held = All-contains (IsBy site) more x own held

  -- what was held of another site, and no more
  old_if_other : (x : Operation) → x.site ≢ site → Contains (ops ++ more) x → Contains ops x
  old_if_other x apart held = elim (Contains-append_cases ops more x held) [
    | inl here ↦ here
    | inr new ↦ absurd (apart (by_site x new))
  ]

  -- the files of other sites are as long as before
  same_len : (other : ℕ) → other ≢ site → file_len (ops ++ more) other ≡ file_len ops other
  same_len other apart = same_file_len site other apart more own ops

  -- it follows on as before
  follows_before : FollowsOn (ops ++ more) op → FollowsOn ops op
  follows_before follows later =
      let (p, held, is) = follows later in
      (p, old_if_other p (λ on. free.apart (sym is.0 ∙ on)) held, is)

  -- and still
  follows_still : FollowsOn ops op → FollowsOn (ops ++ more) op
  follows_still follows later =
      let (p, held, is) = follows later in (p, Contains-append_left ops more p held, is)

  -- the names that it mentions are here as before
  here_before : (name : CharName) → Mentions op name → IsHere (ops ++ more) name → IsHere ops name
  here_before name m here = elim (cases_eq name.site site) [
    | inl on ↦ free.here name m on
    | inr apart ↦ subst (λ (n : ℕ). name.off < n) (same_len name.site apart) here
  ]

  -- it is placed still
  placed_still : FitsFile ops op → FitsFile (ops ++ more) op
  placed_still placed = record {
    begins = subst (Begins op.kind) (sym (same_len op.site free.apart)) placed.begins;
    own = λ name m on.
        subst (λ (n : ℕ). name.off < n) (sym (same_len name.site (λ at. free.apart (sym on ∙ at))))
        (placed.own name m on);
  }

  -- so it waits still
  waits_still : HasVerdict ops op wait → HasVerdict (ops ++ more) op wait
  waits_still (inl not) = inl (λ follows. not (follows_before follows))
  waits_still (inr (follows, placed, not)) = inr (
    follows_still follows,
    placed_still placed,
    λ foreign. not (λ name m apart. here_before name m (foreign name m apart)),
  )

  -- and its identity isn't held
  pub stays_still : StaysWaiting ops op → StaysWaiting (ops ++ more) op
  stays_still (new, waits) = (
    record {
      counted = new.counted;
      unheld = λ held.
          let (x, there, on, at) = held in
          new.unheld (x, old_if_other x (λ own. free.apart (sym on ∙ own)) there, on, at);
    },
    waits_still waits,
  )
