-- What is so of a range's last name is so of all its names: that they are here, and that a stamp is above their Inserts'.
use Rattle.std.proofs.Common.{◌≡◌, ℕ, ◌+◌, ◌-◌, ◌<◌, ◌≤◌, ◌↔◌, inl, inr, List, get_or, All, Contains}
use Rattle.std.proofs.Common.{refl, ap, ◌∙◌, arith}
use Rattle.std.proofs.lemmas.Bool.{cases_lt}
use Rattle.std.proofs.lemmas.List.Elements.{All-contains, Contains-get_or}
use Rattle.char_files.specs.CharName.{CharName}
use Rattle.operations.specs.NameSet.{Range, IsRange, IsIn, IsAmong}
use Rattle.operations.specs.Operation.{Operation}
use Rattle.tree_order.specs.Good.{Good}
use Rattle.set_laws.specs.Fronts.{file_len, IsHere}
use Rattle.set_laws.specs.Sets.{AreIdentified}
use Rattle.set_laws.proofs.Files.{here_is_char}
use Rattle.waiting_room.specs.Judged.{last_of, AreForeignHere, HasLowerInsert, HaveLowerInserts, IsMissing}
use Rattle.set_laws.proofs.Rising.{inserts_rise}

-- the last name is one of the range's
pub has_last : (names : List Range) (r : Range) → IsRange r → Contains names r → IsAmong names (last_of r)
has_last names r is (k, lt, at) =
    let some = is.2 in
    (k, r, lt, at, (refl, omega arith, omega arith))

-- no name of a range stands after the last one
not_after_last : (r : Range) (name : CharName) → IsIn r name → name.off ≤ r.at + (r.len - 1)
not_after_last r name is =
    let from = is.1 in
    let below = is.2 in
    omega arith

module _ (ops : List Operation) where
  -- a range's names are here where the last one is
  pub here_by_last : (r : Range) (name : CharName) → IsIn r name → IsHere ops (last_of r) → IsHere ops name
  here_by_last r name is here =
      let last : r.at + (r.len - 1) < file_len ops r.site = here in
      let len : file_len ops name.site ≡ file_len ops r.site = ap (file_len ops) is.0 in
      let le = not_after_last r name is in
      omega arith

  -- no range's last name is another site's that isn't here
  abbrev pub NoneMissing : ℕ → List Range → Type 0
  NoneMissing site names = All (λ r. ¬ IsMissing ops site (last_of r)) names

  -- so none of their names is
  pub foreign_by_last : (site : ℕ) (names : List Range) → NoneMissing site names
      → AreForeignHere ops site (IsAmong names)
  foreign_by_last site names none name (k, r, lt, at, is) apart =
      elim (cases_lt name.off (file_len ops name.site)) [
        | inl here ↦ here
        | inr past ↦ absurd (All-contains (λ r. ¬ IsMissing ops site (last_of r)) names r none (k, lt, at) (
          λ same. apart (is.0 ∙ same),
          λ here. let below = here_by_last r name is here in omega arith,
        ))
      ]

  module _ (good : Good ops) (known : AreIdentified ops) where
    -- a stamp is above those of a range's Inserts where it is above the last name's
    lower_by_last : (stamp : ℕ) (r : Range) (name : CharName) → IsIn r name → HasLowerInsert ops stamp (last_of r)
        → HasLowerInsert ops stamp name
    lower_by_last stamp r name is (here, (j, last, less)) =
        let there = here_by_last r name is here in
        let (i, first) = here_is_char ops good known name there in
        let rise = inserts_rise ops good name (last_of r) is.0 (not_after_last r name is) i j first last known in
        (there, (i, first, omega arith))

    -- so it is for a set
    pub all_lower_by_last : (stamp : ℕ) (names : List Range) → All IsRange names
        → All (λ r. HasLowerInsert ops stamp (last_of r)) names ↔ HaveLowerInserts ops stamp (IsAmong names)
    all_lower_by_last stamp names ranges = (
      λ all name m.
          let (k, r, lt, at, is) = m in
          lower_by_last stamp r name is
          (All-contains (λ r. HasLowerInsert ops stamp (last_of r)) names r all (k, lt, at)),
      λ have k d lt.
          have (last_of (get_or names k d))
          (has_last names (get_or names k d) (ranges k d lt) (Contains-get_or names k d lt)),
    )
