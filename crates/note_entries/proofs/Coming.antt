-- One entry more, and what is kept of them all.
use Rattle.std.proofs.Common.{◌≡◌, ℕ, ◌<◌, ◌≤◌, ◌↔◌, inl, inr, List, [], ◌∷◌, ◌++◌, Contains, refl, sym, subst, ◌∙◌, arith}
use Rattle.std.specs.Prelude.{Result, Ok, Err, IfOk, OnOk}
use Rattle.std.proofs.lemmas.Bool.{cases_eq}
use Rattle.std.proofs.lemmas.List.Elements.{Contains-append_left, Contains-push}
use Rattle.note_laws.specs.Note.{Entries, Saying, Claim, IsLeastClaim}
use Rattle.note_laws.specs.Chains.{AreBranches, IsLeastBranch}
use Rattle.note_laws.specs.Laws.{AreToldApart}
use Rattle.note_laws.proofs.Choosing.{are_branches}
use Rattle.note_entries.specs.declared.branches.Said.{Said}
use Rattle.note_entries.specs.declared.branches.Said.TheVariants as said
use Rattle.note_entries.specs.declared.holders.Claimed.{Claimed}
use Rattle.note_entries.specs.declared.holders.Claimed.TheVariants as claimed
use Rattle.note_entries.specs.Branches.{Says, IsPutSaying}
use Rattle.note_entries.specs.Claims.{Claims, IsPutClaim}
use Rattle.note_entries.specs.Kept.{AreKeptOf, no_entries, with_claim, with_saying}
use Rattle.note_entries.proofs.Least.{AreLeast, Ranked, least_with, of_none, still_least}

-- claims of one number
abbrev pub AreOfOne : Claim → Claim → Type 0
AreOfOne c d = c.site ≡ d.site

pub of_one : Ranked AreOfOne
of_one = record {
  reflexive = λ a. refl;
  symmetric = λ a b is. sym is;
  transitive = λ a b c p q. p ∙ q;
  decided = λ a b. cases_eq a.site b.site;
}

pub beside : Ranked AreBranches
beside = record {
  reflexive = λ a. record { author = refl; text = refl; site = refl; seq = refl; before = refl };
  symmetric = λ a b is. record {
    author = sym is.author;
    text = sym is.text;
    site = sym is.site;
    seq = sym is.seq;
    before = sym is.before;
  };
  transitive = λ a b c p q. record {
    author = p.author ∙ q.author;
    text = p.text ∙ q.text;
    site = p.site ∙ q.site;
    seq = p.seq ∙ q.seq;
    before = p.before ∙ q.before;
  };
  decided = are_branches;
}

abbrev pub rank_of : Claim → ℕ
rank_of c = c.rank

abbrev pub hash_of : Saying → ℕ
hash_of s = s.hash

-- the definition's words for these
pub least_claims : (all kept : List Claim) → ((c : Claim) → Contains kept c ↔ IsLeastClaim all c)
    → AreLeast AreOfOne rank_of of_one all kept
least_claims all kept are c = (
  λ held. let is = (are c).0 held in (is.made, is.least),
  λ is. (are c).1 (record { made = is.0; least = is.1 }),
)

pub to_least_claims : (all kept : List Claim) → AreLeast AreOfOne rank_of of_one all kept
    → (c : Claim) → Contains kept c ↔ IsLeastClaim all c
to_least_claims all kept are c = (
  λ held. let is = (are c).0 held in record { made = is.0; least = is.1 },
  λ is. (are c).1 (is.made, is.least),
)

pub least_said : (all kept : List Saying) → ((s : Saying) → Contains kept s ↔ IsLeastBranch all s)
    → AreLeast AreBranches hash_of beside all kept
least_said all kept are s = (
  λ held. let is = (are s).0 held in (is.made, is.least),
  λ is. (are s).1 (record { made = is.0; least = is.1 }),
)

pub to_least_said : (all kept : List Saying) → AreLeast AreBranches hash_of beside all kept
    → (s : Saying) → Contains kept s ↔ IsLeastBranch all s
to_least_said all kept are s = (
  λ held. let is = (are s).0 held in record { made = is.0; least = is.1 },
  λ is. (are s).1 (is.made, is.least),
)

pub kept_none : AreKeptOf no_entries no_entries
kept_none = record {
  claims = λ c. (λ held. absurd (of_none c held), λ is. absurd (of_none c is.made));
  said = λ s. (λ held. absurd (of_none s held), λ is. absurd (of_none s is.made));
}

module _ (entries : Entries) (claim : Claim) (told : AreToldApart (with_claim entries claim)) (old new : List Claim)
    (are : AreLeast AreOfOne rank_of of_one entries.claims old) where
  abbrev All : List Claim
  All = entries.claims ++ claim ∷ []

  put_least : IsPutClaim old claim new → ((k : Claim) → Contains old k → claim.site ≡ k.site → claim.rank < k.rank)
      → AreLeast AreOfOne rank_of of_one All new
  put_least put less = least_with AreOfOne rank_of of_one entries.claims old new claim are less put

  -- below the one that is kept it is below each of its number
  below_kept : (kept : Claim) → Contains old kept → kept.site ≡ claim.site → claim.rank < kept.rank → (k : Claim)
      → Contains old k → claim.site ≡ k.site → claim.rank < k.rank
  below_kept kept held on less k held' on' =
      let at_most = ((are kept).0 held).1 k ((are k).0 held').0 (on ∙ on') in
      omega arith

  pub least_with_claim : (c : Claimed) → Claims old claim c new → AreLeast AreOfOne rank_of of_one All new
  least_with_claim claimed.Same (inl ((kept, held, on, le), same)) =
      subst (AreLeast AreOfOne rank_of of_one All) (sym same)
      (still_least AreOfOne rank_of of_one entries.claims old claim kept are held (sym on) le (λ made equal.
      let author = told.ranks claim kept (Contains-push entries.claims claim)
      (Contains-append_left entries.claims (claim ∷ []) kept made) (sym equal) in
      λ i. record { author = author i; site = sym on i; rank = sym equal i }))
  least_with_claim claimed.Same (inr ((kept, held, on, (less, by)), put)) = put_least put (below_kept kept held on less)
  least_with_claim claimed.First (none, put) =
      put_least put (λ k held on. absurd (none k held (sym on)))
  least_with_claim claimed.Other ((kept, held, on, (less, by)), put) = put_least put (below_kept kept held on less)

module _ (entries : Entries) (s : Saying) (told : AreToldApart (with_saying entries s)) (old new : List Saying)
    (are : AreLeast AreBranches hash_of beside entries.said old) where
  abbrev Messages : List Saying
  Messages = entries.said ++ s ∷ []

  put_said : IsPutSaying old s new → ((k : Saying) → Contains old k → AreBranches s k → s.hash < k.hash)
      → AreLeast AreBranches hash_of beside Messages new
  put_said put less = least_with AreBranches hash_of beside entries.said old new s are less put

  still_said : (kept : Saying) → Contains old kept → AreBranches s kept → kept.hash ≤ s.hash → new ≡ old
      → AreLeast AreBranches hash_of beside Messages new
  still_said kept held on le same =
      subst (AreLeast AreBranches hash_of beside Messages) (sym same)
      (still_least AreBranches hash_of beside entries.said old s kept are held on le (λ made equal.
      told.hashes s kept (Contains-push entries.said s) (Contains-append_left entries.said (s ∷ []) kept made) (sym equal)))

  pub least_with_saying : (r : Said) → Says old s r new → AreLeast AreBranches hash_of beside Messages new
  least_with_saying said.Repeat ((kept, held, on, equal), same) = still_said kept held on (omega arith) same
  least_with_saying said.Greater ((kept, held, on, less), same) = still_said kept held on (omega arith) same
  least_with_saying said.First (none, put) = put_said put (λ k held on. absurd (none k held on))
  least_with_saying said.Lesser ((kept, held, on, less), put) =
      put_said put (λ k held' on'.
      let at_most = ((are kept).0 held).1 k ((are k).0 held').0
      (beside.transitive kept s k (beside.symmetric s kept on) on') in
      omega arith)

pub kept_with_claim : (entries : Entries) (claim : Claim) (c : Claimed) (old new : Entries)
    → AreToldApart (with_claim entries claim) → AreKeptOf entries old → Claims old.claims claim c new.claims
    → new.said ≡ old.said → AreKeptOf (with_claim entries claim) new
kept_with_claim entries claim c old new told are claims same = record {
  claims = to_least_claims _ _ (least_with_claim entries claim told old.claims new.claims
      (least_claims entries.claims old.claims are.claims) c claims);
  said = λ s. subst (λ (kept : List Saying). Contains kept s ↔ IsLeastBranch entries.said s) (sym same) (are.said s);
}

pub kept_with_saying : (entries : Entries) (s : Saying) (r : Said) (old new : Entries)
    → AreToldApart (with_saying entries s) → AreKeptOf entries old → Says old.said s r new.said
    → new.claims ≡ old.claims → AreKeptOf (with_saying entries s) new
kept_with_saying entries s r old new told are says same = record {
  claims = λ c. subst (λ (kept : List Claim). Contains kept c ↔ IsLeastClaim entries.claims c) (sym same) (are.claims c);
  said = to_least_said _ _ (least_with_saying entries s told old.said new.said
      (least_said entries.said old.said are.said) r says);
}

-- where it isn't refused
pub on_claim : {E : Type 0} (r : Result Claimed E) (claim : Claim) (old new : Entries)
    → IfOk r (λ c. Claims old.claims claim c new.claims) → new.said ≡ old.said
    → OnOk r ((entries : Entries) → AreToldApart (with_claim entries claim) → AreKeptOf entries old
    → AreKeptOf (with_claim entries claim) new)
on_claim (Ok c) claim old new claims same = λ entries told are. kept_with_claim entries claim c old new told are claims same
on_claim (Err e) claim old new claims same = tt

pub on_saying : {E : Type 0} (r : Result Said E) (s : Saying) (old new : Entries)
    → IfOk r (λ a. Says old.said s a new.said) → new.claims ≡ old.claims
    → OnOk r ((entries : Entries) → AreToldApart (with_saying entries s) → AreKeptOf entries old
    → AreKeptOf (with_saying entries s) new)
on_saying (Ok a) s old new says same = λ entries told are. kept_with_saying entries s a old new told are says same
on_saying (Err e) s old new says same = tt
