-- What the making of a file beside comes to.
use Rattle.std.proofs.Common.{◌≡◌, ◌≢◌, inl, inr, ℕ, ◌+◌, ◌<◌, List, ◌∷◌, refl, sym, ◌∙◌, ap, subst, arith}
use Rattle.std.specs.Prelude.{Option, None, Some}
use Rattle.std.specs.IoError.{error_kind}
use Rattle.std.specs.declared.io.Error.{Error}
use Rattle.std.specs.declared.io.ErrorKind.TheVariants.{AlreadyExists, OutOfMemory}
use Rattle.folder_shelf.specs.Calls.{Fails, IsMadeFor, MakesFile, MakesNot, NoFault, Same, Well}
use Rattle.folder_shelf.specs.Moments.{File, Goes, History, Moment, Names, Since}
use Rattle.folder_shelf.specs.Whole.{GivenUp, IsBeside, MakesBeside, MakesFor}
use Rattle.folder_shelf.proofs.Leading.{goes_both, since_call, since_since, since_weaker}
use Rattle.folder_shelf.proofs.Reading.{fails_after, same_here, same_same}
use Rattle.folder_shelf.proofs.Replacing.{lasting_same, mode_same, seen_same}

-- so many names were tried, each of which has a file
abbrev pub Tried : ℕ → Moment → Moment → Type 0
Tried number old now = Same old now × NoFault old now × (0 < number → (other : List ℕ) × IsBeside other × (old.names other ≢ None))

makes_after : (name : List ℕ) (file : ℕ) (a m n : Moment) → Same a m → MakesFile name file m n → MakesFile name file a n
makes_after name file a m n same makes = record {
  absent = sym (ap (λ (names : Names). names name) same.names) ∙ makes.absent;
  fresh = λ other among. makes.fresh other (lasting_same m a (sym same.names) (sym same.kept) other (Some file) among);
  here = makes.here;
  others = λ other. elim (makes.others other) [
    | inl e ↦ inl e
    | inr e ↦ inr (e ∙ ap (λ (names : Names). names other) same.names)
  ];
  kept = makes.kept ∙ (ap (λ (names : Names). names ∷ m.kept) same.names ∙ ap (λ (kept : List Names). a.names ∷ kept) same.kept);
  content = makes.content;
  files = λ other differs. makes.files other differs ∙ ap (λ (files : ℕ → File). files other) same.files;
}

makes_for_after : (target name : List ℕ) (file : ℕ) (a m n : Moment) → Same a m → MakesFile name file m n → IsMadeFor target file m n → MakesFor target name file a n
makes_for_after target name file a m n same makes is_for = record {
  makes = makes_after name file a m n same makes;
  is_for = record {
    private = λ there. is_for.private (λ none. there (sym (mode_same a m target same) ∙ none));
    plain = λ special. is_for.plain (seen_same a m target same ∙ special);
  };
}

pub made : (number : ℕ) (beside name target : List ℕ) (file : ℕ) (h0 h1 h2 : Option History) → name ≡ beside → IsBeside beside
    → Since Same (Tried number) h0 h1 → Goes (Well (MakesFile name file)) h1 h2 → Goes (IsMadeFor target file) h1 h2
    → Since (MakesBeside target) (Well (MakesFor target beside file)) h0 h2
made number beside name target file h0 h1 h2 is is_beside a b is_for =
    let named : Goes (Well (MakesFile beside file)) h1 h2 = subst (λ (n : List ℕ). Goes (Well (MakesFile n file)) h1 h2) is b in
    let step : Goes (Well (MakesFor target beside file)) h1 h2 =
    goes_both (Well (MakesFile beside file)) (IsMadeFor target file) (Well (MakesFor target beside file))
    (λ m n x y. (record { makes = x.0; is_for = y }, x.1)) h1 h2 named is_for in
    since_since Same (Tried number) (Well (MakesFor target beside file)) (Well (MakesFor target beside file)) (MakesBeside target) (Well (MakesFor target beside file))
    (λ m n same. inl same)
    (λ l m n x y. inr (beside, file, is_beside, makes_for_after target beside file l m n x.0 y.0.makes y.0.is_for))
    (λ l m n x y. (makes_for_after target beside file l m n x.0 y.0.makes y.0.is_for, y.1 ∙ x.1))
    h0 h1 h2 a (since_call (Well (MakesFor target beside file)) (Well (MakesFor target beside file)) (Well (MakesFor target beside file)) (λ m n s. s) (λ m n s. s) h1 h2 step)

module _ (error : Error) (beside name target : List ℕ) (is : name ≡ beside) (is_beside : IsBeside beside) where
  there_is : (m : Moment) → m.names name ≢ None → m.names beside ≢ None
  there_is m some none = some (ap m.names is ∙ none)

  beside_of : (a m n : Moment) → Same a m → MakesNot error name target m n → MakesBeside target a n
  beside_of a m n same (inl w) = inl (same_same a m n same w.2)
  beside_of a m n same (inr (other, inl w, fails)) = inl (same_same a m n same w)
  beside_of a m n same (inr (other, inr w, fails)) =
      inr (beside, w.0, is_beside, subst (λ (b : List ℕ). MakesFor target b w.0 a n) is (makes_for_after target name w.0 a m n same w.1 w.2))

  fails_given_up : (a n : Moment) → Fails error a n → GivenUp error a n
  fails_given_up a n (inl memory) = inr (inl memory.0)
  fails_given_up a n (inr fault) = inl fault.1

  given_up : (a m n : Moment) → Same a m → NoFault a m → MakesNot error name target m n → GivenUp error a n
  given_up a m n same none (inl w) = inr (inr (w.0, beside, is_beside, λ absent. there_is m w.1 (ap (λ (names : Names). names beside) same.names ∙ absent)))
  given_up a m n same none (inr w) = fails_given_up a n (fails_after error a m n none w.2)

  pub not_made : (number : ℕ) (h0 h1 h2 : Option History) → Since Same (Tried number) h0 h1 → Goes (MakesNot error name target) h1 h2
      → Since (MakesBeside target) (GivenUp error) h0 h2
  not_made number h0 h1 h2 a b =
      since_since Same (Tried number) (MakesNot error name target) (MakesNot error name target) (MakesBeside target) (GivenUp error)
      (λ m n same. inl same)
      (λ l m n x y. beside_of l m n x.0 y)
      (λ l m n x y. given_up l m n x.0 x.1 y)
      h0 h1 h2 a (since_call (MakesNot error name target) (MakesNot error name target) (MakesNot error name target) (λ m n s. s) (λ m n s. s) h1 h2 b)

  -- the name has a file, and nothing has changed
  is_taken : error_kind error ≡ AlreadyExists → (m n : Moment) → MakesNot error name target m n → (m.names name ≢ None) × Same m n × NoFault m n
  is_taken kind m n (inl w) = (w.1, w.2, w.3)
  is_taken kind m n (inr w) = absurd (w.0 kind)

  pub tried : error_kind error ≡ AlreadyExists → (number : ℕ) (h0 h1 h2 : Option History) → Since Same (Tried number) h0 h1 → Goes (MakesNot error name target) h1 h2
      → Since Same (Tried (number + 1)) h0 h2
  tried kind number h0 h1 h2 a b =
      since_since Same (Tried number) Same (MakesNot error name target) Same (Tried (number + 1))
      (λ m n same. same)
      (λ l m n x y. same_same l m n x.0 y)
      (λ l m n x y.
      let taken = is_taken kind m n y in
      (same_same l m n x.0 taken.1, taken.2 ∙ x.1, λ positive. (beside, is_beside, λ absent. there_is m taken.0 (ap (λ (names : Names). names beside) x.0.names ∙ absent))))
      h0 h1 h2 a (since_call (MakesNot error name target) Same (MakesNot error name target) (λ m n s. (is_taken kind m n s).1) (λ m n s. s) h1 h2 b)

-- nothing was tried yet
pub tried_none : (m : Moment) → Tried 0 m m
tried_none m = (same_here m, refl, λ positive. absurd (omega (arith, positive)))

-- memory for a name was refused
pub no_name : (error : Error) (number : ℕ) (target : List ℕ) (h0 h1 : Option History) → error_kind error ≡ OutOfMemory → Since Same (Tried number) h0 h1 → Since (MakesBeside target) (GivenUp error) h0 h1
no_name error number target h0 h1 kind =
    since_weaker Same (Tried number) (MakesBeside target) (GivenUp error) (λ m n same. inl same) (λ m n x. inr (inl kind)) h0 h1

-- all names were tried
pub all_tried : (error : Error) (number : ℕ) (target : List ℕ) (h0 h1 : Option History) → error_kind error ≡ AlreadyExists → 0 < number → Since Same (Tried number) h0 h1 → Since (MakesBeside target) (GivenUp error) h0 h1
all_tried error number target h0 h1 kind positive =
    since_weaker Same (Tried number) (MakesBeside target) (GivenUp error) (λ m n same. inl same) (λ m n x. let there = x.2 positive in inr (inr (kind, there.0, there.1, there.2))) h0 h1
