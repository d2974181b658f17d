-- How histories follow one another.
use Rattle.std.proofs.Common.{List, [], ◌∷◌, ◌++◌, refl, sym, ◌∙◌, ap, append_assoc}
use Rattle.std.specs.Prelude.{Option, Some, None}
use Rattle.std.specs.List.{AllByRecursion}
use Rattle.folder_shelf.specs.Moments.{Goes, History, Moment, Since, moments}

all_append : (P : Moment → Type 0) (xs ys : List Moment) → AllByRecursion P xs → AllByRecursion P ys → AllByRecursion P (xs ++ ys)
all_append P [] ys a b = b
all_append P (x ∷ xs) ys a b = (a.0, all_append P xs ys a.1 b)

all_weaker : (P Q : Moment → Type 0) → ((m : Moment) → P m → Q m) → (xs : List Moment) → AllByRecursion P xs → AllByRecursion Q xs
all_weaker P Q f [] a = tt
all_weaker P Q f (x ∷ xs) a = (f x a.0, all_weaker P Q f xs a.1)

-- nothing has happened yet
pub since_start : (Each Last : Moment → Moment → Type 0) → ((m : Moment) → Last m m) → (h : Option History) → Since Each Last h h
since_start Each Last start None = tt
since_start Each Last start (Some h) = record { since = []; later = refl; each = tt; last = start h.now }

-- one call
pub since_call : (step Each Last : Moment → Moment → Type 0)
    → ((m n : Moment) → step m n → Each m n) → ((m n : Moment) → step m n → Last m n)
    → (old new : Option History) → Goes step old new → Since Each Last old new
since_call step Each Last each last None None goes = tt
since_call step Each Last each last None (Some new) goes = absurd goes
since_call step Each Last each last (Some old) None goes = absurd goes
since_call step Each Last each last (Some old) (Some new) goes = record {
  since = new.now ∷ [];
  later = ap (λ (past : List Moment). new.now ∷ past) goes.past;
  each = (each old.now new.now goes.next, tt);
  last = last old.now new.now goes.next;
}

-- what two clauses say of one call
pub goes_both : (A B Both : Moment → Moment → Type 0) → ((m n : Moment) → A m n → B m n → Both m n)
    → (old new : Option History) → Goes A old new → Goes B old new → Goes Both old new
goes_both A B Both both None None a b = tt
goes_both A B Both both None (Some new) a b = absurd a
goes_both A B Both both (Some old) None a b = absurd a
goes_both A B Both both (Some old) (Some new) a b = record { past = a.past; next = both old.now new.now a.next b.next }

-- what is said less
pub since_weaker : (E L Each Last : Moment → Moment → Type 0)
    → ((a s : Moment) → E a s → Each a s) → ((a s : Moment) → L a s → Last a s)
    → (old new : Option History) → Since E L old new → Since Each Last old new
since_weaker E L Each Last each last None None since = tt
since_weaker E L Each Last each last None (Some new) since = absurd since
since_weaker E L Each Last each last (Some old) None since = absurd since
since_weaker E L Each Last each last (Some old) (Some new) since = record {
  since = since.since;
  later = since.later;
  each = all_weaker (E old.now) (Each old.now) (each old.now) since.since since.each;
  last = last old.now new.now since.last;
}

-- one part after another
pub since_since : (E L E' L' Each Last : Moment → Moment → Type 0)
    → ((a s : Moment) → E a s → Each a s)
    → ((a m s : Moment) → L a m → E' m s → Each a s)
    → ((a m s : Moment) → L a m → L' m s → Last a s)
    → (first mid last : Option History) → Since E L first mid → Since E' L' mid last → Since Each Last first last
since_since E L E' L' Each Last early late end None None None a b = tt
since_since E L E' L' Each Last early late end None None (Some last) a b = absurd b
since_since E L E' L' Each Last early late end None (Some mid) last a b = absurd a
since_since E L E' L' Each Last early late end (Some first) None last a b = absurd a
since_since E L E' L' Each Last early late end (Some first) (Some mid) None a b = absurd b
since_since E L E' L' Each Last early late end (Some first) (Some mid) (Some last) a b = record {
  since = b.since ++ a.since;
  later = b.later ∙ (ap (λ (ms : List Moment). b.since ++ ms) a.later ∙ sym (append_assoc b.since a.since (moments first)));
  each = all_append (Each first.now) b.since a.since
      (all_weaker (E' mid.now) (Each first.now) (λ s e. late first.now mid.now s a.last e) b.since b.each)
      (all_weaker (E first.now) (Each first.now) (early first.now) a.since a.each);
  last = end first.now mid.now last.now a.last b.last;
}
