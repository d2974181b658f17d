-- What changes lead to.
use Rattle.std.proofs.Common.{◌≡◌, ℕ, zero, suc, ◌+◌, ◌<◌, ◌≤◌, List, [], ◌∷◌, ◌++◌, length, take, map, All, true}
use Rattle.std.proofs.Common.{sym, inl, inr, ap, subst, ◌∙◌, refl, arith, length-append, nat_lt}
use Rattle.std.proofs.lemmas.List.{take-append-le, map-append, length-map}
use Rattle.std.proofs.lemmas.List.Elements.{All-head, All-tail}
use borrow.Author.Tests.{ltb-true}
use Rattle.list_changes.specs.declared.change.ChangeKind.{ChangeKind}
use Rattle.list_changes.specs.declared.change.ChangeKind.TheVariants.{Insert, Delete, Replace}
use Rattle.list_changes.specs.declared.change.Change.{Change}
use Rattle.list_changes.specs.Changes.{AreAlike, IsOfKind, Trades, Makes, Leads}
use Rattle.list_changes.specs.Quiet.{is_quiet, is_change_after}
use Rattle.list_changes.specs.Laws.{AreComposed, HasBounds, IsInBounds, AreSameUpTo, KeepsUpTo, LeadBackByNone}

module _ {X : Type 0} (Alike : X → X → Type 0) where
  -- two lists of changes, one after the other
  pub leads-append : (first then : List Change) (a mid b : List X) → Leads Alike first a mid
      → Leads Alike then mid b → Leads Alike (first ++ then) a b
  leads-append [] then a mid b one two = subst (λ (l : List X). Leads Alike then l b) one two
  leads-append (change ∷ first) then a mid b (next, made, one) two =
      (next, made, leads-append first then next mid b one two)

  pub leads-parts : (first then : List Change) (a b : List X) → Leads Alike (first ++ then) a b
      → (mid : List X) × Leads Alike first a mid × Leads Alike then mid b
  leads-parts [] then a b both = (a, refl, both)
  leads-parts (change ∷ first) then a b (next, made, both) =
      let (mid, one, two) = leads-parts first then next b both in (mid, (next, made, one), two)

  pub composed : (first then : List Change) (a b : List X) → AreComposed Alike first then a b
  composed first then a b = (
    leads-parts first then a b,
    λ (mid, one, two). leads-append first then a mid b one two,
  )

  pub alike-length : (xs ys : List X) → AreAlike Alike xs ys → length ys ≡ length xs
  alike-length [] [] alike = refl
  alike-length [] (y ∷ ys) alike = absurd alike
  alike-length (x ∷ xs) [] alike = absurd alike
  alike-length (x ∷ xs) (y ∷ ys) (one, more) = ap suc (alike-length xs ys more)

  length-three : (xs ys zs : List X) → length (xs ++ (ys ++ zs)) ≡ length xs + (length ys + length zs)
  length-three xs ys zs = omega (arith, length-append xs (ys ++ zs), length-append ys zs)

  bounds : (kind : ChangeKind) (beg end : ℕ) (front gone come back : List X) → length front ≡ beg
      → Trades Alike kind beg end gone come
      → (beg ≤ end) × (IsInBounds kind beg end (length front + (length gone + length back))
      (length front + (length come + length back)))
  bounds Insert beg end front gone come back at (none, is) =
      let no : length gone ≡ 0 = ap length none in
      (omega (arith, is), (omega (arith, is, at), omega (arith, is, at, no)))
  bounds Delete beg end front gone come back at (none, is) =
      let no : length come ≡ 0 = ap length none in
      (omega (arith, is), (omega (arith, is, at), omega (arith, is, at, no)))
  bounds Replace beg end front gone come back at (alike, is) =
      let same : length come ≡ length gone = alike-length gone come alike in
      (omega (arith, is), (omega (arith, is, at), omega (arith, same)))

  pub within : (change : Change) (a b : List X) → Makes Alike change a b → HasBounds change a b
  within change a b made =
      let was : length a ≡ length made.front + (length made.gone + length made.back) =
      ap length made.before ∙ length-three made.front made.gone made.back in
      let now : length b ≡ length made.front + (length made.come + length made.back) =
      ap length made.after ∙ length-three made.front made.come made.back in
      let both = bounds change.kind change.beg change.end made.front made.gone made.come made.back made.at made.trades in
      record {
        rising = both.0;
        begins = omega (arith, was, made.at);
        bounds =
            subst (λ (n : ℕ). IsInBounds change.kind change.beg change.end n (length b)) (sym was)
            (subst (λ (m : ℕ). IsInBounds change.kind change.beg change.end
            (length made.front + (length made.gone + length made.back)) m) (sym now) both.1);
      }

map-three : {X Y : Type 0} (f : X → Y) (xs ys zs : List X)
    → map f (xs ++ (ys ++ zs)) ≡ map f xs ++ (map f ys ++ map f zs)
map-three {X} {Y} f xs ys zs =
    map-append f xs (ys ++ zs) ∙ ap (λ (l : List Y). map f xs ++ l) (map-append f ys zs)

-- each insert makes a list longer, each delete shorter
module _ {X : Type 0} (Alike : X → X → Type 0) where
  by-inserts : (changes : List Change) (a b : List X) → All (IsOfKind Insert) changes → Leads Alike changes a b
      → length a + length changes ≤ length b
  by-inserts [] a b all same = omega (arith, ap length same)
  by-inserts (change ∷ changes) a b all (mid, made, more) =
      let (kind, some) = All-head (IsOfKind Insert) change changes all in
      let bounds = subst (λ (k : ChangeKind). IsInBounds k change.beg change.end (length a) (length mid)) kind
      (within Alike change a mid made).bounds in
      omega (arith, bounds.1, some, by-inserts changes mid b (All-tail (IsOfKind Insert) change changes all) more)

  by-deletes : (changes : List Change) (a b : List X) → All (IsOfKind Delete) changes → Leads Alike changes a b
      → length b + length changes ≤ length a
  by-deletes [] a b all same = omega (arith, ap length same)
  by-deletes (change ∷ changes) a b all (mid, made, more) =
      let (kind, some) = All-head (IsOfKind Delete) change changes all in
      let bounds = subst (λ (k : ChangeKind). IsInBounds k change.beg change.end (length a) (length mid)) kind
      (within Alike change a mid made).bounds in
      omega (arith, bounds.1, some, by-deletes changes mid b (All-tail (IsOfKind Delete) change changes all) more)

  none-of : (changes : List Change) → length changes ≡ 0 → changes ≡ []
  none-of [] is = refl
  none-of (change ∷ changes) is = absurd (omega arith)

  pub lead-back-by-none : (changes : List Change) (a : List X) → LeadBackByNone Alike changes a
  lead-back-by-none changes a each leads = none-of changes (elim each [
    | inl inserts ↦ omega (arith, by-inserts changes a a inserts leads)
    | inr deletes ↦ omega (arith, by-deletes changes a a deletes leads)
  ])

module _ {X Y : Type 0} (Alike : X → X → Type 0) (f : X → Y) where
  pub alike-map : ((x y : X) → Alike x y → f y ≡ f x) → (xs ys : List X) → AreAlike Alike xs ys
      → map f ys ≡ map f xs
  alike-map agree [] [] alike = refl
  alike-map agree [] (y ∷ ys) alike = absurd alike
  alike-map agree (x ∷ xs) [] alike = absurd alike
  alike-map agree (x ∷ xs) (y ∷ ys) (one, more) =
      ap (λ (z : Y). z ∷ map f ys) (agree x y one) ∙ ap (λ (l : List Y). f x ∷ l) (alike-map agree xs ys more)

  take-map : (n : ℕ) (xs : List X) → map f (take n xs) ≡ take n (map f xs)
  take-map zero xs = refl
  take-map (suc n) [] = refl
  take-map (suc n) (x ∷ xs) = ap (λ (l : List Y). f x ∷ l) (take-map n xs)

  -- the front of a change that begins after the position reaches past it
  after : (last : ℕ) (front rest other a b : List X) → last < length front → a ≡ front ++ rest
      → b ≡ front ++ other → AreSameUpTo f last a b
  after last front rest other a b lt was now = record {
    reaches = omega (arith, lt, ap length now, length-append front other);
    same =
        ap (λ (l : List X). map f (take (suc last) l)) now
        ∙ ap (map f) (take-append-le (suc last) front other lt)
        ∙ sym (ap (map f) (take-append-le (suc last) front rest lt))
        ∙ sym (ap (λ (l : List X). map f (take (suc last) l)) was);
  }

  -- what f tells of a list is as before, where it is of what came in the place of what went
  told-alike : (front gone come back a b : List X) → map f come ≡ map f gone → a ≡ front ++ (gone ++ back)
      → b ≡ front ++ (come ++ back) → map f b ≡ map f a
  told-alike front gone come back a b alike was now =
      ap (map f) now ∙ map-three f front come back
      ∙ ap (λ (l : List Y). map f front ++ (l ++ map f back)) alike
      ∙ sym (map-three f front gone back) ∙ sym (ap (map f) was)

  -- replaces keep what f tells of a list
  pub replaces-keep : ((x y : X) → Alike x y → f y ≡ f x) → (changes : List Change) (a b : List X)
      → All (λ change. change.kind ≡ Replace) changes → Leads Alike changes a b → map f b ≡ map f a
  replaces-keep agree [] a b all same = ap (map f) same
  replaces-keep agree (change ∷ changes) a b all (mid, made, more) =
      let IsReplace : Change → Type 0 = λ (one : Change). one.kind ≡ Replace in
      let trades : Trades Alike Replace change.beg change.end made.gone made.come =
      subst (λ (kind : ChangeKind). Trades Alike kind change.beg change.end made.gone made.come)
      (All-head IsReplace change changes all) made.trades in
      replaces-keep agree changes mid b (All-tail IsReplace change changes all) more
      ∙ told-alike made.front made.gone made.come made.back a mid (alike-map agree made.gone made.come trades.0)
      made.before made.after

  replaced : (last : ℕ) (front gone come back a b : List X) → map f come ≡ map f gone → last < length a
      → a ≡ front ++ (gone ++ back) → b ≡ front ++ (come ++ back) → AreSameUpTo f last a b
  replaced last front gone come back a b alike lt was now =
      let all : map f b ≡ map f a = told-alike front gone come back a b alike was now in
      record {
        reaches = omega (arith, lt, ap length all, length-map a f, length-map b f);
        same = take-map (suc last) b ∙ ap (take (suc last)) all ∙ sym (take-map (suc last) a);
      }

  lt-of : (m n : ℕ) → nat_lt m n ≡ true → m < n
  lt-of m n h = ltb-true m n h

  pub quiet-one : ((x y : X) → Alike x y → f y ≡ f x) → (kind : ChangeKind) (last beg end : ℕ)
      (front gone come back a b : List X) → length front ≡ beg → is_change_after kind last beg ≡ true → last < length a
      → a ≡ front ++ (gone ++ back) → b ≡ front ++ (come ++ back) → Trades Alike kind beg end gone come
      → AreSameUpTo f last a b
  quiet-one agree Insert last beg end front gone come back a b at quiet lt was now trades =
      after last front (gone ++ back) (come ++ back) a b (omega (arith, lt-of last beg quiet, at)) was now
  quiet-one agree Delete last beg end front gone come back a b at quiet lt was now trades =
      after last front (gone ++ back) (come ++ back) a b (omega (arith, lt-of last beg quiet, at)) was now
  quiet-one agree Replace last beg end front gone come back a b at quiet lt was now trades =
      replaced last front gone come back a b (alike-map agree gone come trades.0) lt was now

  pub quiet-keeps : (changes : List Change) (last : ℕ) (a b : List X) → KeepsUpTo Alike f changes last a b
  quiet-keeps [] last a b agree lt quiet same = record {
    reaches = omega (arith, lt, ap length same);
    same = ap (λ (l : List X). map f (take (suc last) l)) same;
  }
  quiet-keeps (change ∷ changes) last a b agree lt quiet (mid, made, more) =
      let here : is_quiet last change ≡ true = quiet zero change (omega arith) in
      let one : AreSameUpTo f last a mid =
      quiet-one agree change.kind last change.beg change.end made.front made.gone made.come made.back a mid
      made.at here lt made.before made.after made.trades in
      let others : AreSameUpTo f last mid b =
      quiet-keeps changes last mid b agree one.reaches
      (λ k d lt. quiet (suc k) d (omega (arith, lt))) more in
      record { reaches = others.reaches; same = others.same ∙ one.same }

-- what changes make of a list they make of what f gives of its elements, where f keeps elements alike
module _ {X Y : Type 0} (Alike : X → X → Type 0) (AlikeToo : Y → Y → Type 0) (f : X → Y)
    (keeps : (x y : X) → Alike x y → AlikeToo (f x) (f y)) where
  alike-mapped : (xs ys : List X) → AreAlike Alike xs ys → AreAlike AlikeToo (map f xs) (map f ys)
  alike-mapped [] [] alike = tt
  alike-mapped [] (y ∷ ys) alike = absurd alike
  alike-mapped (x ∷ xs) [] alike = absurd alike
  alike-mapped (x ∷ xs) (y ∷ ys) (one, more) = (keeps x y one, alike-mapped xs ys more)

  trades-mapped : (kind : ChangeKind) (beg end : ℕ) (gone come : List X) → Trades Alike kind beg end gone come
      → Trades AlikeToo kind beg end (map f gone) (map f come)
  trades-mapped Insert beg end gone come (none, is) = (ap (map f) none, omega (arith, is, length-map come f))
  trades-mapped Delete beg end gone come (none, is) = (ap (map f) none, omega (arith, is, length-map gone f))
  trades-mapped Replace beg end gone come (alike, is) =
      (alike-mapped gone come alike, omega (arith, is, length-map gone f))

  makes-mapped : (change : Change) (a b : List X) → Makes Alike change a b
      → Makes AlikeToo change (map f a) (map f b)
  makes-mapped change a b made = record {
    front = map f made.front;
    gone = map f made.gone;
    come = map f made.come;
    back = map f made.back;
    before = ap (map f) made.before ∙ map-three f made.front made.gone made.back;
    after = ap (map f) made.after ∙ map-three f made.front made.come made.back;
    at = length-map made.front f ∙ made.at;
    trades = trades-mapped change.kind change.beg change.end made.gone made.come made.trades;
  }

  pub leads-mapped : (changes : List Change) (a b : List X) → Leads Alike changes a b
      → Leads AlikeToo changes (map f a) (map f b)
  leads-mapped [] a b same = ap (map f) same
  leads-mapped (change ∷ changes) a b (mid, made, more) =
      (map f mid, makes-mapped change a mid made, leads-mapped changes mid b more)
