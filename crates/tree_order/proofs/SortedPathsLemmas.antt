-- Characters that are sorted by their paths.
use Rattle.std.proofs.Common.{◌≡◌, ◌≢◌, ◌⊎◌, ◌↔◌, ℕ, ◌+◌, ◌-◌, ◌<◌, ◌≤◌, inl, inr, List, ◌∷◌, ◌++◌, []}
use Rattle.std.proofs.Common.{length, get_or, take, drop, map, insert, sym, ap, subst, ◌∙◌, AllPairs}
use Rattle.std.proofs.Common.{Contains, arith}
use Rattle.std.proofs.lemmas.Bool.{cases_eq, cases_lt}
use Rattle.std.proofs.lemmas.List.{get_or-map, length-map, map-append, take-map, drop-map}
use Rattle.std.proofs.lemmas.List.Elements.{All-append, All-cons, All-take, All-drop, Contains-append_left}
use Rattle.std.proofs.lemmas.List.Elements.{Contains-push, Contains-push_cases}
use Rattle.char_files.specs.CharName.{CharName}
use Rattle.operations.specs.NameSet.{IsIn}
use Rattle.operations.specs.Operation.{Operation, Inserts}
use Rattle.tree_order.specs.declared.path_order.Path.{Path}
use Rattle.tree_order.specs.Good.{Good}
use Rattle.tree_order.specs.Tree.{IsChar, IsPath}
use Rattle.tree_order.specs.Order.{Before}
use Rattle.tree_order.specs.SortedPaths.{names_of_paths, AreSortedPaths, Gains}
use Rattle.operations.proofs.WithName.{same_name}
use Rattle.tree_order.proofs.Before.{Before-total}
use Rattle.tree_order.proofs.LastLemmas.{take_one_more}
use Rattle.tree_order.proofs.Sorted.{Contains-insert}

-- the character of a path
pub names_of_paths-at : (paths : List Path) (n : ℕ) (path : Path) (d : CharName) → n < length paths
    → path ≡ get_or paths n path → get_or (names_of_paths paths) n d ≡ path.of
names_of_paths-at paths n path d lt is = get_or-map (λ (p : Path). p.of) paths n path d lt
    ∙ ap (λ (p : Path). p.of) (sym is)

-- a sorted character has its path
pub IsPath-at : (ops : List Operation) (paths : List Path) → AreSortedPaths ops paths
    → (n : ℕ) (path : Path) → n < length paths → path ≡ get_or paths n path
    → IsPath ops path.of path.names.items
IsPath-at ops paths paths_are n path lt is =
    subst (λ (p : Path). IsPath ops p.of p.names.items) (sym is) (paths_are.own n path lt)

-- and is among the sorted ones
pub Contains-at : (paths : List Path) (n : ℕ) (path : Path) → n < length paths → path ≡ get_or paths n path
    → Contains (names_of_paths paths) path.of
Contains-at paths n path lt is =
    (n, omega (arith, length-map paths (λ (p : Path). p.of)), names_of_paths-at paths n path path.of lt is)

-- of two characters that differ, the one that isn't before the other is after it
pub other_before : (ops : List Operation) → Good ops → (c d : CharName) → IsChar ops c → IsChar ops d
    → c ≢ d → ¬ Before ops c d → Before ops d c
other_before ops good c d is is' apart not_before =
    elim (Before-total ops good c d is is') [
      | inl e ↦ absurd (apart e)
      | inr either ↦ elim either
          [ inl b ↦ absurd (not_before b) | inr b ↦ b ]
    ]

-- what holds of the characters of the first n paths, and of the next
pub paths_more : (P : CharName → Type 0) (paths : List Path) (n : ℕ) (path : Path) → n < length paths
    → path ≡ get_or paths n path → ((k : ℕ) (d : CharName) → k < n → P (get_or (names_of_paths paths) k d))
    → P path.of → (k : ℕ) (d : CharName) → k < n + 1 → P (get_or (names_of_paths paths) k d)
paths_more P paths n path lt is so_far here k d less =
    elim (cases_lt k n) [
      | inl below ↦ so_far k d below
      | inr ge ↦
          let at : n ≡ k = omega arith in
          subst (λ (i : ℕ). P (get_or (names_of_paths paths) i d))
          at (subst P (sym (names_of_paths-at paths n path d lt is)) here)
    ]

names_of_paths-insert : (paths : List Path) (i : ℕ) (path : Path) → names_of_paths (insert paths i path)
    ≡ insert (names_of_paths paths) i path.of
names_of_paths-insert paths i path =
    let of : Path → CharName = λ p. p.of in
    let rest : List Path = drop i paths in
    map-append of (take i paths) (path ∷ rest)
    ∙ ap (λ (xs : List CharName). xs ++ path.of ∷ map of rest) (sym (take-map of i paths))
    ∙ ap (λ (xs : List CharName). take i (map of paths) ++ path.of ∷ xs) (sym (drop-map of i paths))

-- one more path where it belongs
pub AreSortedPaths-insert : (ops : List Operation) (paths : List Path) (i : ℕ) (path : Path)
    → AreSortedPaths ops paths → IsPath ops path.of path.names.items
    → AllPairs (Before ops) (insert (names_of_paths paths) i path.of)
    → AreSortedPaths ops (insert paths i path)
AreSortedPaths-insert ops paths i path paths_are is sorted =
    let P : Path → Type 0 = λ p. IsPath ops p.of p.names.items in record {
      own = All-append P (take i paths) (path ∷ drop i paths) (All-take P i paths paths_are.own)
          (All-cons P path (drop i paths) is (All-drop P i paths paths_are.own));
      sorted = rw (names_of_paths-insert paths i path) sorted;
    }

pub gains_one : (paths : List Path) (i : ℕ) (path : Path)
    → Gains (names_of_paths paths) (names_of_paths (insert paths i path)) (λ c. c ≡ path.of)
gains_one paths i path c =
    rw (names_of_paths-insert paths i path) (Contains-insert (names_of_paths paths) i path.of c)

-- one more name of a stretch
in_stretch_more : (site at off : ℕ) (c : CharName) → at ≤ off → IsIn (record {
  site = site;
  at = at;
  len =
      off + 1 - at;
}) c → IsIn (record { site = site; at = at; len = off - at }) c ⊎ (c ≡ record {
  site =
      site;
  off = off;
})
in_stretch_more site at off c le h =
    elim (cases_eq c.off off) [
      | inl here ↦ inr (same_name c (record { site = site; off = off }) h.0 here)
      | inr other ↦ inl (h.0, h.1, omega (arith, h.2))
    ]

-- what one more name of the stretch gains
pub gains_next : (old so_far new : List CharName) (site at off : ℕ) → at ≤ off
    → Gains old so_far (IsIn (record { site = site; at = at; len = off - at }))
    → Gains so_far new (λ c. c ≡ record { site = site; off = off })
    → Gains old new (IsIn (record { site = site; at = at; len = off + 1 - at }))
gains_next old so_far new site at off le first next c = (
  λ h. elim ((next c).0 h) [
    | inl k ↦ elim ((first c).0 k) [ inl m ↦ inl m | inr m ↦ inr (m.0, m.1, omega (arith, m.2)) ]
    | inr e ↦ inr (
      ap (λ (d : CharName). d.site) e,
      omega (arith, ap (λ (d : CharName). d.off) e),
      omega
          (arith, ap (λ (d : CharName). d.off) e),
    )
  ],
  λ h. elim h [
    | inl k ↦ (next c).1 (inl ((first c).1 (inl k)))
    | inr k ↦ elim (in_stretch_more site at off c le k) [
      | inl m ↦ (next c).1 (inl ((first c).1 (inr m)))
      | inr e ↦ (next c).1 (inr e)
    ]
  ],
)

-- what is gained may be told in other words
pub gains_as : (old new : List CharName) (These Those : CharName → Type 0)
    → ((c : CharName) → These c ↔ Those c) → Gains old new These → Gains old new Those
gains_as old new These Those same gains c = (
  λ h. elim ((gains c).0 h) [ inl k ↦ inl k | inr k ↦ inr ((same c).0 k) ],
  λ h. (gains c).1 (elim h [ inl k ↦ inl k | inr k ↦ inr ((same c).1 k) ]),
)

-- the characters with one more operation
pub IsChar-push : (ops : List Operation) (op : Operation) (c : CharName)
    → IsChar (ops ++ op ∷ []) c ↔ (IsChar ops c ⊎ Inserts op c)
IsChar-push ops op c = (
  λ (i, is). elim (Contains-push_cases ops op i is.held) [
    | inl held ↦ inl (i, record { held = held; inserts = is.inserts })
    | inr e ↦ inr (subst (λ (o : Operation). Inserts o c) (sym e) is.inserts)
  ],
  λ h. elim h [
    | inl (i, is) ↦ (i, record { held = Contains-append_left ops (op ∷ []) i is.held; inserts = is.inserts })
    | inr inserts ↦ (op, record { held = Contains-push ops op; inserts = inserts })
  ],
)

-- with what one more operation inserts, the sorted characters are those of one more
pub each_more : (ops : List Operation) (n : ℕ) (op : Operation) (old new : List CharName) → n < length ops
    → op ≡ get_or ops n op → ((c : CharName) → Contains old c ↔ IsChar (take n ops) c)
    → Gains old new (Inserts op) → (c : CharName) → Contains new c ↔ IsChar (take (n + 1) ops) c
each_more ops n op old new lt is each gains c =
    let more : take (n + 1) ops ≡ take n ops ++ op ∷ [] = take_one_more ops n op lt is in
    let pushed = IsChar-push (take n ops) op c in
    rw more (
      λ h. pushed.1 (elim ((gains c).0 h) [ inl k ↦ inl ((each c).0 k) | inr k ↦ inr k ]),
      λ h. (gains c).1 (elim (pushed.0 h) [ inl k ↦ inl ((each c).1 k) | inr k ↦ inr k ]),
    )
