-- What the tables of a log tell.
use Rattle.std.proofs.Common.{◌≡◌, ℕ, zero, suc, ◌-◌, ◌<◌, ◌≤◌, ◌↔◌, inl, inr, List, length}
use Rattle.std.proofs.Common.{Option, Some, None, Contains, slice_get, get_or, refl, sym, ap, subst, ◌∙◌, arith}
use Rattle.std.proofs.lemmas.Bool.{cases_lt, eqb-true}
use Rattle.std.proofs.lemmas.Map.Entries.{place_from_lookup}
use Rattle.std.proofs.lemmas.Option.{slice_get-get_or, slice_get-map, slice_get_past, slice_get_within}
use Rattle.std.specs.Map.{lookup}
use Rattle.std.specs.Prelude.{IfSome, IsSome, nat_eq}
use Rattle.std.specs.Option.{option_map, option_map_or}
use Rattle.std.specs.List.Sorted.{IsNonDecreasingBy}
use Rattle.char_files.specs.CharName.{CharName}
use Rattle.operations.specs.Operation.{Operation}
use Rattle.tree_order.specs.Good.{file_before}
use Rattle.tree_order.specs.Tree.{IsInsertOf}
use Rattle.tree_order.proofs.Files.{file_before_grows}
use Rattle.set_laws.specs.Fronts.{front_of, file_len, IsHeld}
use Rattle.set_laws.specs.Sets.{AreIdentified, AreHeldToTheFront}
use Rattle.set_laws.proofs.Covered.{from_span, one_insert}
use Rattle.set_laws.proofs.Lengths.{appended_by}
use Rattle.op_log.specs.declared.site_log.Entry.{Entry}
use Rattle.op_log.specs.Seen.{IsKnownIn}
use Rattle.op_log.specs.Tables.{SiteSeen, LogTables, log_table, entries_end, rooms_of, unknown, IsFirstPast}
use Rattle.op_log.specs.Logged.{IsEntryOf, IsTableOf, AreLogged}
use Rattle.op_log.proofs.Lists.{Contains-slice_get, slice_get-some}
use Rattle.op_log.proofs.Files.{within_front, starts_empty}

module _ {ops : List Operation} (known : AreIdentified ops) {site : ℕ} {t : SiteSeen}
    (table : IsTableOf ops site t) where
  -- an entry ends where the site's file does after its operation
  ends_at : (k : ℕ) (e : Entry) → slice_get t.entries k ≡ Some e
      → e.end ≡ file_before ops site (suc (suc k))
  ends_at k e is = (table.entries k e is).ends

  -- up to the front each seq is held
  held_up_to : (seq : ℕ) → 0 < seq → seq ≤ front_of ops site → IsHeld ops site seq
  held_up_to zero some le = absurd (omega arith)
  held_up_to (suc k) some le =
      let front = table.front in
      let (e, is) = slice_get-some t.entries k (omega arith) in
      let entry = table.entries k e is in
      (entry.op, Contains-slice_get ops e.index entry.op entry.there, entry.on, entry.at)

  held_to_front : (seq : ℕ) → IsHeld ops site seq ↔ (0 < seq) × (seq ≤ front_of ops site)
  held_to_front seq = (
    λ h. let (op, held, on, at) = h in
        let counted = known.counted op held in
        let le = within_front ops op site held on in
        (omega arith, omega arith),
    λ h. held_up_to seq h.0 h.1,
  )

  -- the last entry tells how long the file is
  ends_as_file : entries_end t.entries ≡ file_len ops site
  ends_as_file = by_length (length t.entries) refl
    where
      by_length : (n : ℕ) → length t.entries ≡ n → entries_end t.entries ≡ file_len ops site
      by_length zero is =
          let front = table.front in
          let none : slice_get t.entries (length t.entries - 1) ≡ None =
          slice_get_past t.entries (length t.entries - 1) (omega arith) in
          let at : front_of ops site ≡ 0 = omega arith in
          ap (λ o. option_map_or (λ (e : Entry). e.end) o 0) none ∙ sym (starts_empty ops known site)
          ∙ ap (λ (n : ℕ). file_before ops site (suc n)) (sym at)
      by_length (suc k) is =
          let front = table.front in
          let (e, there) = slice_get-some t.entries k (omega arith) in
          let last : length t.entries - 1 ≡ k = omega arith in
          let at : suc k ≡ front_of ops site = omega arith in
          ap (λ (i : ℕ). option_map_or (λ (e : Entry). e.end) (slice_get t.entries i) 0) last
          ∙ ap (λ o. option_map_or (λ (e : Entry). e.end) o 0) there
          ∙ ends_at k e there
          ∙ ap (λ (n : ℕ). file_before ops site (suc n)) at

  -- the ends rise
  ends_rise : IsNonDecreasingBy (λ (e : Entry). e.end) t.entries
  ends_rise i j d le lt =
      let first = ends_at i (get_or t.entries i d) (slice_get-get_or t.entries i d (omega arith)) in
      let last = ends_at j (get_or t.entries j d) (slice_get-get_or t.entries j d lt) in
      let grows = file_before_grows ops site (suc (suc i)) (suc (suc j)) (omega arith) in
      omega (arith, first, last, grows)

  -- after the entries before the first one past an offset, the file is no longer than that
  before_ends : (off : ℕ) (e : Entry) (first : IsFirstPast t.entries off e)
      → file_before ops site (suc first.at) ≤ off
  before_ends off e first = by_slot first.at refl
    where
      by_slot : (k : ℕ) → first.at ≡ k → file_before ops site (suc k) ≤ off
      by_slot zero is = let none = starts_empty ops known site in omega arith
      by_slot (suc k) is =
          let there : first.at < length t.entries = slice_get_within t.entries first.at e first.there in
          let (d, at) = slice_get-some t.entries k (omega arith) in
          let le : d.end ≤ off = first.before k d (omega arith) at in
          let ends = ends_at k d at in
          omega arith

-- what the tables tell of an identity: where its operation stands, or that none is held
abbrev pub Tells : List Operation → ℕ → ℕ → Option Entry → Type 0
Tells ops site seq (Some e) =
    (op : Operation) × (slice_get ops e.index ≡ Some op) × (op.site ≡ site) × (op.seq ≡ seq) × (e.stamp ≡ op.stamp)
Tells ops site seq None = IsHeld ops site seq → ⊥

pub told_here : (ops : List Operation) (site seq : ℕ) (told : Option Entry) → Tells ops site seq told
    → IsSome told ↔ IsHeld ops site seq
told_here ops site seq (Some e) (op, there, on, at, stamped) =
    (λ some. (op, Contains-slice_get ops e.index op there, on, at), λ held. refl)
told_here ops site seq None none = (λ some. absurd cc, λ held. absurd (none held))

pub told_value : (ops : List Operation) (site seq : ℕ) (told : Option Entry) → Tells ops site seq told
    → IfSome told (λ e. (op : Operation) × (slice_get ops e.index ≡ Some op) × (op.site ≡ site) × (op.seq ≡ seq)
    × (e.stamp ≡ op.stamp))
told_value ops site seq (Some e) told = told
told_value ops site seq None none = tt

module _ {ops : List Operation} {tables : LogTables} {stamp : ℕ} (logged : AreLogged ops tables stamp) where
  -- what was answered by a table tells where the operation stands
  pub entry_tells : (site seq : ℕ) {found told : Option Entry} → found ≡ told → (seq ≡ 0 → found ≡ None)
      → (0 < seq → found ≡ slice_get (log_table tables site).entries (seq - 1)) → Tells ops site seq told
  entry_tells site zero is none some =
      subst (Tells ops site 0) (sym (none refl) ∙ is) (λ h. let counted = logged.known.counted h.0 h.1 in
      let at = h.3 in omega arith)
  entry_tells site (suc k) {found} {told} is none some =
      let t = log_table tables site in
      let table = logged.by_site site in
      let front = table.front in
      let index : suc k - 1 ≡ k = omega arith in
      let by_entry : told ≡ slice_get t.entries k =
      sym is ∙ some (omega arith) ∙ ap (λ (i : ℕ). slice_get t.entries i) index in
      elim (cases_lt k (length t.entries)) [
        | inl within ↦
            let (e, there) = slice_get-some t.entries k within in
            let entry = table.entries k e there in
            subst (Tells ops site (suc k)) (sym (by_entry ∙ there))
            (entry.op, entry.there, entry.on, entry.at, entry.stamped)
        | inr past ↦
            subst (Tells ops site (suc k)) (sym (by_entry ∙ slice_get_past t.entries k past))
            (λ h. let (op, held, on, at) = h in
            let le = within_front ops op site held on in omega arith)
      ]

  pub lemma_are_held_to_the_front : AreHeldToTheFront ops
  lemma_are_held_to_the_front site seq = held_to_front logged.known (logged.by_site site) seq

  -- how long a site's file is
  pub file_told : (site : ℕ) → entries_end (log_table tables site).entries ≡ file_len ops site
  file_told site = ends_as_file logged.known (logged.by_site site)

  -- how long it is before an operation: where the one before that ends, if there is one
  end_before : (op : Operation) → Contains ops op → (less : ℕ) (found : Option Entry) → less ≡ op.seq - 1
      → (less ≡ 0 → found ≡ None) → (0 < less → found ≡ slice_get (log_table tables op.site).entries (less - 1))
      → option_map_or (λ e. e.end) found 0 ≡ file_before ops op.site op.seq
  end_before op held less found is none some = by_seq op.seq refl
    where
      by_seq : (n : ℕ) → op.seq ≡ n → option_map_or (λ e. e.end) found 0 ≡ file_before ops op.site n
      by_seq zero at = let counted = logged.known.counted op held in absurd (omega arith)
      by_seq (suc zero) at =
          ap (λ o. option_map_or (λ (e : Entry). e.end) o 0) (none (omega arith))
          ∙ sym (starts_empty ops logged.known op.site)
      by_seq (suc (suc k)) at =
          let t = log_table tables op.site in
          let table = logged.by_site op.site in
          let front = table.front in
          let le = within_front ops op op.site held refl in
          let (e, there) = slice_get-some t.entries k (omega arith) in
          let index : less - 1 ≡ k = omega arith in
          ap (λ o. option_map_or (λ (e : Entry). e.end) o 0)
          (some (omega arith) ∙ ap (λ (i : ℕ). slice_get t.entries i) index ∙ there)
          ∙ ends_at logged.known table k e there

  pub before_told : (place site seq less : ℕ) (found : Option Entry) (len : ℕ)
      → IfSome (slice_get ops place) (λ op. (site ≡ op.site) × (seq ≡ op.seq)) → less ≡ seq - 1
      → (less ≡ 0 → found ≡ None) → (0 < less → found ≡ slice_get (log_table tables site).entries (less - 1))
      → option_map_or (λ e. e.end) found 0 ≡ len
      → IfSome (slice_get ops place) (λ op. len ≡ file_before ops op.site op.seq)
  before_told place site seq less found len identity is none some told = by (slice_get ops place) refl identity
    where
      by : (o : Option Operation) → slice_get ops place ≡ o → IfSome o (λ op. (site ≡ op.site) × (seq ≡ op.seq))
          → IfSome o (λ op. len ≡ file_before ops op.site op.seq)
      by None at same = tt
      by (Some op) at (on, of) =
          sym told ∙ end_before op (Contains-slice_get ops place op at) less found (is ∙ ap (λ (n : ℕ). n - 1) of) none
          (subst (λ (s : ℕ). 0 < less → found ≡ slice_get (log_table tables s).entries (less - 1)) on some)

  -- each operation's site has a table
  pub site_known : (op : Operation) → Contains ops op → IsKnownIn (rooms_of tables) op.site
  site_known op held = by (lookup (nat_eq op.site) tables) refl
    where
      by : (o : Option SiteSeen) → lookup (nat_eq op.site) tables ≡ o → IsKnownIn (rooms_of tables) op.site
      by None is =
          let front = (logged.by_site op.site).front in
          let le = within_front ops op op.site held refl in
          let counted = logged.known.counted op held in
          let empty : length (log_table tables op.site).entries ≡ 0 =
          ap (λ o. length (option_map_or (λ (t : SiteSeen). t) o unknown).entries) is in
          absurd (omega arith)
      by (Some t) is =
          let (i, k, there, same) = place_from_lookup (nat_eq op.site) tables t is in (
            i,
            t.room,
            slice_get-map (λ (t : ℕ × SiteSeen). (t.0, t.1.room)) tables i
                ∙ ap (option_map (λ (t : ℕ × SiteSeen). (t.0, t.1.room))) there
                ∙ ap (λ (s : ℕ). Some (s, t.room)) (sym (eqb-true op.site k same)),
          )

  pub table_rises : (site : ℕ) → IsNonDecreasingBy (λ (e : Entry). e.end) (log_table tables site).entries
  table_rises site = ends_rise logged.known (logged.by_site site)

  module _ (name : CharName) {e : Entry}
      (first : IsFirstPast (log_table tables name.site).entries name.off e) where
    -- the entry that was found tells where an operation of the name's site stands
    pub entry : IsEntryOf ops name.site (suc first.at) e
    entry = (logged.by_site name.site).entries first.at e first.there

    held : Contains ops entry.op
    held = Contains-slice_get ops e.index entry.op entry.there

    from : file_before ops entry.op.site entry.op.seq ≤ name.off
    from =
        let le = before_ends logged.known (logged.by_site name.site) name.off e first in
        subst (λ (s : ℕ). file_before ops s entry.op.seq ≤ name.off) (sym entry.on)
        (subst (λ (n : ℕ). file_before ops name.site n ≤ name.off) (sym entry.at) le)

    to : name.off < file_before ops entry.op.site (suc entry.op.seq)
    to =
        let lt : name.off < file_before ops name.site (suc (suc first.at)) =
        let past = first.past in let ends = entry.ends in omega arith in
        subst (λ (s : ℕ). name.off < file_before ops s (suc entry.op.seq)) (sym entry.on)
        (subst (λ (n : ℕ). name.off < file_before ops name.site (suc n)) (sym entry.at) lt)

    -- the operation that the tables tell for a name is its Insert
    pub found_inserts : IsInsertOf ops name entry.op
    found_inserts = record {
      held = held;
      inserts =
          let len = appended_by ops logged.known entry.op held in
          let end = to in
          from_span entry.op.site (file_before ops entry.op.site entry.op.seq) entry.op.kind name
          (logged.begins entry.op held) (record { on = sym entry.on; from = from; below = omega arith });
    }

    -- and there is no other
    pub found_only : (i : Operation) → IsInsertOf ops name i → i ≡ entry.op
    found_only i is =
        one_insert ops logged.known logged.begins name i entry.op is.held held is.inserts
        found_inserts.inserts
