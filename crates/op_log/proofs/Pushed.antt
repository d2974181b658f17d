-- The tables of a log with one operation more, the next of its site.
use Rattle.std.proofs.Common.{◌≡◌, ◌≢◌, ℕ, suc, ◌+◌, ◌≤◌, inl, inr, max, eqb, List, [], ◌∷◌, ◌++◌}
use Rattle.std.proofs.Common.{length, Some, false, Contains, slice_get, refl, sym, ap, subst, ◌∙◌, eq-eqb, arith}
use Rattle.std.proofs.Common.{length-append, get_or}
use Rattle.std.proofs.lemmas.Bool.{cases_Bool, cond-false, eqb-true, both_ways}
use Rattle.std.proofs.lemmas.Option.{slice_get_within}
use Rattle.std.proofs.lemmas.List.Elements.{Contains-push, Contains-push_cases, Contains-get_or}
use Rattle.std.proofs.lemmas.List.Quantifiers.{all_pairs_push}
use Rattle.char_files.specs.declared.TheConstants.{MAX_FILE}
use Rattle.operations.specs.Operation.{Operation, OpKind, insert, delete, restore, change_looks, appended_len}
use Rattle.operations.specs.Operation.{Begins}
use Rattle.operations.specs.Spelling.{IsKind}
use Rattle.operations.specs.declared.op.TheConstants.{MAX_STAMP}
use Rattle.tree_order.specs.Good.{file_before}
use Rattle.set_laws.specs.Fronts.{greatest, of_site, front_of, file_len}
use Rattle.set_laws.specs.Sets.{AreIdentified}
use Rattle.set_laws.proofs.Lengths.{appended_by}
use Rattle.set_laws.proofs.OneMore.{with_one, with_one_identified}
use Rattle.op_log.specs.declared.site_log.Entry.{Entry}
use Rattle.op_log.specs.Tables.{LogTables, SiteSeen, entries_end, log_table}
use Rattle.op_log.specs.Logged.{IsEntryOf, IsTableOf, AreLogged}
use Rattle.set_laws.proofs.Counting.{greatest-push}
use Rattle.op_log.proofs.Lists.{slice_get-append_left, slice_get-push, slice_get-push_cases}
use Rattle.op_log.proofs.Logged.{file_told}
use Rattle.op_log.proofs.Files.{within_front, of_own, same_before}

-- what an operation appends to the end of its site's file stays within it
fits_at_end : (site len : ℕ) (kind : OpKind) → IsKind site kind → Begins kind len → len ≤ MAX_FILE
    → len + appended_len kind ≤ MAX_FILE
fits_at_end site len (insert cause at looks bytes) is begins low = let within = is.in_file in omega arith
fits_at_end site len (delete names) is begins low = omega arith
fits_at_end site len (restore names) is begins low = omega arith
fits_at_end site len (change_looks sel looks names) is begins low = omega arith

-- so where a table tells how long the file is
pub fits_by_table : {ops : List Operation} {tables : LogTables} {stamp : ℕ} → AreLogged ops tables stamp
    → (op : Operation) (site len : ℕ) → site ≡ op.site → len ≡ entries_end (log_table tables site).entries
    → IsKind op.site op.kind → Begins op.kind (file_len ops op.site) → len ≤ MAX_FILE
    → len + appended_len op.kind ≤ MAX_FILE
fits_by_table {ops} logged op site len on told is begin low =
    let file : len ≡ file_len ops op.site = told ∙ file_told logged site ∙ ap (file_len ops) on in
    fits_at_end op.site len op.kind is (subst (Begins op.kind) (sym file) begin) low

-- what another site's operation adds to a site's greatest number
same_greatest : (f : Operation → ℕ) (ops : List Operation) (op : Operation) (site : ℕ)
    → eqb op.site site ≡ false
    → greatest (of_site site f) (with_one ops op) ≡ greatest (of_site site f) ops
same_greatest f ops op site apart =
    let push = greatest-push (of_site site f) ops op in
    let none : of_site site f op ≡ 0 = cond-false _ _ _ apart in
    omega arith

-- and what its own adds
pub own_greatest : (f : Operation → ℕ) (ops : List Operation) (op : Operation)
    → greatest (of_site op.site f) (with_one ops op) ≡ max (f op) (greatest (of_site op.site f) ops)
own_greatest f ops op =
    let push = greatest-push (of_site op.site f) ops op in
    let own = of_own f op op.site refl in
    omega arith

module _ (ops : List Operation) (op : Operation) (next : op.seq ≡ front_of ops op.site + 1)
    (known : AreIdentified ops) where
  -- its identity is held by no other
  unheld : (x : Operation) → Contains ops x → x.site ≡ op.site → x.seq ≡ op.seq → ⊥
  unheld x held on at = let le = within_front ops x op.site held on in omega arith

  identified : AreIdentified (with_one ops op)
  identified = with_one_identified ops op known
      (record { counted = omega arith; unheld = λ h. unheld h.0 h.1 h.2 h.3 })

  -- its site's file is as long before it as all of it was
  at_end : file_before (with_one ops op) op.site op.seq ≡ file_len ops op.site
  at_end =
      let at : op.seq ≡ suc (front_of ops op.site) = omega arith in
      same_before ops op op.site op.seq (λ on. omega arith) ∙ ap (λ (n : ℕ). file_before ops op.site n) at

  begins_at_end : Begins op.kind (file_len ops op.site)
      → ((x : Operation) → Contains ops x → Begins x.kind (file_before ops x.site x.seq))
      → (x : Operation) → Contains (with_one ops op) x
      → Begins x.kind (file_before (with_one ops op) x.site x.seq)
  begins_at_end begin begins x held =
      elim (Contains-push_cases ops op x held) [
        | inl here ↦
            let same = same_before ops op x.site x.seq
            (λ on. let le = within_front ops x op.site here (sym on) in omega arith) in
            subst (Begins x.kind) (sym same) (begins x here)
        | inr is ↦
            subst (λ (o : Operation). Begins o.kind (file_before (with_one ops op) o.site o.seq)) is
            (subst (Begins op.kind) (sym at_end) begin)
      ]

  -- entries of other operations stay
  kept_entry : (site k : ℕ) (e : Entry) → (op.site ≡ site → suc (suc k) ≤ op.seq)
      → IsEntryOf ops site (suc k) e → IsEntryOf (with_one ops op) site (suc k) e
  kept_entry site k e below entry = record {
    op = entry.op;
    there = slice_get-append_left ops (op ∷ []) e.index entry.op entry.there;
    on = entry.on;
    at = entry.at;
    ends = entry.ends ∙ sym (same_before ops op site (suc (suc k)) below);
    stamped = entry.stamped;
  }

  -- so do other sites' tables
  kept_table : (site : ℕ) (t : SiteSeen) → eqb op.site site ≡ false → IsTableOf ops site t
      → IsTableOf (with_one ops op) site t
  kept_table site t apart table = record {
    entries = λ k e is. kept_entry site k e (λ on. absurd (both_ways _ apart (eq-eqb op.site site on)))
        (table.entries k e is);
    front = table.front ∙ sym (same_greatest (λ o. o.seq) ops op site apart);
  }

  module _ (new : Entry) (index : new.index ≡ length ops)
      (ends : new.end ≡ file_len ops op.site + appended_len op.kind) (stamped : new.stamp ≡ op.stamp) where
    new_entry : (seq : ℕ) → op.seq ≡ seq → IsEntryOf (with_one ops op) op.site seq new
    new_entry seq at = subst (λ (s : ℕ). IsEntryOf (with_one ops op) op.site s new) at (record {
      op = op;
      there = ap (λ (i : ℕ). slice_get (with_one ops op) i) index ∙ slice_get-push ops op;
      on = refl;
      at = refl;
      ends = end;
      stamped = stamped;
    })
      where
        end : new.end ≡ file_before (with_one ops op) op.site (suc op.seq)
        end =
            let begin = at_end in
            let len = appended_by (with_one ops op) identified op (Contains-push ops op) in
            omega arith

    -- its own site's table gains the entry
    grown_table : (t t' : SiteSeen) → IsTableOf ops op.site t → t'.entries ≡ t.entries ++ new ∷ []
        → IsTableOf (with_one ops op) op.site t'
    grown_table t t' table entries = record {
      entries = λ k e is.
          let is' : slice_get (t.entries ++ new ∷ []) k ≡ Some e =
          ap (λ (es : List Entry). slice_get es k) (sym entries) ∙ is in
          elim (slice_get-push_cases t.entries new k e is') [
            | inl here ↦
                let front = table.front in
                let within = slice_get_within t.entries k e here in
                kept_entry op.site k e (λ on. omega arith) (table.entries k e here)
            | inr last ↦
                let front = table.front in
                let at : op.seq ≡ suc k = let slot = last.0 in omega arith in
                subst (λ (d : Entry). IsEntryOf (with_one ops op) op.site (suc k) d) last.1
                (new_entry (suc k) at)
          ];
      front = by_front;
    }
      where
        by_front : length t'.entries ≡ front_of (with_one ops op) op.site
        by_front =
            let len = ap (λ (es : List Entry). length es) entries in
            let more = length-append t.entries (new ∷ []) in
            let front = table.front in
            let grows = own_greatest (λ o. o.seq) ops op in
            omega arith

-- the tables of a log in which an operation was entered are those of the operations with that one
pub pushed : {ops : List Operation} {tables : LogTables} {stamp : ℕ} → AreLogged ops tables stamp
    → (tables' : LogTables) (op : Operation) (site : ℕ) (new : Entry)
    → op.seq ≡ front_of ops op.site + 1 → Begins op.kind (file_len ops op.site)
    → op.stamp ≤ MAX_STAMP → site ≡ op.site → new.stamp ≡ op.stamp → new.index ≡ length ops
    → new.end ≡ entries_end (log_table tables site).entries + appended_len op.kind
    → (log_table tables' site).entries ≡ (log_table tables site).entries ++ new ∷ []
    → ((other : ℕ) → other ≢ site → log_table tables' other ≡ log_table tables other)
    → AreLogged (ops ++ op ∷ []) tables' (max new.stamp stamp)
pushed {ops} {tables} {stamp} logged tables' op site new next begin low on is index ends entries
    others =
    subst (λ (n : ℕ). AreLogged (ops ++ op ∷ []) tables' (max n stamp)) (sym is) (record {
      by_site = by_site;
      greatest = ap (λ (n : ℕ). max op.stamp n) logged.greatest ∙ sym (greatest-push (λ o. o.stamp) ops op);
      low = let old = logged.low in omega arith;
      known = identified ops op next logged.known;
      once = all_pairs_push (λ (a b : Operation). a.site ≡ b.site → a.seq ≡ b.seq → ⊥) ops op logged.once
          (λ k d lt. unheld ops op next logged.known (get_or ops k d) (Contains-get_or ops k d lt));
      begins = begins_at_end ops op next logged.known begin logged.begins;
    })
  where
    ends' : new.end ≡ file_len ops op.site + appended_len op.kind
    ends' = ends ∙ ap (λ (n : ℕ). n + appended_len op.kind) (file_told logged site ∙ ap (file_len ops) on)

    entries' : (log_table tables' op.site).entries ≡ (log_table tables op.site).entries ++ new ∷ []
    entries' =
        subst (λ (s : ℕ). (log_table tables' s).entries ≡ (log_table tables s).entries ++ new ∷ []) on entries

    by_site : (s : ℕ) → IsTableOf (with_one ops op) s (log_table tables' s)
    by_site s = elim (cases_Bool (eqb op.site s)) [
      | inl e ↦ subst (λ (s : ℕ). IsTableOf (with_one ops op) s (log_table tables' s)) (eqb-true _ _ e)
          (grown_table ops op next logged.known new index ends' is (log_table tables op.site)
          (log_table tables' op.site) (logged.by_site op.site) entries')
      | inr e ↦ subst (IsTableOf (with_one ops op) s)
          (sym (others s (λ there. both_ways _ e (eq-eqb op.site s (sym on ∙ sym there)))))
          (kept_table ops op next logged.known s (log_table tables s) e (logged.by_site s))
    ]
