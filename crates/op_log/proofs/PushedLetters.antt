-- The tables of a log with letters more that a site typed one after the other.
use Rattle.std.proofs.Common.{◌≡◌, ◌≢◌, ℕ, zero, suc, ◌+◌, ◌-◌, ◌<◌, inl, inr, max, List, [], ◌∷◌, ◌++◌, All, length, slice_get, refl, sym, ap, subst, ◌∙◌}
use Rattle.std.proofs.Common.{Option, add-zero, eq-eqb, arith, append-nil, append_assoc, length-append}
use Rattle.std.specs.Option.{option_map_or}
use Rattle.std.proofs.lemmas.Bool.{cases_eq, cond-true, cond-false, ne_eqb}
use Rattle.std.proofs.lemmas.List.Elements.{All-head, All-tail}
use Rattle.operations.specs.Letters.{after_letter, letter, letters}
use Rattle.operations.specs.Operation.{Operation}
use Rattle.operations.specs.Spelling.{HasSpelling}
use Rattle.operations.specs.declared.typing.Typing.{Typing}
use Rattle.set_laws.specs.Fronts.{front_of, file_len}
use Rattle.op_log.specs.declared.site_log.Entry.{Entry}
use Rattle.op_log.specs.Tables.{LogTables, SiteSeen, entries_end, letter_entries, letter_entry, log_table, unknown}
use Rattle.op_log.specs.Logged.{AreLogged}
use Rattle.op_log.proofs.Lists.{slice_get-push}
use Rattle.op_log.proofs.Logged.{file_told}
use Rattle.op_log.proofs.Pushed.{own_greatest, pushed}

abbrev made : (stamp end index : ℕ) → Entry
made stamp end index = record { stamp = stamp; end = end; index = index }

same_entry : {s e i s' e' i' : ℕ} → s ≡ s' → e ≡ e' → i ≡ i'
    → made s e i ≡ made s' e' i'
same_entry {s} {e} {i} {s'} {e'} {i'} stamp end index =
    ap (λ (n : ℕ). made n e i) stamp ∙ ap (λ (n : ℕ). made s' n i) end ∙ ap (made s' e') index

-- the first entry, and those after it
entries_after : (first : Entry) (n : ℕ) → letter_entries first (suc n) ≡ first ∷ letter_entries (letter_entry first 1) n
entries_after first zero =
    ap (λ (e : Entry). e ∷ []) (same_entry (add-zero first.stamp) (add-zero first.end) (add-zero first.index))
entries_after first (suc n) =
    let one : (m : ℕ) → m + suc n ≡ m + 1 + n = λ m. omega arith in
    ap (λ (es : List Entry). es ++ letter_entry first (suc n) ∷ []) (entries_after first n)
    ∙ ap (λ (e : Entry). first ∷ (letter_entries (letter_entry first 1) n ++ e ∷ []))
    (same_entry (one first.stamp) (one first.end) (one first.index))

-- a table more, which stands for the one of its site
with_table : LogTables → ℕ → List Entry → LogTables
with_table tables site entries = (site, record { entries = entries; room = 0 }) ∷ tables

own_table : (tables : LogTables) (site : ℕ) (entries : List Entry)
    → (log_table (with_table tables site entries) site).entries ≡ entries
unfolding with_table
own_table tables site entries =
    ap (λ (o : Option SiteSeen). (option_map_or (λ (t : SiteSeen). t) o unknown).entries)
    (cond-true _ _ _ (eq-eqb site site refl))

other_table : (tables : LogTables) (site : ℕ) (entries : List Entry) (other : ℕ) → other ≢ site
    → log_table (with_table tables site entries) other ≡ log_table tables other
unfolding with_table
other_table tables site entries other apart =
    ap (λ (o : Option SiteSeen). option_map_or (λ (t : SiteSeen). t) o unknown)
    (cond-false _ _ _ (ne_eqb other site apart))

-- the file ends where the last entry does
end_of-push : (entries : List Entry) (e : Entry) → entries_end (entries ++ e ∷ []) ≡ e.end
end_of-push entries e =
    let len = length-append entries (e ∷ []) in
    let last : length (entries ++ e ∷ []) - 1 ≡ length entries = omega arith in
    ap (λ (i : ℕ). option_map_or (λ (d : Entry). d.end) (slice_get (entries ++ e ∷ []) i) 0) last
    ∙ ap (λ (o : Option Entry). option_map_or (λ (d : Entry). d.end) o 0) (slice_get-push entries e)

-- tables of the same entries
same_entries : {ops : List Operation} {tables : LogTables} {stamp : ℕ} → AreLogged ops tables stamp → (tables' : LogTables)
    → ((site : ℕ) → (log_table tables' site).entries ≡ (log_table tables site).entries) → AreLogged ops tables' stamp
same_entries {ops} {tables} {stamp} logged tables' same = record {
  by_site = λ site. record {
    entries = λ k e is. (logged.by_site site).entries k e (ap (λ (es : List Entry). slice_get es k) (sym (same site)) ∙ is);
    front = ap (λ (es : List Entry). length es) (same site) ∙ (logged.by_site site).front;
  };
  greatest = logged.greatest;
  low = logged.low;
  known = logged.known;
  once = logged.once;
  begins = logged.begins;
}

-- the greatest stamp after so many letters
last_stamp : (first len stamp : ℕ) → ℕ
last_stamp first zero stamp = stamp
last_stamp first (suc len) stamp = last_stamp (first + 1) len (max first stamp)

last_stamp_is : (first len stamp : ℕ) → last_stamp first (suc len) stamp ≡ max (first + len) stamp
unfolding last_stamp
last_stamp_is first zero stamp = omega arith
last_stamp_is first (suc len) stamp = let rest = last_stamp_is (first + 1) len (max first stamp) in omega (arith, rest)

-- the tables in which letters were entered are those of the operations with the letters
each_pushed : (bytes : List ℕ) {ops : List Operation} {tables : LogTables} {stamp : ℕ} → AreLogged ops tables stamp
    → (tables' : LogTables) (t : Typing) (first : Entry) → t.seq ≡ front_of ops t.site + 1 → t.at ≡ file_len ops t.site
    → All HasSpelling (letters t bytes) → first.stamp ≡ t.stamp → first.end ≡ t.at + 1 → first.index ≡ length ops
    → (log_table tables' t.site).entries ≡ (log_table tables t.site).entries ++ letter_entries first (length bytes)
    → ((other : ℕ) → other ≢ t.site → log_table tables' other ≡ log_table tables other)
    → AreLogged (ops ++ letters t bytes) tables' (last_stamp first.stamp (length bytes) stamp)
unfolding last_stamp
each_pushed [] {ops} {tables} {stamp} logged tables' t first next begins spelled stamped ends index entries others =
    subst (λ (xs : List Operation). AreLogged xs tables' stamp) (sym (append-nil ops)) (same_entries logged tables' same)
  where
    same : (site : ℕ) → (log_table tables' site).entries ≡ (log_table tables site).entries
    same site = elim (cases_eq site t.site) [
      | inl is ↦ subst (λ (s : ℕ). (log_table tables' s).entries ≡ (log_table tables s).entries) (sym is)
          (entries ∙ append-nil (log_table tables t.site).entries)
      | inr apart ↦ ap (λ (x : SiteSeen). x.entries) (others site apart)
    ]
each_pushed (b ∷ bytes) {ops} {tables} {stamp} logged tables' t first next begins spelled stamped ends index entries others =
    let op : Operation = letter t b in
    let own : HasSpelling op = All-head HasSpelling op (letters (after_letter t) bytes) spelled in
    let old : List Entry = (log_table tables t.site).entries in
    let with_first : LogTables = with_table tables t.site (old ++ first ∷ []) in
    let here : (log_table with_first t.site).entries ≡ old ++ first ∷ [] = own_table tables t.site (old ++ first ∷ []) in
    let file : entries_end old ≡ file_len ops t.site = file_told logged t.site in
    let one : AreLogged (ops ++ op ∷ []) with_first (max first.stamp stamp) =
    pushed logged with_first op t.site first next begins own.stamp.1 refl stamped index (omega (arith, ends, begins, file)) here
    (other_table tables t.site (old ++ first ∷ [])) in
    let front = own_greatest (λ o. o.seq) ops op in
    let next' : t.seq + 1 ≡ front_of (ops ++ op ∷ []) t.site + 1 = omega (arith, front, next) in
    let file' : entries_end (log_table with_first t.site).entries ≡ file_len (ops ++ op ∷ []) t.site = file_told one t.site in
    let last : entries_end (log_table with_first t.site).entries ≡ first.end = ap entries_end here ∙ end_of-push old first in
    let rest = each_pushed bytes one tables' (after_letter t) (letter_entry first 1) next'
    (omega (arith, ends, file', last)) (All-tail HasSpelling op (letters (after_letter t) bytes) spelled)
    (omega (arith, stamped)) (omega (arith, ends)) (omega (arith, index, length-append ops (op ∷ [])))
    (entries ∙ ap (λ (es : List Entry). old ++ es) (entries_after first (length bytes))
    ∙ sym (append_assoc old (first ∷ []) (letter_entries (letter_entry first 1) (length bytes)))
    ∙ ap (λ (es : List Entry). es ++ letter_entries (letter_entry first 1) (length bytes)) (sym here))
    (λ other apart. others other apart ∙ sym (other_table tables t.site (old ++ first ∷ []) other apart)) in
    subst (λ (xs : List Operation). AreLogged xs tables' (last_stamp (first.stamp + 1) (length bytes) (max first.stamp stamp)))
    (append_assoc ops (op ∷ []) (letters (after_letter t) bytes)) rest

-- the same, with the stamp of the last letter
pub pushed_letters : (bytes : List ℕ) {ops : List Operation} {tables : LogTables} {stamp : ℕ} → 0 < length bytes
    → AreLogged ops tables stamp → (tables' : LogTables) (t : Typing) (first : Entry) → t.seq ≡ front_of ops t.site + 1
    → t.at ≡ file_len ops t.site → All HasSpelling (letters t bytes) → first.stamp ≡ t.stamp → first.end ≡ t.at + 1
    → first.index ≡ length ops
    → (log_table tables' t.site).entries ≡ (log_table tables t.site).entries ++ letter_entries first (length bytes)
    → ((other : ℕ) → other ≢ t.site → log_table tables' other ≡ log_table tables other)
    → AreLogged (ops ++ letters t bytes) tables' (max (first.stamp + (length bytes - 1)) stamp)
pushed_letters [] some logged tables' t first next begins spelled stamped ends index entries others = absurd (omega (arith, some))
pushed_letters (b ∷ bytes) {ops} {tables} {stamp} some logged tables' t first next begins spelled stamped ends index entries others =
    let len : length bytes ≡ length (b ∷ bytes) - 1 = omega arith in
    subst (AreLogged (ops ++ letters t (b ∷ bytes)) tables')
    (last_stamp_is first.stamp (length bytes) stamp ∙ ap (λ (n : ℕ). max (first.stamp + n) stamp) len)
    (each_pushed (b ∷ bytes) logged tables' t first next begins spelled stamped ends index entries others)
