-- One operation of the site's own, made and sent, or refused.
use Rattle.std.proofs.Common.{◌≡◌, ℕ, ◌+◌, ◌-◌, ◌<◌, ◌≤◌, inl, inr, ◌⊎◌, Bool, true, false, cond, eqb, ltb, Option, List, [], ◌∷◌, ◌++◌}
use Rattle.std.proofs.Common.{length, take, drop, map, Some, None, Result, Ok, Err, refl, sym, ap, subst, ◌∙◌, arith}
use Rattle.std.specs.Prelude.{Contains, IfErr, IfNone, IfSome, nat_lt, IsErrAnd, OnOk, OnErr, slice_range}
use Rattle.std.proofs.lemmas.Bool.{cond-false, le-ltb, lt-ltb, ltb-false}
use Rattle.std.proofs.lemmas.List.{length-append, length-drop, length-map, length-take-le, take-append-drop}
use Rattle.looks.specs.Sel.{Selection}
use Rattle.looks.specs.declared.looks.Looks.{Looks}
use Rattle.looks.specs.declared.refusal.Refusal.{Refusal}
use Rattle.looks.specs.declared.refusal.Refusal.TheVariants.{Behind, SeqSpent, StampsSpent}
use Rattle.looks.specs.declared.refusal.Refusal.TheVariants.{FileSpent, OutOfMemory, Scattered}
use Rattle.char_files.specs.CharName.{CharName}
use Rattle.char_files.specs.Stretch.{Item}
use Rattle.char_files.specs.declared.character.Char.{Char}
use Rattle.char_files.specs.declared.name.Anchor.{Anchor}
use Rattle.operations.specs.NameSet.{Range, IsAmong}
use Rattle.operations.specs.Operation.{Operation, OpKind, insert, delete, change_looks}
use Rattle.operations.specs.Spelling.{spelling}
use Rattle.operations.specs.declared.name_set.TheConstants.{MAX_RANGES}
use Rattle.operations.specs.declared.op.TheConstants.{MAX_STAMP}
use Rattle.char_files.specs.declared.TheConstants.{MAX_FILE}
use Rattle.set_laws.specs.Fronts.{file_len, front_of, greatest_stamp}
use Rattle.waiting_room.specs.Room.{is_behind}
use Rattle.texts.specs.declared.TheConstants.{MAX_SEQ}
use Rattle.texts.specs.Edit.{names_shown, own_op, stretch_named, with_operation}
use Rattle.texts.specs.Laws.{NamesStretch}
use Rattle.texts.specs.Order.{order_after, with_inserted}
use Rattle.taken_text.specs.Rows.{chars_from}
use Rattle.texts.specs.Outcome.{is_scattered, passes_file, refusal_for}
use Rattle.texts.specs.Own.{IsWhyNot, SendsOne}
use Rattle.texts.specs.Taking.{HasTaken}
use Rattle.texts.specs.Text.{AreCharNames, IsText}
use Rattle.texts.specs.TextState.{TextState, shown_items, shown_of}
use Rattle.texts.proofs.KeptStretch.{keeps_its_stretch}
use Rattle.texts.proofs.Kept.{taken_is_own}

-- nothing was done where something refused it
pub not_made : (t : TextState) (op : Operation) (sent : List (List ℕ)) (result : Result (Unit {0}) Refusal)
    (why : Refusal) → IsErrAnd result (λ e. e ≡ why) → IsWhyNot t op why → SendsOne t op result t sent sent
not_made t op sent (Ok done) why err whynot = absurd err
not_made t op sent (Err e) why err whynot = (subst (IsWhyNot t op) (sym err) whynot, refl, refl)

-- why names aren't gathered
pub why_not_gathered : (t : TextState) (op : Operation) (many : Bool)
    → refusal_for t op.kind ≡ cond many (Some Scattered) None → (why : Refusal)
    → (why ≡ Scattered) ⊎ (why ≡ OutOfMemory) → (why ≡ Scattered → many ≡ true) → IsWhyNot t op why
why_not_gathered t op true refused why (inl is) scattered = inl (refused ∙ ap Some (sym is))
why_not_gathered t op true refused why (inr is) scattered = inr (is, inr refused)
why_not_gathered t op false refused why (inl is) scattered = absurd (let no = scattered is in cc)
why_not_gathered t op false refused why (inr is) scattered = inr (is, inl refused)

-- what making an operation that isn't refused gives, where nothing but the operations and the order changes
pub made : (t : TextState) (op : Operation) → IsText t → op.text ≡ t.text
    → IsText (with_operation t op) → (result : Result (Unit {0}) Refusal) (new : TextState)
    (sent sent' : List (List ℕ)) → refusal_for t op.kind ≡ None
    → OnOk result (HasTaken t op new × (sent' ≡ sent ++ spelling op ∷ []))
    → IfErr result (λ e. e ≡ OutOfMemory) → OnErr result ((new ≡ t) × (sent' ≡ sent))
    → with_operation t op ≡ record t { operations = t.operations ++ op ∷ []; order = order_after t.order op }
    → SendsOne t op result new sent sent'
made t op is own with_own (Ok done) new sent sent' allowed ok memory err same =
    (allowed, taken_is_own t op is own with_own new ok.0 ∙ sym same, ok.1)
made t op is own with_own (Err why) new sent sent' allowed ok memory err same =
    (inr (memory, inl allowed), err.0, err.1)

-- operations of equal parts are equal
pub same_insert : (cause cause' : Anchor) (at at' : ℕ) (looks looks' : Looks) (bytes bytes' : List ℕ)
    → cause ≡ cause' → at ≡ at' → looks ≡ looks' → bytes ≡ bytes'
    → insert cause at looks bytes ≡ insert cause' at' looks' bytes'
same_insert cause cause' at at' looks looks' bytes bytes' a b c d =
    ap (λ (x : Anchor). insert x at looks bytes) a ∙ ap (λ (x : ℕ). insert cause' x looks bytes) b
    ∙ ap (λ (x : Looks). insert cause' at' x bytes) c ∙ ap (λ (x : List ℕ). insert cause' at' looks' x) d

pub same_change : (sel : Selection) (looks looks' : Looks) (names names' : List Range) → looks ≡ looks'
    → names ≡ names' → change_looks sel looks names ≡ change_looks sel looks' names'
same_change sel looks looks' names names' a b =
    ap (λ (x : Looks). change_looks sel x names) a ∙ ap (λ (x : List Range). change_looks sel looks' x) b

-- a run makes the text longer by its bytes
length-chars_of : (site at : ℕ) (looks : Looks) (bytes : List ℕ)
    → length (chars_from site at looks bytes) ≡ length bytes
length-chars_of site at looks [] = refl
length-chars_of site at looks (b ∷ bytes) = omega (arith, length-chars_of site (at + 1) looks bytes)

length-insert_at : (xs run : List Char) (n : ℕ) → length (with_inserted xs n run) ≡ length xs + length run
length-insert_at xs run n =
    let whole = length-append (take n xs ++ run) (drop n xs) in
    let front = length-append (take n xs) run in
    let parts = length-append (take n xs) (drop n xs) in
    let all : length (take n xs ++ drop n xs) ≡ length xs = ap (length {A = Char}) (take-append-drop n xs) in
    omega (arith, whole, front, parts, all)

pub longer : (t : TextState) (op : Operation) (pos at : ℕ) (looks : Looks) (bytes : List ℕ)
    (result : Result (Unit {0}) Refusal) (new : TextState) (sent sent' : List (List ℕ))
    → shown_of (with_operation t op) ≡ with_inserted (shown_of t) pos (chars_from t.site at looks bytes)
    → SendsOne t op result new sent sent'
    → OnOk result (length (shown_of new) ≡ length (shown_of t) + length bytes)
longer t op pos at looks bytes (Ok done) new sent sent' shown (allowed, is, told) =
    let shows : shown_of new ≡ with_inserted (shown_of t) pos (chars_from t.site at looks bytes) = ap shown_of is ∙ shown in
    let long : length (shown_of new) ≡ length (with_inserted (shown_of t) pos (chars_from t.site at looks bytes)) =
    ap (length {A = Char}) shows in
    omega (arith, long, length-insert_at (shown_of t) (chars_from t.site at looks bytes) pos, length-chars_of t.site at looks bytes)
longer t op pos at looks bytes (Err why) new sent sent' shown s = tt

-- a stretch that isn't empty has a name
first_name : (names : List CharName) → 0 < length names → (c : CharName) × Contains names c
first_name [] some = absurd (omega (arith, some))
first_name (c ∷ names) some = (c, (0, omega arith, refl))

pub among_some : (names : List Range) (c : CharName) → IsAmong names c → 0 < length names
among_some names c (k, r, lt, is, within) = omega (arith, lt)

pub has_names : (t : TextState) (names : List Range) (beg end : ℕ) → NamesStretch t names beg end → beg < end
    → end ≤ length (shown_of t) → 0 < length names
has_names t names beg end stretch some within =
    let part = slice_range (shown_of t) beg end in
    let long : length (map (λ (s : Char). s.name) part) ≡ length part = length-map part (λ s. s.name) in
    let after : length (drop beg (shown_of t)) ≡ length (shown_of t) - beg = length-drop beg (shown_of t) in
    let taken : length part ≡ end - beg = length-take-le (end - beg) (drop beg (shown_of t)) (omega (arith, after, some, within)) in
    let (c, there) = first_name (map (λ (s : Char). s.name) part) (omega (arith, long, taken, some)) in
    among_some names c ((stretch c).1 there)

-- what a Delete leaves that keeps its stretch
pub kept_is : (t u : TextState) (names set : List Range) (stretch : List Item)
    → u ≡ record t { operations = t.operations ++ own_op t (delete names) ∷ []; order = t.order }
    → stretch ≡ stretch_named t names → set ≡ names
    → record u { last_stretch = stretch; last_set = set } ≡ with_operation t (own_op t (delete names))
kept_is t u names set stretch same is_stretch is_set =
    let v : TextState = record t { operations = t.operations ++ own_op t (delete names) ∷ []; order = t.order } in
    ap (λ (x : TextState). record x { last_stretch = stretch; last_set = set }) same
    ∙ ap (λ (s : List Item). record v { last_stretch = s; last_set = set }) is_stretch
    ∙ ap (λ (n : List Range). record v { last_stretch = stretch_named t names; last_set = n }) is_set

-- what isn't refused fits into the file
rest_none : (b : Bool) (why : Refusal) (rest : Option Refusal) → cond b (Some why) rest ≡ None
    → (b ≡ false) × (rest ≡ None)
rest_none true why rest h = absurd cc
rest_none false why rest h = (refl, h)

pub fits_in_file : (t : TextState) (cause : Anchor) (at : ℕ) (looks : Looks) (bytes : List ℕ)
    → refusal_for t (insert cause at looks bytes) ≡ None → file_len t.operations t.site + length bytes ≤ MAX_FILE
fits_in_file t cause at looks bytes allowed =
    let files = cond (ltb MAX_FILE (file_len t.operations t.site + length bytes)) (Some FileSpent) None in
    let stamps = cond (eqb (greatest_stamp t.operations) MAX_STAMP) (Some StampsSpent) files in
    let seqs = cond (eqb (front_of t.operations t.site) MAX_SEQ) (Some SeqSpent) stamps in
    let z = rest_none (is_behind t.operations t.waiting_room t.site) Behind seqs allowed in
    let a = rest_none (eqb (front_of t.operations t.site) MAX_SEQ) SeqSpent stamps z.1 in
    let b = rest_none (eqb (greatest_stamp t.operations) MAX_STAMP) StampsSpent files a.1 in
    let c = rest_none (ltb MAX_FILE (file_len t.operations t.site + length bytes)) FileSpent None b.1 in
    ltb-false _ _ c.0

-- what tells why the next operation is refused for its length
pub by_length : (t : TextState) (kind : OpKind) (len : ℕ) (result : Option Refusal)
    → IfSome result (λ why. (kind : OpKind) → passes_file t kind ≡ nat_lt MAX_FILE len → refusal_for t kind ≡ Some why)
    → IfNone result ((kind : OpKind) → passes_file t kind ≡ nat_lt MAX_FILE len
    → refusal_for t kind ≡ cond (is_scattered kind) (Some Scattered) None)
    → passes_file t kind ≡ nat_lt MAX_FILE len → is_scattered kind ≡ false → refusal_for t kind ≡ result
by_length t kind len (Some why) some none long few = some kind long
by_length t kind len None some none long few = none kind long ∙ cond-false _ _ _ few

-- names that fit a message aren't scattered
pub gathered_few : (t : TextState) (kind : OpKind) (names gathered : List Range)
    → refusal_for t kind ≡ cond (nat_lt MAX_RANGES (length gathered)) (Some Scattered) None → names ≡ gathered
    → length names ≤ MAX_RANGES → refusal_for t kind ≡ None
gathered_few t kind names gathered refused same few =
    let long = ap (length {A = Range}) same in
    refused ∙ cond-false _ _ _ (le-ltb MAX_RANGES (length gathered) (omega (arith, long, few)))

-- how long a stretch is
pub stretch_long : (t : TextState) (beg end : ℕ) → end ≤ length (shown_of t)
    → length (slice_range (shown_items t) beg end) ≡ end - beg
stretch_long t beg end within =
    let all : length (shown_items t) ≡ length (shown_of t) = length-map (shown_of t) (λ c. (c.byte, c.looks)) in
    let after = length-drop beg (shown_items t) in
    length-take-le (end - beg) (drop beg (shown_items t)) (omega (arith, all, after, within))

-- so long a stretch does a Delete of it keep
pub keeps_so_much : (t : TextState) → IsText t → (beg end : ℕ) → end ≤ length (shown_of t)
    → passes_file t (delete (names_shown t beg end)) ≡ nat_lt MAX_FILE (end - beg)
keeps_so_much t is beg end within =
    ap (nat_lt MAX_FILE) (ap (length {A = Item}) (keeps_its_stretch t beg end is).1 ∙ stretch_long t beg end within)

-- an Insert has no names that may be scattered
one_of_four : (a b c d : Bool)
    → cond a (Some Behind) (cond b (Some SeqSpent) (cond c (Some StampsSpent) (cond d (Some FileSpent) None)))
    ≡ Some Scattered → ⊥
one_of_four true b c d h = cc
one_of_four false true c d h = cc
one_of_four false false true d h = cc
one_of_four false false false true h = cc
one_of_four false false false false h = cc

pub never_scattered : (t : TextState) (cause : Anchor) (at : ℕ) (looks : Looks) (bytes : List ℕ)
    → refusal_for t (insert cause at looks bytes) ≡ Some Scattered → ⊥
never_scattered t cause at looks bytes h =
    one_of_four (is_behind t.operations t.waiting_room t.site) (eqb (front_of t.operations t.site) MAX_SEQ) (eqb (greatest_stamp t.operations) MAX_STAMP)
    (ltb MAX_FILE (file_len t.operations t.site + length bytes)) h

-- a stretch that isn't refused for its length isn't too long
pub fits_stretch : (t : TextState) (kind : OpKind) (len : ℕ) (names : List Range)
    → refusal_for t kind ≡ cond (nat_lt MAX_RANGES (length names)) (Some Scattered) None
    → passes_file t kind ≡ nat_lt MAX_FILE len → MAX_FILE < len → ⊥
fits_stretch t kind len names refused file long =
    let full : passes_file t kind ≡ true = file ∙ lt-ltb MAX_FILE len long in
    not_refused (is_behind t.operations t.waiting_room t.site) (eqb (front_of t.operations t.site) MAX_SEQ)
    (eqb (greatest_stamp t.operations) MAX_STAMP) (nat_lt MAX_RANGES (length names))
    (cond (is_scattered kind) (Some Scattered) None)
    (ap (λ (b : Bool). cond (is_behind t.operations t.waiting_room t.site) (Some Behind)
    (cond (eqb (front_of t.operations t.site) MAX_SEQ) (Some SeqSpent)
    (cond (eqb (greatest_stamp t.operations) MAX_STAMP) (Some StampsSpent)
    (cond b (Some FileSpent) (cond (is_scattered kind) (Some Scattered) None))))) (sym full) ∙ refused) where
      not_refused : (a b d many : Bool) (rest : Option Refusal)
          → cond a (Some Behind) (cond b (Some SeqSpent) (cond d (Some StampsSpent) (cond true (Some FileSpent) rest)))
          ≡ cond many (Some Scattered) None → ⊥
      not_refused true b d true rest h = cc
      not_refused true b d false rest h = cc
      not_refused false true d true rest h = cc
      not_refused false true d false rest h = cc
      not_refused false false true true rest h = cc
      not_refused false false true false rest h = cc
      not_refused false false false true rest h = cc
      not_refused false false false false rest h = cc

-- nothing was done where making it was refused
pub not_made_then : (t : TextState) (op : Operation) (new : TextState) (sent sent' : List (List ℕ))
    (result : Result (Unit {0}) Refusal) (why : Refusal) → IsErrAnd result (λ e. e ≡ why) → IsWhyNot t op why
    → (new ≡ t) × (sent' ≡ sent) → SendsOne t op result new sent sent'
not_made_then t op new sent sent' (Ok done) why err whynot same = absurd err
not_made_then t op new sent sent' (Err e) why err whynot same =
    (subst (IsWhyNot t op) (sym err) whynot, same.0, same.1)

-- what is deleted is characters' names, still
pub kept_by : (t new : TextState) (names : List Range) → IsText (with_operation t (own_op t (delete names)))
    → HasTaken t (own_op t (delete names)) new → AreCharNames new.operations names
kept_by t new names text taken =
    subst (λ (ops : List Operation). AreCharNames ops names) (sym (ap (λ (x : TextState). x.operations) taken.grown))
    text.deleted
