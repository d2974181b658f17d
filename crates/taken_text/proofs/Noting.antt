-- What a note tells of a text, operation by operation.
use Rattle.std.proofs.Common.{◌≡◌, ℕ, zero, suc, ◌+◌, ◌-◌, ◌<◌, ◌≤◌, ◌⊎◌, not, List, [], ◌∷◌, ◌++◌, length, get_or, map, take, drop, All, refl, sym, ap, subst, ◌∙◌, inl, inr, arith, append_assoc}
use Rattle.std.specs.Prelude.{slice_index, slice_range}
use Rattle.std.proofs.lemmas.Bool.{cases_lt}
use Rattle.std.proofs.lemmas.List.{append-nil, length-append, length-take, take_all, take-append-le, drop-append-le, drop_all, drop-take, drop-map, take-map, take-append-drop}
use Rattle.std.proofs.lemmas.List.Elements.{All-filter, All-head, All-tail, All-cons, All-nil}
use Rattle.std.proofs.lemmas.Simd.{map-map}
use Rattle.char_files.specs.CharFiles.{FilesBySite, bytes_of, OtherSitesStay, SameBytes}
use Rattle.char_files.specs.CharName.{CharName}
use Rattle.char_files.specs.declared.character.Char.{Char}
use Rattle.operations.specs.NameSet.{Range, IsAmong}
use Rattle.operations.specs.Operation.{Operation, change_looks}
use Rattle.looks.specs.Sel.{Selection}
use Rattle.looks.specs.declared.looks.Looks.{Looks}
use Rattle.list_changes.specs.Changes.{Leads}
use Rattle.list_changes.specs.declared.change.Change.{Change}
use Rattle.list_changes.specs.declared.change.ChangeKind.TheVariants.{Insert}
use Rattle.tree_order.specs.Registers.{Atom}
use Rattle.tree_order.specs.Shown.{IsShown}
use Rattle.list_changes.proofs.Leading.{leads-append, leads-mapped}
use Rattle.piece_list.specs.Piece.{Piece}
use Rattle.piece_list.specs.Noted.{Notes, SameName, IsReplaceOf, appearances, names_of_shown}
use Rattle.piece_list.specs.Shown.{Appearance, appearance_of}
use Rattle.piece_list.specs.Spelled.{spelled, shown_chars}
use Rattle.taken_text.specs.Noted.{AreChangesAfter, AreChangesOf, AreChangesOfAll, AreChangesSince, AreToldTogether, GainsChangesOf, IsChangeOf, SameChar, insertion_of}
use Rattle.taken_text.specs.Shown.{with_byte}
use Rattle.taken_text.specs.Taken.{IsTaken, char_in, chars_shown}
use Rattle.taken_text.proofs.Bytes.{byte_stays}
use Rattle.taken_text.proofs.Counted.{HasByteIn, have_bytes}
use Rattle.taken_text.proofs.Nothing.{nothing_is_taken}
use Rattle.taken_text.proofs.Spelling.{is_shown}

abbrev Items : Type 0
Items = List (ℕ × Piece)

-- Changes of what pieces show are changes of what the files' bytes make of it.
module _ (files : FilesBySite) where
  told_chars : (items : Items) → map (with_byte files) (appearances items) ≡ chars_shown items files
  told_chars items = map-map (with_byte files) appearance_of (shown_chars (spelled items))

  same_char : (x y : Appearance) → SameName x y → SameChar (with_byte files x) (with_byte files y)
  same_char x y same = (same, ap (λ (c : CharName). slice_index (bytes_of files c.site) c.off) same)

  leads_told : (changes : List Change) (was now : Items) → Leads SameName changes (appearances was) (appearances now)
      → Leads SameChar changes (chars_shown was files) (chars_shown now files)
  leads_told changes was now leads =
      subst (Leads SameChar changes (chars_shown was files)) (told_chars now)
      (subst (λ (l : List Char). Leads SameChar changes l (map (with_byte files) (appearances now))) (told_chars was)
      (leads-mapped SameName SameChar (with_byte files) same_char changes (appearances was) (appearances now) leads))

-- the byte of a character is the same in both files
abbrev StaysIn : FilesBySite → FilesBySite → Atom → Type 0
StaysIn files files' k =
    slice_index (bytes_of files' k.name.site) k.name.off ≡ slice_index (bytes_of files k.name.site) k.name.off

chars_stay : (files files' : FilesBySite) (atoms : List Atom) → All (StaysIn files files') atoms
    → map (char_in files') atoms ≡ map (char_in files) atoms
chars_stay files files' [] all = refl
chars_stay files files' (k ∷ atoms) all =
    ap (λ (b : ℕ). record (char_in files k) { byte = b } ∷ map (char_in files') atoms)
    (All-head (StaysIn files files') k atoms all)
    ∙ ap (λ (cs : List Char). char_in files k ∷ cs)
    (chars_stay files files' atoms (All-tail (StaysIn files files') k atoms all))

-- files of the same bytes show the same
pub shown_same : (items items' : Items) (files files' : FilesBySite) → items' ≡ items → SameBytes files files'
    → chars_shown items' files' ≡ chars_shown items files
shown_same items items' files files' same bytes =
    ap (λ (l : Items). chars_shown l files') same
    ∙ chars_stay files files' (shown_chars (spelled items))
    (λ i d lt. ap (λ (bs : List ℕ). slice_index bs (get_or (shown_chars (spelled items)) i d).name.off)
    (bytes (get_or (shown_chars (spelled items)) i d).name.site))

-- and so do files that gain bytes at an end
pub shown_stay : (ops : List Operation) (items : Items) (files files' : FilesBySite) (site : ℕ) (bytes : List ℕ)
    → IsTaken ops items files → bytes_of files' site ≡ bytes_of files site ++ bytes → OtherSitesStay files site files'
    → chars_shown items files' ≡ chars_shown items files
shown_stay ops items files files' site bytes taken own others =
    chars_stay files files' (shown_chars (spelled items))
    (λ i d lt. byte_stays files files' site bytes own others (get_or (shown_chars (spelled items)) i d).name
    (All-filter (λ (k : Atom). not k.hidden.value) (λ (k : Atom). HasByteIn files k.name) (spelled items)
    (have_bytes ops items files taken) i d lt))

-- what is before one position and not before another
one_stretch : {X : Type 0} (xs : List X) (beg end : ℕ) → drop beg (take end xs) ≡ take (end - beg) (drop beg xs)
one_stretch {X} xs beg end = elim (cases_lt beg end) [
  | inl lt ↦
      let e : end ≡ beg + (end - beg) = omega arith in
      ap (λ (n : ℕ). drop beg (take n xs)) e ∙ drop-take beg (end - beg) xs
  | inr le ↦
      let none : end - beg ≡ 0 = omega arith in
      drop_all beg (take end xs) (omega (arith, length-take end xs))
      ∙ ap (λ (n : ℕ). take n (drop beg xs)) (sym none)
]

-- a stretch of names is that of characters
named_stretch : (names : List Range) (shown : List Char) (beg end : ℕ)
    → All (IsAmong names) (drop beg (take end (map (λ (c : Char). c.name) shown)))
    → All (λ c. IsAmong names c.name) (slice_range shown beg end)
named_stretch names shown beg end all =
    let name : Char → CharName = λ (c : Char). c.name in
    let stretch : drop beg (take end (map name shown)) ≡ map name (slice_range shown beg end) =
    one_stretch (map name shown) beg end ∙ ap (take (end - beg)) (drop-map name beg shown)
    ∙ take-map name (end - beg) (drop beg shown) in
    each_named (slice_range shown beg end) (subst (All (IsAmong names)) stretch all)
  where
    each_named : (cs : List Char) → All (IsAmong names) (map (λ (c : Char). c.name) cs)
        → All (λ c. IsAmong names c.name) cs
    each_named [] all = All-nil (λ (c : Char). IsAmong names c.name)
    each_named (c ∷ cs) all =
        let name : Char → CharName = λ (d : Char). d.name in
        All-cons (λ (d : Char). IsAmong names d.name) c cs (All-head (IsAmong names) c.name (map name cs) all)
        (each_named cs (All-tail (IsAmong names) c.name (map name cs) all))

-- replaces of names that a ChangeLooks has are its changes
pub replaces_told : (names : List Range) (sel : Selection) (looks : Looks) (items : Items) (files : FilesBySite) (changes : List Change)
    → All (IsReplaceOf names (appearances items)) changes
    → All (IsChangeOf (change_looks sel looks names) (chars_shown items files)) changes
replaces_told names sel looks items files changes all = λ i d lt.
    let (kind, named) = all i d lt in
    let change : Change = get_or changes i d in
    let same : names_of_shown (appearances items) ≡ map (λ (c : Char). c.name) (chars_shown items files) =
    map-map (λ (a : Appearance). a.name) appearance_of (shown_chars (spelled items))
    ∙ sym (map-map (λ (c : Char). c.name) (char_in files) (shown_chars (spelled items))) in (
      kind,
      named_stretch names (chars_shown items files) change.beg change.end
          (subst (λ (l : List CharName). All (IsAmong names) (drop change.beg (take change.end l))) same named),
    )

-- What is noted of pieces is noted of the text, for one operation more.
pub gains_told : (ops : List Operation) (op : Operation) (Is : Change → Type 0) (old new : List Change) (was now : Items)
    (files files' : FilesBySite) → IsTaken (ops ++ op ∷ []) now files' → chars_shown was files' ≡ chars_shown was files
    → ((changes : List Change) → All Is changes → All (IsChangeOf op.kind (chars_shown was files)) changes)
    → Notes Is old new (appearances was) (appearances now)
    → GainsChangesOf ops op old new (chars_shown was files) (chars_shown now files')
gains_told ops op Is old new was now files files' taken stay sort notes = record {
  gained = notes.gained;
  kept = notes.kept;
  told = record {
    shown = is_shown (ops ++ op ∷ []) now files' taken;
    each = sort notes.gained notes.each;
    leads = subst (λ (l : List Char). Leads SameChar notes.gained l (chars_shown now files')) stay
        (leads_told files' notes.gained was now notes.leads);
  };
}

-- changes of one operation more, after those of others
told_more : (ops more : List Operation) (op : Operation) (changes gained : List Change) (was mid now : List Char)
    → AreChangesOfAll ops more changes was mid → AreChangesOf (ops ++ more) op gained mid now
    → AreChangesOfAll ops (more ++ op ∷ []) (changes ++ gained) was now
told_more ops [] op changes gained was mid now (none, same) told = (
  gained,
  [],
  now,
  ap (λ (l : List Change). l ++ gained) none ∙ sym (append-nil gained),
  subst (λ (l : List Char). AreChangesOf ops op gained l now) same
      (subst (λ (l : List Operation). AreChangesOf l op gained mid now) (append-nil ops) told),
  (refl, refl),
)
told_more ops (o ∷ more) op changes gained was mid now (here, rest, next, parts, one, others) told = (
  here,
  rest ++ gained,
  next,
  ap (λ (l : List Change). l ++ gained) parts ∙ append_assoc here rest gained,
  one,
  told_more (ops ++ o ∷ []) more op rest gained next mid now others
      (subst (λ (l : List Operation). AreChangesOf l op gained mid now) (sym (append_assoc ops (o ∷ []) more)) told),
)

after_more : (n : ℕ) (ops : List Operation) (op : Operation) (changes gained : List Change) (was mid now : List Char)
    → AreChangesAfter n ops changes was mid → AreChangesOf ops op gained mid now
    → AreChangesAfter n (ops ++ op ∷ []) (changes ++ gained) was now
after_more n ops op changes gained was mid now after one =
    let front : take n (ops ++ op ∷ []) ≡ take n ops = take-append-le n ops (op ∷ []) after.within in
    let back : drop n (ops ++ op ∷ []) ≡ drop n ops ++ op ∷ [] = drop-append-le n ops (op ∷ []) after.within in
    let told : AreChangesOf (take n ops ++ drop n ops) op gained mid now =
    subst (λ (l : List Operation). AreChangesOf l op gained mid now) (sym (take-append-drop n ops)) one in
    let all : AreChangesOfAll (take n ops) (drop n ops ++ op ∷ []) (changes ++ gained) was now =
    told_more (take n ops) (drop n ops) op changes gained was mid now after.told told in
    record {
      within = omega (arith, after.within, length-append ops (op ∷ []));
      shown = subst (λ (l : List Operation). IsShown l was) (sym front) after.shown;
      told = subst (λ (l : List Operation). AreChangesOfAll l (drop n (ops ++ op ∷ [])) (changes ++ gained) was now) (sym front)
          (subst (λ (l : List Operation). AreChangesOfAll (take n ops) l (changes ++ gained) was now) (sym back) all);
    }

-- so it is whether they tell of each or of the first together
told_so_more : (asked : ℕ) (ops : List Operation) (op : Operation) (changes gained : List Change) (was mid now : List Char)
    → AreChangesAfter asked ops changes was mid ⊎ AreToldTogether asked ops changes was mid → AreChangesOf ops op gained mid now
    → AreChangesAfter asked (ops ++ op ∷ []) (changes ++ gained) was now ⊎ AreToldTogether asked (ops ++ op ∷ []) (changes ++ gained) was now
told_so_more asked ops op changes gained was mid now (inl after) one =
    inl (after_more asked ops op changes gained was mid now after one)
told_so_more asked ops op changes gained was mid now (inr together) one = inr (record {
  first = together.first;
  nothing = together.nothing;
  together = together.together;
  mid = together.mid;
  rest = together.rest ++ gained;
  begin = ap (λ (l : List Change). l ++ gained) together.begin
      ∙ append_assoc (insertion_of (length together.mid)) together.rest gained;
  others = after_more together.together ops op together.rest gained together.mid mid now together.others one;
})

-- there are no more operations before them than there are
asked_within : (asked : ℕ) (ops : List Operation) (changes : List Change) (was now : List Char)
    → AreChangesAfter asked ops changes was now ⊎ AreToldTogether asked ops changes was now → asked ≤ length ops
asked_within asked ops changes was now (inl after) = after.within
asked_within asked ops changes was now (inr together) = omega (arith, together.first)

pub since_more : (asked : ℕ) (ops : List Operation) (op : Operation) (old new : List Change) (was now : List Char)
    → AreChangesSince asked ops old was → GainsChangesOf ops op old new was now
    → AreChangesSince asked (ops ++ op ∷ []) new now
since_more asked ops op old new was now since gains =
    let front : take asked (ops ++ op ∷ []) ≡ take asked ops =
    take-append-le asked ops (op ∷ []) (asked_within asked ops old since.was was since.told) in
    record {
      was = since.was;
      shown = subst (λ (l : List Operation). IsShown l since.was) (sym front) since.shown;
      told = subst (λ (l : List Change). AreChangesAfter asked (ops ++ op ∷ []) l since.was now
          ⊎ AreToldTogether asked (ops ++ op ∷ []) l since.was now) (sym gains.kept)
          (told_so_more asked ops op old gains.gained since.was was now since.told gains.told);
    }

-- where all are told there is nothing to tell
after_all : (ops : List Operation) (shown : List Char) → IsShown ops shown → AreChangesAfter (length ops) ops [] shown shown
after_all ops shown is = record {
  within = omega arith;
  shown = subst (λ (l : List Operation). IsShown l shown) (sym (take_all (length ops) ops (omega arith))) is;
  told = subst (λ (l : List Operation). AreChangesOfAll (take (length ops) ops) l [] shown shown)
      (sym (drop_all (length ops) ops (omega arith))) (refl, refl);
}

pub since_now : (ops : List Operation) (items : Items) (files : FilesBySite) → IsTaken ops items files
    → AreChangesSince (length ops) ops [] (chars_shown items files)
since_now ops items files taken =
    let after : AreChangesAfter (length ops) ops [] (chars_shown items files) (chars_shown items files) =
    after_all ops (chars_shown items files) (is_shown ops items files taken) in
    record { was = chars_shown items files; shown = after.shown; told = inl after }

-- one insertion tells of all operations together
pub since_together : (asked : ℕ) (ops : List Operation) (items : Items) (files : FilesBySite) → asked ≡ 0 → IsTaken ops items files
    → AreChangesSince asked ops (insertion_of (length (chars_shown items files))) (chars_shown items files)
since_together asked ops items files none taken = record {
  was = [];
  shown = subst (λ (n : ℕ). IsShown (take n ops) []) (sym none) (is_shown [] [] [] nothing_is_taken);
  told = inr (record {
    first = none;
    nothing = refl;
    together = length ops;
    mid = chars_shown items files;
    rest = [];
    begin = sym (append-nil (insertion_of (length (chars_shown items files))));
    others = after_all ops (chars_shown items files) (is_shown ops items files taken);
  });
}

pub is_insertion : (len : ℕ) (note : List Change) → (0 < len → note ≡ record { kind = Insert; beg = 0; end = len } ∷ [])
    → (len ≡ 0 → note ≡ []) → note ≡ insertion_of len
is_insertion zero note some none = none refl
is_insertion (suc n) note some none = some (omega arith)

-- the changes lead from what was shown to what is shown
all_lead : (ops more : List Operation) (changes : List Change) (was now : List Char)
    → AreChangesOfAll ops more changes was now → Leads SameChar changes was now
all_lead ops [] changes was now (none, same) =
    subst (λ (l : List Change). Leads SameChar l was now) (sym none) same
all_lead ops (op ∷ more) changes was now (here, rest, mid, parts, one, others) =
    subst (λ (l : List Change). Leads SameChar l was now) (sym parts)
    (leads-append SameChar here rest was mid now one.leads (all_lead (ops ++ op ∷ []) more rest mid now others))

-- one insertion of all leads from nothing to it
pub insertion_leads : (chars : List Char) → Leads SameChar (insertion_of (length chars)) [] chars
insertion_leads [] = refl
insertion_leads (c ∷ chars) = (
  c ∷ chars,
  record {
    front = [];
    gone = [];
    come = c ∷ chars;
    back = [];
    before = refl;
    after = sym (append-nil (c ∷ chars));
    at = refl;
    trades = (refl, omega arith);
  },
  refl,
)

told_so_lead : (asked : ℕ) (ops : List Operation) (changes : List Change) (was now : List Char)
    → AreChangesAfter asked ops changes was now ⊎ AreToldTogether asked ops changes was now → Leads SameChar changes was now
told_so_lead asked ops changes was now (inl after) = all_lead (take asked ops) (drop asked ops) changes was now after.told
told_so_lead asked ops changes was now (inr t) =
    subst (λ (l : List Char). Leads SameChar changes l now) (sym t.nothing)
    (subst (λ (l : List Change). Leads SameChar l [] now) (sym t.begin)
    (leads-append SameChar (insertion_of (length t.mid)) t.rest [] t.mid now (insertion_leads t.mid)
    (all_lead (take t.together ops) (drop t.together ops) t.rest t.mid now t.others.told)))

pub since_leads : (asked : ℕ) (ops : List Operation) (changes : List Change) (now : List Char)
    → (since : AreChangesSince asked ops changes now) → Leads SameChar changes since.was now
since_leads asked ops changes now since = told_so_lead asked ops changes since.was now since.told
