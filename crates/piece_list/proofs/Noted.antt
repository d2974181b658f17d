-- What a note tells, piece by piece.
use Rattle.std.proofs.Common.{◌≡◌, ℕ, ◌+◌, ◌-◌, ◌<◌, ◌≤◌, Bool, true, false, cond, List, [], ◌∷◌, ◌++◌}
use Rattle.std.proofs.Common.{length, get_or, take, drop, map, All, refl, sym, ap, subst, ◌∙◌, arith, append_assoc}
use Rattle.std.proofs.lemmas.List.{append-nil, map-append, length-map}
use Rattle.std.proofs.lemmas.List.Sums.{sum_by_more}
use Rattle.std.proofs.lemmas.List.Elements.{All-append, All-cons, All-nil}
use Rattle.std.proofs.Math.Seq.{take-append_seam, drop-append_seam, take-append-add}
use Rattle.looks.specs.declared.key.Key.{Key}
use Rattle.looks.specs.declared.looks.Looks.{Looks}
use Rattle.char_files.specs.CharName.{CharName}
use Rattle.operations.specs.NameSet.{Range, IsAmong, names_of}
use Rattle.tree_order.specs.Registers.{Atom}
use Rattle.piece_raw.specs.Ring.{AreTags, IsMember, with_value}
use Rattle.rank_index.specs.Ranked.{IsRank}
use Rattle.list_changes.specs.declared.change.Change.{Change}
use Rattle.list_changes.specs.declared.change.ChangeKind.TheVariants.{Replace}
use Rattle.list_changes.specs.Changes.{AreAlike, IsOfKind, Trades, Makes, Leads}
use Rattle.list_changes.proofs.Leading.{leads-append, replaces-keep}
use Rattle.piece_list.specs.declared.setting.Setting.{Setting}
use Rattle.piece_list.specs.declared.setting.Setting.TheVariants.{Switch, Relook}
use Rattle.piece_list.specs.declared.run.Run.{Run}
use Rattle.piece_list.specs.Piece.{Piece}
use Rattle.piece_list.specs.Changing.{changed_piece}
use Rattle.piece_list.specs.Held.{weighed}
use Rattle.piece_list.specs.Noted.{appearances, names_of_shown, SameName, Notes, IsOf, IsNoted, setting_kind}
use Rattle.piece_list.specs.Noted.{ShowsOther, ShowsTheSame, name_count}
use Rattle.piece_list.specs.Pieces.{range_of, chars_of}
use Rattle.piece_list.specs.Shown.{Appearance, appearance_of, appearance_in, appearances_in, piece_run, looks_of}
use Rattle.piece_list.specs.Spelled.{spelled, shown_chars}
use Rattle.piece_list.proofs.ChangedPiece.{changes_each}
use Rattle.piece_list.proofs.ChangedNames.{only_range}
use Rattle.piece_list.proofs.Changes.{in_range}
use Rattle.piece_list.proofs.Splitting.{written}
use Rattle.piece_list.proofs.Found.{one_value}
use Rattle.piece_list.proofs.Weighed.{Weights, ranked_piece}
use Rattle.piece_list.proofs.Positions.{Items, shown_in}
use Rattle.piece_list.proofs.Shown.{shown_by, shown_both, shown_cons, count_chars, told}

-- what a piece shows
abbrev pub told_by : Piece → List Appearance
told_by p = map appearance_of (shown_by p)

hidden_tells : (p : Piece) → p.hidden.value ≡ true → told_by p ≡ []
hidden_tells p hidden = ap (λ (b : Bool). map appearance_of (cond b [] (chars_of p))) hidden

shown_tells : (p : Piece) → p.hidden.value ≡ false → told_by p ≡ appearances_in (piece_run p)
shown_tells p shown =
    ap (λ (b : Bool). map appearance_of (cond b [] (chars_of p))) shown ∙ sym (told p (names_of (range_of p)))

pub count_tells : (p : Piece) → p.hidden.value ≡ false → length (told_by p) ≡ p.len
count_tells p shown =
    ap (λ (b : Bool). length (map appearance_of (cond b [] (chars_of p)))) shown
    ∙ length-map (chars_of p) appearance_of ∙ count_chars p

-- what is told of names in two runs is of the same characters
alike_in : (r q : Run) (cs : List CharName)
    → AreAlike SameName (map (appearance_in r) cs) (map (appearance_in q) cs)
alike_in r q [] = tt
alike_in r q (c ∷ cs) = (refl, alike_in r q cs)

names_in : (r : Run) (cs : List CharName) → names_of_shown (map (appearance_in r) cs) ≡ cs
names_in r [] = refl
names_in r (c ∷ cs) = ap (λ (l : List CharName). c ∷ l) (names_in r cs)

-- a list tells what its pieces show
pub parts : (xs ys : Items) (tag : ℕ) (p : Piece)
    → appearances (xs ++ (tag, p) ∷ ys) ≡ appearances xs ++ (told_by p ++ appearances ys)
parts xs ys tag p =
    ap (map appearance_of) (shown_both xs ((tag, p) ∷ ys)
    ∙ ap (λ (ks : List Atom). shown_chars (spelled xs) ++ ks) (shown_cons (tag, p) ys))
    ∙ map-append appearance_of (shown_chars (spelled xs)) (shown_by p ++ shown_chars (spelled ys))
    ∙ ap (λ (l : List Appearance). appearances xs ++ l)
    (map-append appearance_of (shown_by p) (shown_chars (spelled ys)))

-- a stretch of a list
stretch : (xs ys zs : List CharName) (beg len : ℕ) → length xs ≡ beg → length ys ≡ len
    → drop beg (take (beg + len) (xs ++ (ys ++ zs))) ≡ ys
stretch xs ys zs beg len at is =
    ap (λ (n : ℕ). drop n (take (n + len) (xs ++ (ys ++ zs)))) (sym at)
    ∙ ap (λ (n : ℕ). drop (length xs) (take (length xs + n) (xs ++ (ys ++ zs)))) (sym is)
    ∙ ap (drop (length xs)) (take-append-add xs (ys ++ zs) (length ys)
    ∙ ap (λ (l : List CharName). xs ++ l) (take-append_seam ys zs))
    ∙ drop-append_seam xs ys

-- what goes for what comes, where a piece shows something else
trades : (setting : Setting) (beg : ℕ) (p w : Piece) → range_of w ≡ range_of p → ShowsOther setting p w
    → Trades SameName (setting_kind setting) beg (beg + w.len) (told_by p) (told_by w)
trades (Switch true key) beg p w same (was, is) =
    let len : w.len ≡ p.len = ap (λ (r : Range). r.len) same in
    (hidden_tells w is, omega (arith, count_tells p was, len))
trades (Switch false key) beg p w same (was, is) =
    (hidden_tells p was, omega (arith, count_tells w is))
trades (Relook sel looks key) beg p w same (shown, is) =
    let len : w.len ≡ p.len = ap (λ (r : Range). r.len) same in
    let come : told_by w ≡ map (appearance_in (piece_run w)) (names_of (range_of p)) =
    shown_tells w is ∙ ap (λ (r : Range). map (appearance_in (piece_run w)) (names_of r)) same in (
      subst (λ (l : List Appearance). AreAlike SameName l (told_by w)) (sym (shown_tells p shown))
          (subst (AreAlike SameName (appearances_in (piece_run p))) (sym come)
          (alike_in (piece_run p) (piece_run w) (names_of (range_of p)))),
      omega (arith, count_tells p shown, len),
    )

-- of a piece that is set, where it stands
module _ (setting : Setting) (xs ys : Items) (tag : ℕ) (p w : Piece) (same : range_of w ≡ range_of p) where
  abbrev entry : ℕ → Change
  entry beg = record { kind = setting_kind setting; beg = beg; end = beg + w.len }

  abbrev pieces_were : Items
  pieces_were = xs ++ (tag, p) ∷ ys

  abbrev pieces_are : Items
  pieces_are = xs ++ (tag, w) ∷ ys

  begins : (beg : ℕ) → beg ≡ shown_in xs → length (appearances xs) ≡ beg
  begins beg at = length-map (shown_chars (spelled xs)) appearance_of ∙ sym at

  made : (beg : ℕ) → beg ≡ shown_in xs → ShowsOther setting p w
      → Makes SameName (entry beg) (appearances pieces_were) (appearances pieces_are)
  made beg at other = record {
    front = appearances xs;
    gone = told_by p;
    come = told_by w;
    back = appearances ys;
    before = parts xs ys tag p;
    after = parts xs ys tag w;
    at = begins beg at;
    trades = trades setting beg p w same other;
  }

  -- the names of the stretch are the piece's
  named : (beg : ℕ) → beg ≡ shown_in xs → p.hidden.value ≡ false
      → All (IsAmong (range_of p ∷ [])) (drop beg (take (beg + w.len) (names_of_shown (appearances pieces_were))))
  named beg at shown =
      let name : Appearance → CharName = λ (s : Appearance). s.name in
      let own : names_of_shown (told_by p) ≡ names_of (range_of p) =
      ap names_of_shown (shown_tells p shown) ∙ names_in (piece_run p) (names_of (range_of p)) in
      let all : names_of_shown (appearances pieces_were)
      ≡ names_of_shown (appearances xs) ++ (names_of_shown (told_by p) ++ names_of_shown (appearances ys)) =
      ap names_of_shown (parts xs ys tag p) ∙ map-append name (appearances xs) (told_by p ++ appearances ys)
      ∙ ap (λ (l : List CharName). names_of_shown (appearances xs) ++ l)
      (map-append name (told_by p) (appearances ys)) in
      let len : w.len ≡ p.len = ap (λ (r : Range). r.len) same in
      let front : length (names_of_shown (appearances xs)) ≡ beg =
      length-map (appearances xs) name ∙ begins beg at in
      let counted : length (names_of_shown (told_by p)) ≡ w.len =
      length-map (told_by p) name ∙ count_tells p shown ∙ sym len in
      let is : drop beg (take (beg + w.len) (names_of_shown (appearances pieces_were))) ≡ names_of (range_of p) =
      ap (λ (l : List CharName). drop beg (take (beg + w.len) l)) all
      ∙ stretch (names_of_shown (appearances xs)) (names_of_shown (told_by p)) (names_of_shown (appearances ys)) beg
      w.len front counted ∙ own in
      subst (All (IsAmong (range_of p ∷ []))) (sym is)
      (λ i d lt. (0, range_of p, omega arith, refl, in_range p i d lt))

-- the entry is of the setting's sort
of_sort : (setting : Setting) (xs ys : Items) (tag beg : ℕ) (p w : Piece) → range_of w ≡ range_of p → 0 < w.len
    → beg ≡ shown_in xs → ShowsOther setting p w
    → IsOf setting (range_of p ∷ []) (appearances (xs ++ (tag, p) ∷ ys))
    (record { kind = setting_kind setting; beg = beg; end = beg + w.len })
of_sort (Switch hidden key) xs ys tag beg p w same some at other = (refl, omega (arith, some))
of_sort (Relook sel looks key) xs ys tag beg p w same some at (shown, is) =
    ((refl, omega (arith, some)), named (Relook sel looks key) xs ys tag p w same beg at shown)

-- one entry more tells of the piece
pub noted_one : (setting : Setting) (xs ys : Items) (tag beg : ℕ) (p w : Piece) (old new : List Change)
    → range_of w ≡ range_of p → 0 < w.len → beg ≡ shown_in xs → ShowsOther setting p w
    → new ≡ old ++ record { kind = setting_kind setting; beg = beg; end = beg + w.len } ∷ []
    → IsNoted setting (range_of p ∷ []) old new (xs ++ (tag, p) ∷ ys) (xs ++ (tag, w) ∷ ys)
noted_one setting xs ys tag beg p w old new same some at other insert =
    let was : List Appearance = appearances (xs ++ (tag, p) ∷ ys) in
    let entry : Change = record { kind = setting_kind setting; beg = beg; end = beg + w.len } in
    let Is : Change → Type 0 = λ (change : Change). IsOf setting (range_of p ∷ []) was change in
    record {
      gained = entry ∷ [];
      kept = insert;
      each = All-cons Is entry [] (of_sort setting xs ys tag beg p w same some at other) (All-nil Is);
      leads = (appearances (xs ++ (tag, w) ∷ ys), made setting xs ys tag p w same beg at other, refl);
    }

-- nothing new tells that what is shown is as before
pub noted_none : (setting : Setting) (names : List Range) (old : List Change) (was now : Items)
    → appearances now ≡ appearances was → IsNoted setting names old old was now
noted_none setting names old was now same = record {
  gained = [];
  kept = sym (append-nil old);
  each = All-nil (λ (change : Change). IsOf setting names (appearances was) change);
  leads = same;
}

-- the same keys
abbrev HaveKeysOf : (p w : Piece) → Type 0
HaveKeysOf p w = (w.key ≡ p.key) × (w.rising ≡ p.rising)

-- a piece that shows the same
same_told : (p w : Piece) → range_of w ≡ range_of p → HaveKeysOf p w → ShowsTheSame p w → told_by w ≡ told_by p
same_told p w same (key, rising) (hidden, looks) = go p.hidden.value refl
  where
    go : (b : Bool) → p.hidden.value ≡ b → told_by w ≡ told_by p
    go true is = hidden_tells w (hidden ∙ is) ∙ sym (hidden_tells p is)
    go false is =
        let run : Range → Key → Bool → Looks → Run =
        λ (r : Range) (k : Key) (b : Bool) (l : Looks). record {
          site = r.site;
          off = r.at;
          len = r.len;
          key = k;
          rising = b;
          looks = l;
        } in
        let runs : piece_run w ≡ piece_run p =
        ap (λ (r : Range). run r w.key w.rising (looks_of w)) same
        ∙ ap (λ (k : Key). run (range_of p) k w.rising (looks_of w)) key
        ∙ ap (λ (b : Bool). run (range_of p) p.key b (looks_of w)) rising
        ∙ ap (run (range_of p) p.key p.rising) (looks is) in
        shown_tells w (hidden ∙ is) ∙ ap appearances_in runs ∙ sym (shown_tells p is)

pub same_shown : (xs ys : Items) (tag : ℕ) (p w : Piece) → range_of w ≡ range_of p → HaveKeysOf p w
    → ShowsTheSame p w → appearances (xs ++ (tag, w) ∷ ys) ≡ appearances (xs ++ (tag, p) ∷ ys)
same_shown xs ys tag p w same keys is =
    parts xs ys tag w
    ∙ ap (λ (l : List Appearance). appearances xs ++ (l ++ appearances ys)) (same_told p w same keys is)
    ∙ sym (parts xs ys tag p)

keeps_keys : (setting : Setting) (p w : Piece) → w ≡ changed_piece setting p → HaveKeysOf p w
keeps_keys (Switch hidden key) p w is = (ap (λ (q : Piece). q.key) is, ap (λ (q : Piece). q.rising) is)
keeps_keys (Relook sel looks key) p w is = (ap (λ (q : Piece). q.key) is, ap (λ (q : Piece). q.rising) is)

-- of a piece of a list, before and after it is set
module _ (setting : Setting) (items : Items) (tag : ℕ) (p w : Piece) (are : AreTags items)
    (is_w : w ≡ changed_piece setting p) where
  range_stays : range_of w ≡ range_of p
  range_stays = ap range_of is_w ∙ (changes_each setting p).0

  set_there : (xs ys : Items) → items ≡ xs ++ (tag, p) ∷ ys → with_value tag w items ≡ xs ++ (tag, w) ∷ ys
  set_there xs ys is = ap (with_value tag w) is ∙ written xs ys tag p w (subst AreTags is are)

  pub noted_turn : (index : Weights) (beg : ℕ) (old new : List Change) → index ≡ weighed items
      → IsMember items tag p → 0 < p.len → ShowsOther setting p w → IsRank index tag beg
      → new ≡ old ++ record { kind = setting_kind setting; beg = beg; end = beg + w.len } ∷ []
      → IsNoted setting (range_of p ∷ []) old new items (with_value tag w items)
  noted_turn index beg old new same member some other rank insert =
      let (weight, found) = ranked_piece items index tag beg same rank in
      let one : found.piece ≡ p =
      one_value items are tag found.piece p (found.front, found.after, found.whole) member in
      let is : items ≡ found.front ++ (tag, p) ∷ found.after =
      found.whole ∙ ap (λ (q : Piece). found.front ++ (tag, q) ∷ found.after) one in
      subst (λ (l : Items). IsNoted setting (range_of p ∷ []) old new l (with_value tag w items)) (sym is)
      (subst (λ (l : Items). IsNoted setting (range_of p ∷ []) old new (found.front ++ (tag, p) ∷ found.after) l)
      (sym (set_there found.front found.after is))
      (noted_one setting found.front found.after tag beg p w old new range_stays
      (omega (arith, some, ap (λ (r : Range). r.len) range_stays)) found.before_is other insert))

  pub noted_still : (names : List Range) (old : List Change) → IsMember items tag p → ShowsTheSame p w
      → IsNoted setting names old old items (with_value tag w items)
  noted_still names old (xs, ys, is) same =
      noted_none setting names old items (with_value tag w items)
      (ap appearances (set_there xs ys is)
      ∙ same_shown xs ys tag p w range_stays (keeps_keys setting p w is_w) same
      ∙ sym (ap appearances is))

-- a note of fewer names is one of more
wider_sort : (setting : Setting) (few more : List Range) (shown : List Appearance) (changes : List Change)
    → ((c : CharName) → IsAmong few c → IsAmong more c) → All (λ change. IsOf setting few shown change) changes
    → All (λ change. IsOf setting more shown change) changes
wider_sort (Switch hidden key) few more shown changes wider all = all
wider_sort (Relook sel looks key) few more shown changes wider all = λ i d lt.
    let (kind, named) = all i d lt in (kind, λ j e less. wider _ (named j e less))

pub noted_wider : (setting : Setting) (few more : List Range) (old new : List Change) (was now : Items)
    → ((c : CharName) → IsAmong few c → IsAmong more c) → IsNoted setting few old new was now
    → IsNoted setting more old new was now
noted_wider setting few more old new was now wider note = record {
  gained = note.gained;
  kept = note.kept;
  each = wider_sort setting few more (appearances was) note.gained wider note.each;
  leads = note.leads;
}

-- entries after others are of their sort in the first list, too
sort_from : (setting : Setting) (names : List Range) (was mid : List Appearance) (first then : List Change)
    → All (λ change. IsOf setting names was change) first → Leads SameName first was mid
    → All (λ change. IsOf setting names mid change) then → All (λ change. IsOf setting names was change) then
sort_from (Switch hidden key) names was mid first then one leads all = all
sort_from (Relook sel looks key) names was mid first then one leads all =
    let name : Appearance → CharName = λ (s : Appearance). s.name in
    let stays : names_of_shown mid ≡ names_of_shown was =
    replaces-keep SameName name (λ x y same. sym same) first was mid (λ i d lt. (one i d lt).0.0) leads in
    subst (λ (l : List CharName). All (λ (change : Change). IsOfKind Replace change
    × All (IsAmong names) (drop change.beg (take change.end l))) then) stays all

-- one note goes on where another one ends
pub noted_more : (setting : Setting) (names : List Range) (old mid new : List Change) (was between now : Items)
    → IsNoted setting names old mid was between → IsNoted setting names mid new between now
    → IsNoted setting names old new was now
noted_more setting names old mid new was between now one two =
    let Is : Change → Type 0 = λ (change : Change). IsOf setting names (appearances was) change in
    record {
      gained = one.gained ++ two.gained;
      kept = two.kept ∙ ap (λ (l : List Change). l ++ two.gained) one.kept
          ∙ append_assoc old one.gained two.gained;
      each = All-append Is one.gained two.gained one.each
          (sort_from setting names (appearances was) (appearances between) one.gained two.gained one.each
          one.leads two.each);
      leads = leads-append SameName one.gained two.gained (appearances was) (appearances between)
          (appearances now) one.leads two.leads;
    }

-- pieces that spell the same show the same
pub noted_along : (setting : Setting) (names : List Range) (old new : List Change) (was other now : Items)
    → spelled other ≡ spelled was → IsNoted setting names old new other now
    → IsNoted setting names old new was now
noted_along setting names old new was other now same note =
    subst (λ (ks : List Atom). Notes (λ (change : Change). IsOf setting names (map appearance_of (shown_chars ks)) change)
    old new (map appearance_of (shown_chars ks)) (appearances now)) same note

-- the names of a set's first ranges, and of the next one
pub one_range_more : (ranges : List Range) (i : ℕ) (r : Range) → i < length ranges → r ≡ get_or ranges i r
    → name_count (take (i + 1) ranges) ≡ name_count (take i ranges) + r.len
one_range_more ranges i r lt is =
    sum_by_more (λ (s : Range). s.len) ranges i r lt
    ∙ ap (λ (s : Range). name_count (take i ranges) + s.len) (sym is)

-- a set has the names of each of its ranges
pub range_among : (ranges : List Range) (i : ℕ) (r : Range) (c : CharName) → i < length ranges
    → r ≡ get_or ranges i r → IsAmong (r ∷ []) c → IsAmong ranges c
range_among ranges i r c lt at held = (i, r, lt, sym at, only_range r c held)

-- one piece more of a range
pub noted_on : (setting : Setting) (r : Range) (name : CharName) (to : ℕ) (old mid new : List Change)
    (was between now : Items) → name.site ≡ r.site → r.at ≤ name.off → to ≤ r.at + r.len
    → IsNoted setting (r ∷ []) old mid was between
    → IsNoted setting (record { site = name.site; at = name.off; len = to - name.off } ∷ []) mid new between now
    → IsNoted setting (r ∷ []) old new was now
noted_on setting r name to old mid new was between now site from ends one two =
    let part : Range = record { site = name.site; at = name.off; len = to - name.off } in
    noted_more setting (r ∷ []) old mid new was between now one
    (noted_wider setting (part ∷ []) (r ∷ []) mid new between now (λ c held.
    let (own, low, high) = only_range part c held in
    (0, r, omega arith, refl, (own ∙ site, omega (arith, low, from), omega (arith, high, ends)))) two)
