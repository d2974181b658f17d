-- Which viewers stand in a track as one closes, moves or opens, and the windows that still show their texts.
use Rattle.std.proofs.Common.{◌≡◌, ℕ, ◌+◌, ◌<◌, ◌≤◌, ◌⊎◌, List, [], ◌∷◌, ◌++◌, length, Bool, true, false, cond, eqb, eqb-true, refl, sym, ap, ◌∙◌, subst, inl, inr, arith, Option, Some, None}
use Rattle.std.specs.Prelude.{not, ◌&&◌}
use Rattle.std.proofs.lemmas.Bool.{ltb-true}
use Rattle.std.proofs.lemmas.Option.{same_Some}
use Rattle.viewers.specs.declared.screen.Track.{Track}
use Rattle.viewers.specs.declared.screen.Track.TheVariants.{User, System}
use Rattle.viewers.specs.declared.seats.Seat.{Seat}
use Rattle.viewers.specs.Screen.{ScreenSeen, after_close, after_closing, after_move, after_moving, has, seats_of, with_seats}
use Rattle.viewers.specs.Tracks.{can_move, closed, moved, opened, seat_index, row_for}
use Rattle.viewers.specs.Viewers.{AreViewers, ViewersSeen, after_opening, content_of, contents_without, has_room, numbers, seated, times, with_top, with_viewer, without_viewer}
use Rattle.viewers.proofs.Numbers.{none_next, one_if}
use Rattle.viewers.proofs.Seating.{has_no_times, has_times, seated_moved, times_closed, times_opened}
use Rattle.texts.specs.TextState.{TextState}
use Rattle.machine.specs.SiteTexts.{SiteTexts, IsTextOf}
use Rattle.machine.specs.declared.TheConstants.{MAX_TEXT}
use Rattle.text_frames.specs.Frames.{IsDrawn}
use Rattle.desk_windows.specs.Windows.{AllShow, ShowsText, WindowSeen, width_of}
use Rattle.desk_windows.proofs.Entries.{apart_at}

pub has_by_times : (seats : List Seat) (u : ℕ) → 0 < times u (seated seats) → has seats u ≡ true
has_by_times seats u some = by_test (has seats u) refl
  where
    by_test : (b : Bool) → has seats u ≡ b → b ≡ true
    by_test true is = refl
    by_test false is = let none = has_no_times seats u is in absurd (omega (arith, none, some))

has_closed : (seats : List Seat) (v u : ℕ) → has (after_close seats v) u ≡ true → has seats u ≡ true
has_closed seats v u is = by_test (has seats v) refl is
  where
    by_test : (b : Bool) → has seats v ≡ b → has (cond b (closed seats (seat_index seats v)) seats) u ≡ true → has seats u ≡ true
    by_test true at is =
        let some = has_times (closed seats (seat_index seats v)) u is in
        let out = times_closed seats (seat_index seats v) u (ltb-true (seat_index seats v) (length seats) at) in
        has_by_times seats u (omega (arith, some, out))
    by_test false at is = is

has_moved : (seats : List Seat) (v row u : ℕ) → has (after_move seats v row) u ≡ true → has seats u ≡ true
has_moved seats v row u is = by_test (has seats v && can_move seats (seat_index seats v) row) is
  where
    by_test : (b : Bool) → has (cond b (moved seats (seat_index seats v) row) seats) u ≡ true → has seats u ≡ true
    by_test true is =
        let some = has_times (moved seats (seat_index seats v) row) u is in
        let same = ap (times u) (seated_moved seats (seat_index seats v) row) in
        has_by_times seats u (omega (arith, some, same))
    by_test false is = is

pub closed_user : (t : ScreenSeen) (v u : ℕ) → has (after_closing t v).user u ≡ true → has t.user u ≡ true
closed_user t v u is = by_test (has t.user v) is
  where
    by_test : (b : Bool) → has (cond b (record t { user = after_close t.user v }) (record t { system = after_close t.system v })).user u ≡ true → has t.user u ≡ true
    by_test true is = has_closed t.user v u is
    by_test false is = is

pub closed_system : (t : ScreenSeen) (v u : ℕ) → has (after_closing t v).system u ≡ true → has t.system u ≡ true
closed_system t v u is = by_test (has t.user v) is
  where
    by_test : (b : Bool) → has (cond b (record t { user = after_close t.user v }) (record t { system = after_close t.system v })).system u ≡ true → has t.system u ≡ true
    by_test true is = is
    by_test false is = has_closed t.system v u is

pub closed_width : (t : ScreenSeen) (v : ℕ) → (after_closing t v).width ≡ t.width
closed_width t v = by_test (has t.user v)
  where
    by_test : (b : Bool) → (cond b (record t { user = after_close t.user v }) (record t { system = after_close t.system v })).width ≡ t.width
    by_test true = refl
    by_test false = refl

pub moved_user : (t : ScreenSeen) (v row u : ℕ) → has (after_moving t v row).user u ≡ true → has t.user u ≡ true
moved_user t v row u is = by_test (has t.user v) is
  where
    by_test : (b : Bool) → has (cond b (record t { user = after_move t.user v row }) (record t { system = after_move t.system v row })).user u ≡ true → has t.user u ≡ true
    by_test true is = has_moved t.user v row u is
    by_test false is = is

pub moved_system : (t : ScreenSeen) (v row u : ℕ) → has (after_moving t v row).system u ≡ true → has t.system u ≡ true
moved_system t v row u is = by_test (has t.user v) is
  where
    by_test : (b : Bool) → has (cond b (record t { user = after_move t.user v row }) (record t { system = after_move t.system v row })).system u ≡ true → has t.system u ≡ true
    by_test true is = is
    by_test false is = has_moved t.system v row u is

pub moved_width : (t : ScreenSeen) (v row : ℕ) → (after_moving t v row).width ≡ t.width
moved_width t v row = by_test (has t.user v)
  where
    by_test : (b : Bool) → (cond b (record t { user = after_move t.user v row }) (record t { system = after_move t.system v row })).width ≡ t.width
    by_test true = refl
    by_test false = refl

module _ {C : Type 0} where
  gone : (contents : List (ℕ × C)) (v u : ℕ) (w : C) → content_of (contents_without contents v) u ≡ Some w → u ≡ v → ⊥
  gone [] v u w e same = cc
  gone (entry ∷ rest) v u w e same = by_tests (λ h. gone rest v u w h same) (eqb entry.0 v) (eqb entry.0 u) refl refl e
    where
      by_tests : (content_of (contents_without rest v) u ≡ Some w → ⊥) → (a d : Bool) → eqb entry.0 v ≡ a → eqb entry.0 u ≡ d
          → content_of (cond (not a) (entry ∷ contents_without rest v) (contents_without rest v)) u ≡ Some w → ⊥
      by_tests more true d first third e = more e
      by_tests more false true first third e = apart_at entry.0 v first (eqb-true entry.0 u third ∙ same)
      by_tests more false false first third e =
          let h : content_of (contents_without rest v) u ≡ Some w = rw third at e in more h

  -- what is shown where another's content is gone was shown
  pub content_without : (contents : List (ℕ × C)) (v u : ℕ) (w : C)
      → content_of (contents_without contents v) u ≡ Some w → content_of contents u ≡ Some w
  content_without [] v u w e = e
  content_without (entry ∷ rest) v u w e =
      by_tests (content_without rest v u w) (eqb entry.0 v) (eqb entry.0 u) refl refl e
    where
      by_tests : (content_of (contents_without rest v) u ≡ Some w → content_of rest u ≡ Some w) → (a d : Bool)
          → eqb entry.0 v ≡ a → eqb entry.0 u ≡ d
          → content_of (cond (not a) (entry ∷ contents_without rest v) (contents_without rest v)) u ≡ Some w
          → content_of (entry ∷ rest) u ≡ Some w
      by_tests more true true first third e =
          absurd (gone rest v u w e (sym (eqb-true entry.0 u third) ∙ eqb-true entry.0 v first))
      by_tests more true false first third e = rw third (more e)
      by_tests more false true first third e =
          let h : Some entry.1 ≡ Some w = rw third at e in rw third h
      by_tests more false false first third e =
          let h : content_of (contents_without rest v) u ≡ Some w = rw third at e in rw third (more h)

  -- with one more, each shows what it showed, or is that one
  pub content_after : (contents : List (ℕ × C)) (n u : ℕ) (c w : C) → content_of (contents ++ (n, c) ∷ []) u ≡ Some w
      → (content_of contents u ≡ Some w) ⊎ ((u ≡ n) × (w ≡ c))
  content_after [] n u c w e = by_test (eqb n u) refl e
    where
      by_test : (b : Bool) → eqb n u ≡ b → ◌≡◌ {A = Option C} (cond b (Some c) None) (Some w)
          → (content_of [] u ≡ Some w) ⊎ ((u ≡ n) × (w ≡ c))
      by_test true is e = inr (sym (eqb-true n u is), sym (same_Some c w e))
      by_test false is e = cc
  content_after (entry ∷ rest) n u c w e = by_test (content_after rest n u c w) (eqb entry.0 u) e
    where
      by_test : (content_of (rest ++ (n, c) ∷ []) u ≡ Some w → (content_of rest u ≡ Some w) ⊎ ((u ≡ n) × (w ≡ c)))
          → (b : Bool) → cond b (Some entry.1) (content_of (rest ++ (n, c) ∷ []) u) ≡ Some w
          → (cond b (Some entry.1) (content_of rest u) ≡ Some w) ⊎ ((u ≡ n) × (w ≡ c))
      by_test more true e = inl e
      by_test more false e = more e

  -- what shows something is among the numbers
  pub shown_times : (contents : List (ℕ × C)) (u : ℕ) (w : C) → content_of contents u ≡ Some w → 0 < times u (numbers contents)
  shown_times [] u w e = cc
  shown_times (entry ∷ rest) u w e = by_test (shown_times rest u w) (eqb entry.0 u) e
    where
      by_test : (content_of rest u ≡ Some w → 0 < times u (numbers rest)) → (b : Bool)
          → cond b (Some entry.1) (content_of rest u) ≡ Some w → 0 < cond b 1 0 + times u (numbers rest)
      by_test more true e = omega arith
      by_test more false e = let n = more e in omega (arith, n)

-- windows still show their texts where no viewer stands that didn't, and each shows what it showed
pub all_kept : (d : SiteTexts) (s s' : ViewersSeen WindowSeen) → s'.tracks.width ≡ s.tracks.width
    → ((u : ℕ) → has s'.tracks.user u ≡ true → has s.tracks.user u ≡ true)
    → ((u : ℕ) → has s'.tracks.system u ≡ true → has s.tracks.system u ≡ true)
    → ((u : ℕ) (w : WindowSeen) → content_of s'.contents u ≡ Some w → content_of s.contents u ≡ Some w)
    → AllShow d s → AllShow d s'
all_kept d s s' width user system contents all u w is =
    let old : ShowsText d s.tracks u w = all u w (contents u w is) in
    record {
      on_desk = old.on_desk;
      text = old.text;
      at = old.at;
      drawn = old.drawn;
      in_user = λ h. old.in_user (user u h) ∙ ap (λ n. width_of n User) (sym width);
      in_system = λ h. old.in_system (system u h) ∙ ap (λ n. width_of n System) (sym width);
    }

-- as a viewer opens, no other comes to stand in a track
one_if_not : (v u : ℕ) → (u ≡ v → ⊥) → one_if v u ≡ 0
one_if_not v u apart = by_test (eqb v u) refl
  where
    by_test : (b : Bool) → eqb v u ≡ b → ◌≡◌ {A = ℕ} (cond b 1 0) 0
    by_test true is = absurd (apart (sym (eqb-true v u is)))
    by_test false is = refl

has_opened : (height : ℕ) (seats : List Seat) (v row u : ℕ) → (u ≡ v → ⊥) → has (opened height seats v row) u ≡ true
    → has seats u ≡ true
has_opened height seats v row u apart is =
    let some = has_times (opened height seats v row) u is in
    let out = times_opened height seats v row u in
    let none = one_if_not v u apart in
    has_by_times seats u (omega (arith, some, out, none))

opened_user : (t : ScreenSeen) (track : Track) (v row u : ℕ) → (u ≡ v → ⊥)
    → has (with_seats t track (opened t.height (seats_of t track) v row)).user u ≡ true → has t.user u ≡ true
opened_user t User v row u apart is = has_opened t.height t.user v row u apart is
opened_user t System v row u apart is = is

opened_system : (t : ScreenSeen) (track : Track) (v row u : ℕ) → (u ≡ v → ⊥)
    → has (with_seats t track (opened t.height (seats_of t track) v row)).system u ≡ true → has t.system u ≡ true
opened_system t User v row u apart is = is
opened_system t System v row u apart is = has_opened t.height t.system v row u apart is

opened_width : (t : ScreenSeen) (track : Track) (seats : List Seat) → (with_seats t track seats).width ≡ t.width
opened_width t User seats = refl
opened_width t System seats = refl

-- the new viewer stands in its track alone
new_user : (t : ScreenSeen) (track : Track) (seats : List Seat) (v n : ℕ) → times v (seated t.user) ≡ 0
    → n ≡ width_of t.width track → has (with_seats t track seats).user v ≡ true → n ≡ width_of t.width User
new_user t User seats v n none wide is = wide
new_user t System seats v n none wide is = let some = has_times t.user v is in absurd (omega (arith, none, some))

new_system : (t : ScreenSeen) (track : Track) (seats : List Seat) (v n : ℕ) → times v (seated t.system) ≡ 0
    → n ≡ width_of t.width track → has (with_seats t track seats).system v ≡ true → n ≡ width_of t.width System
new_system t User seats v n none wide is = let some = has_times t.system v is in absurd (omega (arith, none, some))
new_system t System seats v n none wide is = wide

-- windows still show their texts as a window of one of them opens
pub all_opened : (d : SiteTexts) (s : ViewersSeen WindowSeen) (track : Track) (row : Option ℕ) (c : WindowSeen) (t : TextState)
    → AreViewers s → AllShow d s → c.text ≤ MAX_TEXT → IsTextOf d c.text t → IsDrawn c.frame t
    → c.frame.width ≡ width_of s.tracks.width track → AllShow d (with_viewer s track row c)
all_opened d s track row c t viewers all low at drawn wide u w is =
    let seats = opened s.tracks.height (seats_of s.tracks track) s.next (row_for (seats_of s.tracks track) row) in
    let same = opened_width s.tracks track seats in
    let none = none_next 1 s.next s.next (numbers s.contents) viewers.rising (omega arith) in
    elim (content_after s.contents s.next u c w is) [
      | inl kept ↦ (
          let old : ShowsText d s.tracks u w = all u w kept in
          let some = shown_times s.contents u w kept in
          let apart : u ≡ s.next → ⊥ = λ e. (let n = ap (λ k. times k (numbers s.contents)) e in omega (arith, n, none, some)) in
          record {
            on_desk = old.on_desk;
            text = old.text;
            at = old.at;
            drawn = old.drawn;
            in_user = λ h. old.in_user (opened_user s.tracks track s.next (row_for (seats_of s.tracks track) row) u apart h)
                ∙ ap (λ n. width_of n User) (sym same);
            in_system = λ h. old.in_system (opened_system s.tracks track s.next (row_for (seats_of s.tracks track) row) u apart h)
                ∙ ap (λ n. width_of n System) (sym same);
          })
      | inr new ↦ (
          let once = viewers.once s.next in
          let shows : ShowsText d (with_seats s.tracks track seats) s.next c = record {
            on_desk = low;
            text = t;
            at = at;
            drawn = drawn;
            in_user = λ h. new_user s.tracks track seats s.next c.frame.width (omega (arith, once, none)) wide h
                ∙ ap (λ n. width_of n User) (sym same);
            in_system = λ h. new_system s.tracks track seats s.next c.frame.width (omega (arith, once, none)) wide h
                ∙ ap (λ n. width_of n System) (sym same);
          } in
          subst (λ (n : ℕ). ShowsText d (with_seats s.tracks track seats) n w) (sym new.0)
          (subst (λ (y : WindowSeen). ShowsText d (with_seats s.tracks track seats) s.next y) (sym new.1) shows))
    ]

-- as a viewer closes, and as a top is moved
pub all_closed : (d : SiteTexts) (s : ViewersSeen WindowSeen) (v : ℕ) → AllShow d s → AllShow d (without_viewer s v)
all_closed d s v =
    all_kept d s (without_viewer s v) (closed_width s.tracks v) (λ u. closed_user s.tracks v u) (λ u. closed_system s.tracks v u)
    (λ u w. content_without s.contents v u w)

pub all_moved : (d : SiteTexts) (s : ViewersSeen WindowSeen) (v row : ℕ) → AllShow d s → AllShow d (with_top s v row)
all_moved d s v row =
    all_kept d s (with_top s v row) (moved_width s.tracks v row) (λ u. moved_user s.tracks v row u)
    (λ u. moved_system s.tracks v row u) (λ u w e. e)

-- and as one opens, or finds no room
pub all_after : (d : SiteTexts) (s : ViewersSeen WindowSeen) (track : Track) (row : Option ℕ) (c : WindowSeen) (t : TextState)
    → AreViewers s → AllShow d s → c.text ≤ MAX_TEXT → IsTextOf d c.text t → IsDrawn c.frame t
    → c.frame.width ≡ width_of s.tracks.width track → AllShow d (after_opening s track row c)
all_after d s track row c t viewers all low at drawn wide = by_test (has_room s track row)
  where
    by_test : (b : Bool) → AllShow d (cond b (with_viewer s track row c) s)
    by_test true = all_opened d s track row c t viewers all low at drawn wide
    by_test false = all
