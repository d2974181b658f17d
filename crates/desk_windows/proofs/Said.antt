-- What the machine says of a call, where the viewers did it.
use Rattle.std.proofs.Common.{◌≡◌, ℕ, ◌-◌, ◌<◌, List, [], ◌∷◌, Bool, true, false, cond, eqb, is_some, refl, sym, ap, ◌∙◌, arith, Option, Some, None, Result, Ok, Err}
use Rattle.std.specs.Prelude.{not, ◌||◌, ◌&&◌, nat_le, filter, ◌==◌, if◌then◌else◌}
use Rattle.std.specs.Option.{ok_or, option_and_then}
use Rattle.std.proofs.lemmas.Bool.{leb-true}
use Rattle.looks.specs.declared.refusal.Refusal.{Refusal}
use Rattle.looks.specs.declared.refusal.Refusal.TheVariants.{NoRoom, NoViewer, OutOfRange}
use Rattle.viewers.specs.declared.screen.Area.{Area}
use Rattle.viewers.specs.declared.screen.Track.{Track}
use Rattle.viewers.specs.declared.screen.Track.TheVariants.{User, System}
use Rattle.viewers.specs.Screen.{ScreenSeen, after_closing, after_close, after_move, after_moving, area_in, has, move_answer, moving, seats_of, user_width, with_seats}
use Rattle.viewers.specs.Tracks.{can_move, closed, moved, seat_index}
use Rattle.viewers.specs.Viewers.{AreViewers, ViewersSeen, content_of, contents_without, with_top, without_viewer}
use Rattle.viewers.proofs.Others.{show_where_they_stand}
use Rattle.machine.specs.Windows.{Arranged, Caret, Screened, Selected, closed_at, is_open, moved_to}
use Rattle.desk_windows.specs.Windows.{AreSameWindows, WindowSeen, WindowsSeen, screened, seen_window, windows_of}
use Rattle.desk_windows.proofs.Comes.{screened_same}

abbrev none_open : Option Area
none_open = None

-- a viewer stands in a track where it shows something
pub open_is : (s : ViewersSeen WindowSeen) (v : ℕ) → AreViewers s
    → (has s.tracks.user v || has s.tracks.system v) ≡ is_some (content_of s.contents v)
open_is s v viewers = by_tests (has s.tracks.user v) (has s.tracks.system v) (show_where_they_stand s viewers v)
  where
    by_tests : (a b : Bool)
        → is_some (cond a (Some (area_in s.tracks.user v 0 (user_width s.tracks.width))) (cond b (Some (area_in s.tracks.system v (user_width s.tracks.width) (s.tracks.width - user_width s.tracks.width))) none_open)) ≡ is_some (content_of s.contents v)
        → (a || b) ≡ is_some (content_of s.contents v)
    by_tests true b is = is
    by_tests false true is = is
    by_tests false false is = is

windows_without : (contents : List (ℕ × WindowSeen)) (v : ℕ)
    → windows_of (contents_without contents v) ≡ filter (λ entry. not (entry.0 == v)) (windows_of contents)
windows_without [] v = refl
windows_without (entry ∷ rest) v = by_test (eqb entry.0 v) (windows_without rest v)
  where
    by_test : (b : Bool) → windows_of (contents_without rest v) ≡ filter (λ entry. not (entry.0 == v)) (windows_of rest)
        → windows_of (cond (not b) (entry ∷ contents_without rest v) (contents_without rest v))
        ≡ cond (not b) ((entry.0, seen_window entry.1) ∷ filter (λ entry. not (entry.0 == v)) (windows_of rest)) (filter (λ entry. not (entry.0 == v)) (windows_of rest))
    by_test true more = more
    by_test false more = ap (λ l. (entry.0, seen_window entry.1) ∷ l) more

tracks_closed : (t : ScreenSeen) (v : ℕ) → (has t.user v || has t.system v) ≡ true
    → with_seats t (cond (has t.user v) User System) (closed (seats_of t (cond (has t.user v) User System)) (seat_index (seats_of t (cond (has t.user v) User System)) v))
    ≡ after_closing t v
tracks_closed t v stands = by_tests (has t.user v) (has t.system v) refl refl stands
  where
    by_tests : (a b : Bool) → has t.user v ≡ a → has t.system v ≡ b → (a || b) ≡ true
        → with_seats t (cond a User System) (closed (seats_of t (cond a User System)) (seat_index (seats_of t (cond a User System)) v))
        ≡ cond a (record t { user = after_close t.user v }) (record t { system = after_close t.system v })
    by_tests true b user system stands =
        let Track : Bool → ScreenSeen = λ x. record t { user = cond x (closed t.user (seat_index t.user v)) t.user } in sym (ap Track user)
    by_tests false true user system stands =
        let Track : Bool → ScreenSeen = λ x. record t { system = cond x (closed t.system (seat_index t.system v)) t.system } in
        sym (ap Track system)
    by_tests false false user system stands = cc

-- the windows without a viewer's, and without what stood there
abbrev pub closed_windows : WindowsSeen → ℕ → WindowsSeen
closed_windows w v = record {
  viewers = without_viewer w.viewers v;
  caret = option_and_then (λ c. if c.viewer == v then None else Some c) w.caret;
  selected = option_and_then (λ s. if s.viewer == v then None else Some s) w.selected;
}

when_true : {A : Type 0} (b : Bool) (x y : A) → b ≡ true → cond b x y ≡ x
when_true b x y is = ap (λ c. cond c x y) is

when_false : {A : Type 0} (b : Bool) (x y : A) → b ≡ false → cond b x y ≡ y
when_false b x y is = ap (λ c. cond c x y) is

pub closed_is : (w : WindowsSeen) (v : ℕ) → is_open (screened w) v ≡ true
    → closed_at (screened w) v ≡ Ok (screened (closed_windows w v), None)
closed_is w v stands = when_true (is_open (screened w) v) _ (Err NoViewer) stands ∙ same
  where
    same : ◌≡◌ {A = Arranged} (Ok (
      record {
        tracks = with_seats w.viewers.tracks (cond (has w.viewers.tracks.user v) User System) (closed (seats_of w.viewers.tracks (cond (has w.viewers.tracks.user v) User System)) (seat_index (seats_of w.viewers.tracks (cond (has w.viewers.tracks.user v) User System)) v));
        next = w.viewers.next;
        windows = filter (λ entry. not (entry.0 == v)) (windows_of w.viewers.contents);
        caret = option_and_then (λ c. if c.viewer == v then None else Some c) w.caret;
        selected = option_and_then (λ s. if s.viewer == v then None else Some s) w.selected;
      },
      None,
    )) (Ok (screened (closed_windows w v), None))
    same = λ i. Ok (
      record {
        tracks = tracks_closed w.viewers.tracks v stands i;
        next = w.viewers.next;
        windows = sym (windows_without w.viewers.contents v) i;
        caret = option_and_then (λ c. if c.viewer == v then None else Some c) w.caret;
        selected = option_and_then (λ s. if s.viewer == v then None else Some s) w.selected;
      },
      None,
    )

pub closed_not : (w : WindowsSeen) (v : ℕ) → is_open (screened w) v ≡ false → closed_at (screened w) v ≡ Err NoViewer
closed_not w v shut = when_false (is_open (screened w) v) _ (Err NoViewer) shut

answers_ok : (h m : Bool) (u : Unit) → ◌≡◌ {A = Result Unit Refusal} (cond h (cond m (Ok tt) (Err NoRoom)) (Err NoViewer)) (Ok u)
    → (h ≡ true) × (m ≡ true)
answers_ok true true u e = (refl, refl)
answers_ok true false u e = cc
answers_ok false m u e = cc

answers_err : (h m : Bool) (why : Refusal) → h ≡ true
    → ◌≡◌ {A = Result Unit Refusal} (cond h (cond m (Ok tt) (Err NoRoom)) (Err NoViewer)) (Err why) → (m ≡ false) × (NoRoom ≡ why)
answers_err true true why at e = cc
answers_err true false why at e = (refl, cc)
answers_err false m why at e = cc

-- the track in which a viewer stands
abbrev stands_in : ScreenSeen → ℕ → Track
stands_in t v = cond (has t.user v) User System

moved_room : (t : ScreenSeen) (v row : ℕ) (u : Unit) → (has t.user v || has t.system v) ≡ true → moving t v row ≡ Ok u
    → (can_move (seats_of t (stands_in t v)) (seat_index (seats_of t (stands_in t v)) v) row ≡ true)
    × (with_seats t (stands_in t v) (moved (seats_of t (stands_in t v)) (seat_index (seats_of t (stands_in t v)) v) row) ≡ after_moving t v row)
moved_room t v row u stands ok = by_tests (has t.user v) (has t.system v) stands ok
  where
    by_tests : (a b : Bool) → (a || b) ≡ true → cond a (move_answer t.user v row) (move_answer t.system v row) ≡ Ok u
        → (can_move (seats_of t (cond a User System)) (seat_index (seats_of t (cond a User System)) v) row ≡ true)
        × (with_seats t (cond a User System) (moved (seats_of t (cond a User System)) (seat_index (seats_of t (cond a User System)) v) row)
        ≡ cond a (record t { user = after_move t.user v row }) (record t { system = after_move t.system v row }))
    by_tests true b stands ok =
        let k = answers_ok (has t.user v) (can_move t.user (seat_index t.user v) row) u ok in
        (k.1, λ i. record t { user = cond (sym k.0 i && sym k.1 i) (moved t.user (seat_index t.user v) row) t.user })
    by_tests false b stands ok =
        let k = answers_ok (has t.system v) (can_move t.system (seat_index t.system v) row) u ok in
        (k.1, λ i. record t { system = cond (sym k.0 i && sym k.1 i) (moved t.system (seat_index t.system v) row) t.system })

moved_full : (t : ScreenSeen) (v row : ℕ) (why : Refusal) → (has t.user v || has t.system v) ≡ true → moving t v row ≡ Err why
    → (can_move (seats_of t (stands_in t v)) (seat_index (seats_of t (stands_in t v)) v) row ≡ false) × (NoRoom ≡ why)
    × (after_moving t v row ≡ t)
moved_full t v row why stands err = by_tests (has t.user v) (has t.system v) refl refl stands err
  where
    by_tests : (a b : Bool) → has t.user v ≡ a → has t.system v ≡ b → (a || b) ≡ true
        → cond a (move_answer t.user v row) (move_answer t.system v row) ≡ Err why
        → (can_move (seats_of t (cond a User System)) (seat_index (seats_of t (cond a User System)) v) row ≡ false) × (NoRoom ≡ why)
        × (cond a (record t { user = after_move t.user v row }) (record t { system = after_move t.system v row }) ≡ t)
    by_tests true b user system stands err =
        let k = answers_err (has t.user v) (can_move t.user (seat_index t.user v) row) why user err in
        (k.0, k.1, λ i. record t { user = cond (user i && k.0 i) (moved t.user (seat_index t.user v) row) t.user })
    by_tests false true user system stands err =
        let k = answers_err (has t.system v) (can_move t.system (seat_index t.system v) row) why system err in
        (k.0, k.1, λ i. record t { system = cond (system i && k.0 i) (moved t.system (seat_index t.system v) row) t.system })
    by_tests false false user system stands err = cc

pub moved_is : (w : WindowsSeen) (v row : ℕ) (u : Unit) → is_open (screened w) v ≡ true
    → nat_le w.viewers.tracks.height row ≡ false → moving w.viewers.tracks v row ≡ Ok u
    → moved_to (screened w) v row ≡ Ok (screened (record w { viewers = with_top w.viewers v row }), None)
moved_is w v row u stands above ok =
    let t = w.viewers.tracks in
    let k = moved_room w.viewers.tracks v row u stands ok in
    when_true (is_open (screened w) v) _ (Err NoViewer) stands
    ∙ (when_false (nat_le t.height row) (Err OutOfRange) _ above
    ∙ (when_true (can_move (seats_of t (stands_in t v)) (seat_index (seats_of t (stands_in t v)) v) row) _ (Err NoRoom) k.0
    ∙ (λ i. Ok (record (screened w) { tracks = k.1 i }, None))))

pub moved_refused : (w : WindowsSeen) (v row : ℕ) (why : Refusal) → is_open (screened w) v ≡ true
    → nat_le w.viewers.tracks.height row ≡ false → moving w.viewers.tracks v row ≡ Err why
    → (moved_to (screened w) v row ≡ Err why) × (with_top w.viewers v row ≡ w.viewers)
moved_refused w v row why stands above err =
    let t = w.viewers.tracks in
    let k = moved_full w.viewers.tracks v row why stands err in (
      when_true (is_open (screened w) v) _ (Err NoViewer) stands
          ∙ (when_false (nat_le t.height row) (Err OutOfRange) _ above
          ∙ (when_false (can_move (seats_of t (stands_in t v)) (seat_index (seats_of t (stands_in t v)) v) row) _ (Err NoRoom) k.0
          ∙ ap Err k.1)),
      λ i. record w.viewers { tracks = k.2 i },
    )

-- what is answered where there is a content, and where there is none
module _ {C : Type 0} where
  pub some_by_ok : (o : Option C) (x : C) → ok_or o NoViewer ≡ Ok x → is_some o ≡ true
  some_by_ok (Some y) x e = refl
  some_by_ok None x e = cc

  pub none_by_err : (o : Option C) (why : Refusal) → ok_or o NoViewer ≡ Err why → (is_some o ≡ false) × (NoViewer ≡ why)
  none_by_err (Some y) why e = cc
  none_by_err None why e = (refl, cc)

-- a row on the screen isn't below it
pub not_below : (height row : ℕ) → row < height → nat_le height row ≡ false
not_below height row lt = by_test (nat_le height row) refl
  where
    by_test : (b : Bool) → nat_le height row ≡ b → b ≡ false
    by_test true is = let le = leb-true height row is in absurd (omega (arith, le, lt))
    by_test false is = refl

-- the screen, where windows that are the same as others stand in place of what these are
pub lands : (x a b : ViewersSeen WindowSeen) (caret : Option Caret) (selected : Option Selected) → a ≡ x → AreSameWindows a b
    → screened (record { viewers = x; caret = caret; selected = selected })
    ≡ screened (record { viewers = b; caret = caret; selected = selected })
lands x a b caret selected is same =
    sym (screened_same a b caret selected same
    ∙ ap (λ (v : ViewersSeen WindowSeen). screened (record { viewers = v; caret = caret; selected = selected })) is)

-- a closing, with what stood in the viewer gone
pub closed_comes : (w : WindowsSeen) (v : ℕ) (a b : ViewersSeen WindowSeen) (caret : Option Caret) (selected : Option Selected)
    → AreViewers w.viewers → is_some (content_of w.viewers.contents v) ≡ true → a ≡ without_viewer w.viewers v
    → AreSameWindows a b → caret ≡ (closed_windows w v).caret → selected ≡ (closed_windows w v).selected
    → closed_at (screened w) v ≡ Ok (screened (record { viewers = b; caret = caret; selected = selected }), None)
closed_comes w v a b caret selected viewers shows is same caret_is selected_is =
    closed_is w v (open_is w.viewers v viewers ∙ shows)
    ∙ ap (λ (s : Screened). Ok (s, None))
    ((λ i. screened (record { viewers = without_viewer w.viewers v; caret = sym caret_is i; selected = sym selected_is i }))
    ∙ lands (without_viewer w.viewers v) a b caret selected is same)
