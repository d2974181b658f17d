use Rattle.std.proofs.Common.{ℕ, ◌<◌, length, ◌∙◌, subst}
use Rattle.viewers.specs.Screen.{ScreenSeen}
use Rattle.viewers.specs.Tracks.{seat_at}
use Rattle.desk_windows.specs.Windows.{HasRows}
use Rattle.desk_windows.proofs.Areas.{all_rows}
use Rattle.desk_windows.proofs.fitting.fit_all.Goals as goal

pub returns-clause-shown : goal.returns-clause-shown
returns-clause-shown c =
    let s = c.fit_track-2.new.viewers in
    let tracks = c.fit_track.ensures.same.tracks in
    record {
      texts = c.fit_track-2.ensures.shown;
      high = all_rows c.args.viewers.now.tracks s (c.fit_track-2.ensures.same.tracks ∙ tracks)
          (λ i lt. c.fit_track-2.ensures.kept _ (c.fit_track.ensures.fitted i lt))
          (subst (λ (t : ScreenSeen). (i : ℕ) → i < length t.system → HasRows s (seat_at t.system i).number) tracks
          c.fit_track-2.ensures.fitted);
    }
