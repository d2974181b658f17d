use borrow.Follows.Closed.{read_of}
use Rattle.std.specs.Option.{ghost_name_of}
use Rattle.std.proofs.Common.{◌≡◌, length, subst}
use Rattle.std.specs.List.{zip}
use Rattle.viewers.specs.Viewers.{index_of}
use Rattle.viewers.proofs.Entries.{content_read, set_at, read_within}
use Rattle.viewers.proofs.screen.Screen.content.Goals as goal

pub returns : goal.returns
returns g c =
    let ks = c.self.inside.numbers.items in let cs = c.self.inside.contents.items in
    let i : c.index_of-index.result ≡ index_of ks c.args.viewer =
    subst (λ l. c.index_of-index.result ≡ index_of l c.args.viewer) c.as_slice.ensures.value c.index_of-index.ensures in
    let even : length cs ≡ length ks = c.self.invariant.1 in
    let read = read_within (λ r. r.now) c.get_mut.result cs c.index_of-index.result c.self.inside.contents.len
    c.self.inside.contents.ok.0 c.get_mut.ensures.variant c.get_mut.ensures.value in
    rw (← c.self.view_is) (
      λ t. read_of (ghost_name_of c.get_mut.result) (λ (w : g.row.C.Denot). record {
        tracks = c.self.inside.tracks;
        next = c.self.inside.next;
        contents = set_at 1 c.self.inside.next c.args.viewer c.index_of-index.result w ks cs c.self.invariant.0.rising even i t;
      })
          (record { tracks = c.self.inside.tracks; next = c.self.inside.next; contents = zip ks cs }),
      record {
        writes_back = tt;
        value = content_read (λ r. r.now) c.get_mut.result ks cs c.args.viewer c.index_of-index.result even i read;
      },
    )
