use Rattle.std.proofs.Common.{◌≡◌, ◌+◌, ◌<◌, [], ◌∷◌, ◌++◌, cond, sym, ap, ◌∙◌, subst, arith, Some}
use Rattle.std.specs.List.{zip}
use Rattle.viewers.specs.Screen.{after_open, seats_of, with_seats}
use Rattle.viewers.specs.Viewers.{AreNumbered, ViewersSeen, with_viewer}
use Rattle.viewers.proofs.Entries.{zip-push}
use Rattle.viewers.proofs.Screens.{has_room_is, numbered_opened, opens, room_left, tracks_kept, tracks_opened}
use Rattle.viewers.proofs.screen.Screen.open.Goals as goal

pub invariant_of-self : goal.invariant_of-self
invariant_of-self g c =
    let i = c.self.inside in
    let kept = tracks_kept i.tracks c.args.track c.in-Ok.number c.args.row c.in-Err.refusal
    (sym c.open.ensures.value ∙ c.in-Err.is) in (
      subst (λ t. AreNumbered t i.next i.numbers.items) (sym kept ∙ sym c.open.ensures.after) c.self.invariant.0,
      c.self.invariant.1,
      c.self.invariant.2,
    )

pub push-requires : goal.push-requires
push-requires g c =
    let i = c.self.inside in
    let is = opens (seats_of i.tracks c.args.track) c.args.row tt (sym c.open.ensures.value ∙ c.in_default-open.is) in
    let lt = subst (λ (s : ViewersSeen g.row.C.Denot). c.args.row < s.tracks.height) (sym c.self.view_is) c.requires in
    let room = room_left i.tracks i.next c.args.row i.numbers.items c.args.track c.self.invariant.0 lt is in
    (omega arith, room)

pub push_reserved-requires : goal.push_reserved-requires
push_reserved-requires g c =
    let i = c.self.inside in
    let is = opens (seats_of i.tracks c.args.track) c.args.row tt (sym c.open.ensures.value ∙ c.in_default-open.is) in
    let lt = subst (λ (s : ViewersSeen g.row.C.Denot). c.args.row < s.tracks.height) (sym c.self.view_is) c.requires in
    let room = room_left i.tracks i.next c.args.row i.numbers.items c.args.track c.self.invariant.0 lt is in
    let even = c.self.invariant.1 in let most = c.self.invariant.2 in let long = i.contents.ok.0 in
    omega (arith, room, even, most, long)

pub invariant_of-self-2 : goal.invariant_of-self-2
invariant_of-self-2 g c =
    let i = c.self.inside in
    let is = opens (seats_of i.tracks c.args.track) c.args.row tt (sym c.open.ensures.value ∙ c.in_default-open.is) in
    let lt = subst (λ (s : ViewersSeen g.row.C.Denot). c.args.row < s.tracks.height) (sym c.self.view_is) c.requires in
    let few = c.in-Ok.ensures.0 in let number = c.in-Ok.ensures.1 in
    let even = c.self.invariant.1 in let most = c.self.invariant.2 in
    let long = i.contents.ok.0 in let longer = c.push_reserved.new.self.ok.0 in (
      rw (c.open.ensures.after, c.push.ensures.items, number, tracks_opened i.tracks c.args.track i.next c.args.row is)
          (numbered_opened i.tracks i.next c.args.row i.numbers.items c.args.track c.self.invariant.0 few lt is),
      omega (arith, even, long, longer),
      omega (arith, most),
    )

pub returns-clause-after : goal.returns-clause-after
returns-clause-after g c =
    let i = c.self.inside in
    let is = opens (seats_of i.tracks c.args.track) c.args.row tt (sym c.open.ensures.value ∙ c.in_default-open.is) in
    let few = c.in-Ok.ensures.0 in let number = c.in-Ok.ensures.1 in
    let old : ViewersSeen g.row.C.Denot =
    record { tracks = i.tracks; next = i.next; contents = zip i.numbers.items i.contents.items } in
    let tracks = c.open.ensures.after
    ∙ ap (λ v. with_seats i.tracks c.args.track (after_open i.tracks.height (seats_of i.tracks c.args.track) v c.args.row)) number
    ∙ tracks_opened i.tracks c.args.track i.next c.args.row is in
    let numbers = c.push.ensures.items ∙ ap (λ v. i.numbers.items ++ v ∷ []) number in
    let contents = zip-push i.numbers.items i.contents.items i.next c.args.content c.self.invariant.1 in
    let opened : ◌≡◌ {A = ViewersSeen g.row.C.Denot} (record {
      tracks = c.open.new.self;
      next = i.next + 1;
      contents = zip c.push.new.self.items c.push_reserved.new.self.items;
    })
    (with_viewer old c.args.track (Some c.args.row) c.args.content) = λ t. record {
      tracks = tracks t;
      next = i.next + 1;
      contents = ((λ u. zip (numbers u) (c.push_reserved.ensures.items u)) ∙ contents) t;
    } in
    rw (← c.self.view_is)
    (opened ∙ sym (ap (λ b. cond b (with_viewer old c.args.track (Some c.args.row) c.args.content) old)
    (has_room_is old c.args.track c.args.row few is)))
