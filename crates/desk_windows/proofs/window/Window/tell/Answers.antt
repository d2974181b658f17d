use Rattle.std.proofs.Common.{◌≡◌, refl, arith}
use Rattle.desk_windows.proofs.window.Window.tell.Goals as goal

pub returns-then-get : goal.returns-then-get
returns-then-get c =
    let i = c.self.inside in
    let mine = c.get.ensures.value in let number = c.get-2.ensures.value in let test = c.if-get.true in
    let same : i.text ≡ c.args.text = omega (arith, mine, number, test) in
    rw (← c.self.view_is) (record {
      text = refl;
      anchor = c.update.ensures.anchor;
      width = c.update.ensures.width;
      rows = c.update.ensures.rows;
      other = λ apart. absurd (apart same);
      drawn = λ here t follows drawn.
          c.update.ensures.drawn t follows.well drawn follows.order (follows.kept i.frame.anchor drawn.anchored) follows.leads;
      reads = λ here. record { quiet = c.update.ensures.quiet; anew = c.update.ensures.anew };
    })
