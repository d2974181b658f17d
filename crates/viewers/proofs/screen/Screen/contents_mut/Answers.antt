use Rattle.std.proofs.Common.{◌≡◌, length, sym, ◌∙◌, refl}
use Rattle.viewers.proofs.Entries.{contents-zip, refill-zip}
use Rattle.viewers.proofs.screen.Screen.contents_mut.Goals as goal

pub returns : goal.returns
returns g c =
    let ks = c.self.inside.numbers.items in let cs = c.self.inside.contents.items in
    let even : length cs ≡ length ks = c.self.invariant.1 in
    rw (← c.self.view_is) (
      (
        refl {a = c.as_mut_slice.result.ghost_name},
        λ w t. record {
          tracks = c.self.inside.tracks;
          next = c.self.inside.next;
          contents = refill-zip ks cs w c.self.inside.contents.len even c.self.inside.contents.ok.0 t;
        },
      ),
      record { writes_back = tt; value = c.as_mut_slice.ensures.value ∙ sym (contents-zip ks cs even) },
    )
