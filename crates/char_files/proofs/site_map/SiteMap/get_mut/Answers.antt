use Rattle.std.proofs.Common.{refl, ◌∙◌}
use Rattle.std.specs.Option.{ghost_name_of}
use Rattle.char_files.proofs.SiteMaps.{put_at, read_at}
use Rattle.char_files.proofs.site_map.SiteMap.get_mut.Goals as goal

pub returns : goal.returns
returns g c =
    let m = c.self.inside.values in
    let at = c.in_ok-slot.ensures.some in
    rw (← c.self.view_is) (
      (
        refl {a = ghost_name_of c.get_index_mut.result},
        λ w _. put_at m c.args.site c.in_ok-slot.slot at c.get_index_mut.ensures.unique w,
        refl {a = m.entries},
      ),
      record {
        writes_back = tt;
        value = c.get_index_mut.ensures.value ∙ read_at m c.args.site c.in_ok-slot.slot at;
      },
    )
