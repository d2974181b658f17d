use Rattle.std.proofs.Common.{◌≡◌, sym, ap, ◌∙◌}
use Rattle.std.specs.List.{slice_get}
use Rattle.viewers.specs.Viewers.{index_of}
use Rattle.viewers.proofs.Entries.{content_at_index, read_at}
use Rattle.viewers.proofs.screen.Screen.content_at.Goals as goal

pub returns : goal.returns
returns g c =
    let ks = c.self.inside.numbers.items in let cs = c.self.inside.contents.items in
    let i : c.index_of-index.result ≡ index_of ks c.args.viewer =
    c.index_of-index.ensures ∙ ap (λ l. index_of l c.args.viewer) c.as_slice.ensures.value in
    let read = read_at (λ r. r.now) c.get.result c.deref.result.now c.index_of-index.result c.get.ensures.lookup.0
    c.get.ensures.lookup.1 in
    rw (← c.self.view_is)
    (read ∙ (λ t. slice_get (c.deref.ensures.value t) (i t)) ∙ sym (content_at_index ks cs c.args.viewer c.self.invariant.1))
