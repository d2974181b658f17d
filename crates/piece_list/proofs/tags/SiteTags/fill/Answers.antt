use Rattle.std.proofs.Common.{ℕ, ◌+◌, List, get_or, ap, ◌∙◌}
use Rattle.piece_list.specs.Tables.{tag_of}
use Rattle.piece_list.specs.declared.tags.TheConstants.{NO_TAG}
use Rattle.piece_list.proofs.Tables.{long_enough, same_tag, tag_is, tag_read, written_inside, written_before, written_after}
use Rattle.piece_list.proofs.tags.SiteTags.fill.Goals as goal

pub returns-clause-inside : goal.returns-clause-inside
returns-clause-inside c = λ at from to.
    tag_read c.overwrite.new.tags.items at
    ∙ ap tag_of (ap (λ (tags : List ℕ). get_or tags at NO_TAG) c.overwrite.ensures
    ∙ written_inside c.self.inside.tags.items c.args.off c.args.len c.args.tag at NO_TAG (long_enough c.self.inside.tags.items c.args.self.now (c.args.off + c.args.len) c.self.view_is c.requires.within) from to)
    ∙ tag_is c.args.tag c.requires.tag

pub returns-clause-before : goal.returns-clause-before
returns-clause-before c = λ at lt.
    rw (← c.self.view_is)
    (same_tag c.self.inside.tags.items c.overwrite.new.tags.items at
    (ap (λ (tags : List ℕ). get_or tags at NO_TAG) c.overwrite.ensures
    ∙ written_before c.self.inside.tags.items c.args.off c.args.len c.args.tag at NO_TAG (long_enough c.self.inside.tags.items c.args.self.now (c.args.off + c.args.len) c.self.view_is c.requires.within) lt))

pub returns-clause-after : goal.returns-clause-after
returns-clause-after c = λ at le.
    rw (← c.self.view_is)
    (same_tag c.self.inside.tags.items c.overwrite.new.tags.items at
    (ap (λ (tags : List ℕ). get_or tags at NO_TAG) c.overwrite.ensures
    ∙ written_after c.self.inside.tags.items c.args.off c.args.len c.args.tag at NO_TAG (long_enough c.self.inside.tags.items c.args.self.now (c.args.off + c.args.len) c.self.view_is c.requires.within) le))
