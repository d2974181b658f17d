use Rattle.std.proofs.Common.{length, ap, ◌∙◌, arith}
use Rattle.std.proofs.lemmas.List.{take_all}
use Rattle.rank_index.specs.Keyed.{last_tag_from}
use Rattle.rank_index.proofs.chunk.Chunk.last_tag.Goals as goal

pub returns : goal.returns
returns c =
    c.last_of.ensures
    ∙ ap (last_tag_from c.args.tag) (take_all (length c.members-members.result.now) c.members-members.result.now (omega arith)
    ∙ c.members-members.ensures.members)
