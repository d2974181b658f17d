use Rattle.piece_list.proofs.Parts.{part_has_tag_if}
use Rattle.piece_list.proofs.list.placing.next_above.Goals as goal

pub rest_after-after-requires : goal.rest_after-after-requires
rest_after-after-requires c = part_has_tag_if c.args.pieces.now.items c.args.last c.requires
