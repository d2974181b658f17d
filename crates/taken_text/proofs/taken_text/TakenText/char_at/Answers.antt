use Rattle.taken_text.proofs.Counted.{is_within, has_byte_in, char_shown}
use Rattle.taken_text.proofs.taken_text.TakenText.char_at.Goals as goal

pub shown_at-name-requires : goal.shown_at-name-requires
shown_at-name-requires c =
    let t = c.self.inside in
    is_within t.log.ops t.pieces.items t.files t.asked c.args.self.now c.self.view_is c.self.invariant.taken c.args.pos c.requires

pub byte-requires : goal.byte-requires
byte-requires c =
    let t = c.self.inside in
    has_byte_in t.log.ops t.pieces.items t.files t.asked c.args.self.now c.self.view_is c.self.invariant.taken c.args.pos c.requires c.shown_at-name.result.0 c.shown_at-name.result.1 c.shown_at-name.ensures

pub returns : goal.returns
returns c =
    let t = c.self.inside in
    char_shown t.log.ops t.pieces.items t.files t.asked c.args.self.now c.self.view_is c.self.invariant.taken c.args.pos c.requires c.shown_at-name.result.0 c.shown_at-name.result.1 c.shown_at-name.ensures c.byte.result c.byte.ensures
