use Rattle.text_file.specs.Files.{plain_bytes}
use Rattle.text_file.proofs.PlainFiles.{room_for_one, one_pushed, all_pushed, none_pushed}
use Rattle.text_file.proofs.plain.plain_text.Goals as goal

pub loop-byte-init : goal.loop-byte-init
loop-byte-init c = none_pushed c.new-text.result (plain_bytes c.args.bytes.now) c.new-text.ensures

pub push_char-requires : goal.push_char-requires
push_char-requires c =
    room_for_one c.loop-byte.text c.in-Some.byte (plain_bytes c.loop-byte.rest.now)
    (plain_bytes c.in-Some.after.now) (plain_bytes c.args.bytes.now) c.in-Some.ensures.value
    c.loop-byte.invariant c.requires

pub loop-byte-preserved : goal.loop-byte-preserved
loop-byte-preserved c =
    one_pushed c.loop-byte.text c.push_char.new.text c.in-Some.byte c.plain.result
    (plain_bytes c.loop-byte.rest.now) (plain_bytes c.in-Some.after.now) (plain_bytes c.args.bytes.now)
    c.in_ok-push_char.ensures.ok c.plain.ensures c.in-Some.ensures.value c.loop-byte.invariant

pub returns-clause-ok : goal.returns-clause-ok
returns-clause-ok c =
    all_pushed c.loop-byte.text c.loop-byte.rest.now (plain_bytes c.args.bytes.now)
    c.in_default.ensures.value c.loop-byte.invariant
