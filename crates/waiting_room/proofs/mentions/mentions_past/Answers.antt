use Rattle.std.proofs.Common.{rules, List, Contains, ◌↔◌, subst}
use Rattle.char_files.specs.CharName.{CharName}
use Rattle.operations.specs.Operation.{Mentions, mentioned_names}
use Rattle.waiting_room.specs.Room.{mentions_past}
use Rattle.waiting_room.proofs.Past.{any_past}
use Rattle.waiting_room.proofs.Some.{same_test}
use Rattle.waiting_room.proofs.mentions.mentions_past.Goals as goal

pub returns-in-Delete-clause-value : goal.returns-in-Delete-clause-value
returns-in-Delete-clause-value c =
    let op = c.args.op.now in
    let all = subst (λ (names : List CharName). (name : CharName) → Contains names name ↔ Mentions op name)
    c.named.ensures.names c.named.ensures.all in
    same_test c.reaches_past.result (mentions_past op c.args.site c.args.end) (search rules)
    (any_past (mentioned_names op) (Mentions op) c.args.site c.args.end all)
