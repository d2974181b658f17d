use Rattle.std.proofs.Common.{◌≤◌, length}
use Rattle.script_events.specs.EventView.{IsOfLine}
use Rattle.script_events.proofs.Words.{applied, shorter}
use Rattle.script_events.proofs.event.event_in.Goals as goal

pub returns-clause-within : goal.returns-clause-within
returns-clause-within c =
    let len = length c.args.line.now in
    let less : length c.in_ok-site.rest.now ≤ len = c.in_ok-site.ensures.shorter in
    applied c.verb_event.result IsOfLine _ len c.verb_event.ensures.within
    (shorter c.front_word.result.1 (length c.in_ok-site.rest.now) len less c.front_word.ensures.shorter)
