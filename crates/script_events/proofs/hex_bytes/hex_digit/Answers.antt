use Rattle.std.proofs.Common.{◌∙◌}
use Rattle.script_events.proofs.HexPairs.{hex_digit-bits}
use Rattle.script_events.proofs.hex_bytes.hex_digit.Goals as goal

pub returns-clause-value : goal.returns-clause-value
returns-clause-value c = c.then_some.ensures ∙ hex_digit-bits c.is_ascii_hexdigit.result c.args.byte c.is_ascii_hexdigit.ensures.cases
