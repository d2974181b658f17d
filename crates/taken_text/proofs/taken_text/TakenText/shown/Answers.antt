use Rattle.std.proofs.Common.{◌-◌, ◌≤◌, List, length, ap, ◌∙◌, arith}
use Rattle.std.specs.Prelude.{slice_range}
use Rattle.std.proofs.lemmas.List.{take_all}
use Rattle.char_files.specs.declared.character.Char.{Char}
use Rattle.taken_text.specs.Taken.{shown_of_taken}
use Rattle.taken_text.proofs.taken_text.TakenText.shown.Goals as goal

pub returns : goal.returns
returns c =
    let all : List Char = shown_of_taken c.args.self.now in
    let whole : length all ≤ length all - 0 = omega arith in
    c.shown_between.ensures
    ∙ ap (slice_range all 0) c.shown_len.ensures
    ∙ take_all (length all - 0) all whole
