use Rattle.std.proofs.Common.{◌≡◌, ◌+◌, ◌≤◌, List, ℕ, length, ap, subst, arith, refl}
use Rattle.std.proofs.lemmas.Grind.{common_steps}
use Rattle.char_files.specs.CharFiles.{bytes_of}
use Rattle.char_files.specs.declared.TheConstants.{MAX_FILE}
use Rattle.operations.proofs.Typed.{in_range}
use Rattle.operations.specs.Letters.{letter}
use Rattle.set_laws.specs.Fronts.{file_len}
use Rattle.piece_list.specs.Typed.{AreTypedIn}
use Rattle.piece_list.specs.declared.run.Run.{Run}
use Rattle.piece_list.specs.Spelled.{spelled}
use Rattle.taken_text.proofs.Bytes.{appended}
use Rattle.taken_text.proofs.Ready.{none_after}
use Rattle.taken_text.proofs.TypedIn.{letters_taken}
use Rattle.taken_text.proofs.Taking.{cause_here}
use Rattle.taken_text.proofs.letters.insert_letters.Goals as goal

pub returns-in_err-reserve-clause-errors : goal.returns-in_err-reserve-clause-errors
returns-in_err-reserve-clause-errors c =
    let t = c.args.typing.now in
    let range = in_range t c.args.bytes.now c.requires.some c.requires.spelled in
    let begins : t.at ≡ file_len c.args.log.now.ops t.site = (c.requires.ready 0).1.begins in
    let long : length (bytes_of c.args.files.now t.site) ≡ file_len c.args.log.now.ops t.site = c.requires.taken.bytes.lengths t.site in
    let fits : length (bytes_of c.args.files.now t.site) + length c.args.bytes.now ≤ MAX_FILE = omega (arith, range.in_file) in
    grind (arith, common_steps)

pub place_noting-requires-clause-run : goal.place_noting-requires-clause-run
place_noting-requires-clause-run c =
    let t = c.args.typing.now in
    let range = in_range t c.args.bytes.now c.requires.some c.requires.spelled in
    rw c.run_of-run.ensures (c.requires.some, c.requires.few, range.in_file, range.site, λ rises. omega (arith, range.stamp))

pub place_noting-requires-clause-here : goal.place_noting-requires-clause-here
place_noting-requires-clause-here c =
    let t = c.args.typing.now in
    cause_here c.args.log.now.ops (letter t 0) c.args.pieces.now.items c.args.files.now c.requires.taken (c.requires.new 0)
    (c.requires.ready 0) t.cause t.at t.looks _ refl

pub place_noting-requires-clause-new : goal.place_noting-requires-clause-new
place_noting-requires-clause-new c = λ name is has.
    let t = c.args.typing.now in
    let ops = c.args.log.now.ops in
    let taken = c.requires.taken in
    let begins : t.at ≡ file_len ops t.site = (c.requires.ready 0).1.begins in
    let (site, from, to) = rw c.run_of-run.ensures at is in
    let own : file_len ops name.site ≡ file_len ops t.site = ap (file_len ops) site in
    none_after ops (letter t 0) taken.good taken.identified (c.requires.new 0) (c.requires.ready 0) (spelled c.args.pieces.now.items)
    taken.atoms name (omega (arith, from)) has

pub returns-clause-ok : goal.returns-clause-ok
returns-clause-ok c = λ asked was.
    let t = c.args.typing.now in
    let bytes : List ℕ = c.args.bytes.now in
    let (own, others) = appended c.args.files.now c.reserve.new.self c.append.new.self t.site t.site bytes bytes refl refl
    c.in_ok-reserve.ensures.unchanged c.in-Ok.ensures.ok c.in-Ok.ensures.others in
    let typed = c.in_ok-place_noting.ensures.typed in
    letters_taken bytes c.args.log.now.ops t (length bytes) c.args.pieces.now.items c.place_noting.new.self.items c.args.files.now
    c.append.new.self asked c.args.note.now.items c.place_noting.new.note.items was c.requires.new c.requires.ready
    (subst (λ (r : Run). AreTypedIn r.len r t.cause c.args.note.now.items c.place_noting.new.note.items
    (spelled c.args.pieces.now.items) (spelled c.place_noting.new.self.items)) c.run_of-run.ensures
    (typed (ap (λ (r : Run). r.rising) c.run_of-run.ensures)))
    own others
