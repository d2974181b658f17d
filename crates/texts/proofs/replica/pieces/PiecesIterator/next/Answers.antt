use Rattle.std.proofs.Common.{◌≡◌, ◌<◌, ◌+◌, ℕ, ◌∷◌, length, drop, take, rules, sym, ap, ◌∙◌, arith}
use Rattle.std.proofs.lemmas.Grind.{common_steps}
use Rattle.char_files.specs.Stretch.{Stretch}
use Rattle.operations.specs.declared.kind.TheConstants.{MAX_INSERT}
use Rattle.texts.specs.Pieces.{pieces_left}
use Rattle.texts.proofs.Pieces.{reads_last, reads_part}
use Rattle.texts.proofs.replica.pieces.PiecesIterator.next.Goals as goal

pub returns-then-bytes-le-MAX_INSERT-clause-steps :
    goal.returns-then-bytes-le-MAX_INSERT-clause-steps
returns-then-bytes-le-MAX_INSERT-clause-steps c =
    let p = c.self.inside in
    let r = c.in_ok-run.run'.now in
    let after = c.in_ok-run.after.now in
    let bytes = c.split_at.result.1.now in
    let left : bytes ≡ drop p.read r.bytes = c.split_at.ensures.back ∙ ap (drop p.read) c.bytes.ensures.value in
    sym c.self.view_is
    ∙ reads_last p.runs.now p.read r after c.in_ok-run.ensures.cases.0 c.looks.result.now bytes c.looks.ensures
    c.self.invariant left c.if-bytes-le-MAX_INSERT.true

pub returns-then-bytes-le-MAX_INSERT-clause-goes :
    goal.returns-then-bytes-le-MAX_INSERT-clause-goes
returns-then-bytes-le-MAX_INSERT-clause-goes c =
    let left = pieces_left c.in_ok-run.after.now 0 in
    let steps : c.args.self.now ≡ record { looks = c.looks.result.now; bytes = c.split_at.result.1.now } ∷ left =
    returns-then-bytes-le-MAX_INSERT-clause-steps c in
    let fewer : length left < length c.args.self.now = omega (arith, ap (length {A = Stretch}) steps) in
    first_of (search rules, grind (arith, common_steps, fewer))

pub returns-clause-steps : goal.returns-clause-steps
returns-clause-steps c =
    let p = c.self.inside in
    let r = c.in_ok-run.run'.now in
    let after = c.in_ok-run.after.now in
    let bytes = c.split_at-2.result.0.now in
    let left : c.split_at.result.1.now ≡ drop p.read r.bytes =
    c.split_at.ensures.back ∙ ap (drop p.read) c.bytes.ensures.value in
    let many : MAX_INSERT < length (drop p.read r.bytes) =
    omega (arith, c.if-bytes-le-MAX_INSERT.false, ap (length {A = ℕ}) left) in
    sym c.self.view_is
    ∙ reads_part p.runs.now p.read r after c.in_ok-run.ensures.cases.0 c.looks-2.result.now bytes c.looks-2.ensures
    many (c.split_at-2.ensures.front ∙ ap (take MAX_INSERT) left)

pub returns-clause-goes : goal.returns-clause-goes
returns-clause-goes c =
    let left = pieces_left c.self.inside.runs.now (c.self.inside.read + MAX_INSERT) in
    let steps : c.args.self.now ≡ record { looks = c.looks-2.result.now; bytes = c.split_at-2.result.0.now } ∷ left =
    returns-clause-steps c in
    let fewer : length left < length c.args.self.now = omega (arith, ap (length {A = Stretch}) steps) in
    first_of (search rules, grind (arith, common_steps, fewer))
