use Rattle.desk_texts.proofs.HexDigits.{encode_lower-nil}
use Rattle.script_sites.proofs.Printing.{hex_more, hex_stopped}
use Rattle.std.proofs.Common.{◌≡◌, ℕ, List, [], ◌++◌, sym, subst, ap, ◌∙◌, append_assoc, rules}
use Rattle.std.specs.Io.KnownBytes.{Appends}
use Rattle.std.specs.Slice.Iter.{chunks_rest}
use Rattle.std.proofs.KnownBytes.{Appends-nil}
use Rattle.script_sites.proofs.answers.put_hex.Goals as goal

pub loop-stretch-init : goal.loop-stretch-init
loop-stretch-init g c =
    let w = c.args.output.now.contents in
    (search rules, tt, search rules, ([], search rules, subst (Appends w w) (sym encode_lower-nil) (Appends-nil w)))

pub loop-stretch-preserved : goal.loop-stretch-preserved
loop-stretch-preserved g c =
    let (done, split, appended) = c.loop-stretch.invariant.3 in
    let stretch = c.in-Some.stretch.now in
    let steps = c.in-Some.ensures.steps in
    let rest = chunks_rest c.next.new.self in
    let moved : c.args.bytes.now ≡ (done ++ stretch) ++ rest = split ∙ ap (λ (l : List ℕ). done ++ l) steps.1.0 ∙ sym (append_assoc done stretch rest) in (
      search rules,
      tt,
      steps.0 ∙ c.loop-stretch.invariant.2,
      (done ++ stretch, moved, hex_more _ _ _ done stretch appended c.in_ok-put_hex_stretch.ensures),
    )

pub returns-in_err-put_hex_stretch : goal.returns-in_err-put_hex_stretch
returns-in_err-put_hex_stretch g c =
    let (done, split, appended) = c.loop-stretch.invariant.3 in
    let stretch = c.in-Some.stretch.now in
    let rest = chunks_rest c.next.new.self in
    let whole : c.args.bytes.now ≡ done ++ (stretch ++ rest) = split ∙ ap (λ (l : List ℕ). done ++ l) c.in-Some.ensures.steps.1.0 in
    rw whole (hex_stopped _ _ _ _ _ _ done stretch rest appended c.from_residual.ensures.1 c.in_err-put_hex_stretch.ensures)
