use Rattle.std.proofs.Common.{◌≡◌, ◌<◌, ◌∷◌, List, Option, Some, inl, inr, length, rules, sym, ap, subst, ◌∙◌, arith}
use Rattle.std.proofs.lemmas.Grind.{common_steps}
use Rattle.std.proofs.lemmas.List.Elements.{All-head}
use Rattle.std.specs.Iterator.{YieldsFirst}
use Rattle.char_files.specs.CharFiles.{FilesBySite}
use Rattle.char_files.specs.declared.character.Char.{Char}
use Rattle.piece_list.specs.declared.run.Run.{Run}
use Rattle.taken_text.specs.Shown.{AreInFiles, IsInFile, chars_of_runs, runs_left}
use Rattle.taken_text.specs.declared.shown.Shown.TheInside.{Inside}
use Rattle.taken_text.proofs.Runs.{ReadsOn, first_and_rest, left_in_files}
use Rattle.taken_text.proofs.shown.ShownIterator.next.Goals as goal
use Rattle.taken_text.proofs.shown.ShownIterator.next.Goals.{then-run-gt0, else-run-gt0}

-- the run that was being read, and what was read on
was : (c : goal.After-self-1) → c.self.inside.run ≡ Some c.in_ok-run.run'
was c = sym c.in_ok-run.ensures.value

files_stay : (c : goal.After-self-1) → c.if-run-gt0.self-inside.files.now ≡ c.self.inside.files.now
files_stay c =
    elim c.if-run-gt0.branch [
      | then-run-gt0 w ↦ ap (λ (s : Inside). s.files.now) w.self-inside-is
      | else-run-gt0 w ↦ ap (λ (s : Inside). s.files.now) w.self-inside-is
    ]

reads_on : (c : goal.After-self-1) → ReadsOn c.in_ok-run.run' c.self.inside.walk c.if-run-gt0.self c.if-run-gt0.self-inside.walk
reads_on c =
    elim c.if-run-gt0.branch [
      | then-run-gt0 w ↦ inl (w.if-run-gt0.true, w.self-is, ap (λ (s : Inside). s.walk) w.self-inside-is)
      | else-run-gt0 w ↦ inr (
        omega (arith, w.if-run-gt0.false),
        subst (λ (o : Option Run). YieldsFirst (λ (runs : List Run). runs) c.self.inside.walk o c.if-run-gt0.self-inside.walk) (sym w.self-is)
            (subst (λ (l : List Run). YieldsFirst (λ (runs : List Run). runs) c.self.inside.walk w.next-self-inside.result l)
            (sym (ap (λ (s : Inside). s.walk) w.self-inside-is)) w.next-self-inside.ensures.steps),
      )
    ]

pub invariant_of-self-2 : goal.invariant_of-self-2
invariant_of-self-2 c =
    let files : FilesBySite = c.self.inside.files.now in
    let rest : List Run = c.self.inside.walk in
    let all : AreInFiles files (c.in_ok-run.run' ∷ rest) =
    subst (λ (o : Option Run). AreInFiles files (runs_left o rest)) (was c) c.self.invariant in
    subst (λ (f : FilesBySite). AreInFiles f (runs_left c.if-run-gt0.self c.if-run-gt0.self-inside.walk)) (sym (files_stay c))
    (left_in_files files c.in_ok-run.run' rest c.if-run-gt0.self c.if-run-gt0.self-inside.walk (reads_on c) all)

pub returns-clause-steps : goal.returns-clause-steps
returns-clause-steps c =
    let files : FilesBySite = c.self.inside.files.now in
    let rest : List Run = c.self.inside.walk in
    let next : Option Run = c.if-run-gt0.self in
    let after : List Run = c.if-run-gt0.self-inside.walk in
    let all : AreInFiles files (c.in_ok-run.run' ∷ rest) =
    subst (λ (o : Option Run). AreInFiles files (runs_left o rest)) (was c) c.self.invariant in
    let here : IsInFile files c.in_ok-run.run' = All-head (IsInFile files) c.in_ok-run.run' rest all in
    sym c.self.view_is
    ∙ ap (λ (o : Option Run). chars_of_runs files (runs_left o rest)) (was c)
    ∙ first_and_rest files c.in_ok-run.run' rest next after here.some (reads_on c)
    ∙ ap (λ (a : Char). a ∷ chars_of_runs files (runs_left next after)) (sym c.first_of-char.ensures)
    ∙ ap (λ (f : FilesBySite). c.first_of-char.result ∷ chars_of_runs f (runs_left next after)) (sym (files_stay c))

pub returns-clause-goes : goal.returns-clause-goes
returns-clause-goes c =
    let left : List Char = chars_of_runs c.if-run-gt0.self-inside.files.now (runs_left c.if-run-gt0.self c.if-run-gt0.self-inside.walk) in
    let steps : c.args.self.now ≡ c.first_of-char.result ∷ left = returns-clause-steps c in
    let fewer : length left < length c.args.self.now = omega (arith, ap length steps) in
    first_of (search rules, grind (arith, common_steps, fewer))
