use Rattle.std.proofs.Common.{rules, ◌≡◌, ◌<◌, ◌≤◌, ℕ, ◌-◌, length, List, [], ◌∷◌, Option, sym, ap, ◌∙◌, arith}
use Rattle.std.proofs.lemmas.Grind.{common_steps}
use Rattle.piece_list.specs.declared.run.Run.{Run}
use Rattle.piece_list.specs.declared.list.between.Between.TheInside.{Inside}
use Rattle.piece_list.specs.RunSplits.{first_chars, with_first_run}
use Rattle.piece_list.proofs.RunSplits.{none_wanted, reads_one, is_split, is_whole, run_to}
use Rattle.piece_list.proofs.list.between.BetweenIterator.next.Goals.{in-Some, in-None+in_ok-run-in-None}
use Rattle.piece_list.proofs.list.between.BetweenIterator.next.Goals.{then-self-from, else-self-from}
use Rattle.piece_list.proofs.list.between.BetweenIterator.next.Goals as goal

pub returns-then-self-eq0-clause-steps : goal.returns-then-self-eq0-clause-steps
returns-then-self-eq0-clause-steps c =
    let runs : List Run = with_first_run c.self.inside.first c.self.inside.walk in
    let zero : c.self.inside.left ≡ 0 = omega (arith, c.if-self-eq0.true) in
    let none : c.args.self.now ≡ [] =
    sym c.self.view_is ∙ ap (λ (n : ℕ). first_chars n runs) zero ∙ none_wanted runs in
    (none, none)

-- what is left of a value's runs, the front run among them
abbrev runs_of : Inside → List Run
runs_of s = with_first_run s.first s.walk

left_stays : (c : goal.After-self-1) → c.match-take.self-inside.left ≡ c.self.inside.left
left_stays c =
    elim c.match-take.branch [
      | in-Some w ↦ ap (λ (s : Inside). s.left) w.self-inside-is
      | in-None+in_ok-run-in-None w ↦ ap (λ (s : Inside). s.left) w.self-inside-is
    ]

-- the run that is read is the first of them
is_first : (c : goal.After-self-1) → runs_of c.self.inside ≡ c.match-take.run ∷ runs_of c.match-take.self-inside
is_first c =
    elim c.match-take.branch [
      | in-Some w ↦
          ap (λ (o : Option Run). with_first_run o c.self.inside.walk) (sym w.in-Some.ensures.value)
          ∙ ap (λ (r : Run). r ∷ c.self.inside.walk) (sym w.run-is)
          ∙ ap (λ (o : Option Run). c.match-take.run ∷ with_first_run o c.self.inside.walk) (sym c.take.ensures.after)
          ∙ ap (λ (s : Inside). c.match-take.run ∷ runs_of s) (sym w.self-inside-is)
      | in-None+in_ok-run-in-None w ↦
          ap (λ (o : Option Run). with_first_run o c.self.inside.walk) (sym w.in-None.ensures.value)
          ∙ w.in_ok-run-in-None.ensures.steps
          ∙ ap (λ (r : Run). r ∷ w.next.new.self) (sym w.run-is)
          ∙ ap (λ (o : Option Run). c.match-take.run ∷ with_first_run o w.next.new.self) (sym c.take.ensures.after)
          ∙ ap (λ (s : Inside). c.match-take.run ∷ runs_of s) (sym w.self-inside-is)
    ]

-- of it comes what is wanted
is_what_is_wanted : (c : goal.After-self-1) → c.if-self-from.run ≡ run_to c.self.inside.left c.match-take.run
is_what_is_wanted c =
    let stays : c.match-take.self-inside.left ≡ c.self.inside.left = left_stays c in
    let r : Run = c.match-take.run in
    elim c.if-self-from.branch [
      | then-self-from w ↦
          let less : c.self.inside.left < r.len = omega (arith, stays, w.if-self-from.true, c.from.ensures) in
          w.run-is ∙ ap (λ (n : ℕ). record r { len = n }) stays ∙ is_split c.self.inside.left r less
      | else-self-from w ↦
          let all : r.len ≤ c.self.inside.left = omega (arith, stays, w.if-self-from.false, c.from.ensures) in
          w.run-is ∙ is_whole c.self.inside.left r all
    ]

pub returns-clause-steps : goal.returns-clause-steps
returns-clause-steps c =
    let left : ℕ = c.self.inside.left in
    let q : Run = c.if-self-from.run in
    let after : List Run = runs_of c.match-take.self-inside in
    let some : 0 < left = omega (arith, c.if-self-eq0.false) in
    sym c.self.view_is
    ∙ reads_one left (runs_of c.self.inside) after c.match-take.run q some (is_first c) (is_what_is_wanted c)
    ∙ ap (λ (n : ℕ). q ∷ first_chars (n - q.len) after) (sym (left_stays c))
    ∙ ap (λ (n : ℕ). q ∷ first_chars (c.match-take.self-inside.left - n) after) (sym c.from-2.ensures)

pub returns-clause-goes : goal.returns-clause-goes
returns-clause-goes c =
    let rest : List Run =
    first_chars (c.match-take.self-inside.left - c.from-2.result) (runs_of c.match-take.self-inside) in
    let steps : c.args.self.now ≡ c.if-self-from.run ∷ rest = returns-clause-steps c in
    let fewer : length rest < length c.args.self.now = omega (arith, ap length steps) in
    first_of (search rules, grind (arith, common_steps, fewer))
