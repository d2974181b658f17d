use Rattle.std.proofs.Common.{ap, length, arith}
use Rattle.text_file.proofs.Filled.{todo_all, todo_fits, todo_more, todo_none, run_len}
use Rattle.text_file.proofs.Heads.{head_longer}
use Rattle.text_file.proofs.loading.text_of.Goals as goal

pub loop-head-init : goal.loop-head-init
loop-head-init c = record {
  len = omega (arith, ap length c.new-text.ensures);
  goes = todo_all c.args.heads.now c.args.chars.now c.new-text.result c.new-text.ensures;
}

pub split_at-requires : goal.split_at-requires
split_at-requires c =
    todo_fits c.lemma_one_spelling.ensures.looks _ c.loop-head.text c.loop-head.rest.now c.loop-head.left.now
    c.in-Some.head c.in-Some.after.now c.in-Some.ensures.some.0 c.in-Some.ensures.some.1
    (c.loop-head.invariant.goes c.requires.spelled.0 c.requires.spelled.1)

pub push_all-requires : goal.push_all-requires
push_all-requires c =
    omega (
      arith,
      c.loop-head.invariant.len,
      c.split_at.ensures.front_len,
      c.split_at.ensures.back_len,
      c.requires.few,
    )

pub loop-head-preserved : goal.loop-head-preserved
loop-head-preserved c = record {
  len =
      omega (
        arith,
        c.loop-head.invariant.len,
        run_len c.loop-head.text c.push_all.new.text c.in-Some.head.looks c.split_at.result.0.now
            c.in_ok-push_all.ensures.ok,
        c.split_at.ensures.front_len,
        c.split_at.ensures.back_len,
      );
  goes = λ runs s.
      todo_more c.lemma_one_spelling.ensures.looks _ c.loop-head.text c.loop-head.rest.now c.loop-head.left.now
      c.in-Some.head c.in-Some.after.now c.in-Some.ensures.some.0 c.in-Some.ensures.some.1
      c.push_all.new.text c.split_at.result.0.now c.split_at.result.1.now c.split_at.ensures.front
      c.split_at.ensures.back (c.loop-head.invariant.goes runs s) c.in_ok-push_all.ensures.ok;
}

pub loop-head-smaller : goal.loop-head-smaller
loop-head-smaller c =
    omega (arith, head_longer c.in-Some.head c.in-Some.after.now, ap length c.in-Some.ensures.some.1)

pub returns-clause-ok : goal.returns-clause-ok
returns-clause-ok c = λ runs s.
    todo_none _ c.loop-head.text c.loop-head.rest.now c.loop-head.left.now (c.loop-head.invariant.goes runs s)
    c.in_default.ensures.none
