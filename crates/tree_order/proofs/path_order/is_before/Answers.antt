use Rattle.char_files.specs.declared.name.Anchor.TheVariants.{Root, At}
use Rattle.tree_order.proofs.Turns.{All-path, Before_iff}
use Rattle.tree_order.proofs.path_order.is_before.Goals as goal

pub is_path_before-requires-clause-first : goal.is_path_before-requires-clause-first
is_path_before-requires-clause-first c =
    let p = c.args.p.now in
    rw c.deref.ensures.value (All-path c.args.ops.now Root (At p.of) p.names.items c.requires.first)

pub is_path_before-requires-clause-second : goal.is_path_before-requires-clause-second
is_path_before-requires-clause-second c =
    let q = c.args.q.now in
    rw c.deref-2.ensures.value (All-path c.args.ops.now Root (At q.of) q.names.items c.requires.second)

pub returns : goal.returns
returns c =
    let ops = c.args.ops.now in
    let p = c.args.p.now in
    let q = c.args.q.now in
    let before = Before_iff ops c.requires.good p.of q.of p.names.items q.names.items c.requires.first
    c.requires.second in
    let told = rw (c.deref.ensures.value, c.deref-2.ensures.value) at c.is_path_before.ensures in
    (λ h. before.1 (told.0 h), λ b. told.1 (before.0 b))
