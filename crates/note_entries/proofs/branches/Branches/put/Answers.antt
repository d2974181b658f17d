use Rattle.std.proofs.Common.{◌++◌, List, Option, Some, sym, subst}
use Rattle.std.specs.Prelude.{OnOk}
use Rattle.std.specs.Map.{values_of}
use Rattle.note_laws.specs.Note.{Saying}
use Rattle.note_entries.specs.Branches.{IsPutSaying}
use Rattle.note_entries.specs.Rows.{PutsOrReturns, StandApart}
use Rattle.note_entries.proofs.Standing.{OnOk_then, apart_left, apart_right, aside_alone, none_aside, put_left, put_right}
use Rattle.note_entries.proofs.branches.Branches.put.Goals as goal
use Rattle.note_entries.proofs.branches.Branches.put.Goals.{After-put_aside-in-Some}

pub invariant_of-self : goal.invariant_of-self
invariant_of-self c =
    apart_right c.self.inside.rows c.self.inside.aside.entries c.put_aside.new.aside.entries c.args.saying c.self.invariant
    (aside_alone c.self.inside.rows c.self.inside.aside.entries c.self.invariant c.args.saying c.of-place.result c.of-place.ensures
    c.if-contains_key.ensures) c.put_aside.ensures.keyed c.put_aside.result c.put_aside.ensures.ok c.put_aside.ensures.err

pub returns-then-contains_key-clause-ok : goal.returns-then-contains_key-clause-ok
returns-then-contains_key-clause-ok c = OnOk_then c.put_aside.result c.put_aside.ensures.ok (λ put.
    subst (λ (old : List Saying). IsPutSaying old c.args.saying (c.self.inside.rows ++ values_of c.put_aside.new.aside.entries))
    c.self.view_is
    (put_right c.self.inside.rows (values_of c.self.inside.aside.entries) (values_of c.put_aside.new.aside.entries) c.args.saying put
    (aside_alone c.self.inside.rows c.self.inside.aside.entries c.self.invariant c.args.saying c.of-place.result c.of-place.ensures
    c.if-contains_key.ensures)))

-- what is put aside is what was given back
back : (c : After-put_aside-in-Some) → PutsOrReturns c.self.inside.rows c.args.saying (Some c.in-Some.saying) c.put.new.self
back c = subst (λ (b : Option Saying). PutsOrReturns c.self.inside.rows c.args.saying b c.put.new.self) c.in-Some.is c.in_ok-saying.ensures.ok

put_back : (c : After-put_aside-in-Some) → OnOk c.put_aside-in-Some.result (IsPutSaying (values_of c.self.inside.aside.entries)
    c.args.saying (values_of c.put_aside-in-Some.new.aside.entries))
put_back c =
    subst (λ (s : Saying). OnOk c.put_aside-in-Some.result (IsPutSaying (values_of c.self.inside.aside.entries) s
    (values_of c.put_aside-in-Some.new.aside.entries))) (back c).0 c.put_aside-in-Some.ensures.ok

pub invariant_of-self-in-Some : goal.invariant_of-self-in-Some
invariant_of-self-in-Some c =
    subst (λ (rows : List Saying). StandApart rows c.put_aside-in-Some.new.aside.entries) (sym (back c).1)
    (apart_right c.self.inside.rows c.self.inside.aside.entries c.put_aside-in-Some.new.aside.entries c.args.saying c.self.invariant
    (back c).2 c.put_aside-in-Some.ensures.keyed c.put_aside-in-Some.result (put_back c) c.put_aside-in-Some.ensures.err)

-- else it is among the rows
among : (c : goal.In-None) → IsPutSaying c.self.inside.rows c.args.saying c.put.new.self
among c = subst (λ (b : Option Saying). PutsOrReturns c.self.inside.rows c.args.saying b c.put.new.self) c.in-None.is c.in_ok-saying.ensures.ok

pub invariant_of-self-in-None : goal.invariant_of-self-in-None
invariant_of-self-in-None c =
    apart_left c.self.inside.rows c.put.new.self c.self.inside.aside.entries c.args.saying c.self.invariant (among c)
    (none_aside c.self.inside.rows c.self.inside.aside.entries c.self.invariant c.args.saying c.of-place.result c.of-place.ensures
    c.if-contains_key.ensures)

pub returns-in-Some-clause-ok : goal.returns-in-Some-clause-ok
returns-in-Some-clause-ok c = OnOk_then c.put_aside-in-Some.result (put_back c) (λ put.
    subst (λ (rows : List Saying). IsPutSaying c.args.self.now c.args.saying
    (rows ++ values_of c.put_aside-in-Some.new.aside.entries)) (sym (back c).1)
    (subst (λ (old : List Saying). IsPutSaying old c.args.saying
    (c.self.inside.rows ++ values_of c.put_aside-in-Some.new.aside.entries)) c.self.view_is
    (put_right c.self.inside.rows (values_of c.self.inside.aside.entries) (values_of c.put_aside-in-Some.new.aside.entries)
    c.args.saying put (back c).2)))

pub returns-in-None-clause-ok : goal.returns-in-None-clause-ok
returns-in-None-clause-ok c =
    subst (λ (old : List Saying). IsPutSaying old c.args.saying (c.put.new.self ++ values_of c.self.inside.aside.entries)) c.self.view_is
    (put_left c.self.inside.rows c.put.new.self (values_of c.self.inside.aside.entries) c.args.saying (among c)
    (none_aside c.self.inside.rows c.self.inside.aside.entries c.self.invariant c.args.saying c.of-place.result c.of-place.ensures
    c.if-contains_key.ensures))
