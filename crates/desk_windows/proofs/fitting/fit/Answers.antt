use Rattle.std.proofs.Common.{sym, arith}
use Rattle.desk_windows.proofs.Areas.{area_fits}
use Rattle.desk_windows.proofs.Fitted.{fit_rows, fit_same, fit_shown, set_rows}
use Rattle.desk_windows.proofs.fitting.fit.Goals as goal

pub fit-requires-clause-on_desk : goal.fit-requires-clause-on_desk
fit-requires-clause-on_desk c =
    (c.requires c.args.number c.in-Some-content.window.now (sym c.in-Some-content.ensures.value)).on_desk

pub fit-requires-clause-low : goal.fit-requires-clause-low
fit-requires-clause-low c =
    let fits = area_fits c.args.viewers.now.tracks c.args.number c.in-Some.area c.lemma_are_viewers.ensures.divided
    (sym c.in-Some.ensures) in
    let few = fits.1 in omega (arith, few)

pub returns-in-Some-content-clause-same : goal.returns-in-Some-content-clause-same
returns-in-Some-content-clause-same c =
    fit_same c.args.viewers.now c.args.number c.in-Some-content.window.now c.fit.new.self c.lemma_are_viewers.ensures
    (sym c.in-Some-content.ensures.value) c.fit.ensures.text c.fit.ensures.anchor

pub returns-in-Some-content-clause-shown : goal.returns-in-Some-content-clause-shown
returns-in-Some-content-clause-shown c =
    fit_shown c.args.viewers.now c.args.number c.in-Some-content.window.now c.fit.new.self c.args.texts.now c.requires
    (sym c.in-Some-content.ensures.value) c.fit.ensures.text c.fit.ensures.width c.fit.ensures.drawn

pub returns-in-Some-content-clause-fitted : goal.returns-in-Some-content-clause-fitted
returns-in-Some-content-clause-fitted c =
    let fits = area_fits c.args.viewers.now.tracks c.args.number c.in-Some.area c.lemma_are_viewers.ensures.divided
    (sym c.in-Some.ensures) in
    let some = fits.0 in
    fit_rows c.args.viewers.now c.args.number c.in-Some-content.window.now c.fit.new.self c.in-Some.area
    (sym c.in-Some.ensures) (omega (arith, some)) c.fit.ensures.rows

pub returns-in-Some-content-clause-kept : goal.returns-in-Some-content-clause-kept
returns-in-Some-content-clause-kept c =
    let fits = area_fits c.args.viewers.now.tracks c.args.number c.in-Some.area c.lemma_are_viewers.ensures.divided
    (sym c.in-Some.ensures) in
    let some = fits.0 in
    set_rows c.args.viewers.now c.args.number c.in-Some-content.window.now c.fit.new.self
    (fit_rows c.args.viewers.now c.args.number c.in-Some-content.window.now c.fit.new.self c.in-Some.area
    (sym c.in-Some.ensures) (omega (arith, some)) c.fit.ensures.rows)
