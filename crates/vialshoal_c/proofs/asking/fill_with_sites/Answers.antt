use Rattle.std.proofs.Common.{◌+◌, ◌<◌, ◌∷◌, ◌++◌, ℕ, List, length, drop, get_or, set, ap, subst, sym, ◌∙◌, arith, refl}
use Rattle.std.proofs.lemmas.List.{drop_all, drop_more}
use Rattle.vialshoal_c.proofs.Filling.{IsFilled, fill_begins, fill_ends, fill_more, has_room, same_number, same_numbers}
use Rattle.vialshoal_c.proofs.asking.fill_with_sites.Goals as goal

pub loop-site-init : goal.loop-site-init
loop-site-init c = record { same = refl; filled = fill_begins same_number c.args.sites.now c.args.room.now c.requires }

left : (sites : List ℕ) (old new : List ℕ) (i at d : ℕ) → i < length sites
    → IsFilled same_number sites (drop i sites) old new at
    → IsFilled same_number sites (get_or sites i d ∷ drop (i + 1) sites) old new at
left sites old new i at d lt is = subst (λ (l : List ℕ). IsFilled same_number sites l old new at) (drop_more sites i d lt) is

pub bounds-room-at : goal.bounds-room-at
bounds-room-at c =
    has_room same_number _ _ _ _ _ _ (left c.args.sites.now c.args.room.now c.loop-site.room c.loop-site.site-index
    c.loop-site.at 1 c.loop-site-test.true c.loop-site.invariant.filled)

pub loop-site-preserved : goal.loop-site-preserved
loop-site-preserved c =
    let more = fill_more same_number _ _ _ _ _ _ (left c.args.sites.now c.args.room.now c.loop-site.room
    c.loop-site.site-index c.loop-site.at c.site-item.result c.loop-site-test.true c.loop-site.invariant.filled) in
    record {
      same = ap (λ (n : ℕ). n + 1) c.loop-site.invariant.same;
      filled = subst (λ (n : ℕ). IsFilled same_number c.args.sites.now (drop (c.loop-site.site-index + 1) c.args.sites.now)
          c.args.room.now (set c.loop-site.room c.loop-site.at n) (c.loop-site.at + 1)) (sym (c.get.ensures.value ∙ c.site-item.is)) more;
    }

pub returns : goal.returns
returns c =
    fill_ends same_number c.args.sites.now c.args.room.now c.loop-site.room c.loop-site.at
    (subst (λ (l : List ℕ). IsFilled same_number c.args.sites.now l c.args.room.now c.loop-site.room c.loop-site.at)
    (drop_all c.loop-site.site-index c.args.sites.now (omega (arith, c.loop-site-test.false))) c.loop-site.invariant.filled)
    ∙ ap (λ (xs : List ℕ). xs ++ drop (length c.args.sites.now) c.args.room.now) (same_numbers c.args.sites.now)
