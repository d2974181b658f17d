use Rattle.std.proofs.Common.{◌≡◌, sym, ◌∙◌}
use Rattle.std.proofs.lemmas.Bool.Decides.{Decides-eqb}
use Rattle.std.proofs.lemmas.Map.Made.{lookup_key_same}
use Rattle.char_files.proofs.SiteMaps.{stands}
use Rattle.char_files.proofs.site_map.SiteMap.slot.Goals as goal

pub returns-in-Some-clause-some : goal.returns-in-Some-clause-some
returns-in-Some-clause-some g c =
    let key : c.in-Some.key.now ≡ c.args.site = c.if-key-get.true ∙ c.get.ensures.value in
    rw (← c.self.view_is)
    (stands c.self.inside.values.entries c.args.site c.self.inside.last c.in-Some.key.now c.in-Some.field-0-1.now key
    (sym c.in-Some.ensures.entry) (rw (← key) c.in-Some.ensures.value))

pub returns-in_ok-get_full-in_default-clause-some : goal.returns-in_ok-get_full-in_default-clause-some
returns-in_ok-get_full-in_default-clause-some g c =
    let found = c.in_ok-get_full-in_default.field-0 in
    let asked : c.get-in_default.result ≡ c.args.site = c.get-in_default.ensures.value in
    let values = c.self.inside.values.entries in
    let key : c.get-in_default.result ≡ found.1.now =
    lookup_key_same Decides-eqb c.get-in_default.result values found.1.now (sym c.in_ok-get_full-in_default.ensures.key) in
    rw (← c.self.view_is)
    (stands values c.args.site found.0 found.1.now found.2.now (sym key ∙ asked) c.in_ok-get_full-in_default.ensures.entry
    (rw (← asked) (sym c.in_ok-get_full-in_default.ensures.value)))
