use Rattle.std.proofs.Common.{arith, codes}
use Rattle.clap.specs.Words.{first_value, found_of}
use Rattle.script_sites.specs.declared.settings.TheConstants.{MAX_FIRST, MAX_SITES, MIN_WIDTH, MAX_WIDTH, MIN_HEIGHT, MAX_HEIGHT}
use Rattle.site_cli.proofs.Decimals.{number_found-bounds}
use Rattle.site_cli.proofs.settings.settings_in.Goals as goal

pub invariant_of-result : goal.invariant_of-result
invariant_of-result c =
    let f = found_of c.args.matches.now in
    let first = number_found-bounds 1 MAX_FIRST (first_value f (codes "first")) c.in_ok-first.first c.in_ok-first.ensures.ok in
    let count = number_found-bounds 1 MAX_SITES (first_value f (codes "count")) c.in_ok-count.count c.in_ok-count.ensures.ok in
    record {
      first_in_range = (omega (arith, first.0), first.1);
      count_in_range = (omega (arith, count.0), count.1);
      width_in_range = number_found-bounds MIN_WIDTH MAX_WIDTH (first_value f (codes "width")) c.in_ok-width.width c.in_ok-width.ensures.ok;
      height_in_range = number_found-bounds MIN_HEIGHT MAX_HEIGHT (first_value f (codes "height")) c.in_ok-height.height c.in_ok-height.ensures.ok;
    }
