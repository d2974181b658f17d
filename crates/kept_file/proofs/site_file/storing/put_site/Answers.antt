use Rattle.std.proofs.Common.{◌≡◌, ◌++◌, List, ℕ, length}
use Rattle.std.specs.Int.{w16, w32}
use Rattle.std.specs.List.{flat_map}
use Rattle.byte_fields.specs.Fields.{number_spelling}
use Rattle.byte_fields.proofs.Appended.{Appends-after}
use Rattle.texts.specs.SiteFiles.{entry_spelling, site_bytes, site_tag}
use Rattle.kept_file.proofs.site_file.storing.put_site.Goals as goal

pub returns-clause-bytes : goal.returns-clause-bytes
unfolding site_bytes
returns-clause-bytes c =
    let r = c.args.replica.now in
    let head : List ℕ =
    site_tag ++ number_spelling w16 r.text ++ number_spelling w16 r.site ++ number_spelling w32 (length r.operations) in
    let one : c.put_head.new.out.items ≡ c.args.out.now.items ++ head =
    cc (
      c.in_ok-put_head.ensures,
      c.get-text.ensures.value,
      c.get-site.ensures.value,
      c.text.ensures,
      c.site.ensures,
      c.taken_len.ensures,
    ) in
    Appends-after c.put_entries.result c.args.out.now.items c.put_head.new.out.items c.put_entries.new.out.items head
    (flat_map entry_spelling r.operations) one c.put_entries.ensures.entries
