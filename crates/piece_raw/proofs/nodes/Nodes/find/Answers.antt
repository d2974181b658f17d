use Rattle.std.proofs.Common.{◌≡◌, length, slice_get, option_map, Some, sym, ap, ◌∙◌, arith}
use Rattle.std.proofs.lemmas.List.{length-map}
use Rattle.std.proofs.lemmas.Option.{slice_get_within, slice_get_read, slice_get-map}
use Rattle.piece_raw.specs.Tied.{spots}
use Rattle.piece_raw.proofs.Matching.{found, trailer_found}
use Rattle.piece_raw.proofs.nodes.Nodes.find.Goals as goal

pub index-requires : goal.index-requires
index-requires g c =
    let n = c.args.self.now in let tied = c.requires.0 in let x = c.requires.1.0 in
    let among = c.requires.1.1 in let table = n.table in
    let at = found (spots table.items) n.links.trailer tied.trailer_empty n.links.nodes tied.matches.held
    among.0 x among.1 among.2 c.in-Some.tag (c.requires.1.2 ∙ c.in-Some.is) in
    let within = slice_get_within (spots table.items) c.in-Some.tag x.at at in
    omega (arith, table.ok.0, length-map table.items (λ b. b.node.ptr))

pub returns-in-None : goal.returns-in-None
returns-in-None g c = λ x among s.
    let n = c.args.self.now in let tied = c.requires.0 in
    tied.trailer_at ∙ trailer_found (spots n.table.items)
    n.links.trailer tied.trailer_empty n.links.nodes tied.matches.held among.0 x among.1 among.2 (s ∙
    c.in-None.is)

pub returns-in-Some : goal.returns-in-Some
returns-in-Some g c = λ x among s.
    let n = c.args.self.now in let tied = c.requires.0 in let table = n.table in let k = c.in-Some.tag in
    let b = c.index.result.now in
    let at = found (spots table.items) n.links.trailer tied.trailer_empty n.links.nodes tied.matches.held
    among.0 x among.1 among.2 k (s ∙ c.in-Some.is) in
    let within = slice_get_within (spots table.items) k x.at at in
    let read : slice_get table.items k ≡ Some b = slice_get_read table.items (length table.items)
    k b (λ i. length table.items) (omega (arith, length-map table.items (λ d. d.node.ptr)))
    c.index.ensures in
    let both : Some b.node.ptr ≡ Some x.at = sym (slice_get-map (λ d. d.node.ptr) table.items k ∙
    ap (option_map (λ d. d.node.ptr)) read) ∙ at in
    cc
