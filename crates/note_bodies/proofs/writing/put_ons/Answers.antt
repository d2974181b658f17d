use Rattle.std.proofs.Common.{◌++◌, ◌∷◌, [], sym, ap, ◌∙◌, List, ℕ, All, take, subst}
use Rattle.std.specs.List.{flat_map}
use Rattle.std.proofs.lemmas.List.{flat_map_more, take_all, take_more}
use Rattle.std.proofs.lemmas.List.Elements.{All-push, All-same}
use Rattle.note_entries.specs.Bytes.{IsHash}
use Rattle.note_bodies.specs.Writing.{on_spelling}
use Rattle.note_bodies.specs.declared.ons.On.{On}
use Rattle.note_bodies.proofs.writing.put_ons.Goals as goal

pub loop-on-preserved : goal.loop-on-preserved
loop-on-preserved c =
    let ons : List On = c.args.ons.now in
    let at = c.loop-on.on-index in
    let one : On = c.on-item.result in
    let grown = take_more ons at one c.loop-on-test.true ∙ ap (λ (x : On). take at ons ++ x ∷ []) (sym c.on-item.is) in
    record {
      put = c.in_ok-put_on.ensures.put
          ∙ ap (λ (l : List ℕ). l ++ on_spelling one) c.loop-on.invariant.put
          ∙ flat_map_more on_spelling c.args.out.now.items (take at ons) one
          ∙ ap (λ (l : List On). c.args.out.now.items ++ flat_map on_spelling l) (sym grown);
      hashes = subst (λ (l : List On). All (λ on. IsHash on.hash) l) (sym grown)
          (All-push (λ (on : On). IsHash on.hash) (take at ons) one c.loop-on.invariant.hashes c.in_ok-put_on.ensures.hash);
    }

pub returns-clause-hashes : goal.returns-clause-hashes
returns-clause-hashes c =
    let ons : List On = c.args.ons.now in
    All-same (λ (on : On). IsHash on.hash) ons (take c.loop-on.on-index ons)
    (sym (take_all c.loop-on.on-index ons c.loop-on-test.false)) c.loop-on.invariant.hashes
