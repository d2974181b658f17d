use Rattle.std.proofs.Common.{◌≡◌, ℕ, ◌<◌, [], refl, sym, subst, ◌∙◌, arith}
use Rattle.looks.specs.Looks.{plain_looks}
use Rattle.char_files.specs.declared.name.Anchor.{Anchor}
use Rattle.char_files.specs.declared.name.Anchor.TheVariants.{At}
use Rattle.operations.specs.Operation.{insert, MentionsBy}
use Rattle.set_laws.specs.Fronts.{file_len}
use Rattle.texts.specs.Edit.{anchor_before}
use Rattle.texts.specs.TextState.{shown_of}
use Rattle.texts.proofs.OwnInsert.{insert_is_plain}
use Rattle.texts.proofs.replica.Replica.own_cause.Goals as goal

pub returns-in-At-clause-cause : goal.returns-in-At-clause-cause
returns-in-At-clause-cause c =
    let t = c.args.self.now in
    let at = file_len t.operations t.site in
    let name = c.in-At.name in
    let is : anchor_before (shown_of t) c.args.pos ≡ At name = sym c.anchor_after-cause.ensures ∙ c.in-At.is in
    let mentioned = subst (λ (a : Anchor). MentionsBy (insert a at plain_looks []) name) (sym is) refl in
    let plain = insert_is_plain t c.args.pos plain_looks [] c.lemma_is_text.ensures c.requires.in_text in (
      omega arith,
      omega arith,
      omega arith,
      λ same.
          subst (λ (site : ℕ). name.off < file_len t.operations site) same (plain.ready.1.own name mentioned same),
    )
