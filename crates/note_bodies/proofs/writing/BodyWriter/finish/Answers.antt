use Rattle.std.proofs.Common.{◌≡◌, ℕ, ◌++◌, List, All, length, sym, ap, subst, ◌∙◌, arith}
use Rattle.std.specs.Int.{w16}
use Rattle.std.specs.List.{flat_map}
use Rattle.byte_fields.specs.Fields.{number_spelling}
use Rattle.note_entries.specs.Bytes.{IsHash}
use Rattle.note_bodies.specs.Bodies.{AreMessagesOf}
use Rattle.note_bodies.specs.Writing.{AreAddedInTurn, Begun, body_spelling, nothing_said, on_spelling}
use Rattle.note_bodies.specs.declared.ons.On.{On}
use Rattle.note_bodies.proofs.ReadBack.{messages_read}
use Rattle.note_bodies.proofs.writing.BodyWriter.finish.Goals as goal

pub returns-clause-messages : goal.returns-clause-messages
returns-clause-messages c = λ key head len said can are added.
    let ons : List On = c.self.inside.ons.items in
    let w : Begun = record { ons = ons; chunk = c.self.inside.chunk; count = c.self.inside.count } in
    let many : c.len.result ≡ length ons = omega (arith, c.len.ensures, c.self.inside.ons.ok) in
    let counted : c.put_u16.new.out.items ≡ number_spelling w16 (length ons) =
    c.in_ok-put_u16.ensures ∙ ap (λ (l : List ℕ). l ++ number_spelling w16 c.len.result) c.new-body.ensures.items
    ∙ ap (number_spelling w16) many in
    let put : c.put_ons.new.out.items ≡ number_spelling w16 (length ons) ++ flat_map on_spelling ons =
    c.in_ok-put_ons.ensures.put ∙ ap (λ (l : List ℕ). l ++ flat_map on_spelling c.deref.result.now) counted
    ∙ ap (λ (l : List On). number_spelling w16 (length ons) ++ flat_map on_spelling l) c.deref.ensures.value in
    let whole : c.extend_from_slice.new.self.items ≡ body_spelling ons c.self.inside.chunk.bytes =
    c.in_ok-extend_from_slice.ensures.items ∙ ap (λ (l : List ℕ). l ++ c.bytes.result.now) put
    ∙ ap (λ (l : List ℕ). number_spelling w16 (length ons) ++ flat_map on_spelling ons ++ l) c.bytes.ensures in
    subst (λ (bytes : List ℕ). AreMessagesOf key head bytes said) (sym whole)
    (messages_read key head len said w
    (subst (λ (l : List On). All (λ on. IsHash on.hash) l) c.deref.ensures.value c.in_ok-put_ons.ensures.hashes) can are
    (subst (λ (b : Begun). AreAddedInTurn head.text len (nothing_said head.text) said b) (sym c.self.view_is) added))
