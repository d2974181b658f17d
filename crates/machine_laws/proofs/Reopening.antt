-- A text that begins anew with the operations that a site's file tells: there is one, and no other.
use Rattle.std.proofs.Common.{◌≡◌, ℕ, List, [], ◌++◌, length, false, All, refl, sym, ap, subst, ◌∙◌, arith}
use Rattle.std.proofs.Math.Seq.{take-length}
use Rattle.std.proofs.lemmas.List.Elements.{All-contains, All-nil}
use Rattle.char_files.specs.declared.character.Char.{Char}
use Rattle.operations.specs.Operation.{Operation}
use Rattle.operations.specs.Spelling.{HasSpelling}
use Rattle.tree_order.specs.Good.{Good}
use Rattle.tree_order.specs.Shown.{AreChars}
use Rattle.set_laws.specs.Sets.{AreIdentified, IsPartOf}
use Rattle.set_laws.proofs.Closing.{nothing_is_identified}
use Rattle.texts.specs.SiteFiles.{HasSiteFile}
use Rattle.texts.specs.Taking.{HasTakenAll}
use Rattle.texts.specs.TextState.{TextState, empty_text, noting, text_state_of}
use Rattle.texts.proofs.Chars.{has_chars, one_chars}
use Rattle.machine.specs.Tasks.{text_has_begun}
use Rattle.machine_laws.proofs.Reaching.{no_name}

-- in this text nothing was done yet, and it begins anew with these operations
abbrev pub Begins : List Operation → TextState → TextState → Type 0
Begins ops t u = (text_has_begun t ≡ false) × HasTakenAll (empty_text t.text t.site) ops u

-- operations that a message tells, which are good, have identities
spelled_identified : (ops : List Operation) → Good ops → All HasSpelling ops → AreIdentified ops
spelled_identified ops good spelled = record {
  counted = λ op held. (All-contains HasSpelling ops op spelled held).seq.0;
  unique = good.identities;
}

-- a text begins with the operations of a site's file
pub some_begun : (text site : ℕ) (ops : List Operation) → HasSiteFile text site ops
    → (u : TextState) × HasTakenAll (empty_text text site) ops u
some_begun text site ops has =
    let good : Good ops = subst Good (take-length ops) (has.in_order (length ops)) in
    let (chars, are) = has_chars ops good in (
      text_state_of text site ops chars [] [] [] (noting 0),
      record {
        is = record {
          good = good;
          in_order = has.in_order;
          identified = spelled_identified ops good has.spelled;
          of_text = has.of_text;
          chars = are;
          deleted = λ c named. absurd (no_name c named);
          waiting = record { of_text = All-nil _; identified = nothing_is_identified; few = omega arith };
        };
        grown = refl;
      },
    )

-- the same operations more leave one text
pub one_begun : (t u u' : TextState) (ops : List Operation) → HasTakenAll t ops u → HasTakenAll t ops u' → u ≡ u'
one_begun t u u' ops taken taken' =
    let all : List Operation = t.operations ++ ops in
    let held : u.operations ≡ all = ap (λ (x : TextState). x.operations) taken.grown in
    let held' : u'.operations ≡ all = ap (λ (x : TextState). x.operations) taken'.grown in
    let order : u.order ≡ u'.order = one_chars all (subst Good held taken.is.good) u.order u'.order
    (subst (λ (x : List Operation). AreChars x u.order) held taken.is.chars)
    (subst (λ (x : List Operation). AreChars x u'.order) held' taken'.is.chars) in
    taken.grown ∙ ap (λ (x : List Char). record t { operations = all; order = x }) order ∙ sym taken'.grown

-- a text in which nothing was done holds nothing
pub held_nothing : (t : TextState) (ops : List Operation) → text_has_begun t ≡ false → IsPartOf t.operations ops
held_nothing t ops fresh op (k, within, is) = absurd (grind (arith, fresh, within))
