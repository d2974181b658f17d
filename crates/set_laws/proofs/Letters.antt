-- Whether a letter is ready is the same of each that may stand there.
use Rattle.std.proofs.Common.{ℕ, List, [], ◌∷◌, inl, inr}
use Rattle.char_files.specs.CharName.{CharName}
use Rattle.char_files.specs.declared.name.Anchor.{Anchor}
use Rattle.char_files.specs.declared.name.Anchor.TheVariants.{At, Root}
use Rattle.operations.specs.Letters.{letter}
use Rattle.operations.specs.Operation.{Mentions, MentionsBy, Operation, insert}
use Rattle.operations.specs.declared.typing.Typing.{Typing}
use Rattle.tree_order.specs.Good.{IsCauseOf}
use Rattle.set_laws.specs.Verdict.{HasVerdict, ready}

another_mentions : (t : Typing) (cause : Anchor) (a b : ℕ) (name : CharName)
    → MentionsBy (insert cause t.at t.looks (b ∷ [])) name → MentionsBy (insert cause t.at t.looks (a ∷ [])) name
another_mentions t Root a b name is = is
another_mentions t (At cause) a b name is = is

module _ (ops : List Operation) (t : Typing) (a b : ℕ) where
  mentions : (name : CharName) → Mentions (letter t b) name → Mentions (letter t a) name
  mentions = another_mentions t t.cause a b

  is_cause : (p : Operation) → IsCauseOf p (letter t b) → IsCauseOf p (letter t a)
  is_cause p (inl precedes) = inl precedes
  is_cause p (inr (name, is, inserts)) = inr (name, mentions name is, inserts)

  pub another_is_ready : HasVerdict ops (letter t a) ready → HasVerdict ops (letter t b) ready
  another_is_ready (follows, fits, foreign, above) = (
    follows,
    record { begins = fits.begins; own = λ name is. fits.own name (mentions name is) },
    λ name is. foreign name (mentions name is),
    λ p held cause. above p held (is_cause p cause),
  )
