-- The letter after a letter is new and ready, once that was taken in.
use Rattle.std.proofs.Common.{◌≡◌, ℕ, ◌+◌, ◌<◌, ◌≤◌, inl, inr, List, Contains, refl, sym, ap, subst, ◌∙◌}
use Rattle.std.proofs.Common.{eq-eqb, arith}
use Rattle.std.proofs.lemmas.Bool.{cond-true}
use Rattle.std.proofs.lemmas.List.Elements.{Contains-push}
use Rattle.char_files.specs.CharName.{CharName}
use Rattle.operations.specs.Letters.{letter, after_letter}
use Rattle.operations.specs.Operation.{Operation, Inserts}
use Rattle.operations.specs.declared.typing.Typing.{Typing}
use Rattle.tree_order.specs.Good.{Good, IsCauseOf}
use Rattle.set_laws.specs.Fronts.{front_of, file_len, IsHeld}
use Rattle.set_laws.specs.Growing.{AreCountedOn}
use Rattle.set_laws.specs.Sets.{AreIdentified}
use Rattle.set_laws.specs.Verdict.{HasVerdict, IsAboveCauses, IsNew, ready}
use Rattle.set_laws.proofs.Counting.{counted_on}
use Rattle.set_laws.proofs.Covered.{one_insert}
use Rattle.set_laws.proofs.Freed.{good_if_ready}
use Rattle.set_laws.proofs.Fronts.{up_to_front}
use Rattle.set_laws.proofs.OneMore.{with_one, with_one_identified}

module _ (ops : List Operation) (t : Typing) (a b : ℕ) (good : Good ops) (known : AreIdentified ops)
    (new : IsNew ops (letter t a)) (is : HasVerdict ops (letter t a) ready) where
  -- the letters, and the operations with the first
  abbrev first : Operation
  first = letter t a

  abbrev next : Operation
  next = letter (after_letter t) b

  abbrev more : List Operation
  more = with_one ops first

  -- its name, on which the next one hangs
  abbrev name : CharName
  name = record { site = t.site; off = t.at }

  larger_good : Good more
  larger_good = good_if_ready ops first good known new is

  larger_known : AreIdentified more
  larger_known = with_one_identified ops first known new

  here : Contains more first
  here = Contains-push ops first

  counted : AreCountedOn ops first
  counted = counted_on ops first good known new is.0

  front : front_of more t.site ≡ t.seq
  front = counted.front t.site ∙ cond-true _ _ _ (eq-eqb t.site t.site refl)

  file : file_len more t.site ≡ t.at + 1
  file =
      let grown : file_len more t.site ≡ file_len ops t.site + 1 =
      counted.file t.site ∙ cond-true _ _ _ (eq-eqb t.site t.site refl) in
      let begins : t.at ≡ file_len ops t.site = is.1.begins in
      omega arith

  is_here : t.at < file_len more t.site
  is_here = let len : file_len more t.site ≡ t.at + 1 = file in omega arith

  unheld : IsHeld more t.site (t.seq + 1) → ⊥
  unheld (x, held, on, at) =
      let up : x.seq ≤ front_of more t.site =
      subst (λ (s : ℕ). x.seq ≤ front_of more s) on (up_to_front more x held) in
      let at_front : front_of more t.site ≡ t.seq = front in
      omega arith

  inserted : Inserts first name
  inserted = (refl, omega arith, omega arith)

  -- the first letter is the next one's only cause
  only_cause : (p : Operation) → Contains more p → IsCauseOf p next → p ≡ first
  only_cause p held (inl (on, at)) = larger_known.unique p first held here on (omega arith)
  only_cause p held (inr (c, m, ins)) =
      one_insert more larger_known larger_good.begins name p first held here
      (subst (λ (n : CharName). Inserts p n) m ins) inserted

  above : IsAboveCauses more next
  above p held cause =
      let stamp : p.stamp ≡ t.stamp = ap (λ (o : Operation). o.stamp) (only_cause p held cause) in
      omega arith

  pub next_letter : IsNew more next × HasVerdict more next ready
  next_letter = (
    record { counted = omega arith; unheld = unheld },
    (
      λ later. (first, here, (refl, refl)),
      record {
        begins = sym file;
        own = λ c m on. subst (λ (n : CharName). n.off < file_len more n.site) (sym m) is_here;
      },
      λ c m apart. absurd (apart (ap (λ (n : CharName). n.site) m)),
      above,
    ),
  )
