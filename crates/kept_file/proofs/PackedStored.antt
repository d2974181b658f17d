-- A packed file, written operation by operation.
use Rattle.std.proofs.Common.{◌≡◌, ℕ, ◌+◌, List, [], ◌∷◌, ◌++◌, length, take, Some, refl, sym, ap, subst, ◌∙◌, append_assoc}
use Rattle.std.specs.Prelude.{All, AllPairs, slice_get, ◌≢◌}
use Rattle.std.proofs.lemmas.List.{take_at}
use Rattle.std.proofs.lemmas.List.Elements.{All-push}
use Rattle.operations.specs.Operation.{Operation}
use Rattle.operations.specs.Spelling.{HasSpelling}
use Rattle.set_laws.specs.Sets.{AreIdentified, KeepsCauses}
use Rattle.packed.specs.Spelling.{packed, packed_next}
use Rattle.packed.specs.Told.{Told, IsNext, told, told_on}
use Rattle.packed.proofs.PackedLists.{adds_at_the_end}
use Rattle.texts.specs.Text.{IsText}
use Rattle.texts.specs.TextState.{TextState}
use Rattle.kept_file.proofs.Following.{first_parts, is_next}

-- so many operations of a text were packed
pub record ArePut (ops : List Operation) (old new : List ℕ) (n : ℕ) (t : Told) : Type 0 where
  pub parts : new ≡ old ++ packed (take n ops)
  pub spelled : All HasSpelling (take n ops)
  pub tells : t ≡ told (take n ops)

-- memory was refused, and what was there before stays in front
pub some_put : (ops : List Operation) (old mid new : List ℕ) (n : ℕ) (t : Told) → ArePut ops old mid n t → new ≡ mid
    → take (length old) new ≡ old
some_put ops old mid new n t put same =
    ap (take (length old)) (same ∙ put.parts) ∙ take_at old (packed (take n ops)) (length old) refl

module _ (ops : List Operation) (old mid : List ℕ) (n : ℕ) (t : Told) (op : Operation) (put : ArePut ops old mid n t)
    (is : slice_get ops n ≡ Some op) (spelled : HasSpelling op) where
  -- the next one is its site's next
  pub next_put : (s : TextState) → IsText s → s.operations ≡ ops → AllPairs (λ a b. a ≢ b) ops → IsNext t op
  next_put s text same once =
      subst (λ (u : Told). IsNext u op) (sym put.tells)
      (is_next ops (subst KeepsCauses same text.in_order) (subst AreIdentified same text.identified) once n op is spelled)

  -- and so one more was packed
  pub one_put : (new : List ℕ) (u : Told) → new ≡ mid ++ packed_next t op → u ≡ told_on t op → ArePut ops old new (n + 1) u
  one_put new u added tells =
      let first : List Operation = take n ops in
      let whole : take (n + 1) ops ≡ first ++ op ∷ [] = first_parts ops n op is in
      record {
        parts =
            added ∙ ap (λ (l : List ℕ). l ++ packed_next t op) put.parts
            ∙ append_assoc old (packed first) (packed_next t op)
            ∙ ap (λ (v : Told). old ++ (packed first ++ packed_next v op)) put.tells
            ∙ ap (λ (l : List ℕ). old ++ l) (sym (adds_at_the_end first op).0)
            ∙ ap (λ (l : List Operation). old ++ packed l) (sym whole);
        spelled = subst (All HasSpelling) (sym whole) (All-push HasSpelling first op put.spelled spelled);
        tells =
            tells ∙ ap (λ (v : Told). told_on v op) put.tells ∙ sym (adds_at_the_end first op).1
            ∙ ap told (sym whole);
      }
