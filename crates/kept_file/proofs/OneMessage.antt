-- What a message tells, and that its operation was taken in.
use Rattle.std.proofs.Common.{◌≡◌, ℕ, ◌⊎◌, inl, inr, List, Result, Ok, Err, sym, ◌∙◌}
use Rattle.std.specs.Prelude.{OnOk}
use Rattle.looks.specs.declared.refusal.Refusal.{Refusal}
use Rattle.looks.specs.declared.refusal.Refusal.TheVariants.{BadFile, Malformed, OutOfMemory}
use Rattle.operations.specs.Operation.{Operation}
use Rattle.operations.specs.Reading.{SpellsNone}
use Rattle.texts.specs.Take.{Encodes}
use Rattle.texts.specs.Taking.{HasTaken}
use Rattle.texts.specs.TextState.{TextState}

pub next_told : (t new : TextState) (message : List ℕ) (op : Operation) (r : Result (Unit {0}) Refusal)
    → Encodes message op → OnOk r (HasTaken t op new) → OnOk r ((o : Operation) × Encodes message o × HasTaken t o new)
next_told t new message op (Ok done) tells taken = (op, tells, taken)
next_told t new message op (Err why) tells taken = tt

-- one that was refused, and not for memory, tells none
pub none_told : (message : List ℕ) (why given : Refusal) → (why ≡ Malformed) ⊎ (why ≡ OutOfMemory)
    → (why ≡ Malformed → SpellsNone message) → (why ≡ OutOfMemory → given ≡ OutOfMemory) → given ≡ BadFile
    → (op : Operation) → Encodes message op → ⊥
none_told message why given (inl malformed) none short bad op tells = none malformed op tells.valid tells.spelled
none_told message why given (inr memory) none short bad op tells =
    let apart : ◌≡◌ {A = Refusal} OutOfMemory BadFile = sym (short memory) ∙ bad in absurd cc
