-- Bytes that are appended whole, or not at all.
use Rattle.std.proofs.Common.{◌≡◌, ℕ, List, ◌++◌, Result, Ok, Err, refl, ◌∙◌, ◌↔◌, true, false}
use Rattle.std.specs.Prelude.{IsOk, OnOk}
use Rattle.std.specs.declared.alloc.AllocError.{AllocError}
use Rattle.looks.specs.declared.refusal.Refusal.{Refusal}
use Rattle.byte_fields.specs.Fields.{Appends}

-- all of it was appended, or what was is taken back
pub all_of_it : (put : Result (Unit {0}) AllocError) (told : Result (Unit {0}) Refusal)
    (old mid new bytes : List ℕ) → Appends put old mid bytes → IsOk told ↔ IsOk put → OnOk told (new ≡ mid)
    → OnOk told (new ≡ old ++ bytes)
all_of_it (Ok done) (Ok well) old mid new bytes a iff k = k ∙ a
all_of_it (Err refused) (Ok well) old mid new bytes a iff k =
    let no : false ≡ true = iff.0 refl in absurd cc
all_of_it put (Err why) old mid new bytes a iff k = tt
