-- What a call does over a handle, whatever it does to the handle's text or note.
use Rattle.std.specs.Prelude.{◌≡◌, ℕ, Option, Some, None, MatchOption}
use Rattle.vialshoal_c.specs.declared.numbers.TheConstants.{NOT_OPEN}

-- over a handle that has nothing the number says so, this holds of what is written, and nothing else is done; over
-- one that has a text or a note, this is done to it
abbrev pub OnOpen : {S : Type 0} → (old new : Option S) → (number : ℕ) → (idle : Type 0) → (S → S → Type 0) → Type 0
OnOpen None new number idle does = (number ≡ NOT_OPEN) × idle × (new ≡ None)
OnOpen (Some s) new number idle does = MatchOption new ⊥ (does s)

-- the same of a call that changes nothing, and says this of the text; of a past handle alike
abbrev pub Reads : {S : Type 0} → (old new : Option S) → (number : ℕ) → (idle : Type 0) → (S → Type 0) → Type 0
Reads None new number idle says = (number ≡ NOT_OPEN) × idle × (new ≡ None)
Reads (Some s) new number idle says = says s × (new ≡ Some s)

-- the call was misused so, and nothing was done
abbrev pub IsMisused : {S : Type 0} → ℕ → S → (number : ℕ) → S → Type 0
IsMisused why s number new = (number ≡ why) × (new ≡ s)
