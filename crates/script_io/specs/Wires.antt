-- What contracts see of the input and the output of a run, what taking a byte answers, and what is held of a line.
use Rattle.std.specs.Prelude.{◌≡◌, ℕ, ◌==◌, List, [], ◌∷◌, length, take, Option, Some, None, unwrap_or, Bool, Result, Ok, Err}
use Rattle.std.specs.List.{position}
use Rattle.std.specs.Io.KnownBytes.{Consumes, Keeps, IsAtEnd}
use Rattle.looks.specs.declared.refusal.Refusal.{Refusal}
use Rattle.looks.specs.declared.refusal.Refusal.TheVariants.{ReadFault}

-- the bytes that the input will give, where its reader tells them; those that it holds already; whether a
-- read failed
pub record InputState : Type 0 where
  pub left : Option (List ℕ)
  pub held : List ℕ
  pub failed : Bool

-- the bytes that the writer has, where it tells them; whether a write or a flush failed; whether all was
-- flushed
pub record OutputState : Type 0 where
  pub contents : Option (List ℕ)
  pub failed : Bool
  pub flushed : Bool

-- what taking a byte answers: the byte, or none at the end, or a fault
abbrev pub TakesByte : Option (List ℕ) → Option (List ℕ) → Result (Option ℕ) Refusal → Type 0
TakesByte old new (Ok (Some byte)) = Consumes old new (byte ∷ [])
TakesByte old new (Ok None) = Consumes old new [] × IsAtEnd new
TakesByte old new (Err why) = (why ≡ ReadFault) × Keeps old new

-- what is held of a line: up to its newline, or all, and so many bytes at most
abbrev pub line_front : (most : ℕ) → List ℕ → List ℕ
line_front most held =
    let near = take most held in
    take (unwrap_or (position (λ b. b == 10) near) (length near)) near
