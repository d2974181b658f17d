-- Letters that a site types one after the other.
use Rattle.std.specs.Prelude.{ℕ, ◌+◌, List, [], ◌∷◌}
use Rattle.char_files.specs.declared.name.Anchor.TheVariants.{At}
use Rattle.operations.specs.Operation.{Operation, insert}
use Rattle.operations.specs.declared.typing.Typing.{Typing}

-- the Insert of the next letter
abbrev pub letter : Typing → (byte : ℕ) → Operation
letter t byte = record {
  text = t.text;
  site = t.site;
  seq = t.seq;
  stamp = t.stamp;
  kind = insert t.cause t.at t.looks (byte ∷ []);
}

-- where the site types after that letter: the one after it hangs on it, and its numbers go on
abbrev pub after_letter : Typing → Typing
after_letter t =
    record t {
      seq = t.seq + 1;
      stamp = t.stamp + 1;
      at = t.at + 1;
      cause = At (record { site = t.site; off = t.at });
    }

-- the Inserts of these letters
abbrev pub letters : Typing → (bytes : List ℕ) → List Operation
letters t [] = []
letters t (byte ∷ bytes) = letter t byte ∷ letters (after_letter t) bytes

-- where the site types after so many letters
abbrev pub after_letters : Typing → List ℕ → Typing
after_letters t [] = t
after_letters t (byte ∷ bytes) = after_letters (after_letter t) bytes
