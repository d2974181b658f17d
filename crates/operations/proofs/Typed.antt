-- Letters that are in range have each a spelling.
use Rattle.std.proofs.Common.{◌≡◌, ℕ, ◌+◌, ◌-◌, ◌^◌, ◌<◌, ◌≤◌, List, [], ◌∷◌, length, get_or, All, arith}
use Rattle.std.proofs.lemmas.List.Elements.{All-cons, All-head, All-nil, All-tail}
use Rattle.char_files.specs.declared.TheConstants.{MAX_FILE}
use Rattle.looks.specs.Looks.{IsLooks}
use Rattle.operations.specs.Letters.{after_letter, letter, letters}
use Rattle.operations.specs.Spelling.{HasSpelling, IsCause}
use Rattle.operations.specs.declared.op.TheConstants.{MAX_STAMP}
use Rattle.operations.specs.declared.typing.Typing.{Typing}

-- so many letters have numbers, stamps and places
pub record HasRoomFor (t : Typing) (n : ℕ) : Type 0 where
  pub text : (0 < t.text) × (t.text < 2 ^ 16)
  pub site : (0 < t.site) × (t.site < 2 ^ 16)
  pub seq : (0 < t.seq) × (t.seq + n ≤ 2 ^ 32)
  pub stamp : (0 < t.stamp) × (t.stamp + n ≤ MAX_STAMP + 1)
  pub in_file : t.at + n ≤ MAX_FILE
  pub caused : IsCause t.site t.at t.cause
  pub valid_looks : IsLooks t.looks

pub letters_spelled : (t : Typing) (n : ℕ) (bytes : List ℕ) → HasRoomFor t n → length bytes ≤ n → All (λ b. b < 256) bytes
    → All HasSpelling (letters t bytes)
letters_spelled t n [] room few valid = All-nil HasSpelling
letters_spelled t n (b ∷ bytes) room few valid =
    let own : n - 1 + 1 ≡ n = omega (arith, few) in
    All-cons HasSpelling (letter t b) (letters (after_letter t) bytes)
    (record {
      text = room.text;
      site = room.site;
      seq = (room.seq.0, omega (arith, room.seq.1, few));
      stamp = (room.stamp.0, omega (arith, room.stamp.1, few));
      kind = record {
        caused = room.caused;
        valid_looks = room.valid_looks;
        some = omega arith;
        few = omega arith;
        in_file = omega (arith, room.in_file, few);
        valid_bytes = All-cons (λ x. x < 256) b [] (All-head (λ x. x < 256) b bytes valid) (All-nil (λ x. x < 256));
      };
    })
    (letters_spelled (after_letter t) (n - 1) bytes
    (record {
      text = room.text;
      site = room.site;
      seq = (omega arith, omega (arith, room.seq.1, own));
      stamp = (omega arith, omega (arith, room.stamp.1, own));
      in_file = omega (arith, room.in_file, own);
      caused = (room.site.0, room.site.1, omega (arith, room.in_file, few), λ same. omega arith);
      valid_looks = room.valid_looks;
    })
    (omega (arith, few)) (All-tail (λ x. x < 256) b bytes valid))

-- the first letter has a spelling, if all have
pub first_spelled : (t : Typing) (bytes : List ℕ) (d : ℕ) → 0 < length bytes → All HasSpelling (letters t bytes)
    → HasSpelling (letter t (get_or bytes 0 d))
first_spelled t [] d some all = absurd (omega arith)
first_spelled t (byte ∷ bytes) d some all =
    All-head HasSpelling (letter t byte) (letters (after_letter t) bytes) all

-- letters that have a spelling each have numbers, stamps and places in the file
pub record AreInRange (t : Typing) (n : ℕ) : Type 0 where
  pub site : t.site < 2 ^ 16
  pub seq : t.seq + n ≤ 2 ^ 32
  pub stamp : t.stamp + n ≤ MAX_STAMP + 1
  pub in_file : t.at + n ≤ MAX_FILE

pub in_range : (t : Typing) (bytes : List ℕ) → 0 < length bytes → All HasSpelling (letters t bytes) → AreInRange t (length bytes)
in_range t [] some spelled = absurd (omega (arith, some))
in_range t (b ∷ []) some spelled =
    let one : HasSpelling (letter t b) = All-head HasSpelling (letter t b) [] spelled in
    record {
      site = one.site.1;
      seq = omega (arith, one.seq.1);
      stamp = omega (arith, one.stamp.1);
      in_file = one.kind.in_file;
    }
in_range t (b ∷ c ∷ bytes) some spelled =
    let rest = in_range (after_letter t) (c ∷ bytes) (omega arith)
    (All-tail HasSpelling (letter t b) (letters (after_letter t) (c ∷ bytes)) spelled) in
    record {
      site = rest.site;
      seq = omega (arith, rest.seq);
      stamp = omega (arith, rest.stamp);
      in_file = omega (arith, rest.in_file);
    }
