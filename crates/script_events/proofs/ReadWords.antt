-- The words of a line, one after the other, and what they spell, whatever that is.
use Rattle.std.proofs.Common.{◌≡◌, Bor, ℕ, ◌+◌, ◌<◌, ◌≤◌, List, [], ◌∷◌, ◌++◌, length, length-append, Bool, true, false, ◌==◌, Option, Some, None, option_map, refl, sym, ap, ◌∙◌, append_assoc, arith}
use Rattle.std.specs.Prelude.{IfSome, nat_lt}
use Rattle.std.specs.List.{position_or_len}
use Rattle.std.specs.Option.{option_map_or}
use Rattle.std.proofs.lemmas.Bool.Decides.{nat_tests}
use Rattle.std.proofs.lemmas.List.Splits.{slice_split_first, slice_split_none}
use Rattle.std.proofs.lemmas.List.Sums.{fails_before_first}
use Rattle.script_events.specs.FrontWords.{words_of}
use Rattle.script_events.specs.Words.{front_word}

-- the word in front, and what stands after its blank, where that was found or not
cut_by : (bytes : List ℕ) (found : Bool) → nat_lt (position_or_len (λ b. b == 32) bytes) (length bytes) ≡ found
    → words_of bytes ≡ (front_word bytes).0 ∷ option_map_or words_of (front_word bytes).1 []
cut_by bytes true e =
    let within : position_or_len (λ b. b == 32) bytes < length bytes = grind (arith, nat_tests) in
    rw e (slice_split_first (λ b. b == 32) bytes 0 within)
cut_by bytes false e =
    let past : length bytes ≤ position_or_len (λ b. b == 32) bytes = grind (arith, nat_tests) in
    rw e (slice_split_none (λ b. b == 32) bytes
    (λ k d within. fails_before_first (λ b. b == 32) bytes k d (omega (arith, within, past))))

-- the words are the one in front and those after its blank
pub words_cut : (bytes : List ℕ) → words_of bytes ≡ (front_word bytes).0 ∷ option_map_or words_of (front_word bytes).1 []
words_cut bytes = cut_by bytes (nat_lt (position_or_len (λ b. b == 32) bytes) (length bytes)) refl

-- the word in front, where its blank was found or not
abbrev pub in_front : List ℕ → Option (List ℕ × List ℕ) → List ℕ × Option (List ℕ)
in_front words cut = option_map_or {U = List ℕ × Option (List ℕ)} (λ c. (c.0, Some c.1)) cut (words, None)

-- how many bytes are left
abbrev pub left_len : Option (List ℕ) → ℕ
left_len rest = option_map_or length rest 0

-- what is read of words, where some are left
abbrev pub Reading : Type 0 → Type 0
Reading A = Option (List ℕ) → Option (List A)

-- these were read, and the others are those of what is left
pub record IsReadTo {A : Type 0} (reads : Reading A) (whole rest : Option (List ℕ)) : Type 0 where
  pub read : List A
  pub same : reads whole ≡ option_map (λ others. read ++ others) (reads rest)
  pub short : length read + left_len rest ≤ left_len whole

none_read : {A : Type 0} (o : Option (List A)) → o ≡ option_map (λ others. [] ++ others) o
none_read None = refl
none_read (Some others) = refl

pub begins : {A : Type 0} (reads : Reading A) (whole : Option (List ℕ)) → IsReadTo reads whole whole
begins reads whole = record { read = []; same = none_read (reads whole); short = omega arith }

joined : {A : Type 0} (read : List A) (one : A) (after : Option (List A))
    → option_map (λ others. read ++ others) (option_map (λ others. one ∷ others) after)
    ≡ option_map (λ others. (read ++ one ∷ []) ++ others) after
joined read one None = refl
joined read one (Some others) = ap Some (sym (append_assoc read (one ∷ []) others))

shorter_left : (left : List ℕ) (after : Option (List ℕ)) → 0 < length left → IfSome after (λ rest. length rest < length left)
    → left_len after + 1 ≤ length left
shorter_left left None some shorter = omega (arith, some)
shorter_left left (Some rest) some shorter = omega (arith, shorter)

-- one more was read
pub goes_on : {A : Type 0} (reads : Reading A) (whole : Option (List ℕ)) (left : List ℕ) (one : A) (after : Option (List ℕ))
    → IsReadTo reads whole (Some left) → reads (Some left) ≡ option_map (λ others. one ∷ others) (reads after)
    → 0 < length left → IfSome after (λ rest. length rest < length left) → IsReadTo reads whole after
goes_on {A} reads whole left one after to cut some shorter = record {
  read = to.read ++ one ∷ [];
  same = to.same ∙ ap (option_map (λ (others : List A). to.read ++ others)) cut ∙ joined to.read one (reads after);
  short = omega (arith, to.short, shorter_left left after some shorter, length-append to.read (one ∷ []));
}

-- what is left is wrong, and so all is
pub ends_wrong : {A : Type 0} (reads : Reading A) (whole : Option (List ℕ)) (left : List ℕ) → IsReadTo reads whole (Some left)
    → reads (Some left) ≡ None → reads whole ≡ None
ends_wrong {A} reads whole left to wrong = to.same ∙ ap (option_map (λ (others : List A). to.read ++ others)) wrong

all_read : {A : Type 0} (reads : Reading A) (whole : Option (List ℕ)) (to : IsReadTo reads whole None) → reads None ≡ Some []
    → reads whole ≡ Some (to.read ++ [])
all_read {A} reads whole to none = to.same ∙ ap (option_map (λ (others : List A). to.read ++ others)) none

within : (whole : Option (List ℕ)) (count len : ℕ) → count ≤ left_len whole → IfSome whole (λ words. length words ≤ len) → count ≤ len
within None count len few fits = omega (arith, few)
within (Some words) count len few fits = omega (arith, few, fits)

-- these were put there, and what is left makes all of it
pub record IsDecodedTo {A : Type 0} (reads : Reading A) (all out : List A) (rest : Option (List ℕ)) : Type 0 where
  pub others : List A
  pub left : reads rest ≡ Some others
  pub all_is : out ++ others ≡ all

-- one is there, so it was read
pub is_read : {A : Type 0} (reads : Reading A) (all out : List A) (left : List ℕ) → IsDecodedTo reads all out (Some left)
    → reads (Some left) ≡ None → ⊥
is_read {A} reads all out left to wrong =
    let none : ◌≡◌ {A = Option (List A)} None (Some to.others) = sym wrong ∙ to.left in
    absurd cc

-- one is before the others, where they are read
abbrev pub Cuts : {A : Type 0} (reads : Reading A) (left : List ℕ) (one : A) (after : Option (List ℕ)) → Type 0
Cuts {A} reads left one after = (all : List A) → reads (Some left) ≡ Some all
    → (others : List A) × (reads after ≡ Some others) × (all ≡ one ∷ others)

pub decodes_on : {A : Type 0} (reads : Reading A) (all out : List A) (left : List ℕ) (one : A) (after : Option (List ℕ))
    → IsDecodedTo reads all out (Some left) → Cuts reads left one after
    → IsDecodedTo reads all (out ++ one ∷ []) after × (length out < length all)
decodes_on {A} reads all out left one after to cuts =
    let parts = cuts to.others to.left in
    let whole : out ++ one ∷ parts.0 ≡ all = ap (λ (xs : List A). out ++ xs) (sym parts.2) ∙ to.all_is in (
      record { others = parts.0; left = parts.1; all_is = append_assoc out (one ∷ []) parts.0 ∙ whole },
      omega (arith, length-append out (one ∷ parts.0), ap length whole),
    )

-- how long it goes on at most
abbrev pub steps_left : Option (List ℕ) → ℕ
steps_left rest = option_map_or (λ words. length words + 1) rest 0

-- so it is of what is borrowed
pub shorter_now : (after : Option (Bor (List ℕ))) (n : ℕ) → IfSome after (λ rest. length rest.now < n)
    → IfSome (option_map (λ (rest : Bor (List ℕ)). rest.now) after) (λ rest. length rest < n)
shorter_now None n shorter = tt
shorter_now (Some rest) n shorter = shorter
