-- The reading of one line.
use Rattle.std.proofs.Common.{◌≡◌, ◌≢◌, ℕ, zero, suc, ◌+◌, ◌-◌, ◌<◌, ◌≤◌, List, [], ◌∷◌, ◌++◌, length, take, drop, map}
use Rattle.std.proofs.Common.{Some, None, Option, Bool, true, false, if◌then◌else◌, ◌==◌, eq-eqb, ne_eqb, inl, inr}
use Rattle.std.proofs.Common.{refl, sym, ap, subst, ◌∙◌, arith, append_assoc, append-nil}
use Rattle.std.proofs.lemmas.Bool.{cases_eq}
use Rattle.std.proofs.lemmas.List.{length-take, take_all}
use Rattle.char_files.specs.declared.character.Char.{Char}
use Rattle.line_drawing.specs.declared.drawing.TheConstants.{LINE_END}
use Rattle.line_drawing.specs.Rows.{blanks, cells_of, sign_of}
use Rattle.text_frames.specs.Reading.{GivesNext, after_line, counted, line_before}
use Rattle.char_files.specs.Chars.{char_bytes}
use Rattle.text_frames.proofs.Lines.{before-end, before-other}

-- counts are added up
pub counted-add : (a b : ℕ) → counted (counted a + b) ≡ counted (a + b)
counted-add a b = omega arith

-- one count after another
pub counted_on : (start a b now new : ℕ) → now ≡ counted (start + a) → new ≡ counted (now + b)
    → new ≡ counted (start + (a + b))
counted_on start a b now new was is =
    let sum : start + a + b ≡ start + (a + b) = omega arith in
    is ∙ ap (λ (n : ℕ). counted (n + b)) was ∙ counted-add (start + a) b ∙ ap counted sum

take-more : (w : ℕ) (xs ys : List ℕ) → take w (take w xs ++ ys) ≡ take w (xs ++ ys)
take-more zero xs ys = refl
take-more (suc w) [] ys = refl
take-more (suc w) (x ∷ xs) ys = ap (λ (l : List ℕ). x ∷ l) (take-more w xs ys)

blanks-taken : (w m : ℕ) → w ≤ m → blanks w ≡ take w (blanks m)
blanks-taken zero m le = refl
blanks-taken (suc w) zero le = absurd (omega (arith, le))
blanks-taken (suc w) (suc m) le = ap (λ (l : List ℕ). 0x20 ∷ l) (blanks-taken w m (omega (arith, le)))

-- a row that is cut and then filled
cut_filled : (w m : ℕ) (xs : List ℕ) → w ≤ m
    → take w xs ++ blanks (w - length (take w xs)) ≡ take w (xs ++ blanks m)
cut_filled zero m xs le = refl
cut_filled (suc w) m [] le =
    let all : suc w - 0 ≡ suc w = omega arith in
    ap blanks all ∙ blanks-taken (suc w) m le
cut_filled (suc w) m (x ∷ xs) le =
    let long : suc w - suc (length (take w xs)) ≡ w - length (take w xs) = omega arith in
    ap (λ (n : ℕ). x ∷ (take w xs ++ blanks n)) long
    ∙ ap (λ (l : List ℕ). x ∷ l) (cut_filled w m xs (omega (arith, le)))

-- A line is read as far as this walk has come, from all that was left at its begin on: these cells are drawn, and this is
-- the position.
pub record ReadsLine (width beg before : ℕ) (all walk : List Char) (cells : List ℕ) (end reads : ℕ) : Type 0 where
  pub drawn : take width (cells ++ map sign_of (line_before (char_bytes walk)))
      ≡ take width (map sign_of (line_before (char_bytes all)))
  pub within : length cells ≤ width
  pub at : end + length (line_before (char_bytes walk)) ≡ beg + length (line_before (char_bytes all))
  pub rest : after_line (line_before (char_bytes walk)) walk ≡ after_line (line_before (char_bytes all)) all
  pub room : end + length walk ≡ beg + length all
  pub few : length walk ≤ length all
  pub counts : reads ≡ counted (before + (length all - length walk))

pub line_begins : (width beg before : ℕ) (all : List Char) → before ≡ counted before
    → ReadsLine width beg before all all [] beg before
line_begins width beg before all is =
    let none : before ≡ before + (length all - length all) = omega arith in
    record {
      drawn = refl;
      within = omega arith;
      at = refl;
      rest = refl;
      room = refl;
      few = omega arith;
      counts = is ∙ ap counted none;
    }

-- one byte more of the line
step_on : (width beg before : ℕ) (all : List Char) (c : Char) (chars : List Char) (cells : List ℕ)
    (end reads reads' : ℕ) → c.byte ≢ LINE_END → ReadsLine width beg before all (c ∷ chars) cells end reads
    → reads' ≡ counted (reads + (suc (length chars) - length chars))
    → ReadsLine width beg before all chars (take width (cells ++ sign_of c.byte ∷ [])) (end + 1) reads'
step_on width beg before all c chars cells end reads reads' differs was counts =
    let on : line_before (char_bytes (c ∷ chars)) ≡ c.byte ∷ line_before (char_bytes chars) =
    before-other (char_bytes chars) c.byte differs in
    let line : List ℕ = line_before (char_bytes chars) in
    let few : suc (length chars) ≤ length all = was.few in
    let room : end + suc (length chars) ≡ beg + length all = was.room in
    let at : end + length (line_before (char_bytes (c ∷ chars))) ≡ beg + length (line_before (char_bytes all)) = was.at in
    let sum : (length all - suc (length chars)) + (suc (length chars) - length chars) ≡ length all - length chars =
    omega (arith, few) in
    record {
      drawn =
          take-more width (cells ++ sign_of c.byte ∷ []) (map sign_of line)
          ∙ ap (take width) (append_assoc cells (sign_of c.byte ∷ []) (map sign_of line))
          ∙ ap (λ (l : List ℕ). take width (cells ++ map sign_of l)) (sym on) ∙ was.drawn;
      within = omega (arith, length-take width (cells ++ sign_of c.byte ∷ []));
      at = omega (arith, at, ap length on);
      rest = ap (λ (l : List ℕ). after_line l (c ∷ chars)) (sym on) ∙ was.rest;
      room = omega (arith, room);
      few = omega (arith, few);
      counts =
          counted_on before (length all - suc (length chars)) (suc (length chars) - length chars) reads reads'
          was.counts counts
          ∙ ap (λ (n : ℕ). counted (before + n)) sum;
    }

pub line_goes_on : (width beg before : ℕ) (all walk left : List Char) (cells : List ℕ) (end reads reads' byte : ℕ)
    → ReadsLine width beg before all walk cells end reads → GivesNext walk (Some byte) left
    → reads' ≡ counted (reads + (length walk - length left))
    → ReadsLine width beg before all left (take width (cells ++ sign_of byte ∷ [])) (end + 1) reads'
line_goes_on width beg before all [] left cells end reads reads' byte was (next, is) counts = absurd (cc next)
line_goes_on width beg before all (c ∷ chars) left cells end reads reads' byte was (next, is) counts =
    elim (cases_eq c.byte LINE_END) [
      | inl ends ↦
          let h : (c.byte == LINE_END) ≡ true = eq-eqb c.byte LINE_END ends in
          let none : Some byte ≡ None =
          next ∙ ap (λ (v : Bool). let o : Option ℕ = if v then None else Some c.byte in o) h in
          absurd (cc none)
      | inr differs ↦
          let h : (c.byte == LINE_END) ≡ false = ne_eqb c.byte LINE_END differs in
          let some : Some byte ≡ Some c.byte =
          next ∙ ap (λ (v : Bool). let o : Option ℕ = if v then None else Some c.byte in o) h in
          let same : c.byte ≡ byte = cc some in
          let counts' : reads' ≡ counted (reads + (suc (length chars) - length chars)) =
          counts ∙ ap (λ (l : List Char). counted (reads + (suc (length chars) - length l))) is in
          subst (λ (l : List Char). ReadsLine width beg before all l (take width (cells ++ sign_of byte ∷ [])) (end + 1) reads')
          (sym is)
          (subst (λ (b : ℕ). ReadsLine width beg before all chars (take width (cells ++ sign_of b ∷ [])) (end + 1) reads')
          same (step_on width beg before all c chars cells end reads reads' differs was counts'))
    ]

-- the line is read
pub record IsRead (width beg before : ℕ) (all left : List Char) (cells : List ℕ) (end reads : ℕ) : Type 0 where
  pub at : end ≡ beg + length (line_before (char_bytes all))
  pub drawn : cells ++ blanks (width - length cells) ≡ cells_of width (line_before (char_bytes all))
  pub rest : left ≡ after_line (line_before (char_bytes all)) all
  pub counts : reads ≡ counted (before + (length all - length left))

read_at_end : (width beg before : ℕ) (all walk left : List Char) (cells : List ℕ) (end reads reads' : ℕ)
    → ReadsLine width beg before all walk cells end reads → line_before (char_bytes walk) ≡ []
    → left ≡ drop 1 walk → length left ≤ length walk → reads' ≡ counted (reads + (length walk - length left))
    → IsRead width beg before all left cells end reads'
read_at_end width beg before all walk left cells end reads reads' was none is less counts =
    let few : length walk ≤ length all = was.few in
    let at : end + length (line_before (char_bytes walk)) ≡ beg + length (line_before (char_bytes all)) = was.at in
    let within : length cells ≤ width = was.within in
    let line : List ℕ = line_before (char_bytes all) in
    let cut : cells ≡ take width (map sign_of line) =
    sym (take_all width cells within)
    ∙ ap (take width) (sym (append-nil cells))
    ∙ ap (λ (l : List ℕ). take width (cells ++ map sign_of l)) (sym none) ∙ was.drawn in
    let sum : (length all - length walk) + (length walk - length left) ≡ length all - length left =
    omega (arith, few, less) in
    record {
      at = omega (arith, at, ap length none);
      drawn =
          ap (λ (l : List ℕ). l ++ blanks (width - length l)) cut
          ∙ cut_filled width width (map sign_of line) (omega arith);
      rest = is ∙ ap (λ (l : List ℕ). after_line l walk) (sym none) ∙ was.rest;
      counts =
          counted_on before (length all - length walk) (length walk - length left) reads reads' was.counts counts
          ∙ ap (λ (n : ℕ). counted (before + n)) sum;
    }

pub line_ends : (width beg before : ℕ) (all walk left : List Char) (cells : List ℕ) (end reads reads' : ℕ)
    → ReadsLine width beg before all walk cells end reads → GivesNext walk None left
    → reads' ≡ counted (reads + (length walk - length left)) → IsRead width beg before all left cells end reads'
line_ends width beg before all [] left cells end reads reads' was (next, is) counts =
    read_at_end width beg before all [] left cells end reads reads' was refl is
    (omega (arith, ap length is)) counts
line_ends width beg before all (c ∷ chars) left cells end reads reads' was (next, is) counts =
    elim (cases_eq c.byte LINE_END) [
      | inl ends ↦
          read_at_end width beg before all (c ∷ chars) left cells end reads reads' was
          (before-end (char_bytes chars) c.byte ends) is (omega (arith, ap length is)) counts
      | inr differs ↦
          let h : (c.byte == LINE_END) ≡ false = ne_eqb c.byte LINE_END differs in
          let some : None ≡ Some c.byte =
          next ∙ ap (λ (v : Bool). let o : Option ℕ = if v then None else Some c.byte in o) h in
          absurd (cc some)
    ]

-- where a walk gives a byte, it has one character less
pub some_left : (walk left : List Char) (byte : ℕ) → GivesNext walk (Some byte) left → length left < length walk
some_left [] left byte (next, is) = absurd (cc next)
some_left (c ∷ chars) left byte (next, is) = omega (arith, ap length is)
