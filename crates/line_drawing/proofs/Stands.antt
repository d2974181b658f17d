-- Where lines stand: between the ends of lines.
use Rattle.std.proofs.Common.{◌≡◌, ◌≢◌, ℕ, zero, suc, ◌+◌, ◌-◌, ◌<◌, ◌≤◌, List, [], ◌∷◌, length, take, drop, get_or}
use Rattle.std.proofs.Common.{refl, sym, ap, subst, ◌∙◌, inl, inr, arith}
use Rattle.std.proofs.lemmas.Bool.{cases_eq, cases_lt}
use Rattle.line_drawing.specs.declared.drawing.TheConstants.{LINE_END}
use Rattle.line_drawing.specs.Lines.{lines, onto_first, ends_in, extent, beg_of, end_of}
use Rattle.line_drawing.specs.Laws.{IsBetweenEnds, StandsBetween, IsOnLine, LiesOnOneLine}
use Rattle.line_drawing.proofs.Lines.{lines-end, lines-other, some_line, beg_is}
use Rattle.line_drawing.proofs.Ends.{ends-end, ends-other}

-- where line k of these lines begins and ends, if they take all bytes
abbrev front : List (List ℕ) → ℕ → ℕ
front ls k = extent (take k ls)

abbrev back : List (List ℕ) → ℕ → ℕ
back ls k = extent (take k ls) + length (get_or ls k [])

between_at : (bytes : List ℕ) (b e c f : ℕ) → b ≡ c → e ≡ f → IsBetweenEnds bytes b e → IsBetweenEnds bytes c f
between_at bytes b e c f begs ends is =
    let at : ℕ → Type 0 = λ x. IsBetweenEnds bytes x e in
    let to : ℕ → Type 0 = λ y. IsBetweenEnds bytes c y in
    subst to ends (subst at begs is)

empty_line : (bytes : List ℕ) (b : ℕ) → b ≡ LINE_END → IsBetweenEnds (b ∷ bytes) 0 0
empty_line bytes b is = record {
  order = omega arith;
  within = omega arith;
  before = λ some. absurd (omega (arith, some));
  after = λ some. is;
  each = λ k from to. absurd (omega (arith, from, to));
}

shifted_before : (bytes : List ℕ) (b beg end : ℕ) → IsBetweenEnds bytes beg end → (beg ≡ 0 → b ≡ LINE_END)
    → get_or (b ∷ bytes) beg 0 ≡ LINE_END
shifted_before bytes b zero end is first = first refl
shifted_before bytes b (suc beg) end is first =
    let one : suc beg - 1 ≡ beg = omega arith in
    subst (λ (k : ℕ). get_or bytes k 0 ≡ LINE_END) one (is.before (omega arith))

shifted_each : (bytes : List ℕ) (b beg end : ℕ) → IsBetweenEnds bytes beg end → (k : ℕ) → suc beg ≤ k → k < suc end
    → get_or (b ∷ bytes) k 0 ≢ LINE_END
shifted_each bytes b beg end is zero from to = absurd (omega (arith, from))
shifted_each bytes b beg end is (suc k) from to = is.each k (omega (arith, from)) (omega (arith, to))

-- a line with one byte more before it
shifted : (bytes : List ℕ) (b beg end : ℕ) → IsBetweenEnds bytes beg end → (beg ≡ 0 → b ≡ LINE_END)
    → IsBetweenEnds (b ∷ bytes) (suc beg) (suc end)
shifted bytes b beg end is first =
    let order : beg ≤ end = is.order in
    let within : end ≤ length bytes = is.within in
    let one : beg ≡ suc beg - 1 = omega arith in
    record {
      order = omega (arith, order);
      within = omega (arith, within);
      before = λ some. subst (λ (k : ℕ). get_or (b ∷ bytes) k 0 ≡ LINE_END) one (shifted_before bytes b beg end is first);
      after = λ inside. is.after (omega (arith, inside));
      each = shifted_each bytes b beg end is;
    }

grown_each : (bytes : List ℕ) (b end : ℕ) → b ≢ LINE_END → IsBetweenEnds bytes 0 end → (k : ℕ) → 0 ≤ k → k < suc end
    → get_or (b ∷ bytes) k 0 ≢ LINE_END
grown_each bytes b end differs is zero from to = differs
grown_each bytes b end differs is (suc k) from to = is.each k (omega arith) (omega (arith, to))

-- the first line with one byte more
grown : (bytes : List ℕ) (b end : ℕ) → b ≢ LINE_END → IsBetweenEnds bytes 0 end → IsBetweenEnds (b ∷ bytes) 0 (suc end)
grown bytes b end differs is =
    let within : end ≤ length bytes = is.within in
    record {
      order = omega arith;
      within = omega (arith, within);
      before = λ some. absurd (omega (arith, some));
      after = λ inside. is.after (omega (arith, inside));
      each = grown_each bytes b end differs is;
    }

-- each of these lines stands between ends
abbrev Stand : List ℕ → List (List ℕ) → Type 0
Stand bytes ls = (k : ℕ) → k < length ls → IsBetweenEnds bytes (front ls k) (back ls k)

stand-end : (bytes : List ℕ) (b : ℕ) (ls : List (List ℕ)) → b ≡ LINE_END → Stand bytes ls → Stand (b ∷ bytes) ([] ∷ ls)
stand-end bytes b ls is stand zero lt = empty_line bytes b is
stand-end bytes b ls is stand (suc k) lt =
    between_at (b ∷ bytes) (suc (front ls k)) (suc (back ls k)) (front ([] ∷ ls) (suc k)) (back ([] ∷ ls) (suc k))
    (omega arith) (omega arith)
    (shifted bytes b (front ls k) (back ls k) (stand k (omega (arith, lt))) (λ none. is))

stand-other : (bytes : List ℕ) (b : ℕ) (ls : List (List ℕ)) → b ≢ LINE_END → 0 < length ls → Stand bytes ls
    → Stand (b ∷ bytes) (onto_first b ls)
stand-other bytes b [] differs some stand k lt = absurd (omega (arith, some))
stand-other bytes b (l ∷ ls) differs some stand zero lt =
    between_at (b ∷ bytes) 0 (suc (length l)) 0 (back ((b ∷ l) ∷ ls) 0) refl (omega arith)
    (grown bytes b (length l) differs
    (between_at bytes 0 (back (l ∷ ls) 0) 0 (length l) refl (omega arith) (stand zero (omega arith))))
stand-other bytes b (l ∷ ls) differs some stand (suc k) lt =
    between_at (b ∷ bytes) (suc (front (l ∷ ls) (suc k))) (suc (back (l ∷ ls) (suc k)))
    (front ((b ∷ l) ∷ ls) (suc k)) (back ((b ∷ l) ∷ ls) (suc k)) (omega arith) (omega arith)
    (shifted bytes b (front (l ∷ ls) (suc k)) (back (l ∷ ls) (suc k)) (stand (suc k) (omega (arith, lt)))
    (λ none. absurd (omega (arith, none))))

stand-more : (bytes : List ℕ) (b : ℕ) → Stand bytes (lines bytes) → Stand (b ∷ bytes) (lines (b ∷ bytes))
stand-more bytes b stand = elim (cases_eq b LINE_END) [
  | inl is ↦ subst (Stand (b ∷ bytes)) (sym (lines-end bytes b is)) (stand-end bytes b (lines bytes) is stand)
  | inr differs ↦ subst (Stand (b ∷ bytes)) (sym (lines-other bytes b differs))
      (stand-other bytes b (lines bytes) differs (some_line bytes) stand)
]

stand : (bytes : List ℕ) → Stand bytes (lines bytes)
stand [] zero lt = record {
  order = omega arith;
  within = omega arith;
  before = λ some. absurd (omega (arith, some));
  after = λ some. absurd (omega (arith, some));
  each = λ k from to. absurd (omega (arith, from, to));
}
stand [] (suc k) lt = absurd (omega (arith, lt))
stand (b ∷ bytes) k lt = stand-more bytes b (stand bytes) k lt

-- each of these lines is what stands from its begin on
abbrev Spell : List ℕ → List (List ℕ) → Type 0
Spell bytes ls = (k : ℕ) → k < length ls → get_or ls k [] ≡ take (length (get_or ls k [])) (drop (front ls k) bytes)

spell-end : (bytes : List ℕ) (b : ℕ) (ls : List (List ℕ)) → Spell bytes ls → Spell (b ∷ bytes) ([] ∷ ls)
spell-end bytes b ls spell zero lt = refl
spell-end bytes b ls spell (suc k) lt =
    let one : suc (front ls k) ≡ front ([] ∷ ls) (suc k) = omega arith in
    spell k (omega (arith, lt))
    ∙ ap (λ (n : ℕ). take (length (get_or ls k [])) (drop n (b ∷ bytes))) one

spell-other : (bytes : List ℕ) (b : ℕ) (ls : List (List ℕ)) → 0 < length ls → Spell bytes ls
    → Spell (b ∷ bytes) (onto_first b ls)
spell-other bytes b [] some spell k lt = absurd (omega (arith, some))
spell-other bytes b (l ∷ ls) some spell zero lt = ap (λ (x : List ℕ). b ∷ x) (spell zero (omega arith))
spell-other bytes b (l ∷ ls) some spell (suc k) lt =
    let one : suc (front (l ∷ ls) (suc k)) ≡ front ((b ∷ l) ∷ ls) (suc k) = omega arith in
    spell (suc k) (omega (arith, lt))
    ∙ ap (λ (n : ℕ). take (length (get_or ls k [])) (drop n (b ∷ bytes))) one

spell-more : (bytes : List ℕ) (b : ℕ) → Spell bytes (lines bytes) → Spell (b ∷ bytes) (lines (b ∷ bytes))
spell-more bytes b spell = elim (cases_eq b LINE_END) [
  | inl is ↦ subst (Spell (b ∷ bytes)) (sym (lines-end bytes b is)) (spell-end bytes b (lines bytes) spell)
  | inr differs ↦ subst (Spell (b ∷ bytes)) (sym (lines-other bytes b differs))
      (spell-other bytes b (lines bytes) (some_line bytes) spell)
]

spell : (bytes : List ℕ) → Spell bytes (lines bytes)
spell [] zero lt = refl
spell [] (suc k) lt = absurd (omega (arith, lt))
spell (b ∷ bytes) k lt = spell-more bytes b (spell bytes) k lt

-- the begin and the end of a line that there is
pub beg-front : (bytes : List ℕ) (k : ℕ) → k < length (lines bytes) → beg_of bytes k ≡ front (lines bytes) k
beg-front bytes k lt = omega (arith, beg_is bytes k lt)

pub end-back : (bytes : List ℕ) (k : ℕ) → k < length (lines bytes) → end_of bytes k ≡ back (lines bytes) k
end-back bytes k lt = omega (arith, beg_is bytes k lt)

pub stands_between : (bytes : List ℕ) (k : ℕ) → StandsBetween bytes k
stands_between bytes k lt =
    let line : List ℕ = get_or (lines bytes) k [] in
    let beg : front (lines bytes) k ≡ beg_of bytes k = sym (beg-front bytes k lt) in
    let end : back (lines bytes) k ≡ end_of bytes k = sym (end-back bytes k lt) in
    let long : length line ≡ end_of bytes k - beg_of bytes k = omega arith in (
      between_at bytes (front (lines bytes) k) (back (lines bytes) k) (beg_of bytes k) (end_of bytes k) beg end
          (stand bytes k lt),
      spell bytes k lt ∙ ap (λ (n : ℕ). take (length line) (drop n bytes)) beg
          ∙ ap (λ (n : ℕ). take n (drop (beg_of bytes k) bytes)) long,
    )

-- a position lies on line k of these lines
record Lies (ls : List (List ℕ)) (pos k : ℕ) : Type 0 where
  pub there : k < length ls
  pub from : front ls k ≤ pos
  pub to : pos ≤ back ls k

lies-end : (ls : List (List ℕ)) (pos k : ℕ) → Lies ls pos k → Lies ([] ∷ ls) (suc pos) (suc k)
lies-end ls pos k is =
    let there : k < length ls = is.there in
    let from : front ls k ≤ pos = is.from in
    let to : pos ≤ back ls k = is.to in
    record { there = omega (arith, there); from = omega (arith, from); to = omega (arith, to) }

lies-other : (ls : List (List ℕ)) (b pos k : ℕ) → Lies ls pos k → Lies (onto_first b ls) (suc pos) k
lies-other [] b pos k is = let there : k < 0 = is.there in absurd (omega (arith, there))
lies-other (l ∷ ls) b pos zero is =
    let to : pos ≤ back (l ∷ ls) 0 = is.to in
    record { there = omega arith; from = omega arith; to = omega (arith, to) }
lies-other (l ∷ ls) b pos (suc k) is =
    let there : suc k < length (l ∷ ls) = is.there in
    let from : front (l ∷ ls) (suc k) ≤ pos = is.from in
    let to : pos ≤ back (l ∷ ls) (suc k) = is.to in
    record { there = omega (arith, there); from = omega (arith, from); to = omega (arith, to) }

lies : (bytes : List ℕ) (pos : ℕ) → pos ≤ length bytes → Lies (lines bytes) pos (ends_in (take pos bytes))
lies [] zero le = record { there = omega arith; from = omega arith; to = omega arith }
lies [] (suc pos) le = absurd (omega (arith, le))
lies (b ∷ bytes) zero le = record { there = some_line (b ∷ bytes); from = omega arith; to = omega arith }
lies (b ∷ bytes) (suc pos) le =
    let more : Lies (lines bytes) pos (ends_in (take pos bytes)) = lies bytes pos (omega (arith, le)) in
    elim (cases_eq b LINE_END) [
      | inl is ↦
          let n : ℕ → Type 0 = λ k. Lies ([] ∷ lines bytes) (suc pos) k in
          subst (λ (ls : List (List ℕ)). Lies ls (suc pos) (ends_in (b ∷ take pos bytes))) (sym (lines-end bytes b is))
          (subst n (sym (ends-end (take pos bytes) b is)) (lies-end (lines bytes) pos (ends_in (take pos bytes)) more))
      | inr differs ↦
          let n : ℕ → Type 0 = λ k. Lies (onto_first b (lines bytes)) (suc pos) k in
          subst (λ (ls : List (List ℕ)). Lies ls (suc pos) (ends_in (b ∷ take pos bytes)))
          (sym (lines-other bytes b differs))
          (subst n (sym (ends-other (take pos bytes) b differs))
          (lies-other (lines bytes) b pos (ends_in (take pos bytes)) more))
    ]

pub on_line : (bytes : List ℕ) (pos : ℕ) → pos ≤ length bytes → IsOnLine bytes pos (ends_in (take pos bytes))
on_line bytes pos le =
    let k : ℕ = ends_in (take pos bytes) in
    let is : Lies (lines bytes) pos k = lies bytes pos le in
    let there : k < length (lines bytes) = is.there in
    let from : front (lines bytes) k ≤ pos = is.from in
    let to : pos ≤ back (lines bytes) k = is.to in
    record {
      there = there;
      from = omega (arith, from, beg-front bytes k there);
      to = omega (arith, to, end-back bytes k there);
    }

-- a line that comes later begins after the end of each one before it
later-front : (ls : List (List ℕ)) (k j : ℕ) → k < j → j ≤ length ls → back ls k < front ls j
later-front [] k j lt le = absurd (omega (arith, lt, le))
later-front (l ∷ ls) k zero lt le = absurd (omega (arith, lt))
later-front (l ∷ ls) zero (suc j) lt le = omega arith
later-front (l ∷ ls) (suc k) (suc j) lt le =
    let more : back ls k < front ls j = later-front ls k j (omega (arith, lt)) (omega (arith, le)) in
    omega (arith, more)

one_line : (bytes : List ℕ) (pos k j : ℕ) → IsOnLine bytes pos k → IsOnLine bytes pos j → k < j → ⊥
one_line bytes pos k j one other lt =
    let there : j < length (lines bytes) = other.there in
    let first : k < length (lines bytes) = one.there in
    let to : pos ≤ end_of bytes k = one.to in
    let from : beg_of bytes j ≤ pos = other.from in
    let later : back (lines bytes) k < front (lines bytes) j =
    later-front (lines bytes) k j lt (omega (arith, there)) in
    let beg : beg_of bytes j ≡ front (lines bytes) j = beg-front bytes j there in
    let end : end_of bytes k ≡ back (lines bytes) k = end-back bytes k first in
    omega (arith, to, from, later, beg, end)

pub lies_on_one : (bytes : List ℕ) (pos : ℕ) → LiesOnOneLine bytes pos
lies_on_one bytes pos le =
    let n : ℕ = ends_in (take pos bytes) in
    let is : IsOnLine bytes pos n = on_line bytes pos le in (
      is,
      λ k other. elim (cases_lt k n) [
        | inl lt ↦ absurd (one_line bytes pos k n other is lt)
        | inr ge ↦ elim (cases_lt n k) [
          | inl lt ↦ absurd (one_line bytes pos n k is other lt)
          | inr le' ↦ omega (arith, ge, le')
        ]
      ],
    )

-- where no end of a line stands between a position and what is found before it, that is where its line begins
pub found_beg : (bytes : List ℕ) (pos beg : ℕ) → pos ≤ length bytes → beg ≤ pos
    → (0 < beg → get_or bytes (beg - 1) 0 ≡ LINE_END)
    → ((k : ℕ) → beg ≤ k → k < pos → get_or bytes k 0 ≢ LINE_END) → beg ≡ beg_of bytes (ends_in (take pos bytes))
found_beg bytes pos beg le within begins greatest =
    let n : ℕ = ends_in (take pos bytes) in
    let is : IsOnLine bytes pos n = on_line bytes pos le in
    let from : beg_of bytes n ≤ pos = is.from in
    let to : pos ≤ end_of bytes n = is.to in
    let line : IsBetweenEnds bytes (beg_of bytes n) (end_of bytes n) = (stands_between bytes n is.there).0 in
    elim (cases_lt beg (beg_of bytes n)) [
      | inl lt ↦ absurd (greatest (beg_of bytes n - 1) (omega (arith, lt)) (omega (arith, lt, from))
          (line.before (omega (arith, lt))))
      | inr ge ↦ elim (cases_lt (beg_of bytes n) beg) [
        | inl lt ↦ absurd (line.each (beg - 1) (omega (arith, lt)) (omega (arith, lt, within, to))
            (begins (omega (arith, lt))))
        | inr le' ↦ omega (arith, ge, le')
      ]
    ]
