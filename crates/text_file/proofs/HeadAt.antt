-- One run, read from the front of bytes: its looks, then its length.
use Rattle.std.proofs.Common.{◌≡◌, ℕ, ◌-◌, ◌<◌, ◌⊎◌, List, ◌++◌, length, take, drop, Option, Some, inl, inr, sym}
use Rattle.std.proofs.Common.{ap, ◌∙◌, append_assoc, arith}
use Rattle.std.specs.Int.{w32}
use Rattle.std.proofs.lemmas.List.{drop_at, take-append-drop, take_rest}
use Rattle.looks.specs.declared.looks.Looks.{Looks}
use Rattle.looks.specs.Looks.{IsLooks}
use Rattle.operations.specs.Reading.{LooksAreDetermined}
use Rattle.byte_fields.specs.Fields.{number_spelling}
use Rattle.operations.specs.Spelling.{looks_spelling}
use Rattle.text_file.specs.declared.loading.Head.{Head}
use Rattle.text_file.specs.Heads.{head_spelling, IsHead}
use Rattle.text_file.proofs.Heads.{NoneNext, head_told}
use Rattle.text_file.proofs.Numbers.{number_told, number_long}

-- the looks stand first
pub looks_first : (bytes rest : List ℕ) (h : Head) → bytes ≡ head_spelling h ++ rest
    → bytes ≡ looks_spelling h.looks ++ (number_spelling w32 h.len ++ rest)
looks_first bytes rest h e = e ∙ append_assoc (looks_spelling h.looks) (number_spelling w32 h.len) rest

-- after the looks that were read stands the length
pub len_after : (bytes rest : List ℕ) (looks : Looks) (n : ℕ) (h : Head)
    → ((l : Looks) (r : List ℕ) → IsLooks l → bytes ≡ looks_spelling l ++ r
    → ◌≡◌ {A = Option (Looks × ℕ)} (Some (looks, n)) (Some (l, length (looks_spelling l)))) → IsHead h
    → bytes ≡ head_spelling h ++ rest → drop n bytes ≡ number_spelling w32 h.len ++ rest
len_after bytes rest looks n h only is e =
    let after : List ℕ = number_spelling w32 h.len ++ rest in
    let read = only h.looks after is.looks (looks_first bytes rest h e) in
    let pair : ◌≡◌ {A = Looks × ℕ} (looks, n) (h.looks, length (looks_spelling h.looks)) = cc in
    let len : length (looks_spelling h.looks) ≡ n = sym (ap (λ (p : Looks × ℕ). p.1) pair) in
    ap (λ (l : List ℕ). drop n l) (looks_first bytes rest h e)
    ∙ drop_at (looks_spelling h.looks) after n len

-- the bytes after the looks
abbrev after : ℕ → List ℕ → List ℕ
after n bytes = take (length bytes - n) (drop n bytes)

-- no run stands at the front of these bytes
abbrev pub NoHead : List ℕ → Type 0
NoHead bytes = (h : Head) (rest : List ℕ) → IsHead h → bytes ≡ head_spelling h ++ rest → ⊥

-- what `read_looks` tells of the looks that it reads
abbrev pub OnlyLooks : List ℕ → Looks → ℕ → Type 0
OnlyLooks bytes looks n =
    (l : Looks) (r : List ℕ) → IsLooks l → bytes ≡ looks_spelling l ++ r
    → ◌≡◌ {A = Option (Looks × ℕ)} (Some (looks, n)) (Some (l, length (looks_spelling l)))

pub none_short : (bytes : List ℕ) (looks : Looks) (n : ℕ) → OnlyLooks bytes looks n
    → length (after n bytes) < 4 → NoHead bytes
none_short bytes looks n only short h rest is e =
    let spelled = len_after bytes rest looks n h only is e in
    absurd (omega (arith, short, ap length (take_rest bytes n ∙ spelled), number_long h.len rest))

pub none_empty : (bytes : List ℕ) (looks : Looks) (n len : ℕ) (more : List ℕ) → OnlyLooks bytes looks n
    → len ≡ 0 → after n bytes ≡ number_spelling w32 len ++ more → NoHead bytes
none_empty bytes looks n len more only zero there h rest is e =
    let spelled = len_after bytes rest looks n h only is e in
    let same = number_told len h.len more rest (omega arith) is.fits (sym there ∙ take_rest bytes n ∙ spelled) in
    absurd (omega (arith, is.some, same.0))

-- both together are the run
pub head_there : (bytes rest : List ℕ) (looks : Looks) (n len : ℕ) → take n bytes ≡ looks_spelling looks
    → after n bytes ≡ number_spelling w32 len ++ rest
    → bytes ≡ (looks_spelling looks ++ number_spelling w32 len) ++ rest
head_there bytes rest looks n len front back =
    sym (take-append-drop n bytes) ∙ ap (λ (l : List ℕ). l ++ drop n bytes) front
    ∙ ap (λ (l : List ℕ). looks_spelling looks ++ l) (sym (take_rest bytes n) ∙ back)
    ∙ sym (append_assoc (looks_spelling looks) (number_spelling w32 len) rest)

-- the run that stands there may not come next
pub none_next : (told : LooksAreDetermined) (last : Option Looks) (left : ℕ) (bytes : List ℕ) (h : Head)
    (rest : List ℕ) → IsHead h → bytes ≡ head_spelling h ++ rest → (left < h.len) ⊎ (last ≡ Some h.looks)
    → NoneNext last left bytes
none_next told last left bytes h rest h_is f why g more g_is apart fits e =
    let one = head_told told h g rest more h_is g_is (sym f ∙ e) in
    elim why [
      | inl lt ↦ absurd (omega (arith, lt, fits, ap (λ (x : Head). x.len) one.0))
      | inr same ↦ apart (same ∙ ap (λ (x : Head). Some x.looks) one.0)
    ]
