-- The operations of an own edit: whose they are, where they stand afterwards, and how many of them stand.
use Rattle.std.proofs.Common.{◌≡◌, ℕ, suc, ◌+◌, ◌<◌, ◌≤◌, List, [], ◌∷◌, ◌++◌, length, All, Bool, true, false, cond}
use Rattle.std.proofs.Common.{Option, Some, None, nat_lt, refl, sym, ◌∙◌, arith}
use Rattle.std.specs.Option.{option_map_or}
use Rattle.std.proofs.lemmas.List.{append-nil, append_assoc}
use Rattle.std.proofs.lemmas.List.Elements.{All-cons, All-nil}
use Rattle.looks.specs.declared.refusal.Refusal.{Refusal}
use Rattle.looks.specs.declared.refusal.Refusal.TheVariants.{Behind}
use Rattle.char_files.specs.Stretch.{Stretch}
use Rattle.operations.specs.Operation.{Operation, restore}
use Rattle.waiting_room.specs.Room.{is_behind}
use Rattle.texts.specs.Edit.{Edit, insertion, deletion, looks_change, restoration, recalling, after, inserts}
use Rattle.texts.specs.Edit.{is_restored, own_insert, own_op, pieces_of, plan, with_operation}
use Rattle.texts.specs.Outcome.{count_standing, first_refusal, refusal_for, refusal_or}
use Rattle.texts.specs.TextState.{TextState}

-- an operation of the site
abbrev pub IsBy : ℕ → Operation → Type 0
IsBy site op = op.site ≡ site

-- the operations stand after those that were taken in
pub after_operations : (t : TextState) (ops : List Operation) → (after t ops).operations ≡ t.operations ++ ops
after_operations t [] = sym (append-nil t.operations)
after_operations t (op ∷ ops) =
    after_operations (with_operation t op) ops ∙ append_assoc t.operations (op ∷ []) ops

-- the same wait as before
pub after_room : (t : TextState) (ops : List Operation) → (after t ops).waiting_room ≡ t.waiting_room
after_room t [] = refl
after_room t (op ∷ ops) = after_room (with_operation t op) ops

-- one operation or none, where a test tells
own_or_none : (b : Bool) (site : ℕ) (op : Operation) → IsBy site op → All (IsBy site) (cond b (op ∷ []) [])
own_or_none true site op on = All-cons (IsBy site) op [] on (All-nil (IsBy site))
own_or_none false site op on = All-nil (IsBy site)

none_or_own : (b : Bool) (site : ℕ) (op : Operation) → IsBy site op → All (IsBy site) (cond b [] (op ∷ []))
none_or_own true site op on = All-nil (IsBy site)
none_or_own false site op on = All-cons (IsBy site) op [] on (All-nil (IsBy site))

-- Inserts of pieces are the site's
own_inserts : (t : TextState) (pos : ℕ) (pieces : List Stretch) → All (IsBy t.site) (inserts t pos pieces)
own_inserts t pos [] = All-nil (IsBy t.site)
own_inserts t pos (p ∷ pieces) =
    let op : Operation = own_insert t pos p.looks p.bytes in
    All-cons (IsBy t.site) op (inserts (with_operation t op) (pos + length p.bytes) pieces) refl
    (own_inserts (with_operation t op) (pos + length p.bytes) pieces)

-- they are the site's own
pub own_plan : (t : TextState) (e : Edit) → All (IsBy t.site) (plan t e)
own_plan t (insertion pos items) = own_inserts t pos (pieces_of items)
own_plan t (deletion beg end) = own_or_none (nat_lt beg end) t.site (own_op t _) refl
own_plan t (looks_change beg end sel looks) = own_or_none (nat_lt beg end) t.site (own_op t _) refl
own_plan t restoration = none_or_own (is_restored t) t.site (own_op t (restore t.last_set)) refl
own_plan t (recalling pos) = own_inserts t pos (pieces_of t.last_stretch)

-- no more stand, where no more stand after the first
count_by : (first : Option Refusal) (later : Option (ℕ × Refusal)) (n : ℕ)
    → option_map_or (λ stop. stop.0) later n ≤ n
    → option_map_or (λ stop. stop.0) (refusal_or first later) (suc n) ≤ suc n
count_by (Some why) later n most = omega arith
count_by None None n most = omega arith
count_by None (Some stop) n most = omega arith

-- no more stand than there are
pub standing_within : (t : TextState) (ops : List Operation) → count_standing t ops ≤ length ops
standing_within t [] = omega arith
standing_within t (op ∷ ops) =
    count_by (refusal_for t op.kind) (first_refusal (with_operation t op) ops) (length ops)
    (standing_within (with_operation t op) ops)

-- where one stands, the first isn't refused
unrefused : (first : Option Refusal) (later : Option (ℕ × Refusal)) (n : ℕ)
    → 0 < option_map_or (λ stop. stop.0) (refusal_or first later) n → first ≡ None
unrefused (Some why) later n some = absurd (omega arith)
unrefused None later n some = refl

-- and not for being after
pub not_behind_by : (b : Bool) (rest : Option Refusal) → cond b (Some Behind) rest ≡ None → b ≡ false
not_behind_by true rest e = cc
not_behind_by false rest e = refl

-- where one stands, no waiting operation holds the site back
pub not_after : (t : TextState) (ops : List Operation) → 0 < length ops → 0 < count_standing t ops
    → is_behind t.operations t.waiting_room t.site ≡ false
not_after t [] some stands = absurd (omega arith)
not_after t (op ∷ ops) some stands =
    not_behind_by (is_behind t.operations t.waiting_room t.site) _
    (unrefused (refusal_for t op.kind) (first_refusal (with_operation t op) ops) (suc (length ops)) stands)
