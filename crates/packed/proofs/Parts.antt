-- Bytes that are appended part by part.
use Rattle.std.proofs.Common.{◌≡◌, ℕ, List, [], ◌++◌, length, take, Result, Err, refl, sym, ap, ◌∙◌, append_assoc}
use Rattle.std.proofs.lemmas.List.{append-nil}
use Rattle.byte_fields.specs.Fields.{Appends}
use Rattle.byte_fields.proofs.Appended.{Appends-after, Appends-refused, append_both}

-- of all that is to be appended a front was, and this is left
pub record IsPut (old new all left : List ℕ) : Type 0 where
  pub front : List ℕ
  pub new_is : new ≡ old ++ front
  pub all_is : all ≡ front ++ left

pub none_put : (old all : List ℕ) → IsPut old old all all
none_put old all = record { front = []; new_is = sym (append-nil old); all_is = refl }

-- a part more was appended
pub put_more : (old mid new all part left : List ℕ) → IsPut old mid all (part ++ left) → new ≡ mid ++ part
    → IsPut old new all left
put_more old mid new all part left put is = record {
  front = put.front ++ part;
  new_is = append_both old mid new put.front part put.new_is is;
  all_is = put.all_is ∙ sym (append_assoc put.front part left);
}

-- what was left was appended
pub put_rest : (old mid new all left : List ℕ) → IsPut old mid all left → new ≡ mid ++ left → new ≡ old ++ all
put_rest old mid new all left put is =
    append_both old mid new put.front left put.new_is is ∙ ap (λ (l : List ℕ). old ++ l) (sym put.all_is)

-- what was left was appended, or memory was refused
pub put_last : {E : Type 0} (result : Result (Unit {0}) E) (old mid new all left : List ℕ) → IsPut old mid all left
    → Appends result mid new left → Appends result old new all
put_last result old mid new all left put is =
    rw put.all_is (Appends-after result old mid new put.front left put.new_is is)

-- memory was refused
pub put_refused : {E : Type 0} (result : Result (Unit {0}) E) (old mid new all left : List ℕ) → IsPut old mid all left
    → (e : E) → result ≡ Err e → take (length mid) new ≡ mid → Appends result old new all
put_refused result old mid new all left put e is kept =
    Appends-refused result old mid new put.front all put.new_is e is kept
