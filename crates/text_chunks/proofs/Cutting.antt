-- Operations are cut into chunks, one after the other.
use Rattle.std.proofs.Common.{◌≡◌, ℕ, true, false, cond, List, [], ◌∷◌, ◌++◌, Option, Some, None, ap, sym, subst, refl, ◌∙◌}
use Rattle.std.proofs.Common.{append_assoc, append-nil}
use Rattle.std.specs.Prelude.{OnOk, Result, Ok, Err}
use Rattle.std.proofs.lemmas.Bool.{cond-true, cond-false}
use Rattle.looks.specs.declared.refusal.Refusal.{Refusal}
use Rattle.packed.specs.Told.{nothing_begun}
use Rattle.chunks.specs.Chunks.{Placed, CanCome, CanAllCome, Written, chunks_on, fits, nothing_written, told_by, written_on}
use Rattle.chunks.proofs.Agreeing.{nothing_is_weaker, weaken}
use Rattle.chunks.proofs.Divided.{one_fits}
use Rattle.text_chunks.specs.Parts.{Cut, IsCutOn, added_to, chunk_closed, chunk_has_room, chunks_from, cut_on, told_in, written_chunks}

-- the chunk that is being written is the last where nothing more comes
last_one : (text : ℕ) (current : Option Written) → written_chunks current ≡ chunks_from text current []
last_one text None = refl
last_one text (Some w) = refl

pub cut_nothing : (c : Cut) → (chunk_closed c).full ≡ cut_on c []
cut_nothing c = ap (λ (l : List (List ℕ)). c.full ++ l) (last_one c.text c.current)

-- ---- an operation for which there is room

room_chunks : (text : ℕ) (current : Option Written) (p : Placed) (ps : List Placed) → chunk_has_room current p ≡ true
    → chunks_from text (added_to current p) ps ≡ chunks_from text current (p ∷ ps)
room_chunks text None p ps room = absurd cc
room_chunks text (Some w) p ps room =
    ap (λ (v : Written). chunks_on text v ps) (cond-true (fits w p) (written_on w p) w room)
    ∙ sym (cond-true (fits w p) (chunks_on text (written_on w p) ps)
    (w.bytes ∷ chunks_on text (written_on (nothing_written text) p) ps) room)

room_come : (text : ℕ) (current : Option Written) (p : Placed) (ps : List Placed) → chunk_has_room current p ≡ true
    → CanAllCome (told_in current) text (p ∷ ps) → CanAllCome (told_in (added_to current p)) text ps
room_come text None p ps room come = absurd cc
room_come text (Some w) p ps room come =
    subst (λ (v : Written). CanAllCome v.told text ps) (sym (cond-true (fits w p) (written_on w p) w room)) come.1

pub room_cut : (c : Cut) (p : Placed) → chunk_has_room c.current p ≡ true
    → IsCutOn c p (record c { current = added_to c.current p })
room_cut c p room = record {
  text = refl;
  cut = λ ps. ap (λ (l : List (List ℕ)). c.full ++ l) (room_chunks c.text c.current p ps room);
  come = λ ps come. room_come c.text c.current p ps room come;
}

-- ---- one for which there is none begins another chunk

-- where it always has room
pub first_added : (text : ℕ) (p : Placed) (first new : Written) → CanCome nothing_begun text p → first ≡ nothing_written text
    → new ≡ cond (fits first p) (written_on first p) first → new ≡ written_on (nothing_written text) p
first_added text p first new can begun added =
    added ∙ ap (λ (w : Written). cond (fits w p) (written_on w p) w) begun
    ∙ cond-true (fits (nothing_written text) p) (written_on (nothing_written text) p) (nothing_written text) (one_fits text p can)

pub over_can : (text : ℕ) (current : Option Written) (p : Placed) → CanCome (told_in current) text p
    → CanCome nothing_begun text p
over_can text None p can = can
over_can text (Some w) p can = (weaken (p ∷ []) nothing_begun w.told text (nothing_is_weaker w.told) (can, tt)).0

over_chunks : (text : ℕ) (full : List (List ℕ)) (current : Option Written) (p : Placed) (ps : List Placed)
    → chunk_has_room current p ≡ false
    → (full ++ written_chunks (added_to current p)) ++ chunks_on text (written_on (nothing_written text) p) ps
    ≡ full ++ chunks_from text current (p ∷ ps)
over_chunks text full None p ps none =
    ap (λ (l : List (List ℕ)). l ++ chunks_on text (written_on (nothing_written text) p) ps) (append-nil full)
over_chunks text full (Some w) p ps none =
    let over : List (List ℕ) = chunks_on text (written_on (nothing_written text) p) ps in
    ap (λ (v : Written). (full ++ v.bytes ∷ []) ++ over) (cond-false (fits w p) (written_on w p) w none)
    ∙ append_assoc full (w.bytes ∷ []) over
    ∙ ap (λ (l : List (List ℕ)). full ++ l)
    (sym (cond-false (fits w p) (chunks_on text (written_on w p) ps) (w.bytes ∷ over) none))

over_come : (text : ℕ) (current : Option Written) (p : Placed) (ps : List Placed)
    → CanAllCome (told_in current) text (p ∷ ps) → CanAllCome (told_by nothing_begun p) text ps
over_come text None p ps come = come.1
over_come text (Some w) p ps come =
    (weaken (p ∷ ps) nothing_begun w.told text (nothing_is_weaker w.told) come).1

-- a chunk with this operation alone, after the one that was being written
abbrev pub begun_over : Cut → Placed → Cut
begun_over c p =
    record (chunk_closed (record c { current = added_to c.current p }))
    { current = Some (written_on (nothing_written c.text) p) }

pub over_cut : (c : Cut) (p : Placed) → chunk_has_room c.current p ≡ false → IsCutOn c p (begun_over c p)
over_cut c p none = record {
  text = refl;
  cut = λ ps. over_chunks c.text c.full c.current p ps none;
  come = λ ps come. over_come c.text c.current p ps come;
}

pub begun_after : (c here over new : Cut) (p : Placed) (r : Result (Unit {0}) Refusal) → chunk_has_room c.current p ≡ false
    → here ≡ record c { current = added_to c.current p } → over ≡ chunk_closed here
    → OnOk r (new ≡ record over { current = Some (written_on (nothing_written over.text) p) })
    → OnOk r (IsCutOn c p new)
begun_after c here over new p (Ok done) none added full begun =
    let is : new ≡ begun_over c p =
    begun ∙ ap (λ (x : Cut). record x { current = Some (written_on (nothing_written x.text) p) }) (full ∙ ap chunk_closed added) in
    subst (IsCutOn c p) (sym is) (over_cut c p none)
begun_after c here over new p (Err why) none added full begun = tt
