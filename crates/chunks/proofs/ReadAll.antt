-- The operations of a chunk, read one after the other.
use Rattle.std.proofs.Common.{◌≡◌, ℕ, ◌<◌, List, [], ◌∷◌, ◌++◌, length, refl, sym, ap, subst, ◌∙◌, append_assoc, arith}
use Rattle.std.proofs.Common.{length-append}
use Rattle.std.proofs.lemmas.List.{append-nil, map-append}
use Rattle.operations.specs.Operation.{Operation}
use Rattle.packed.specs.Told.{Told, nothing_begun}
use Rattle.chunks.specs.Chunks.{Placed, operations_of, added, told_by, added_after, CanCome, CanAllCome}
use Rattle.chunks.specs.Parts.{IsOpen, ReadsFirst, NoneIsFirst, HasAll}
use Rattle.chunks.proofs.OneChunk.{added_once, some_added, no_more}
use Rattle.chunks.proofs.Opening.{nothing_is_open, open_after}

-- what a chunk tells after these operations
abbrev pub told_all : Told → List Placed → Told
told_all t [] = t
told_all t (p ∷ ps) = told_all (told_by t p) ps

pub come_more : (t : Told) (text : ℕ) (done : List Placed) (p : Placed) → CanAllCome t text done
    → CanCome (told_all t done) text p → CanAllCome t text (done ++ p ∷ [])
come_more t text [] p come can = (can, tt)
come_more t text (q ∷ done) p come can = (come.0, come_more (told_by t q) text done p come.1 can)

pub added_more : (t : Told) (done : List Placed) (p : Placed)
    → added_after t (done ++ p ∷ []) ≡ added_after t done ++ added (told_all t done) p
added_more t [] p = append-nil (added t p)
added_more t (q ∷ done) p =
    ap (λ (l : List ℕ). added t q ++ l) (added_more (told_by t q) done p)
    ∙ sym (append_assoc (added t q) (added_after (told_by t q) done) (added (told_all (told_by t q) done) p))

pub told_more : (t : Told) (done : List Placed) (p : Placed) → told_all t (done ++ p ∷ []) ≡ told_by (told_all t done) p
told_more t [] p = refl
told_more t (q ∷ done) p = told_more (told_by t q) done p

-- what is left of operations that these bytes are, of which some were read
abbrev pub Left : (text : ℕ) (bytes : List ℕ) (t : Told) (done : List Placed) (rest : List ℕ) (ps : List Placed) → Type 0
Left text bytes t done rest ps =
    (todo : List Placed) × (ps ≡ done ++ todo) × CanAllCome t text todo × (rest ≡ added_after t todo)

-- these operations were read
pub record SoFar (text : ℕ) (bytes : List ℕ) (t : Told) (ops : List Operation) (rest : List ℕ) : Type 0 where
  pub done : List Placed
  pub are : operations_of done ≡ ops
  pub is_open : IsOpen t
  pub come : CanAllCome nothing_begun text done
  pub tells : t ≡ told_all nothing_begun done
  pub parts : bytes ≡ added_after nothing_begun done ++ rest
  pub left : (ps : List Placed) → CanAllCome nothing_begun text ps → bytes ≡ added_after nothing_begun ps
      → Left text bytes t done rest ps

pub none_yet : (text : ℕ) (bytes : List ℕ) → SoFar text bytes nothing_begun [] bytes
none_yet text bytes = record {
  done = [];
  are = refl;
  is_open = nothing_is_open;
  come = tt;
  tells = refl;
  parts = refl;
  left = λ ps come e. (ps, refl, come, e);
}

pub one_more : (text : ℕ) (bytes : List ℕ) (t new : Told) (ops : List Operation) (rest after : List ℕ) (op : Operation)
    → SoFar text bytes t ops rest → ReadsFirst t new text rest op after → SoFar text bytes new (ops ++ op ∷ []) after
one_more text bytes t new ops rest after op s r =
    let p = r.placed in
    record {
      done = s.done ++ p ∷ [];
      are = map-append (λ (q : Placed). q.op) s.done (p ∷ [])
          ∙ ap (λ (l : List Operation). l ++ p.op ∷ []) s.are ∙ ap (λ (o : Operation). ops ++ o ∷ []) r.is;
      is_open = subst IsOpen (sym r.tells) (open_after t text p s.is_open r.first.can);
      come = come_more nothing_begun text s.done p s.come
          (subst (λ (u : Told). CanCome u text p) s.tells r.first.can);
      tells = r.tells ∙ ap (λ (u : Told). told_by u p) s.tells ∙ sym (told_more nothing_begun s.done p);
      parts = s.parts ∙ ap (λ (l : List ℕ). added_after nothing_begun s.done ++ l)
          (r.first.parts ∙ ap (λ (u : Told). added u p ++ after) s.tells)
          ∙ sym (append_assoc (added_after nothing_begun s.done) (added (told_all nothing_begun s.done) p) after)
          ∙ ap (λ (l : List ℕ). l ++ after) (sym (added_more nothing_begun s.done p));
      left = λ ps come e. go ps (s.left ps come e);
    }
  where
    go : (ps : List Placed) → Left text bytes t s.done rest ps → Left text bytes new (s.done ++ r.placed ∷ []) after ps
    go ps ([], is, come, e) =
        absurd (omega (
          arith,
          ap length (sym r.first.parts ∙ e),
          length-append (added t r.placed) after,
          some_added t r.placed,
        ))
    go ps (q ∷ todo, is, come, e) =
        let same = added_once t text r.placed q after (added_after (told_by t q) todo) s.is_open r.first.can come.0
        (sym r.first.parts ∙ e) in
        let told : told_by t q ≡ new = ap (told_by t) (sym same.0) ∙ sym r.tells in (
          todo,
          is ∙ ap (λ (x : Placed). s.done ++ x ∷ todo) (sym same.0) ∙ sym (append_assoc s.done (r.placed ∷ []) todo),
          subst (λ (u : Told). CanAllCome u text todo) told come.1,
          same.1 ∙ ap (λ (u : Told). added_after u todo) told,
        )

-- all were read
pub all_read : (text : ℕ) (bytes : List ℕ) (t : Told) (ops : List Operation) → SoFar text bytes t ops []
    → HasAll text ops bytes
all_read text bytes t ops s =
    (s.done, s.are, s.come, s.parts ∙ append-nil (added_after nothing_begun s.done))

pub all_these : (text : ℕ) (bytes : List ℕ) (t : Told) (ops : List Operation) → SoFar text bytes t ops []
    → (ps : List Placed) → CanAllCome nothing_begun text ps → bytes ≡ added_after nothing_begun ps
    → ops ≡ operations_of ps
all_these text bytes t ops s ps come e = go (s.left ps come e)
  where
    go : Left text bytes t s.done [] ps → ops ≡ operations_of ps
    go ([], is, come, e) = sym s.are ∙ ap operations_of (sym (is ∙ append-nil s.done))
    go (q ∷ todo, is, come, e) = absurd (no_more t q todo (sym e))

-- where bytes are left and none comes next, they are none that can come one after the other
pub none_left : (text : ℕ) (bytes : List ℕ) (t : Told) (ops : List Operation) (rest : List ℕ) → SoFar text bytes t ops rest
    → 0 < length rest → NoneIsFirst t text rest → (ps : List Placed) → CanAllCome nothing_begun text ps
    → bytes ≡ added_after nothing_begun ps → ⊥
none_left text bytes t ops rest s some none ps come e = go (s.left ps come e)
  where
    go : Left text bytes t s.done rest ps → ⊥
    go ([], is, come, e) = omega (arith, ap length e, some)
    go (q ∷ todo, is, come, e) = none q (added_after (told_by t q) todo) (record { can = come.0; parts = e })

-- an operation takes a byte at least
pub shorter : (t new : Told) (text : ℕ) (rest after : List ℕ) (op : Operation) → ReadsFirst t new text rest op after
    → length after < length rest
shorter t new text rest after op r =
    omega (arith, ap length r.first.parts, length-append (added t r.placed) after, some_added t r.placed)
