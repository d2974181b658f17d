-- Where the characters of a good set stand in their sites' files, and what they hang on there.
use Rattle.std.proofs.Common.{◌≡◌, ℕ, zero, suc, ◌+◌, ◌-◌, ◌<◌, ◌≤◌, ◌⊎◌, inl, inr, List, [], ◌∷◌, length}
use Rattle.std.proofs.Common.{cond, eqb, ◌&&◌, refl, sym, ap, subst, ◌∙◌, eq-eqb, arith}
use Rattle.std.specs.Prelude.{Contains}
use Rattle.std.proofs.lemmas.Bool.{cond_both, and_parts, and_from, both_ways, eqb-true, eqb-false, cases_lt}
use Rattle.std.proofs.lemmas.Bool.{cases_Bool, cond-true, cond-false}
use Rattle.looks.specs.declared.looks.Looks.{Looks}
use Rattle.char_files.specs.CharName.{CharName}
use Rattle.char_files.specs.declared.name.Anchor.{Anchor}
use Rattle.char_files.specs.declared.name.Anchor.TheVariants.{Root, At}
use Rattle.operations.specs.Operation.{Operation, OpKind, insert, delete, restore, change_looks, appended_len}
use Rattle.operations.specs.Operation.{Begins}
use Rattle.operations.specs.Operation.{InsertsBy, MentionsBy, Mentions}
use Rattle.tree_order.specs.Good.{Good, appended_len_at, file_before}
use Rattle.tree_order.specs.Tree.{IsInsertOf, parent_by}

-- what an operation appends is what its site appends under its seq
pub appended_by : (ops : List Operation) (op : Operation) → ((other : Operation) → Contains ops other
    → other.site ≡ op.site → other.seq ≡ op.seq → other ≡ op) → Contains ops op
    → appended_len_at ops op.site op.seq ≡ appended_len op.kind
appended_by [] op only (k, lt, is) = absurd (omega arith)
appended_by (o ∷ ops) op only (zero, lt, is) =
    cond_both (eqb o.site op.site && eqb o.seq op.seq) _ _ (λ n. n ≡ appended_len op.kind)
    (λ e. ap (λ (x : Operation). appended_len x.kind) is)
    (λ e. absurd (both_ways _ e (and_from _ _ (eq-eqb _ _ (ap (λ (x : Operation). x.site) is))
    (eq-eqb _ _ (ap (λ (x : Operation). x.seq) is)))))
appended_by (o ∷ ops) op only (suc k, lt, is) =
    cond_both (eqb o.site op.site && eqb o.seq op.seq) _ _ (λ n. n ≡ appended_len op.kind)
    (λ e.
    let same = and_parts (eqb o.site op.site) (eqb o.seq op.seq) e in
    ap (λ (x : Operation). appended_len x.kind) (only o (0, omega arith, refl) (eqb-true _ _ same.0)
    (eqb-true _ _ same.1)))
    (λ e. appended_by ops op (λ other held. only other (suc held.0, omega (arith, held.1), held.2))
    (k, omega arith, is))

-- a site's file only grows
pub file_before_grows : (ops : List Operation) (site m n : ℕ) → m ≤ n
    → file_before ops site m ≤ file_before ops site n
file_before_grows ops site zero zero le = omega arith
file_before_grows ops site (suc m) zero le = absurd (omega arith)
file_before_grows ops site m (suc n) le =
    elim (cases_lt n m) [
      | inl lt ↦ let same : m ≡ suc n = omega arith in omega (arith, ap (file_before ops site) same)
      | inr ge ↦ let grows : file_before ops site m ≤ file_before ops site n =
          file_before_grows ops site m n ge in omega arith
    ]

-- an Insert's parts, of a character that it inserts
record Parts (i : Operation) (c : CharName) : Type 0 where
  cause : Anchor
  at : ℕ
  looks : Looks
  bytes : List ℕ
  is : i.kind ≡ insert cause at looks bytes
  own : c.site ≡ i.site
  from : at ≤ c.off
  below : c.off < at + length bytes

parts_by : (i : Operation) (c : CharName) (kind : OpKind) → i.kind ≡ kind → InsertsBy i.site kind c
    → Parts i c
parts_by i c (insert cause at looks bytes) is h = record {
  cause = cause;
  at = at;
  looks = looks;
  bytes =
      bytes;
  is = is;
  own = h.0;
  from = h.1;
  below = h.2;
}
parts_by i c (delete names) is h = absurd h
parts_by i c (restore names) is h = absurd h
parts_by i c (change_looks sel looks names) is h = absurd h

-- the character stands in the stretch of the site's file that the operation appends
pub record IsInStretch (ops : List Operation) (c : CharName) (i : Operation) : Type 0 where
  pub own : c.site ≡ i.site
  pub from : file_before ops i.site i.seq ≤ c.off
  pub below : c.off < file_before ops i.site (suc i.seq)

-- an Insert begins where its site's file ended
starts : (ops : List Operation) → Good ops → (c : CharName) (i : Operation) → Contains ops i
    → (p : Parts i c) → p.at ≡ file_before ops i.site i.seq
starts ops good c i held p =
    subst (λ (kind : OpKind). Begins kind (file_before ops i.site i.seq)) p.is (good.begins i held)

-- each character stands in the stretch of its Insert
pub in_stretch : (ops : List Operation) → Good ops → (c : CharName) (i : Operation) → IsInsertOf ops c i
    → IsInStretch ops c i
in_stretch ops good c i is =
    let p : Parts i c = parts_by i c i.kind refl is.inserts in
    let start = starts ops good c i is.held p in
    let len = appended_by ops i (λ other held e f. good.identities other i held is.held e f) is.held
    ∙ ap appended_len p.is in
    record { own = p.own; from = omega (arith, start, p.from); below = omega (arith, start, p.below, len) }

-- the name before, in the file
abbrev pub before : CharName → CharName
before c = record { site = c.site; off = c.off - 1 }

-- c is the Insert's first character, and hangs on its cause
pub record IsFirst (ops : List Operation) (c : CharName) (i : Operation) (a : Anchor) : Type 0 where
  pub start : c.off ≡ file_before ops i.site i.seq
  pub cause : (a ≡ Root) ⊎ ((name : CharName) × (a ≡ At name) × Mentions i name)

-- c is another of the Insert's characters, and hangs on the one before
pub record IsNext (ops : List Operation) (c : CharName) (i : Operation) (a : Anchor) : Type 0 where
  pub past : file_before ops i.site i.seq < c.off
  pub is : a ≡ At (before c)
  pub former : IsInsertOf ops (before c) i

-- a cause is the root, or mentioned
root_or_mentioned : (cause : Anchor) (at : ℕ) (looks : Looks) (bytes : List ℕ)
    → (cause ≡ Root) ⊎ ((name : CharName) × (cause ≡ At name) × MentionsBy (insert cause at looks bytes)
    name)
root_or_mentioned Root at looks bytes = inl refl
root_or_mentioned (At name) at looks bytes = inr (name, refl, refl)

-- what a character hangs on is told by whether it is its Insert's first
pub hangs : (ops : List Operation) → Good ops → (c : CharName) (i : Operation) → IsInsertOf ops c i
    → (a : Anchor) → a ≡ parent_by i.kind c → IsFirst ops c i a ⊎ IsNext ops c i a
hangs ops good c i is a e =
    let p : Parts i c = parts_by i c i.kind refl is.inserts in
    let start = starts ops good c i is.held p in
    let hung : a ≡ cond (eqb c.off p.at) p.cause (At (before c)) =
    e ∙ ap (λ (kind : OpKind). parent_by kind c) p.is in
    elim (cases_Bool (eqb c.off p.at)) [
      | inl same ↦
          let at_cause : a ≡ p.cause = hung ∙ cond-true _ _ _ same in
          let off : c.off ≡ p.at = eqb-true _ _ same in
          inl (record {
            start = off ∙ start;
            cause = elim (root_or_mentioned p.cause p.at p.looks p.bytes) [
              | inl root ↦ inl (at_cause ∙ root)
              | inr name_at ↦ inr (
                name_at.0,
                at_cause
                    ∙ name_at.1,
                subst (λ (kind : OpKind). MentionsBy kind name_at.0) (sym p.is) name_at.2,
              )
            ];
          })
      | inr apart ↦
          let past : p.at < c.off = let from = p.from in let differ = eqb-false _ _ apart in omega arith in
          inr (record {
            past = omega arith;
            is = hung ∙ cond-false _ _ _ apart;
            former = record {
              held = is.held;
              inserts =
                  subst (λ (kind : OpKind). InsertsBy i.site kind (before c)) (sym p.is)
                  (p.own, omega arith, omega arith);
            };
          })
    ]
